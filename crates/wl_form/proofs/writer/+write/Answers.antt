use Rattle.std.proofs.Common.{rules, ◌≡◌, ◌≢◌, [], ◌∷◌, ◌<◌, length, arith, sym, refl, false}
use Rattle.std.specs.Prelude.{Some, None}
use Rattle.wl_expr.specs.Stamped.{plain, plains, from_list}
use Rattle.wl_expr.specs.Tree as tree
use Rattle.wl_form.specs.Heads.{row_of}
use Rattle.wl_form.specs.Table.{added, showings, turn_of, dropped, opposed, stays}
use Rattle.wl_form.specs.declared.operator.Row.TheVariants as row
use Rattle.wl_form.specs.Words.{word_of}
use Rattle.wl_form.specs.Writing.{LastNull, last_is_null, node_showing, node_shown, pair_operator}
use Rattle.wl_form.proofs.Pages.{pushed_text, closed_bare}
use Rattle.wl_form.proofs.Levels.{chain_written, sum_written, list_written, call_written, part_written, pair_written, before_written, after_written, ended_written, at_node}
use Rattle.wl_form.proofs.Nodes.{node_pair, node_call, node_many, single, two_elements, pair_has_two, no_pair_not, no_pair_ends, Unshaped, unshaped, unshaped_many, many_length, statements_null, statements_chain}
use Rattle.wl_form.proofs.Products.{chain_stays, chain_opposed, chain_dropped, added_written, stays_written, dropped_written, negated_written, opposed_written}
use Rattle.wl_form.proofs.writer.+write.Goals as goal

pub write_chain-returns : goal.write_chain-returns
write_chain-returns t c = chain_written c.args.operator c.infix_level-own.result (plain c.args.first.now) c.args.rest.now c.args.level _ _ _ _ _ c.infix_level-own.ensures.value c.requires c.in_ok-open.ensures c.in_ok-write.ensures c.in_ok-write_further.ensures c.in_ok-close.ensures

pub write_sum-returns : goal.write_sum-returns
write_sum-returns t c = sum_written (plain c.args.first.now) c.args.rest.now c.args.level _ _ _ _ _ c.requires c.in_ok-open.ensures c.in_ok-write.ensures c.in_ok-write_terms.ensures c.in_ok-close.ensures

pub write_list-returns : goal.write_list-returns
write_list-returns t c = list_written (showings (plains (from_list c.args.args.now))) c.args.level _ _ _ _ _ _ c.requires c.in_ok-open.ensures c.in_ok-push_str.ensures c.in_ok-write_elements.ensures c.in_ok-push_str-2.ensures (closed_bare _ _ _ c.in_ok-close.ensures refl)

pub write_call-returns : goal.write_call-returns
write_call-returns t c = call_written (plain c.args.head.now) (showings (plains (from_list c.args.args.now))) c.args.level _ _ _ _ _ _ _ c.in_ok-open.ensures c.in_ok-write.ensures c.in_ok-push_str.ensures c.in_ok-write_elements.ensures c.in_ok-push_str-2.ensures c.in_ok-close.ensures

pub write_part-returns : goal.write_part-returns
write_part-returns t c = part_written (plain c.args.first.now) c.args.rest.now c.args.level _ _ _ _ _ _ _ c.requires c.in_ok-open.ensures c.in_ok-write.ensures c.in_ok-push_str.ensures c.in_ok-write_elements.ensures c.in_ok-push_str-2.ensures c.in_ok-close.ensures

pub write_pair-returns : goal.write_pair-returns
write_pair-returns t c = pair_written c.args.operator c.infix_level-own.result _ (plain c.args.left.now) (plain c.args.right.now) c.args.level _ _ _ _ _ _ c.infix_level-own.ensures.value c.right_level.ensures.value c.in_ok-open.ensures c.in_ok-write.ensures (pushed_text _ _ _ _ c.in_ok-push_str.ensures c.infix_text.ensures) c.in_ok-write-2.ensures c.in_ok-close.ensures

pub write_before-returns : goal.write_before-returns
write_before-returns t c = before_written c.args.operator c.prefix_level-own.result (plain c.args.e.now) c.args.level _ _ _ _ _ c.prefix_level-own.ensures.value c.in_ok-open.ensures (pushed_text _ _ _ _ c.in_ok-push_str.ensures c.prefix_text.ensures) c.in_ok-write.ensures c.in_ok-close.ensures

pub write_after-returns : goal.write_after-returns
write_after-returns t c = after_written c.args.operator c.postfix_level-own.result (plain c.args.e.now) c.args.level _ _ _ _ _ c.postfix_level-own.ensures.value c.in_ok-open.ensures c.in_ok-write.ensures (pushed_text _ _ _ _ c.in_ok-push_str.ensures c.postfix_text.ensures) c.in_ok-close.ensures

pub write_many-returns-in_ok-write_sum-in-Sum : goal.write_many-returns-in_ok-write_sum-in-Sum
write_many-returns-in_ok-write_sum-in-Sum t c = at_node c.args.level _ _ _ _ c.in_ok-write_sum-in-Sum.ensures (node_many (plain c.args.head.now) c.args.args.now c.args.row row.Sum c.args.first.now c.args.rest.now c.requires c.in-Sum.is tt)

pub write_many-returns-in_ok-write_product-in-Product : goal.write_many-returns-in_ok-write_product-in-Product
write_many-returns-in_ok-write_product-in-Product t c = at_node c.args.level _ _ _ _ c.in_ok-write_product-in-Product.ensures (node_many (plain c.args.head.now) c.args.args.now c.args.row row.Product c.args.first.now c.args.rest.now c.requires c.in-Product.is tt)

pub write_many-returns-in_ok-write_statements-in-Statements : goal.write_many-returns-in_ok-write_statements-in-Statements
write_many-returns-in_ok-write_statements-in-Statements t c = at_node c.args.level _ _ _ _ c.in_ok-write_statements-in-Statements.ensures (node_many (plain c.args.head.now) c.args.args.now c.args.row row.Statements c.args.first.now c.args.rest.now c.requires c.in-Statements.is tt)

pub write_many-returns-in_ok-write_part-in-Part : goal.write_many-returns-in_ok-write_part-in-Part
write_many-returns-in_ok-write_part-in-Part t c = at_node c.args.level _ _ _ _ c.in_ok-write_part-in-Part.ensures (node_many (plain c.args.head.now) c.args.args.now c.args.row row.Part c.args.first.now c.args.rest.now c.requires c.in-Part.is tt)

pub write_many-returns-in_ok-write_chain-in-Chain : goal.write_many-returns-in_ok-write_chain-in-Chain
write_many-returns-in_ok-write_chain-in-Chain t c = at_node c.args.level _ _ _ _ c.in_ok-write_chain-in-Chain.ensures (node_many (plain c.args.head.now) c.args.args.now c.args.row (row.Chain c.in-Chain.operator) c.args.first.now c.args.rest.now c.requires c.in-Chain.is tt)

pub write_many-returns-in_ok-write_call-in_default : goal.write_many-returns-in_ok-write_call-in_default
write_many-returns-in_ok-write_call-in_default t c =
    let u : Unshaped c.args.row (length c.args.args.now) = unshaped_many c.args.row (length c.args.args.now) (many_length (plain c.args.head.now) c.args.args.now c.args.row c.args.first.now c.args.rest.now c.requires) c.requires.no_list c.in_default.not-Sum c.in_default.not-Product c.in_default.not-Chain c.in_default.not-Statements c.in_default.not-Part in
    at_node c.args.level _ _ _ _ c.in_ok-write_call-in_default.ensures (node_call (plain c.args.head.now) c.args.args.now c.args.row c.requires.row_is c.requires.no_word c.requires.no_pair u)

pub write_node-returns-in-Some-pair_operator : goal.write_node-returns-in-Some-pair_operator
write_node-returns-in-Some-pair_operator t c =
    let r = c.row_of-row.result in
    let w : word_of r (plains (from_list c.args.args.now)) ≡ None = search rules in
    let p : pair_operator r (plains (from_list c.args.args.now)) ≡ Some c.in-Some-pair_operator.operator = search rules in
    let l : length c.args.args.now ≡ 2 = pair_has_two r c.args.args.now c.in-Some-pair_operator.operator p in
    let e : c.args.args.now ≡ c.index-args-0.result ∷ c.index-args-1.result ∷ [] = two_elements c.args.args.now c.index-args-0.result c.index-args-1.result l c.index-args-0.is c.index-args-1.is in
    at_node c.args.level _ _ _ _ c.in_ok-write_pair.ensures (node_pair (plain c.args.head.now) c.args.args.now r c.in-Some-pair_operator.operator c.index-args-0.result c.index-args-1.result (sym c.row_of-row.ensures) w p e)

pub write_node-returns-then-args-ne1 : goal.write_node-returns-then-args-ne1
write_node-returns-then-args-ne1 t c =
    let r : row_of (plain c.args.head.now) ≡ row.Not = search rules in
    let l : length c.args.args.now ≢ 1 = search rules in
    at_node c.args.level _ _ _ _ c.in_ok-write_call-in-Not.ensures (node_call (plain c.args.head.now) c.args.args.now row.Not r refl (sym (no_pair_not c.args.args.now)) l)

pub write_node-returns-then-args-ne1-2 : goal.write_node-returns-then-args-ne1-2
write_node-returns-then-args-ne1-2 t c =
    let r : row_of (plain c.args.head.now) ≡ row.Ends c.in-Ends.operator = search rules in
    let l : length c.args.args.now ≢ 1 = search rules in
    at_node c.args.level _ _ _ _ c.in_ok-write_call-in-Ends.ensures (node_call (plain c.args.head.now) c.args.args.now (row.Ends c.in-Ends.operator) r refl (sym (no_pair_ends c.in-Ends.operator c.args.args.now)) l)

pub write_node-returns-in_ok-write_call-in-None : goal.write_node-returns-in_ok-write_call-in-None
write_node-returns-in_ok-write_call-in-None t c =
    let r = c.row_of-row.result in
    let w : word_of r (plains (from_list c.args.args.now)) ≡ None = search rules in
    let p : pair_operator r (plains (from_list c.args.args.now)) ≡ None = search rules in
    let l : length c.args.args.now < 2 = search rules in
    at_node c.args.level _ _ _ _ c.in_ok-write_call-in-None.ensures (node_call (plain c.args.head.now) c.args.args.now r (sym c.row_of-row.ensures) w p (unshaped r (length c.args.args.now) l c.in_default-row.not-List c.in_default-row.not-Not c.in_default-row.not-Ends))

pub write_node_term-returns : goal.write_node_term-returns
write_node_term-returns t c =
    let e : node_showing (plain c.args.head.now) (plains (from_list c.args.args.now)) ≡ added (node_shown (plain c.args.head.now) (plains (from_list c.args.args.now))) = search rules in
    added_written (tree.node (plain c.args.head.now) (plains (from_list c.args.args.now))) (node_shown (plain c.args.head.now) (plains (from_list c.args.args.now))) c.args.out.now _ _ e refl c.in_ok-push_str.ensures c.in_ok-write_node.ensures

pub write_product-returns-in_ok-write_chain-in-Dropped : goal.write_product-returns-in_ok-write_chain-in-Dropped
write_product-returns-in_ok-write_chain-in-Dropped t c =
    let d : turn_of (tree.more (plain c.args.first.now) (plains (from_list c.args.rest.now))) ≡ dropped = search rules in
    let n : length c.args.rest.now ≢ 1 = search rules in
    at_node c.args.level _ _ _ _ c.in_ok-write_chain-in-Dropped.ensures (chain_dropped (plain c.args.first.now) c.args.rest.now c.requires n d)

pub write_product-returns-in_ok-write_chain-in-Stays : goal.write_product-returns-in_ok-write_chain-in-Stays
write_product-returns-in_ok-write_chain-in-Stays t c =
    let d : turn_of (tree.more (plain c.args.first.now) (plains (from_list c.args.rest.now))) ≡ stays = search rules in
    at_node c.args.level _ _ _ _ c.in_ok-write_chain-in-Stays.ensures (chain_stays (plain c.args.first.now) c.args.rest.now c.requires d)

pub write_product-returns-in_ok-write_chain-in-Opposed : goal.write_product-returns-in_ok-write_chain-in-Opposed
write_product-returns-in_ok-write_chain-in-Opposed t c =
    let d : turn_of (tree.more (plain c.args.first.now) (plains (from_list c.args.rest.now))) ≡ opposed = search rules in
    let e : plain c.args.first.now ≡ tree.num c.in-Opposed.field-0 = search rules in
    at_node c.args.level _ _ _ _ c.in_ok-write_chain-in-Opposed.ensures (chain_opposed (plain c.args.first.now) c.args.rest.now c.requires d _ e)

pub write_product_term-returns-in_ok-write_chain-in-Some : goal.write_product_term-returns-in_ok-write_chain-in-Some
write_product_term-returns-in_ok-write_chain-in-Some t c =
    let d : turn_of (tree.more (plain c.args.first.now) (plains (from_list c.args.rest.now))) ≡ dropped = search rules in
    let e : c.args.rest.now ≡ c.in-Some.second.now ∷ c.in-Some.others.now = search rules in
    let l : 0 < length c.in-Some.others.now = search rules in
    dropped_written (plain c.args.first.now) c.args.rest.now c.in-Some.second.now c.in-Some.others.now c.args.out.now _ _ e l d c.in_ok-push_str-in-Dropped.ensures c.in_ok-write_chain-in-Some.ensures

pub write_product_term-returns-in_ok-write-in-None : goal.write_product_term-returns-in_ok-write-in-None
write_product_term-returns-in_ok-write-in-None t c =
    let d : turn_of (tree.more (plain c.args.first.now) (plains (from_list c.args.rest.now))) ≡ dropped = search rules in
    let m : length c.args.rest.now < 2 = search rules in
    let n : 0 < length c.args.rest.now = c.requires in
    let l : length c.args.rest.now ≡ 1 = omega arith in
    let e : c.args.rest.now ≡ c.index-rest-0.result ∷ [] = single c.args.rest.now c.index-rest-0.result c.index-rest-0.result l c.index-rest-0.is in
    negated_written (plain c.args.first.now) c.args.rest.now c.index-rest-0.result c.args.out.now _ _ e d c.in_ok-push_str-in-Dropped.ensures c.in_ok-write-in-None.ensures

pub write_product_term-returns-in_ok-close-in-Opposed : goal.write_product_term-returns-in_ok-close-in-Opposed
write_product_term-returns-in_ok-close-in-Opposed t c =
    let d : turn_of (tree.more (plain c.args.first.now) (plains (from_list c.args.rest.now))) ≡ opposed = search rules in
    let e : plain c.args.first.now ≡ tree.num c.in-Opposed.n = search rules in
    opposed_written (plain c.args.first.now) c.args.rest.now c.in-Opposed.n c.args.out.now _ _ _ _ _ c.requires d e c.in_ok-push_str-in-Opposed.ensures c.in_ok-open-in-Opposed.ensures c.in_ok-write_opposite-in-Opposed.ensures c.in_ok-write_further-in-Opposed.ensures (closed_bare _ _ _ c.in_ok-close-in-Opposed.ensures refl)

pub write_product_term-returns-in_ok-write_chain-in-Stays : goal.write_product_term-returns-in_ok-write_chain-in-Stays
write_product_term-returns-in_ok-write_chain-in-Stays t c =
    let d : turn_of (tree.more (plain c.args.first.now) (plains (from_list c.args.rest.now))) ≡ stays = search rules in
    stays_written (plain c.args.first.now) c.args.rest.now c.args.out.now _ _ c.requires d c.in_ok-push_str-in-Stays.ensures c.in_ok-write_chain-in-Stays.ensures

pub write_statements-returns-in_ok-close-in-Some : goal.write_statements-returns-in_ok-close-in-Some
write_statements-returns-in_ok-close-in-Some t c =
    let n : LastNull c.args.rest.now c.in-Some.others.now = search rules in
    at_node c.args.level _ _ _ _
    (ended_written (plain c.args.first.now) c.in-Some.others.now c.args.level c.args.out.now _ _ _ _ _ c.in_ok-open-in-Some.ensures c.in_ok-write-in-Some.ensures c.in_ok-write_further-in-Some.ensures c.in_ok-push_str-in-Some.ensures c.in_ok-close-in-Some.ensures)
    (statements_null (plain c.args.first.now) c.args.rest.now c.in-Some.others.now n)

pub write_statements-returns-in_ok-write_chain-in-None : goal.write_statements-returns-in_ok-write_chain-in-None
write_statements-returns-in_ok-write_chain-in-None t c =
    let n : last_is_null c.args.rest.now ≡ false = search rules in
    at_node c.args.level _ _ _ _ c.in_ok-write_chain-in-None.ensures (statements_chain (plain c.args.first.now) c.args.rest.now c.requires n)
