use Rattle.std.proofs.Common.{◌+◌, ◌*◌, ◌≡◌, drop, max}
use Rattle.wl_expr.specs.Tree.{depth, depths}
use Rattle.wl_expr.specs.Stamped.{plain, plains, from_list}
use Rattle.wl_form.specs.Table.{showings}
use Rattle.wl_form.specs.Pages.{taken}
use Rattle.wl_form.specs.Writing.{further_pieces, terms_pieces, more_pieces}
use Rattle.wl_form.proofs.writer.+write.Given as goal

abbrev pub decreases-write : goal.decreases-write
decreases-write l = 10 * depth (plain l.e.now)

abbrev pub decreases-write_node : goal.decreases-write_node
decreases-write_node l = 10 * max (depth (plain l.head.now)) (depths (plains (from_list l.args.now))) + 9

abbrev pub decreases-write_many : goal.decreases-write_many
decreases-write_many l = 10 * max (depth (plain l.head.now)) (depths (plains (from_list l.args.now))) + 8

abbrev pub decreases-write_product : goal.decreases-write_product
decreases-write_product l = 10 * max (depth (plain l.first.now)) (depths (plains (from_list l.rest.now))) + 7

abbrev pub decreases-write_product_term : goal.decreases-write_product_term
decreases-write_product_term l = 10 * max (depth (plain l.first.now)) (depths (plains (from_list l.rest.now))) + 7

abbrev pub decreases-write_pair : goal.decreases-write_pair
decreases-write_pair l = 10 * max (depth (plain l.left.now)) (depth (plain l.right.now)) + 6

abbrev pub decreases-write_before : goal.decreases-write_before
decreases-write_before l = 10 * depth (plain l.e.now) + 6

abbrev pub decreases-write_after : goal.decreases-write_after
decreases-write_after l = 10 * depth (plain l.e.now) + 6

abbrev pub decreases-write_chain : goal.decreases-write_chain
decreases-write_chain l = 10 * max (depth (plain l.first.now)) (depths (plains (from_list l.rest.now))) + 6

abbrev pub decreases-write_further : goal.decreases-write_further
decreases-write_further l = 10 * depths (plains (from_list l.args.now)) + 5

abbrev pub decreases-write_statements : goal.decreases-write_statements
decreases-write_statements l = 10 * max (depth (plain l.first.now)) (depths (plains (from_list l.rest.now))) + 7

abbrev pub decreases-write_part : goal.decreases-write_part
decreases-write_part l = 10 * max (depth (plain l.first.now)) (depths (plains (from_list l.rest.now))) + 7

abbrev pub decreases-write_sum : goal.decreases-write_sum
decreases-write_sum l = 10 * max (depth (plain l.first.now)) (depths (plains (from_list l.rest.now))) + 6

abbrev pub decreases-write_terms : goal.decreases-write_terms
decreases-write_terms l = 10 * depths (plains (from_list l.args.now)) + 5

abbrev pub decreases-write_term : goal.decreases-write_term
decreases-write_term l = 10 * depth (plain l.e.now) + 1

abbrev pub decreases-write_node_term : goal.decreases-write_node_term
decreases-write_node_term l = 10 * max (depth (plain l.head.now)) (depths (plains (from_list l.args.now))) + 10

abbrev pub decreases-write_list : goal.decreases-write_list
decreases-write_list l = 10 * depths (plains (from_list l.args.now)) + 6

abbrev pub decreases-write_call : goal.decreases-write_call
decreases-write_call l = 10 * max (depth (plain l.head.now)) (depths (plains (from_list l.args.now))) + 7

abbrev pub decreases-write_elements : goal.decreases-write_elements
decreases-write_elements l = 10 * depths (plains (from_list l.args.now)) + 5

abbrev pub decreases-write_more : goal.decreases-write_more
decreases-write_more l = 10 * depths (plains (from_list l.args.now)) + 4

abbrev pub invariant-write_further-loop-arg : goal.invariant-write_further-loop-arg
invariant-write_further-loop-arg l = taken l.out (further_pieces l.operator (showings (plains (from_list (drop l.arg-index l.args))))) ≡ taken l.fn.out (further_pieces l.operator (showings (plains (from_list l.args))))

abbrev pub invariant-write_terms-loop-arg : goal.invariant-write_terms-loop-arg
invariant-write_terms-loop-arg l = taken l.out (terms_pieces (showings (plains (from_list (drop l.arg-index l.args))))) ≡ taken l.fn.out (terms_pieces (showings (plains (from_list l.args))))

abbrev pub invariant-write_more-loop-arg : goal.invariant-write_more-loop-arg
invariant-write_more-loop-arg l = taken l.out (more_pieces (showings (plains (from_list (drop l.arg-index l.args))))) ≡ taken l.fn.out (more_pieces (showings (plains (from_list l.args))))
