use Rattle.std.proofs.Common.{sym, ◌∙◌}
use Rattle.wl_match.specs.Runs.{trees_in}
use Rattle.wl_match.proofs.LentLemmas as lemmas
use Rattle.wl_match.proofs.lent.is_one_node.Goals as goal

pub returns-then-len-ne1 : goal.returns-then-len-ne1
returns-then-len-ne1 c = sym (lemmas.same_apart _ _ (λ e. c.if-len-ne1.true (c.len.ensures ∙ e)))

pub returns-in-Some : goal.returns-in-Some
returns-in-Some c = lemmas.one_same (trees_in c.args.items.now) _ _ _ (sym c.len.ensures ∙ c.if-len-ne1.false) c.in-Some.ensures c.is_node.ensures

pub returns-in-None : goal.returns-in-None
returns-in-None c = lemmas.none_same (trees_in c.args.items.now) _ _ (sym c.len.ensures ∙ c.if-len-ne1.false) c.in-None.ensures
