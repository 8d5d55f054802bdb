use Rattle.std.proofs.Common.{◌≡◌, true, false, sym, ◌∙◌, ap, subst, List}
use Rattle.std.specs.HashSet.{contains}
use Rattle.std.specs.List.{list_any}
use Rattle.wl_expr.specs.Same.{same}
use Rattle.wl_expr.specs.Stamped.{Stamped, plain}
use Rattle.wl_expr.specs.Tree.{Tree}
use Rattle.wl_rules.specs.StampedRules.{same_left}
use Rattle.wl_rules.proofs.Choices.{either_true, not_true}
use Rattle.wl_rules.proofs.Places.{known_more, unknown_left}
use Rattle.wl_rules.proofs.rule_set.note_left.Goals as goal

pub returns-in_err-insert-clause-kept : goal.returns-in_err-insert-clause-kept
returns-in_err-insert-clause-kept c = λ rs h.
    known_more (contains same_left c.args.lefts.now) (contains same_left c.insert.new.self) rs (λ a p. subst (λ (ks : List Stamped). list_any (same_left a) ks ≡ true) (sym c.in_err-insert.ensures.err) p) h

pub returns-clause-kept : goal.returns-clause-kept
returns-clause-kept c = λ rs h.
    known_more (contains same_left c.args.lefts.now) (contains same_left c.insert.new.self) rs (λ a p. c.in_ok-insert.ensures.updates.0 a ∙ either_true (same_left c.in_ok-left.left a) (contains same_left c.args.lefts.now a) p) h

pub returns-clause-is_new : goal.returns-clause-is_new
returns-clause-is_new c = λ rs h p.
    let alike : (a b : Stamped) → plain a ≡ plain b → contains same_left c.args.lefts.now a ≡ contains same_left c.args.lefts.now b =
    λ a b e. ap (λ (t : Tree). list_any (λ q. same t (plain q)) c.args.lefts.now.keys) e in
    let absent : contains same_left c.args.lefts.now c.in_ok-left.left ≡ false = not_true (contains same_left c.args.lefts.now c.in_ok-left.left) (sym c.in_ok-insert.ensures.added ∙ p) in
    unknown_left (contains same_left c.args.lefts.now) alike c.args.left.now rs h (alike c.args.left.now c.in_ok-left.left (ap plain (sym c.in_ok-left.ensures)) ∙ absent)
