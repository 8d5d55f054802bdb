use Rattle.std.proofs.Common.{true, false, sym, ap, ◌∙◌}
use Rattle.wl_syntax.proofs.Flat.{test_none, test_top, names_none, names_top, names_not, other_infix}
use Rattle.wl_syntax.specs.declared.machine.Entry.TheVariants as entry
use Rattle.wl_syntax.specs.Machine.{names_wanted}
use Rattle.wl_syntax.proofs.machine.Machine.names_wanted.Goals as goal

pub returns-in_default : goal.returns-in_default
returns-in_default c = test_none names_wanted names_none _ c.in_default.ensures

pub returns-in-Message : goal.returns-in-Message
returns-in-Message c = test_top names_wanted true _ _ _ c.in-Some.ensures.1 (λ o s i. names_top o s (i ∙ c.in-Infix.is ∙ ap (λ x. entry.Infix x) c.in-Message.is))

pub returns-in_default-operator : goal.returns-in_default-operator
returns-in_default-operator c = test_top names_wanted false _ _ _ c.in-Some.ensures.1 (λ o s i. names_not o s (other_infix _ _ _ _ i c.in-Infix.is c.in_default-operator.not-Message))

pub returns-in_default-top : goal.returns-in_default-top
returns-in_default-top c = test_top names_wanted false _ _ _ c.in-Some.ensures.1 (λ o s i. names_not o s (λ k. c.in_default-top.not-Infix _ (sym i ∙ k)))
