use Rattle.std.proofs.Common.{true, false, sym, ap, ◌∙◌}
use Rattle.wl_syntax.proofs.Flat.{test_none, test_top, tag_none, tag_top, tag_not, other_infix}
use Rattle.wl_syntax.specs.declared.machine.Entry.TheVariants as entry
use Rattle.wl_syntax.specs.Machine.{on_tag}
use Rattle.wl_syntax.proofs.machine.Machine.on_tag.Goals as goal

pub returns-in_default : goal.returns-in_default
returns-in_default c = test_none on_tag tag_none _ c.in_default.ensures

pub returns-in-Tag : goal.returns-in-Tag
returns-in-Tag c = test_top on_tag true _ _ _ c.in-Some.ensures.1 (λ o s i. tag_top o s (i ∙ c.in-Infix.is ∙ ap (λ x. entry.Infix x) c.in-Tag.is))

pub returns-in_default-operator : goal.returns-in_default-operator
returns-in_default-operator c = test_top on_tag false _ _ _ c.in-Some.ensures.1 (λ o s i. tag_not o s (other_infix _ _ _ _ i c.in-Infix.is c.in_default-operator.not-Tag))

pub returns-in_default-top : goal.returns-in_default-top
returns-in_default-top c = test_top on_tag false _ _ _ c.in-Some.ensures.1 (λ o s i. tag_not o s (λ k. c.in_default-top.not-Infix _ (sym i ∙ k)))
