use Rattle.std.proofs.Common.{ap, ◌∙◌}
use Rattle.wl_expr.specs.Stamped.{plain}
use Rattle.wl_form.specs.Pages.{taken}
use Rattle.wl_form.specs.Table.{shown}
use Rattle.wl_form.specs.Texts.{input_text}
use Rattle.wl_form.specs.Writing.{placed}
use Rattle.wl_form.proofs.Whole.{text_whole}
use Rattle.wl_form.proofs.input.input_form.Goals as goal

pub returns : goal.returns
returns c = c.into_text.ensures (input_text (plain c.args.e.now)) (c.in_ok-write.ensures ∙ ap (λ p. taken p (placed 31 (shown (plain c.args.e.now)))) c.for_text-page.ensures ∙ text_whole (plain c.args.e.now))
