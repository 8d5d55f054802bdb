use Rattle.std.proofs.Common.{ap, ◌∙◌, ◌≡◌, sym}
use Rattle.wl_expr.specs.Stamped.{plain, unstamped}
use Rattle.wl_form.specs.Boxes.{boxes}
use Rattle.wl_form.specs.Pages.{fitted, taken}
use Rattle.wl_form.specs.Table.{shown}
use Rattle.wl_form.specs.Writing.{placed}
use Rattle.wl_form.proofs.Whole.{box_answer, fitted_some, fitted_none, made_from}
use Rattle.wl_form.proofs.boxed.boxes.Goals as goal

pub returns-in-Some : goal.returns-in-Some
returns-in-Some c =
    let t = plain c.args.e.now in
    let o : c.into_box.result ≡ fitted (unstamped (boxes t)) = box_answer t _ _ (c.in_ok-write.ensures ∙ ap (λ p. taken p (placed 31 (shown t))) c.for_boxes-page.ensures) c.into_box.ensures.fits c.into_box.ensures.too_large in
    let f = fitted_some (boxes t) c.in-Some.made (sym c.in-Some.is ∙ o) in
    record { ok = f.0; passed = λ ms _. made_from ms (boxes t) c.in-Some.made f.0; fits = f.1; large = λ e. absurd (cc) }

pub returns-in-None : goal.returns-in-None
returns-in-None c =
    let t = plain c.args.e.now in
    let o : c.into_box.result ≡ fitted (unstamped (boxes t)) = box_answer t _ _ (c.in_ok-write.ensures ∙ ap (λ p. taken p (placed 31 (shown t))) c.for_boxes-page.ensures) c.into_box.ensures.fits c.into_box.ensures.too_large in
    let f = fitted_none (boxes t) (sym c.in-None.is ∙ o) in
    record { ok = tt; passed = tt; fits = tt; large = λ _. f }
