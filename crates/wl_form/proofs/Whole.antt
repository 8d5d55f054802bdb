-- The page at the end.
use Rattle.std.proofs.Common.{Bool, true, false, ◌≡◌, ◌⊎◌, inl, inr, List, [], ◌∷◌, refl, sym, ap, ◌∙◌, subst}
use Rattle.std.specs.Prelude.{Option, Some, None, if◌then◌else◌}
use Rattle.std.proofs.lemmas.Bool.{cond-true, cond-false}
use Rattle.wl_expr.specs.Passed.{IsFrom, AreFrom}
use Rattle.wl_expr.specs.Stamped.{Stamped, plain, unstamped, unstampeds, plain_unstamped}
use Rattle.wl_expr.specs.Tree as tree
use Rattle.wl_expr.specs.Tree.{Tree, Trees, IsWithinLimits}
use Rattle.wl_form.specs.Boxes.{strings, boxes}
use Rattle.wl_form.specs.Pages.{Page, writing, boxing, large, blank_line, fits, fitted, lined, put_box, taken}
use Rattle.wl_form.specs.Table.{shown}
use Rattle.wl_form.specs.Texts.{input_text}
use Rattle.wl_form.specs.Writing.{placed}
use Rattle.wl_form.proofs.Boxing.{boxes_hold_the_text}
use Rattle.wl_form.proofs.Levels.{placed_whole}
use Rattle.wl_form.proofs.Pages.{within_when, not_within_when}

pub text_whole : (t : Tree) → taken (writing []) (placed 31 (shown t)) ≡ writing (input_text t)
text_whole t = ap (λ ps. taken (writing []) ps) (placed_whole (shown t)) ∙ ap (λ u. writing (strings u)) (plain_unstamped (boxes t)) ∙ ap writing (boxes_hold_the_text t)

box_whole : (t : Tree) → taken (boxing blank_line []) (placed 31 (shown t)) ≡ put_box (boxing blank_line []) (unstamped (boxes t))
box_whole t = ap (λ ps. taken (boxing blank_line []) ps) (placed_whole (shown t))

fits_or : (b : Bool) → (b ≡ true) ⊎ (b ≡ false)
fits_or true = inl refl
fits_or false = inr refl

-- the only box of the page, or none
pub box_answer : (t : Tree) (page : Page) (o : Option Stamped) → page ≡ taken (boxing blank_line []) (placed 31 (shown t)) → ((b : Stamped) → page ≡ boxing record { parts = b ∷ []; text = [] } [] → o ≡ Some b) → (page ≡ large → o ≡ None) → o ≡ fitted (unstamped (boxes t))
box_answer t page o e f g =
    let b = unstamped (boxes t) in
    elim (fits_or (fits (plain b))) [
      | inl h ↦ f b (e ∙ box_whole t ∙ ap (λ (x : Bool). one x b) h) ∙ sym (cond-true (fits (plain b)) (Some b) None h)
      | inr h ↦ g (e ∙ box_whole t ∙ ap (λ (x : Bool). one x b) h) ∙ sym (cond-false (fits (plain b)) (Some b) None h)
    ]
  where
    one : Bool → Stamped → Page
    one x b = lined (if x then Some record { parts = b ∷ []; text = [] } else None) []

pub fitted_some : (t : Tree) (c : Stamped) → Some c ≡ fitted (unstamped t) → (c ≡ unstamped t) × IsWithinLimits t
fitted_some t c e = elim (fits_or (fits (plain (unstamped t)))) [
  | inl h ↦ (same c (unstamped t) (e ∙ cond-true (fits (plain (unstamped t))) (Some (unstamped t)) None h), within_when t (ap fits (sym (plain_unstamped t)) ∙ h))
  | inr h ↦ absurd (none c (e ∙ cond-false (fits (plain (unstamped t))) (Some (unstamped t)) None h))
]
  where
    same : (c d : Stamped) → Some c ≡ Some d → c ≡ d
    same c d e = cc

    none : (c : Stamped) → Some c ≡ None → ⊥
    none c e = cc

pub fitted_none : (t : Tree) → None ≡ fitted (unstamped t) → ¬ IsWithinLimits t
fitted_none t e = elim (fits_or (fits (plain (unstamped t)))) [
  | inl h ↦ absurd (some (unstamped t) (e ∙ cond-true (fits (plain (unstamped t))) (Some (unstamped t)) None h))
  | inr h ↦ not_within_when t (ap fits (sym (plain_unstamped t)) ∙ h)
]
  where
    some : (c : Stamped) → None ≡ Some c → ⊥
    some c e = cc

-- what has no stamps
mutual
  pub unstamped_from : (ms : List Stamped) (t : Tree) → IsFrom ms (unstamped t)
  unstamped_from ms (tree.num n) = tt
  unstamped_from ms (tree.text s) = tt
  unstamped_from ms (tree.symbol s) = tt
  unstamped_from ms (tree.node h ts) = (unstamped_from ms h, unstampeds_from ms ts)

  unstampeds_from : (ms : List Stamped) (ts : Trees) → AreFrom ms (unstampeds ts)
  unstampeds_from ms tree.none = tt
  unstampeds_from ms (tree.more t ts) = (unstamped_from ms t, unstampeds_from ms ts)

pub made_from : (ms : List Stamped) (t : Tree) (c : Stamped) → c ≡ unstamped t → IsFrom ms c
made_from ms t c e = subst (λ x. IsFrom ms x) (sym e) (unstamped_from ms t)
