-- Values and their wrappers.
use Rattle.std.proofs.Common.{◌≡◌, ◌≢◌, ◌∙◌, ℕ, List, [], ◌∷◌, Some, None, length, refl, sym, ap, arith}
use Rattle.wl_eval.specs.KernelView.{KernelView, Honest}
use Rattle.wl_expr.proofs.Passing.{at_stamps_passed}
use Rattle.wl_expr.specs.Passed.{IsFrom}
use Rattle.wl_expr.specs.Stamped.{Stamped, from_list, plain, plains}
use Rattle.wl_expr.specs.Tree.{Tree, node}
use Rattle.wl_session.specs.Line.{Unwrapped, unwrapped}

-- a node of other than one element has no wrapper
pub unwrapped_other : (v h : Tree) (ts : List Stamped) → node h (plains (from_list ts)) ≡ v → length ts ≢ 1 → record { wrapper = None; kept = v } ≡ unwrapped v
unwrapped_other v h ts is other = ap (λ (t : Tree). record { wrapper = None; kept = t }) (sym is) ∙ by_elements ts other ∙ ap unwrapped is
  where
    by_elements : (us : List Stamped) → length us ≢ 1 → record { wrapper = None; kept = node h (plains (from_list us)) } ≡ unwrapped (node h (plains (from_list us)))
    by_elements [] o = refl
    by_elements (t ∷ []) o = absurd (o refl)
    by_elements (t ∷ u ∷ us) o = refl

-- what is kept of an honest value is honest
pub kept_honest : (v : KernelView) (e r : Stamped) → ((ms : List Stamped) → IsFrom ms e → IsFrom ms r) → Honest v e → Honest v r
kept_honest v e r passed honest = at_stamps_passed _ e r passed honest
