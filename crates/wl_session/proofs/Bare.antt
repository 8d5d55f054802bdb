-- Expressions without stamps are honest everywhere.
use Rattle.std.proofs.Common.{◌≡◌, ◌<◌, List, [], Some, None, arith, subst, sym}
use Rattle.std.specs.List.{Contains}
use Rattle.wl_eval.specs.KernelView.{KernelView, Honest}
use Rattle.wl_expr.specs.Passed.{AtStamps, AllAtStamps, IsFrom, AreFrom}
use Rattle.wl_expr.specs.Stamped.{Stamped, Stampeds, num, text, symbol, node, none, more, plain, unstamped, unstampeds}
use Rattle.wl_expr.specs.Tree as tree
use Rattle.wl_expr.specs.Tree.{Tree, Trees}
use Rattle.wl_session.specs.CellReading.{IsBare}

contains_nothing : (t : Stamped) → Contains [] t → ⊥
contains_nothing t h = omega (arith, h.1)

mutual
  at_no_stamps : (P : Stamped → Type 0) (e : Stamped) → IsFrom [] e → AtStamps P e
  at_no_stamps P (num n) h = tt
  at_no_stamps P (text s) h = tt
  at_no_stamps P (symbol None s) h = tt
  at_no_stamps P (symbol (Some p) s) h = absurd (contains_nothing _ h)
  at_no_stamps P (node None h ts) f = (at_no_stamps P h f.0, all_at_no_stamps P ts f.1)
  at_no_stamps P (node (Some p) h ts) f = absurd (contains_nothing _ f.0)

  all_at_no_stamps : (P : Stamped → Type 0) (ts : Stampeds) → AreFrom [] ts → AllAtStamps P ts
  all_at_no_stamps P none h = tt
  all_at_no_stamps P (more t ts) h = (at_no_stamps P t h.0, all_at_no_stamps P ts h.1)

pub bare_honest : (v : KernelView) (e : Stamped) → IsBare e → Honest v e
bare_honest v e h = at_no_stamps _ e h

mutual
  unstamped_from_none : (t : Tree) → IsFrom [] (unstamped t)
  unstamped_from_none (tree.num n) = tt
  unstamped_from_none (tree.text s) = tt
  unstamped_from_none (tree.symbol s) = tt
  unstamped_from_none (tree.node h ts) = (unstamped_from_none h, unstampeds_from_none ts)

  unstampeds_from_none : (ts : Trees) → AreFrom [] (unstampeds ts)
  unstampeds_from_none tree.none = tt
  unstampeds_from_none (tree.more t ts) = (unstamped_from_none t, unstampeds_from_none ts)

pub unstamped_bare : (e : Stamped) → e ≡ unstamped (plain e) → IsBare e
unstamped_bare e is = subst (IsFrom []) (sym is) (unstamped_from_none (plain e))
