-- A Throw that nothing caught: what it is made of, and how its message plays.
use Rattle.std.proofs.Common.{◌≡◌, ℕ, true, false, Bool, List, [], ◌∷◌, Option, Some, None, Ok, codes, refl, sym, ◌∙◌, subst, arith, true≢false}
use Rattle.wl_expr.specs.Stamped.{Stamped, plain}
use Rattle.wl_expr.specs.Tree.{Tree, IsWithinLimits}
use Rattle.wl_expr.specs.Words.{fits, aborted_symbol}
use Rattle.wl_expr.proofs.Small.{fits_decides}
use Rattle.wl_rules.specs.Stored.{Stored}
use Rattle.wl_semantics.specs.Prog.{Prog, done, message, ◌>>=◌}
use Rattle.wl_state.specs.Honest.{HonestIn, HonestOption}
use Rattle.wl_state.specs.Outcomes.{call_node, held_node, throw_node, thrown_tree}
use Rattle.wl_semantics.specs.Outcome.{held, thrown, uncaught}
use Rattle.wl_state.specs.Played.{Plays}
use Rattle.wl_state.specs.declared.evaluator.Evaluator.{Evaluator}
use Rattle.wl_state.proofs.Playing.{plays_bind, plays_done}

pub throw_plain : (v : Stamped) (t : Option Stamped) → plain (throw_node v t) ≡ thrown_tree v t
throw_plain v None = refl
throw_plain v (Some t) = refl

pub held_plain : (v : Stamped) (t : Option Stamped) → plain (held_node (throw_node v t)) ≡ held (thrown_tree v t)
held_plain v None = refl
held_plain v (Some t) = refl

pub held_honest : (a : Stored) (v : Stamped) (t : Option Stamped) → HonestIn a v → HonestOption a t → HonestIn a (held_node (throw_node v t))
held_honest a v None x y = (tt, ((tt, (x, tt)), tt))
held_honest a v (Some t) x y = (tt, ((tt, (x, (y, tt))), tt))

pub call_honest : (a : Stored) (x : List ℕ) → HonestIn a (held_node (call_node x))
call_honest a x = (tt, ((tt, tt), tt))

-- what is held is larger than what it holds
pub held_large : (t : Tree) → fits t ≡ false → fits (held t) ≡ false
held_large t large = by_fitting (fits (held t)) refl
  where
    by_fitting : (b : Bool) → fits (held t) ≡ b → fits (held t) ≡ false
    by_fitting true e =
        let f = (fits_decides (held t)).0 e in
        let g : IsWithinLimits t = record { light = omega (arith, f.light); shallow = omega (arith, f.shallow) } in
        absurd (true≢false (sym ((fits_decides t).1 g) ∙ large))
    by_fitting false e = e

abbrev by_size : Bool → Tree → Prog Tree
by_size b x = elim b [ true ↦ message (codes "Throw") (codes "nocatch") (x ∷ []) >>= λ _. done (held x) | false ↦ message (codes "General") (codes "large") [] >>= λ _. done aborted_symbol ]

pub uncaught_held : (v : Tree) (t : Option Tree) (k k1 : Evaluator) → fits (held (thrown v t)) ≡ true → Plays (message (codes "Throw") (codes "nocatch") (thrown v t ∷ [])) k (Ok tt) k1 false → Plays (uncaught v t) k (Ok (held (thrown v t))) k1 false
uncaught_held v t k k1 small told = subst (λ b. Plays (by_size b (thrown v t)) k (Ok (held (thrown v t))) k1 false) (sym small) (plays_bind _ _ told plays_done)

pub uncaught_large : (v : Tree) (t : Option Tree) (k k1 : Evaluator) → fits (held (thrown v t)) ≡ false → Plays (message (codes "General") (codes "large") []) k (Ok tt) k1 false → Plays (uncaught v t) k (Ok aborted_symbol) k1 false
uncaught_large v t k k1 large told = subst (λ b. Plays (by_size b (thrown v t)) k (Ok aborted_symbol) k1 false) (sym large) (plays_bind _ _ told plays_done)
