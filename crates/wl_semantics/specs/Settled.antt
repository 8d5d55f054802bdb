-- Settled expressions: one turn gives them themselves and has no effect, and their head and the elements that it evaluates are settled too. This project's own.
use Rattle.std.specs.Prelude.{◌≡◌, ◌+◌, max, Bool, true, false, List, [], ◌∷◌, ◌++◌, Result, Ok, Err}
use Rattle.wl_expr.specs.Tree.{Tree, Trees, num, text, symbol, node, none, more}
use Rattle.wl_expr.specs.Words.{Name}
use Rattle.wl_rules.specs.Attributes.{AttributeSet, no_attributes}
use Rattle.wl_semantics.specs.State.{State, End, BudgetEnded, Turned, Final}
use Rattle.wl_semantics.specs.Prog.{◌>>=◌, tick}
use Rattle.wl_semantics.specs.Elements.{stays_held}
use Rattle.wl_semantics.specs.Turn.{turn}
use Rattle.wl_semantics.specs.Eval.{Res, opened, Go}

-- a turn with its step, the first of its evaluation, with the evaluation's own level open
abbrev pub turn_of : Tree → State → Res (Result Turned End)
turn_of t s =
    let r = Go (tick >>= λ _. turn t) (opened s) in
    record { result = elim r.did.out [ true ↦ Err BudgetEnded | false ↦ r.result ]; state = r.state; did = record r.did { depth = r.did.depth + 1; turns = max 1 r.did.turns } }

-- the turn gives the tree itself, without an effect
pub record Stays (s : State) (t : Tree) : Type 0 where
  pub final : (turn_of t s).result ≡ Ok (Final t)
  pub calm : (turn_of t s).did.effect ≡ false

-- the names read in that turn
abbrev pub Reads : State → Tree → List Name
Reads s t = (turn_of t s).did.names

abbrev pub attributes_at : State → Tree → AttributeSet
attributes_at s (symbol x) = (s.world.definitions x).attributes
attributes_at s h = no_attributes

-- of an element that is held nothing is said
abbrev pub Unless : Bool → Bool → Type 0 → Type 0
Unless true b A = Unit {0}
Unless false true A = Unit {0}
Unless false false A = A

abbrev mutual
  pub Settled : State → Tree → Type 0
  Settled s (num n) = Unit {0}
  Settled s (text x) = Unit {0}
  Settled s (symbol x) = Stays s (symbol x)
  Settled s (node h ts) = Stays s (node h ts) × Settled s h × AreSettled s (attributes_at s h) [] ts

  -- each element that is evaluated, behind those before it
  pub AreSettled : State → AttributeSet → List Tree → Trees → Type 0
  AreSettled s a vs none = Unit {0}
  AreSettled s a vs (more t ts) = Unless a.hold_all_complete (stays_held a vs t) (Settled s t) × AreSettled s a (vs ++ t ∷ []) ts
