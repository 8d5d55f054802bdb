-- How an evaluation that was asked for ended, as the definition has it, and when what it gives is honest.
use Rattle.std.specs.Prelude.{List, [], ◌∷◌, map, option_map, option_to_list, Option, None, codes, ⊤}
use Rattle.wl_expr.specs.Stamped.{Stamped, from_list, node, plain, symbol}
use Rattle.wl_expr.specs.Tree.{Tree}
use Rattle.wl_expr.specs.Words.{Name}
use Rattle.wl_rules.specs.Stored.{Stored}
use Rattle.wl_semantics.specs.Outcome.{thrown}
use Rattle.wl_semantics.specs.State as spec
use Rattle.wl_semantics.specs.State.{End}
use Rattle.wl_state.specs.Honest.{HonestIn, HonestOption}
use Rattle.wl_state.specs.declared.outcome.Outcome.{Outcome}
use Rattle.wl_state.specs.declared.outcome.Outcome.TheVariants.{Value, Thrown, Aborted, BudgetEnded}

-- how an evaluation that was asked for ended
abbrev pub end_of : Outcome → End
end_of (Value v) = spec.Value (plain v)
end_of (Thrown v t) = spec.Thrown (plain v) (option_map plain t)
end_of Aborted = spec.Aborted
end_of BudgetEnded = spec.BudgetEnded

-- a Throw of this value, with its tag where it has one
abbrev pub thrown_tree : Stamped → Option Stamped → Tree
thrown_tree v t = thrown (plain v) (option_map plain t)

-- what is built of them, without stamps of its own
abbrev pub throw_node : Stamped → Option Stamped → Stamped
throw_node v t = node None (symbol None (codes "Throw")) (from_list (v ∷ option_to_list t))

abbrev pub call_node : Name → Stamped
call_node x = node None (symbol None x) (from_list [])

abbrev pub held_node : Stamped → Stamped
held_node e = node None (symbol None (codes "Hold")) (from_list (e ∷ []))

-- what it gives is honest
abbrev pub HonestOutcomeIn : Stored → Outcome → Type 0
HonestOutcomeIn a (Value e) = HonestIn a e
HonestOutcomeIn a (Thrown e t) = HonestIn a e × HonestOption a t
HonestOutcomeIn a Aborted = ⊤
HonestOutcomeIn a BudgetEnded = ⊤
