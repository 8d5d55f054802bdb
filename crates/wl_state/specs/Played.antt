-- What a function of the evaluator says of the program that it plays.
use Rattle.std.specs.Prelude.{Vec, ◌≡◌, ℕ, ◌+◌, ◌-◌, ◌≤◌, max, Bool, true, false, ◌||◌, List, [], ◌∷◌, ◌++◌, map, option_map, Result, Ok, Err, Option, Some, None, if◌then◌else◌, bytes_eq, codes, ⊤}
use Rattle.std.specs.List.{All, Contains}
use Rattle.std.proofs.Common.{Global}
use Rattle.wl_expr.specs.Stamped as stamped
use Rattle.wl_expr.specs.Stamped.{Stamped, Stampeds, from_list, plain, stamp_of}
use Rattle.wl_expr.specs.Tree.{Tree, num, text, symbol, node}
use Rattle.wl_expr.specs.Words.{Name, fits}
use Rattle.wl_expr.specs.declared.fault.ExprFault.{ExprFault}
use Rattle.wl_expr.specs.declared.fault.ExprFault.TheVariants as fault
use Rattle.wl_expr.specs.declared.stamp.Stamp.{Stamp}
use Rattle.wl_rules.specs.Attributes.{AttributeSet}
use Rattle.wl_rules.specs.Changes.{AreDistinct}
use Rattle.wl_rules.specs.Entries.{PlainRule, of_kind, left_side}
use Rattle.wl_rules.specs.RuleLists.{has_left}
use Rattle.wl_rules.specs.StampedRules.{plain_rule}
use Rattle.wl_rules.specs.Stored.{Stored, IsIndex, name_at, definitions}
use Rattle.wl_rules.specs.declared.rule.Rule.{Rule}
use Rattle.wl_rules.specs.declared.rule.RuleKind.{RuleKind}
use Rattle.wl_stamps.specs.Live.{IsLive, last_version}
use Rattle.wl_semantics.specs.State as spec
use Rattle.wl_semantics.specs.State.{State}
use Rattle.wl_semantics.specs.Prog as prog
use Rattle.wl_semantics.specs.Prog.{Prog, ◌>>=◌}
use Rattle.wl_semantics.specs.Turn.{turn}
use Rattle.wl_semantics.specs.Elements.{stays_held}
use Rattle.wl_semantics.specs.LeftSides.{recursion_limit, iteration_limit, is_limit, limit_allows}
use Rattle.wl_semantics.specs.Eval.{Record, Go, Turns, final, limit, number_in, is_budget_end}
use Rattle.wl_semantics.specs.Settled.{attributes_at, Unless}
use Rattle.wl_state.specs.Honest.{names_in, HonestIn, HonestOption, HonestRule, HonestRules, HonestStore, Grows}
use Rattle.wl_state.specs.Logs.{is_spoiled, IsLogOf, Adds}
use Rattle.wl_state.specs.declared.evaluator.Line.{Line}
use Rattle.wl_state.specs.declared.evaluator.Log.{Log}
use Rattle.wl_state.specs.declared.evaluator.Taken.{Taken}
use Rattle.wl_state.specs.declared.evaluator.Evaluator.{Evaluator}
use Rattle.wl_state.specs.declared.ends.End as ends
use Rattle.wl_state.specs.declared.ends.End.TheVariants as end
use Rattle.wl_state.specs.declared.ends.Stop.{Stop}
use Rattle.wl_state.specs.declared.ends.Stop.TheVariants.{Memory, Thrown, Aborted, BudgetEnded, Broke, Continued}
use Rattle.wl_state.specs.declared.ends.Turned as turneds
use Rattle.wl_state.specs.declared.ends.Turned.TheVariants as made

-- ---- the state

abbrev pub trees : List Stamped → List Tree
trees es = map plain es

abbrev pub plain_line : Line → spec.Line
plain_line l = record { input = plain l.input; value = plain l.value }

-- the state that an evaluator is in
abbrev pub state : Evaluator → State
state k = record {
  world = record { definitions = definitions k.store; history = map plain_line k.history.items; module_number = k.modules; desk = k.desk };
  steps = k.steps;
  depth = k.depth;
}

-- ---- what is true of it

abbrev pub Honest : Evaluator → Stamped → Type 0
Honest k e = HonestIn k.store e

abbrev pub AllHonest : Evaluator → List Stamped → Type 0
AllHonest k es = All (Honest k) es

abbrev pub HonestMaybe : Evaluator → Option Stamped → Type 0
HonestMaybe k o = HonestOption k.store o

abbrev pub HonestLine : Stored → Line → Type 0
HonestLine a l = HonestIn a l.input × HonestIn a l.value

-- the log began with no fewer steps left
abbrev pub Began : Evaluator → Type 0
Began k = (u : Log) → k.log ≡ Some u → k.steps ≤ u.start

-- Names stand once; what is kept is honest; the numbers of the limits are those of the definitions, and within their greatest values;
-- no more Quiets are open than evaluations; and what was noted is of the entries as they are.
pub record Sound (k : Evaluator) : Type 0 where
  pub distinct : AreDistinct k.store.rows
  pub drawn : k.store.drawn ≤ last_version
  pub honest : HonestStore k.store
  pub history : All (HonestLine k.store) k.history.items
  pub recursion : limit recursion_limit (state k).world ≡ k.recursion
  pub iteration : limit iteration_limit (state k).world ≡ k.iteration
  pub recursion_most : k.recursion ≤ 512
  pub iteration_most : k.iteration ≤ 1000000
  pub deepest : k.depth ≤ 512
  pub quiets : k.desk.quiets ≤ k.depth
  pub current : IsLogOf k.store k.log
  pub began : Began k

-- ---- how a program plays

-- what was done is noted in the log, which an effect spoils
pub record Notes (k : Evaluator) (d : Record) (k' : Evaluator) : Type 0 where
  pub spoiled : is_spoiled k'.log ≡ (is_spoiled k.log || d.effect)
  pub adds : (u v : Log) → k.log ≡ Some u → k'.log ≡ Some v → Adds k.store k.depth u d k'.store v

-- from k the program gives r and leaves k'; o says whether a budget ended in it
pub record Plays {R : Type 0} (p : Prog R) (k : Evaluator) (r : Result R spec.End) (k' : Evaluator) (o : Bool) : Type 0 where
  pub ends : (Go p (state k)).result ≡ r
  pub leaves : (Go p (state k)).state ≡ state k'
  pub out : (Go p (state k)).did.out ≡ o
  pub notes : Notes k (Go p (state k)).did k'
  pub grows : Grows k.store k'.store
  pub sound : Sound k → Sound k'

-- how a result is seen, and when it is honest
pub record Seen (X R : Type 0) : Type 1 where
  pub view : X → R
  pub good : Evaluator → X → Type 0

-- a thrown value and its tag
abbrev pub HonestThrow : Evaluator → Stamped → Option Stamped → Type 0
HonestThrow k v t = Honest k v × HonestMaybe k t

-- from k the program gives what the function returned, and leaves k'; nothing is said where memory ran out
abbrev pub Played : {X R : Type 0} → Seen X R → Prog R → Evaluator → Result X Stop → Evaluator → Type 0
Played seen p k (Ok x) k' = Plays p k (Ok (seen.view x)) k' false × seen.good k' x
Played seen p k (Err Memory) k' = ⊤
Played seen p k (Err (Thrown v t)) k' = Plays p k (Err (spec.Thrown (plain v) (option_map plain t))) k' false × HonestThrow k' v t
Played seen p k (Err Aborted) k' = Plays p k (Err spec.Aborted) k' false × ⊤
Played seen p k (Err BudgetEnded) k' = Plays p k (Err spec.BudgetEnded) k' true × ⊤
Played seen p k (Err Broke) k' = Plays p k (Err spec.Broke) k' false × ⊤
Played seen p k (Err Continued) k' = Plays p k (Err spec.Continued) k' false × ⊤

-- what p does from k is what q does from k1
abbrev pub Leads : {R : Type 0} → Prog R → Evaluator → Prog R → Evaluator → Type 0
Leads {R} p k q k1 = (r : Result R spec.End) (k2 : Evaluator) (o : Bool) → Plays q k1 r k2 o → Plays p k r k2 o

-- ---- stamps of the parts of a turn

-- what this stamp says is among what the log u of k has noted; the stamp's own level is n + 1
pub record Within (k : Evaluator) (n : ℕ) (p : Stamp) (u : Log) : Type 0 where
  pub names : (x : Name) → Contains (names_in k.store p.reads) x → Contains (names_in k.store u.reads) x
  pub depth : n + p.depth ≤ u.deepest
  pub turns : p.turns ≤ max 1 u.turns
  pub steps : p.steps + k.steps ≤ u.start

-- so is the stamp on top, where there is one and the log isn't spoiled
abbrev pub Inside : Evaluator → ℕ → Stamped → Type 0
Inside k n v = (p : Stamp) (u : Log) → stamp_of v ≡ Some p → k.log ≡ Some u → Within k n p u

-- a value of an evaluation
abbrev pub Good : Evaluator → Stamped → Type 0
Good k v = Honest k v × Inside k k.depth v

-- P holds of each element that the turn of a node evaluates; these stand before the first
abbrev pub AtEvaluated : (Stamped → Type 0) → AttributeSet → List Tree → Stampeds → Type 0
AtEvaluated P a vs stamped.none = ⊤
AtEvaluated P a vs (stamped.more x xs) = Unless a.hold_all_complete (stays_held a vs (plain x)) (P x) × AtEvaluated P a (vs ++ plain x ∷ []) xs

-- a number or text
abbrev pub is_leaf : Stamped → Bool
is_leaf (stamped.num n) = true
is_leaf (stamped.text s) = true
is_leaf (stamped.symbol p x) = false
is_leaf (stamped.node p h ts) = false

-- a part that came back settled: a number or text, or with a stamp that is live and within the log
pub data PartKept (k : Evaluator) (u : Log) (x : Stamped) : Type 0 where
  leaf_kept : is_leaf x ≡ true → PartKept k u x
  stamp_kept : (p : Stamp) → stamp_of x ≡ Some p → IsLive k.store p → Within k k.depth p u → PartKept k u x

-- a head that is a symbol was read
abbrev pub HeadRead : Evaluator → Log → Tree → Type 0
HeadRead k u (num n) = ⊤
HeadRead k u (text s) = ⊤
HeadRead k u (symbol x) = Contains (names_in k.store u.reads) x
HeadRead k u (node h ts) = ⊤

-- head and evaluated elements came back settled
abbrev pub PartsKept : Evaluator → Log → Stamped → Type 0
PartsKept k u (stamped.num n) = ⊤
PartsKept k u (stamped.text s) = ⊤
PartsKept k u (stamped.symbol p x) = ⊤
PartsKept k u (stamped.node p h xs) = PartKept k u h × HeadRead k u (plain h) × AtEvaluated (PartKept k u) (attributes_at (state k) (plain h)) [] xs

-- an honest expression of this tree whose parts came back settled
pub record CameBack (k : Evaluator) (u : Log) (t : Tree) : Type 0 where
  pub whole : Stamped
  pub same : plain whole ≡ t
  pub honest : Honest k whole
  pub parts : PartsKept k u whole

-- what a turn makes: a final expression has no stamp of its own yet
abbrev pub MadeTurned : Evaluator → turneds.Turned → Type 0
MadeTurned k (made.Final v b) = Honest k v × (stamp_of v ≡ None) × (b ≡ true → (u : Log) → k.log ≡ Some u → CameBack k u (plain v))
MadeTurned k (made.Next e) = Honest k e

-- the same with its stamp
abbrev pub SealedTurned : Evaluator → turneds.Turned → Type 0
SealedTurned k (made.Final v b) = Honest k v × Inside k (k.depth - 1) v
SealedTurned k (made.Next e) = Honest k e

-- ---- ends

abbrev pub HonestEnd : Evaluator → ends.End → Type 0
HonestEnd k (end.Value v) = Honest k v
HonestEnd k (end.Thrown v t) = HonestThrow k v t
HonestEnd k end.Aborted = ⊤
HonestEnd k end.BudgetEnded = ⊤
HonestEnd k end.Broke = ⊤
HonestEnd k end.Continued = ⊤

-- the same, and a value's stamp is within the log
abbrev pub GoodEnd : ℕ → Evaluator → ends.End → Type 0
GoodEnd n k (end.Value v) = Honest k v × Inside k n v
GoodEnd n k (end.Thrown v t) = HonestThrow k v t
GoodEnd n k end.Aborted = ⊤
GoodEnd n k end.BudgetEnded = ⊤
GoodEnd n k end.Broke = ⊤
GoodEnd n k end.Continued = ⊤

abbrev pub turned_of : turneds.Turned → spec.Turned
turned_of (made.Final e b) = spec.Final (plain e)
turned_of (made.Next e) = spec.Next (plain e)

abbrev pub end_of : ends.End → spec.End
end_of (end.Value v) = spec.Value (plain v)
end_of (end.Thrown v t) = spec.Thrown (plain v) (option_map plain t)
end_of end.Aborted = spec.Aborted
end_of end.BudgetEnded = spec.BudgetEnded
end_of end.Broke = spec.Broke
end_of end.Continued = spec.Continued

-- ---- what functions return

-- what needs no honesty is seen as it is
abbrev pub itself : {X : Type 0} → Seen X X
itself {X} = record { view = λ x. x; good = λ k x. ⊤ }

-- the value of an evaluation
abbrev pub tree : Seen Stamped Tree
tree = record { view = plain; good = Good }

-- an expression
abbrev pub honest_tree : Seen Stamped Tree
honest_tree = record { view = plain; good = Honest }

-- what a row, a trial or a match gives, where it gives something
abbrev pub found_tree : Seen (Option Stamped) (Option Tree)
found_tree = record { view = option_map plain; good = HonestMaybe }

-- values of the elements of a node under these attributes
abbrev pub values : AttributeSet → Seen (Vec Stamped Global) (List Tree)
values a = record { view = λ v. trees v.items; good = λ k v. AllHonest k v.items × AtEvaluated (Inside k k.depth) a [] (from_list v.items) }

abbrev pub turned : Seen turneds.Turned spec.Turned
turned = record { view = turned_of; good = MadeTurned }

abbrev pub sealed : Seen turneds.Turned spec.Turned
sealed = record { view = turned_of; good = SealedTurned }

-- an expression of this tree, which was built and whose size was tested
abbrev pub built : Tree → Seen Stamped (Unit {0})
built t = record { view = λ e. tt; good = λ k e. plain e ≡ t }

-- ---- evaluations

-- a turn with its step
abbrev pub whole_turn : Tree → Prog spec.Turned
whole_turn t = prog.tick >>= λ _. turn t

-- the same of an evaluation, which gives whatever end it has
abbrev pub Ended : Tree → Evaluator → Result ends.End Stop → Evaluator → Type 0
Ended t k (Ok e) k' = Plays (prog.end_of t) k (Ok (end_of e)) k' (is_budget_end (end_of e)) × GoodEnd k'.depth k' e
Ended t k (Err Memory) k' = ⊤
Ended t k (Err (Thrown v u)) k' = ⊥
Ended t k (Err Aborted) k' = ⊥
Ended t k (Err BudgetEnded) k' = ⊥
Ended t k (Err Broke) k' = ⊥
Ended t k (Err Continued) k' = ⊥

-- the turns of an evaluation, from the c-th on
pub record PlaysTurns (c : ℕ) (t : Tree) (k : Evaluator) (e : spec.End) (k' : Evaluator) : Type 0 where
  pub ends : (final (Turns c t (state k))).result ≡ e
  pub leaves : (Turns c t (state k)).state ≡ state k'
  pub out : (Turns c t (state k)).did.out ≡ is_budget_end e
  pub notes : Notes k (Turns c t (state k)).did k'
  pub grows : Grows k.store k'.store
  pub sound : Sound k → Sound k'

abbrev pub TurnsEnd : ℕ → Tree → Evaluator → Result ends.End Stop → Evaluator → Type 0
TurnsEnd c t k (Ok e) k' = PlaysTurns c t k (end_of e) k' × GoodEnd (k'.depth - 1) k' e
TurnsEnd c t k (Err Memory) k' = ⊤
TurnsEnd c t k (Err (Thrown v u)) k' = ⊥
TurnsEnd c t k (Err Aborted) k' = ⊥
TurnsEnd c t k (Err BudgetEnded) k' = ⊥
TurnsEnd c t k (Err Broke) k' = ⊥
TurnsEnd c t k (Err Continued) k' = ⊥

-- a stop of a turn as the end of an evaluation
abbrev pub Stops : Stop → Result ends.End Stop → Type 0
Stops Memory r = r ≡ Err Memory
Stops (Thrown v t) r = r ≡ Ok (end.Thrown v t)
Stops Aborted r = r ≡ Ok end.Aborted
Stops BudgetEnded r = r ≡ Ok end.BudgetEnded
Stops Broke r = r ≡ Ok end.Broke
Stops Continued r = r ≡ Ok end.Continued

-- the value of an end, or the end as a stop
abbrev pub Valued : ends.End → Result Stamped Stop → Type 0
Valued (end.Value v) r = r ≡ Ok v
Valued (end.Thrown v t) r = r ≡ Err (Thrown v t)
Valued end.Aborted r = r ≡ Err Aborted
Valued end.BudgetEnded r = r ≡ Err BudgetEnded
Valued end.Broke r = r ≡ Err Broke
Valued end.Continued r = r ≡ Err Continued

-- ---- looks and what is taken out

abbrev pub AllHonestRules : Evaluator → List Rule → Type 0
AllHonestRules k rs = All (HonestRule k.store) rs

-- a look at the entry of a name, which has this index
pub record Looked (x : Name) (k : Evaluator) (i : ℕ) (k' : Evaluator) : Type 0 where
  pub plays : Plays (prog.entry_of x) k (Ok (definitions k.store x)) k' false
  pub index : IsIndex i k'.store
  pub name : name_at i k'.store ≡ x

-- the number of a limit with these own rules, where the name is that of one
pub record IsLimit (x : Name) (own : List PlainRule) (n : ℕ) : Type 0 where
  pub recursion : x ≡ recursion_limit → (number_in own ≡ n) × (n ≤ 512)
  pub iteration : x ≡ iteration_limit → (number_in own ≡ n) × (n ≤ 1000000)

-- what was taken out of the entry of this name
pub record IsTaken (k : Evaluator) (x : Name) (t : Taken) : Type 0 where
  pub index : IsIndex t.index k.store
  pub name : name_at t.index k.store ≡ x
  pub honest : HonestRules k.store t.rules
  pub limit : IsLimit x (map plain_rule t.rules.own) t.number

-- the evaluator with this number of a limit, where the name is that of one
abbrev pub with_number : Name → ℕ → Evaluator → Evaluator
with_number x n k = record k { recursion = if bytes_eq x recursion_limit then n else k.recursion; iteration = if bytes_eq x iteration_limit then n else k.iteration }

abbrev pub IsUnprotected : Name → Evaluator → Type 0
IsUnprotected x k = (definitions k.store x).attributes.protected ≡ false

-- a limit gets no value but an allowed one
abbrev pub MayHave : Name → Tree → Type 0
MayHave x v = is_limit x ≡ true → limit_allows x v ≡ true

-- a rule with this left side was taken away, where there was one, which a look has told before
pub record TakesAway (x : Name) (kind : RuleKind) (l : Tree) (k : Evaluator) (b : Bool) (k' : Evaluator) : Type 0 where
  pub between : Evaluator
  pub looks : Plays (prog.entry_of x) k (Ok (definitions k.store x)) between false
  pub found : b ≡ has_left left_side l (of_kind kind (definitions k.store x).rules)
  pub taken : b ≡ true → Plays (prog.doing (prog.remove_rule x kind l)) between (Ok tt) k' false
  pub none : b ≡ false → k' ≡ between

-- ---- built expressions

-- what was made is this tree, or it is too large
abbrev pub Makes : Tree → Result Stamped ExprFault → Type 0
Makes t (Ok e) = plain e ≡ t
Makes t (Err fault.Memory) = ⊤
Makes t (Err fault.Large) = fits t ≡ false

-- a stop by what is too large, of which the message has told
abbrev pub TooLarge : Evaluator → Stop → Evaluator → Type 0
TooLarge k Memory k' = ⊤
TooLarge k Aborted k' = Plays (prog.message (codes "General") (codes "large") []) k (Ok tt) k' false
TooLarge k (Thrown v t) k' = ⊥
TooLarge k BudgetEnded k' = ⊥
TooLarge k Broke k' = ⊥
TooLarge k Continued k' = ⊥

-- a stop by this fault
abbrev pub FaultStops : ExprFault → Evaluator → Stop → Evaluator → Type 0
FaultStops fault.Memory k e k' = e ≡ Memory
FaultStops fault.Large k e k' = TooLarge k e k'
