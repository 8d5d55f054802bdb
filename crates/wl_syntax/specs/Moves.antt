-- What a function of the machine does to each state that its fields stand for.
use Rattle.std.specs.Prelude.{ℕ, Bool, true, false, ◌≡◌, ◌≢◌, ◌<◌, ◌⊎◌, List, [], ◌∷◌, ◌++◌, Option, Some, None, Result, Ok, Err, vec_len}
use Rattle.wl_syntax.specs.declared.machine.Entry.{Entry}
use Rattle.wl_syntax.specs.declared.machine.Machine.{Machine}
use Rattle.wl_syntax.specs.declared.machine.Standing.TheVariants.{Wants, Has}
use Rattle.wl_syntax.specs.declared.token.Node.{Node as CodeNode}
use Rattle.wl_syntax.specs.declared.machine.Standing.{Standing}
use Rattle.wl_syntax.specs.Tree.{Tree}
use Rattle.wl_syntax.specs.Machine.{Open, State, wants, dead, closed, finish}
use Rattle.wl_syntax.specs.Polish.{Node, element_node, polish}
use Rattle.wl_syntax.specs.Flat.{Stand, nodes, entries}

abbrev pub Holds : Machine → State → Type 0
Holds m st = Stand m.standing (nodes m.out.items) m.pending.items st

abbrev pub Moves : Machine → Machine → (State → State) → Type 0
Moves m n f = (st : State) → Holds m st → Holds n (f st)

-- Either an operator was closed and more may be, or all that an operator of level q closes is closed.
abbrev pub Closes : {E : Type 0} → Machine → Machine → ℕ → Result Bool E → Type 0
Closes m n q (Ok true) = (n.standing ≡ Has) × (vec_len n.pending < vec_len m.pending) × ((st : State) → Holds m st → (to : State) × Holds n to × (closed q st ≡ closed q to))
Closes m n q (Ok false) = Moves m n (closed q)
Closes m n q (Err e) = Unit {0}

-- the innermost open entry is taken off
abbrev pub Taken : Machine → Machine → Option Entry → Type 0
Taken m n (Some e) = (n.standing ≡ m.standing) × (n.out.items ≡ m.out.items) × (m.pending.items ≡ n.pending.items ++ e ∷ []) × (vec_len n.pending < vec_len m.pending)
Taken m n None = (n.standing ≡ m.standing) × (n.out.items ≡ m.out.items) × (n.pending.items ≡ m.pending.items) × (m.pending.items ≡ [])

-- the same where an operand stands
abbrev pub Popped : Machine → Machine → Option Entry → Type 0
Popped m n (Some e) = (m.standing ≡ Has) × (n.standing ≡ Has) × (n.out.items ≡ m.out.items) × (m.pending.items ≡ n.pending.items ++ e ∷ []) × (vec_len n.pending < vec_len m.pending)
Popped m n None = ((m.standing ≢ Has) ⊎ (m.pending.items ≡ [])) × (n.standing ≡ m.standing) × (n.out.items ≡ m.out.items) × (n.pending.items ≡ m.pending.items)

-- the last node
abbrev pub IsRoot : List CodeNode → Option CodeNode → Type 0
IsRoot ns (Some n) = (ms : List CodeNode) × (ns ≡ ms ++ n ∷ [])
IsRoot ns None = ns ≡ []

-- the innermost open entry
abbrev pub IsTop : List Entry → Option Entry → Type 0
IsTop p (Some e) = (q : List Entry) × (p ≡ q ++ e ∷ [])
IsTop p None = p ≡ []

-- the last node, which is the operand's root
abbrev pub OfOperand : List Node → Bool → (Tree → Bool) → Type 0
OfOperand ns b test = (ms : List Node) (x : Tree) → ns ≡ ms ++ polish x → b ≡ test x

-- a fact of what is open
abbrev pub OfOpen : List Entry → Bool → (List Open → Bool) → Type 0
OfOpen p b test = (s : List Open) → p ≡ entries s → b ≡ test s

-- nodes are put behind the others
abbrev pub EmitsAs : Machine → Machine → List Node → Standing → Type 0
EmitsAs m n ns b = (nodes n.out.items ≡ nodes m.out.items ++ ns) × (n.pending.items ≡ m.pending.items) × (n.standing ≡ b)

abbrev pub Emits : Machine → Machine → List Node → Type 0
Emits m n ns = EmitsAs m n ns m.standing

-- an element ended in a bracket that is now this entry
abbrev pub NextIn : Machine → Machine → Entry → Type 0
NextIn m n e = (nodes n.out.items ≡ nodes m.out.items ++ element_node ∷ []) × (n.pending.items ≡ m.pending.items ++ e ∷ []) × (n.standing ≡ Wants)

-- a function of what is open, where an operand is wanted
abbrev pub at_wants : (List Open → State) → State → State
at_wants f (wants s) = f s
at_wants f st = dead

-- The text ends: with a tree, whose nodes these are, or without.
abbrev pub Finishes : Machine → Machine → Bool → Type 0
Finishes m n true = (st : State) → Holds m st → (t : Tree) × (finish st ≡ Some t) × (nodes n.out.items ≡ polish t)
Finishes m n false = (st : State) → Holds m st → finish st ≡ None
