-- How the machine of the code stands for a state: finished nodes in a list, what is open in another.
use Rattle.std.specs.Prelude.{Bool, true, false, ◌≡◌, List, [], ◌∷◌, ◌++◌, map}
use Rattle.wl_syntax.specs.declared.machine.Entry.{Entry}
use Rattle.wl_syntax.specs.declared.machine.Entry.TheVariants as entry
use Rattle.wl_syntax.specs.declared.machine.Standing.{Standing}
use Rattle.wl_syntax.specs.declared.machine.Standing.TheVariants.{Wants, Has, Semi, Shuts, Dead}
use Rattle.wl_syntax.specs.declared.token.Node.{Node as CodeNode}
use Rattle.wl_syntax.specs.declared.operator.Infix.TheVariants.{Set, SetDelayed}
use Rattle.wl_syntax.specs.declared.operator.Postfix.TheVariants.{Unset}
use Rattle.wl_syntax.specs.Token.{name}
use Rattle.wl_syntax.specs.Tree.{Tree, leaf, paren, brace, call, part, before, after, last, between, none, more}
use Rattle.wl_syntax.specs.Machine.{Open, open_infix, open_prefix, open_round, open_brace, open_call, open_part, State, wants, has, semi, shuts, dead}
use Rattle.wl_syntax.specs.Polish.{Node, leaf_node, list_node, paren_node, call_node, part_node, before_node, after_node, last_node, between_node, polish, polish_elems, node_of}

-- the operands of what is open
unfoldable pub out_of : List Open → List Node
out_of [] = []
out_of (open_infix l o ∷ s) = out_of s ++ polish l
out_of (open_prefix o ∷ s) = out_of s
out_of (open_round ∷ s) = out_of s
out_of (open_brace xs ∷ s) = out_of s ++ list_node ∷ polish_elems xs
out_of (open_call f xs ∷ s) = out_of s ++ (polish f ++ polish_elems xs)
out_of (open_part f xs ∷ s) = out_of s ++ (polish f ++ polish_elems xs)

abbrev pub entry_of : Open → Entry
entry_of (open_infix l o) = entry.Infix o
entry_of (open_prefix o) = entry.Prefix o
entry_of open_round = entry.Round
entry_of (open_brace none) = entry.Brace
entry_of (open_brace (more xs t)) = entry.BraceMore
entry_of (open_call f none) = entry.Call
entry_of (open_call f (more xs t)) = entry.CallMore
entry_of (open_part f xs) = entry.Part

unfoldable pub entries : List Open → List Entry
entries [] = []
entries (o ∷ s) = entries s ++ entry_of o ∷ []

-- the last node of a tree
abbrev pub root_of : Tree → Node
root_of (leaf a) = leaf_node a
root_of (paren t) = paren_node
root_of (brace xs) = call_node
root_of (call f xs) = call_node
root_of (part f xs t) = part_node
root_of (before o t) = before_node o
root_of (after t o) = after_node o
root_of (last t) = last_node
root_of (between l o r) = between_node o

-- whether a tree of this root is a definition, or a name
abbrev pub node_defines : Node → Bool
node_defines (between_node Set) = true
node_defines (between_node SetDelayed) = true
node_defines (after_node Unset) = true
node_defines _ = false

abbrev pub node_names : Node → Bool
node_names (leaf_node (name _)) = true
node_names _ = false

abbrev pub nodes : List CodeNode → List Node
nodes ns = map node_of ns

-- what the fields stand for
abbrev pub Stand : Standing → List Node → List Entry → State → Type 0
Stand b out pending (wants s) = (b ≡ Wants) × (out ≡ out_of s) × (pending ≡ entries s)
Stand b out pending (has s x) = (b ≡ Has) × (out ≡ out_of s ++ polish x) × (pending ≡ entries s)
Stand b out pending (semi s x) = (b ≡ Semi) × (out ≡ out_of s ++ polish x) × (pending ≡ entries s)
Stand b out pending (shuts s x) = (b ≡ Shuts) × (out ≡ out_of s ++ polish x) × (pending ≡ entries s)
Stand b out pending dead = b ≡ Dead
