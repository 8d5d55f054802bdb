-- Trees as lists of nodes, each behind its operands.
use Rattle.std.specs.Prelude.{List, [], ◌∷◌, ◌++◌}
use Rattle.wl_syntax.specs.declared.operator.Infix.{Infix}
use Rattle.wl_syntax.specs.declared.operator.Prefix.{Prefix}
use Rattle.wl_syntax.specs.declared.operator.Postfix.{Postfix}
use Rattle.wl_syntax.specs.declared.token.Atom.{Atom as CodeAtom}
use Rattle.wl_syntax.specs.declared.token.Atom.TheVariants as code_atom
use Rattle.wl_syntax.specs.declared.token.Token.{Token as CodeToken}
use Rattle.wl_syntax.specs.declared.token.Token.TheVariants as code_token
use Rattle.wl_syntax.specs.declared.token.Node.{Node as CodeNode}
use Rattle.wl_syntax.specs.declared.token.Node.TheVariants as code_node
use Rattle.wl_syntax.specs.Token.{Atom, number, name, pattern, slot, output, text, Token}
use Rattle.wl_syntax.specs.Token as token
use Rattle.wl_syntax.specs.Tree.{Tree, leaf, paren, brace, call, part, before, after, last, between, Elems, none, more}

pub data Node : Type 0 where
  leaf_node : Atom → Node
  list_node : Node
  paren_node : Node
  element_node : Node
  call_node : Node
  part_node : Node
  before_node : Prefix → Node
  after_node : Postfix → Node
  last_node : Node
  between_node : Infix → Node

unfoldable mutual
  pub polish : Tree → List Node
  polish (leaf a) = leaf_node a ∷ []
  polish (paren t) = polish t ++ paren_node ∷ []
  polish (brace xs) = list_node ∷ (polish_elems xs ++ call_node ∷ [])
  polish (call f xs) = polish f ++ (polish_elems xs ++ call_node ∷ [])
  polish (part f xs t) = polish f ++ (polish_elems xs ++ (polish t ++ element_node ∷ part_node ∷ []))
  polish (before o t) = polish t ++ before_node o ∷ []
  polish (after t o) = polish t ++ after_node o ∷ []
  polish (last t) = polish t ++ last_node ∷ []
  polish (between l o r) = polish l ++ (polish r ++ between_node o ∷ [])

  pub polish_elems : Elems → List Node
  polish_elems none = []
  polish_elems (more xs t) = polish_elems xs ++ (polish t ++ element_node ∷ [])

-- the code's atoms, tokens and nodes with the texts that they lend
abbrev pub atom_of : CodeAtom → Atom
atom_of (code_atom.Number s) = number s.now
atom_of (code_atom.Name s) = name s.now
atom_of (code_atom.Pattern s) = pattern s.now
atom_of (code_atom.Slot s) = slot s.now
atom_of (code_atom.Out s) = output s.now
atom_of (code_atom.Text s) = text s.now

abbrev pub token_of : CodeToken → Token
token_of (code_token.Atom a) = token.atom (atom_of a)
token_of (code_token.Sign g) = token.sign g
token_of code_token.OpenRound = token.open_round
token_of code_token.CloseRound = token.close_round
token_of code_token.OpenSquare = token.open_square
token_of code_token.CloseSquare = token.close_square
token_of code_token.OpenBrace = token.open_brace
token_of code_token.CloseBrace = token.close_brace
token_of code_token.Comma = token.comma

abbrev pub node_of : CodeNode → Node
node_of (code_node.Leaf a) = leaf_node (atom_of a)
node_of code_node.List = list_node
node_of code_node.Paren = paren_node
node_of code_node.Element = element_node
node_of code_node.Call = call_node
node_of code_node.Part = part_node
node_of (code_node.Before o) = before_node o
node_of (code_node.After o) = after_node o
node_of code_node.Last = last_node
node_of (code_node.Between o) = between_node o
