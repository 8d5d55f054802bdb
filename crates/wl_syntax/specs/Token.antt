-- Tokens as the grammar sees them: atoms, each with its text, signs of operators, brackets and the comma.
use Rattle.std.specs.Prelude.{ℕ, List}
use Rattle.wl_syntax.specs.declared.operator.Sign.{Sign}

pub data Atom : Type 0 where
  number : List ℕ → Atom
  name : List ℕ → Atom
  pattern : List ℕ → Atom
  slot : List ℕ → Atom
  output : List ℕ → Atom
  text : List ℕ → Atom

pub data Token : Type 0 where
  atom : Atom → Token
  sign : Sign → Token
  open_round : Token
  close_round : Token
  open_square : Token
  close_square : Token
  open_brace : Token
  close_brace : Token
  comma : Token
