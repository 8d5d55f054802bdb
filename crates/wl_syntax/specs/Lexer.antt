-- The tokens of a scan as the grammar sees them.
use Rattle.std.specs.Prelude.{ℕ, List, [], ◌∷◌, map, codes, if◌then◌else◌}
use Rattle.std.specs.Str.{bytes_eq}
use Rattle.wl_scan.specs.Tokens.{Lexeme, scanned}
use Rattle.wl_scan.specs.declared.token.Kind.{Kind}
use Rattle.wl_scan.specs.declared.token.Kind.TheVariants.{Number, Name, Pattern, Slot, Out, Text, Sign}
use Rattle.wl_syntax.specs.declared.operator.Sign.TheVariants as sign
use Rattle.wl_syntax.specs.Token.{Atom, number, name, pattern, slot, output, text, Token}
use Rattle.wl_syntax.specs.Token as token

-- the brackets, the comma and the signs of operators, each with its token
abbrev pub signs : List (List ℕ × Token)
signs =
    (codes "(", token.open_round)
    ∷ (codes ")", token.close_round)
    ∷ (codes "[", token.open_square)
    ∷ (codes "]", token.close_square)
    ∷ (codes "{", token.open_brace)
    ∷ (codes "}", token.close_brace)
    ∷ (codes ",", token.comma)
    ∷ (codes "::", token.sign sign.ColonColon)
    ∷ (codes "?", token.sign sign.Question)
    ∷ (codes "@", token.sign sign.At)
    ∷ (codes "/@", token.sign sign.SlashAt)
    ∷ (codes "@@", token.sign sign.AtAt)
    ∷ (codes "@@@", token.sign sign.AtAtAt)
    ∷ (codes "<>", token.sign sign.LessGreater)
    ∷ (codes "^", token.sign sign.Caret)
    ∷ (codes "/", token.sign sign.Slash)
    ∷ (codes "*", token.sign sign.Star)
    ∷ (codes "+", token.sign sign.Plus)
    ∷ (codes "-", token.sign sign.Dash)
    ∷ (codes "==", token.sign sign.EqualsEquals)
    ∷ (codes "!=", token.sign sign.BangEquals)
    ∷ (codes "<", token.sign sign.Less)
    ∷ (codes "<=", token.sign sign.LessEquals)
    ∷ (codes ">", token.sign sign.Greater)
    ∷ (codes ">=", token.sign sign.GreaterEquals)
    ∷ (codes "===", token.sign sign.EqualsEqualsEquals)
    ∷ (codes "=!=", token.sign sign.EqualsBangEquals)
    ∷ (codes "&&", token.sign sign.AmpersandAmpersand)
    ∷ (codes "||", token.sign sign.BarBar)
    ∷ (codes "|", token.sign sign.Bar)
    ∷ (codes ":", token.sign sign.Colon)
    ∷ (codes "~~", token.sign sign.TildeTilde)
    ∷ (codes "/;", token.sign sign.SlashSemicolon)
    ∷ (codes "->", token.sign sign.DashGreater)
    ∷ (codes ":>", token.sign sign.ColonGreater)
    ∷ (codes "/.", token.sign sign.SlashDot)
    ∷ (codes "//.", token.sign sign.SlashSlashDot)
    ∷ (codes "+=", token.sign sign.PlusEquals)
    ∷ (codes "-=", token.sign sign.DashEquals)
    ∷ (codes "*=", token.sign sign.StarEquals)
    ∷ (codes "/=", token.sign sign.SlashEquals)
    ∷ (codes "//", token.sign sign.SlashSlash)
    ∷ (codes "=", token.sign sign.Equals)
    ∷ (codes ":=", token.sign sign.ColonEquals)
    ∷ (codes "^=", token.sign sign.CaretEquals)
    ∷ (codes "^:=", token.sign sign.CaretColonEquals)
    ∷ (codes "/:", token.sign sign.SlashColon)
    ∷ (codes ";", token.sign sign.Semicolon)
    ∷ (codes "++", token.sign sign.PlusPlus)
    ∷ (codes "--", token.sign sign.MinusMinus)
    ∷ (codes "!", token.sign sign.Bang)
    ∷ (codes "..", token.sign sign.DotDot)
    ∷ (codes "...", token.sign sign.DotDotDot)
    ∷ (codes "&", token.sign sign.Ampersand)
    ∷ (codes "=.", token.sign sign.EqualsDot)
    ∷ []

-- the token of the first row with this text; a sign of no row stands in no right tree
abbrev pub looked_up : List (List ℕ × Token) → List ℕ → Token
looked_up [] s = token.sign sign.Unused
looked_up (row ∷ more) s = if bytes_eq s row.0 then row.1 else looked_up more s

abbrev pub token_of_kind : Kind → List ℕ → Token
token_of_kind Number s = token.atom (number s)
token_of_kind Name s = token.atom (name s)
token_of_kind Pattern s = token.atom (pattern s)
token_of_kind Slot s = token.atom (slot s)
token_of_kind Out s = token.atom (output s)
token_of_kind Text s = token.atom (text s)
token_of_kind Sign s = looked_up signs s

abbrev pub grammar_token : Lexeme → Token
grammar_token l = token_of_kind l.kind l.text

-- the tokens of a text
abbrev pub tokens : List ℕ → List Token
tokens bytes = map grammar_token (scanned bytes).tokens
