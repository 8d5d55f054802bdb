-- The table of operators, one line a row. Level 1 binds tightest. The table is this project's own; it follows the
-- operator table of the Wolfram Language tutorials where it can.
use Rattle.std.specs.Prelude.{ℕ, Bool, true, false, ◌||◌, ◌&&◌, ◌==◌, nat_lt, not, Option, Some, None, List, [], ◌∷◌, codes}
use Rattle.wl_syntax.specs.declared.operator.Infix.{Infix}
use Rattle.wl_syntax.specs.declared.operator.Infix.TheVariants.{Message, PatternTest, Of, Map, Apply, MapApply, StringJoin, Power, Divide, Times, Beside, Plus, Minus, Equal, Unequal, Less, LessEqual, Greater, GreaterEqual, SameQ, UnsameQ, And, Or, Alternatives, Colon, StringExpression, Condition, Rule, RuleDelayed, ReplaceAll, ReplaceRepeated, AddTo, SubtractFrom, TimesBy, DivideBy, Into, Set, SetDelayed, UpSet, UpSetDelayed, Tag, Semi}
use Rattle.wl_syntax.specs.declared.operator.Prefix.{Prefix}
use Rattle.wl_syntax.specs.declared.operator.Prefix.TheVariants.{PreIncrement, PreDecrement, Negate, Not}
use Rattle.wl_syntax.specs.declared.operator.Postfix.{Postfix}
use Rattle.wl_syntax.specs.declared.operator.Postfix.TheVariants.{Increment, Decrement, Factorial, Repeated, RepeatedNull, Function, Unset}
use Rattle.wl_syntax.specs.declared.operator.Sign.{Sign}
use Rattle.wl_syntax.specs.declared.operator.Sign.TheVariants as sign

-- a call and a part, `f[a]` and `e[[i]]`
abbrev pub square_level : ℕ
square_level = 3

-- the two kinds of `;`
abbrev pub semi_level : ℕ
semi_level = 30

-- what ends an element, a bracket or the text: looser than each operator
abbrev pub end_level : ℕ
end_level = 31

unfoldable pub infix_level : Infix → ℕ
infix_level Message = 1
infix_level PatternTest = 2
infix_level Of = 5
infix_level Map = 6
infix_level Apply = 6
infix_level MapApply = 6
infix_level StringJoin = 8
infix_level Power = 9
infix_level Divide = 11
infix_level Times = 12
infix_level Beside = 12
infix_level Plus = 13
infix_level Minus = 13
infix_level Equal = 14
infix_level Unequal = 14
infix_level Less = 14
infix_level LessEqual = 14
infix_level Greater = 14
infix_level GreaterEqual = 14
infix_level SameQ = 15
infix_level UnsameQ = 15
infix_level And = 17
infix_level Or = 18
infix_level Alternatives = 20
infix_level Colon = 21
infix_level StringExpression = 22
infix_level Condition = 23
infix_level Rule = 24
infix_level RuleDelayed = 24
infix_level ReplaceAll = 25
infix_level ReplaceRepeated = 25
infix_level AddTo = 26
infix_level SubtractFrom = 26
infix_level TimesBy = 26
infix_level DivideBy = 26
infix_level Into = 28
infix_level Set = 29
infix_level SetDelayed = 29
infix_level UpSet = 29
infix_level UpSetDelayed = 29
infix_level Tag = 29
infix_level Semi = semi_level

unfoldable pub prefix_level : Prefix → ℕ
prefix_level PreIncrement = 4
prefix_level PreDecrement = 4
prefix_level Negate = 10
prefix_level Not = 16

unfoldable pub postfix_level : Postfix → ℕ
postfix_level Increment = 4
postfix_level Decrement = 4
postfix_level Factorial = 7
postfix_level Repeated = 19
postfix_level RepeatedNull = 19
postfix_level Function = 27
postfix_level Unset = 29

-- At equal levels these take the equal one on their right side, these on their left, and those of levels 1 and 2 on neither.
unfoldable pub leans_right : ℕ → Bool
leans_right n = (n == 4) || ((n == 5) || ((n == 6) || ((n == 9) || ((n == 24) || ((n == 26) || (n == 29))))))

unfoldable pub leans_left : ℕ → Bool
leans_left n = not (leans_right n) && nat_lt 2 n

-- an operator of level q may have one of level p on the right edge of its left child
unfoldable pub takes : ℕ → ℕ → Bool
takes q p = nat_lt p q || ((p == q) && leans_left q)

-- an operator of level p may have one of level q on the left edge of its right child
unfoldable pub leaves : ℕ → ℕ → Bool
leaves p q = nat_lt q p || ((q == p) && leans_right p)

-- what a sign is behind an operand; `;` is infix or postfix by the next token
pub data Role : Type 0 where
  joins : Infix → Role
  ends : Postfix → Role
  parts : Role
  nothing : Role

unfoldable pub role : Sign → Role
role sign.ColonColon = joins Message
role sign.Question = joins PatternTest
role sign.At = joins Of
role sign.SlashAt = joins Map
role sign.AtAt = joins Apply
role sign.AtAtAt = joins MapApply
role sign.LessGreater = joins StringJoin
role sign.Caret = joins Power
role sign.Slash = joins Divide
role sign.Star = joins Times
role sign.Plus = joins Plus
role sign.Dash = joins Minus
role sign.EqualsEquals = joins Equal
role sign.BangEquals = joins Unequal
role sign.Less = joins Less
role sign.LessEquals = joins LessEqual
role sign.Greater = joins Greater
role sign.GreaterEquals = joins GreaterEqual
role sign.EqualsEqualsEquals = joins SameQ
role sign.EqualsBangEquals = joins UnsameQ
role sign.AmpersandAmpersand = joins And
role sign.BarBar = joins Or
role sign.Bar = joins Alternatives
role sign.Colon = joins Colon
role sign.TildeTilde = joins StringExpression
role sign.SlashSemicolon = joins Condition
role sign.DashGreater = joins Rule
role sign.ColonGreater = joins RuleDelayed
role sign.SlashDot = joins ReplaceAll
role sign.SlashSlashDot = joins ReplaceRepeated
role sign.PlusEquals = joins AddTo
role sign.DashEquals = joins SubtractFrom
role sign.StarEquals = joins TimesBy
role sign.SlashEquals = joins DivideBy
role sign.SlashSlash = joins Into
role sign.Equals = joins Set
role sign.ColonEquals = joins SetDelayed
role sign.CaretEquals = joins UpSet
role sign.CaretColonEquals = joins UpSetDelayed
role sign.SlashColon = joins Tag
role sign.Semicolon = parts
role sign.PlusPlus = ends Increment
role sign.MinusMinus = ends Decrement
role sign.Bang = ends Factorial
role sign.DotDot = ends Repeated
role sign.DotDotDot = ends RepeatedNull
role sign.Ampersand = ends Function
role sign.EqualsDot = ends Unset
role sign.Unused = nothing

-- what a sign is where an operand is wanted
unfoldable pub prefix_of : Sign → Option Prefix
prefix_of sign.PlusPlus = Some PreIncrement
prefix_of sign.MinusMinus = Some PreDecrement
prefix_of sign.Dash = Some Negate
prefix_of sign.Bang = Some Not
prefix_of _ = None

-- the sign of an operator; a juxtaposition has none
unfoldable pub infix_sign : Infix → Option Sign
infix_sign Message = Some sign.ColonColon
infix_sign PatternTest = Some sign.Question
infix_sign Of = Some sign.At
infix_sign Map = Some sign.SlashAt
infix_sign Apply = Some sign.AtAt
infix_sign MapApply = Some sign.AtAtAt
infix_sign StringJoin = Some sign.LessGreater
infix_sign Power = Some sign.Caret
infix_sign Divide = Some sign.Slash
infix_sign Times = Some sign.Star
infix_sign Beside = None
infix_sign Plus = Some sign.Plus
infix_sign Minus = Some sign.Dash
infix_sign Equal = Some sign.EqualsEquals
infix_sign Unequal = Some sign.BangEquals
infix_sign Less = Some sign.Less
infix_sign LessEqual = Some sign.LessEquals
infix_sign Greater = Some sign.Greater
infix_sign GreaterEqual = Some sign.GreaterEquals
infix_sign SameQ = Some sign.EqualsEqualsEquals
infix_sign UnsameQ = Some sign.EqualsBangEquals
infix_sign And = Some sign.AmpersandAmpersand
infix_sign Or = Some sign.BarBar
infix_sign Alternatives = Some sign.Bar
infix_sign Colon = Some sign.Colon
infix_sign StringExpression = Some sign.TildeTilde
infix_sign Condition = Some sign.SlashSemicolon
infix_sign Rule = Some sign.DashGreater
infix_sign RuleDelayed = Some sign.ColonGreater
infix_sign ReplaceAll = Some sign.SlashDot
infix_sign ReplaceRepeated = Some sign.SlashSlashDot
infix_sign AddTo = Some sign.PlusEquals
infix_sign SubtractFrom = Some sign.DashEquals
infix_sign TimesBy = Some sign.StarEquals
infix_sign DivideBy = Some sign.SlashEquals
infix_sign Into = Some sign.SlashSlash
infix_sign Set = Some sign.Equals
infix_sign SetDelayed = Some sign.ColonEquals
infix_sign UpSet = Some sign.CaretEquals
infix_sign UpSetDelayed = Some sign.CaretColonEquals
infix_sign Tag = Some sign.SlashColon
infix_sign Semi = Some sign.Semicolon

unfoldable pub prefix_sign : Prefix → Sign
prefix_sign PreIncrement = sign.PlusPlus
prefix_sign PreDecrement = sign.MinusMinus
prefix_sign Negate = sign.Dash
prefix_sign Not = sign.Bang

unfoldable pub postfix_sign : Postfix → Sign
postfix_sign Increment = sign.PlusPlus
postfix_sign Decrement = sign.MinusMinus
postfix_sign Factorial = sign.Bang
postfix_sign Repeated = sign.DotDot
postfix_sign RepeatedNull = sign.DotDotDot
postfix_sign Function = sign.Ampersand
postfix_sign Unset = sign.EqualsDot

-- The heads of the full forms. Juxtaposition is a product, and a difference is a sum; `@`, `/`, `:`, `//` and `/:` have forms of
-- their own, in which these names don't stand.
abbrev pub infix_name : Infix → List ℕ
infix_name Message = codes "MessageName"
infix_name PatternTest = codes "PatternTest"
infix_name Of = codes "Prefix"
infix_name Map = codes "Map"
infix_name Apply = codes "Apply"
infix_name MapApply = codes "MapApply"
infix_name StringJoin = codes "StringJoin"
infix_name Power = codes "Power"
infix_name Divide = codes "Divide"
infix_name Times = codes "Times"
infix_name Beside = codes "Times"
infix_name Plus = codes "Plus"
infix_name Minus = codes "Plus"
infix_name Equal = codes "Equal"
infix_name Unequal = codes "Unequal"
infix_name Less = codes "Less"
infix_name LessEqual = codes "LessEqual"
infix_name Greater = codes "Greater"
infix_name GreaterEqual = codes "GreaterEqual"
infix_name SameQ = codes "SameQ"
infix_name UnsameQ = codes "UnsameQ"
infix_name And = codes "And"
infix_name Or = codes "Or"
infix_name Alternatives = codes "Alternatives"
infix_name Colon = codes "Optional"
infix_name StringExpression = codes "StringExpression"
infix_name Condition = codes "Condition"
infix_name Rule = codes "Rule"
infix_name RuleDelayed = codes "RuleDelayed"
infix_name ReplaceAll = codes "ReplaceAll"
infix_name ReplaceRepeated = codes "ReplaceRepeated"
infix_name AddTo = codes "AddTo"
infix_name SubtractFrom = codes "SubtractFrom"
infix_name TimesBy = codes "TimesBy"
infix_name DivideBy = codes "DivideBy"
infix_name Into = codes "Postfix"
infix_name Set = codes "Set"
infix_name SetDelayed = codes "SetDelayed"
infix_name UpSet = codes "UpSet"
infix_name UpSetDelayed = codes "UpSetDelayed"
infix_name Tag = codes "TagSet"
infix_name Semi = codes "CompoundExpression"

abbrev pub prefix_name : Prefix → List ℕ
prefix_name PreIncrement = codes "PreIncrement"
prefix_name PreDecrement = codes "PreDecrement"
prefix_name Negate = codes "Times"
prefix_name Not = codes "Not"

abbrev pub postfix_name : Postfix → List ℕ
postfix_name Increment = codes "Increment"
postfix_name Decrement = codes "Decrement"
postfix_name Factorial = codes "Factorial"
postfix_name Repeated = codes "Repeated"
postfix_name RepeatedNull = codes "RepeatedNull"
postfix_name Function = codes "Function"
postfix_name Unset = codes "Unset"

-- the heads are ASCII letters
abbrev pub all_letters : List ℕ → Bool
all_letters [] = true
all_letters (b ∷ bs) = ((nat_lt 64 b && nat_lt b 91) || (nat_lt 96 b && nat_lt b 123)) && all_letters bs

abbrev pub is_head : List ℕ → Bool
is_head [] = false
is_head s = all_letters s
