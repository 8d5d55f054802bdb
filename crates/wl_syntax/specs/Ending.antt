-- How a list of tokens is ended, computed from its tokens alone: an operand where one is wanted, then each level's missing
-- definition and its closing sign. A list that has a right tree once it is so ended is viable; another has a token too many.
-- The ending is this project's own.
use Rattle.std.specs.Prelude.{◌≡◌, List, [], ◌∷◌, ◌++◌}
use Rattle.wl_syntax.specs.declared.operator.Sign.{Sign}
use Rattle.wl_syntax.specs.declared.operator.Sign.TheVariants as sign
use Rattle.wl_syntax.specs.declared.tags.Tagging.{Tagging}
use Rattle.wl_syntax.specs.declared.tags.Tagging.TheVariants.{Untagged, Tagged, Dotted}
use Rattle.wl_syntax.specs.Table.{Role, joins, ends, parts, nothing, role}
use Rattle.wl_syntax.specs.Token.{name, Token}
use Rattle.wl_syntax.specs.Token as token
use Rattle.wl_syntax.specs.Tree.{Tree, Right, reads}

pub data Closer : Type 0 where
  round : Closer
  square : Closer
  curly : Closer

abbrev pub closer : Closer → Token
closer round = token.close_round
closer square = token.close_square
closer curly = token.close_brace

-- an open bracket, and the level outside it
pub data Level : Type 0 where
  level : Closer → Tagging → Level

-- the operand of an ending, the name `a`
abbrev pub any_name : Token
any_name = token.atom (name (97 ∷ []))

-- the definition that a level lacks
abbrev pub definition : Tagging → List Token
definition Tagged = token.sign sign.Equals ∷ any_name ∷ []
definition _ = []

unfoldable pub closing : List Level → List Token
closing [] = []
closing (level b g ∷ ls) = closer b ∷ (definition g ++ closing ls)

-- an operand is wanted; one stands there; a `;` stands behind one
pub data Mode : Type 0 where
  wanted : Mode
  behind : Mode
  parted : Mode

unfoldable pub role_mode : Role → Mode
role_mode (joins _) = wanted
role_mode (ends _) = behind
role_mode parts = parted
role_mode nothing = behind

-- where no operand stands, a sign stands as prefix
unfoldable pub sign_mode : Mode → Sign → Mode
sign_mode behind g = role_mode (role g)
sign_mode _ g = wanted

unfoldable pub mode_after : Mode → Token → Mode
mode_after m (token.sign g) = sign_mode m g
mode_after m (token.atom _) = behind
mode_after m token.open_round = wanted
mode_after m token.open_square = wanted
mode_after m token.open_brace = wanted
mode_after m token.comma = wanted
mode_after m token.close_round = behind
mode_after m token.close_square = behind
mode_after m token.close_brace = behind

abbrev pub dotted_tag : Tagging → Tagging
dotted_tag Tagged = Dotted
dotted_tag g = g

unfoldable pub sign_tag : Tagging → Sign → Tagging
sign_tag g sign.SlashColon = Tagged
sign_tag g sign.Equals = Untagged
sign_tag g sign.ColonEquals = Untagged
sign_tag g sign.EqualsDot = dotted_tag g
sign_tag g sign.Semicolon = Untagged
sign_tag g _ = g

abbrev pub outer_tag : List Level → Tagging
outer_tag [] = Untagged
outer_tag (level b g ∷ ls) = g

abbrev pub outer_levels : List Level → List Level
outer_levels [] = []
outer_levels (x ∷ ls) = ls

-- the tagging of the innermost level behind a token
unfoldable pub tag_after : Tagging → List Level → Token → Tagging
tag_after g ls (token.sign s) = sign_tag g s
tag_after g ls (token.atom _) = g
tag_after g ls token.open_round = Untagged
tag_after g ls token.open_square = Untagged
tag_after g ls token.open_brace = Untagged
tag_after g ls token.comma = Untagged
tag_after g ls token.close_round = outer_tag ls
tag_after g ls token.close_square = outer_tag ls
tag_after g ls token.close_brace = outer_tag ls

-- and the levels outside it
unfoldable pub levels_after : Tagging → List Level → Token → List Level
levels_after g ls token.open_round = level round g ∷ ls
levels_after g ls token.open_square = level square g ∷ ls
levels_after g ls token.open_brace = level curly g ∷ ls
levels_after g ls token.close_round = outer_levels ls
levels_after g ls token.close_square = outer_levels ls
levels_after g ls token.close_brace = outer_levels ls
levels_after g ls _ = ls

unfoldable pub operand : Mode → List Token
operand wanted = any_name ∷ []
operand _ = []

unfoldable pub ending_from : Mode → Tagging → List Level → List Token → List Token
ending_from m g ls [] = operand m ++ (definition g ++ closing ls)
ending_from m g ls (k ∷ ks) = ending_from (mode_after m k) (tag_after g ls k) (levels_after g ls k) ks

unfoldable pub ending : List Token → List Token
ending ks = ending_from wanted Untagged [] ks

abbrev pub Viable : List Token → Type 0
Viable ks = (t : Tree) × Right t × (reads t ≡ ks ++ ending ks)
