-- Which levels a `/:` keeps from being ended: those with a `=.` behind it that isn't the last token.
use Rattle.std.specs.Prelude.{Bool, true, false, ◌&&◌, List, [], ◌∷◌}
use Rattle.wl_syntax.specs.declared.operator.Sign.TheVariants as sign
use Rattle.wl_syntax.specs.Token.{Token}
use Rattle.wl_syntax.specs.Token as token
use Rattle.wl_syntax.specs.declared.tags.Tagging.{Tagging}
use Rattle.wl_syntax.specs.declared.tags.Tagging.TheVariants.{Untagged, Tagged, Dotted}
use Rattle.wl_syntax.specs.Ending.{Level, level, tag_after, levels_after}

unfoldable pub is_dot : Token → Bool
is_dot (token.sign sign.EqualsDot) = true
is_dot _ = false

-- Whether an ending can end a level; d says that its last token is a `=.`.
abbrev pub is_met : Bool → Tagging → Bool
is_met d Untagged = true
is_met d Tagged = true
is_met d Dotted = d

abbrev pub all_met : List Level → Bool
all_met [] = true
all_met (level b g ∷ ls) = is_met false g && all_met ls

-- whether the levels are all met behind the tokens
unfoldable pub met_from : Tagging → Bool → List Level → List Token → Bool
met_from g d ls [] = is_met d g && all_met ls
met_from g d ls (k ∷ ks) = met_from (tag_after g ls k) (is_dot k) (levels_after g ls k) ks

abbrev pub met : List Token → Bool
met ks = met_from Untagged false [] ks

-- what the tokens so far say of the levels
pub record Past : Type 0 where
  pub tag : Tagging
  pub dot : Bool
  pub outer : List Level

abbrev pub no_past : Past
no_past = record { tag = Untagged; dot = false; outer = [] }

abbrev pub past_after : Past → Token → Past
past_after p k = record { tag = tag_after p.tag p.outer k; dot = is_dot k; outer = levels_after p.tag p.outer k }

abbrev pub met_behind : Past → Bool
met_behind p = is_met p.dot p.tag && all_met p.outer
