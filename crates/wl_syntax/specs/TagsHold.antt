-- How the fields of the code stand for what the tokens so far say of the levels.
use Rattle.std.specs.Prelude.{◌≡◌, List, [], ◌∷◌, ◌++◌}
use Rattle.wl_syntax.specs.declared.tags.Tags.{Tags}
use Rattle.wl_syntax.specs.declared.tags.Outer.{Outer}
use Rattle.wl_syntax.specs.declared.tags.Tagging.TheVariants.{Untagged}
use Rattle.wl_syntax.specs.Ending.{Closer, Level, level, outer_tag, outer_levels}
use Rattle.wl_syntax.specs.Tags.{Past, all_met}

abbrev pub frames : List Level → List Outer
frames [] = []
frames (level b g ∷ ls) = frames ls ++ record { tagging = g; met = all_met ls } ∷ []

pub record TagsHold (t : Tags) (p : Past) : Type 0 where
  pub tag : t.tagging ≡ p.tag
  pub dot : t.dotted_last ≡ p.dot
  pub outer : t.outer.items ≡ frames p.outer
  pub met : t.outer_met ≡ all_met p.outer

-- the levels of these fields
pub record Levels (t : Tags) (ls : List Level) : Type 0 where
  pub outer : t.outer.items ≡ frames ls
  pub met : t.outer_met ≡ all_met ls

pub record OpensLevel (m n : Tags) : Type 0 where
  pub tag : n.tagging ≡ Untagged
  pub dot : n.dotted_last ≡ m.dotted_last
  pub levels : (b : Closer) (ls : List Level) → Levels m ls → Levels n (level b m.tagging ∷ ls)

pub record ClosesLevel (m n : Tags) : Type 0 where
  pub tag : (ls : List Level) → Levels m ls → n.tagging ≡ outer_tag ls
  pub dot : n.dotted_last ≡ m.dotted_last
  pub levels : (ls : List Level) → Levels m ls → Levels n (outer_levels ls)
