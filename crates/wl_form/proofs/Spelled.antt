-- Nodes whose number of elements isn't that of a word.
use Rattle.std.proofs.Common.{ℕ, Bool, ◌≡◌, ◌≢◌, List, [], ◌∷◌, length, refl}
use Rattle.std.specs.Prelude.{None}
use Rattle.wl_expr.specs.Stamped.{Stamped, plain, plains, from_list}
use Rattle.wl_expr.specs.Tree as tree
use Rattle.wl_expr.specs.Tree.{Tree, Trees}
use Rattle.wl_form.specs.declared.operator.Marks.{Marks}
use Rattle.wl_form.specs.Table.{blanks_of}
use Rattle.wl_form.specs.Words.{name_before_blank, pattern_word, default_word, slot_word, message_word}

blanks_more : (k : Marks) (x : List ℕ) (t u : Tree) (us : Trees) → None ≡ blanks_of k x (tree.more t (tree.more u us))
blanks_more k x (tree.num f) u us = refl
blanks_more k x (tree.text s) u us = refl
blanks_more k x (tree.symbol s) u us = refl
blanks_more k x (tree.node h ts) u us = refl

pub no_blanks : (k : Marks) (x : List ℕ) (es : List Stamped) → length es ≢ 0 → length es ≢ 1 → None ≡ blanks_of k x (plains (from_list es))
no_blanks k x [] m n = absurd (m refl)
no_blanks k x (t ∷ []) m n = absurd (n refl)
no_blanks k x (t ∷ u ∷ us) m n = blanks_more k x (plain t) (plain u) (plains (from_list us))

pub no_name_before_blank : (es : List Stamped) → length es ≢ 2 → None ≡ name_before_blank (plains (from_list es))
no_name_before_blank [] n = refl
no_name_before_blank (t ∷ []) n = refl
no_name_before_blank (t ∷ u ∷ []) n = absurd (n refl)
no_name_before_blank (t ∷ u ∷ v ∷ vs) n = refl

pattern_one : (t : Tree) → None ≡ pattern_word (tree.more t tree.none)
pattern_one (tree.num f) = refl
pattern_one (tree.text s) = refl
pattern_one (tree.symbol s) = refl
pattern_one (tree.node h ts) = refl

pattern_more : (t u v : Tree) (vs : Trees) → None ≡ pattern_word (tree.more t (tree.more u (tree.more v vs)))
pattern_more (tree.num f) u v vs = refl
pattern_more (tree.text s) u v vs = refl
pattern_more (tree.symbol s) u v vs = refl
pattern_more (tree.node h ts) u v vs = refl

pub no_pattern : (es : List Stamped) → length es ≢ 2 → None ≡ pattern_word (plains (from_list es))
no_pattern [] n = refl
no_pattern (t ∷ []) n = pattern_one (plain t)
no_pattern (t ∷ u ∷ []) n = absurd (n refl)
no_pattern (t ∷ u ∷ v ∷ vs) n = pattern_more (plain t) (plain u) (plain v) (plains (from_list vs))

pub no_default : (es : List Stamped) → length es ≢ 1 → None ≡ default_word (plains (from_list es))
no_default [] n = refl
no_default (t ∷ []) n = absurd (n refl)
no_default (t ∷ u ∷ us) n = refl

slot_more : (d : Bool) (t u : Tree) (us : Trees) → None ≡ slot_word d (tree.more t (tree.more u us))
slot_more d (tree.num f) u us = refl
slot_more d (tree.text s) u us = refl
slot_more d (tree.symbol s) u us = refl
slot_more d (tree.node h ts) u us = refl

pub no_slot : (d : Bool) (es : List Stamped) → length es ≢ 1 → None ≡ slot_word d (plains (from_list es))
no_slot d [] n = refl
no_slot d (t ∷ []) n = absurd (n refl)
no_slot d (t ∷ u ∷ us) n = slot_more d (plain t) (plain u) (plains (from_list us))

message_one : (t : Tree) → None ≡ message_word (tree.more t tree.none)
message_one (tree.num f) = refl
message_one (tree.text s) = refl
message_one (tree.symbol s) = refl
message_one (tree.node h ts) = refl

message_more : (t u v : Tree) (vs : Trees) → None ≡ message_word (tree.more t (tree.more u (tree.more v vs)))
message_more (tree.num f) u v vs = refl
message_more (tree.text s) u v vs = refl
message_more (tree.node h ts) u v vs = refl
message_more (tree.symbol s) (tree.num f) v vs = refl
message_more (tree.symbol s) (tree.text t) v vs = refl
message_more (tree.symbol s) (tree.symbol t) v vs = refl
message_more (tree.symbol s) (tree.node h ts) v vs = refl

pub no_message : (es : List Stamped) → length es ≢ 2 → None ≡ message_word (plains (from_list es))
no_message [] n = refl
no_message (t ∷ []) n = message_one (plain t)
no_message (t ∷ u ∷ []) n = absurd (n refl)
no_message (t ∷ u ∷ v ∷ vs) n = message_more (plain t) (plain u) (plain v) (plains (from_list vs))
