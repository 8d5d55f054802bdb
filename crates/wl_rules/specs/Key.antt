-- How specific a left side is. Tutorial on patterns: more specific definitions stand before more general ones; the key itself is this project's own.
use Rattle.std.specs.Prelude.{ℕ, ◌+◌, Bool, true, false, ◌||◌, List, [], ◌∷◌, ◌++◌}
use Rattle.std.specs.Cmp.Lexicographic.{slice_cmp}
use Rattle.std.specs.Ordering.{nat_cmp, ordering_then}
use Rattle.std.specs.declared.cmp.Ordering.{Ordering}
use Rattle.wl_expr.specs.Tree.{Tree, Trees, num, text, symbol, node, none, more, to_list}
use Rattle.wl_expr.specs.Special.{Special, ordinary, blank, blank_sequence, blank_null_sequence, named, pattern_test, condition, hold_pattern, optional, alternatives, repeated, repeated_null, verbatim, except, special_node}

-- digits in preorder, and how many tests the walk passes
pub record Key : Type 0 where
  pub digits : List ℕ
  pub tests : ℕ

-- what is known of a part: whether it is, or has, a special form, and its key
pub record Part : Type 0 where
  pub has_patterns : Bool
  pub key : Key

abbrev pub is_special : Special → Bool
is_special ordinary = false
is_special _ = true

abbrev pub digit : ℕ → Key
digit d = record { digits = d ∷ []; tests = 0 }

abbrev pub no_key : Key
no_key = record { digits = []; tests = 0 }

abbrev pub joined : Key → Key → Key
joined a b = record { digits = a.digits ++ b.digits; tests = a.tests + b.tests }

abbrev pub joined_all : List Part → Key
joined_all [] = no_key
joined_all (p ∷ ps) = joined p.key (joined_all ps)

abbrev pub tested : Key → Key
tested k = record k { tests = k.tests + 1 }

abbrev pub first_key : List Part → Key
first_key [] = no_key
first_key (p ∷ ps) = p.key

abbrev pub second_key : List Part → Key
second_key [] = no_key
second_key (p ∷ ps) = first_key ps

-- a digit for the form without elements, and one for the form with a head
abbrev pub with_head : List Part → ℕ → ℕ → Key
with_head [] d e = digit d
with_head (p ∷ ps) d e = digit e

-- 0: a part without patterns, or Verbatim; 1: a node with patterns, then head and elements; 2: `Blank[h]`; 3: Alternatives, then its members; 4: `Blank[]`, Except; 5: `BlankSequence[h]`, Repeated; 6: `BlankSequence[]`; 7: `BlankNullSequence[h]`, RepeatedNull; 8: `BlankNullSequence[]`; 9: Optional, then its pattern. Pattern, HoldPattern, PatternTest and Condition add no digit, and the walk enters their pattern alone.
abbrev pub key_by : Special → Bool → Part → List Part → Key
key_by ordinary true h ps = joined (digit 1) (joined h.key (joined_all ps))
key_by ordinary false h ps = digit 0
key_by blank b h ps = with_head ps 4 2
key_by blank_sequence b h ps = with_head ps 6 5
key_by blank_null_sequence b h ps = with_head ps 8 7
key_by named b h ps = second_key ps
key_by pattern_test b h ps = tested (first_key ps)
key_by condition b h ps = tested (first_key ps)
key_by hold_pattern b h ps = first_key ps
key_by optional b h ps = joined (digit 9) (first_key ps)
key_by alternatives b h ps = joined (digit 3) (joined_all ps)
key_by repeated b h ps = digit 5
key_by repeated_null b h ps = digit 7
key_by verbatim b h ps = digit 0
key_by except b h ps = digit 4

abbrev pub any_has : List Part → Bool
any_has [] = false
any_has (p ∷ ps) = p.has_patterns || any_has ps

abbrev pub leaf_part : Part
leaf_part = record { has_patterns = false; key = digit 0 }

abbrev pub node_part : Special → Part → List Part → Part
node_part s h ps =
    let has = is_special s || h.has_patterns || any_has ps in
    record { has_patterns = has; key = key_by s has h ps }

abbrev mutual
  pub part : Tree → Part
  part (num n) = leaf_part
  part (text s) = leaf_part
  part (symbol s) = leaf_part
  part (node h ts) = node_part (special_node h (to_list ts)) (part h) (parts ts)

  pub parts : Trees → List Part
  parts none = []
  parts (more t ts) = part t ∷ parts ts

abbrev pub key_of : Tree → Key
key_of t = (part t).key

-- lists compare lexicographically, a prefix first; at equal lists more tests are smaller
abbrev pub key_order : Key → Key → Ordering
key_order a b = ordering_then (slice_cmp nat_cmp a.digits b.digits) (nat_cmp b.tests a.tests)
