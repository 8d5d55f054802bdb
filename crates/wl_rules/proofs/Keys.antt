-- Keys of parts, and that a key counts no more tests than its tree weighs.
use Rattle.std.proofs.Common.{◌≡◌, ℕ, ◌+◌, ◌<◌, ◌≤◌, List, [], ◌∷◌, ◌||◌, Bool, true, false, length, get_or, drop, map, refl, arith, append_assoc, append-nil, add_assoc, add-zero, add-one}
use Rattle.std.proofs.Math.Seq.{drop-cons}
use Rattle.wl_expr.specs.Tree as tree
use Rattle.wl_expr.specs.Tree.{Tree, Trees, num, text, symbol, node, weight, weights, to_list}
use Rattle.wl_expr.specs.Stamped.{Stamped, from_list, plain, plains}
use Rattle.wl_expr.specs.Special.{Special, ordinary, blank, blank_sequence, blank_null_sequence, named, pattern_test, condition, hold_pattern, optional, alternatives, repeated, repeated_null, verbatim, except, of_symbol, special_node}
use Rattle.wl_rules.specs.Forms.{special_of}
use Rattle.wl_rules.specs.declared.form.Form.{Form}
use Rattle.wl_rules.specs.declared.form.Form.TheVariants as form
use Rattle.wl_rules.specs.Key.{Key, Part, digit, no_key, joined, joined_all, tested, first_key, second_key, with_head, part, parts, key_by, any_has, is_special}

pub joined_assoc : (a b c : Key) → joined (joined a b) c ≡ joined a (joined b c)
joined_assoc a b c = cc (append_assoc a.digits b.digits c.digits, add_assoc a.tests b.tests c.tests)

pub joined_tested : (a b : Key) → tested (joined a b) ≡ joined a (tested b)
joined_tested a b = cc (add_assoc a.tests b.tests 1)

pub joined_none : (a : Key) → joined a no_key ≡ a
joined_none a = rw (append-nil a.digits, add-zero a.tests) refl

-- ---- tests

pub first_tests : (ps : List Part) → (first_key ps).tests ≤ (joined_all ps).tests
first_tests [] = omega arith
first_tests (p ∷ ps) = omega arith

second_tests : (ps : List Part) → (second_key ps).tests ≤ (joined_all ps).tests
second_tests [] = omega arith
second_tests (p ∷ ps) = omega (arith, first_tests ps)

with_head_tests : (ps : List Part) (d e : ℕ) → (with_head ps d e).tests ≡ 0
with_head_tests [] d e = refl
with_head_tests (p ∷ ps) d e = refl

key_by_tests : (s : Special) (b : Bool) (h : Part) (ps : List Part) (n : ℕ) → h.key.tests ≤ n → 1 ≤ n → (key_by s b h ps).tests ≤ n + (joined_all ps).tests
key_by_tests ordinary true h ps n p q = omega arith
key_by_tests ordinary false h ps n p q = omega arith
key_by_tests blank b h ps n p q = omega (arith, with_head_tests ps 4 2)
key_by_tests blank_sequence b h ps n p q = omega (arith, with_head_tests ps 6 5)
key_by_tests blank_null_sequence b h ps n p q = omega (arith, with_head_tests ps 8 7)
key_by_tests named b h ps n p q = omega (arith, second_tests ps)
key_by_tests pattern_test b h ps n p q = omega (arith, first_tests ps)
key_by_tests condition b h ps n p q = omega (arith, first_tests ps)
key_by_tests hold_pattern b h ps n p q = omega (arith, first_tests ps)
key_by_tests optional b h ps n p q = omega (arith, first_tests ps)
key_by_tests alternatives b h ps n p q = omega arith
key_by_tests repeated b h ps n p q = omega arith
key_by_tests repeated_null b h ps n p q = omega arith
key_by_tests verbatim b h ps n p q = omega arith
key_by_tests except b h ps n p q = omega arith

pub weight_positive : (t : Tree) → 1 ≤ weight t
weight_positive (num n) = omega arith
weight_positive (text s) = omega arith
weight_positive (symbol s) = omega arith
weight_positive (node h ts) = omega (arith, weight_positive h)

mutual
  pub tests_le-weight : (t : Tree) → (part t).key.tests ≤ weight t
  tests_le-weight (num n) = omega arith
  tests_le-weight (text s) = omega arith
  tests_le-weight (symbol s) = omega arith
  tests_le-weight (node h ts) =
      let b : Bool = is_special (special_node h (to_list ts)) || (part h).has_patterns || any_has (parts ts) in
      omega (arith, key_by_tests (special_node h (to_list ts)) b (part h) (parts ts) (weight h) (tests_le-weight h) (weight_positive h), tests_le-weights ts)

  pub tests_le-weights : (ts : Trees) → (joined_all (parts ts)).tests ≤ weights ts
  tests_le-weights tree.none = omega arith
  tests_le-weights (tree.more t ts) = omega (arith, tests_le-weight t, tests_le-weights ts)

-- ---- the elements from a place on

pub plains_drop : (ts : List Stamped) (i : ℕ) (t : Stamped) → i < length ts → t ≡ get_or ts i t → plains (from_list (drop i ts)) ≡ tree.more (plain t) (plains (from_list (drop (i + 1) ts)))
plains_drop ts i t h e = rw (add-one, drop-cons ts i t h, ← e) refl

-- one more part with patterns, and one without
pub any_put : (a b c d : Bool) → b ≡ true → (a || (b || c)) ≡ d → (true || c) ≡ d
any_put true true c d p q = q
any_put false true c d p q = q
any_put a false c d p q = cc

pub any_passed : (a b c d : Bool) → b ≡ false → (a || (b || c)) ≡ d → (a || c) ≡ d
any_passed a false c d p q = q
any_passed a true c d p q = cc

-- ---- the first and the second of some elements

pub first_key_at : (ts : List Stamped) (d : Stamped) → 0 < length ts → first_key (parts (plains (from_list ts))) ≡ (part (plain (get_or ts 0 d))).key
first_key_at [] d h = absurd (omega arith)
first_key_at (t ∷ ts) d h = refl

pub second_key_at : (ts : List Stamped) (d : Stamped) → 1 < length ts → second_key (parts (plains (from_list ts))) ≡ (part (plain (get_or ts 1 d))).key
second_key_at [] d h = absurd (omega arith)
second_key_at (t ∷ []) d h = absurd (omega arith)
second_key_at (t ∷ u ∷ ts) d h = refl

pub second_key_short : (ts : List Stamped) → length ts < 2 → second_key (parts (plains (from_list ts))) ≡ no_key
second_key_short [] h = refl
second_key_short (t ∷ []) h = refl
second_key_short (t ∷ u ∷ ts) h = absurd (omega arith)

pub with_head_some : (ts : List Stamped) (d e : ℕ) → 1 ≤ length ts → with_head (parts (plains (from_list ts))) d e ≡ digit e
with_head_some [] d e h = absurd (omega arith)
with_head_some (t ∷ ts) d e h = refl

-- ---- special forms

pub is_special-others : (f : Form) → (f ≡ form.Ordinary → ⊥) → is_special (special_of f) ≡ true
is_special-others form.Ordinary h = absurd (h refl)
is_special-others form.Blank h = refl
is_special-others form.BlankSequence h = refl
is_special-others form.BlankNullSequence h = refl
is_special-others form.Named h = refl
is_special-others form.PatternTest h = refl
is_special-others form.Condition h = refl
is_special-others form.HoldPattern h = refl
is_special-others form.Optional h = refl
is_special-others form.Alternatives h = refl
is_special-others form.Repeated h = refl
is_special-others form.RepeatedNull h = refl
is_special-others form.Verbatim h = refl
is_special-others form.Except h = refl

pub of_symbol_at : (k : Special) (ts : List Stamped) (d : Stamped) (x : List ℕ) → length ts ≡ 2 → plain (get_or ts 0 d) ≡ symbol x → of_symbol k (map plain ts) ≡ k
of_symbol_at k [] d x h p = absurd (omega arith)
of_symbol_at k (t ∷ []) d x h p = absurd (omega arith)
of_symbol_at k (t ∷ u ∷ []) d x h p = rw p refl
of_symbol_at k (t ∷ u ∷ v ∷ ts) d x h p = absurd (omega arith)
