-- Names that are made of others: a name with `$` behind it, or with `$` and a number's decimal digits, is a name.
use Rattle.std.proofs.Common.{◌≡◌, ℕ, zero, suc, ◌+◌, ◌/◌, ◌%◌, ◌<◌, nat_lt, Bool, true, false, List, [], ◌∷◌, ◌++◌, ◌&&◌, ◌==◌, slice_index, refl, ap, sym, ◌∙◌, arith}
use Rattle.std.proofs.lemmas.Bool.Decides.{nat_tests}
use Rattle.std.proofs.lemmas.Str.{chars-append, IsUtf8-append, IsUtf8-from_ascii}
use Rattle.std.specs.Fmt.{digits, digits_onto, digit_glyph}
use Rattle.std.specs.Prelude.{codes, decimal, if◌then◌else◌}
use Rattle.std.specs.Str.{IsAscii, IsUtf8}
use Rattle.wl_ports.specs.Name.{begins_name, continues_name, all_continue_name, spells_name, IsName}
use Rattle.wl_ports.proofs.AsciiNames.{is_ascii_name, continues_ascii_name, all_continue_ascii_name, all_continue, ascii_is_name, read_all, begins_below, continues_below, left, right}

all_ascii : (t : List ℕ) → all_continue_ascii_name t ≡ true → IsAscii t
all_ascii [] h i = omega arith
all_ascii (c ∷ cs) h zero = continues_below c (left _ _ h)
all_ascii (c ∷ cs) h (suc i) = all_ascii cs (right _ _ h) i

-- a name of ASCII is a text and a name
pub ascii_name : (s : List ℕ) → is_ascii_name s ≡ true → IsUtf8 s × IsName s
ascii_name s h = (IsUtf8-from_ascii s (ascii s h), ascii_is_name s h)
  where
    ascii : (t : List ℕ) → is_ascii_name t ≡ true → IsAscii t
    ascii [] h i = omega arith
    ascii (c ∷ cs) h zero = begins_below c (left _ _ h)
    ascii (c ∷ cs) h (suc i) = all_ascii cs (right _ _ h) i

all_continue-append : (cs ds : List ℕ) → all_continue_name cs ≡ true → all_continue_name ds ≡ true → all_continue_name (cs ++ ds) ≡ true
all_continue-append [] ds p q = q
all_continue-append (c ∷ cs) ds p q = ap (λ (b : Bool). b && all_continue_name (cs ++ ds)) (left _ _ p) ∙ all_continue-append cs ds (right _ _ p) q

spells-append : (cs ds : List ℕ) → spells_name cs ≡ true → all_continue_name ds ≡ true → spells_name (cs ++ ds) ≡ true
spells-append [] ds p q = cc
spells-append (c ∷ cs) ds p q = ap (λ (b : Bool). b && all_continue_name (cs ++ ds)) (left _ _ p) ∙ all_continue-append cs ds (right _ _ p) q

-- a name with more letters, digits and `$` of ASCII behind it
pub longer_name : (s t : List ℕ) → IsUtf8 s → IsName s → all_continue_ascii_name t ≡ true → IsUtf8 (s ++ t) × IsName (s ++ t)
longer_name s t utf8 name more = (
  IsUtf8-append s t utf8 (IsUtf8-from_ascii t (all_ascii t more)),
  ap spells_name (chars-append s t utf8) ∙ spells-append _ _ name (ap all_continue_name (read_all t more) ∙ all_continue t more),
)

pub dollar_name : (s : List ℕ) → IsUtf8 s → IsName s → IsUtf8 (s ++ codes "$") × IsName (s ++ codes "$")
dollar_name s utf8 name = longer_name s (codes "$") utf8 name refl

glyph : (d : ℕ) → d < 10 → continues_ascii_name (digit_glyph false d) ≡ true
glyph d below = grind (arith, nat_tests)

digits_onto_continue : (k n : ℕ) (acc : List ℕ) → all_continue_ascii_name acc ≡ true → all_continue_ascii_name (digits_onto k 10 false n acc) ≡ true
digits_onto_continue zero n acc h = h
digits_onto_continue (suc k) n acc h =
    let here : continues_ascii_name (digit_glyph false (n % 10)) ≡ true = glyph (n % 10) (omega arith) in
    let more : all_continue_ascii_name (digit_glyph false (n % 10) ∷ acc) ≡ true = ap (λ (b : Bool). b && all_continue_ascii_name acc) here ∙ h in
    elim (n / 10 == 0) as (λ (b : Bool). all_continue_ascii_name (if b then digit_glyph false (n % 10) ∷ acc else digits_onto k 10 false (n / 10) (digit_glyph false (n % 10) ∷ acc)) ≡ true) [ true ↦ more | false ↦ digits_onto_continue k (n / 10) (digit_glyph false (n % 10) ∷ acc) more ]

decimal_continues : (n : ℕ) → all_continue_ascii_name (decimal n) ≡ true
unfolding digits
decimal_continues n = digits_onto_continue 64 n [] refl

pub numbered_name : (s : List ℕ) (n : ℕ) → IsUtf8 s → IsName s → IsUtf8 (s ++ (codes "$" ++ decimal n)) × IsName (s ++ (codes "$" ++ decimal n))
numbered_name s n utf8 name = longer_name s (codes "$" ++ decimal n) utf8 name (decimal_continues n)
