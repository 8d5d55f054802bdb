-- Names of ASCII letters, digits and `$`, as those of the built-in symbols: `is_ascii_name` computes.
use Rattle.std.proofs.Common.{◌≡◌, ℕ, ◌<◌, nat_lt, Bool, true, false, List, [], ◌∷◌, ◌&&◌, ◌||◌, ◌==◌, not, refl, ap, ◌∙◌, arith}
use Rattle.std.proofs.lemmas.Bool.Decides.{nat_tests}
use Rattle.std.specs.Char.{is_ascii_alphabetic, is_ascii_alphanumeric}
use Rattle.std.specs.Str.{chars, chars_after, continuation_len, lead_bits}
use Rattle.unicode_ident.proofs.IdentLemmas.{is_xid_start-ascii, is_xid_continue-ascii}
use Rattle.wl_ports.specs.Name.{begins_name, continues_name, all_continue_name, spells_name, IsName}

abbrev pub begins_ascii_name : ℕ → Bool
begins_ascii_name c = is_ascii_alphabetic c || (c == 36)

abbrev pub continues_ascii_name : ℕ → Bool
continues_ascii_name c = is_ascii_alphanumeric c || (c == 36)

abbrev pub all_continue_ascii_name : List ℕ → Bool
all_continue_ascii_name [] = true
all_continue_ascii_name (c ∷ cs) = continues_ascii_name c && all_continue_ascii_name cs

abbrev pub is_ascii_name : List ℕ → Bool
is_ascii_name [] = false
is_ascii_name (c ∷ cs) = begins_ascii_name c && all_continue_ascii_name cs

pub begins_below : (c : ℕ) → begins_ascii_name c ≡ true → c < 128
begins_below c t = grind (arith, nat_tests)

pub continues_below : (c : ℕ) → continues_ascii_name c ≡ true → c < 128
continues_below c t = grind (arith, nat_tests)

pub left : (a b : Bool) → (a && b) ≡ true → a ≡ true
left true b t = refl
left false b t = t

pub right : (a b : Bool) → (a && b) ≡ true → b ≡ true
right true b t = t
right false b t = cc

begins : (c : ℕ) → begins_ascii_name c ≡ true → begins_name c ≡ true
begins c t = ap (λ (b : Bool). b || (c == 36)) (is_xid_start-ascii c (begins_below c t)) ∙ t

no_underscore : (c : ℕ) → continues_ascii_name c ≡ true → ((is_ascii_alphanumeric c || (c == 95)) && not (c == 95)) || (c == 36) ≡ true
no_underscore c t = grind (arith, nat_tests)

continues : (c : ℕ) → continues_ascii_name c ≡ true → continues_name c ≡ true
continues c t = ap (λ (b : Bool). (b && not (c == 95)) || (c == 36)) (is_xid_continue-ascii c (continues_below c t)) ∙ no_underscore c t

pub all_continue : (cs : List ℕ) → all_continue_ascii_name cs ≡ true → all_continue_name cs ≡ true
all_continue [] t = refl
all_continue (c ∷ cs) t = ap (λ (b : Bool). b && all_continue_name cs) (continues c (left _ _ t)) ∙ all_continue cs (right _ _ t)

one_byte : (b : ℕ) (bs : List ℕ) → b < 128 → chars_after (continuation_len b) (lead_bits b) bs ≡ chars_after 0 b bs
one_byte b bs below = let is_one : nat_lt b 128 ≡ true = grind (arith, nat_tests) in rw is_one refl

-- of ASCII bytes, the characters are the bytes
read_on : (b : ℕ) (bs : List ℕ) → all_continue_ascii_name bs ≡ true → chars_after 0 b bs ≡ b ∷ bs
read_on b [] t = refl
read_on b (d ∷ ds) t = ap (λ (cs : List ℕ). b ∷ cs) (one_byte d ds (continues_below d (left _ _ t)) ∙ read_on d ds (right _ _ t))

read : (text : List ℕ) → is_ascii_name text ≡ true → chars text ≡ text
unfolding chars
read [] t = refl
read (b ∷ bs) t = one_byte b bs (begins_below b (left _ _ t)) ∙ read_on b bs (right _ _ t)

pub read_all : (text : List ℕ) → all_continue_ascii_name text ≡ true → chars text ≡ text
unfolding chars
read_all [] t = refl
read_all (b ∷ bs) t = one_byte b bs (continues_below b (left _ _ t)) ∙ read_on b bs (right _ _ t)

spells : (text : List ℕ) → is_ascii_name text ≡ true → spells_name text ≡ true
spells [] t = t
spells (c ∷ cs) t = ap (λ (b : Bool). b && all_continue_name cs) (begins c (left _ _ t)) ∙ all_continue cs (right _ _ t)

pub ascii_is_name : (text : List ℕ) → is_ascii_name text ≡ true → IsName text
ascii_is_name text t = ap spells_name (read text t) ∙ spells text t
