-- With another number of elements than its form takes, a node is an ordinary one.
use Rattle.std.proofs.Common.{◌≡◌, ◌≢◌, ℕ, List, [], ◌∷◌, length, refl, sym, ◌∙◌, arith}
use Rattle.wl_expr.specs.Tree.{Tree, Trees, num, text, symbol, node, none, more, to_list}
use Rattle.wl_expr.specs.Stamped.{Stamped, plain, plains, from_list}
use Rattle.wl_match.specs.Pattern.{Count, Ask, Pat, Pats, read_blank, read_named, read_tested, read_one, read_optional, read_verbatim, read_except}
use Rattle.wl_match.specs.Parts.{pats_of}

pub blank_other : (c : Count) (ts : List Stamped) (p : Pat) → length ts ≢ 0 → length ts ≢ 1 → p ≡ read_blank c (plains (from_list ts)) p
blank_other c [] p h k = absurd (h refl)
blank_other c (t ∷ []) p h k = absurd (k refl)
blank_other c (t ∷ u ∷ ts) p h k = refl

named_in : (t : Tree) (us : Trees) (ps : Pats) (p : Pat) → length (to_list us) ≢ 1 → p ≡ read_named (more t us) ps p
named_in (num n) us ps p h = refl
named_in (text s) us ps p h = refl
named_in (node g vs) us ps p h = refl
named_in (symbol x) none ps p h = refl
named_in (symbol x) (more u none) ps p h = absurd (h refl)
named_in (symbol x) (more u (more v vs)) ps p h = refl

pub named_args : (ts : List Stamped) (ps : Pats) (p : Pat) → length ts ≢ 2 → p ≡ read_named (plains (from_list ts)) ps p
named_args [] ps p h = refl
named_args (t ∷ []) ps p h = named_in (plain t) none ps p (λ e. cc)
named_args (t ∷ u ∷ []) ps p h = absurd (h refl)
named_args (t ∷ u ∷ v ∷ ts) ps p h = named_in (plain t) (more (plain u) (more (plain v) (plains (from_list ts)))) ps p (λ e. absurd (omega arith))

named_with : (t u : Tree) (f : ℕ → Pat) (is : List ℕ) (p : Pat) → length is ≢ 2 → p ≡ read_named (more t (more u none)) (pats_of f is) p
named_with (num n) u f is p h = refl
named_with (text s) u f is p h = refl
named_with (node g vs) u f is p h = refl
named_with (symbol x) u f [] p h = refl
named_with (symbol x) u f (i ∷ []) p h = refl
named_with (symbol x) u f (i ∷ j ∷ []) p h = absurd (h refl)
named_with (symbol x) u f (i ∷ j ∷ k ∷ is) p h = refl

pub named_parts : (ts : List Stamped) (t u : Stamped) (f : ℕ → Pat) (is : List ℕ) (p : Pat) → ts ≡ t ∷ u ∷ [] → length is ≢ 2 → p ≡ read_named (plains (from_list ts)) (pats_of f is) p
named_parts ts t u f is p e h = named_with (plain t) (plain u) f is p h ∙ (λ n. read_named (plains (from_list (sym e n))) (pats_of f is) p)

pub tested_args : (a : Tree → Ask) (ts : List Stamped) (ps : Pats) (p : Pat) → length ts ≢ 2 → p ≡ read_tested a (plains (from_list ts)) ps p
tested_args a [] ps p h = refl
tested_args a (t ∷ []) ps p h = refl
tested_args a (t ∷ u ∷ []) ps p h = absurd (h refl)
tested_args a (t ∷ u ∷ v ∷ ts) ps p h = refl

tested_with : (a : Tree → Ask) (t u : Tree) (f : ℕ → Pat) (is : List ℕ) (p : Pat) → length is ≢ 2 → p ≡ read_tested a (more t (more u none)) (pats_of f is) p
tested_with a t u f [] p h = refl
tested_with a t u f (i ∷ []) p h = refl
tested_with a t u f (i ∷ j ∷ []) p h = absurd (h refl)
tested_with a t u f (i ∷ j ∷ k ∷ is) p h = refl

pub tested_parts : (a : Tree → Ask) (ts : List Stamped) (t u : Stamped) (f : ℕ → Pat) (is : List ℕ) (p : Pat) → ts ≡ t ∷ u ∷ [] → length is ≢ 2 → p ≡ read_tested a (plains (from_list ts)) (pats_of f is) p
tested_parts a ts t u f is p e h = tested_with a (plain t) (plain u) f is p h ∙ (λ n. read_tested a (plains (from_list (sym e n))) (pats_of f is) p)

pub one_other : (g : Pat → Pat) (f : ℕ → Pat) (is : List ℕ) (p : Pat) → length is ≢ 1 → p ≡ read_one g (pats_of f is) p
one_other g f [] p h = refl
one_other g f (i ∷ []) p h = absurd (h refl)
one_other g f (i ∷ j ∷ is) p h = refl

pub verbatim_other : (ts : List Stamped) (p : Pat) → length ts ≢ 1 → p ≡ read_verbatim (plains (from_list ts)) p
verbatim_other [] p h = refl
verbatim_other (t ∷ []) p h = absurd (h refl)
verbatim_other (t ∷ u ∷ ts) p h = refl

pub optional_args : (ts : List Stamped) (ps : Pats) (p : Pat) → length ts ≢ 1 → length ts ≢ 2 → p ≡ read_optional (plains (from_list ts)) ps p
optional_args [] ps p h k = refl
optional_args (t ∷ []) ps p h k = absurd (h refl)
optional_args (t ∷ u ∷ []) ps p h k = absurd (k refl)
optional_args (t ∷ u ∷ v ∷ ts) ps p h k = refl

optional_one : (t : Tree) (f : ℕ → Pat) (is : List ℕ) (p : Pat) → length is ≢ 1 → p ≡ read_optional (more t none) (pats_of f is) p
optional_one t f [] p h = refl
optional_one t f (i ∷ []) p h = absurd (h refl)
optional_one t f (i ∷ j ∷ is) p h = refl

pub optional_part : (ts : List Stamped) (t : Stamped) (f : ℕ → Pat) (is : List ℕ) (p : Pat) → ts ≡ t ∷ [] → length is ≢ 1 → p ≡ read_optional (plains (from_list ts)) (pats_of f is) p
optional_part ts t f is p e h = optional_one (plain t) f is p h ∙ (λ n. read_optional (plains (from_list (sym e n))) (pats_of f is) p)

optional_two : (t u : Tree) (f : ℕ → Pat) (is : List ℕ) (p : Pat) → length is ≢ 2 → p ≡ read_optional (more t (more u none)) (pats_of f is) p
optional_two t u f [] p h = refl
optional_two t u f (i ∷ []) p h = refl
optional_two t u f (i ∷ j ∷ []) p h = absurd (h refl)
optional_two t u f (i ∷ j ∷ k ∷ is) p h = refl

pub optional_parts : (ts : List Stamped) (t u : Stamped) (f : ℕ → Pat) (is : List ℕ) (p : Pat) → ts ≡ t ∷ u ∷ [] → length is ≢ 2 → p ≡ read_optional (plains (from_list ts)) (pats_of f is) p
optional_parts ts t u f is p e h = optional_two (plain t) (plain u) f is p h ∙ (λ n. read_optional (plains (from_list (sym e n))) (pats_of f is) p)

pub except_args : (ts : List Stamped) (ps : Pats) (p : Pat) → length ts ≢ 1 → length ts ≢ 2 → p ≡ read_except (plains (from_list ts)) ps p
except_args [] ps p h k = refl
except_args (t ∷ []) ps p h k = absurd (h refl)
except_args (t ∷ u ∷ []) ps p h k = absurd (k refl)
except_args (t ∷ u ∷ v ∷ ts) ps p h k = refl

except_one : (t : Tree) (f : ℕ → Pat) (is : List ℕ) (p : Pat) → length is ≢ 1 → p ≡ read_except (more t none) (pats_of f is) p
except_one t f [] p h = refl
except_one t f (i ∷ []) p h = absurd (h refl)
except_one t f (i ∷ j ∷ is) p h = refl

pub except_part : (ts : List Stamped) (t : Stamped) (f : ℕ → Pat) (is : List ℕ) (p : Pat) → ts ≡ t ∷ [] → length is ≢ 1 → p ≡ read_except (plains (from_list ts)) (pats_of f is) p
except_part ts t f is p e h = except_one (plain t) f is p h ∙ (λ n. read_except (plains (from_list (sym e n))) (pats_of f is) p)

except_two : (t u : Tree) (f : ℕ → Pat) (is : List ℕ) (p : Pat) → length is ≢ 2 → p ≡ read_except (more t (more u none)) (pats_of f is) p
except_two t u f [] p h = refl
except_two t u f (i ∷ []) p h = refl
except_two t u f (i ∷ j ∷ []) p h = absurd (h refl)
except_two t u f (i ∷ j ∷ k ∷ is) p h = refl

pub except_parts : (ts : List Stamped) (t u : Stamped) (f : ℕ → Pat) (is : List ℕ) (p : Pat) → ts ≡ t ∷ u ∷ [] → length is ≢ 2 → p ≡ read_except (plains (from_list ts)) (pats_of f is) p
except_parts ts t u f is p e h = except_two (plain t) (plain u) f is p h ∙ (λ n. read_except (plains (from_list (sym e n))) (pats_of f is) p)
