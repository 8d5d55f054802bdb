-- When two trees are identical: a form of it that computes.
use Rattle.std.specs.Prelude.{◌≡◌, ℕ, Bool, true, false, ◌&&◌, ◌||◌, List, [], ◌∷◌, ◌++◌, bytes_eq, nat_eq, refl}
use Rattle.std.proofs.Common.{ap}
use Rattle.std.proofs.lemmas.Slice.Eq.{bytes_eq-Decides}
use Rattle.std.specs.Bool.{Decides}
use Rattle.std.specs.Cmp.{IsEquivalence, decided, signed_Decides, unsigned_Decides}
use Rattle.std.specs.Ordering.{int_eq}
use Rattle.wl_exact.specs.Fraction.{Fraction}
use Rattle.wl_expr.specs.Tree.{Tree, Trees, num, text, symbol, node, none, more}

abbrev pub same_number : Fraction → Fraction → Bool
same_number n m = int_eq n.num m.num && nat_eq n.den m.den

abbrev mutual
  pub same : Tree → Tree → Bool
  same (num n) (num m) = same_number n m
  same (text s) (text t) = bytes_eq s t
  same (symbol s) (symbol t) = bytes_eq s t
  same (node h ts) (node k us) = same h k && all_same ts us
  same _ _ = false

  pub all_same : Trees → Trees → Bool
  all_same none none = true
  all_same (more t ts) (more u us) = same t u && all_same ts us
  all_same _ _ = false

-- two lists of identical trees
abbrev pub same_lists : List Tree → List Tree → Bool
same_lists [] [] = true
same_lists (t ∷ ts) (u ∷ us) = same t u && same_lists ts us
same_lists _ _ = false

-- whether a tree is among these
abbrev pub is_among : Tree → List Tree → Bool
is_among t [] = false
is_among t (u ∷ us) = same t u || is_among t us

-- the first of each, in order, behind those that are met already
abbrev pub first_of_each : List Tree → List Tree → List Tree
first_of_each met [] = met
first_of_each met (t ∷ ts) = elim (is_among t met) [ true ↦ first_of_each met ts | false ↦ first_of_each (met ++ t ∷ []) ts ]

-- ---- the same of names

abbrev pub is_name_among : List ℕ → List (List ℕ) → Bool
is_name_among x [] = false
is_name_among x (y ∷ ys) = bytes_eq x y || is_name_among x ys

abbrev pub first_names : List (List ℕ) → List (List ℕ) → List (List ℕ)
first_names met [] = met
first_names met (x ∷ xs) = elim (is_name_among x met) [ true ↦ first_names met xs | false ↦ first_names (met ++ x ∷ []) xs ]

-- ---- it is true of one tree alone

both : {P Q R : Type 0} (a b : Bool) → Decides a P → Decides b Q → (P → Q → R) → (R → P) → (R → Q) → Decides (a && b) R
both true b p q make left right = (λ t. make (p.0 refl) (q.0 t), λ r. q.1 (right r))
both false b p q make left right = (λ t. cc, λ r. p.1 (left r))

pub same_number_decides : (n m : Fraction) → Decides (same_number n m) (n ≡ m)
same_number_decides n m =
    both (int_eq n.num m.num) (nat_eq n.den m.den) (signed_Decides n.num m.num) (unsigned_Decides n.den m.den)
    (λ p q i. record { num = p i; den = q i }) (ap (λ f. f.num)) (ap (λ f. f.den))

mutual
  pub same_decides : (t u : Tree) → Decides (same t u) (t ≡ u)
  same_decides (num n) (num m) = let d = same_number_decides n m in (λ t. ap num (d.0 t), λ e. d.1 (cc))
  same_decides (text s) (text t) = let d = bytes_eq-Decides s t in (λ h. ap text (d.0 h), λ e. d.1 (cc))
  same_decides (symbol s) (symbol t) = let d = bytes_eq-Decides s t in (λ h. ap symbol (d.0 h), λ e. d.1 (cc))
  same_decides (node h ts) (node k us) =
      both (same h k) (all_same ts us) (same_decides h k) (all_same_decides ts us) (λ p q i. node (p i) (q i)) (λ e. cc) (λ e. cc)
  same_decides _ _ = (λ t. cc, λ e. cc)

  pub all_same_decides : (ts us : Trees) → Decides (all_same ts us) (ts ≡ us)
  all_same_decides none none = (λ t. refl, λ e. refl)
  all_same_decides (more t ts) (more u us) =
      both (same t u) (all_same ts us) (same_decides t u) (all_same_decides ts us) (λ p q i. more (p i) (q i)) (λ e. cc) (λ e. cc)
  all_same_decides _ _ = (λ t. cc, λ e. cc)

pub same_equivalence : IsEquivalence same
same_equivalence = decided same same_decides
