-- Which expressions are guarded.
use Rattle.std.proofs.Common.{◌≡◌, ◌≢◌, ℕ, suc, ◌+◌, ◌<◌, ◌≤◌, Bool, true, false, ◌&&◌, ◌||◌, bytes_eq, List, [], ◌∷◌, length, map, drop, get_or, Option, Some, None, is_some, refl, sym, ap, ◌∙◌, arith}
use Rattle.std.proofs.lemmas.Slice.Eq.{bytes_eq-Decides}
use Rattle.std.specs.Prelude.{codes}
use Rattle.wl_expr.specs.Special.{Special, ordinary, condition, special, special_named, choose, of_none_or_one, of_one, of_two, of_one_or_two, of_symbol}
use Rattle.wl_expr.specs.Special as forms
use Rattle.wl_expr.specs.Stamped.{Stamped, plain, plains, from_list}
use Rattle.wl_expr.specs.Tree.{Tree, Trees, num, text, symbol, node, none, more, to_list}
use Rattle.wl_expr.specs.Words.{Name, is_the}
use Rattle.wl_shape.specs.Scopes.{Needs, Local, values, names, local_of, locals, locals_of, with_local}
use Rattle.wl_semantics.specs.Match.{scope_named, is_scope, is_condition, is_guarded}
use Rattle.wl_state.specs.Searching.{needs_values, scope_body, body_of_two}
use Rattle.wl_state.proofs.Bindings.{drop_item, all_dropped}

-- ---- local names

local_not_two : (k : Needs) (h : Tree) (xs : List Stamped) → length xs ≢ 2 → is_some (local_of k (node h (plains (from_list xs)))) ≡ false
local_not_two k h xs n = cases k (plains (from_list xs)) (λ v w e. n (two_of_plains xs v w e))
  where
    two_of_plains : (xs : List Stamped) (v w : Tree) → plains (from_list xs) ≡ more v (more w none) → length xs ≡ 2
    two_of_plains [] v w e = absurd (let q : none ≡ more v (more w none) = e in cc)
    two_of_plains (x ∷ []) v w e = absurd (let q : more (plain x) none ≡ more v (more w none) = e in cc)
    two_of_plains (x ∷ y ∷ []) v w e = refl
    two_of_plains (x ∷ y ∷ z ∷ zs) v w e = absurd (let q : more (plain x) (more (plain y) (more (plain z) (plains (from_list zs)))) ≡ more v (more w none) = e in cc)

    cases : (k : Needs) (ts : Trees) → ((v w : Tree) → ts ≡ more v (more w none) → ⊥) → is_some (local_of k (node h ts)) ≡ false
    cases values none n = refl
    cases values (more (num a) none) n = refl
    cases values (more (text s) none) n = refl
    cases values (more (symbol x) none) n = refl
    cases values (more (node g us) none) n = refl
    cases values (more v (more w none)) n = absurd (n v w refl)
    cases values (more (num a) (more w (more y ts))) n = refl
    cases values (more (text s) (more w (more y ts))) n = refl
    cases values (more (symbol x) (more w (more y ts))) n = refl
    cases values (more (node g us) (more w (more y ts))) n = refl
    cases names none n = refl
    cases names (more (num a) none) n = refl
    cases names (more (text s) none) n = refl
    cases names (more (symbol x) none) n = refl
    cases names (more (node g us) none) n = refl
    cases names (more v (more w none)) n = absurd (n v w refl)
    cases names (more (num a) (more w (more y ts))) n = refl
    cases names (more (text s) (more w (more y ts))) n = refl
    cases names (more (symbol x) (more w (more y ts))) n = refl
    cases names (more (node g us) (more w (more y ts))) n = refl

pub not_local : (b : Bool) (h t : Tree) (xs : List Stamped) → node h (plains (from_list xs)) ≡ t → length xs ≢ 2 → false ≡ is_some (local_of (needs_values b) t)
not_local b h t xs e n = sym (ap (λ z. is_some (local_of (needs_values b) z)) (sym e) ∙ local_not_two (needs_values b) h xs n)

list_of_plains : (xs : List Stamped) → to_list (plains (from_list xs)) ≡ map plain xs
list_of_plains [] = refl
list_of_plains (x ∷ xs) = ap (λ zs. plain x ∷ zs) (list_of_plains xs)

pub locals_are : (k : Needs) (h t : Tree) (xs : List Stamped) → node h (plains (from_list xs)) ≡ t → is_the (codes "List") h ≡ true → is_some (locals k t) ≡ is_some (locals_of k (map plain xs))
locals_are k h t xs e l =
    ap (λ z. is_some (locals k z)) (sym e)
    ∙ ap (λ (b : Bool). is_some (elim b as (λ _. Option (List Local)) [ true ↦ locals_of k (to_list (plains (from_list xs))) | false ↦ None ])) l
    ∙ ap (λ zs. is_some (locals_of k zs)) (list_of_plains xs)

with_none : (o : Option Local) (p : Option (List Local)) → is_some o ≡ false → is_some (with_local o p) ≡ false
with_none None p e = refl
with_none (Some l) p e = absurd (cc)

pub one_not_local : (k : Needs) (xs : List Stamped) (i : ℕ) (x : Stamped) → i < length xs → x ≡ get_or xs i x → is_some (local_of k (plain x)) ≡ false → is_some (locals_of k (map plain (drop i xs))) ≡ false
one_not_local k xs i x h e n =
    ap (λ zs. is_some (locals_of k (map plain zs))) (drop_item xs i x h e) ∙ with_none (local_of k (plain x)) (locals_of k (map plain (drop (i + 1) xs))) n

pub all_local : (k : Needs) (xs : List Stamped) (i : ℕ) → length xs ≤ i → is_some (locals_of k (map plain (drop i xs))) ≡ true
all_local k xs i h = ap (λ zs. is_some (locals_of k (map plain zs))) (all_dropped xs i h)

-- ---- scopes

scope_not_two : (h : Tree) (xs : List Stamped) → length xs ≢ 2 → None ≡ scope_body (node h (plains (from_list xs)))
scope_not_two (num a) xs n = refl
scope_not_two (text s) xs n = refl
scope_not_two (node g us) xs n = refl
scope_not_two (symbol x) [] n = refl
scope_not_two (symbol x) (v ∷ []) n = refl
scope_not_two (symbol x) (v ∷ b ∷ []) n = absurd (n refl)
scope_not_two (symbol x) (v ∷ b ∷ y ∷ ys) n = refl

pub no_scope_body : (h t : Tree) (xs : List Stamped) → node h (plains (from_list xs)) ≡ t → length xs ≢ 2 → None ≡ scope_body t
no_scope_body h t xs e n = scope_not_two h xs n ∙ ap scope_body e

-- ---- conditions

abbrev is_it : Special → Bool
is_it k = elim k [ condition ↦ true | _ ↦ false ]

other_two : (k : Special) (ts : List Tree) → is_it k ≡ false → is_it (of_two k ts) ≡ false
other_two k [] h = refl
other_two k (t ∷ []) h = refl
other_two k (t ∷ u ∷ []) h = h
other_two k (t ∷ u ∷ v ∷ ts) h = refl

other_one : (k : Special) (ts : List Tree) → is_it k ≡ false → is_it (of_one k ts) ≡ false
other_one k [] h = refl
other_one k (t ∷ []) h = h
other_one k (t ∷ u ∷ ts) h = refl

other_none_or_one : (k : Special) (ts : List Tree) → is_it k ≡ false → is_it (of_none_or_one k ts) ≡ false
other_none_or_one k [] h = h
other_none_or_one k (t ∷ []) h = h
other_none_or_one k (t ∷ u ∷ ts) h = refl

other_one_or_two : (k : Special) (ts : List Tree) → is_it k ≡ false → is_it (of_one_or_two k ts) ≡ false
other_one_or_two k [] h = refl
other_one_or_two k (t ∷ []) h = h
other_one_or_two k (t ∷ u ∷ []) h = h
other_one_or_two k (t ∷ u ∷ v ∷ ts) h = refl

other_symbol : (k : Special) (ts : List Tree) → is_it k ≡ false → is_it (of_symbol k ts) ≡ false
other_symbol k [] h = refl
other_symbol k (num a ∷ []) h = refl
other_symbol k (text s ∷ []) h = refl
other_symbol k (symbol x ∷ []) h = refl
other_symbol k (node g us ∷ []) h = refl
other_symbol k (num a ∷ u ∷ []) h = refl
other_symbol k (text s ∷ u ∷ []) h = refl
other_symbol k (symbol x ∷ u ∷ []) h = h
other_symbol k (node g us ∷ u ∷ []) h = refl
other_symbol k (num a ∷ u ∷ v ∷ ts) h = refl
other_symbol k (text s ∷ u ∷ v ∷ ts) h = refl
other_symbol k (symbol x ∷ u ∷ v ∷ ts) h = refl
other_symbol k (node g us ∷ u ∷ v ∷ ts) h = refl

neither : (b : Bool) (k l : Special) → is_it k ≡ false → is_it l ≡ false → is_it (choose b k l) ≡ false
neither true k l p q = p
neither false k l p q = q

-- a node of another name, or of another number of elements, is none
special_other : (s : Name) (ts : List Tree) → is_it (choose (bytes_eq s (codes "Condition")) (of_two condition ts) ordinary) ≡ false → is_it (special_named s ts) ≡ false
special_other s ts h =
    neither (bytes_eq s (codes "Blank")) _ _ (other_none_or_one forms.blank ts refl)
    (neither (bytes_eq s (codes "BlankSequence")) _ _ (other_none_or_one forms.blank_sequence ts refl)
    (neither (bytes_eq s (codes "BlankNullSequence")) _ _ (other_none_or_one forms.blank_null_sequence ts refl)
    (neither (bytes_eq s (codes "Pattern")) _ _ (other_symbol forms.named ts refl)
    (neither (bytes_eq s (codes "PatternTest")) _ _ (other_two forms.pattern_test ts refl)
    (itself (bytes_eq s (codes "Condition")) (of_two condition ts) _ h
    (neither (bytes_eq s (codes "HoldPattern")) _ _ (other_one forms.hold_pattern ts refl)
    (neither (bytes_eq s (codes "Optional")) _ _ (other_one_or_two forms.optional ts refl)
    (neither (bytes_eq s (codes "Alternatives")) _ _ refl
    (neither (bytes_eq s (codes "Repeated")) _ _ (other_one forms.repeated ts refl)
    (neither (bytes_eq s (codes "RepeatedNull")) _ _ (other_one forms.repeated_null ts refl)
    (neither (bytes_eq s (codes "Verbatim")) _ _ (other_one forms.verbatim ts refl)
    (neither (bytes_eq s (codes "Except")) _ _ (other_one_or_two forms.except ts refl) refl))))))))))))
  where
    itself : (b : Bool) (k l : Special) → is_it (choose b k ordinary) ≡ false → is_it l ≡ false → is_it (choose b k l) ≡ false
    itself true k l p q = p
    itself false k l p q = q

ordinary_two : (b : Bool) (ts : List Tree) → length ts ≢ 2 → is_it (choose b (of_two condition ts) ordinary) ≡ false
ordinary_two false ts n = refl
ordinary_two true [] n = refl
ordinary_two true (t ∷ []) n = refl
ordinary_two true (t ∷ u ∷ []) n = absurd (n refl)
ordinary_two true (t ∷ u ∷ v ∷ ts) n = refl

length_of_plains : (xs : List Stamped) → length (to_list (plains (from_list xs))) ≡ length xs
length_of_plains [] = refl
length_of_plains (x ∷ xs) = ap suc (length_of_plains xs)

condition_not_two : (h : Tree) (xs : List Stamped) → length xs ≢ 2 → is_condition (node h (plains (from_list xs))) ≡ false
condition_not_two (num a) xs n = refl
condition_not_two (text s) xs n = refl
condition_not_two (node g us) xs n = refl
condition_not_two (symbol s) xs n = special_other s _ (ordinary_two (bytes_eq s (codes "Condition")) (to_list (plains (from_list xs))) (λ e. n (sym (length_of_plains xs) ∙ e)))

pub no_condition : (h t : Tree) (xs : List Stamped) → node h (plains (from_list xs)) ≡ t → length xs ≢ 2 → false ≡ is_condition t
no_condition h t xs e n = sym (ap is_condition (sym e) ∙ condition_not_two h xs n)

named_other : (s : Name) (b : Bool) → bytes_eq s (codes "Condition") ≡ b → bytes_eq (codes "Condition") s ≡ false → b ≡ false
named_other s false e n = refl
named_other s true e n = absurd (let w : true ≡ false = sym ((bytes_eq-Decides (codes "Condition") s).1 (sym ((bytes_eq-Decides s (codes "Condition")).0 e))) ∙ n in cc)

named_condition : (s : Name) (t u : Tree) (b : Bool) → bytes_eq (codes "Condition") s ≡ b → b ≡ is_it (special_named s (t ∷ u ∷ []))
named_condition s t u true e = ap (λ z. is_it (special_named z (t ∷ u ∷ []))) ((bytes_eq-Decides (codes "Condition") s).0 e)
named_condition s t u false e = sym (special_other s (t ∷ u ∷ []) (ap (λ b. is_it (choose b condition ordinary)) (named_other s (bytes_eq s (codes "Condition")) refl e)))

condition_two : (h : Tree) (xs : List Stamped) → length xs ≡ 2 → is_the (codes "Condition") h ≡ is_condition (node h (plains (from_list xs)))
condition_two (num a) xs n = refl
condition_two (text s) xs n = refl
condition_two (node g us) xs n = refl
condition_two (symbol s) [] n = absurd (omega (arith, n))
condition_two (symbol s) (x ∷ []) n = absurd (omega (arith, n))
condition_two (symbol s) (x ∷ y ∷ []) n = named_condition s (plain x) (plain y) (bytes_eq (codes "Condition") s) refl
condition_two (symbol s) (x ∷ y ∷ z ∷ zs) n = absurd (omega (arith, n))

pub condition_is : (h t : Tree) (xs : List Stamped) → node h (plains (from_list xs)) ≡ t → length xs ≡ 2 → is_the (codes "Condition") h ≡ is_condition t
condition_is h t xs e n = condition_two h xs n ∙ ap is_condition e

-- ---- guarded bodies

guarded_two : (c : Bool) (b : Tree) → (c && (is_condition b || is_guarded b)) ≡ elim (body_of_two c b) [ None ↦ false | Some u ↦ is_condition u || is_guarded u ]
guarded_two true b = refl
guarded_two false b = refl

guarded_by : (t : Tree) → is_guarded t ≡ elim (scope_body t) [ None ↦ false | Some u ↦ is_condition u || is_guarded u ]
guarded_by (num a) = refl
guarded_by (text s) = refl
guarded_by (symbol x) = refl
guarded_by (node (num a) ts) = refl
guarded_by (node (text s) ts) = refl
guarded_by (node (node g us) ts) = refl
guarded_by (node (symbol x) none) = refl
guarded_by (node (symbol x) (more v none)) = refl
guarded_by (node (symbol x) (more v (more b none))) = guarded_two (is_scope (scope_named x v b)) b
guarded_by (node (symbol x) (more v (more b (more y ts)))) = refl

pub guarded_none : (t : Tree) → None ≡ scope_body t → is_guarded t ≡ false
guarded_none t e = guarded_by t ∙ sym (ap (λ o. elim o [ None ↦ false | Some u ↦ is_condition u || is_guarded u ]) e)

pub guarded_some : (t b : Tree) → Some b ≡ scope_body t → is_guarded t ≡ (is_condition b || is_guarded b)
guarded_some t b e = guarded_by t ∙ sym (ap (λ o. elim o [ None ↦ false | Some u ↦ is_condition u || is_guarded u ]) e)
