-- The distinct tags of the first elements, one element after the other.
use Rattle.std.proofs.Common.{ℕ, ◌+◌, ◌<◌, ◌≡◌, ◌≢◌, Bool, true, false, ◌||◌, List, [], ◌∷◌, ◌++◌, map, length, take, drop, get_or, refl, sym, ap, ◌∙◌}
use Rattle.std.proofs.lemmas.List.Elements.{filter_map-append}
use Rattle.std.proofs.lemmas.List.{map_more, map-append, take-append-drop, append_assoc}
use Rattle.std.proofs.lemmas.Slice.Eq.{bytes_eq-Decides}
use Rattle.std.specs.Prelude.{bytes_eq, Some, None, slice_get, filter_map}
use Rattle.wl_expr.specs.Same.{is_name_among, first_names}
use Rattle.wl_expr.specs.Stamped.{Stamped, plain, plains, from_list}
use Rattle.wl_expr.specs.Tree.{to_list}
use Rattle.wl_expr.specs.Words.{Name}
use Rattle.wl_expr.proofs.Parts.{to_list_plains}
use Rattle.wl_assign.specs.Kinds.{named_in, found_in}
use Rattle.wl_assign.specs.Tags.{tag}
use Rattle.wl_assign.proofs.FirstNames.{first_names-append, met_first, get_behind, is_name_among-append, is_name_among-first_names}

named_more : (ts : List Stamped) (i : ℕ) (d : Stamped) → i < length ts → named_in (take (i + 1) ts) ≡ named_in (take i ts) ++ filter_map tag (plain (get_or ts i d) ∷ [])
named_more ts i d l = ap (filter_map tag) (map_more plain ts i d l) ∙ filter_map-append tag (map plain (take i ts)) (plain (get_or ts i d) ∷ [])

found_more : (ts : List Stamped) (i : ℕ) (d : Stamped) → i < length ts → found_in (take (i + 1) ts) ≡ first_names (found_in (take i ts)) (filter_map tag (plain (get_or ts i d) ∷ []))
found_more ts i d l = ap (first_names []) (named_more ts i d l) ∙ first_names-append [] (named_in (take i ts)) (filter_map tag (plain (get_or ts i d) ∷ []))

-- an element without a tag
pub found_none : (ts : List Stamped) (i : ℕ) (d : Stamped) → i < length ts → tag (plain (get_or ts i d)) ≡ None → found_in (take (i + 1) ts) ≡ found_in (take i ts)
found_none ts i d l e = found_more ts i d l ∙ rw e refl

among : (ts : List Stamped) (i : ℕ) (x : Name) → is_name_among x (found_in (take i ts)) ≡ is_name_among x (named_in (take i ts))
among ts i x = is_name_among-first_names x [] (named_in (take i ts))

pick_met : (ns : List Name) (x : Name) (b : Bool) → b ≡ true → elim b [ true ↦ ns | false ↦ ns ++ x ∷ [] ] ≡ ns
pick_met ns x true e = refl
pick_met ns x false e = absurd (cc)

pick_other : (ns : List Name) (x : Name) (b : Bool) → b ≡ false → elim b [ true ↦ ns | false ↦ ns ++ x ∷ [] ] ≡ ns ++ x ∷ []
pick_other ns x true e = absurd (cc)
pick_other ns x false e = refl

-- one whose tag was met
pub found_met : (ts : List Stamped) (i : ℕ) (d : Stamped) (x : Name) → i < length ts → tag (plain (get_or ts i d)) ≡ Some x → is_name_among x (named_in (take i ts)) ≡ true
    → found_in (take (i + 1) ts) ≡ found_in (take i ts)
found_met ts i d x l e m = found_more ts i d l ∙ rw e (pick_met (found_in (take i ts)) x (is_name_among x (found_in (take i ts))) (among ts i x ∙ m))

-- one with another
pub found_other : (ts : List Stamped) (i : ℕ) (d : Stamped) (x : Name) → i < length ts → tag (plain (get_or ts i d)) ≡ Some x → is_name_among x (named_in (take i ts)) ≡ false
    → found_in (take (i + 1) ts) ≡ found_in (take i ts) ++ x ∷ []
found_other ts i d x l e m = found_more ts i d l ∙ rw e (pick_other (found_in (take i ts)) x (is_name_among x (found_in (take i ts))) (among ts i x ∙ m))

-- it stands behind those that were found before
pub found_there : (ts : List Stamped) (i : ℕ) (d : Stamped) (x : Name) → i < length ts → tag (plain (get_or ts i d)) ≡ Some x → is_name_among x (named_in (take i ts)) ≡ false
    → slice_get (found_in ts) (length (found_in (take i ts))) ≡ Some x
found_there ts i d x l e m =
    let behind = named_in (drop (i + 1) ts) in
    let all : found_in ts ≡ first_names (found_in (take i ts) ++ x ∷ []) behind =
    ap found_in (sym (take-append-drop (i + 1) ts)) ∙ ap (λ ns. first_names [] (filter_map tag ns)) (map-append plain (take (i + 1) ts) (drop (i + 1) ts))
    ∙ ap (first_names []) (filter_map-append tag (map plain (take (i + 1) ts)) (map plain (drop (i + 1) ts))) ∙ first_names-append [] (named_in (take (i + 1) ts)) behind
    ∙ ap (λ ns. first_names ns behind) (found_other ts i d x l e m)
    in
    let (ys, f) = met_first (found_in (take i ts) ++ x ∷ []) behind in
    ap (λ ns. slice_get ns (length (found_in (take i ts)))) (all ∙ f ∙ append_assoc (found_in (take i ts)) (x ∷ []) ys) ∙ get_behind (found_in (take i ts)) ys x

-- all of them are the tags of the node
pub tags_found : (ts : List Stamped) → first_names [] (filter_map tag (to_list (plains (from_list ts)))) ≡ found_in ts
tags_found ts = ap (λ es. first_names [] (filter_map tag es)) (to_list_plains ts)

-- ---- whether a name is one of the tags

one_more : (ts : List Stamped) (i : ℕ) (d : Stamped) (x : Name) → i < length ts
    → is_name_among x (named_in (take (i + 1) ts)) ≡ (is_name_among x (named_in (take i ts)) || is_name_among x (filter_map tag (plain (get_or ts i d) ∷ [])))
one_more ts i d x l = ap (is_name_among x) (named_more ts i d l) ∙ is_name_among-append x (named_in (take i ts)) (filter_map tag (plain (get_or ts i d) ∷ []))

pub untagged : (ts : List Stamped) (i : ℕ) (d : Stamped) (x : Name) → i < length ts → tag (plain (get_or ts i d)) ≡ None → is_name_among x (named_in (take i ts)) ≡ false
    → is_name_among x (named_in (take (i + 1) ts)) ≡ false
untagged ts i d x l e m = one_more ts i d x l ∙ rw e (rw m refl)

is_it : (x y : Name) → bytes_eq x y ≡ (bytes_eq x y || false)
is_it x y = go (bytes_eq x y)
  where
    go : (b : Bool) → b ≡ (b || false)
    go true = refl
    go false = refl

pub tagged_otherwise : (ts : List Stamped) (i : ℕ) (d : Stamped) (x y : Name) → i < length ts → tag (plain (get_or ts i d)) ≡ Some y → y ≢ x → is_name_among x (named_in (take i ts)) ≡ false
    → is_name_among x (named_in (take (i + 1) ts)) ≡ false
tagged_otherwise ts i d x y l e n m = one_more ts i d x l ∙ rw e (rw m (sym (is_it x y) ∙ differs (bytes_eq x y) refl))
  where
    differs : (b : Bool) → bytes_eq x y ≡ b → b ≡ false
    differs true q = absurd (n (sym ((bytes_eq-Decides x y).0 q)))
    differs false q = refl

pub tagged_so : (ts : List Stamped) (i : ℕ) (d : Stamped) (x : Name) → i < length ts → tag (plain (get_or ts i d)) ≡ Some x → is_name_among x (named_in ts) ≡ true
tagged_so ts i d x l e =
    let all : named_in ts ≡ named_in (take (i + 1) ts) ++ named_in (drop (i + 1) ts) =
    ap named_in (sym (take-append-drop (i + 1) ts)) ∙ ap (filter_map tag) (map-append plain (take (i + 1) ts) (drop (i + 1) ts))
    ∙ filter_map-append tag (map plain (take (i + 1) ts)) (map plain (drop (i + 1) ts))
    in
    let here : is_name_among x (named_in (take (i + 1) ts)) ≡ true = one_more ts i d x l ∙ rw e (rw ((bytes_eq-Decides x x).1 refl) (or_true (is_name_among x (named_in (take i ts))))) in
    ap (is_name_among x) all ∙ is_name_among-append x (named_in (take (i + 1) ts)) (named_in (drop (i + 1) ts)) ∙ rw here refl
  where
    or_true : (b : Bool) → (b || true) ≡ true
    or_true true = refl
    or_true false = refl
