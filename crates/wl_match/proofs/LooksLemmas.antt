-- What a search asks a pattern, part by part.
use Rattle.std.proofs.Common.{◌≡◌, ◌<◌, ◌≤◌, ◌+◌, ◌-◌, ℕ, suc, Bool, true, false, ◌||◌, List, [], ◌∷◌, length, get_or, drop, max, Option, Some, None, refl, ap, sym, subst, ◌∙◌, arith, inl, inr}
use Rattle.std.specs.List.{All}
use Rattle.std.proofs.lemmas.List.Elements.{All-head}
use Rattle.std.proofs.lemmas.Bool.{cases_lt}
use Rattle.std.proofs.Math.Seq.{drop-cons}
use Rattle.std.proofs.lemmas.List.{drop_all}
use Rattle.wl_expr.specs.Tree.{Tree, num, text, symbol, node}
use Rattle.wl_expr.specs.Same.{same}
use Rattle.wl_expr.specs.Stamped.{plain}
use Rattle.wl_expr.specs.Words.{is_the, natural}
use Rattle.wl_match.specs.declared.part.Part.{Part}
use Rattle.wl_match.specs.declared.part.Part.TheVariants as part
use Rattle.wl_match.specs.Pattern.{Pat, end, also, exactly, is_optional, any_optional, need, plus}
use Rattle.wl_match.specs.Parts.{inside, nothing, pat, pat_of, pats_of, IsBehind}
use Rattle.wl_match.specs.Runs.{keeps, kept_at, or_tree, part_at}
use Rattle.wl_match.specs.Means.{IsPart, from_child, site_at, HasSpan}
use Rattle.wl_match.specs.Trials.{Site, beyond, least, most_under, mosts, need_present, needs, within}
use Rattle.wl_match.proofs.LentLemmas.{same_turned}
use Rattle.wl_match.proofs.PartsLemmas.{no_pat, pat_is}

-- a part names what stands before it
pub inner_below : (ss : List Part) (i q : ℕ) (s x : Part) → IsPart ss i s → s ≡ x → inside x ≡ q ∷ [] → q < i
inner_below ss i q s x h e f = All-head (λ j. j < i) q [] (subst (All (λ j. j < i)) (ap inside e ∙ f) h.behind)

-- a value of a part's pattern
pub part_value : {B : Type 0} (f : Pat → B) (ss : List Part) (i : ℕ) (s x : Part) (b : B) → IsPart ss i s → s ≡ x → b ≡ f (pat_of (pat ss) x) → b ≡ f (pat ss i)
part_value f ss i s x b h e k = k ∙ sym (ap f (h.is ∙ ap (pat_of (pat ss)) e))

exact_keeps : (f : ℕ → Pat) (s : Part) (x : Tree) → pat_of f s ≡ exactly x → keeps s ≡ Some x
exact_keeps f (part.Exactly t) x e = let k : plain t ≡ x = cc in ap Some k
exact_keeps f (part.Blank c h) x e = cc
exact_keeps f (part.Named y q) x e = cc
exact_keeps f (part.Applies t q) x e = cc
exact_keeps f (part.Holds c q) x e = cc
exact_keeps f (part.Hold q) x e = cc
exact_keeps f (part.Optional d q) x e = cc
exact_keeps f (part.Alternatives qs) x e = cc
exact_keeps f (part.Repeated c q) x e = cc
exact_keeps f (part.Except t q) x e = cc
exact_keeps f (part.Nodes g h hp qs) x e = cc

pub default_is : (ss zs : List Part) (t : Tree) (i n : ℕ) → zs ≡ ss → IsBehind 0 zs → pat zs i ≡ exactly (natural n) → kept_at ss t i ≡ natural n
default_is ss zs t i n z b e = ap (λ ys. kept_at ys t i) (sym z) ∙ elim (cases_lt i (length zs)) [
  | inl h ↦ or_is (exact_keeps (pat zs) (part_at zs i) (natural n) (sym (pat_is zs i (part.Hold 0) b h) ∙ e))
  | inr h ↦ let k : nothing ≡ exactly (natural n) = sym (no_pat zs i h) ∙ e in cc
]
  where
    or_is : keeps (part_at zs i) ≡ Some (natural n) → kept_at zs t i ≡ natural n
    or_is h = ap (λ o. or_tree t o) h

pub the_same : (x : List ℕ) (t : Tree) (b : Bool) → b ≡ is_the x t → b ≡ same t (symbol x)
the_same x t b e = e ∙ turned t ∙ same_turned (symbol x) t
  where
    turned : (t : Tree) → is_the x t ≡ same (symbol x) t
    turned (num n) = refl
    turned (text s) = refl
    turned (symbol s) = refl
    turned (node h ts) = refl

-- ---- lists

optional_step : (f : ℕ → Pat) (xs : List ℕ) (k : ℕ) → k < length xs → any_optional (pats_of f (drop k xs)) ≡ (is_optional (f (get_or xs k 0)) || any_optional (pats_of f (drop (k + 1) xs)))
optional_step f xs k h =
    ap (λ z. any_optional (pats_of f z)) (drop-cons xs k 0 h)
    ∙ (λ v. is_optional (f (get_or xs k 0)) || any_optional (pats_of f (drop ((let n : suc k ≡ k + 1 = omega arith in n) v) xs)))

pub optional_here : (f : ℕ → Pat) (xs : List ℕ) (k : ℕ) (b a : Bool) → k < length xs → b ≡ is_optional (f (get_or xs k 0)) → b ≡ true → any_optional (pats_of f (drop k xs)) ≡ a → true ≡ a
optional_here f xs k b a h g t i = (λ v. (sym t ∙ g) v || any_optional (pats_of f (drop (k + 1) xs))) ∙ sym (optional_step f xs k h) ∙ i

pub optional_later : (f : ℕ → Pat) (xs : List ℕ) (k : ℕ) (b a : Bool) → k < length xs → b ≡ is_optional (f (get_or xs k 0)) → b ≡ false → any_optional (pats_of f (drop k xs)) ≡ a → any_optional (pats_of f (drop (k + 1) xs)) ≡ a
optional_later f xs k b a h g t i = (λ v. (sym t ∙ g) v || any_optional (pats_of f (drop (k + 1) xs))) ∙ sym (optional_step f xs k h) ∙ i

pub optional_never : (f : ℕ → Pat) (xs : List ℕ) (k : ℕ) (a : Bool) → length xs ≤ k → any_optional (pats_of f (drop k xs)) ≡ a → false ≡ a
optional_never f xs k a h i = ap (λ z. any_optional (pats_of f z)) (sym (drop_all k xs h)) ∙ i

-- what the parts from one on take
pub needs_more : (f : ℕ → Pat) (xs : List ℕ) (k n m all : ℕ) → k < length xs → m ≡ n + need (f (get_or xs k 0)) → n + needs (pats_of f (drop k xs)) ≡ all → m + needs (pats_of f (drop (k + 1) xs)) ≡ all
needs_more f xs k n m all h e i =
    let s : needs (pats_of f (drop k xs)) ≡ need (f (get_or xs k 0)) + needs (pats_of f (drop (k + 1) xs)) =
    ap (λ z. needs (pats_of f z)) (drop-cons xs k 0 h) ∙ (λ v. need (f (get_or xs k 0)) + needs (pats_of f (drop ((let n : suc k ≡ k + 1 = omega arith in n) v) xs))) in
    omega arith

plus_assoc : (a b c : Option ℕ) → plus (plus a b) c ≡ plus a (plus b c)
plus_assoc None b c = refl
plus_assoc (Some m) None c = refl
plus_assoc (Some m) (Some n) None = refl
plus_assoc (Some m) (Some n) (Some k) = ap Some (omega arith)

pub mosts_more : (s : Site) (f : ℕ → Pat) (xs : List ℕ) (k : ℕ) (a b all : Option ℕ) → k < length xs → b ≡ plus a (most_under s (f (get_or xs k 0))) → plus a (mosts s (pats_of f (drop k xs))) ≡ all → plus b (mosts s (pats_of f (drop (k + 1) xs))) ≡ all
mosts_more s f xs k a b all h e i =
    let r = mosts s (pats_of f (drop (k + 1) xs)) in
    ap (λ z. plus z r) e ∙ plus_assoc a (most_under s (f (get_or xs k 0))) r
    ∙ ap (plus a) (sym (ap (λ z. mosts s (pats_of f z)) (drop-cons xs k 0 h) ∙ (λ v. plus (most_under s (f (get_or xs k 0))) (mosts s (pats_of f (drop ((let n : suc k ≡ k + 1 = omega arith in n) v) xs))))))
    ∙ i

plus_zero : (a : Option ℕ) → plus a (Some 0) ≡ a
plus_zero None = refl
plus_zero (Some n) = ap Some (omega arith)

pub needs_all : (f : ℕ → Pat) (xs : List ℕ) (k n all : ℕ) → length xs ≤ k → n + needs (pats_of f (drop k xs)) ≡ all → n ≡ all
needs_all f xs k n all h i =
    let s : needs (pats_of f (drop k xs)) ≡ 0 = ap (λ z. needs (pats_of f z)) (drop_all k xs h) in
    omega arith

pub mosts_all : (s : Site) (f : ℕ → Pat) (xs : List ℕ) (k : ℕ) (a all : Option ℕ) → length xs ≤ k → plus a (mosts s (pats_of f (drop k xs))) ≡ all → a ≡ all
mosts_all s f xs k a all h i = sym (plus_zero a) ∙ ap (plus a) (sym (ap (λ z. mosts s (pats_of f z)) (drop_all k xs h))) ∙ i

pub plus_none : (a : Option ℕ) → plus (Some 0) a ≡ a
plus_none None = refl
plus_none (Some n) = ap Some (omega arith)

-- ---- the lengths of a run

pub no_span : (ss : List Part) (i j n low count : ℕ) → from_child ss i j ≡ end → HasSpan ss i j n low count
no_span ss i j n low count e p ps h = let k : end ≡ also p ps = sym e ∙ h in cc

pub span_is : (ss : List Part) (i j n q next low room count needed present over : ℕ) (m end_at : ℕ) (u v : Option ℕ) →
    from_child ss i j ≡ also (pat ss q) (from_child ss i (j + 1)) → next ≡ j + 1 →
    needed ≡ needs (from_child ss i next) → u ≡ mosts (site_at ss i) (from_child ss i next) →
    present ≡ need_present (pat ss q) → over ≡ beyond n u → low ≡ max present over →
    m ≡ n + 1 → room ≡ m - needed → v ≡ most_under (site_at ss i) (pat ss q) → end_at ≡ within v room → count ≡ end_at - low →
    HasSpan ss i j n low count
span_is ss i j n q next low room count needed present over m end_at u v c x a b d e f g r o w z p ps h =
    let s = site_at ss i in
    let k : also (pat ss q) (from_child ss i (j + 1)) ≡ also p ps = sym c ∙ h in
    let kp : pat ss q ≡ p = cc in
    let kq : from_child ss i (j + 1) ≡ ps = cc in
    let la : low ≡ least s p ps n = f ∙ (λ y. max ((d ∙ ap need_present kp) y) ((e ∙ ap (beyond n) (b ∙ ap (λ z. mosts s (from_child ss i z)) x ∙ ap (mosts s) kq)) y)) in (
      la,
      z ∙ (λ y. (w ∙ (λ y. within ((o ∙ ap (most_under s) kp) y) ((r ∙ (λ y. g y - (a ∙ ap (λ z. needs (from_child ss i z)) x ∙ ap needs kq) y)) y))) y - la y),
    )
