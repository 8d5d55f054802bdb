-- What the writer's page holds after pieces of a text.
use Rattle.std.proofs.Common.{ℕ, Bool, true, false, ◌≡◌, ◌≢◌, ◌⊎◌, inl, inr, List, [], ◌∷◌, ◌++◌, map, refl, sym, ap, ◌∙◌, append_assoc, append-nil, arith, codes, subst}
use Rattle.std.specs.Prelude.{◌&&◌, nat_le, if◌then◌else◌, Option, Some, None}
use Rattle.std.proofs.lemmas.Bool.{cond_both, cond-true, cond-false, le-leb, leb-true}
use Rattle.std.proofs.lemmas.List.{map-append}
use Rattle.wl_expr.specs.Stamped as stamped
use Rattle.wl_expr.specs.Stamped.{Stamped, plain, plains, unstamped, unstampeds, plain_unstamped}
use Rattle.wl_expr.specs.Tree as tree
use Rattle.wl_expr.specs.Tree.{Tree, Trees, IsWithinLimits, AreSmall, weight, weights, depth, depths}
use Rattle.wl_expr.proofs.Small.{large_args}
use Rattle.wl_form.specs.Boxes.{Piece, between, boxed, strings, strings_of, has_box, string_before, merged, box_of}
use Rattle.wl_form.specs.Pages.{Line, Page, writing, boxing, large, page_of, fits, fitted, all_parts, then_box, named_node, parts_with, finished_by, put_text, lined, put_box, taken, opened, Closes}
use Rattle.wl_form.specs.Writing.{Closed, closing}
use Rattle.wl_form.specs.declared.page.Kind.{Kind}
use Rattle.wl_form.specs.declared.page.Kind.TheVariants.{Text, Boxes, Large}
use Rattle.wl_form.proofs.Boxing.{box_strings}

-- a text more

pub more_text : (k : Kind) (ts : List Stamped) (s u : List ℕ) (ls : List Line) → page_of k ts (s ++ u) ls ≡ put_text (page_of k ts s ls) u
more_text Text ts s u ls = refl
more_text Boxes ts s u ls = refl
more_text Large ts s u ls = refl

pub put_put : (p : Page) (s u : List ℕ) → put_text (put_text p s) u ≡ put_text p (s ++ u)
put_put (writing w) s u = ap writing (append_assoc w s u)
put_put (boxing l ls) s u = ap (λ v. boxing record { parts = l.parts; text = v } ls) (append_assoc l.text s u)
put_put large s u = refl

pub taken_append : (p : Page) (ps qs : List Piece) → taken p (ps ++ qs) ≡ taken (taken p ps) qs
taken_append p [] qs = refl
taken_append p (between s ∷ ps) qs = taken_append (put_text p s) ps qs
taken_append p (boxed t ∷ ps) qs = taken_append (put_box p (unstamped t)) ps qs

-- what fits

pub fits_when : (t : Tree) → IsWithinLimits t → fits t ≡ true
fits_when t h = ap (λ (b : Bool). b && nat_le (depth t) 1000) (le-leb (weight t) 4000000 h.light) ∙ le-leb (depth t) 1000 h.shallow

both : (a b : Bool) → (a && b) ≡ true → (a ≡ true) × (b ≡ true)
both true true h = (refl, refl)
both true false h = absurd (cc)
both false b h = absurd (cc)

pub within_when : (t : Tree) → fits t ≡ true → IsWithinLimits t
within_when t h =
    let p = both (nat_le (weight t) 4000000) (nat_le (depth t) 1000) h in
    record { light = leb-true (weight t) 4000000 p.0; shallow = leb-true (depth t) 1000 p.1 }

not_true : (b : Bool) → (b ≡ true → ⊥) → b ≡ false
not_true false h = refl
not_true true h = absurd (h refl)

not_false : (b : Bool) → (b ≡ false → ⊥) → b ≡ true
not_false true h = refl
not_false false h = absurd (h refl)

true_false : (b : Bool) → b ≡ true → b ≡ false → ⊥
true_false b e f = cc

pub unfit_when : (t : Tree) → ¬ IsWithinLimits t → fits t ≡ false
unfit_when t n = not_true (fits t) (λ h. n (within_when t h))

pub not_within_when : (t : Tree) → fits t ≡ false → ¬ IsWithinLimits t
not_within_when t h f = true_false (fits t) (fits_when t f) h

pub fits_unless : (t : Tree) → (¬ IsWithinLimits t → ⊥) → fits t ≡ true
fits_unless t n = not_false (fits t) (λ h. n (not_within_when t h))

-- a tree among others
part_small : (us : List Tree) (t : Tree) (vs : List Tree) → AreSmall (tree.from_list (us ++ t ∷ vs)) → IsWithinLimits t
part_small [] t vs h = record { light = omega (arith, h.light); shallow = omega (arith, h.shallow) }
part_small (u ∷ us) t vs h = part_small us t vs record { light = omega (arith, h.light); shallow = omega (arith, h.shallow) }

-- the pieces of a row that begins

abbrev bare : List Tree → List Stamped
bare ts = map unstamped ts

abbrev line : List Tree → List ℕ → Line
line ts s = record { parts = bare ts; text = s }

record Fine (ts : List Tree) (s : List ℕ) (ls : List Line) (ps : List Piece) (us : List Tree) (u : List ℕ) : Type 0 where
  page : taken (boxing (line ts s) ls) ps ≡ boxing (line us u) ls
  parts : us ++ string_before u [] ≡ ts ++ merged s ps
  text : has_box ps ≡ false → (us ≡ ts) × (u ≡ s ++ strings_of ps)
  some : has_box ps ≡ true → us ≢ []

record Bad (ts : List Tree) (s : List ℕ) (ls : List Line) (ps : List Piece) : Type 0 where
  page : taken (boxing (line ts s) ls) ps ≡ large
  box : has_box ps ≡ true
  unfit : ¬ AreSmall (tree.from_list (ts ++ merged s ps))

abbrev Outcome : List Tree → List ℕ → List Line → List Piece → Type 0
Outcome ts s ls ps = ((us : List Tree) × ((u : List ℕ) × Fine ts s ls ps us u)) ⊎ Bad ts s ls ps

pub taken_large : (ps : List Piece) → taken large ps ≡ large
taken_large [] = refl
taken_large (between s ∷ ps) = taken_large ps
taken_large (boxed t ∷ ps) = taken_large ps

not_empty : (ts : List Tree) (t : Tree) (us : List Tree) (w : List Tree) → w ≢ [] → (ts ++ t ∷ [] ≡ w) → ts ++ t ∷ [] ≢ []
not_empty ts t us w n e f = n (sym e ∙ f)

pushed : (ts : List Tree) (t : Tree) (ls : List Line) → fits t ≡ true → lined (then_box (Some (bare ts)) (unstamped t)) ls ≡ boxing (line (ts ++ t ∷ []) []) ls
pushed ts t ls h =
    ap (λ (b : Bool). lined (if b then Some record { parts = bare ts ++ unstamped t ∷ []; text = [] } else None) ls) (ap fits (plain_unstamped t) ∙ h)
    ∙ ap (λ qs. boxing record { parts = qs; text = [] } ls) (sym (map-append unstamped ts (t ∷ [])))

unpushed : (ts : List Stamped) (t : Tree) (ls : List Line) → fits t ≡ false → lined (then_box (Some ts) (unstamped t)) ls ≡ large
unpushed ts t ls h = ap (λ (b : Bool). lined (if b then Some record { parts = ts ++ unstamped t ∷ []; text = [] } else None) ls) (ap fits (plain_unstamped t) ∙ h)

-- the next box of a row, where what is left has its outcome

fits_or : (t : Tree) → (fits t ≡ true) ⊎ (fits t ≡ false)
fits_or t = elim (fits t) as (λ b. (b ≡ true) ⊎ (b ≡ false)) [ true ↦ inl refl | false ↦ inr refl ]

not_nil : (vs : List Tree) (t : Tree) (us : List Tree) → (vs ++ t ∷ []) ++ us ≡ [] → ⊥
not_nil [] t us e = cc
not_nil (v ∷ vs) t us e = cc

-- a row that has parts keeps them
kept : (ts : List Tree) (t : Tree) (s : List ℕ) (ls : List Line) (ps : List Piece) (us : List Tree) (u : List ℕ) → Fine (ts ++ t ∷ []) s ls ps us u → us ≢ []
kept ts t s ls ps us u f e = elim (flag (has_box ps)) [ inl h ↦ f.some h e | inr h ↦ not_nil ts t [] (append-nil (ts ++ t ∷ []) ∙ sym (f.text h).0 ∙ e) ]
  where
    flag : (b : Bool) → (b ≡ true) ⊎ (b ≡ false)
    flag true = inl refl
    flag false = inr refl

next_fits : (ts vs : List Tree) (t : Tree) (s : List ℕ) (ls : List Line) (ps : List Piece) → fits t ≡ true → taken (boxing (line ts s) ls) (boxed t ∷ ps) ≡ taken (lined (then_box (Some (bare vs)) (unstamped t)) ls) ps
    → vs ++ (t ∷ merged [] ps) ≡ ts ++ merged s (boxed t ∷ ps) → Outcome (vs ++ t ∷ []) [] ls ps → Outcome ts s ls (boxed t ∷ ps)
next_fits ts vs t s ls ps h e m (inl p) = inl (
  p.0,
  (
    p.1.0,
    record {
      page = e ∙ ap (λ q. taken q ps) (pushed vs t ls h) ∙ p.1.1.page;
      parts = p.1.1.parts ∙ append_assoc vs (t ∷ []) (merged [] ps) ∙ m;
      text = λ n. absurd (cc);
      some = λ _. kept vs t [] ls ps p.0 p.1.0 p.1.1;
    },
  ),
)
next_fits ts vs t s ls ps h e m (inr b) = inr record {
  page = e ∙ ap (λ q. taken q ps) (pushed vs t ls h) ∙ b.page;
  box = refl;
  unfit = subst (λ us. ¬ AreSmall (tree.from_list us)) (append_assoc vs (t ∷ []) (merged [] ps) ∙ m) b.unfit;
}

next_not : (ts vs : List Tree) (t : Tree) (s : List ℕ) (ls : List Line) (ps : List Piece) → fits t ≡ false → taken (boxing (line ts s) ls) (boxed t ∷ ps) ≡ taken (lined (then_box (Some (bare vs)) (unstamped t)) ls) ps
    → vs ++ (t ∷ merged [] ps) ≡ ts ++ merged s (boxed t ∷ ps) → Outcome ts s ls (boxed t ∷ ps)
next_not ts vs t s ls ps h e m = inr record {
  page = e ∙ ap (λ q. taken q ps) (unpushed (bare vs) t ls h) ∙ taken_large ps;
  box = refl;
  unfit = subst (λ us. ¬ AreSmall (tree.from_list us)) m (λ a. not_within_when t h (part_small vs t (merged [] ps) a));
}

next : (ts vs : List Tree) (t : Tree) (s : List ℕ) (ls : List Line) (ps : List Piece) → taken (boxing (line ts s) ls) (boxed t ∷ ps) ≡ taken (lined (then_box (Some (bare vs)) (unstamped t)) ls) ps
    → vs ++ (t ∷ merged [] ps) ≡ ts ++ merged s (boxed t ∷ ps) → Outcome (vs ++ t ∷ []) [] ls ps → Outcome ts s ls (boxed t ∷ ps)
next ts vs t s ls ps e m o = elim (fits_or t) [ inl h ↦ next_fits ts vs t s ls ps h e m o | inr h ↦ next_not ts vs t s ls ps h e m ]

-- the string of the text before a box

string_fits : (ts : List Tree) (s : List ℕ) → fits (tree.text s) ≡ true → (if fits (tree.text s) then Some (bare ts ++ stamped.text s ∷ []) else None) ≡ Some (bare (ts ++ tree.text s ∷ []))
string_fits ts s h = cond-true (fits (tree.text s)) (Some (bare ts ++ stamped.text s ∷ [])) None h ∙ ap Some (sym (map-append unstamped ts (tree.text s ∷ [])))

next_string : (ts : List Tree) (t : Tree) (c : ℕ) (cs : List ℕ) (ls : List Line) (ps : List Piece) → Outcome ((ts ++ tree.text (c ∷ cs) ∷ []) ++ t ∷ []) [] ls ps → Outcome ts (c ∷ cs) ls (boxed t ∷ ps)
next_string ts t c cs ls ps o = elim (fits_or (tree.text (c ∷ cs))) [
  | inl h ↦ next ts (ts ++ tree.text (c ∷ cs) ∷ []) t (c ∷ cs) ls ps
      (ap (λ q. taken (lined (then_box q (unstamped t)) ls) ps) (string_fits ts (c ∷ cs) h))
      (append_assoc ts (tree.text (c ∷ cs) ∷ []) (t ∷ merged [] ps)) o
  | inr h ↦ inr record {
    page = ap (λ q. taken (lined (then_box q (unstamped t)) ls) ps) (cond-false (fits (tree.text (c ∷ cs))) (Some (bare ts ++ stamped.text (c ∷ cs) ∷ [])) None h) ∙ taken_large ps;
    box = refl;
    unfit = λ a. not_within_when (tree.text (c ∷ cs)) h (part_small ts (tree.text (c ∷ cs)) (t ∷ merged [] ps) a);
  }
]

outcome : (ts : List Tree) (s : List ℕ) (ls : List Line) (ps : List Piece) → Outcome ts s ls ps
outcome ts s ls [] = inl (ts, (s, record { page = refl; parts = refl; text = λ _. (refl, sym (append-nil s)); some = λ h. absurd (cc) }))
outcome ts s ls (between u ∷ ps) = elim (outcome ts (s ++ u) ls ps) [
  | inl p ↦ inl (p.0, (p.1.0, record { page = p.1.1.page; parts = p.1.1.parts; text = λ h. ((p.1.1.text h).0, (p.1.1.text h).1 ∙ append_assoc s u (strings_of ps)); some = p.1.1.some }))
  | inr b ↦ inr record { page = b.page; box = b.box; unfit = b.unfit }
]
outcome ts [] ls (boxed t ∷ ps) = next ts ts t [] ls ps refl refl (outcome (ts ++ t ∷ []) [] ls ps)
outcome ts (c ∷ cs) ls (boxed t ∷ ps) = next_string ts t c cs ls ps (outcome ((ts ++ tree.text (c ∷ cs) ∷ []) ++ t ∷ []) [] ls ps)

-- the box of a row

unstampeds_from_list : (ts : List Tree) → stamped.from_list (bare ts) ≡ unstampeds (tree.from_list ts)
unstampeds_from_list [] = refl
unstampeds_from_list (t ∷ ts) = ap (λ us. stamped.more (unstamped t) us) (unstampeds_from_list ts)

parts_bare : (us : List Tree) (u : List ℕ) → parts_with (bare us) u ≡ bare (us ++ string_before u [])
parts_bare us [] = ap bare (sym (append-nil us))
parts_bare us (c ∷ cs) = sym (map-append unstamped us (tree.text (c ∷ cs) ∷ []))

row_box : List Tree → Tree
row_box ts = tree.node (tree.symbol (codes "RowBox")) (tree.more (tree.node (tree.symbol (codes "List")) (tree.from_list ts)) tree.none)

boxed_row : (us : List Tree) (u : List ℕ) (ts : List Tree) → us ≢ [] → us ++ string_before u [] ≡ ts → finished_by (bare us) u ≡ unstamped (row_box ts)
unfolding row_box
boxed_row [] u ts n e = absurd (n refl)
boxed_row (w ∷ ws) u ts n e = ap (λ l. named_node (codes "RowBox") (stamped.node None (stamped.symbol None (codes "List")) l ∷ [])) (ap stamped.from_list (parts_bare (w ∷ ws) u ∙ ap bare e) ∙ unstampeds_from_list ts)

finished_box : (ls : List Line) (ps : List Piece) (us : List Tree) (u : List ℕ) → Fine [] [] ls ps us u → finished_by (bare us) u ≡ unstamped (box_of ps)
unfolding row_box
finished_box ls ps us u f = cond_both (has_box ps) (row_box (merged [] ps)) (tree.text (strings_of ps)) (λ t. finished_by (bare us) u ≡ unstamped t)
    (λ h. boxed_row us u (merged [] ps) (f.some h) f.parts)
    (λ h. ap (λ vs. finished_by (bare vs) u) (f.text h).0 ∙ ap (λ v. stamped.text v) (f.text h).1)

unfit_row : (ts : List Tree) → ¬ AreSmall (tree.from_list ts) → fits (row_box ts) ≡ false
unfolding row_box
unfit_row ts n = unfit_when _ (large_args (tree.symbol (codes "RowBox")) _ (λ a. large_args (tree.symbol (codes "List")) (tree.from_list ts) n (part_small [] (tree.node (tree.symbol (codes "List")) (tree.from_list ts)) [] a)))

unfit_box : (ls : List Line) (ps : List Piece) → Bad [] [] ls ps → fits (box_of ps) ≡ false
unfolding row_box
unfit_box ls ps b = ap fits (cond-true (has_box ps) (row_box (merged [] ps)) (tree.text (strings_of ps)) b.box) ∙ unfit_row (merged [] ps) b.unfit

-- a box that doesn't fit
unfit_put : (l : Line) (ls : List Line) (t : Tree) → fits t ≡ false → put_box (boxing l ls) (unstamped t) ≡ large
unfit_put l ls t h = go (all_parts l.parts l.text)
  where
    go : (o : Option (List Stamped)) → lined (then_box o (unstamped t)) ls ≡ large
    go None = refl
    go (Some ts) = unpushed ts t ls h

taken_writing : (w : List ℕ) (ps : List Piece) → taken (writing w) ps ≡ writing (w ++ strings_of ps)
taken_writing w [] = ap writing (sym (append-nil w))
taken_writing w (between s ∷ ps) = taken_writing (w ++ s) ps ∙ ap writing (append_assoc w s (strings_of ps))
taken_writing w (boxed t ∷ ps) =
    ap (λ u. taken (writing (w ++ strings u)) ps) (plain_unstamped t)
    ∙ taken_writing (w ++ strings t) ps ∙ ap writing (append_assoc w (strings t) (strings_of ps))

-- a row that ends is a box of the one around it
pub closes : (old new : Page) → Closes old new → (p : Page) (ps : List Piece) → old ≡ taken (opened p) ps → new ≡ put_box p (unstamped (box_of ps))
closes old new c (writing w) ps e =
    c.text (w ++ strings_of ps) (e ∙ taken_writing w ps)
    ∙ ap (λ s. writing (w ++ s)) (sym (box_strings ps) ∙ ap strings (sym (plain_unstamped (box_of ps))))
closes old new c large ps e = c.too_large (e ∙ taken_large ps)
closes old new c (boxing l ls) ps e = elim (outcome [] [] (ls ++ l ∷ []) ps) [
  | inl p ↦ c.boxes (line p.0 p.1.0) l ls (e ∙ p.1.1.page) ∙ ap (λ b. put_box (boxing l ls) b) (finished_box (ls ++ l ∷ []) ps p.0 p.1.0 p.1.1)
  | inr b ↦ c.too_large (e ∙ b.page) ∙ sym (unfit_put l ls (box_of ps) (unfit_box (ls ++ l ∷ []) ps b))
]

pub closed : (b : Bool) (old mid new : Page) → Closes old mid → new ≡ taken mid (closing b) → Closed b old new
closed b old mid new c e p ps f = e ∙ ap (λ q. taken q (closing b)) (closes old mid c p ps f)

-- the box of a row whose text or whose last part doesn't fit

last_small : (ts : List Stamped) (t : Stamped) → AreSmall (plains (stamped.from_list (ts ++ t ∷ []))) → IsWithinLimits (plain t)
last_small [] t h = record { light = omega (arith, h.light); shallow = omega (arith, h.shallow) }
last_small (u ∷ us) t h = last_small us t record { light = omega (arith, h.light); shallow = omega (arith, h.shallow) }

unfit_list : (ts : List Stamped) → fits (plain (named_node (codes "List") ts)) ≡ false → fits (plain (named_node (codes "RowBox") (named_node (codes "List") ts ∷ []))) ≡ false
unfit_list ts h = unfit_when _ (large_args (tree.symbol (codes "RowBox")) _ (λ a. not_within_when _ h (last_small [] (named_node (codes "List") ts) a)))

none_fitted : (b : Stamped) → fits (plain b) ≡ false → None ≡ fitted b
none_fitted b h = sym (cond-false (fits (plain b)) (Some b) None h)

pub unparted : (ts : List Stamped) (s : List ℕ) → ts ≢ [] → all_parts ts s ≡ None → None ≡ fitted (finished_by ts s)
unparted [] s n e = absurd (n refl)
unparted (t ∷ ts) [] n e = absurd (cc)
unparted (t ∷ ts) (c ∷ cs) n e =
    none_fitted (finished_by (t ∷ ts) (c ∷ cs)) (unfit_list ((t ∷ ts) ++ stamped.text (c ∷ cs) ∷ []) (unfit_when _ (large_args (tree.symbol (codes "List")) _ (λ a. not_within_when (tree.text (c ∷ cs)) (elim (fits_or (tree.text (c ∷ cs))) [ inl h ↦ absurd (some_none _ (sym (cond-true (fits (tree.text (c ∷ cs))) (Some ((t ∷ ts) ++ stamped.text (c ∷ cs) ∷ [])) None h) ∙ e)) | inr h ↦ h ]) (last_small (t ∷ ts) (stamped.text (c ∷ cs)) a)))))
  where
    some_none : (us : List Stamped) → Some us ≡ None → ⊥
    some_none us e = cc

pub pushed_text : (p q : Page) (s u : List ℕ) → q ≡ put_text p s → s ≡ u → q ≡ put_text p u
pushed_text p q s u e f = e ∙ ap (λ v. put_text p v) f

pub closed_in_parens : (b : Bool) (old mid new : Page) → Closes old mid → b ≡ true → new ≡ put_text mid (codes ")") → Closed b old new
closed_in_parens b old mid new c h e = closed b old mid new c (e ∙ ap (λ (x : Bool). taken mid (closing x)) (sym h))

pub closed_bare : (b : Bool) (old new : Page) → Closes old new → b ≡ false → Closed b old new
closed_bare b old new c h = closed b old new new c (ap (λ (x : Bool). taken new (closing x)) (sym h))

pub two_texts : (p q r : Page) (s u : List ℕ) → q ≡ put_text p s → r ≡ put_text q u → r ≡ put_text p (s ++ u)
two_texts p q r s u e f = f ∙ ap (λ x. put_text x u) e ∙ put_put p s u

pub three_texts : (p q r v : Page) (s u w : List ℕ) → q ≡ put_text p s → r ≡ put_text q u → v ≡ put_text r w → v ≡ put_text p (s ++ (u ++ w))
three_texts p q r v s u w e f g = two_texts p q v s (u ++ w) e (two_texts q r v u w f g)
