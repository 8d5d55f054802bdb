-- The choices of a turn: elements without Unevaluated, the symbols whose up rules are tried, and how a turn ends.
use Rattle.std.proofs.Common.{◌≡◌, ◌<◌, ◌+◌, ℕ, suc, Bool, true, false, ◌&&◌, ◌||◌, not, List, [], ◌∷◌, ◌++◌, length, get_or, drop, map, filter_map, drop-cons, add-one, append_assoc, refl, sym, ap, ◌∙◌, subst, true≢false}
use Rattle.std.proofs.lemmas.List.{map-append}
use Rattle.std.proofs.lemmas.List.Elements.{All-push, filter_map-append}
use Rattle.std.specs.List.{list_any}
use Rattle.std.specs.Prelude.{Option, Some, None, if◌then◌else◌, bytes_eq, codes}
use Rattle.indexmap.specs.IndexSet.{insert_key}
use Rattle.wl_expr.specs.Passed.{IsFrom}
use Rattle.wl_expr.specs.Same.{same, same_decides, is_name_among, first_names}
use Rattle.wl_expr.specs.Stamped as stamped
use Rattle.wl_expr.specs.Stamped.{Stamped, plain, without_stamp}
use Rattle.wl_expr.specs.Tree.{Tree, num, text, symbol, node, none, more}
use Rattle.wl_expr.specs.Sorted.{sorted}
use Rattle.wl_expr.specs.Words.{Name, applied, is_form, is_the, name_of}
use Rattle.wl_rules.specs.Attributes.{AttributeSet}
use Rattle.wl_shape.specs.Answers.{AllFrom}
use Rattle.wl_shape.specs.Shape.{rebuilt, spliced, spliced_all, spliced_list, without_sequences, flattened, first_length, thread_by, thread, shape}
use Rattle.wl_semantics.specs.Elements.{bare, bared, is_bared, is_unevaluated}
use Rattle.wl_state.specs.Parts.{turned_by, up_symbol}
use Rattle.wl_state.specs.Played.{trees}
use Rattle.wl_semantics.specs.Turn.{up_name}
use Rattle.wl_state.specs.declared.ends.Turned.TheVariants.{Final, Next}

-- ---- a loop over a list

-- the place at which it stands
pub next_of : {X : Type 0} (xs : List X) (i : ℕ) (x : X) → i < length xs → x ≡ get_or xs i x → drop i xs ≡ x ∷ drop (i + 1) xs
next_of xs i x l p =
    let e : drop i xs ≡ get_or xs i x ∷ drop (suc i) xs = drop-cons xs i x l in
    rw add-one (e ∙ ap (λ y. y ∷ drop (suc i) xs) (sym p))

-- one more at the end
one_more : (before after : List Stamped) (e : Stamped) (t : Tree) (behind : List Tree) → after ≡ before ++ e ∷ [] → plain e ≡ t → trees before ++ t ∷ behind ≡ trees after ++ behind
one_more before after e t behind a m =
    ap (λ u. trees before ++ u ∷ behind) (sym m)
    ∙ sym (ap (λ us. trees us ++ behind) a ∙ ap (λ ts. ts ++ behind) (map-append plain before (e ∷ [])) ∙ append_assoc (trees before) (plain e ∷ []) behind)

-- a step of one that makes g of each
pub next_made : (g : Tree → Tree) (xs before after : List Stamped) (i : ℕ) (x e : Stamped) → map g (trees xs) ≡ trees before ++ map g (trees (drop i xs)) → i < length xs → x ≡ get_or xs i x
    → after ≡ before ++ e ∷ [] → plain e ≡ g (plain x) → map g (trees xs) ≡ trees after ++ map g (trees (drop (i + 1) xs))
next_made g xs before after i x e v l p a m =
    v ∙ ap (λ (us : List Stamped). trees before ++ map g (trees us)) (next_of xs i x l p) ∙ one_more before after e (g (plain x)) (map g (trees (drop (i + 1) xs))) a m

pub next_from : (ms before after : List Stamped) (e : Stamped) → AllFrom ms before → IsFrom ms e → after ≡ before ++ e ∷ [] → AllFrom ms after
next_from ms before after e h f a = subst (AllFrom ms) (sym a) (All-push (IsFrom ms) before e h f)

-- ---- Unevaluated

stays_bare : (t : Tree) → is_unevaluated t ≡ false → bare t ≡ t
stays_bare (num n) e = refl
stays_bare (text s) e = refl
stays_bare (symbol x) e = refl
stays_bare (node h none) e = refl
stays_bare (node h (more u none)) e = ap (λ (b : Bool). elim b [ true ↦ u | false ↦ node h (more u none) ]) e
stays_bare (node h (more u (more v us))) e = refl

none_bare : (ts : List Tree) → list_any is_unevaluated ts ≡ false → map bare ts ≡ ts
none_bare [] h = refl
none_bare (t ∷ ts) h = go (is_unevaluated t) refl h (none_bare ts)
  where
    go : (b : Bool) → is_unevaluated t ≡ b → (b || list_any is_unevaluated ts) ≡ false → (list_any is_unevaluated ts ≡ false → map bare ts ≡ ts) → map bare (t ∷ ts) ≡ t ∷ ts
    go true e f r = absurd (true≢false f)
    go false e f r = ap (λ z. z ∷ map bare ts) (stays_bare t e) ∙ ap (λ zs. t ∷ zs) (r f)

-- where none is taken away the elements stay
pub not_bared : (a : AttributeSet) (ts : List Tree) → is_bared a ts ≡ false → bared a ts ≡ ts
not_bared a ts h = go a.hold_all_complete h
  where
    go : (b : Bool) → (not b && list_any is_unevaluated ts) ≡ false → elim b [ true ↦ ts | false ↦ map bare ts ] ≡ ts
    go true f = refl
    go false f = none_bare ts f

pub were_bared : (a : AttributeSet) (ts : List Tree) → is_bared a ts ≡ true → bared a ts ≡ map bare ts
were_bared a ts h = go a.hold_all_complete h
  where
    go : (b : Bool) → (not b && list_any is_unevaluated ts) ≡ true → elim b [ true ↦ ts | false ↦ map bare ts ] ≡ map bare ts
    go true f = absurd (true≢false (sym f))
    go false f = refl

-- ---- the symbols whose up rules are tried

-- the name that such a symbol is
pub record UpNamed (t s : Tree) : Type 0 where
  pub name : Name
  pub symbol_is : s ≡ symbol name
  pub named : up_name t ≡ Some name

some_inj : {A : Type 0} {a b : A} → Some a ≡ Some b → a ≡ b
some_inj e = cc

pub up_named : (t s : Tree) → Some s ≡ up_symbol t → UpNamed t s
up_named (num n) s e = absurd (let w : Some s ≡ None = e in cc)
up_named (text x) s e = absurd (let w : Some s ≡ None = e in cc)
up_named (symbol x) s e = record { name = x; symbol_is = some_inj e; named = refl }
up_named (node (num n) ts) s e = absurd (let w : Some s ≡ None = e in cc)
up_named (node (text x) ts) s e = absurd (let w : Some s ≡ None = e in cc)
up_named (node (symbol x) ts) s e = record { name = x; symbol_is = some_inj e; named = refl }
up_named (node (node h us) ts) s e = absurd (let w : Some s ≡ None = e in cc)

abbrev pub alike : Stamped → Stamped → Bool
alike a b = same (plain a) (plain b)

-- what is met, by names
among : (x : Name) (ks : List Stamped) → list_any (λ k. same (symbol x) (plain k)) ks ≡ is_name_among x (filter_map name_of (trees ks))
among x [] = refl
among x (stamped.num n ∷ ks) = among x ks
among x (stamped.text s ∷ ks) = among x ks
among x (stamped.symbol p y ∷ ks) = ap (λ b. bytes_eq x y || b) (among x ks)
among x (stamped.node p h ts ∷ ks) = among x ks

names_push : (ks : List Stamped) (e : Stamped) (x : Name) → plain e ≡ symbol x → filter_map name_of (trees (ks ++ e ∷ [])) ≡ filter_map name_of (trees ks) ++ x ∷ []
names_push ks e x q =
    ap (filter_map name_of) (map-append plain ks (e ∷ [])) ∙ filter_map-append name_of (trees ks) (plain e ∷ [])
    ∙ ap (λ t. filter_map name_of (trees ks) ++ filter_map name_of (t ∷ [])) q

-- the names that are left at an element that has one
left_named : (t : Tree) (ts : List Tree) (x : Name) → up_name t ≡ Some x → filter_map up_name (t ∷ ts) ≡ x ∷ filter_map up_name ts
left_named t ts x e = rw e refl

module _ (ks : List Stamped) (e : Stamped) (t : Tree) (ts : List Tree) (u : UpNamed t (plain e)) where
  abbrev met : List Name
  met = filter_map name_of (trees ks)

  is_met : (b : Bool) → list_any (alike e) ks ≡ b → is_name_among u.name met ≡ b
  is_met b h = sym (among u.name ks) ∙ ap (λ (z : Tree). list_any (λ k. same z (plain k)) ks) (sym u.symbol_is) ∙ h

  pub met_already : list_any (alike e) ks ≡ true → first_names met (filter_map up_name (t ∷ ts)) ≡ first_names met (filter_map up_name ts)
  met_already h =
      ap (first_names met) (left_named t ts u.name u.named)
      ∙ ap (λ (b : Bool). elim b [ true ↦ first_names met (filter_map up_name ts) | false ↦ first_names (met ++ u.name ∷ []) (filter_map up_name ts) ]) (is_met true h)

  pub met_newly : list_any (alike e) ks ≡ false → first_names met (filter_map up_name (t ∷ ts)) ≡ first_names (filter_map name_of (trees (ks ++ e ∷ []))) (filter_map up_name ts)
  met_newly h =
      ap (first_names met) (left_named t ts u.name u.named)
      ∙ ap (λ (b : Bool). elim b [ true ↦ first_names met (filter_map up_name ts) | false ↦ first_names (met ++ u.name ∷ []) (filter_map up_name ts) ]) (is_met false h)
      ∙ ap (λ zs. first_names zs (filter_map up_name ts)) (sym (names_push ks e u.name u.symbol_is))

pub not_true : (b : Bool) → true ≡ not b → b ≡ false
not_true true e = cc
not_true false e = refl

pub not_false : (b : Bool) → false ≡ not b → b ≡ true
not_false true e = refl
not_false false e = cc

pub keys_stay : (e : Stamped) (ks : List Stamped) → false ≡ not (list_any (alike e) ks) → insert_key alike ks e ≡ ks
keys_stay e ks h = ap (λ (b : Bool). if b then ks else ks ++ e ∷ []) (not_false (list_any (alike e) ks) h)

pub keys_grow : (e : Stamped) (ks : List Stamped) → true ≡ not (list_any (alike e) ks) → insert_key alike ks e ≡ ks ++ e ∷ []
keys_grow e ks h = ap (λ (b : Bool). if b then ks else ks ++ e ∷ []) (not_true (list_any (alike e) ks) h)

-- ---- how a turn ends

not_same : (t u : Tree) → (t ≡ u → ⊥) → same t u ≡ false
not_same t u n = go (same t u) refl
  where
    go : (b : Bool) → same t u ≡ b → b ≡ false
    go true e = absurd (n ((same_decides t u).0 e))
    go false e = refl

pub turned_same : (form last next v : Stamped) (b : Bool) (o : Option Stamped) → o ≡ Some next → plain next ≡ plain form → v ≡ without_stamp last → Final v b ≡ turned_by form last b o
turned_same form last next v b o e s q =
    ap (λ z. Final z b) q ∙ ap (λ (z : Bool). elim z [ true ↦ Final (without_stamp last) b | false ↦ Next next ]) (sym ((same_decides (plain next) (plain form)).1 s)) ∙ ap (turned_by form last b) (sym e)

pub turned_new : (form last next : Stamped) (b : Bool) (o : Option Stamped) → o ≡ Some next → (plain next ≡ plain form → ⊥) → Next next ≡ turned_by form last b o
turned_new form last next b o e n =
    ap (λ (z : Bool). elim z [ true ↦ Final (without_stamp last) b | false ↦ Next next ]) (sym (not_same (plain next) (plain form) n)) ∙ ap (turned_by form last b) (sym e)

-- ---- what is shaped already

same_form : (x : Name) (h : Tree) → same (symbol x) h ≡ is_the x h
same_form x (num n) = refl
same_form x (text s) = refl
same_form x (symbol y) = refl
same_form x (node h ts) = refl

not_spliced : (x : Name) (t : Tree) → is_form x t ≡ false → spliced (symbol x) t ≡ t ∷ []
not_spliced x (num n) e = refl
not_spliced x (text s) e = refl
not_spliced x (symbol y) e = refl
not_spliced x (node h ts) e = ap (λ (b : Bool). elim b [ true ↦ spliced_all (symbol x) ts | false ↦ node h ts ∷ [] ]) (same_form x h ∙ e)

none_spliced : (x : Name) (ts : List Tree) → list_any (is_form x) ts ≡ false → spliced_list (symbol x) ts ≡ ts
none_spliced x [] h = refl
none_spliced x (t ∷ ts) h = go (is_form x t) refl h (none_spliced x ts)
  where
    go : (b : Bool) → is_form x t ≡ b → (b || list_any (is_form x) ts) ≡ false → (list_any (is_form x) ts ≡ false → spliced_list (symbol x) ts ≡ ts) → spliced (symbol x) t ++ spliced_list (symbol x) ts ≡ t ∷ ts
    go true e f r = absurd (true≢false f)
    go false e f r = ap (λ us. us ++ spliced_list (symbol x) ts) (not_spliced x t e) ∙ ap (λ us. t ∷ us) (r f)

pub shape_stays : (a : AttributeSet) (ts : List Tree) → a.flat ≡ false → a.listable ≡ false → a.orderless ≡ false → list_any (is_form (codes "Sequence")) ts ≡ false → (h : Tree) → shape a h ts ≡ rebuilt (applied h ts)
shape_stays a ts f l o n h =
    let w : without_sequences a ts ≡ ts = go (a.sequence_hold || a.hold_all_complete) in
    ap (λ us. thread a h (flattened a h us)) w
    ∙ ap (λ (b : Bool). thread a h (elim b [ true ↦ spliced_list h ts | false ↦ ts ])) f
    ∙ ap (λ (b : Bool). elim b [ true ↦ thread_by (first_length ts) a h ts | false ↦ thread_by None a h ts ]) l
    ∙ ap (λ (b : Bool). rebuilt (applied h (elim b [ true ↦ sorted ts | false ↦ ts ]))) o
  where
    go : (b : Bool) → elim b [ true ↦ ts | false ↦ spliced_list (symbol (codes "Sequence")) ts ] ≡ ts
    go true = refl
    go false = none_spliced (codes "Sequence") ts n
