-- How the rows that clear entries and change attributes play.
use Rattle.std.proofs.Common.{◌≡◌, ◌≢◌, Bool, true, false, List, [], ◌∷◌, Option, Some, None, is_some, Ok, map, refl, sym, ap, ap₂, ◌∙◌, subst, true≢false}
use Rattle.std.specs.Prelude.{codes}
use Rattle.wl_expr.specs.Tree.{Tree, num, text, symbol, node}
use Rattle.wl_expr.specs.Words.{Name, is_list, elements, list_of, names_of, null_symbol}
use Rattle.wl_rules.specs.Attributes.{AttributeSet, put, names_of_attributes}
use Rattle.wl_rules.specs.Stored.{definitions}
use Rattle.wl_rules.specs.declared.attribute.Attribute.{Attribute}
use Rattle.wl_rules.specs.declared.attribute.Attribute.TheVariants.{Protected}
use Rattle.wl_semantics.specs.Prog.{Prog, ◌>>=◌, clear, set_attributes, entry_of, doing, message, is_protected, unchanged, result}
use Rattle.wl_semantics.specs.Definitions.{limset}
use Rattle.wl_semantics.specs.LeftSides.{is_limit}
use Rattle.wl_semantics.specs.EntryRows as rows
use Rattle.wl_state.specs.Operands.{two_trees, only_name, listed, names_among, put_all, attributes_changed, protection, protection_names}
use Rattle.wl_state.specs.Played.{Plays, Leads}
use Rattle.wl_state.specs.declared.evaluator.Evaluator.{Evaluator}
use Rattle.wl_state.proofs.Playing.{plays_bind, plays_done}
use Rattle.wl_state.proofs.Symbols.{names_are, no_names}

-- ---- clearing

clear_by : Bool → Name → Bool → Prog (Unit {0})
clear_by all x p = elim p [
  | true ↦ message (codes "Set") (codes "wrsym") (symbol x ∷ [])
  | false ↦ elim (is_limit x) [ true ↦ limset x null_symbol | false ↦ doing (clear x all) ]
]

module _ (all : Bool) (x : Name) (k k1 k2 : Evaluator) (p : Bool) (h : Plays (is_protected x) k (Ok p) k1 false) where
  clears : Plays (clear_by all x p) k1 (Ok tt) k2 false → Plays (rows.clear_one all x) k (Ok tt) k2 false
  unfolding clear_by
  clears m = plays_bind (is_protected x) _ h m

  pub clear_refused : p ≡ true → Plays (message (codes "Set") (codes "wrsym") (symbol x ∷ [])) k1 (Ok tt) k2 false → Plays (rows.clear_one all x) k (Ok tt) k2 false
  unfolding clear_by
  clear_refused e m = clears (subst (λ z. Plays (clear_by all x z) k1 (Ok tt) k2 false) (sym e) m)

  not_protected : p ≡ false → (b : Bool) → is_limit x ≡ b → Plays (elim b [ true ↦ limset x null_symbol | false ↦ doing (clear x all) ]) k1 (Ok tt) k2 false → Plays (rows.clear_one all x) k (Ok tt) k2 false
  unfolding clear_by
  not_protected e b f m =
      clears (subst (λ z. Plays (clear_by all x z) k1 (Ok tt) k2 false) (sym e) (subst (λ (z : Bool). Plays (elim z [ true ↦ limset x null_symbol | false ↦ doing (clear x all) ]) k1 (Ok tt) k2 false) (sym f) m))

  pub clear_limit : p ≡ false → is_limit x ≡ true → Plays (limset x null_symbol) k1 (Ok tt) k2 false → Plays (rows.clear_one all x) k (Ok tt) k2 false
  clear_limit e f m = not_protected e true f m

  pub clear_plain : p ≡ false → is_limit x ≡ false → Plays (doing (clear x all)) k1 (Ok tt) k2 false → Plays (rows.clear_one all x) k (Ok tt) k2 false
  clear_plain e f m = not_protected e false f m

clear_each-more : (all : Bool) (x : Name) (xs : List Name) → rows.clear_each all (x ∷ xs) ≡ (rows.clear_one all x >>= λ _. rows.clear_each all xs)
unfolding rows.clear_each
clear_each-more all x xs = refl

pub clear_step : (all : Bool) (x : Name) (ys xs : List Name) (k k1 : Evaluator) → ys ≡ x ∷ xs → Plays (rows.clear_one all x) k (Ok tt) k1 false → Leads (rows.clear_each all ys) k (rows.clear_each all xs) k1
clear_step all x ys xs k k1 e h r k2 o m = subst (λ p. Plays p k r k2 o) (sym (ap (rows.clear_each all) e ∙ clear_each-more all x xs)) (plays_bind (rows.clear_one all x) _ h m)

pub clear_over : (all : Bool) (ys : List Name) (k : Evaluator) → ys ≡ [] → Plays (rows.clear_each all ys) k (Ok (Some null_symbol)) k false
unfolding rows.clear_each
clear_over all ys k e = subst (λ zs. Plays (rows.clear_each all zs) k (Ok (Some null_symbol)) k false) (sym e) plays_done

pub clear_named-each : (all : Bool) (es : List Tree) → is_some (names_of es) ≡ true → es ≢ [] → rows.clear_named all (names_of es) ≡ rows.clear_each all (names_among es)
clear_named-each all [] h n = absurd (n refl)
clear_named-each all (num m ∷ ts) h n = absurd (true≢false (sym h))
clear_named-each all (text s ∷ ts) h n = absurd (true≢false (sym h))
clear_named-each all (symbol x ∷ ts) h n = ap (rows.clear_named all) (names_are (symbol x ∷ ts) h)
clear_named-each all (node f us ∷ ts) h n = absurd (true≢false (sym h))

pub clear_named-other : (all : Bool) (es : List Tree) → is_some (names_of es) ≡ false → rows.clear_named all (names_of es) ≡ unchanged
clear_named-other all es h = ap (rows.clear_named all) (no_names (names_of es) h)

pub clear_named-none : (all : Bool) (es : List Tree) → es ≡ [] → rows.clear_named all (names_of es) ≡ unchanged
clear_named-none all es h = ap (λ z. rows.clear_named all (names_of z)) h

-- ---- attributes of a symbol

abbrev pub attributes_by : Option Name → Prog (Option Tree)
attributes_by None = unchanged
attributes_by (Some x) = entry_of x >>= λ e. result (list_of (map symbol (names_of_attributes e.attributes)))

pub attributes_row-by : (es : List Tree) → rows.attributes_row es ≡ attributes_by (only_name es)
attributes_row-by [] = refl
attributes_row-by (num n ∷ es) = refl
attributes_row-by (text s ∷ es) = refl
attributes_row-by (symbol x ∷ []) = refl
attributes_row-by (symbol x ∷ t ∷ es) = refl
attributes_row-by (node h ts ∷ es) = refl

abbrev pub protection_by : Bool → Option Name → Prog (Option Tree)
protection_by b None = unchanged
protection_by b (Some x) = protection b x

pub protect_row-by : (es : List Tree) → rows.protect_row es ≡ protection_by true (only_name es)
protect_row-by [] = refl
protect_row-by (num n ∷ es) = refl
protect_row-by (text s ∷ es) = refl
protect_row-by (symbol x ∷ []) = protects x
  where
    by_state : (x : Name) (b : Bool) → elim b [ true ↦ list_of [] | false ↦ list_of (text x ∷ []) ] ≡ protection_names true b x
    by_state x true = refl
    by_state x false = refl

    protects : (x : Name) → rows.protect_row (symbol x ∷ []) ≡ protection true x
    protects x = ap (λ (f : Bool → Tree). entry_of x >>= λ e. doing (set_attributes x (put true e.attributes Protected)) >>= λ _. result (f e.attributes.protected)) (λ i b. by_state x b i)
protect_row-by (symbol x ∷ t ∷ es) = refl
protect_row-by (node h ts ∷ es) = refl

pub unprotect_row-by : (es : List Tree) → rows.unprotect_row es ≡ protection_by false (only_name es)
unprotect_row-by [] = refl
unprotect_row-by (num n ∷ es) = refl
unprotect_row-by (text s ∷ es) = refl
unprotect_row-by (symbol x ∷ []) = unprotects x
  where
    by_state : (x : Name) (b : Bool) → elim b [ true ↦ list_of (text x ∷ []) | false ↦ list_of [] ] ≡ protection_names false b x
    by_state x true = refl
    by_state x false = refl

    unprotects : (x : Name) → rows.unprotect_row (symbol x ∷ []) ≡ protection false x
    unprotects x = ap (λ (f : Bool → Tree). entry_of x >>= λ e. doing (set_attributes x (put false e.attributes Protected)) >>= λ _. result (f e.attributes.protected)) (λ i b. by_state x b i)
unprotect_row-by (symbol x ∷ t ∷ es) = refl
unprotect_row-by (node h ts ∷ es) = refl

-- ---- changes of attributes

pub change_plays : (f : AttributeSet → AttributeSet) (x : Name) (s : AttributeSet) (k k1 k2 : Evaluator) → Plays (entry_of x) k (Ok (definitions k.store x)) k1 false → s ≡ f (definitions k.store x).attributes
    → Plays (doing (set_attributes x s)) k1 (Ok tt) k2 false → Plays (rows.change_attributes f x) k (Ok tt) k2 false
change_plays f x s k k1 k2 h e m = plays_bind (entry_of x) _ h (subst (λ z. Plays (doing (set_attributes x z)) k1 (Ok tt) k2 false) e m)

change_each-more : (f : AttributeSet → AttributeSet) (x : Name) (xs : List Name) → rows.change_each f (x ∷ xs) ≡ (rows.change_attributes f x >>= λ _. rows.change_each f xs)
unfolding rows.change_each
change_each-more f x xs = refl

pub change_step : (f : AttributeSet → AttributeSet) (x : Name) (ys xs : List Name) (k k1 : Evaluator) → ys ≡ x ∷ xs → Plays (rows.change_attributes f x) k (Ok tt) k1 false → Leads (rows.change_each f ys) k (rows.change_each f xs) k1
change_step f x ys xs k k1 e h r k2 o m = subst (λ p. Plays p k r k2 o) (sym (ap (rows.change_each f) e ∙ change_each-more f x xs)) (plays_bind (rows.change_attributes f x) _ h m)

pub change_over : (f : AttributeSet → AttributeSet) (ys : List Name) (k : Evaluator) → ys ≡ [] → Plays (rows.change_each f ys) k (Ok (Some null_symbol)) k false
unfolding rows.change_each
change_over f ys k e = subst (λ zs. Plays (rows.change_each f zs) k (Ok (Some null_symbol)) k false) (sym e) plays_done

one_or_more-is : (t : Tree) → rows.one_or_more t ≡ names_of (listed t)
one_or_more-is t = go (is_list t)
  where
    go : (b : Bool) → elim b [ true ↦ names_of (elements t) | false ↦ names_of (t ∷ []) ] ≡ names_of (elim b [ true ↦ elements t | false ↦ t ∷ [] ])
    go true = refl
    go false = refl

changing_alike : (f : AttributeSet → List Attribute → AttributeSet) (s a : Tree) → rows.changing f (rows.one_or_more s) (rows.attributes_in (rows.one_or_more a)) ≡ rows.changing f (names_of (listed s)) (rows.attributes_in (names_of (listed a)))
changing_alike f s a = ap₂ (λ x y. rows.changing f x (rows.attributes_in y)) (one_or_more-is s) (one_or_more-is a)

pub set_row-changes : (es : List Tree) → rows.set_attributes_row es ≡ attributes_changed true es
set_row-changes [] = refl
set_row-changes (s ∷ []) = refl
set_row-changes (s ∷ a ∷ []) = changing_alike (put_all true) s a
set_row-changes (s ∷ a ∷ t ∷ es) = refl

pub clear_row-changes : (es : List Tree) → rows.clear_attributes_row es ≡ attributes_changed false es
clear_row-changes [] = refl
clear_row-changes (s ∷ []) = refl
clear_row-changes (s ∷ a ∷ []) = changing_alike (put_all false) s a
clear_row-changes (s ∷ a ∷ t ∷ es) = refl

pub changing-unnamed : (f : AttributeSet → List Attribute → AttributeSet) (s : List Tree) (o : Option (List Attribute)) → is_some (names_of s) ≡ false → rows.changing f (names_of s) o ≡ unchanged
changing-unnamed f s o h = ap (λ z. rows.changing f z o) (no_names (names_of s) h)

pub changing-none : (f : AttributeSet → List Attribute → AttributeSet) (xs : Option (List Name)) → rows.changing f xs None ≡ unchanged
changing-none f None = refl
changing-none f (Some xs) = refl

pub changing-each : (f : AttributeSet → List Attribute → AttributeSet) (s : List Tree) (ks : List Attribute) (o : Option (List Attribute)) → is_some (names_of s) ≡ true → Some ks ≡ o → rows.changing f (names_of s) o ≡ rows.change_each (λ a. f a ks) (names_among s)
changing-each f s ks o h e = ap₂ (λ x y. rows.changing f x y) (names_are s h) (sym e)

abbrev pub changed_by : Bool → Option (Tree × Tree) → Prog (Option Tree)
changed_by b None = unchanged
changed_by b (Some p) = rows.changing (put_all b) (names_of (listed p.0)) (rows.attributes_in (names_of (listed p.1)))

pub changed-by : (b : Bool) (es : List Tree) → attributes_changed b es ≡ changed_by b (two_trees es)
changed-by b [] = refl
changed-by b (s ∷ []) = refl
changed-by b (s ∷ a ∷ []) = refl
changed-by b (s ∷ a ∷ t ∷ es) = refl

pub changed_at : (b : Bool) (es : List Tree) (s a : Tree) (us vs : List Tree) → Some (s, a) ≡ two_trees es → us ≡ listed s → vs ≡ listed a → attributes_changed b es ≡ rows.changing (put_all b) (names_of us) (rows.attributes_in (names_of vs))
changed_at b es s a us vs h e f =
    changed-by b es ∙ ap (changed_by b) (sym h) ∙ ap₂ (λ x y. rows.changing (put_all b) (names_of x) (rows.attributes_in (names_of y))) (sym e) (sym f)
