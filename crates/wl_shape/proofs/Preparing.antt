-- What is given for names, before a body is filled with it.
use Rattle.std.proofs.Common.{◌≡◌, ℕ, ◌<◌, ◌≤◌, ◌+◌, Bool, true, false, ◌||◌, ◌&&◌, List, [], ◌∷◌, length, get_or, drop, zero, suc, refl, sym, ap, ◌∙◌, subst, arith}
use Rattle.std.proofs.lemmas.List.{drop_all}
use Rattle.std.specs.List.{list_all}
use Rattle.std.specs.Prelude.{Option, Some, None, bytes_eq}
use Rattle.wl_expr.specs.Same.{is_name_among}
use Rattle.wl_expr.specs.Stamped.{Stamped, plain}
use Rattle.wl_expr.specs.Tree.{Tree, num, text, symbol, node, IsWithinLimits}
use Rattle.wl_expr.specs.Words.{Name}
use Rattle.wl_shape.specs.Entering.{put_values}
use Rattle.wl_shape.specs.Answers.{trees}
use Rattle.wl_shape.specs.Elements.{is_name}
use Rattle.wl_shape.specs.Fill.{Values, fill, given, names, or_else, reached}
use Rattle.wl_shape.specs.Given.{DoesNotFit, NoneStands, given_tree, given_values, one_pair}
use Rattle.wl_shape.specs.Names.{has_name, names_in}
use Rattle.wl_shape.specs.declared.filling.Given.{Given}
use Rattle.wl_shape.proofs.Members.{and_both}
use Rattle.wl_shape.proofs.Renamings.{or_none, symbol_there}
use Rattle.wl_shape.proofs.Splits.{next_of}
use Rattle.wl_shape.proofs.Standings.{reached_stands, value_stands, within_limits}

-- each of these symbols is reached in the body
abbrev pub AreReached : List Stamped → Tree → Type 0
AreReached es u = (x : Name) → has_name es x ≡ true → is_name_among x (reached u) ≡ true

pub are_reached : (ks ms es : List Stamped) (u : Tree) → ms ≡ es → ((x : Name) → has_name es x ≡ (has_name ks x && is_name_among x (reached u))) → AreReached ms u
are_reached ks ms es u e m x h = (and_both (has_name ks x) (is_name_among x (reached u)) (sym (m x) ∙ ap (λ us. has_name us x) (sym e) ∙ h)).1

large_by : (g : Given) (t u : Tree) → ((y : Name) → t ≡ symbol y → is_name_among y (reached u) ≡ true) → DoesNotFit (given_tree g t) → ¬ IsWithinLimits (fill (given_values g) u)
large_by g (num n) u r w = absurd w
large_by g (text s) u r w = absurd w
large_by g (node h ts) u r w = absurd w
large_by g (symbol y) u r w = go (given_values g y) refl w
  where
    go : (o : Option Tree) → given_values g y ≡ o → DoesNotFit o → ¬ IsWithinLimits (fill (given_values g) u)
    go None e w = absurd w
    go (Some v) e w = λ f. w (within_limits v (fill (given_values g) u) (value_stands u (given_values g) y v e (r y refl)) f)

pub large_given : (g : Given) (u : Tree) (es : List Stamped) (i : ℕ) (e : Stamped) → i < length es → e ≡ get_or es i e → AreReached es u → DoesNotFit (given_tree g (plain e)) → ¬ IsWithinLimits (fill (given_values g) u)
large_given g u es i e l p r w = large_by g (plain e) u (λ y q. r y (symbol_there es i e y l p q)) w

none_by : (g : Given) (t u v : Tree) → ((y : Name) → t ≡ symbol y → is_name_among y (reached u) ≡ true) → NoneStands (reached u) (given_values g) → Some v ≡ given_tree g t → ⊥
none_by g (num f) u v r n e = cc
none_by g (text s) u v r n e = cc
none_by g (node h ts) u v r n e = cc
none_by g (symbol y) u v r n e = let q : Some v ≡ None = e ∙ n y (r y refl) in cc

pub none_given : (g : Given) (u v : Tree) (es : List Stamped) (i : ℕ) (e : Stamped) → i < length es → e ≡ get_or es i e → AreReached es u → NoneStands (reached u) (given_values g) → Some v ≡ given_tree g (plain e) → ⊥
none_given g u v es i e l p r n q = none_by g (plain e) u v (λ y s. r y (symbol_there es i e y l p s)) n q

pub all_given : (g : Given) (u : Tree) (ks ms es : List Stamped) (x : Name) → ms ≡ es → ((x : Name) → has_name es x ≡ (has_name ks x && is_name_among x (reached u))) → ((x : Name) → has_name ks x ≡ is_name_among x (names u)) → is_name_among x (reached u) ≡ true
    → put_values ms (given_values g) (λ x. None) x ≡ given_values g x
all_given g u ks ms es x e m k h =
    let b : has_name ms x ≡ true = ap (λ us. has_name us x) e ∙ m x ∙ ap (λ b. b && is_name_among x (reached u)) (k x ∙ reached_stands u x h) ∙ h in
    ap (λ b. or_else (elim b [ true ↦ given_values g x | false ↦ None ]) None) b ∙ or_none (given_values g x)

-- a value is put for a symbol
pub put_given : (g : Given) (es : List Stamped) (i : ℕ) (ws us : Values) (x : Name) → ws x ≡ us x → put_values (drop i es) (given_values g) ws x ≡ put_values (drop i es) (given_values g) us x
put_given g es i ws us x e = ap (λ o. or_else (elim (has_name (drop i es) x) [ true ↦ given_values g x | false ↦ None ]) o) e

-- ---- names and their values

first_pair : (b : Bool) (o r : Option Tree) (t : Tree) → or_else o (elim b [ true ↦ Some t | false ↦ r ]) ≡ or_else (or_else o (elim b [ true ↦ Some t | false ↦ None ])) r
first_pair true None r t = refl
first_pair true (Some u) r t = refl
first_pair false None r t = refl
first_pair false (Some u) r t = refl

pair_by : (n : Tree) (ns ts : List Tree) (t : Tree) (o : Option Tree) (x : Name) → is_name n ≡ true → or_else o (given (names_in (n ∷ ns)) (t ∷ ts) x) ≡ or_else (or_else o (one_pair n t x)) (given (names_in ns) ts x)
pair_by (num m) ns ts t o x h = cc
pair_by (text s) ns ts t o x h = cc
pair_by (node g us) ns ts t o x h = cc
pair_by (symbol y) ns ts t o x h = first_pair (bytes_eq x y) o (given (names_in ns) ts x) t

and_left : (a b : Bool) → (a && b) ≡ true → a ≡ true
and_left true b h = refl
and_left false b h = h

and_right : (a b : Bool) → (a && b) ≡ true → b ≡ true
and_right true b h = h
and_right false b h = cc

name_at : (es : List Stamped) (i : ℕ) (e : Stamped) → i < length es → e ≡ get_or es i e → list_all is_name (trees es) ≡ true → is_name (plain e) ≡ true
name_at [] i e l p h = absurd (omega (arith, l))
name_at (f ∷ es) zero e l p h = ap (λ s. is_name (plain s)) p ∙ and_left (is_name (plain f)) (list_all is_name (trees es)) h
name_at (f ∷ es) (suc i) e l p h = name_at es i e (omega (arith, l)) p (and_right (is_name (plain f)) (list_all is_name (trees es)) h)

pub next_pair : (ns ts : List Stamped) (k : ℕ) (n t : Stamped) (o q : Option Tree) (x : Name) → k < length ns → k < length ts → n ≡ get_or ns k n → t ≡ get_or ts k t → list_all is_name (trees ns) ≡ true → q ≡ or_else o (one_pair (plain n) (plain t) x)
    → or_else o (given (names_in (trees (drop k ns))) (trees (drop k ts)) x) ≡ or_else q (given (names_in (trees (drop (k + 1) ns))) (trees (drop (k + 1) ts)) x)
next_pair ns ts k n t o q x l m e f h g =
    (λ i. or_else o (given (names_in (trees (next_of ns k n l e i))) (trees (next_of ts k t m f i)) x))
    ∙ pair_by (plain n) (trees (drop (k + 1) ns)) (trees (drop (k + 1) ts)) (plain t) o x (name_at ns k n l e h)
    ∙ ap (λ p. or_else p (given (names_in (trees (drop (k + 1) ns))) (trees (drop (k + 1) ts)) x)) (sym g)

pub last_pair : (ns ts : List Stamped) (k : ℕ) (o : Option Tree) (x : Name) → length ns ≤ k → or_else o (given (names_in (trees (drop k ns))) (trees (drop k ts)) x) ≡ o
last_pair ns ts k o x l = ap (λ es. or_else o (given (names_in (trees es)) (trees (drop k ts)) x)) (drop_all k ns l) ∙ or_none o
