-- What stands for names, after a change of what is held.
use Rattle.std.proofs.Common.{◌≡◌, ℕ, zero, suc, ◌<◌, ◌≤◌, ◌+◌, Bool, true, false, cond, ◌||◌, ◌&&◌, not, List, [], ◌∷◌, length, get_or, drop, refl, sym, ap, ◌∙◌, subst, arith, Bor}
use Rattle.std.proofs.lemmas.List.{drop_all}
use Rattle.std.proofs.lemmas.List.Elements.{All-nil, All-cons, All-head, All-tail}
use Rattle.std.proofs.lemmas.Map.Entries.{All-lookup}
use Rattle.std.specs.List.{All, slice_get}
use Rattle.std.specs.Map.{lookup}
use Rattle.std.specs.Prelude.{Option, Some, None, IfSome, option_copied, option_map, is_some, if◌then◌else◌}
use Rattle.std.specs.declared.alloc.Global.{Global}
use Rattle.std.specs.declared.rc.Rc.{Rc}
use Rattle.indexmap.specs.IndexMap.{insert_entry}
use Rattle.wl_expr.specs.Same.{same, same_decides, is_name_among}
use Rattle.wl_expr.specs.Stamped.{Stamped, plain}
use Rattle.wl_expr.specs.Tree.{Tree, symbol}
use Rattle.wl_expr.specs.Words.{Name}
use Rattle.wl_shape.specs.Fill.{names, or_else, value_names}
use Rattle.wl_shape.specs.Held.{Entry, IsApart, IsKnown, IsReady, found, put_value, value_tree, values_in}
use Rattle.wl_shape.specs.Names.{has_name, has_tree, HasOneMore}
use Rattle.wl_shape.specs.declared.values.Value.{Value}
use Rattle.wl_shape.specs.declared.values.Values.{Values}
use Rattle.wl_shape.proofs.Fillings.{IsClear}
use Rattle.wl_shape.proofs.Members.{or_false}
use Rattle.wl_shape.proofs.Renamings.{or_none}
use Rattle.wl_shape.proofs.Sets.{alike}
use Rattle.wl_shape.proofs.Splits.{next_of}

abbrev pub Held : Type 0
Held = Rc Value Global

-- ---- one entry more

by_key : (a b d : Bool) (t k e : Tree) → same k e ≡ a → same t k ≡ b → same t e ≡ d → a ≡ true → b ≡ d
by_key a b d t k e p q r h = sym q ∙ ap (same t) ((same_decides k e).0 (p ∙ h)) ∙ r

not_both : (t k e : Tree) → same t k ≡ true → same t e ≡ true → same k e ≡ true
not_both t k e p q = let a : t ≡ k = (same_decides t k).0 p in (same_decides k e).1 (sym a ∙ (same_decides t e).0 q)

-- of a map from symbols to things that hold trees
module _ {X : Type 0} (f : X → Tree) where
  abbrev tree_at : List (Stamped × X) → Tree → Option Tree
  tree_at es t = option_map f (lookup (λ k. same t (plain k)) es)

  find_put : (a b d : Bool) (e : Stamped × X) (es : List (Stamped × X)) (k : Stamped) (v : X) (t : Tree) → same (plain k) (plain e.0) ≡ a → same t (plain k) ≡ b → same t (plain e.0) ≡ d
      → tree_at (insert_entry alike es k v) t ≡ elim b [ true ↦ Some (f v) | false ↦ tree_at es t ]
      → tree_at (if a then (e.0, v) ∷ es else e ∷ insert_entry alike es k v) t ≡ elim b [ true ↦ Some (f v) | false ↦ option_map f (cond d (Some e.1) (lookup (λ k. same t (plain k)) es)) ]
  find_put true true d e es k v t p q r h = let s : same t (plain e.0) ≡ true = r ∙ sym (by_key true true d t (plain k) (plain e.0) p q r refl) in ap (λ b. option_map f (cond b (Some v) (lookup (λ k. same t (plain k)) es))) s
  find_put true false true e es k v t p q r h = let n : false ≡ true = by_key true false true t (plain k) (plain e.0) p q r refl in cc
  find_put true false false e es k v t p q r h = ap (λ b. option_map f (cond b (Some v) (lookup (λ k. same t (plain k)) es))) r
  find_put false true true e es k v t p q r h = let n : false ≡ true = sym p ∙ not_both t (plain k) (plain e.0) q r in cc
  find_put false true false e es k v t p q r h = ap (λ b. option_map f (cond b (Some e.1) (lookup (λ k. same t (plain k)) (insert_entry alike es k v)))) r ∙ h
  find_put false false true e es k v t p q r h = ap (λ b. option_map f (cond b (Some e.1) (lookup (λ k. same t (plain k)) (insert_entry alike es k v)))) r
  find_put false false false e es k v t p q r h = ap (λ b. option_map f (cond b (Some e.1) (lookup (λ k. same t (plain k)) (insert_entry alike es k v)))) r ∙ h

  pub found_put : (es : List (Stamped × X)) (k : Stamped) (v : X) (t : Tree) → tree_at (insert_entry alike es k v) t ≡ elim (same t (plain k)) [ true ↦ Some (f v) | false ↦ tree_at es t ]
  found_put [] k v t = go (same t (plain k))
    where
      go : (b : Bool) → option_map f (cond b (Some v) None) ≡ elim b [ true ↦ Some (f v) | false ↦ None ]
      go true = refl
      go false = refl
  found_put (e ∷ es) k v t = find_put (same (plain k) (plain e.0)) (same t (plain k)) (same t (plain e.0)) e es k v t refl refl refl (found_put es k v t)

  -- a key that is there, and one that isn't
  there : (b : Bool) (es : List (Stamped × X)) (k : Stamped) (v t : Tree) → is_some (lookup (alike k) es) ≡ true → same t (plain k) ≡ b → tree_at es t ≡ or_else (tree_at es t) (elim b [ true ↦ Some v | false ↦ None ])
  there false es k v t h q = sym (or_none (tree_at es t))
  there true es k v t h q = kept (lookup (λ k. same t (plain k)) es) (ap (λ u. is_some (lookup (λ k. same u (plain k)) es)) ((same_decides t (plain k)).0 q) ∙ h)
    where
      kept : (o : Option X) → is_some o ≡ true → option_map f o ≡ or_else (option_map f o) (Some v)
      kept None e = cc
      kept (Some x) e = refl

  pub already_there : (es : List (Stamped × X)) (k : Stamped) (v t : Tree) → is_some (lookup (alike k) es) ≡ true → tree_at es t ≡ or_else (tree_at es t) (elim (same t (plain k)) [ true ↦ Some v | false ↦ None ])
  already_there es k v t h = there (same t (plain k)) es k v t h refl

  newly : (b : Bool) (es : List (Stamped × X)) (k : Stamped) (v : X) (t : Tree) → is_some (lookup (alike k) es) ≡ false → same t (plain k) ≡ b → elim b [ true ↦ Some (f v) | false ↦ tree_at es t ] ≡ or_else (tree_at es t) (elim b [ true ↦ Some (f v) | false ↦ None ])
  newly false es k v t h q = sym (or_none (tree_at es t))
  newly true es k v t h q = missing (lookup (λ k. same t (plain k)) es) (ap (λ u. is_some (lookup (λ k. same u (plain k)) es)) ((same_decides t (plain k)).0 q) ∙ h)
    where
      missing : (o : Option X) → is_some o ≡ false → Some (f v) ≡ or_else (option_map f o) (Some (f v))
      missing None e = refl
      missing (Some x) e = cc

  pub newly_put : (es fs : List (Stamped × X)) (k : Stamped) (v : X) (t : Tree) → fs ≡ insert_entry alike es k v → is_some (lookup (alike k) es) ≡ false → tree_at fs t ≡ or_else (tree_at es t) (elim (same t (plain k)) [ true ↦ Some (f v) | false ↦ None ])
  newly_put es fs k v t e h = ap (λ us. tree_at us t) e ∙ found_put es k v t ∙ newly (same t (plain k)) es k v t h refl

-- what holds of each entry holds of each after one more, in whose place it may be
module _ {X : Type 0} (P : Stamped × X → Type 0) where
  all_put_by : (b : Bool) (e : Stamped × X) (es fs : List (Stamped × X)) (v : X) → (P e → P (e.0, v)) → P e → All P es → All P fs → All P (if b then (e.0, v) ∷ es else e ∷ fs)
  all_put_by true e es fs v put h all more = All-cons P (e.0, v) es (put h) all
  all_put_by false e es fs v put h all more = All-cons P e fs h more

  pub all_put : (es : List (Stamped × X)) (k : Stamped) (v : X) → ((e : Stamped × X) → P e → P (e.0, v)) → P (k, v) → All P es → All P (insert_entry alike es k v)
  all_put [] k v put h all = All-cons P (k, v) [] h (All-nil P)
  all_put (e ∷ es) k v put h all =
      all_put_by (alike k e.0) e es (insert_entry alike es k v) v (put e) (All-head P e es all) (All-tail P e es all) (all_put es k v put h (All-tail P e es all))

pub value_put : (es fs : List Entry) (k : Stamped) (v : Held) (x : Name) → fs ≡ insert_entry alike es k v → found fs (symbol x) ≡ put_value (λ y. found es (symbol y)) (plain k) (value_tree v) x
value_put es fs k v x e = ap (λ gs. found gs (symbol x)) e ∙ found_put value_tree es k v (symbol x)

neither : (a b : Bool) → (a || b) ≡ false → (a ≡ false) × (b ≡ false)
neither true b e = cc
neither false b e = (refl, e)

pub ready_put : (old new : Values) (k : Stamped) (v : Held) (near : List Stamped) → new.map.entries ≡ insert_entry alike old.map.entries k v → HasOneMore old.near.keys near (plain k)
    → ((x : Name) → has_name new.near.keys x ≡ (has_name near x || has_name v.value.names.keys x)) → IsReady old → IsKnown v.value → IsReady new
ready_put old new k v near e m n r h = record {
  known = subst (All (λ (p : Entry). IsKnown p.1.value)) (sym e) (all_put (λ p. IsKnown p.1.value) old.map.entries k v (λ p q. h) h r.known);
  apart = λ x f.
      let a = neither (has_name near x) (has_name v.value.names.keys x) (sym (n x) ∙ f) in
      let b = neither (has_name old.near.keys x) (same (symbol x) (plain k)) (sym (m (symbol x)) ∙ a.0) in
      subst (All (IsApart x)) (sym e) (all_put (IsApart x) old.map.entries k v (λ p q. (q.0, a.1)) (b.1, a.1) (r.apart x b.0));
}

-- ---- the names that have a value

some_by : (b : Bool) (v : Held) (o : Option Held) → is_some (option_map value_tree (cond b (Some v) o)) ≡ (b || is_some (option_map value_tree o))
some_by true v o = refl
some_by false v o = refl

abbrev has_value : List Entry → Name → Bool
has_value es x = is_some (found es (symbol x))

has_value-cons : (e : Entry) (es : List Entry) (x : Name) → has_value (e ∷ es) x ≡ (same (symbol x) (plain e.0) || has_value es x)
has_value-cons e es x = some_by (same (symbol x) (plain e.0)) e.1 (lookup (λ k. same (symbol x) (plain k)) es)

key_is : (ss : List Stamped) (k : Stamped) (x : Name) (a : Bool) → has_tree ss (plain k) ≡ a → same (symbol x) (plain k) ≡ true → has_name ss x ≡ a
key_is ss k x a p q = ap (has_tree ss) ((same_decides (symbol x) (plain k)).0 q) ∙ p

-- a key that is shadowed is left out
pub next_left_out : (es : List Entry) (i : ℕ) (e : Entry) (ss ks : List Stamped) → i < length es → e ≡ get_or es i e → has_tree ss (plain e.0) ≡ true
    → (x : Name) → (has_name ks x || (has_value (drop i es) x && not (has_name ss x))) ≡ (has_name ks x || (has_value (drop (i + 1) es) x && not (has_name ss x)))
next_left_out es i e ss ks l p s x =
    ap (λ us. has_name ks x || (has_value us x && not (has_name ss x))) (next_of es i e l p)
    ∙ ap (λ b. has_name ks x || (b && not (has_name ss x))) (has_value-cons e (drop (i + 1) es) x)
    ∙ ap (λ b. has_name ks x || b) (go (same (symbol x) (plain e.0)) (has_value (drop (i + 1) es) x) (has_name ss x) (key_is ss e.0 x true s))
  where
    go : (a r n : Bool) → (a ≡ true → n ≡ true) → ((a || r) && not n) ≡ (r && not n)
    go true true n f = refl
    go true false true f = refl
    go true false false f = sym (f refl)
    go false r n f = refl

-- another is kept
pub next_kept : (es : List Entry) (i : ℕ) (e : Entry) (ss ks ls : List Stamped) → i < length es → e ≡ get_or es i e → has_tree ss (plain e.0) ≡ false → HasOneMore ks ls (plain e.0)
    → (x : Name) → (has_name ks x || (has_value (drop i es) x && not (has_name ss x))) ≡ (has_name ls x || (has_value (drop (i + 1) es) x && not (has_name ss x)))
next_kept es i e ss ks ls l p s m x =
    ap (λ us. has_name ks x || (has_value us x && not (has_name ss x))) (next_of es i e l p)
    ∙ ap (λ b. has_name ks x || (b && not (has_name ss x))) (has_value-cons e (drop (i + 1) es) x)
    ∙ go (has_name ks x) (same (symbol x) (plain e.0)) (has_value (drop (i + 1) es) x) (has_name ss x) (key_is ss e.0 x false s)
    ∙ ap (λ b. b || (has_value (drop (i + 1) es) x && not (has_name ss x))) (sym (m (symbol x)))
  where
    go : (k a r n : Bool) → (a ≡ true → n ≡ false) → (k || ((a || r) && not n)) ≡ ((k || a) || (r && not n))
    go true a r n f = refl
    go false true r true f = sym (f refl)
    go false true r false f = refl
    go false false r n f = refl

pub last_kept : (es : List Entry) (i : ℕ) (ss ks : List Stamped) (x : Name) → length es ≤ i → (has_name ks x || (has_value (drop i es) x && not (has_name ss x))) ≡ has_name ks x
last_kept es i ss ks x l = ap (λ us. has_name ks x || (has_value us x && not (has_name ss x))) (drop_all i es l) ∙ or_false (has_name ks x)

pub entry_at : (es : List Entry) (i : ℕ) (e : Entry) → Some e ≡ slice_get es i → (i < length es) × (e ≡ get_or es i e)
entry_at [] i e p = cc
entry_at (f ∷ es) zero e p = (omega arith, cc)
entry_at (f ∷ es) (suc i) e p = let h = entry_at es i e p in (omega arith, h.1)

-- what holds of the value that a look-up finds
copied : {X : Type 0} (P : X → Type 0) (o : Option (Bor X)) → IfSome (option_copied o) P → IfSome o (λ r. P r.now)
copied P None h = tt
copied P (Some r) h = h

pub got : (P : Held → Type 0) (t : Tree) (es : List Entry) (o : Option (Bor Held)) → option_copied o ≡ lookup (λ k. same t (plain k)) es → All (λ (p : Entry). P p.1) es → IfSome o (λ r. P r.now)
got P t es o e all = copied P o (subst (λ p. IfSome p P) (sym e) (All-lookup P (λ k. same t (plain k)) es all))

-- ---- a name that isn't near

apart_first : (x : Name) (e : Entry) (o : Option Held) → same (symbol x) (plain e.0) ≡ false → option_map value_tree o ≡ None → option_map value_tree (cond (same (symbol x) (plain e.0)) (Some e.1) o) ≡ None
apart_first x e o p h = ap (λ b. option_map value_tree (cond b (Some e.1) o)) p ∙ h

unvalued : (x : Name) (es : List Entry) → All (IsApart x) es → found es (symbol x) ≡ None
unvalued x [] a = refl
unvalued x (e ∷ es) a = apart_first x e (lookup (λ k. same (symbol x) (plain k)) es) (All-head (IsApart x) e es a).0 (unvalued x es (All-tail (IsApart x) e es a))

outside_first : (b : Bool) (x : Name) (e : Entry) (o : Option Held) → is_name_among x (names (value_tree e.1)) ≡ false → is_name_among x (value_names (option_map value_tree o)) ≡ false → is_name_among x (value_names (option_map value_tree (cond b (Some e.1) o))) ≡ false
outside_first true x e o p h = p
outside_first false x e o p h = h

outside : (x : Name) (t : Tree) (es : List Entry) → All (IsApart x) es → All (λ (p : Entry). IsKnown p.1.value) es → is_name_among x (value_names (found es t)) ≡ false
outside x t [] a k = refl
outside x t (e ∷ es) a k =
    outside_first (same t (plain e.0)) x e (lookup (λ k. same t (plain k)) es) (sym (All-head (λ (p : Entry). IsKnown p.1.value) e es k x) ∙ (All-head (IsApart x) e es a).1)
    (outside x t es (All-tail (IsApart x) e es a) (All-tail (λ (p : Entry). IsKnown p.1.value) e es k))

pub clear : (v : Values) (x : Name) → IsReady v → has_name v.near.keys x ≡ false → IsClear (values_in v) x
clear v x r h = record { unvalued = unvalued x v.map.entries (r.apart x h); outside = λ y. outside x (symbol y) v.map.entries (r.apart x h) r.known }

pub empty_ready : (v : Values) → v.map.entries ≡ [] → IsReady v
empty_ready v e = record {
  known = subst (All (λ (p : Entry). IsKnown p.1.value)) (sym e) (All-nil (λ (p : Entry). IsKnown p.1.value));
  apart = λ x h. subst (All (IsApart x)) (sym e) (All-nil (IsApart x));
}
