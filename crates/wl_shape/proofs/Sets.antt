-- Sets of names, and what is in them after a change.
use Rattle.std.proofs.Common.{◌≡◌, Bool, true, false, ◌||◌, List, [], ◌∷◌, ◌++◌, get_or, drop, length, ℕ, ◌<◌, ◌≤◌, ◌+◌, refl, sym, ap, ◌∙◌}
use Rattle.std.proofs.lemmas.List.{drop_all}
use Rattle.std.specs.List.{list_any}
use Rattle.std.specs.Prelude.{if◌then◌else◌}
use Rattle.indexmap.specs.IndexSet.{insert_key}
use Rattle.wl_expr.specs.Same.{same, same_decides, is_name_among}
use Rattle.wl_expr.specs.Stamped.{Stamped, plain, plains, from_list}
use Rattle.wl_expr.specs.Tree.{Tree, symbol}
use Rattle.wl_expr.specs.Words.{Name}
use Rattle.wl_shape.specs.Fill.{names, names_all}
use Rattle.wl_shape.specs.Names.{has_name, has_tree, HasMore, HasOneMore}
use Rattle.wl_shape.proofs.Members.{among-append, or_assoc, or_false}
use Rattle.wl_shape.proofs.Splits.{next_of}

-- what tells keys apart
abbrev pub alike : Stamped → Stamped → Bool
alike a b = same (plain a) (plain b)

has_tree-append : (ks ls : List Stamped) (t : Tree) → has_tree (ks ++ ls) t ≡ (has_tree ks t || has_tree ls t)
has_tree-append [] ls t = refl
has_tree-append (k ∷ ks) ls t = ap (λ b. same t (plain k) || b) (has_tree-append ks ls t) ∙ sym (or_assoc (same t (plain k)) (has_tree ks t) (has_tree ls t))

has_already : (ks : List Stamped) (e : Stamped) (t : Tree) (b : Bool) → has_tree ks (plain e) ≡ true → same t (plain e) ≡ b → has_tree ks t ≡ (has_tree ks t || b)
has_already ks e t false p q = sym (or_false (has_tree ks t))
has_already ks e t true p q =
    let h : has_tree ks t ≡ true = ap (has_tree ks) ((same_decides t (plain e)).0 q) ∙ p in
    h ∙ ap (λ b. b || true) (sym h)

put_more : (ks : List Stamped) (e : Stamped) (t : Tree) (b : Bool) → list_any (alike e) ks ≡ b → has_tree (if b then ks else ks ++ e ∷ []) t ≡ (has_tree ks t || same t (plain e))
put_more ks e t true p = has_already ks e t (same t (plain e)) p refl
put_more ks e t false p = has_tree-append ks (e ∷ []) t ∙ ap (λ b. has_tree ks t || b) (or_false (same t (plain e)))

pub has_one_more : (ks ls : List Stamped) (e : Stamped) → ls ≡ insert_key alike ks e → HasOneMore ks ls (plain e)
has_one_more ks ls e p t = ap (λ us. has_tree us t) p ∙ put_more ks e t (list_any (alike e) ks) refl

-- ---- one after another

pub names_then : (x : Name) (ks ls : List Stamped) (xs ys zs : List Name) → zs ≡ xs ++ ys → has_name ls x ≡ (has_name ks x || is_name_among x xs) → (has_name ks x || is_name_among x zs) ≡ (has_name ls x || is_name_among x ys)
names_then x ks ls xs ys zs e m =
    ap (λ us. has_name ks x || is_name_among x us) e ∙ ap (λ b. has_name ks x || b) (among-append x xs ys)
    ∙ sym (or_assoc (has_name ks x) (is_name_among x xs) (is_name_among x ys)) ∙ ap (λ b. b || is_name_among x ys) (sym m)

pub no_more_names : (x : Name) (ks : List Stamped) (xs : List Name) → xs ≡ [] → (has_name ks x || is_name_among x xs) ≡ has_name ks x
no_more_names x ks xs e = ap (λ us. has_name ks x || is_name_among x us) e ∙ or_false (has_name ks x)

pub next_names : (es : List Stamped) (i : ℕ) (e : Stamped) (ks ls : List Stamped) → i < length es → e ≡ get_or es i e → HasMore ks ls (names (plain e))
    → (x : Name) → (has_name ks x || is_name_among x (names_all (plains (from_list (drop i es))))) ≡ (has_name ls x || is_name_among x (names_all (plains (from_list (drop (i + 1) es)))))
next_names es i e ks ls l p m x =
    names_then x ks ls (names (plain e)) (names_all (plains (from_list (drop (i + 1) es)))) (names_all (plains (from_list (drop i es)))) (ap (λ (us : List Stamped). names_all (plains (from_list us))) (next_of es i e l p)) (m x)

pub last_names : (es : List Stamped) (i : ℕ) (ks : List Stamped) (x : Name) → length es ≤ i → (has_name ks x || is_name_among x (names_all (plains (from_list (drop i es))))) ≡ has_name ks x
last_names es i ks x l = no_more_names x ks (names_all (plains (from_list (drop i es)))) (ap (λ (us : List Stamped). names_all (plains (from_list us))) (drop_all i es l))

pub head_then_all : (ks ls ms : List Stamped) (h : Tree) (xs : List Name) → HasMore ks ls (names h) → HasMore ls ms xs → HasMore ks ms (names h ++ xs)
head_then_all ks ls ms h xs m n x = n x ∙ sym (names_then x ks ls (names h) xs (names h ++ xs) refl (m x))

pub next_symbol : (es : List Stamped) (i : ℕ) (e : Stamped) (ks ls : List Stamped) → i < length es → e ≡ get_or es i e → HasOneMore ks ls (plain e)
    → (x : Name) → (has_name ks x || has_name (drop i es) x) ≡ (has_name ls x || has_name (drop (i + 1) es) x)
next_symbol es i e ks ls l p m x =
    ap (λ us. has_name ks x || has_name us x) (next_of es i e l p)
    ∙ sym (or_assoc (has_name ks x) (same (symbol x) (plain e)) (has_name (drop (i + 1) es) x)) ∙ ap (λ b. b || has_name (drop (i + 1) es) x) (sym (m (symbol x)))

pub last_symbol : (es : List Stamped) (i : ℕ) (ks : List Stamped) (x : Name) → length es ≤ i → (has_name ks x || has_name (drop i es) x) ≡ has_name ks x
last_symbol es i ks x l = ap (λ us. has_name ks x || has_name us x) (drop_all i es l) ∙ or_false (has_name ks x)
