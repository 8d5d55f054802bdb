-- Symbols among the elements of rows.
use Rattle.std.proofs.Common.{Bor, ◌≡◌, ◌≢◌, ◌<◌, ◌≤◌, ◌+◌, ℕ, Bool, true, false, List, [], ◌∷◌, ◌++◌, length, get_or, drop, map, append_assoc, append-nil, Option, Some, None, is_some, refl, sym, ap, ◌∙◌, arith, true≢false, if◌then◌else◌}
use Rattle.std.proofs.lemmas.Bool.Decides.{nat_tests}
use Rattle.std.proofs.lemmas.List.{drop_all}
use Rattle.wl_expr.specs.Stamped as stamped
use Rattle.std.specs.Prelude.{codes, ◌==◌}
use Rattle.wl_expr.specs.Look.{looked}
use Rattle.wl_expr.specs.Stamped.{Stamped, plain, plains, from_list}
use Rattle.wl_expr.specs.declared.look.Look.{Look}
use Rattle.wl_expr.specs.declared.look.Look.TheVariants.{Num, Text, Symbol, Node}
use Rattle.wl_expr.specs.declared.stamp.Stamp.{Stamp}
use Rattle.wl_rules.specs.Attributes.{AttributeSet, attribute_named, before, has, names_in}
use Rattle.wl_rules.specs.declared.attribute.Attribute.{Attribute}
use Rattle.wl_semantics.specs.EntryRows.{attributes_in}
use Rattle.wl_state.proofs.Shapings.{next_of}
use Rattle.wl_state.proofs.Values.{list_of_plains}
use Rattle.wl_expr.specs.Tree.{Tree, Trees, num, text, symbol, node}
use Rattle.wl_expr.specs.Words.{Name, names_of, with_first}
use Rattle.wl_state.specs.Operands.{listed, names_among}
use Rattle.wl_state.specs.Played.{trees}

-- ---- names

pub named_more : (x : Name) (ts : List Tree) → is_some (names_of (symbol x ∷ ts)) ≡ is_some (names_of ts)
named_more x ts = go (names_of ts)
  where
    go : (o : Option (List Name)) → is_some (with_first (Some x) o) ≡ is_some o
    go None = refl
    go (Some xs) = refl

pub unnamed : (t : Tree) (ts : List Tree) → ((x : Name) → t ≡ symbol x → ⊥) → names_of (t ∷ ts) ≡ None
unnamed (num n) ts h = refl
unnamed (text s) ts h = refl
unnamed (symbol x) ts h = absurd (h x refl)
unnamed (node f us) ts h = refl

-- where all are symbols
pub names_are : (es : List Tree) → is_some (names_of es) ≡ true → names_of es ≡ Some (names_among es)
names_are [] h = refl
names_are (num n ∷ ts) h = absurd (true≢false (sym h))
names_are (text s ∷ ts) h = absurd (true≢false (sym h))
names_are (symbol x ∷ ts) h = ap (with_first (Some x)) (names_are ts (sym (named_more x ts) ∙ h))
names_are (node f us ∷ ts) h = absurd (true≢false (sym h))

pub no_names : {X : Type 0} (o : Option X) → is_some o ≡ false → o ≡ None
no_names None h = refl
no_names (Some x) h = absurd (true≢false h)

-- ---- a loop over those that are symbols

module _ (ss : List Stamped) (i : ℕ) (s : Stamped) (l : i < length ss) (p : s ≡ get_or ss i s) where
  split : names_among (trees (drop i ss)) ≡ names_among (plain s ∷ trees (drop (i + 1) ss))
  split = ap (λ us. names_among (trees us)) (next_of ss i s l p)

  pub next_named : (x : Name) → plain s ≡ symbol x → names_among (trees (drop i ss)) ≡ x ∷ names_among (trees (drop (i + 1) ss))
  next_named x e = split ∙ ap (λ z. names_among (z ∷ trees (drop (i + 1) ss))) e

  passed : (z : Tree) → ((x : Name) → z ≡ symbol x → ⊥) → names_among (z ∷ trees (drop (i + 1) ss)) ≡ names_among (trees (drop (i + 1) ss))
  passed (num n) h = refl
  passed (text w) h = refl
  passed (symbol x) h = absurd (h x refl)
  passed (node f ts) h = refl

  pub next_unnamed : ((x : Name) → plain s ≡ symbol x → ⊥) → names_among (trees (drop i ss)) ≡ names_among (trees (drop (i + 1) ss))
  next_unnamed h = split ∙ passed (plain s) h

pub none_named : (ss : List Stamped) (i : ℕ) → length ss ≤ i → names_among (trees (drop i ss)) ≡ []
none_named ss i l = ap (λ us. names_among (trees us)) (drop_all i ss l)

pub plain_symbols : (xs : List Name) → trees (map (stamped.symbol None) xs) ≡ map symbol xs
plain_symbols [] = refl
plain_symbols (x ∷ xs) = ap (λ us. symbol x ∷ us) (plain_symbols xs)

-- ---- one level of an expression

-- what is no symbol
pub no_symbol : (p : Option Stamp) (l : Look) (e : Stamped) → looked p l ≡ e → ((s : Bor (List ℕ)) → l ≡ Symbol s → ⊥) → (x : Name) → plain e ≡ symbol x → ⊥
no_symbol p (Num n) e q h x w = let y : num n ≡ symbol x = ap plain q ∙ w in cc
no_symbol p (Text s) e q h x w = let y : text s.now ≡ symbol x = ap plain q ∙ w in cc
no_symbol p (Symbol s) e q h x w = h s refl
no_symbol p (Node a es) e q h x w = let y : node (plain a.now) (plains (from_list es.now)) ≡ symbol x = ap plain q ∙ w in cc

-- what is no node
pub no_node : (p : Option Stamp) (l : Look) (e : Stamped) → looked p l ≡ e → ((h : Bor Stamped) (ts : Bor (List Stamped)) → l ≡ Node h ts → ⊥) → (h : Tree) (ts : Trees) → plain e ≡ node h ts → ⊥
no_node p (Num n) e q m h ts w = let y : num n ≡ node h ts = ap plain q ∙ w in cc
no_node p (Text s) e q m h ts w = let y : text s.now ≡ node h ts = ap plain q ∙ w in cc
no_node p (Symbol s) e q m h ts w = let y : symbol s.now ≡ node h ts = ap plain q ∙ w in cc
no_node p (Node a es) e q m h ts w = m a es refl

-- the elements of a list
pub listed_are : (x : Name) (h : Tree) (es : List Stamped) (t : Tree) → x ≡ codes "List" → symbol x ≡ h → node h (plains (from_list es)) ≡ t → trees es ≡ listed t
listed_are x h es t q e w =
    sym (list_of_plains es) ∙ ap (λ z. listed (node z (plains (from_list es)))) (ap symbol (sym q) ∙ e) ∙ ap listed w

-- ---- attributes

-- a loop over names of attributes, with those that it has taken
abbrev pub prefixed : List Attribute → Option (List Attribute) → Option (List Attribute)
prefixed ks None = None
prefixed ks (Some js) = Some (ks ++ js)

named_before : (x : Name) (ts : List Tree) → attributes_in (names_of (symbol x ∷ ts)) ≡ before (attribute_named x) (attributes_in (names_of ts))
named_before x ts = go (names_of ts)
  where
    before_none : (o : Option Attribute) → None ≡ before o None
    before_none None = refl
    before_none (Some a) = refl

    go : (o : Option (List Name)) → attributes_in (with_first (Some x) o) ≡ before (attribute_named x) (attributes_in o)
    go None = before_none (attribute_named x)
    go (Some xs) = refl

prefixed_before : (ks : List Attribute) (a : Attribute) (o : Option (List Attribute)) → prefixed ks (before (Some a) o) ≡ prefixed (ks ++ a ∷ []) o
prefixed_before ks a None = refl
prefixed_before ks a (Some js) = ap Some (sym (append_assoc ks (a ∷ []) js))

before_no : (o : Option (List Attribute)) → before None o ≡ None
before_no None = refl
before_no (Some js) = refl

prefixed_nil : (ks : List Attribute) → prefixed ks (Some []) ≡ Some ks
prefixed_nil ks = ap Some (append-nil ks)

module _ (es : List Stamped) (i : ℕ) (e : Stamped) (l : i < length es) (p : e ≡ get_or es i e) (ks : List Attribute) (inv : attributes_in (names_of (trees es)) ≡ prefixed ks (attributes_in (names_of (trees (drop i es))))) where
  at_next : attributes_in (names_of (trees es)) ≡ prefixed ks (attributes_in (names_of (plain e ∷ trees (drop (i + 1) es))))
  at_next = inv ∙ ap (λ us. prefixed ks (attributes_in (names_of (trees us)))) (next_of es i e l p)

  at_name : (x : Name) → symbol x ≡ plain e → attributes_in (names_of (trees es)) ≡ prefixed ks (before (attribute_named x) (attributes_in (names_of (trees (drop (i + 1) es)))))
  at_name x q =
      at_next ∙ ap (λ t. prefixed ks (attributes_in (names_of (t ∷ trees (drop (i + 1) es))))) (sym q) ∙ ap (prefixed ks) (named_before x (trees (drop (i + 1) es)))

  pub attribute_taken : (x : Name) (a : Attribute) (o : Option Attribute) (js : List Attribute) → symbol x ≡ plain e → o ≡ Some a → o ≡ attribute_named x → js ≡ ks ++ a ∷ [] → attributes_in (names_of (trees es)) ≡ prefixed js (attributes_in (names_of (trees (drop (i + 1) es))))
  attribute_taken x a o js q s n j =
      at_name x q ∙ ap (λ z. prefixed ks (before z (attributes_in (names_of (trees (drop (i + 1) es)))))) (sym n ∙ s)
      ∙ prefixed_before ks a (attributes_in (names_of (trees (drop (i + 1) es)))) ∙ ap (λ z. prefixed z (attributes_in (names_of (trees (drop (i + 1) es))))) (sym j)

  pub no_attribute : (x : Name) (o : Option Attribute) → symbol x ≡ plain e → o ≡ None → o ≡ attribute_named x → attributes_in (names_of (trees es)) ≡ None
  no_attribute x o q s n =
      at_name x q ∙ ap (λ z. prefixed ks (before z (attributes_in (names_of (trees (drop (i + 1) es)))))) (sym n ∙ s)
      ∙ ap (prefixed ks) (before_no (attributes_in (names_of (trees (drop (i + 1) es)))))

  pub no_name : ((x : Name) → plain e ≡ symbol x → ⊥) → attributes_in (names_of (trees es)) ≡ None
  no_name h = at_next ∙ ap (λ z. prefixed ks (attributes_in z)) (unnamed (plain e) (trees (drop (i + 1) es)) h)

pub attributes_over : (es : List Stamped) (i : ℕ) (ks : List Attribute) → length es ≤ i → attributes_in (names_of (trees es)) ≡ prefixed ks (attributes_in (names_of (trees (drop i es)))) → Some ks ≡ attributes_in (names_of (trees es))
attributes_over es i ks l h = sym (h ∙ ap (λ us. prefixed ks (attributes_in (names_of (trees us)))) (drop_all i es l) ∙ prefixed_nil ks)

-- the symbols of the attributes in a set, one after the other
abbrev pub one_where : Bool → Name → List Stamped
one_where b x = if b then stamped.symbol None x ∷ [] else []

abbrev pub symbols_put : AttributeSet → List Stamped → List (Name × Attribute) → List Stamped
symbols_put s v [] = v
symbols_put s v (p ∷ ps) = symbols_put s (v ++ one_where (has s p.1) p.0) ps

pub symbols_put-is : (s : AttributeSet) (v : List Stamped) (ps : List (Name × Attribute)) → symbols_put s v ps ≡ v ++ map (stamped.symbol None) (names_in s ps)
symbols_put-is s v [] = sym (append-nil v)
symbols_put-is s v (p ∷ ps) =
    symbols_put-is s (v ++ one_where (has s p.1) p.0) ps ∙ append_assoc v (one_where (has s p.1) p.0) (map (stamped.symbol None) (names_in s ps)) ∙ ap (λ z. v ++ z) (go (has s p.1))
  where
    go : (b : Bool) → one_where b p.0 ++ map (stamped.symbol None) (names_in s ps) ≡ map (stamped.symbol None) (elim b [ true ↦ p.0 ∷ names_in s ps | false ↦ names_in s ps ])
    go true = refl
    go false = refl

-- ---- no elements

no_items : (n : ℕ) → (n == 0) ≡ true → n ≡ 0
no_items n h = grind (arith, nat_tests)

pub empty : (ss : List Stamped) (b : Bool) → b ≡ (length ss == 0) → b ≡ true → trees ss ≡ []
empty [] b e h = refl
empty (s ∷ ss) b e h = let w = no_items (length (s ∷ ss)) (sym e ∙ h) in absurd (omega (arith, w))

pub not_empty : (ss : List Stamped) (b : Bool) → b ≡ (length ss == 0) → b ≡ false → trees ss ≢ []
not_empty [] b e h q = true≢false (sym e ∙ h)
not_empty (s ∷ ss) b e h q = let w : plain s ∷ trees ss ≡ [] = q in cc
