-- How the parts of a turn play, one after the other.
use Rattle.std.proofs.Common.{Bor, ◌≡◌, ℕ, ◌+◌, ◌<◌, ◌≤◌, Bool, true, false, List, [], ◌∷◌, ◌++◌, length, get_or, drop, map, filter_map, Option, Some, None, option_map, Result, Ok, Err, IfOk, ◌↔◌, refl, sym, ap, ◌∙◌, subst, arith, true≢false, if◌then◌else◌}
use Rattle.std.proofs.lemmas.List.{map-append, drop_all}
use Rattle.wl_exact.specs.Fraction.{Fraction}
use Rattle.wl_expr.specs.Look.{looked}
use Rattle.wl_expr.specs.Same.{same}
use Rattle.wl_expr.specs.Stamped as stamped
use Rattle.wl_expr.specs.Stamped.{Stamped, plain, plains, from_list, stamp_of, without_stamp}
use Rattle.wl_expr.specs.Tree as tree
use Rattle.wl_expr.specs.Tree.{Tree, IsWithinLimits, num, text, symbol, node, to_list}
use Rattle.wl_expr.specs.Words.{Name, applied, elements, leftmost, name_of}
use Rattle.wl_expr.specs.declared.fault.ExprFault.{ExprFault}
use Rattle.wl_expr.specs.declared.fault.ExprFault.TheVariants as fault
use Rattle.wl_expr.specs.declared.look.Look.{Look}
use Rattle.wl_expr.specs.declared.look.Look.TheVariants.{Num, Text, Symbol, Node}
use Rattle.wl_expr.specs.declared.stamp.Stamp.{Stamp}
use Rattle.wl_expr.proofs.Parts.{plain_without_stamp}
use Rattle.wl_rules.specs.Attributes.{AttributeSet, no_attributes}
use Rattle.wl_rules.specs.StampedRules.{plain_rule}
use Rattle.wl_rules.specs.declared.rule.Rule.{Rule}
use Rattle.wl_rules.specs.declared.rule.RuleKind.{RuleKind}
use Rattle.wl_rules.specs.declared.rule.RuleKind.TheVariants.{Up}
use Rattle.wl_semantics.specs.State as spec
use Rattle.wl_semantics.specs.Prog.{Prog, done, ◌>>=◌, attributes_of, or_else, value_of}
use Rattle.wl_semantics.specs.Elements.{evaluated, evaluated_on, element, stays_held}
use Rattle.wl_semantics.specs.Match.{trial}
use Rattle.wl_semantics.specs.BuiltIn.{built_in, row}
use Rattle.wl_semantics.specs.Turn as turn
use Rattle.wl_semantics.specs.Turn.{tried, up_result, up_values, up_names, head_values, sub_values}
use Rattle.wl_state.specs.Parts.{turned_by, head_place, leftmost_place, sized_row}
use Rattle.wl_state.specs.Played.{Plays, Played, Makes, Honest, HonestMaybe, CameBack, MadeTurned, found_tree, is_leaf, trees, turned, turned_of}
use Rattle.wl_state.specs.declared.evaluator.Evaluator.{Evaluator}
use Rattle.wl_state.specs.declared.evaluator.Log.{Log}
use Rattle.wl_state.specs.declared.ends.Stop.{Stop}
use Rattle.wl_state.specs.declared.ends.Turned as turneds
use Rattle.wl_state.specs.declared.ends.Turned.TheVariants as made
use Rattle.wl_state.proofs.Playing.{plays_bind, plays_done, plays_done_is}
use Rattle.wl_state.proofs.Rows.{played_bind}
use Rattle.wl_state.proofs.Values.{plains_trees, list_of_plains}
use Rattle.wl_state.proofs.Fitting.{makes}
use Rattle.wl_state.proofs.Shapings.{next_of}

-- ---- one level of an expression

-- what is no symbol
pub no_symbol : (p : Option Stamp) (l : Look) (e : Stamped) → looked p l ≡ e → ((s : Bor (List ℕ)) → l ≡ Symbol s → ⊥) → (x : Name) → plain e ≡ symbol x → ⊥
no_symbol p (Num n) e q h x w = let y : num n ≡ symbol x = ap plain q ∙ w in cc
no_symbol p (Text s) e q h x w = let y : text s.now ≡ symbol x = ap plain q ∙ w in cc
no_symbol p (Symbol s) e q h x w = h s refl
no_symbol p (Node a es) e q h x w = let y : node (plain a.now) (plains (from_list es.now)) ≡ symbol x = ap plain q ∙ w in cc

-- what is no node
pub no_node : (p : Option Stamp) (l : Look) (e : Stamped) → looked p l ≡ e → ((h : Bor Stamped) (ts : Bor (List Stamped)) → l ≡ Node h ts → ⊥) → (h : Tree) (ts : tree.Trees) → plain e ≡ node h ts → ⊥
no_node p (Num n) e q m h ts w = let y : num n ≡ node h ts = ap plain q ∙ w in cc
no_node p (Text s) e q m h ts w = let y : text s.now ≡ node h ts = ap plain q ∙ w in cc
no_node p (Symbol s) e q m h ts w = let y : symbol s.now ≡ node h ts = ap plain q ∙ w in cc
no_node p (Node a es) e q m h ts w = m a es refl

-- a head that is no symbol has no attributes
no_attributes_of : (t : Tree) → ((x : Name) → t ≡ symbol x → ⊥) → attributes_of t ≡ done no_attributes
unfolding attributes_of
no_attributes_of (num n) h = refl
no_attributes_of (text s) h = refl
no_attributes_of (symbol x) h = absurd (h x refl)
no_attributes_of (node f ts) h = refl

pub plays_no_attributes : (t : Tree) (a : AttributeSet) (k : Evaluator) → ((x : Name) → t ≡ symbol x → ⊥) → a ≡ no_attributes → Plays (attributes_of t) k (Ok a) k false
plays_no_attributes t a k h e = subst (λ p. Plays p k (Ok a) k false) (sym (no_attributes_of t h)) (plays_done_is (sym e))

-- a node that was made
pub node_makes : (h : Stamped) (es : List Stamped) (r : Result Stamped ExprFault) → IfOk r (λ e. e ≡ stamped.node None h (from_list es))
    → ((r ≡ Err fault.Large) ↔ ¬ IsWithinLimits (node (plain h) (plains (from_list es)))) → Makes (applied (plain h) (trees es)) r
node_makes h es r ok large =
    let same = ap (λ us. node (plain h) us) (plains_trees es) in
    makes (applied (plain h) (trees es)) r (named r ok) (subst (λ t. (r ≡ Err fault.Large) ↔ ¬ IsWithinLimits t) same large)
  where
    named : (q : Result Stamped ExprFault) → IfOk q (λ e. e ≡ stamped.node None h (from_list es)) → IfOk q (λ e. plain e ≡ applied (plain h) (trees es))
    named (Ok e) q = ap plain q ∙ ap (λ us. node (plain h) us) (plains_trees es)
    named (Err e) q = tt

pub node_is : (h : Stamped) (es : List Stamped) (r : Result Stamped ExprFault) (e : Stamped) → r ≡ Ok e → IfOk r (λ z. z ≡ stamped.node None h (from_list es)) → e ≡ stamped.node None h (from_list es)
node_is h es r e q ok = subst (λ z. IfOk z (λ w. w ≡ stamped.node None h (from_list es))) q ok

-- ---- one rule after the other

or_some : {A : Type 0} (a : A) (q : Prog (Option A)) → or_else (Some a) q ≡ done (Some a)
unfolding or_else
or_some a q = refl

or_none : {A : Type 0} (q : Prog (Option A)) → or_else None q ≡ q
unfolding or_else
or_none q = refl

module _ (p q : Prog (Option Tree)) (k k1 : Evaluator) (o : Option Stamped) (h : Played found_tree p k (Ok o) k1) where
  -- the first gave something
  pub or_found : (e : Stamped) → o ≡ Some e → Plays (p >>= λ u. or_else u q) k (Ok (Some (plain e))) k1 false × Honest k1 e
  or_found e s =
      let v = subst (λ z. Played found_tree p k (Ok z) k1) s h in
      (plays_bind p _ v.0 (subst (λ w. Plays w k1 (Ok (Some (plain e))) k1 false) (sym (or_some (plain e) q)) plays_done), v.1)

  -- it gave nothing
  pub or_next : o ≡ None → (r : Result (Option Stamped) Stop) (k2 : Evaluator) → Played found_tree q k1 r k2 → Played found_tree (p >>= λ u. or_else u q) k r k2
  or_next s r k2 m =
      let v = subst (λ z. Played found_tree p k (Ok z) k1) s h in
      played_bind found_tree p _ k k1 None r k2 v.0 (subst (λ w. Played found_tree w k1 r k2) (sym (or_none q)) m)

  pub or_plays : o ≡ None → {r : Result (Option Tree) spec.End} {k2 : Evaluator} {b : Bool} → Plays q k1 r k2 b → Plays (p >>= λ u. or_else u q) k r k2 b
  or_plays s {r} {k2} {b} m =
      let v = subst (λ z. Played found_tree p k (Ok z) k1) s h in
      plays_bind p _ v.0 (subst (λ w. Plays w k1 r k2 b) (sym (or_none q)) m)

-- ---- trials

pub no_rules : (rs : List Rule) (t : Tree) → length rs ≡ 0 → trial (map plain_rule rs) t ≡ done None
unfolding trial
no_rules [] t h = refl
no_rules (r ∷ rs) t h = absurd (omega (arith, h))

-- the rules that the head brings
abbrev pub tried_at : Option (RuleKind × Name) → Tree → Prog (Option Tree)
tried_at None t = done None
tried_at (Some p) t = tried p.0 p.1 t

sub_values-is : (h t : Tree) → sub_values h t ≡ tried_at (leftmost_place h) t
sub_values-is (num n) t = refl
sub_values-is (text s) t = refl
sub_values-is (symbol x) t = refl
sub_values-is (node h ts) t = refl

pub head_values-is : (t : Tree) → head_values t ≡ tried_at (head_place t) t
head_values-is (num n) = refl
head_values-is (text s) = refl
head_values-is (symbol x) = refl
head_values-is (node (num n) ts) = refl
head_values-is (node (text s) ts) = refl
head_values-is (node (symbol x) ts) = refl
head_values-is (node (node h us) ts) = sub_values-is (leftmost (node h us)) (node (node h us) ts)

-- up rules, from the i-th symbol on
up_result-more : (x : Name) (xs : List Name) (t : Tree) → up_result (x ∷ xs) t ≡ (tried Up x t >>= λ r. or_else r (up_result xs t))
unfolding up_result
up_result-more x xs t = refl

up_result-none : (t : Tree) → up_result [] t ≡ done None
unfolding up_result
up_result-none t = refl

module _ (ss : List Stamped) (i : ℕ) (s : Stamped) (l : i < length ss) (p : s ≡ get_or ss i s) (t : Tree) where
  split : filter_map name_of (trees (drop i ss)) ≡ filter_map name_of (plain s ∷ trees (drop (i + 1) ss))
  split = ap (λ us. filter_map name_of (trees us)) (next_of ss i s l p)

  pub up_named : (x : Name) → symbol x ≡ plain s → up_result (filter_map name_of (trees (drop i ss))) t ≡ (tried Up x t >>= λ r. or_else r (up_result (filter_map name_of (trees (drop (i + 1) ss))) t))
  up_named x e =
      ap (λ xs. up_result xs t) (split ∙ ap (λ z. filter_map name_of (z ∷ trees (drop (i + 1) ss))) (sym e))
      ∙ up_result-more x (filter_map name_of (trees (drop (i + 1) ss))) t

  not_named : (z : Tree) → ((x : Name) → z ≡ symbol x → ⊥) → filter_map name_of (z ∷ trees (drop (i + 1) ss)) ≡ filter_map name_of (trees (drop (i + 1) ss))
  not_named (num n) h = refl
  not_named (text w) h = refl
  not_named (symbol x) h = absurd (h x refl)
  not_named (node f ts) h = refl

  pub up_unnamed : ((x : Name) → plain s ≡ symbol x → ⊥) → up_result (filter_map name_of (trees (drop i ss))) t ≡ up_result (filter_map name_of (trees (drop (i + 1) ss))) t
  up_unnamed h = ap (λ xs. up_result xs t) (split ∙ not_named (plain s) h)

pub up_over : (ss : List Stamped) (i : ℕ) (t : Tree) → length ss ≤ i → up_result (filter_map name_of (trees (drop i ss))) t ≡ done None
up_over ss i t l = ap (λ us. up_result (filter_map name_of (trees us)) t) (drop_all i ss l) ∙ up_result-none t

pub up_values-held : (a : AttributeSet) (t : Tree) → a.hold_all_complete ≡ true → up_values a t ≡ done None
up_values-held a t h = ap (λ (b : Bool). elim b [ true ↦ done None | false ↦ up_result (up_names (elements t)) t ]) h

pub up_values-tried : (a : AttributeSet) (t : Tree) (xs : List Name) → a.hold_all_complete ≡ false → xs ≡ up_names (elements t) → up_values a t ≡ up_result xs t
up_values-tried a t xs h e = ap (λ (b : Bool). elim b [ true ↦ done None | false ↦ up_result (up_names (elements t)) t ]) h ∙ ap (λ zs. up_result zs t) (sym e)

-- ---- the built-in rule

pub built_in-node : (h : Tree) (ts : List Tree) (x : Name) (t : Tree) → symbol x ≡ h → node h (tree.from_list ts) ≡ t → built_in t ≡ sized_row (row x ts)
built_in-node h ts x t e q =
    ap built_in (sym (ap (λ z. node z (tree.from_list ts)) e ∙ q)) ∙ ap (λ us. sized_row (row x us)) (tree.to_list_from_list ts)

-- any other form has none
pub built_in-none : (t : Tree) → ((h : Tree) (ts : tree.Trees) → t ≡ node h ts → ⊥) → built_in t ≡ done None
built_in-none (num n) f = refl
built_in-none (text s) f = refl
built_in-none (symbol x) f = refl
built_in-none (node h ts) f = absurd (f h ts refl)

-- ---- elements

pub evaluated-held : (a : AttributeSet) (es : List Tree) → a.hold_all_complete ≡ true → evaluated a es ≡ done es
evaluated-held a es h = ap (λ (b : Bool). elim b [ true ↦ done es | false ↦ evaluated_on a [] es ]) h

pub evaluated-each : (a : AttributeSet) (es : List Tree) → a.hold_all_complete ≡ false → evaluated a es ≡ evaluated_on a [] es
evaluated-each a es h = ap (λ (b : Bool). elim b [ true ↦ done es | false ↦ evaluated_on a [] es ]) h

evaluated_on-more : (a : AttributeSet) (vs : List Tree) (e : Tree) (es : List Tree) → evaluated_on a vs (e ∷ es) ≡ (element a vs e >>= λ v. evaluated_on a (vs ++ v ∷ []) es)
unfolding evaluated_on
evaluated_on-more a vs e es = refl

evaluated_on-over : (a : AttributeSet) (vs : List Tree) → evaluated_on a vs [] ≡ done vs
unfolding evaluated_on
evaluated_on-over a vs = refl

element-by : (a : AttributeSet) (vs : List Tree) (e : Tree) (b : Bool) → stays_held a vs e ≡ b → element a vs e ≡ elim b [ true ↦ done e | false ↦ value_of e ]
element-by a vs e b h = ap (λ (z : Bool). elim z [ true ↦ done e | false ↦ value_of e ]) h

module _ (a : AttributeSet) (vs : List Tree) (xs : List Stamped) (i : ℕ) (x : Stamped) (l : i < length xs) (p : x ≡ get_or xs i x) where
  at_place : evaluated_on a vs (trees (drop i xs)) ≡ (element a vs (plain x) >>= λ v. evaluated_on a (vs ++ v ∷ []) (trees (drop (i + 1) xs)))
  at_place = ap (λ us. evaluated_on a vs (trees us)) (next_of xs i x l p) ∙ evaluated_on-more a vs (plain x) (trees (drop (i + 1) xs))

  pub evaluated-value : stays_held a vs (plain x) ≡ false → evaluated_on a vs (trees (drop i xs)) ≡ (value_of (plain x) >>= λ v. evaluated_on a (vs ++ v ∷ []) (trees (drop (i + 1) xs)))
  evaluated-value h = at_place ∙ ap (λ q. q >>= λ v. evaluated_on a (vs ++ v ∷ []) (trees (drop (i + 1) xs))) (element-by a vs (plain x) false h)

  pub evaluated-kept : stays_held a vs (plain x) ≡ true → evaluated_on a vs (trees (drop i xs)) ≡ (done (plain x) >>= λ v. evaluated_on a (vs ++ v ∷ []) (trees (drop (i + 1) xs)))
  evaluated-kept h = at_place ∙ ap (λ q. q >>= λ v. evaluated_on a (vs ++ v ∷ []) (trees (drop (i + 1) xs))) (element-by a vs (plain x) true h)

pub evaluated-over : (a : AttributeSet) (vs : List Tree) (xs : List Stamped) (i : ℕ) → length xs ≤ i → evaluated_on a vs (trees (drop i xs)) ≡ done vs
evaluated-over a vs xs i l = ap (λ us. evaluated_on a vs (trees us)) (drop_all i xs l) ∙ evaluated_on-over a vs

-- one more value
pub trees_push : (before after : List Stamped) (e : Stamped) → after ≡ before ++ e ∷ [] → trees after ≡ trees before ++ plain e ∷ []
trees_push before after e q = ap trees q ∙ map-append plain before (e ∷ [])

-- ---- how a turn ends

bare_honest : (k : Evaluator) (v : Stamped) → Honest k v → Honest k (without_stamp v)
bare_honest k (stamped.num n) h = tt
bare_honest k (stamped.text s) h = tt
bare_honest k (stamped.symbol p s) h = tt
bare_honest k (stamped.node None x ts) h = h
bare_honest k (stamped.node (Some p) x ts) h = (h.1, h.2)

bare_stamp : (v : Stamped) → stamp_of (without_stamp v) ≡ None
bare_stamp (stamped.num n) = refl
bare_stamp (stamped.text s) = refl
bare_stamp (stamped.symbol p s) = refl
bare_stamp (stamped.node p x ts) = refl

abbrev Back : Evaluator → Bool → Stamped → Type 0
Back k b v = b ≡ true → (u : Log) → k.log ≡ Some u → CameBack k u (plain v)

final_made : (k : Evaluator) (last : Stamped) (b : Bool) → Honest k last → Back k b last → MadeTurned k (made.Final (without_stamp last) b)
final_made k last b h f = (bare_honest k last h, bare_stamp last, λ e u z. subst (CameBack k u) (sym (plain_without_stamp last)) (f e u z))

pub record Ended (k : Evaluator) (form last : Stamped) (o : Option Stamped) (v : turneds.Turned) : Type 0 where
  pub ends : turn.turned (plain form) (plain last) (option_map plain o) ≡ turned_of v
  pub made : MadeTurned k v

turned_ends : (k : Evaluator) (form last : Stamped) (b : Bool) (o : Option Stamped) → Honest k last → HonestMaybe k o → Back k b last → Ended k form last o (turned_by form last b o)
turned_ends k form last b None h m f = record { ends = ap spec.Final (sym (plain_without_stamp last)); made = final_made k last b h f }
turned_ends k form last b (Some u) h m f = go (same (plain u) (plain form)) refl
  where
    go : (z : Bool) → same (plain u) (plain form) ≡ z → Ended k form last (Some u) (turned_by form last b (Some u))
    go true e = record {
      ends = ap (λ (y : Bool). elim y [ true ↦ spec.Final (plain last) | false ↦ spec.Next (plain u) ]) e ∙ ap spec.Final (sym (plain_without_stamp last))
          ∙ sym (ap (λ (y : Bool). turned_of (elim y [ true ↦ made.Final (without_stamp last) b | false ↦ made.Next u ])) e);
      made = subst (λ (y : Bool). MadeTurned k (elim y [ true ↦ made.Final (without_stamp last) b | false ↦ made.Next u ])) (sym e) (final_made k last b h f);
    }
    go false e = record {
      ends = ap (λ (y : Bool). elim y [ true ↦ spec.Final (plain last) | false ↦ spec.Next (plain u) ]) e
          ∙ sym (ap (λ (y : Bool). turned_of (elim y [ true ↦ made.Final (without_stamp last) b | false ↦ made.Next u ])) e);
      made = subst (λ (y : Bool). MadeTurned k (elim y [ true ↦ made.Final (without_stamp last) b | false ↦ made.Next u ])) (sym e) m;
    }

-- what was found decides how it ends
pub turned_played : (p : Prog (Option Tree)) (k k1 : Evaluator) (form last : Stamped) (b : Bool) (o : Option Stamped) (v : turneds.Turned) (t : Tree) → Played found_tree p k (Ok o) k1 → v ≡ turned_by form last b o → Honest k1 last
    → Back k1 b last → plain last ≡ t → Played turned (p >>= λ r. done (turn.turned (plain form) t r)) k (Ok v) k1
turned_played p k k1 form last b o v t h e g f q =
    let x = subst (Ended k1 form last o) (sym e) (turned_ends k1 form last b o g h.1 f) in
    (plays_bind p _ h.0 (plays_done_is (ap (λ z. turn.turned (plain form) z (option_map plain o)) (sym q) ∙ x.ends)), x.made)

pub final_is : (c : Bool) (a b v : Stamped) → v ≡ (if c then a else b) → plain v ≡ turn.final_form c (plain a) (plain b)
final_is true a b v e = ap plain e
final_is false a b v e = ap plain e

pub final_honest : (k : Evaluator) (c : Bool) (a b v : Stamped) → v ≡ (if c then a else b) → Honest k a → Honest k b → Honest k v
final_honest k true a b v e h m = subst (Honest k) (sym e) h
final_honest k false a b v e h m = subst (Honest k) (sym e) m

-- the turn of a number or text
turn_num : (n : Fraction) → turn.turn (num n) ≡ done (spec.Final (num n))
unfolding turn.turn
turn_num n = refl

turn_text : (s : List ℕ) → turn.turn (text s) ≡ done (spec.Final (text s))
unfolding turn.turn
turn_text s = refl

pub turn_symbol : (x : Name) → turn.turn (symbol x) ≡ turn.symbol_turn x
unfolding turn.turn
turn_symbol x = refl

turn_node : (h : Tree) (ts : tree.Trees) → turn.turn (node h ts) ≡ turn.node_turn h (to_list ts)
unfolding turn.turn
turn_node h ts = refl

pub leaf_turn : (e v : Stamped) (k : Evaluator) → is_leaf e ≡ true → v ≡ e → Played turned (turn.turn (plain e)) k (Ok (made.Final v true)) k
leaf_turn (stamped.num n) v k l q = subst (λ z. Played turned (turn.turn (num n)) k (Ok (made.Final z true)) k) (sym q)
    (subst (λ p. Played turned p k (Ok (made.Final (stamped.num n) true)) k) (sym (turn_num n)) (plays_done, (tt, refl, λ b u z. record { whole = stamped.num n; same = refl; honest = tt; parts = tt })))
leaf_turn (stamped.text s) v k l q = subst (λ z. Played turned (turn.turn (text s)) k (Ok (made.Final z true)) k) (sym q)
    (subst (λ p. Played turned p k (Ok (made.Final (stamped.text s) true)) k) (sym (turn_text s)) (plays_done, (tt, refl, λ b u z. record { whole = stamped.text s; same = refl; honest = tt; parts = tt })))
leaf_turn (stamped.symbol p s) v k l q = absurd (true≢false (sym l))
leaf_turn (stamped.node p h ts) v k l q = absurd (true≢false (sym l))

pub symbol_back : (k : Evaluator) (b : Bool) (e : Stamped) (x : Name) → plain e ≡ symbol x → Back k b e
symbol_back k b e x q c u z = subst (CameBack k u) (sym q) (record { whole = stamped.symbol None x; same = refl; honest = tt; parts = tt })

pub node_turned : (h : Stamped) (es : List Stamped) (t : Tree) (k : Evaluator) (r : Result turneds.Turned Stop) (k1 : Evaluator) → node (plain h) (plains (from_list es)) ≡ t
    → Played turned (turn.node_turn (plain h) (trees es)) k r k1 → Played turned (turn.turn t) k r k1
node_turned h es t k r k1 e m =
    subst (λ z. Played turned (turn.turn z) k r k1) e
    (subst (λ p. Played turned p k r k1) (sym (turn_node (plain h) (plains (from_list es)))) (subst (λ us. Played turned (turn.node_turn (plain h) us) k r k1) (sym (list_of_plains es)) m))
