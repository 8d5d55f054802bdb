-- How replacement plays, part after part.
use Rattle.std.proofs.Common.{◌≡◌, ◌^◌, ℕ, zero, suc, slice_index_or, Vec, Global, ◌+◌, ◌<◌, ◌≤◌, Bool, true, false, List, [], ◌∷◌, ◌++◌, length, get_or, drop, take, map, Option, Some, None, option_map, unwrap_or, Result, Ok, Err, IfOk, ◌↔◌, refl, sym, ap, ap₂, ◌∙◌, subst, arith, append_assoc, append-nil, true≢false}
use Rattle.std.proofs.lemmas.List.{map-append}
use Rattle.std.specs.List.{All}
use Rattle.std.specs.Result.{IsErrAnd}
use Rattle.wl_expr.specs.Passed.{IsFrom}
use Rattle.std.proofs.lemmas.List.Elements.{All-push}
use Rattle.wl_expr.specs.Stamped as stamped
use Rattle.wl_expr.specs.Stamped.{Stamped, plain, plains}
use Rattle.wl_expr.specs.Tree as tree
use Rattle.wl_expr.specs.Tree.{Tree, Trees, IsWithinLimits, num, text, symbol, node, none, more, to_list, weight, weights, depth, depths}
use Rattle.wl_expr.specs.Words.{applied, fits}
use Rattle.wl_expr.proofs.Small.{fits_decides}
use Rattle.wl_expr.specs.declared.fault.ExprFault.{ExprFault}
use Rattle.wl_expr.specs.declared.fault.ExprFault.TheVariants as fault
use Rattle.wl_ports.specs.declared.Memory.{Memory}
use Rattle.wl_rules.specs.Entries.{PlainRule}
use Rattle.wl_rules.specs.StampedRules.{plain_rule}
use Rattle.wl_rules.specs.declared.rule.Rule.{Rule}
use Rattle.wl_expr.specs.Same.{same, same_decides}
use Rattle.wl_semantics.specs.State.{End, State}
use Rattle.wl_semantics.specs.Prog.{Prog, done, ◌>>=◌, or_else, tick, value_of_built, result}
use Rattle.wl_semantics.specs.Eval.{Record, Res, and_then_ok, interp, Eval, Go}
use Rattle.wl_semantics.specs.Match.{rule_result, trial}
use Rattle.wl_semantics.specs.MatchRows.{replace_all, replace_all_by, replace_all_row, replace_by, replace_each, replace_repeated, replace_repeated_by, replace_repeated_row, replace_row, rules_in, unless_replaced}
use Rattle.wl_state.specs.Parts.{sized_row}
use Rattle.wl_state.specs.Played.{Plays, Played, Seen, Notes, Leads, AllHonestRules, Honest, HonestMaybe, state, trees, found_tree, itself}
use Rattle.wl_state.specs.Replacing.{AllHonestMaybe, IsMade, IsRebuilt, IsRuleFrom, MaybeRulesFrom, each_of, fitting, joined, pair, part_of, pushed, replacing, replacing_each, seen_replaced, seen_result}
use Rattle.wl_state.specs.declared.evaluator.Evaluator.{Evaluator}
use Rattle.wl_state.specs.declared.replace_rows.Replaced.{Replaced}
use Rattle.wl_state.specs.declared.replace_rows.ReplacedEach.{ReplacedEach}
use Rattle.wl_state.specs.declared.replace_rows.Replaced.TheVariants as replaced
use Rattle.wl_state.specs.declared.ends.Stop.{Stop}
use Rattle.wl_state.specs.declared.ends.Stop.TheVariants as stops
use Rattle.wl_semantics.proofs.Bind.{interp-bind, then_none}
use Rattle.wl_state.proofs.Bindings.{bind_assoc, drop_item}
use Rattle.wl_state.proofs.MatchRowParts.{elements_at, pair_row}
use Rattle.wl_state.proofs.Matches.{leads_in, leads_out, no_some}
use Rattle.wl_state.proofs.Playing.{plays_bind, plays_stop, plays_done, plays_done_is}
use Rattle.std.proofs.lemmas.Result.{err_from_is_err_and}
use Rattle.wl_state.proofs.Rows.{all_later, leads_played}
use Rattle.wl_state.proofs.Rounds.{node_makes}
use Rattle.wl_state.proofs.RowParts.{row_at, row_gives, row_stays}
use Rattle.wl_state.proofs.Values.{built_honest, list_of_plains, passed_honest, plains_trees}

-- ---- sizes

pub fitting_is : (t : Tree) → IsWithinLimits t → fitting t ≡ Some t
fitting_is t h = ap (λ b. elim b [ true ↦ Some t | false ↦ None ]) ((fits_decides t).1 h)

fitting_by : (t : Tree) (b : Bool) → fits t ≡ b → fitting t ≡ elim b [ true ↦ Some t | false ↦ None ]
fitting_by t b e = ap (λ c. elim c [ true ↦ Some t | false ↦ None ]) e

-- what is no part of a tree that fits
pub too_large : (t : Tree) → fits t ≡ false → fitting t ≡ None
too_large t e = fitting_by t false e

-- all of them, where each fits
abbrev with_fitting : Option Tree → Option (List Tree) → Option (List Tree)
with_fitting (Some t) (Some ts) = Some (t ∷ ts)
with_fitting _ _ = None

abbrev all_fitting : Trees → Option (List Tree)
all_fitting none = Some []
all_fitting (more t ts) = with_fitting (fitting t) (all_fitting ts)

-- these behind those
abbrev behind : Option (List Tree) → Option (List Tree) → Option (List Tree)
behind (Some us) (Some ts) = Some (us ++ ts)
behind _ _ = None

head_fits : (h : Tree) (ts : Trees) → IsWithinLimits (node h ts) → IsWithinLimits h
head_fits h ts w = record { light = omega (arith, w.light); shallow = omega (arith, w.shallow) }

-- each of these fits, where they are no heavier and no deeper than a node may be
each_fits : (ts : Trees) → weights ts ≤ 4000000 → depths ts ≤ 1000 → all_fitting ts ≡ Some (to_list ts)
each_fits none w d = refl
each_fits (more t ts) w d = ap₂ with_fitting (fitting_is t (record { light = omega (arith, w); shallow = omega (arith, d) })) (each_fits ts (omega (arith, w)) (omega (arith, d)))

none_joined : (o : Option Tree) → joined o None ≡ None
none_joined None = refl
none_joined (Some h) = refl

node_joined : (h : Tree) (ts : Trees) → joined (Some h) (Some (to_list ts)) ≡ fitting (node h ts)
node_joined h ts = ap (λ us. fitting (node h us)) (tree.from_list_to_list ts)

listed_by : (t : Tree) (ts : Trees) (us : List Tree) → ((vs : List Tree) → all_fitting ts ≡ Some vs → vs ≡ to_list ts) → all_fitting (more t ts) ≡ Some us → (b : Bool) → fits t ≡ b → (r : Option (List Tree)) → all_fitting ts ≡ r → us ≡ t ∷ to_list ts
listed_by t ts us f e false x r y = absurd (let w : None ≡ Some us = sym (ap (λ z. with_fitting z (all_fitting ts)) (fitting_by t false x)) ∙ e in cc)
listed_by t ts us f e true x None y = absurd (let w : None ≡ Some us = sym (ap₂ with_fitting (fitting_by t true x) y) ∙ e in cc)
listed_by t ts us f e true x (Some vs) y =
    let w : Some (t ∷ vs) ≡ Some us = sym (ap₂ with_fitting (fitting_by t true x) y) ∙ e in
    let v : us ≡ t ∷ vs = cc in
    v ∙ ap (λ z. t ∷ z) (f vs y)

-- where each fits, they are all there
all_listed : (ts : Trees) (us : List Tree) → all_fitting ts ≡ Some us → us ≡ to_list ts
all_listed none us e = let w : Some [] ≡ Some us = e in cc
all_listed (more t ts) us e = listed_by t ts us (λ vs q. all_listed ts vs q) e (fits t) refl (all_fitting ts) refl

-- what a node of such parts is
pub joined_is : (h : Tree) (ts : Trees) → joined (fitting h) (all_fitting ts) ≡ fitting (node h ts)
joined_is h ts = by (fits (node h ts)) refl
  where
    small : (b : Bool) → fits h ≡ b → fits (node h ts) ≡ false → (o : Option (List Tree)) → all_fitting ts ≡ o → joined (fitting h) o ≡ fitting (node h ts)
    small false x f o y = ap (λ z. joined z o) (fitting_by h false x) ∙ sym (too_large (node h ts) f)
    small true x f None y = none_joined (fitting h) ∙ sym (too_large (node h ts) f)
    small true x f (Some us) y = ap (λ z. joined z (Some us)) (fitting_by h true x) ∙ ap (λ z. joined (Some h) (Some z)) (all_listed ts us y) ∙ node_joined h ts

    by : (b : Bool) → fits (node h ts) ≡ b → joined (fitting h) (all_fitting ts) ≡ fitting (node h ts)
    by false f = small (fits h) refl f (all_fitting ts) refl
    by true f =
        let w : IsWithinLimits (node h ts) = (fits_decides (node h ts)).0 f in
        ap₂ joined (fitting_is h (head_fits h ts w)) (each_fits ts (omega (arith, w.light)) (omega (arith, w.shallow))) ∙ node_joined h ts

-- ---- elements, one after the other

push_behind : (us : Option (List Tree)) (o : Option Tree) (ts : Option (List Tree)) → behind (pushed us o) ts ≡ behind us (with_fitting o ts)
push_behind None o ts = refl
push_behind (Some us) None None = refl
push_behind (Some us) None (Some ts) = refl
push_behind (Some us) (Some u) None = refl
push_behind (Some us) (Some u) (Some ts) = ap Some (append_assoc us (u ∷ []) ts)

behind_none : (us : Option (List Tree)) → behind us (Some []) ≡ us
behind_none None = refl
behind_none (Some us) = ap Some (append-nil us)

pub each_is : (us : Option (List Tree)) (rs : List PlainRule) (ts : List Tree) → replacing_each us rs ts ≡ (replace_each rs (tree.from_list ts) >>= λ vs. done (behind us (all_fitting vs)))
unfolding replacing_each replacing replace_each ◌>>=◌
each_is us rs [] = ap done (sym (behind_none us))
each_is us rs (t ∷ ts) =
    bind_assoc (replace_all rs t) (λ u. done (fitting u)) (λ o. replacing_each (pushed us o) rs ts)
    ∙ (λ i. replace_all rs t >>= λ u. (each_is (pushed us (fitting u)) rs ts ∙ (λ j. replace_each rs (tree.from_list ts) >>= λ vs. done (push_behind us (fitting u) (all_fitting vs) j))) i)
    ∙ (λ i. replace_all rs t >>= λ u. sym (bind_assoc (replace_each rs (tree.from_list ts)) (λ vs. done (more u vs)) (λ vs. done (behind us (all_fitting vs)))) i)
    ∙ sym (bind_assoc (replace_all rs t) (λ u. replace_each rs (tree.from_list ts) >>= λ vs. done (more u vs)) (λ vs. done (behind us (all_fitting vs))))

-- ---- a part

-- what a rule gave, or what follows
abbrev pub or_replacing : Prog (Option Tree) → Option Tree → Prog (Option Tree)
or_replacing p (Some u) = done (fitting u)
or_replacing p None = p

-- head and elements
abbrev pub replacing_below : List PlainRule → Tree → Prog (Option Tree)
replacing_below rs (node h ts) = replacing rs h >>= λ g. replacing_each (Some []) rs (to_list ts) >>= λ us. done (joined g us)
replacing_below rs t = done (fitting t)

leaf_by : (t : Tree) (o : Option Tree) → (done (unwrap_or o t) >>= λ u. done (fitting u)) ≡ or_replacing (done (fitting t)) o
unfolding ◌>>=◌
leaf_by t None = refl
leaf_by t (Some u) = refl

leaf_is : (rs : List PlainRule) (t : Tree) → ((trial rs t >>= λ u. done (unwrap_or u t)) >>= λ u. done (fitting u)) ≡ (trial rs t >>= or_replacing (done (fitting t)))
leaf_is rs t = bind_assoc (trial rs t) (λ u. done (unwrap_or u t)) (λ u. done (fitting u)) ∙ (λ i. trial rs t >>= λ u. leaf_by t u i)

behind_nothing : (o : Option (List Tree)) → behind (Some []) o ≡ o
behind_nothing None = refl
behind_nothing (Some us) = refl

-- the elements of a node under the head that was made
node_by : (rs : List PlainRule) (k : Tree) (ts : Trees) → ((replace_each rs ts >>= λ us. done (node k us)) >>= λ u. done (fitting u)) ≡ (replacing_each (Some []) rs (to_list ts) >>= λ us. done (joined (fitting k) us))
unfolding ◌>>=◌
node_by rs k ts =
    let each = replace_each rs ts in
    let made : Prog (Option (List Tree)) = replacing_each (Some []) rs (to_list ts) in
    let are : made ≡ (each >>= λ vs. done (behind (Some []) (all_fitting vs))) =
    each_is (Some []) rs (to_list ts) ∙ ap (λ us. replace_each rs us >>= λ vs. done (behind (Some []) (all_fitting vs))) (tree.from_list_to_list ts) in
    bind_assoc each (λ us. done (node k us)) (λ u. done (fitting u))
    ∙ (λ i. each >>= λ vs. done ((sym (joined_is k vs) ∙ ap (joined (fitting k)) (sym (behind_nothing (all_fitting vs)))) i))
    ∙ sym (ap (λ z. z >>= λ us. done (joined (fitting k) us)) are ∙ bind_assoc each (λ vs. done (behind (Some []) (all_fitting vs))) (λ us. done (joined (fitting k) us)))

below_is : (rs : List PlainRule) (h : Tree) (ts : Trees) → ((replace_all rs h >>= λ k. replace_each rs ts >>= λ us. done (node k us)) >>= λ u. done (fitting u)) ≡ replacing_below rs (node h ts)
unfolding replacing ◌>>=◌
below_is rs h ts =
    bind_assoc (replace_all rs h) (λ k. replace_each rs ts >>= λ us. done (node k us)) (λ u. done (fitting u))
    ∙ (λ i. replace_all rs h >>= λ k. node_by rs k ts i)
    ∙ sym (bind_assoc (replace_all rs h) (λ k. done (fitting k)) (λ g. replacing_each (Some []) rs (to_list ts) >>= λ us. done (joined g us)))

node_on : (p : Prog Tree) (q : Prog (Option Tree)) (o : Option Tree) → (p >>= λ u. done (fitting u)) ≡ q → (unless_replaced o p >>= λ u. done (fitting u)) ≡ or_replacing q o
unfolding ◌>>=◌
node_on p q None e = e
node_on p q (Some u) e = refl

pub replacing_is : (rs : List PlainRule) (t : Tree) → replacing rs t ≡ (trial rs t >>= or_replacing (replacing_below rs t))
unfolding replacing replace_all
replacing_is rs (num n) = leaf_is rs (num n)
replacing_is rs (text s) = leaf_is rs (text s)
replacing_is rs (symbol x) = leaf_is rs (symbol x)
replacing_is rs (node h ts) =
    let p : Prog Tree = replace_all rs h >>= λ k. replace_each rs ts >>= λ us. done (node k us) in
    bind_assoc (trial rs (node h ts)) (λ u. unless_replaced u p) (λ u. done (fitting u))
    ∙ (λ i. trial rs (node h ts) >>= λ u. node_on p (replacing_below rs (node h ts)) u (below_is rs h ts) i)

-- ---- rules that were read

pub trial_next : (rs : List Rule) (i : ℕ) (x : Rule) (t : Tree) → i < length rs → x ≡ get_or rs i x
    → trial (map plain_rule (drop i rs)) t ≡ (rule_result (plain_rule x) t >>= λ u. or_else u (trial (map plain_rule (drop (i + 1) rs)) t))
unfolding trial
trial_next rs i x t h e = ap (λ z. trial (map plain_rule z) t) (drop_item rs i x h e)

-- ---- how a part plays

module _ (rs : List PlainRule) (e : Stamped) (k k1 : Evaluator) (o : Option Stamped) (h : Played found_tree (trial rs (plain e)) k (Ok o) k1) where
  pub result_replaced : (x : Stamped) → o ≡ Some x → IsWithinLimits (plain x) → Played (seen_replaced e) (replacing rs (plain e)) k (Ok (replaced.Changed x)) k1
  result_replaced x q w =
      let m : Played found_tree (trial rs (plain e)) k (Ok (Some x)) k1 = subst (λ z. Played found_tree (trial rs (plain e)) k (Ok z) k1) q h in
      (subst (λ p. Plays p k (Ok (Some (plain x))) k1 false) (sym (replacing_is rs (plain e))) (plays_bind _ _ m.0 (plays_done_is (fitting_is (plain x) w))), m.1)

  pub below_leads : ((x : Stamped) → o ≡ Some x → ⊥) → Leads (replacing rs (plain e)) k (replacing_below rs (plain e)) k1
  below_leads n =
      let m : Played found_tree (trial rs (plain e)) k (Ok None) k1 = subst (λ z. Played found_tree (trial rs (plain e)) k (Ok z) k1) (no_some o n) h in
      leads_in _ _ (trial rs (plain e)) (or_replacing (replacing_below rs (plain e))) k k k1 None (λ r k2 q y. y) (replacing_is rs (plain e)) m.0

leaf_below : (rs : List PlainRule) (t : Tree) → ((h : Tree) (ts : Trees) → t ≡ node h ts → ⊥) → replacing_below rs t ≡ done (fitting t)
leaf_below rs (num n) f = refl
leaf_below rs (text s) f = refl
leaf_below rs (symbol x) f = refl
leaf_below rs (node h ts) f = absurd (f h ts refl)

-- an atom stays
pub leaf_replaced : (rs : List PlainRule) (e : Stamped) (w : Prog (Option Tree)) (k k1 : Evaluator) → ((h : Tree) (ts : Trees) → plain e ≡ node h ts → ⊥) → IsWithinLimits (plain e) → Honest k1 e → Leads w k (replacing_below rs (plain e)) k1
    → Played (seen_replaced e) w k (Ok replaced.Same) k1
leaf_replaced rs e w k k1 f s g l =
    (l _ _ _ (subst (λ p. Plays p k1 (Ok (Some (plain e))) k1 false) (sym (leaf_below rs (plain e) f)) (plays_done_is (fitting_is (plain e) s))), g)

pub node_below : (rs : List PlainRule) (t h : Tree) (es : List Stamped) → node h (plains (stamped.from_list es)) ≡ t
    → replacing_below rs t ≡ (replacing rs h >>= λ g. replacing_each (Some []) rs (trees es) >>= λ us. done (joined g us))
node_below rs t h es q =
    ap (replacing_below rs) (sym q) ∙ ap (λ ts. replacing rs h >>= λ g. replacing_each (Some []) rs ts >>= λ us. done (joined g us)) (list_of_plains es)

-- ---- a node that is built again

none_tree : (o : Option (List Stamped)) → joined None (option_map trees o) ≡ None
none_tree o = refl

no_elements : (o : Option Stamped) → joined (option_map plain o) None ≡ None
no_elements None = refl
no_elements (Some h) = refl

module _ (e h : Stamped) (es : List Stamped) (q : node (plain h) (plains (stamped.from_list es)) ≡ plain e) (w : IsWithinLimits (plain e)) where
  same_node : applied (plain h) (trees es) ≡ plain e
  same_node = ap (λ us. node (plain h) us) (sym (plains_trees es)) ∙ q

  pub rebuilt_is : (g : Option Stamped) (us : Option (List Stamped)) (r : Replaced) → IsRebuilt h es g us r → option_map plain (part_of e r) ≡ joined (option_map plain g) (option_map trees us)
  rebuilt_is None us r m = ap (λ z. option_map plain (part_of e z)) m
  rebuilt_is (Some g) None r m = ap (λ z. option_map plain (part_of e z)) m
  rebuilt_is (Some g) (Some us) replaced.Same m =
      let i = m.1 refl in
      sym (ap fitting (ap₂ (λ (y : Stamped) (z : List Stamped). applied (plain y) (trees z)) i.0 i.1 ∙ same_node) ∙ fitting_is (plain e) w)
  rebuilt_is (Some g) (Some us) (replaced.Changed u) m =
      let t : plain u ≡ applied (plain g) (trees us) = ap plain m.0.0 ∙ ap (λ z. node (plain g) z) (plains_trees us) in
      sym (ap fitting (sym t) ∙ fitting_is (plain u) m.0.1)
  rebuilt_is (Some g) (Some us) replaced.Large m = sym (too_large (applied (plain g) (trees us)) m.0)

  pub rebuilt_honest : (k : Evaluator) (g : Option Stamped) (us : Option (List Stamped)) (r : Replaced) → IsRebuilt h es g us r → Honest k e → HonestMaybe k g → AllHonestMaybe k us → HonestMaybe k (part_of e r)
  rebuilt_honest k None us r m x y z = subst (λ v. HonestMaybe k (part_of e v)) (sym m) tt
  rebuilt_honest k (Some g) None r m x y z = subst (λ v. HonestMaybe k (part_of e v)) (sym m) tt
  rebuilt_honest k (Some g) (Some us) replaced.Same m x y z = x
  rebuilt_honest k (Some g) (Some us) (replaced.Changed u) m x y z = subst (Honest k) (sym m.0.0) (built_honest k.store g us y z)
  rebuilt_honest k (Some g) (Some us) replaced.Large m x y z = tt

-- what was made of a new head and new elements
pub is_rebuilt : (h : Stamped) (es : List Stamped) (g : Stamped) (vs us : List Stamped) (made : Result Stamped ExprFault) (r : Result Replaced Memory) → vs ≡ us → IfOk made (λ e. e ≡ stamped.node None g (stamped.from_list vs))
    → ((made ≡ Err fault.Large) ↔ ¬ IsWithinLimits (node (plain g) (plains (stamped.from_list vs)))) → IfOk r (λ x. IsMade made x) → IfOk r (λ x. IsRebuilt h es (Some g) (Some us) x)
is_rebuilt h es g vs us made (Err e) q ok large m = tt
is_rebuilt h es g vs us (Ok e) (Ok x) q ok large m =
    let c = subst (λ (z : List Stamped). e ≡ stamped.node None g (stamped.from_list z)) q ok in
    subst (λ z. IsRebuilt h es (Some g) (Some us) z) (sym m.0) ((c, m.1), λ w. absurd (let y : replaced.Changed e ≡ replaced.Same = w in cc))
is_rebuilt h es g vs us (Err fault.Large) (Ok x) q ok large m =
    let c = node_makes g vs (Err fault.Large) ok large in
    subst (λ z. IsRebuilt h es (Some g) (Some us) z) (sym m) (subst (λ (z : List Stamped). fits (applied (plain g) (trees z)) ≡ false) q c, λ w. absurd (let y : replaced.Large ≡ replaced.Same = w in cc))
is_rebuilt h es g vs us (Err fault.Memory) (Ok x) q ok large m = absurd m

-- ---- elements

pub each_next : (us : Option (List Tree)) (rs : List PlainRule) (xs : List Stamped) (i : ℕ) (x : Stamped) → i < length xs → x ≡ get_or xs i x
    → replacing_each us rs (trees (drop i xs)) ≡ (replacing rs (plain x) >>= λ u. replacing_each (pushed us u) rs (trees (drop (i + 1) xs)))
unfolding replacing_each
each_next us rs xs i x h e = elements_at (replacing_each us rs) xs i x h e

pub each_over : (us : Option (List Tree)) (rs : List PlainRule) → replacing_each us rs [] ≡ done us
unfolding replacing_each
each_over us rs = refl

pub pushed_trees : (us : Option (List Stamped)) (u : Option Stamped) → option_map trees (pushed us u) ≡ pushed (option_map trees us) (option_map plain u)
pushed_trees None u = refl
pushed_trees (Some us) None = refl
pushed_trees (Some us) (Some u) = ap Some (map-append plain us (u ∷ []))

pub pushed_honest : (k : Evaluator) (us : Option (List Stamped)) (u : Option Stamped) → AllHonestMaybe k us → HonestMaybe k u → AllHonestMaybe k (pushed us u)
pushed_honest k None u a b = tt
pushed_honest k (Some us) None a b = tt
pushed_honest k (Some us) (Some u) a b = All-push (Honest k) us u a b

take_more : {A : Type 0} (xs : List A) (i : ℕ) (x : A) → i < length xs → x ≡ get_or xs i x → take (i + 1) xs ≡ take i xs ++ x ∷ []
take_more [] i x h e = absurd (omega (arith, h))
take_more (y ∷ ys) zero x h e = ap (λ z. z ∷ []) (sym e)
take_more (y ∷ ys) (suc i) x h e = ap (λ n. take n (y ∷ ys)) (let q : suc i + 1 ≡ suc (i + 1) = omega arith in q) ∙ ap (λ z. y ∷ z) (take_more ys i x (omega (arith, h)) e)

pub take_whole : {A : Type 0} (xs : List A) (i : ℕ) → length xs ≤ i → take i xs ≡ xs
take_whole [] zero h = refl
take_whole [] (suc i) h = refl
take_whole (x ∷ xs) zero h = absurd (omega (arith, h))
take_whole (x ∷ xs) (suc i) h = ap (λ z. x ∷ z) (take_whole xs i (omega (arith, h)))

module _ (xs : List Stamped) (i : ℕ) (x : Stamped) (before after : ReplacedEach) (part : Replaced) (l : i < length xs) (e : x ≡ get_or xs i x) (q : each_of (take i xs ++ x ∷ []) after ≡ pushed (each_of (take i xs) before) (part_of x part)) where
  each_after : each_of (take (i + 1) xs) after ≡ pushed (each_of (take i xs) before) (part_of x part)
  each_after = ap (λ z. each_of z after) (take_more xs i x l e) ∙ q

  pub each_leads : (rs : List PlainRule) (w : Prog (Option (List Tree))) (k0 k k1 : Evaluator) → Plays (replacing rs (plain x)) k (Ok (option_map plain (part_of x part))) k1 false
      → Leads w k0 (replacing_each (option_map trees (each_of (take i xs) before)) rs (trees (drop i xs))) k → Leads w k0 (replacing_each (option_map trees (each_of (take (i + 1) xs) after)) rs (trees (drop (i + 1) xs))) k1
  each_leads rs w k0 k k1 h m =
      let us = option_map trees (each_of (take i xs) before) in
      let on = leads_in w _ (replacing rs (plain x)) _ k0 k k1 _ m (each_next us rs xs i x l e) h in
      subst (λ z. Leads w k0 (replacing_each z rs (trees (drop (i + 1) xs))) k1) (sym (ap (option_map trees) each_after ∙ pushed_trees (each_of (take i xs) before) (part_of x part))) on

  pub each_honest : (k : Evaluator) → AllHonestMaybe k (each_of (take i xs) before) → HonestMaybe k (part_of x part) → AllHonestMaybe k (each_of (take (i + 1) xs) after)
  each_honest k a b = subst (AllHonestMaybe k) (sym each_after) (pushed_honest k (each_of (take i xs) before) (part_of x part) a b)

pub each_later : {R : Type 0} {p : Prog R} {k k1 : Evaluator} {r : Result R End} {o : Bool} → Plays p k r k1 o → (us : Option (List Stamped)) → AllHonestMaybe k us → AllHonestMaybe k1 us
each_later h None a = tt
each_later h (Some us) a = all_later h us a

-- ---- what a program gave, before a function was taken of it

pub record Came {A B : Type 0} (p : Prog A) (f : A → B) (k k1 : Evaluator) (v : B) (o : Bool) : Type 0 where
  pub it : A
  pub plays : Plays p k (Ok it) k1 o
  pub gives : f it ≡ v

came_by : {A B : Type 0} (p : Prog A) (f : A → B) (k k1 : Evaluator) (v : B) (o : Bool) → Plays (p >>= λ u. done (f u)) k (Ok v) k1 o → (r : Result A End) → (Go p (state k)).result ≡ r → Came p f k k1 v o
unfolding interp
came_by {A} {B} p f k k1 v o h (Ok a) e =
    let g : A → State → Res (Result B End) = λ x z. Go (done (f x)) z in
    let before = Go p (state k) in
    let at : Result A End → Res (Result B End) = λ x. and_then_ok (record { result = x; state = before.state; did = before.did }) g in
    let w : Go (p >>= λ u. done (f u)) (state k) ≡ at (Ok a) = interp-bind Eval p (λ u. done (f u)) (state k) ∙ ap at e in
    let d : (Go (p >>= λ u. done (f u)) (state k)).did ≡ before.did = ap (λ z. z.did) w ∙ then_none before.did in
    record {
      it = a;
      plays = record {
        ends = e;
        leaves = sym (ap (λ z. z.state) w) ∙ h.leaves;
        out = sym (ap (λ (z : Record). z.out) d) ∙ h.out;
        notes = subst (λ z. Notes k z k1) d h.notes;
        grows = h.grows;
        sound = h.sound;
      };
      gives = let q : Ok (f a) ≡ Ok v = sym (ap (λ z. z.result) w) ∙ h.ends in cc;
    }
came_by {A} {B} p f k k1 v o h (Err x) e =
    let g : A → State → Res (Result B End) = λ y z. Go (done (f y)) z in
    let before = Go p (state k) in
    let at : Result A End → Res (Result B End) = λ y. and_then_ok (record { result = y; state = before.state; did = before.did }) g in
    let w : Go (p >>= λ u. done (f u)) (state k) ≡ at (Err x) = interp-bind Eval p (λ u. done (f u)) (state k) ∙ ap at e in
    absurd (let q : Err x ≡ Ok v = sym (ap (λ z. z.result) w) ∙ h.ends in cc)

unmapped_by : {A B : Type 0} (p : Prog A) (f : A → B) (k k1 : Evaluator) (x : End) (o : Bool) → Plays (p >>= λ u. done (f u)) k (Err x) k1 o → (r : Result A End) → (Go p (state k)).result ≡ r → Plays p k (Err x) k1 o
unfolding interp
unmapped_by {A} {B} p f k k1 x o h (Ok a) e =
    let g : A → State → Res (Result B End) = λ y z. Go (done (f y)) z in
    let before = Go p (state k) in
    let at : Result A End → Res (Result B End) = λ y. and_then_ok (record { result = y; state = before.state; did = before.did }) g in
    let w : Go (p >>= λ u. done (f u)) (state k) ≡ at (Ok a) = interp-bind Eval p (λ u. done (f u)) (state k) ∙ ap at e in
    absurd (let q : Ok (f a) ≡ Err x = sym (ap (λ z. z.result) w) ∙ h.ends in cc)
unmapped_by {A} {B} p f k k1 x o h (Err y) e =
    let g : A → State → Res (Result B End) = λ y z. Go (done (f y)) z in
    let before = Go p (state k) in
    let at : Result A End → Res (Result B End) = λ y. and_then_ok (record { result = y; state = before.state; did = before.did }) g in
    let w : Go (p >>= λ u. done (f u)) (state k) ≡ at (Err y) = interp-bind Eval p (λ u. done (f u)) (state k) ∙ ap at e in
    let d : (Go (p >>= λ u. done (f u)) (state k)).did ≡ before.did = ap (λ z. z.did) w ∙ then_none before.did in
    let q : y ≡ x = (let z : Err y ≡ Err x = sym (ap (λ z. z.result) w) ∙ h.ends in cc) in
    record {
      ends = e ∙ ap Err q;
      leaves = sym (ap (λ z. z.state) w) ∙ h.leaves;
      out = sym (ap (λ (z : Record). z.out) d) ∙ h.out;
      notes = subst (λ z. Notes k z k1) d h.notes;
      grows = h.grows;
      sound = h.sound;
    }

unmapped : {A B : Type 0} (p : Prog A) (f : A → B) (k k1 : Evaluator) (x : End) (o : Bool) → Plays (p >>= λ u. done (f u)) k (Err x) k1 o → Plays p k (Err x) k1 o
unmapped p f k k1 x o h = unmapped_by p f k k1 x o h (Go p (state k)).result refl

-- the tree that a part has become, of which that is known
pub became : (rs : List PlainRule) (t : Tree) (k k1 : Evaluator) (v : Option Tree) → Plays (replacing rs t) k (Ok v) k1 false → Came (replace_all rs t) fitting k k1 v false
unfolding replacing
became rs t k k1 v h = came_by (replace_all rs t) fitting k k1 v false h (Go (replace_all rs t) (state k)).result refl

-- a replacement that stops
pub replacing_stops : {X Y B : Type 0} (seen : Seen X (Option Tree)) (seen' : Seen Y B) (rs : List PlainRule) (t : Tree) (f : Tree → Prog B) (k : Evaluator) (e : Stop) (k1 : Evaluator) → Played seen (replacing rs t) k (Err e) k1 → Played seen' (replace_all rs t >>= f) k (Err e) k1
unfolding replacing
replacing_stops seen seen' rs t f k stops.Memory k1 h = tt
replacing_stops seen seen' rs t f k (stops.Thrown v w) k1 h = (plays_stop _ f (unmapped _ fitting k k1 _ false h.0), h.1)
replacing_stops seen seen' rs t f k stops.Aborted k1 h = (plays_stop _ f (unmapped _ fitting k k1 _ false h.0), h.1)
replacing_stops seen seen' rs t f k stops.BudgetEnded k1 h = (plays_stop _ f (unmapped _ fitting k k1 _ true h.0), h.1)
replacing_stops seen seen' rs t f k stops.Broke k1 h = (plays_stop _ f (unmapped _ fitting k k1 _ false h.0), h.1)
replacing_stops seen seen' rs t f k stops.Continued k1 h = (plays_stop _ f (unmapped _ fitting k k1 _ false h.0), h.1)

-- ---- passes

abbrev pub again : ℕ → List PlainRule → Tree → Tree → Bool → Prog (Option Tree)
again n rs e v true = result e
again n rs e v false = replace_repeated n rs v

again_by : (n : ℕ) (rs : List PlainRule) (e v : Tree) (b : Bool) → elim b [ true ↦ result e | false ↦ replace_repeated n rs v ] ≡ again n rs e v b
again_by n rs e v true = refl
again_by n rs e v false = refl

pub repeated_is : (n : ℕ) (rs : List PlainRule) (e : Tree) → replace_repeated (suc n) rs e ≡ (tick >>= λ _. replace_all rs e >>= λ u. value_of_built u >>= λ v. again n rs e v (same v e))
unfolding replace_repeated
repeated_is n rs e = λ i. tick >>= λ _. replace_all rs e >>= λ u. value_of_built u >>= λ v. again_by n rs e v (same v e) i

-- the passes that remain, more than there are steps
pub record Passing (n : ℕ) (rs : List PlainRule) (t : Tree) (k0 : Evaluator) (u : Tree) (k : Evaluator) : Type 0 where
  pub left : ℕ
  pub enough : k.steps < left
  pub leads : Leads (replace_repeated n rs t) k0 (replace_repeated left rs u) k

pub passing_begins : (n : ℕ) (rs : List PlainRule) (t : Tree) (k : Evaluator) → k.steps < n → Passing n rs t k t k
passing_begins n rs t k h = record { left = n; enough = h; leads = λ r k2 o m. m }

-- what follows the step of a pass
abbrev pub passes_on : ℕ → List PlainRule → Tree → Prog (Option Tree)
passes_on n rs e = replace_all rs e >>= λ u. value_of_built u >>= λ v. again n rs e v (same v e)

-- a pass that has taken its step
pub record Stepped (n : ℕ) (rs : List PlainRule) (t : Tree) (k0 : Evaluator) (u : Tree) (k k1 : Evaluator) : Type 0 where
  pub left : ℕ
  pub enough : k.steps < left + 1
  pub leads : Leads (replace_repeated n rs t) k0 (passes_on left rs u) k1

pub pass_steps : (n : ℕ) (rs : List PlainRule) (t : Tree) (k0 : Evaluator) (u : Tree) (k k1 : Evaluator) → Passing n rs t k0 u k → Plays tick k (Ok tt) k1 false → Stepped n rs t k0 u k k1
pass_steps n rs t k0 u k k1 p h = by p.left p.enough p.leads
  where
    by : (m : ℕ) → k.steps < m → Leads (replace_repeated n rs t) k0 (replace_repeated m rs u) k → Stepped n rs t k0 u k k1
    by zero e l = absurd (omega (arith, e))
    by (suc m) e l = record { left = m; enough = omega (arith, e); leads = leads_in _ _ tick (λ _. passes_on m rs u) k0 k k1 tt l (repeated_is m rs u) h }

pub step_stops : {X : Type 0} (seen : Seen X (Option Tree)) (n : ℕ) (rs : List PlainRule) (t : Tree) (k0 : Evaluator) (u : Tree) (k k1 : Evaluator) (r : Result X Stop) (e : Stop) → Passing n rs t k0 u k → IsErrAnd r (λ d. d ≡ e) → Played itself tick k (Err e) k1 → Played seen (replace_repeated n rs t) k0 r k1
step_stops seen n rs t k0 u k k1 r e p q h = by p.left p.enough p.leads
  where
    by : (m : ℕ) → k.steps < m → Leads (replace_repeated n rs t) k0 (replace_repeated m rs u) k → Played seen (replace_repeated n rs t) k0 r k1
    by zero x l = absurd (omega (arith, x))
    by (suc m) x l = leads_out itself seen _ _ tick (λ _. passes_on m rs u) k0 k k1 r e l (repeated_is m rs u) q h

-- the value is the same, or the next pass begins with it
pub pass_ends : (w : Prog (Option Tree)) (n : ℕ) (rs : List PlainRule) (e v : Tree) (k0 k : Evaluator) (b : Bool) → (b ≡ true ↔ v ≡ e) → b ≡ true → Leads w k0 (again n rs e v (same v e)) k → Plays w k0 (Ok (Some e)) k false
pass_ends w n rs e v k0 k b d h l = subst (λ z. Leads w k0 (again n rs e v z) k) ((same_decides v e).1 (d.0 h)) l _ _ _ plays_done

pub pass_goes : (w : Prog (Option Tree)) (n : ℕ) (rs : List PlainRule) (e v : Tree) (k0 k : Evaluator) (b : Bool) → (b ≡ true ↔ v ≡ e) → b ≡ false → Leads w k0 (again n rs e v (same v e)) k → Leads w k0 (replace_repeated n rs v) k
pass_goes w n rs e v k0 k b d h l = by (same v e) refl
  where
    by : (c : Bool) → same v e ≡ c → Leads w k0 (replace_repeated n rs v) k
    by true q = absurd (true≢false (sym (d.1 ((same_decides v e).0 q)) ∙ h))
    by false q = subst (λ z. Leads w k0 (again n rs e v z) k) q l

-- ---- rows by their rules

pub replace_is : (e r : Tree) (o : Option (List PlainRule)) → o ≡ rules_in r → replace_row (e ∷ r ∷ []) ≡ replace_by e o
replace_is e r o h = ap (replace_by e) (sym h)

pub replace_all_is : (e r : Tree) (o : Option (List PlainRule)) → o ≡ rules_in r → replace_all_row (e ∷ r ∷ []) ≡ replace_all_by e o
replace_all_is e r o h = ap (replace_all_by e) (sym h)

pub replace_repeated_is : (e r : Tree) (o : Option (List PlainRule)) → o ≡ rules_in r → replace_repeated_row (e ∷ r ∷ []) ≡ replace_repeated_by e o
replace_repeated_is e r o h = ap (replace_repeated_by e) (sym h)

-- the rules that were read are honest
pub read_honest : (k : Evaluator) (p : Stamped) (o : Option (Vec Rule Global)) (v : Vec Rule Global) → ((ms : List Stamped) → IsFrom ms p → MaybeRulesFrom ms o) → o ≡ Some v → Honest k p → AllHonestRules k v.items
read_honest k p o v f e h i d l =
    let g : (ms : List Stamped) → IsFrom ms p → All (IsRuleFrom ms) v.items = λ ms m. subst (MaybeRulesFrom ms) e (f ms m) in
    (passed_honest k.store p (slice_index_or v.items i d).left (λ ms m. (g ms m i d l).0) h, passed_honest k.store p (slice_index_or v.items i d).body (λ ms m. (g ms m i d l).1) h)

pub read_is : (o : Option (Vec Rule Global)) (v : Vec Rule Global) (x : Option (List PlainRule)) → o ≡ Some v → option_map (λ (u : Vec Rule Global). map plain_rule u.items) o ≡ x → Some (map plain_rule v.items) ≡ x
read_is o v x e h = ap (option_map (λ (u : Vec Rule Global). map plain_rule u.items)) (sym e) ∙ h

pub pass_stops : {X : Type 0} (seen : Seen X (Option Tree)) (n : ℕ) (rs : List PlainRule) (t : Tree) (k0 : Evaluator) (x : Stamped) (k k1 k2 : Evaluator) (r : Result X Stop) (e : Stop) → Stepped n rs t k0 (plain x) k k1 → IsErrAnd r (λ d. d ≡ e)
    → Played (seen_replaced x) (replacing rs (plain x)) k1 (Err e) k2 → Played seen (replace_repeated n rs t) k0 r k2
pass_stops seen n rs t k0 x k k1 k2 r e s q h =
    let p = err_from_is_err_and r q in
    leads_played seen _ (passes_on s.left rs (plain x)) k0 k1 r k2 s.leads (subst (λ z. Played seen (passes_on s.left rs (plain x)) k1 z k2) (sym (p.1 ∙ ap Err p.2)) (replacing_stops (seen_replaced x) seen rs (plain x) _ k1 e k2 h))

pub none_is : (rs : List PlainRule) (e : Tree) (k k1 : Evaluator) (o : Option Stamped) → Played found_tree (trial rs e) k (Ok o) k1 → ((x : Stamped) → o ≡ Some x → ⊥) → Plays (trial rs e) k (Ok None) k1 false
none_is rs e k k1 o h n = let m : Played found_tree (trial rs e) k (Ok None) k1 = subst (λ z. Played found_tree (trial rs e) k (Ok z) k1) (no_some o n) h in m.0

-- ---- rows of an expression and its rules

pub no_rules_read : (o : Option (Vec Rule Global)) (x : Option (List PlainRule)) → ((v : Vec Rule Global) → o ≡ Some v → ⊥) → option_map (λ (u : Vec Rule Global). map plain_rule u.items) o ≡ x → None ≡ x
no_rules_read None x n h = h
no_rules_read (Some v) x n h = absurd (n v refl)

-- where no rules stand, the row stays
module _ (es : List Stamped) (e r : Stamped) (k : Evaluator) (two : Some (e, r) ≡ pair es) (is : None ≡ rules_in (plain r)) where
  pub replace_stays : Played found_tree (sized_row (replace_row (trees es))) k (Ok None) k
  replace_stays = pair_row found_tree replace_row es e r k (Ok None) k two (row_stays (replace_row (plain e ∷ plain r ∷ [])) k (replace_is (plain e) (plain r) None is))

  pub replace_all_stays : Played found_tree (sized_row (replace_all_row (trees es))) k (Ok None) k
  replace_all_stays = pair_row found_tree replace_all_row es e r k (Ok None) k two (row_stays (replace_all_row (plain e ∷ plain r ∷ [])) k (replace_all_is (plain e) (plain r) None is))

  pub replace_repeated_stays : Played found_tree (sized_row (replace_repeated_row (trees es))) k (Ok None) k
  replace_repeated_stays = pair_row found_tree replace_repeated_row es e r k (Ok None) k two (row_stays (replace_repeated_row (plain e ∷ plain r ∷ [])) k (replace_repeated_is (plain e) (plain r) None is))

-- where they do, it gives what a rule made, or the expression itself, or the last of the passes
module _ (es : List Stamped) (e r : Stamped) (rs : List PlainRule) (k k1 : Evaluator) (two : Some (e, r) ≡ pair es) (is : Some rs ≡ rules_in (plain r)) where
  replaces_by : (x : Stamped) → Played found_tree (sized_row (replace_by (plain e) (Some rs))) k (Ok (Some x)) k1 → Played found_tree (sized_row (replace_row (trees es))) k (Ok (Some x)) k1
  replaces_by x h = pair_row found_tree replace_row es e r k (Ok (Some x)) k1 two (row_at (replace_row (plain e ∷ plain r ∷ [])) (replace_by (plain e) (Some rs)) k (Ok (Some x)) k1 (replace_is (plain e) (plain r) (Some rs) is) h)

  pub replaced_with : (x : Stamped) → Played found_tree (trial rs (plain e)) k (Ok (Some x)) k1 → fits (plain x) ≡ true → Played found_tree (sized_row (replace_row (trees es))) k (Ok (Some x)) k1
  replaced_with x h f =
      replaces_by x (row_gives (replace_by (plain e) (Some rs)) k k1 x (plays_bind (trial rs (plain e)) (λ u. result (unwrap_or u (plain e))) h.0 plays_done) f h.1)

  pub not_replaced : Plays (trial rs (plain e)) k (Ok None) k1 false → fits (plain e) ≡ true → Honest k1 e → Played found_tree (sized_row (replace_row (trees es))) k (Ok (Some e)) k1
  not_replaced h f g =
      replaces_by e (row_gives (replace_by (plain e) (Some rs)) k k1 e (plays_bind (trial rs (plain e)) (λ u. result (unwrap_or u (plain e))) h plays_done) f g)

  pub repeated_gives : (x : Stamped) → Played seen_result (replace_repeated (2 ^ 64) rs (plain e)) k (Ok x) k1 → fits (plain x) ≡ true → Played found_tree (sized_row (replace_repeated_row (trees es))) k (Ok (Some x)) k1
  repeated_gives x h f =
      pair_row found_tree replace_repeated_row es e r k (Ok (Some x)) k1 two
      (row_at (replace_repeated_row (plain e ∷ plain r ∷ [])) (replace_repeated (2 ^ 64) rs (plain e)) k (Ok (Some x)) k1 (replace_repeated_is (plain e) (plain r) (Some rs) is) (row_gives (replace_repeated (2 ^ 64) rs (plain e)) k k1 x h.0 f h.1))
