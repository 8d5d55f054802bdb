-- What is made anew of a filled tree and what stays, part by part.
use Rattle.std.proofs.Common.{◌≡◌, ℕ, zero, suc, ◌<◌, ◌≤◌, ◌+◌, ◌-◌, max, Bool, true, false, ◌||◌, ◌&&◌, List, [], ◌∷◌, ◌++◌, map, length, get_or, take, drop, append_assoc, length-append, add-one, refl, sym, ap, ◌∙◌, subst, arith}
use Rattle.std.proofs.lemmas.List.{append-nil, map-append, drop_all, take_all, length-drop}
use Rattle.std.proofs.lemmas.List.Elements.{All-nil, All-cons, All-head, All-tail, All-append, All-drop, All-push, All-take}
use Rattle.std.specs.List.{All, list_any}
use Rattle.std.specs.Prelude.{Option, Some, None, Result, Ok, Err, IfOk, IfSome, IsErrAnd, option_map, unwrap_or, codes, bytes_eq}
use Rattle.std.proofs.lemmas.Result.{err_from_is_err_and}
use Rattle.std.specs.declared.alloc.Global.{Global}
use Rattle.std.specs.declared.vec.Vec.{Vec}
use Rattle.wl_expr.proofs.Items.{two_items}
use Rattle.wl_expr.proofs.Parts.{plains_from_list}
use Rattle.wl_expr.specs.Passed.{IsFrom}
use Rattle.wl_expr.specs.Same.{is_name_among}
use Rattle.wl_expr.specs.Stamped.{Stamped, plain, plains, from_list}
use Rattle.wl_expr.specs.Tree as tree
use Rattle.wl_expr.specs.Tree.{Tree, Trees, num, text, symbol, node, none, more, to_list, weight, weights, depth, depths, IsWithinLimits, AreSmall, from_list_to_list}
use Rattle.wl_expr.specs.Words.{Name, applied, is_the}
use Rattle.wl_expr.specs.declared.fault.ExprFault.{ExprFault}
use Rattle.wl_expr.specs.declared.fault.ExprFault.TheVariants.{Large}
use Rattle.wl_shape.specs.Answers.{AllFrom, trees}
use Rattle.wl_shape.specs.Fill.{Values, Inside, arriving, fill, fill_all, fill_first, fill_formal, fill_formals, fill_scope, filled_symbol, inside, inside_of, names, new_name, or_else, parameter, reached, renamings, value_names, without_names}
use Rattle.wl_shape.specs.Entering.{OneTooLong}
use Rattle.wl_shape.specs.Locals.{symbols_in, two_of}
use Rattle.wl_shape.specs.Names.{names_in}
use Rattle.wl_shape.specs.Renewed.{AreRenewed, IsRenewed, elements_or}
use Rattle.wl_shape.specs.Scopes.{names as names_allowed, values as values_needed, function_names, locals, names_in as names_in_locals, parameters}
use Rattle.wl_shape.specs.Standing.{AgreeOn, IsNotLarger}
use Rattle.wl_shape.specs.Walks.{AreParameters, fill_elements, has_scope, have_scopes, may_be_scope}
use Rattle.wl_shape.proofs.Agreement.{fill-same}
use Rattle.wl_shape.proofs.Faults.{fault_passed_on}
use Rattle.wl_shape.proofs.Formals.{parameter_stands}
use Rattle.wl_shape.proofs.Meetings.{both_of, known_parameters, no_parameters, no_scope, no_scope_of_more, no_scope_of_one, refuted}
use Rattle.wl_shape.proofs.Members.{among-append, itself, one_name, or_left, or_right}
use Rattle.wl_shape.proofs.Splits.{next_of}
use Rattle.wl_shape.proofs.Standings.{within_limits}

-- ---- size

pub head_fits : (h : Tree) (ts : Trees) → IsWithinLimits (node h ts) → IsWithinLimits h
head_fits h ts w = record { light = omega (arith, w.light); shallow = omega (arith, w.shallow) }

pub args_fit : (h : Tree) (ts : Trees) → IsWithinLimits (node h ts) → AreSmall ts
args_fit h ts w = record { light = omega (arith, w.light); shallow = omega (arith, w.shallow) }

pub first_fits : (t : Tree) (ts : Trees) → AreSmall (more t ts) → IsWithinLimits t
first_fits t ts s = record { light = omega (arith, s.light); shallow = omega (arith, s.shallow) }

pub others_fit : (t : Tree) (ts : Trees) → AreSmall (more t ts) → AreSmall ts
others_fit t ts s = record { light = omega (arith, s.light); shallow = omega (arith, s.shallow) }

-- ---- lists of which some elements are new and some stay

take-next : (es : List Stamped) (k : ℕ) (e : Stamped) → k < length es → e ≡ get_or es k e → take (k + 1) es ≡ take k es ++ e ∷ []
take-next [] k e l p = absurd (omega (arith, l))
take-next (d ∷ es) zero e l p = ap (λ x. x ∷ []) (sym p)
take-next (d ∷ es) (suc k) e l p = ap (λ n. take n (d ∷ es)) (add-one (suc k)) ∙ ap (λ xs. d ∷ xs) (ap (λ n. take n es) (sym (add-one k)) ∙ take-next es k e (omega (arith, l)) p)

drop-push : (n : ℕ) (xs : List Stamped) (e : Stamped) → n ≤ length xs → drop n (xs ++ e ∷ []) ≡ drop n xs ++ e ∷ []
drop-push zero xs e l = refl
drop-push (suc n) [] e l = absurd (omega (arith, l))
drop-push (suc n) (x ∷ xs) e l = drop-push n xs e (omega (arith, l))

pub length-taken : (es : List Stamped) (k : ℕ) → k ≤ length es → length (take k es) ≡ k
length-taken es zero l = refl
length-taken [] (suc k) l = absurd (omega (arith, l))
length-taken (e ∷ es) (suc k) l = ap suc (length-taken es k (omega (arith, l)))

trees-push : (es : List Stamped) (e : Stamped) (us : List Tree) → trees (es ++ e ∷ []) ++ us ≡ trees es ++ plain e ∷ us
trees-push es e us = ap (λ ts. ts ++ us) (map-append plain es (e ∷ [])) ∙ append_assoc (trees es) (plain e ∷ []) us

counted : (all taken caught after : List Stamped) (k : ℕ) (n : Stamped) → length all ≤ k → length taken ≡ k → caught ≡ all ++ drop (length all) taken → after ≡ caught ++ n ∷ [] → length after ≡ k + 1
counted all taken caught after k n few l c a =
    let x : length caught ≡ length all + length (drop (length all) taken) = ap length c ∙ length-append all (drop (length all) taken) in
    let y : length after ≡ length caught + 1 = ap length a ∙ length-append caught (n ∷ []) in
    let z : length (drop (length all) taken) ≡ length taken - length all = length-drop (length all) taken in
    omega (arith, x, y, z, few, l)

pub few_more : (all taken caught after : List Stamped) (k : ℕ) (n : Stamped) → length all ≤ k → length taken ≡ k → caught ≡ all ++ drop (length all) taken → after ≡ caught ++ n ∷ [] → length after ≤ k + 1
few_more all taken caught after k n few l c a = let e = counted all taken caught after k n few l c a in omega (arith, e)

pub all_caught : (ms es all caught after : List Stamped) (k : ℕ) (n : Stamped) → caught ≡ all ++ drop (length all) (take k es) → after ≡ caught ++ n ∷ [] → AllFrom ms es → AllFrom ms all → IsFrom ms n → AllFrom ms after
all_caught ms es all caught after k n c a h f g =
    subst (AllFrom ms) (sym a) (All-push (IsFrom ms) caught n
    (subst (AllFrom ms) (sym c) (All-append (IsFrom ms) all (drop (length all) (take k es)) f (All-drop (IsFrom ms) (length all) (take k es) (All-take (IsFrom ms) k es h)))) g)

-- ---- elements, one after another: f fills all of them, g one

module _ (f : Trees → Trees) (g : Tree → Tree) (ends : f none ≡ none) (goes_on : (t : Tree) (ts : Trees) → f (more t ts) ≡ more (g t) (f ts)) where
  abbrev all_of : List Stamped → List Tree
  all_of es = to_list (f (plains (from_list es)))

  all-cons : (e : Stamped) (es : List Stamped) → all_of (e ∷ es) ≡ g (plain e) ∷ all_of es
  all-cons e es = ap to_list (goes_on (plain e) (plains (from_list es)))

  -- an element stays
  pub stays : (es all : List Stamped) (k : ℕ) (e : Stamped) (ts : List Tree) → k < length es → e ≡ get_or es k e → length all ≤ k → plain e ≡ g (plain e)
      → ts ≡ trees (all ++ drop (length all) (take k es)) ++ all_of (drop k es) → ts ≡ trees (all ++ drop (length all) (take (k + 1) es)) ++ all_of (drop (k + 1) es)
  stays es all k e ts l p few same v =
      let rest = all_of (drop (k + 1) es) in
      let before = all ++ drop (length all) (take k es) in
      let d : drop (length all) (take (k + 1) es) ≡ drop (length all) (take k es) ++ e ∷ [] =
      ap (drop (length all)) (take-next es k e l p) ∙ drop-push (length all) (take k es) e (omega (arith, few, length-taken es k (omega (arith, l)))) in
      v ∙ ap (λ us. trees before ++ all_of us) (next_of es k e l p) ∙ ap (λ us. trees before ++ us) (all-cons e (drop (k + 1) es))
      ∙ ap (λ t. trees before ++ t ∷ rest) (sym same) ∙ sym (trees-push before e rest)
      ∙ ap (λ us. trees us ++ rest) (append_assoc all (drop (length all) (take k es)) (e ∷ []) ∙ ap (λ us. all ++ us) (sym d))

  -- an element is new
  pub changes : (es all caught after : List Stamped) (k : ℕ) (e n : Stamped) (ts : List Tree) → k < length es → e ≡ get_or es k e → length all ≤ k → plain n ≡ g (plain e) → caught ≡ all ++ drop (length all) (take k es) → after ≡ caught ++ n ∷ []
      → ts ≡ trees (all ++ drop (length all) (take k es)) ++ all_of (drop k es) → ts ≡ trees (after ++ drop (length after) (take (k + 1) es)) ++ all_of (drop (k + 1) es)
  changes es all caught after k e n ts l p few made c a v =
      let rest = all_of (drop (k + 1) es) in
      let before = all ++ drop (length all) (take k es) in
      let long : length after ≡ k + 1 = counted all (take k es) caught after k n few (length-taken es k (omega (arith, l))) c a in
      let nothing : drop (length after) (take (k + 1) es) ≡ [] = drop_all (length after) (take (k + 1) es) (omega (arith, long, length-taken es (k + 1) (omega (arith, l)))) in
      v ∙ ap (λ us. trees before ++ all_of us) (next_of es k e l p) ∙ ap (λ us. trees before ++ us) (all-cons e (drop (k + 1) es))
      ∙ ap (λ t. trees before ++ t ∷ rest) (sym made) ∙ sym (trees-push before n rest)
      ∙ ap (λ us. trees (us ++ n ∷ []) ++ rest) (sym c) ∙ ap (λ us. trees us ++ rest) (sym a ∙ sym (append-nil after) ∙ ap (λ us. after ++ us) (sym nothing))

  -- the last element is behind
  pub all-done : (es all new : List Stamped) (k : ℕ) → length es ≤ k → new ≡ all ++ drop (length all) es → to_list (f (plains (from_list es))) ≡ trees (all ++ drop (length all) (take k es)) ++ all_of (drop k es) → plains (from_list new) ≡ f (plains (from_list es))
  all-done es all new k l n v =
      let t : take k es ≡ es = take_all k es l in
      let d : all_of (drop k es) ≡ [] = ap all_of (drop_all k es l) ∙ ap to_list ends in
      let w : to_list (f (plains (from_list es))) ≡ trees new =
      v ∙ ap (λ us. trees (all ++ drop (length all) (take k es)) ++ us) d ∙ append-nil (trees (all ++ drop (length all) (take k es))) ∙ ap (λ us. trees (all ++ drop (length all) us)) t ∙ ap trees (sym n) in
      plains_from_list new ∙ ap tree.from_list (sym w) ∙ from_list_to_list (f (plains (from_list es)))

  -- each of the elements fits where all do
  pub each-fits : (es : List Stamped) (k : ℕ) (e : Stamped) → k < length es → e ≡ get_or es k e → AreSmall (f (plains (from_list es))) → IsWithinLimits (g (plain e))
  each-fits [] k e l p s = absurd (omega (arith, l))
  each-fits (d ∷ es) zero e l p s = subst (λ x. IsWithinLimits (g (plain x))) (sym p) (first_fits (g (plain d)) (f (plains (from_list es))) (subst AreSmall (goes_on (plain d) (plains (from_list es))) s))
  each-fits (d ∷ es) (suc k) e l p s = each-fits es k e (omega (arith, l)) p (others_fit (g (plain d)) (f (plains (from_list es))) (subst AreSmall (goes_on (plain d) (plains (from_list es))) s))

-- ---- faults

pub fault_renews : {X : Type 0} (t u : Tree) (d : ExprFault) (before : Result X ExprFault) (r : Result (Option Stamped) ExprFault) → before ≡ Err d → IsErrAnd r (λ y. y ≡ d) → (before ≡ Err Large → ¬ IsWithinLimits u) → IsRenewed t u r
fault_renews t u d before r b h large =
    let p = err_from_is_err_and r h in
    record { tree = subst (λ q. IfOk q (λ o. unwrap_or (option_map plain o) t ≡ u)) (sym (p.1 ∙ ap Err p.2)) tt; large = λ l. large (fault_passed_on d before r b h l) }

pub fault_renews_all : {X : Type 0} (ts : List Stamped) (us : Trees) (d : ExprFault) (before : Result X ExprFault) (r : Result (Option (Vec Stamped Global)) ExprFault) → before ≡ Err d → IsErrAnd r (λ y. y ≡ d) → (before ≡ Err Large → ¬ AreSmall us) → AreRenewed ts us r
fault_renews_all ts us d before r b h large =
    let p = err_from_is_err_and r h in
    record { elements = subst (λ q. IfOk q (λ o. plains (from_list (elements_or o ts)) ≡ us)) (sym (p.1 ∙ ap Err p.2)) tt; large = λ l. large (fault_passed_on d before r b h l) }

-- ---- nodes

plain_or : (o : Option Stamped) (e : Stamped) → plain (unwrap_or o e) ≡ unwrap_or (option_map plain o) (plain e)
plain_or None e = refl
plain_or (Some n) e = refl

pub renewed_node : (h : Stamped) (es : List Stamped) (nh : Option Stamped) (na : Option (Vec Stamped Global)) (r : Result (Option Stamped) ExprFault) (t u k : Tree) (us : Trees) → node (plain h) (plains (from_list es)) ≡ t → node k us ≡ u
    → unwrap_or (option_map plain nh) (plain h) ≡ k → plains (from_list (elements_or na es)) ≡ us → IsRenewed (applied (plain h) (trees es)) (applied (plain (unwrap_or nh h)) (trees (elements_or na es))) r → IsRenewed t u r
renewed_node h es nh na r t u k us p q head args m =
    let a : applied (plain h) (trees es) ≡ t = ap (node (plain h)) (sym (plains_from_list es)) ∙ p in
    let b : applied (plain (unwrap_or nh h)) (trees (elements_or na es)) ≡ u = (λ i. node ((plain_or nh h ∙ head) i) ((sym (plains_from_list (elements_or na es)) ∙ args) i)) ∙ q in
    subst (λ x. IsRenewed x u r) a (subst (λ y. IsRenewed (applied (plain h) (trees es)) y r) b m)

pub fill_node : (vs : Values) (h : Tree) (ts : Trees) → node (fill vs h) (fill_elements vs h ts) ≡ fill vs (node h ts)
fill_node vs h ts = go (parameters h ts)
  where
    go : (o : Option (List Name)) → node (fill vs h) (elim o [ None ↦ fill_all vs ts | Some xs ↦ fill_scope vs (inside xs vs ts) ts ])
        ≡ (elim o [ None ↦ node (fill vs h) (fill_all vs ts) | Some xs ↦ node (fill vs h) (fill_scope vs (inside xs vs ts) ts) ])
    go None = refl
    go (Some xs) = refl

pub elements_in_scope : (vs : Values) (h : Tree) (ts : Trees) (us : List Tree) → Some us ≡ symbols_in (parameters h ts) → fill_scope vs (inside (names_in us) vs ts) ts ≡ fill_elements vs h ts
elements_in_scope vs h ts us e = sym (ap (λ o. elim o [ None ↦ fill_all vs ts | Some xs ↦ fill_scope vs (inside xs vs ts) ts ]) (known_parameters us (parameters h ts) e))

pub elements_in_node : (vs : Values) (h : Tree) (ts : Trees) → ◌≡◌ {A = Option (List Tree)} None (symbols_in (parameters h ts)) → fill_all vs ts ≡ fill_elements vs h ts
elements_in_node vs h ts e = sym (ap (λ o. elim o [ None ↦ fill_all vs ts | Some xs ↦ fill_scope vs (inside xs vs ts) ts ]) (no_parameters (parameters h ts) e))

-- ---- scopes

pub among_parts : (a b c : Bool) → (a || c) ≡ true → ((a || b) || c) ≡ true
among_parts true b c h = refl
among_parts false true c h = refl
among_parts false false c h = h

pub scope_among : (es : List Stamped) (k : ℕ) (e : Stamped) → k < length es → e ≡ get_or es k e → has_scope (plain e) ≡ true → have_scopes (plains (from_list es)) ≡ true
scope_among [] k e l p h = absurd (omega (arith, l))
scope_among (d ∷ es) zero e l p h = or_left (has_scope (plain d)) (have_scopes (plains (from_list es))) (ap (λ x. has_scope (plain x)) (sym p) ∙ h)
scope_among (d ∷ es) (suc k) e l p h = or_right (has_scope (plain d)) (have_scopes (plains (from_list es))) (scope_among es k e (omega (arith, l)) p h)

headed : (x y : Name) → bytes_eq x y ≡ true → bytes_eq y x ≡ true
headed x y h = ap (λ z. bytes_eq y z) (one_name x y h) ∙ itself y

scope_head : (x : Name) (t : Tree) (us : List Tree) (f m w : Bool) → bytes_eq x (codes "Function") ≡ f → bytes_eq x (codes "Module") ≡ m → bytes_eq x (codes "With") ≡ w
    → Some us ≡ symbols_in (elim f [ true ↦ function_names t | false ↦ elim m [ true ↦ names_in_locals (locals names_allowed t) | false ↦ elim w [ true ↦ names_in_locals (locals values_needed t) | false ↦ None ] ] ])
    → ((is_the (codes "Function") (symbol x) || is_the (codes "Module") (symbol x)) || is_the (codes "With") (symbol x)) ≡ true
scope_head x t us true m w p q r e = or_left (bytes_eq (codes "Function") x || bytes_eq (codes "Module") x) (bytes_eq (codes "With") x) (or_left (bytes_eq (codes "Function") x) (bytes_eq (codes "Module") x) (headed x (codes "Function") p))
scope_head x t us false true w p q r e = or_left (bytes_eq (codes "Function") x || bytes_eq (codes "Module") x) (bytes_eq (codes "With") x) (or_right (bytes_eq (codes "Function") x) (bytes_eq (codes "Module") x) (headed x (codes "Module") q))
scope_head x t us false false true p q r e = or_right (bytes_eq (codes "Function") x || bytes_eq (codes "Module") x) (bytes_eq (codes "With") x) (headed x (codes "With") r)
scope_head x t us false false false p q r e = cc

pub scope_is : (h : Tree) (ts : Trees) (us : List Tree) → Some us ≡ symbols_in (parameters h ts) → may_be_scope h ts ≡ true
scope_is (symbol x) (more t (more u none)) us e = scope_head x t us (bytes_eq x (codes "Function")) (bytes_eq x (codes "Module")) (bytes_eq x (codes "With")) refl refl refl e
scope_is (symbol x) none us e = cc
scope_is (symbol x) (more t none) us e = cc
scope_is (symbol x) (more t (more u (more v ts))) us e = cc
scope_is (num n) ts us e = cc
scope_is (text s) ts us e = cc
scope_is (node g vs) ts us e = cc

stand_by : (h t u : Tree) (us : List Tree) → Some us ≡ symbols_in (parameters h (more t (more u none))) → AreParameters (names_in us) (more t (more u none))
stand_by h t u us e vs rs x m = parameter_stands h t u vs rs (names_in us) x (known_parameters us (parameters h (more t (more u none))) e) m

pub are_parameters : (h : Tree) (es : List Stamped) (us : List Tree) → Some us ≡ symbols_in (parameters h (plains (from_list es))) → AreParameters (names_in us) (plains (from_list es))
are_parameters h [] us e = refuted us (parameters h none) (no_scope h) e
are_parameters h (a ∷ []) us e = refuted us (parameters h (more (plain a) none)) (no_scope_of_one h (plain a)) e
are_parameters h (a ∷ b ∷ []) us e = stand_by h (plain a) (plain b) us e
are_parameters h (a ∷ b ∷ d ∷ es) us e = refuted us (parameters h (plains (from_list (a ∷ b ∷ d ∷ es)))) (no_scope_of_more h (plain a) (plain b) (plain d) (plains (from_list es))) e

-- a name that has no value and stands in none
pub record IsClear (vs : Values) (x : Name) : Type 0 where
  pub unvalued : vs x ≡ None
  pub outside : (y : Name) → is_name_among x (value_names (vs y)) ≡ false

none_arrives : (vs : Values) (xs ys : List Name) (x : Name) → IsClear vs x → is_name_among x (arriving ys (without_names xs vs)) ≡ false
none_arrives vs xs [] x c = refl
none_arrives vs xs (y ∷ ys) x c =
    among-append x (value_names (without_names xs vs y)) (arriving ys (without_names xs vs))
    ∙ ap (λ b. b || is_name_among x (arriving ys (without_names xs vs))) (go (is_name_among y xs)) ∙ none_arrives vs xs ys x c
  where
    go : (b : Bool) → is_name_among x (value_names (elim b [ true ↦ None | false ↦ vs y ])) ≡ false
    go true = refl
    go false = c.outside y

-- a scope of whose parameters none has to do with the values
untouched_by : (xs : List Name) (vs : Values) (u : Tree) → ((x : Name) → is_name_among x xs ≡ true → IsClear vs x) → inside_of xs vs u ≡ record { renamed = λ x. None; inner = vs }
untouched_by xs vs u c =
    let arrived = arriving (reached u) (without_names xs vs) in
    let r : (x : Name) → (inside_of xs vs u).renamed x ≡ None = λ x. go x (is_name_among x xs) refl in
    let o : (x : Name) → without_names xs vs x ≡ vs x = λ x. out x (is_name_among x xs) refl in
    λ i. record { renamed = λ x. r x i; inner = λ x. or_else (r x i) (o x i) }
  where
    go : (x : Name) (b : Bool) → is_name_among x xs ≡ b → (inside_of xs vs u).renamed x ≡ None
    go x true p = ap (λ a. elim (is_name_among x xs && a) [ true ↦ Some (symbol (new_name (arriving (reached u) (without_names xs vs) ++ names u) x)) | false ↦ None ]) (none_arrives vs xs (reached u) x (c x p)) ∙ no (is_name_among x xs)
      where
        no : (b : Bool) → ◌≡◌ {A = Option Tree} (elim (b && false) [ true ↦ Some (symbol (new_name (arriving (reached u) (without_names xs vs) ++ names u) x)) | false ↦ None ]) None
        no true = refl
        no false = refl
    go x false p = ap (λ b. elim (b && is_name_among x (arriving (reached u) (without_names xs vs))) [ true ↦ Some (symbol (new_name (arriving (reached u) (without_names xs vs) ++ names u) x)) | false ↦ None ]) p

    out : (x : Name) (b : Bool) → is_name_among x xs ≡ b → without_names xs vs x ≡ vs x
    out x true p = ap (λ b. elim b [ true ↦ None | false ↦ vs x ]) p ∙ sym (c x p).unvalued
    out x false p = ap (λ b. elim b [ true ↦ None | false ↦ vs x ]) p

pub untouched : (xs : List Name) (vs : Values) (ts : Trees) → ((x : Name) → is_name_among x xs ≡ true → IsClear vs x) → inside xs vs ts ≡ record { renamed = λ x. None; inner = vs }
untouched xs vs none c = refl
untouched xs vs (more t none) c = refl
untouched xs vs (more t (more u none)) c = untouched_by xs vs u c
untouched xs vs (more t (more u (more v ts))) c = refl

-- ---- two elements

pub two_large : (vs : Values) (i : Inside) (es : List Stamped) (a b : Stamped) → length es ≡ 2 → a ≡ get_or es 0 a → b ≡ get_or es 1 b → AreSmall (fill_scope vs i (plains (from_list es))) → IsWithinLimits (fill_first vs i.renamed (plain a)) × IsWithinLimits (fill i.inner (plain b))
two_large vs i es a b l p q s =
    let w : AreSmall (more (fill_first vs i.renamed (plain a)) (more (fill i.inner (plain b)) none)) = subst (λ ts. AreSmall (fill_scope vs i ts)) (both_of es a b l p q) s in
    (first_fits (fill_first vs i.renamed (plain a)) (more (fill i.inner (plain b)) none) w, first_fits (fill i.inner (plain b)) none (others_fit (fill_first vs i.renamed (plain a)) (more (fill i.inner (plain b)) none) w))

pub too_long_first : (vs : Values) (xs : List Name) (es : List Stamped) (a b : Stamped) → length es ≡ 2 → a ≡ get_or es 0 a → b ≡ get_or es 1 b → AreParameters xs (plains (from_list es)) → OneTooLong xs (inside_of xs vs (plain b)).renamed → ¬ AreSmall (fill_scope vs (inside xs vs (plains (from_list es))) (plains (from_list es)))
too_long_first vs xs es a b l p q f o s =
    let e = both_of es a b l p q in
    let w : AreSmall (fill_scope vs (inside_of xs vs (plain b)) (more (plain a) (more (plain b) none))) = subst (λ ts. AreSmall (fill_scope vs (inside xs vs ts) ts)) e s in
    let g : AreParameters xs (more (plain a) (more (plain b) none)) = subst (AreParameters xs) e f in
    let rs = (inside_of xs vs (plain b)).renamed in
    o.large (within_limits (filled_symbol o.name (rs o.name)) (fill_first vs rs (plain a)) (g vs rs o.name o.among) (first_fits (fill_first vs rs (plain a)) (more (fill (inside_of xs vs (plain b)).inner (plain b)) none) w))

pub scope_filled : (vs rs is : Values) (xs : List Name) (es : List Stamped) (a b : Stamped) → length es ≡ 2 → a ≡ get_or es 0 a → b ≡ get_or es 1 b → ((x : Name) → rs x ≡ (inside_of xs vs (plain b)).renamed x) → AgreeOn (reached (plain b)) is (inside_of xs vs (plain b)).inner
    → fill_scope vs (record { renamed = rs; inner = is }) (plains (from_list es)) ≡ fill_scope vs (inside xs vs (plains (from_list es))) (plains (from_list es))
scope_filled vs rs is xs es a b l p q r i =
    let e = both_of es a b l p q in
    ap (fill_scope vs (record { renamed = rs; inner = is })) e
    ∙ (λ j. more (fill_first vs (λ x. r x j) (plain a)) (more (fill-same (plain b) is (inside_of xs vs (plain b)).inner i j) none))
    ∙ sym (ap (λ ts. fill_scope vs (inside xs vs ts) ts) e)

-- both elements, of which some are new
pub both_filled : (vs : Values) (i : Inside) (es new : List Stamped) (a b : Stamped) (f s : Option Stamped) → length es ≡ 2 → a ≡ get_or es 0 a → b ≡ get_or es 1 b → (es ≡ a ∷ b ∷ [] → new ≡ unwrap_or f a ∷ unwrap_or s b ∷ [])
    → unwrap_or (option_map plain f) (plain a) ≡ fill_first vs i.renamed (plain a) → unwrap_or (option_map plain s) (plain b) ≡ fill i.inner (plain b) → plains (from_list new) ≡ fill_scope vs i (plains (from_list es))
both_filled vs i es new a b f s l p q n first second =
    ap (λ us. plains (from_list us)) (n (two_items es a b l p q))
    ∙ (λ j. more ((plain_or f a ∙ first) j) (more ((plain_or s b ∙ second) j) none))
    ∙ sym (ap (fill_scope vs i) (both_of es a b l p q))

pub from_or : (ms : List Stamped) (o : Option Stamped) (e : Stamped) → IsFrom ms e → IfSome o (IsFrom ms) → IsFrom ms (unwrap_or o e)
from_or ms None e f h = f
from_or ms (Some n) e f h = h

pub both_from : (ms es new : List Stamped) (a b : Stamped) (f s : Option Stamped) → length es ≡ 2 → a ≡ get_or es 0 a → b ≡ get_or es 1 b → (es ≡ a ∷ b ∷ [] → new ≡ unwrap_or f a ∷ unwrap_or s b ∷ [])
    → AllFrom ms es → (IsFrom ms a → IfSome f (IsFrom ms)) → (IsFrom ms b → IfSome s (IsFrom ms)) → AllFrom ms new
both_from ms es new a b f s l p q n h first second =
    let e = two_items es a b l p q in
    let w : AllFrom ms (a ∷ b ∷ []) = subst (AllFrom ms) e h in
    let x = All-head (IsFrom ms) a (b ∷ []) w in
    let y = All-head (IsFrom ms) b [] (All-tail (IsFrom ms) a (b ∷ []) w) in
    subst (AllFrom ms) (sym (n e)) (All-cons (IsFrom ms) (unwrap_or f a) (unwrap_or s b ∷ []) (from_or ms f a x (first x)) (All-cons (IsFrom ms) (unwrap_or s b) [] (from_or ms s b y (second y)) (All-nil (IsFrom ms))))

-- ---- `x = v`

pub other_formal : (vs rs : Values) (h : Tree) (es : List Stamped) → (length es ≡ 2 → ⊥) → node h (plains (from_list es)) ≡ fill_formal vs rs (node h (plains (from_list es)))
other_formal vs rs h [] n = refl
other_formal vs rs h (a ∷ []) n = refl
other_formal vs rs h (a ∷ b ∷ []) n = absurd (n refl)
other_formal vs rs h (a ∷ b ∷ d ∷ es) n = refl

pub formal_filled : (vs rs : Values) (h : Tree) (es : List Stamped) (a b : Stamped) → length es ≡ 2 → a ≡ get_or es 0 a → b ≡ get_or es 1 b → node (fill vs h) (more (parameter rs (plain a)) (more (fill vs (plain b)) none)) ≡ fill_formal vs rs (node h (plains (from_list es)))
formal_filled vs rs h es a b l p q = sym (ap (λ ts. fill_formal vs rs (node h ts)) (both_of es a b l p q))

pub setting_filled : (vs rs : Values) (es new : List Stamped) (a b : Stamped) (f s : Option Stamped) → length es ≡ 2 → a ≡ get_or es 0 a → b ≡ get_or es 1 b → (es ≡ a ∷ b ∷ [] → new ≡ unwrap_or f a ∷ unwrap_or s b ∷ [])
    → unwrap_or (option_map plain f) (plain a) ≡ parameter rs (plain a) → unwrap_or (option_map plain s) (plain b) ≡ fill vs (plain b) → plains (from_list new) ≡ more (parameter rs (plain a)) (more (fill vs (plain b)) none)
setting_filled vs rs es new a b f s l p q n first second = ap (λ us. plains (from_list us)) (n (two_items es a b l p q)) ∙ (λ j. more ((plain_or f a ∙ first) j) (more ((plain_or s b ∙ second) j) none))

pub formal_fits : (vs rs : Values) (h : Tree) (es : List Stamped) → length es ≡ 2 → IsWithinLimits (fill_formal vs rs (node h (plains (from_list es)))) → IsWithinLimits (fill vs h)
formal_fits vs rs h [] l w = absurd (omega (arith, l))
formal_fits vs rs h (a ∷ []) l w = absurd (omega (arith, l))
formal_fits vs rs h (a ∷ b ∷ []) l w = head_fits (fill vs h) (more (parameter rs (plain a)) (more (fill vs (plain b)) none)) w
formal_fits vs rs h (a ∷ b ∷ d ∷ es) l w = absurd (omega (arith, l))

pub value_fits : (vs rs : Values) (h : Tree) (es : List Stamped) (b : Stamped) → length es ≡ 2 → b ≡ get_or es 1 b → IsWithinLimits (fill_formal vs rs (node h (plains (from_list es)))) → IsWithinLimits (fill vs (plain b))
value_fits vs rs h [] b l p w = absurd (omega (arith, l))
value_fits vs rs h (a ∷ []) b l p w = absurd (omega (arith, l))
value_fits vs rs h (a ∷ d ∷ []) b l p w =
    let s = args_fit (fill vs h) (more (parameter rs (plain a)) (more (fill vs (plain d)) none)) w in
    subst (λ x. IsWithinLimits (fill vs (plain x))) (sym p) (first_fits (fill vs (plain d)) none (others_fit (parameter rs (plain a)) (more (fill vs (plain d)) none) s))
value_fits vs rs h (a ∷ d ∷ e ∷ es) b l p w = absurd (omega (arith, l))

-- the first element, whatever stands for one that isn't there
pub first_is : (es : List Stamped) (d : Stamped) → length es ≡ 2 → get_or es 0 d ≡ get_or es 0 (get_or es 0 d)
first_is [] d l = absurd (omega (arith, l))
first_is (e ∷ es) d l = refl

pub first_small : (vs : Values) (i : Inside) (es : List Stamped) (a : Stamped) → length es ≡ 2 → a ≡ get_or es 0 a → AreSmall (fill_scope vs i (plains (from_list es))) → IsWithinLimits (fill_first vs i.renamed (plain a))
first_small vs i [] a l p s = absurd (omega (arith, l))
first_small vs i (d ∷ []) a l p s = absurd (omega (arith, l))
first_small vs i (d ∷ e ∷ []) a l p s = subst (λ x. IsWithinLimits (fill_first vs i.renamed (plain x))) (sym p) (first_fits (fill_first vs i.renamed (plain d)) (more (fill i.inner (plain e)) none) s)
first_small vs i (d ∷ e ∷ g ∷ es) a l p s = absurd (omega (arith, l))
