-- How rows that evaluate nothing play.
use Rattle.std.proofs.Common.{◌≡◌, true, false, List, [], ◌∷◌, map, Option, Some, None, Result, Ok, Err, IfOk, ◌↔◌, refl, sym, ap, ◌∙◌, subst}
use Rattle.std.proofs.lemmas.List.Elements.{All-nil, All-cons}
use Rattle.std.specs.List.{All}
use Rattle.std.specs.Prelude.{codes}
use Rattle.wl_rules.specs.Stored.{Stored}
use Rattle.wl_state.specs.Honest.{HonestIn}
use Rattle.wl_expr.specs.Stamped as stamped
use Rattle.wl_expr.specs.Stamped.{Stamped, plain, plains, from_list}
use Rattle.wl_expr.specs.Tree.{Tree, IsWithinLimits, node}
use Rattle.wl_expr.specs.Words.{Name, applied, fits, null_symbol}
use Rattle.wl_expr.specs.declared.fault.ExprFault.{ExprFault}
use Rattle.wl_expr.specs.declared.fault.ExprFault.TheVariants as fault
use Rattle.wl_semantics.specs.Prog.{Prog, done, sized}
use Rattle.wl_semantics.specs.BuiltIn.{sized_result}
use Rattle.wl_state.specs.Parts.{sized_row}
use Rattle.wl_state.specs.Played.{Plays, Played, Makes, Honest, found_tree, trees}
use Rattle.wl_state.specs.declared.evaluator.Evaluator.{Evaluator}
use Rattle.wl_state.specs.declared.ends.Stop.{Stop}
use Rattle.wl_state.proofs.Playing.{plays_bind, plays_done}
use Rattle.wl_state.proofs.Rows.{played_bind}
use Rattle.wl_state.proofs.Values.{plains_trees, built_honest}
use Rattle.wl_state.proofs.Fitting.{plays_fits, makes}

-- ---- what a row gives

-- nothing
pub row_none : (p : Prog (Option Tree)) (k k1 : Evaluator) → Plays p k (Ok None) k1 false → Played found_tree (sized_row p) k (Ok None) k1
row_none p k k1 h = (plays_bind p _ h plays_done, tt)

pub row_stays : (p : Prog (Option Tree)) (k : Evaluator) → p ≡ done None → Played found_tree (sized_row p) k (Ok None) k
row_stays p k e = row_none p k k (subst (λ q. Plays q k (Ok None) k false) (sym e) plays_done)

sized_gives : (t : Tree) (k : Evaluator) → fits t ≡ true → Plays (sized_result (Some t)) k (Ok (Some t)) k false
sized_gives t k h = plays_bind (sized t) _ (plays_fits t k h) plays_done

-- an expression that fits
pub row_gives : (p : Prog (Option Tree)) (k k1 : Evaluator) (e : Stamped) → Plays p k (Ok (Some (plain e))) k1 false → fits (plain e) ≡ true → Honest k1 e → Played found_tree (sized_row p) k (Ok (Some e)) k1
row_gives p k k1 e h f g = (plays_bind p _ h (sized_gives (plain e) k1 f), g)

-- Null
pub row_null : (p : Prog (Option Tree)) (k k1 : Evaluator) (e : Stamped) → e ≡ stamped.symbol None (codes "Null") → Plays p k (Ok (Some null_symbol)) k1 false → Played found_tree (sized_row p) k (Ok (Some e)) k1
row_null p k k1 e q h = subst (λ z. Played found_tree (sized_row p) k (Ok (Some z)) k1) (sym q) (row_gives p k k1 (stamped.symbol None (codes "Null")) h refl tt)

-- what has been made, with its size tested
pub row_made : (p : Prog (Option Tree)) (t : Tree) (k k1 : Evaluator) (r : Result (Option Stamped) Stop) (k2 : Evaluator) → Plays p k (Ok (Some t)) k1 false → Played found_tree (sized_result (Some t)) k1 r k2 → Played found_tree (sized_row p) k r k2
row_made p t k k1 r k2 h g = played_bind found_tree p (λ o. sized_result o) k k1 (Some t) r k2 h g

pub row_at : (p q : Prog (Option Tree)) (k : Evaluator) (r : Result (Option Stamped) Stop) (k1 : Evaluator) → p ≡ q → Played found_tree (sized_row q) k r k1 → Played found_tree (sized_row p) k r k1
row_at p q k r k1 e h = subst (λ z. Played found_tree (sized_row z) k r k1) (sym e) h

-- ---- what is made

-- a node
pub made_node : (h : Stamped) (es : List Stamped) (r : Result Stamped ExprFault) → IfOk r (λ e. e ≡ stamped.node None h (from_list es))
    → ((r ≡ Err fault.Large) ↔ ¬ IsWithinLimits (node (plain h) (plains (from_list es)))) → Makes (applied (plain h) (trees es)) r
made_node h es r ok large =
    let same = ap (λ us. node (plain h) us) (plains_trees es) in
    makes (applied (plain h) (trees es)) r (named r ok) (subst (λ t. (r ≡ Err fault.Large) ↔ ¬ IsWithinLimits t) same large)
  where
    named : (q : Result Stamped ExprFault) → IfOk q (λ e. e ≡ stamped.node None h (from_list es)) → IfOk q (λ e. plain e ≡ applied (plain h) (trees es))
    named (Ok e) q = ap plain q ∙ ap (λ us. node (plain h) us) (plains_trees es)
    named (Err e) q = tt

pub made_is : {X : Type 0} (P : X → Type 0) (r : Result X ExprFault) (e : X) → r ≡ Ok e → IfOk r P → P e
made_is P r e q h = subst (λ z. IfOk z P) q h

pub if_ok_more : {X E : Type 0} (r : Result X E) (P Q : X → Type 0) → ((x : X) → P x → Q x) → IfOk r P → IfOk r Q
if_ok_more (Ok x) P Q f p = f x p
if_ok_more (Err e) P Q f p = tt

symbols_honest : (a : Stored) (xs : List Name) → All (HonestIn a) (map (stamped.symbol None) xs)
symbols_honest a [] = All-nil (HonestIn a)
symbols_honest a (x ∷ xs) = All-cons (HonestIn a) (stamped.symbol None x) (map (stamped.symbol None) xs) tt (symbols_honest a xs)

-- a list of symbols
pub list_honest_symbols : (a : Stored) (es : List Stamped) (xs : List Name) (r : Result Stamped ExprFault) → es ≡ map (stamped.symbol None) xs → IfOk r (λ e. e ≡ stamped.node None (stamped.symbol None (codes "List")) (from_list es)) → IfOk r (HonestIn a)
list_honest_symbols a es xs r q h =
    if_ok_more r (λ e. e ≡ stamped.node None (stamped.symbol None (codes "List")) (from_list es)) (HonestIn a)
    (λ e w. subst (HonestIn a) (sym w) (built_honest a (stamped.symbol None (codes "List")) es tt (subst (All (HonestIn a)) (sym q) (symbols_honest a xs)))) h
