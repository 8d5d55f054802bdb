-- Bindings that are looked up.
use Rattle.std.proofs.lemmas.List.{drop_all}
use Rattle.std.proofs.Common.{None, ◌≤◌, ◌≡◌, ◌<◌, ◌+◌, ℕ, suc, Bool, true, false, arith, List, [], ◌∷◌, ◌++◌, length, get_or, drop, Some, ap, sym, ◌∙◌}
use Rattle.std.proofs.Math.Seq.{drop-cons}
use Rattle.std.specs.Str.{bytes_eq}
use Rattle.wl_expr.specs.Tree.{Tree}
use Rattle.wl_expr.specs.Same.{same_lists}
use Rattle.wl_match.specs.Search.{Entry, bound, Cont, later, guard, bind_on, keep, run_of}
use Rattle.wl_match.specs.Pattern.{also, end}
use Rattle.wl_match.specs.Parts.{pat, pats_of}
use Rattle.wl_match.specs.Runs.{part_at, run_at}
use Rattle.wl_match.specs.Means.{entry_of, entries, name_at, inside, from_child, goal_means}
use Rattle.wl_match.specs.declared.part.Part.{Part}
use Rattle.wl_match.specs.declared.taken.Taken.{Taken}
use Rattle.wl_match.specs.declared.taken.Mark.{Mark}
use Rattle.wl_match.specs.declared.taken.Mark.TheVariants.{Bound}
use Rattle.wl_match.specs.declared.taken.Goal.TheVariants.{Bind}

pub seen : (ss : List Part) (t : Tree) (x : List ℕ) (ms : List Mark) (i : ℕ) (m : Mark) → i < length ms → m ≡ get_or ms i m → run_of x (entry_of ss t m ∷ entries ss t (drop (i + 1) ms)) ≡ run_of x (entries ss t (drop i ms))
seen ss t x ms i m h e =
    ap (λ z. run_of x (entry_of ss t z ∷ entries ss t (drop (i + 1) ms))) e
    ∙ ap (λ z. run_of x (entries ss t (get_or ms i m ∷ drop z ms))) (let k : i + 1 ≡ suc i = omega arith in k)
    ∙ ap (λ z. run_of x (entries ss t z)) (sym (drop-cons ms i m h))

pub bound_here : (ss : List Part) (j : ℕ) (x : List ℕ) (m : Mark) (r : Taken) (b : Bool) → m ≡ Bound j r → b ≡ true → b ≡ bytes_eq x (name_at (part_at ss j)) → (t : Tree) (e : List Entry) → run_of x (entry_of ss t m ∷ e) ≡ Some (run_at ss t r)
bound_here ss j x m r b f g h t e = ap (λ z. run_of x (entry_of ss t z ∷ e)) f ∙ ap (λ z. keep z (run_at ss t r) (run_of x e)) (sym h ∙ g)

pub not_here : (ss : List Part) (j : ℕ) (x : List ℕ) (m : Mark) (r : Taken) (b : Bool) → m ≡ Bound j r → b ≡ false → b ≡ bytes_eq x (name_at (part_at ss j)) → (t : Tree) (e : List Entry) → run_of x (entry_of ss t m ∷ e) ≡ run_of x e
not_here ss j x m r b f g h t e = ap (λ z. run_of x (entry_of ss t z ∷ e)) f ∙ ap (λ z. keep z (run_at ss t r) (run_of x e)) (sym h ∙ g)

pub none_left : (ss : List Part) (t : Tree) (x : List ℕ) (ms : List Mark) (i : ℕ) → length ms ≤ i → run_of x (entries ss t (drop i ms)) ≡ run_of x (entries ss t ms) → None ≡ run_of x (entries ss t ms)
none_left ss t x ms i h g = ap (λ z. run_of x (entries ss t z)) (sym (drop_all i ms h)) ∙ g

pub child_at : (ss : List Part) (i j : ℕ) (xs : List ℕ) → xs ≡ inside ss i → j < length xs → from_child ss i j ≡ also (pat ss (get_or xs j 0)) (from_child ss i (j + 1))
child_at ss i j xs e l =
    ap (λ z. pats_of (pat ss) (drop j z)) (sym e)
    ∙ ap (pats_of (pat ss)) (drop-cons xs j 0 l)
    ∙ ap (λ z. also (pat ss (get_or xs j 0)) (pats_of (pat ss) (drop z xs))) (let k : suc j ≡ j + 1 = omega arith in k)
    ∙ ap (λ z. also (pat ss (get_or xs j 0)) (pats_of (pat ss) (drop (j + 1) z))) e

pub past_child : (ss : List Part) (i j : ℕ) (xs : List ℕ) → xs ≡ inside ss i → length xs ≤ j → from_child ss i j ≡ end
past_child ss i j xs e l = ap (λ z. pats_of (pat ss) (drop j z)) (sym e) ∙ ap (pats_of (pat ss)) (drop_all j xs l)

pub bind_some : (ss : List Part) (t : Tree) (i : ℕ) (r o : Taken) (k : Cont) (ms : List Mark) → Some (run_at ss t o) ≡ run_of (name_at (part_at ss i)) (entries ss t ms) → goal_means ss t (Bind i r) k (entries ss t ms) ≡ guard (same_lists (run_at ss t o) (run_at ss t r)) k (entries ss t ms)
bind_some ss t i r o k ms f = ap (λ z. bind_on z (name_at (part_at ss i)) (run_at ss t r) k (entries ss t ms)) (sym f)

pub bind_none : (ss : List Part) (t : Tree) (i : ℕ) (r : Taken) (k : Cont) (ms : List Mark) → None ≡ run_of (name_at (part_at ss i)) (entries ss t ms) → goal_means ss t (Bind i r) k (entries ss t ms) ≡ later (k (entries ss t ms ++ bound (name_at (part_at ss i)) (run_at ss t r) ∷ []))
bind_none ss t i r k ms f = ap (λ z. bind_on z (name_at (part_at ss i)) (run_at ss t r) k (entries ss t ms)) (sym f)
