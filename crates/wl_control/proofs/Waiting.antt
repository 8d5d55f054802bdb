-- Which answers are waited for behind a question.
use Rattle.std.proofs.Common.{◌≡◌, List, Bool, Option, Some, None, IfSome, subst, sym}
use Rattle.std.specs.Prelude.{option_map}
use Rattle.wl_expr.specs.Tree.{Tree}
use Rattle.wl_control.specs.Asks.{Asks, gives, stays, overflows, too_large, eval, eval_catching, matches, let_be, pass, Caught, value}
use Rattle.wl_control.specs.Table.{Row}
use Rattle.wl_control.specs.Stand.{Question, evaluate, test, assign, begin_pass, start, came, matched, went, Stand, starts, for_value, for_end, for_match, for_leave, over, asked, behind, Catches, IsAwaited, IsAskedBy}

asked_first : (a : Asks) → IfSome (asked a) (λ q. IsAskedBy q (behind a))
asked_first (gives t) = tt
asked_first stays = tt
asked_first overflows = tt
asked_first too_large = tt
asked_first (eval t k) = tt
asked_first (eval_catching t k) = tt
asked_first (matches t p k) = tt
asked_first (let_be v k) = tt
asked_first (pass k) = tt

pub asked_behind : (a : Asks) (q : Question) (s : Stand) → asked a ≡ Some q → s ≡ behind a → IsAskedBy q s
asked_behind a q s e b =
    let here : IsAskedBy q (behind a) = subst (λ (o : Option Question). IfSome o (λ q. IsAskedBy q (behind a))) e (asked_first a) in
    subst (λ (s : Stand). IsAskedBy q s) (sym b) here

pub value_awaited : (s : Stand) (t v : Tree) → IsAskedBy (evaluate t) s → IsAwaited s (came (value v))
value_awaited (starts a) t v h = absurd h
value_awaited (for_value k) t v h = tt
value_awaited (for_end k) t v h = tt
value_awaited (for_match k) t v h = absurd h
value_awaited (for_leave k) t v h = absurd h
value_awaited over t v h = absurd h

pub match_awaited : (s : Stand) (t p : Tree) (b : Bool) → IsAskedBy (test t p) s → IsAwaited s (matched b)
match_awaited (starts a) t p b h = absurd h
match_awaited (for_value k) t p b h = absurd h
match_awaited (for_end k) t p b h = absurd h
match_awaited (for_match k) t p b h = tt
match_awaited (for_leave k) t p b h = absurd h
match_awaited over t p b h = absurd h

pub set_awaited : (s : Stand) (v : Tree) → IsAskedBy (assign v) s → IsAwaited s went
set_awaited (starts a) v h = absurd h
set_awaited (for_value k) v h = absurd h
set_awaited (for_end k) v h = absurd h
set_awaited (for_match k) v h = absurd h
set_awaited (for_leave k) v h = tt
set_awaited over v h = absurd h

pub pass_awaited : (s : Stand) → IsAskedBy begin_pass s → IsAwaited s went
pass_awaited (starts a) h = absurd h
pass_awaited (for_value k) h = absurd h
pass_awaited (for_end k) h = absurd h
pass_awaited (for_match k) h = absurd h
pass_awaited (for_leave k) h = tt
pass_awaited over h = absurd h

pub end_awaited : (s : Stand) (u : Caught) → Catches s → IsAwaited s (came u)
end_awaited (starts a) u h = absurd h
end_awaited (for_value k) u h = absurd h
end_awaited (for_end k) u h = tt
end_awaited (for_match k) u h = absurd h
end_awaited (for_leave k) u h = absurd h
end_awaited over u h = absurd h

pub first_awaited : (s : Stand) (ts : List Tree) (row : Option Row) → Some s ≡ option_map (λ row. starts (row ts)) row → IsAwaited s start
first_awaited s ts None e = cc
first_awaited s ts (Some row) e =
    let same : s ≡ starts (row ts) = cc in
    subst (λ (s : Stand). IsAwaited s start) (sym same) tt
