-- Worked rows of the definition.
use Rattle.std.proofs.Common.{◌≡◌, true, [], ◌∷◌, Some, refl}
use Rattle.std.specs.Prelude.{codes}
use Rattle.wl_expr.specs.Tree.{Tree, symbol}
use Rattle.wl_expr.specs.Words.{form, list_of, natural, null_symbol, true_symbol, false_symbol}
use Rattle.wl_control.specs.Asks.{Asks, gives, stays, value, broke, continued}
use Rattle.wl_control.specs.Branches.{if_row, which_row, switch_row, and_row, or_row, compound_row}
use Rattle.wl_control.specs.Families.{nest_list_from, select_row, nest_list_row}
use Rattle.wl_control.specs.Iterators.{do_from, do_row, table_row}
use Rattle.wl_control.specs.Loops.{loop_from, while_row, for_row}
use Rattle.wl_control.specs.Stand.{after, asked, assign, behind, came, evaluate, matched, test, begin_pass, went}

abbrev a : Tree
a = symbol (codes "a")

abbrev b : Tree
b = symbol (codes "b")

abbrev c : Tree
c = symbol (codes "c")

abbrev d : Tree
d = symbol (codes "d")

-- the first question, and what an answer to it leads to
if_true : if_row (true_symbol ∷ a ∷ b ∷ []) ≡ gives a
if_true = refl

if_false : if_row (false_symbol ∷ a ∷ []) ≡ gives null_symbol
if_false = refl

if_other : if_row (c ∷ a ∷ b ∷ d ∷ []) ≡ gives d
if_other = refl

which_asks : asked (which_row (c ∷ a ∷ d ∷ b ∷ [])) ≡ Some (evaluate c)
which_asks = refl

which_goes_on : asked (after (behind (which_row (c ∷ a ∷ d ∷ b ∷ []))) (came (value false_symbol))) ≡ Some (evaluate d)
which_goes_on = refl

which_stays : after (behind (which_row (c ∷ a ∷ []))) (came (value b)) ≡ stays
which_stays = refl

switch_asks_match : asked (after (behind (switch_row (a ∷ b ∷ c ∷ []))) (came (value d))) ≡ Some (test a d)
switch_asks_match = refl

switch_gives : after (behind (after (behind (switch_row (a ∷ b ∷ c ∷ []))) (came (value d)))) (matched true) ≡ gives c
switch_gives = refl

and_leaves : after (behind (after (behind (and_row (a ∷ b ∷ []))) (came (value c)))) (came (value d)) ≡ gives (form (codes "And") (c ∷ d ∷ []))
and_leaves = refl

or_ends : after (behind (or_row (a ∷ b ∷ []))) (came (value true_symbol)) ≡ gives true_symbol
or_ends = refl

compound_gives_last : after (behind (compound_row (a ∷ b ∷ []))) (came (value c)) ≡ gives b
compound_gives_last = refl

while_begins : asked (while_row (a ∷ b ∷ [])) ≡ Some begin_pass
unfolding loop_from
while_begins = refl

while_asks : asked (after (behind (while_row (a ∷ b ∷ []))) went) ≡ Some (evaluate a)
unfolding loop_from
while_asks = refl

while_ends : after (behind (after (behind (while_row (a ∷ b ∷ []))) went)) (came broke) ≡ gives null_symbol
unfolding loop_from
while_ends = refl

-- Continue in the condition of a For leads to its step
for_goes_to_step : asked (after (behind (after (behind (after (behind (for_row (a ∷ b ∷ c ∷ d ∷ []))) (came (value a)))) went)) (came continued)) ≡ Some (evaluate c)
unfolding loop_from
for_goes_to_step = refl

select_takes : after (behind (after (behind (select_row (form (codes "g") (a ∷ []) ∷ b ∷ []))) went)) (came (value true_symbol)) ≡ gives (form (codes "g") (a ∷ []))
select_takes = refl

nest_list_gives : after (behind (after (behind (nest_list_row (a ∷ b ∷ natural 1 ∷ []))) went)) (came (value c)) ≡ gives (list_of (b ∷ c ∷ []))
unfolding nest_list_from
nest_list_gives = refl

-- ---- iterators: the bounds, the pass, the value and the body in turn

abbrev do_bound : Asks
do_bound = do_row (b ∷ list_of (a ∷ c ∷ []) ∷ [])

do_asks_bound : asked do_bound ≡ Some (evaluate c)
do_asks_bound = refl

do_begins : asked (after (behind do_bound) (came (value (natural 1)))) ≡ Some begin_pass
unfolding do_from
do_begins = refl

do_sets : asked (after (behind (after (behind do_bound) (came (value (natural 1))))) went) ≡ Some (assign (natural 1))
unfolding do_from
do_sets = refl

do_ends : after (behind (after (behind (after (behind (after (behind do_bound) (came (value (natural 1))))) went)) went)) (came (value d)) ≡ gives null_symbol
unfolding do_from
do_ends = refl

table_stays : after (behind (table_row (b ∷ list_of (a ∷ []) ∷ []))) (came (value c)) ≡ stays
table_stays = refl
