-- What the place of a row stands for, and the expressions that it holds.
use Rattle.std.specs.Prelude.{◌≡◌, ◌<◌, ◌≤◌, ⊤, Bool, List, [], ◌∷◌, ◌++◌, map, option_map, Option, Some, None, Result, Err, IfOk, codes, if◌then◌else◌}
use Rattle.std.specs.List.{All}
use Rattle.wl_exact.specs.Fraction.{Fraction}
use Rattle.wl_exact.specs.Span as span
use Rattle.wl_exact.specs.Span.{next, ended, overflowed, first, following}
use Rattle.wl_expr.specs.Passed.{IsFrom}
use Rattle.wl_expr.specs.Stamped.{Stamped, plain}
use Rattle.wl_expr.specs.Tree.{Tree, IsWithinLimits}
use Rattle.wl_expr.specs.Same.{same}
use Rattle.wl_expr.specs.Words.{applied, is_true, list_of, null_symbol}
use Rattle.wl_expr.specs.declared.fault.ExprFault.{ExprFault}
use Rattle.wl_expr.specs.declared.fault.ExprFault.TheVariants.{Large}
use Rattle.wl_control.specs.Asks.{Asks, gives, stays, eval, eval_catching, matches, endless, alone_or, by_truth, Caught, value, broke, continued}
use Rattle.wl_control.specs.Branches.{which_from, switch_from, left_over, joined, conjunction, disjunction, compound_row}
use Rattle.wl_control.specs.Collected.{collected, total_weight}
use Rattle.wl_control.specs.Families.{select_from, scan_from, fold_from, fold_list_from, nest_from, nest_list_from, fixed_point_from}
use Rattle.wl_control.specs.Iterators.{Iterator, iterator, iterate, bounds, with_value, do_from, table_from}
use Rattle.wl_control.specs.Loops.{loop_from, part, after_condition, after_part}
use Rattle.wl_control.specs.Stand.{Question, evaluate, test, assign, begin_pass, overflow, result, unchanged, Answer, start, came, matched, went, Stand, starts, for_value, for_end, for_match, for_leave, over, asked, behind, IsTooLarge}
use Rattle.wl_control.specs.declared.place.Ask.{Ask}
use Rattle.wl_control.specs.declared.place.Ask.TheVariants as ask
use Rattle.wl_control.specs.declared.place.Caught as code
use Rattle.wl_control.specs.declared.place.Caught.TheVariants as caught
use Rattle.wl_control.specs.declared.place.Last.{Last}
use Rattle.wl_control.specs.declared.place.Last.TheVariants as last
use Rattle.wl_control.specs.declared.place.Step.{Step}
use Rattle.wl_control.specs.declared.place.Place.{Place}
use Rattle.wl_control.specs.declared.place.Place.TheVariants as place
use Rattle.wl_control.specs.declared.place.Row.{Row}
use Rattle.wl_control.specs.declared.place.Row.TheVariants as row
use Rattle.wl_control.specs.declared.place.Valued.{Valued}
use Rattle.wl_control.specs.declared.place.Valued.TheVariants as valued
use Rattle.wl_control.specs.declared.place.Ended.{Ended}
use Rattle.wl_control.specs.declared.place.Ended.TheVariants as end
use Rattle.wl_control.specs.declared.place.Bounds.{Bounds}
use Rattle.wl_control.specs.declared.place.Iteration.{Iteration}
use Rattle.wl_control.specs.declared.place.Passes.{Passes}
use Rattle.wl_control.specs.declared.place.Span.{Span}
use Rattle.wl_control.specs.declared.place.Following as code_following
use Rattle.wl_control.specs.declared.place.Following.TheVariants as further
use Rattle.wl_control.specs.declared.place.Loop.{Loop}
use Rattle.wl_control.specs.declared.place.Left.{Left}
use Rattle.wl_control.specs.declared.place.Left.TheVariants as left
use Rattle.wl_control.specs.declared.place.Call.{Call}
use Rattle.wl_control.specs.declared.place.Fold.{Fold}
use Rattle.wl_control.specs.declared.place.Select.{Select}
use Rattle.wl_control.specs.declared.place.Switch.{Switch}
use Rattle.wl_control.specs.declared.place.Junction.{Junction}
use Rattle.wl_control.specs.declared.place.Connective.{Connective}
use Rattle.wl_control.specs.declared.place.Connective.TheVariants.{And, Or}

-- ---- questions and answers, stamps apart

abbrev pub plain_ask : Ask → Question
plain_ask (ask.Eval e) = evaluate (plain e)
plain_ask (ask.Matches e p) = test (plain e) (plain p)
plain_ask (ask.Let v) = assign (plain v)
plain_ask ask.Pass = begin_pass
plain_ask ask.Overflow = overflow
plain_ask (ask.Done e) = result (plain e)
plain_ask ask.Unchanged = unchanged

abbrev pub plain_caught : code.Caught → Caught
plain_caught (caught.Value e) = value (plain e.now)
plain_caught caught.Broke = broke
plain_caught caught.Continued = continued

abbrev pub told : Last → Answer
told last.Start = start
told (last.Value e) = came (value (plain e.now))
told (last.Matched b) = matched b
told last.Went = went
told last.Broke = came broke
told last.Continued = came continued

-- ---- what a place stands for

abbrev pub trees : List Stamped → List Tree
trees ts = map plain ts

abbrev pub junction_by : Connective → List Tree → List Tree → Asks
junction_by And left es = conjunction left es
junction_by Or left es = disjunction left es

abbrev pub left_by : Connective → List Tree → Tree
left_by And left = left_over (codes "And") (codes "True") left
left_by Or left = left_over (codes "Or") (codes "False") left

abbrev pub junction_asks : Junction → Asks
junction_asks j = junction_by j.connective (trees j.left.items) (trees j.rest.items)

abbrev pub switch_asks : Switch → Bool → Asks
switch_asks s b = if b then gives (plain s.chosen) else switch_from (plain s.subject) (trees s.rest.items)

abbrev pub loop_asks : Loop → Asks
loop_asks l = loop_from l.passes (plain l.condition) (option_map plain l.body) (option_map plain l.step)

-- what comes with the step of a loop, with its body and with its condition
abbrev pub step_asks : Loop → Asks
step_asks l = part (option_map plain l.step) (loop_asks l)

abbrev pub body_asks : Loop → Asks
body_asks l = part (option_map plain l.body) (step_asks l)

abbrev pub condition_asks : Loop → Asks
condition_asks l = eval_catching (plain l.condition) (λ u. after_condition u (body_asks l) (step_asks l))

-- ---- iterators

abbrev pub plain_span : Span → span.Span
plain_span s = record { from = s.from; to = s.to; by = s.by }

abbrev pub following_of : code_following.Following → span.Following
following_of (further.Next v) = next v
following_of further.Ended = ended
following_of further.Overflowed = overflowed

abbrev pub plain_iterator : Iteration → Iterator
plain_iterator i = record { named = i.named; bounds = trees i.bounds.items }

-- the passes of Do, which collects nothing, or of Table
abbrev pub do_asks : Passes → span.Following → Asks
do_asks p w = do_from p.passes p.named (plain_span p.span) (alone_or (codes "Do") (trees p.body.items)) w

abbrev pub table_asks : Passes → List Tree → span.Following → Asks
table_asks p found w = table_from p.passes p.named (plain_span p.span) (alone_or (codes "Table") (trees p.body.items)) found w

abbrev pub passes_asks : Passes → Option (List Stamped) → span.Following → Asks
passes_asks p None w = do_asks p w
passes_asks p (Some found) w = table_asks p (trees found) w

-- what the end of the body leads to
abbrev pub do_again : Passes → Fraction → Caught → Asks
do_again p v u = after_part u (do_asks p (following (plain_span p.span) v))

abbrev pub table_again : Passes → List Stamped → Fraction → Tree → Asks
table_again p found v w = collected (trees found ++ w ∷ []) (λ more. table_asks p more (following (plain_span p.span) v))

-- a pass at its body, and where its value is set
abbrev pub pass_asks : Passes → Option (List Stamped) → Fraction → Asks
pass_asks p None v = eval_catching (alone_or (codes "Do") (trees p.body.items)) (do_again p v)
pass_asks p (Some found) v = eval (alone_or (codes "Table") (trees p.body.items)) (table_again p found v)

abbrev pub setting_asks : Passes → Option (List Stamped) → Fraction → Asks
setting_asks p o v = with_value p.named v (pass_asks p o v)

abbrev pub over_asks : Option (List Stamped) → Asks
over_asks None = gives null_symbol
over_asks (Some found) = gives (list_of (trees found))

-- all passes, once the bounds have values
abbrev pub span_asks : Bool → List Tree → Option (List Stamped) → span.Span → Asks
span_asks named es None s = do_from endless named s (alone_or (codes "Do") es) (first s)
span_asks named es (Some found) s = table_from endless named s (alone_or (codes "Table") es) (trees found) (first s)

abbrev pub bounds_asks : Bounds → Asks
bounds_asks b = bounds (trees b.known.items) (trees b.rest.items) (span_asks b.named (trees b.body.items) b.found)

abbrev pub bound_asks : Bounds → Tree → Asks
bound_asks b v = bounds (trees b.known.items ++ v ∷ []) (trees b.rest.items) (span_asks b.named (trees b.body.items) b.found)

-- Do or Table of these elements
abbrev pub iterated_row : Option (List Stamped) → List Tree → Asks
iterated_row o (e ∷ it ∷ its) = iterate (iterator it) (λ named s. span_asks named (e ∷ its) o s)
iterated_row o es = stays

-- ---- each place

-- what the value of an element of And or Or leads to
abbrev pub joined_by : Connective → List Tree → List Tree → Tree → Asks
joined_by And left es v = joined (codes "False") (codes "True") left v (λ more. conjunction more es)
joined_by Or left es v = joined (codes "True") (codes "False") left v (λ more. disjunction more es)

-- what the value of the test of an element leads to
abbrev pub selected_asks : Select → Tree → Tree → Asks
selected_asks s x v =
    if is_true v then select_from (plain s.head) (plain s.test) (trees s.selected.items ++ x ∷ []) (trees s.rest.items)
    else select_from (plain s.head) (plain s.test) (trees s.selected.items) (trees s.rest.items)

abbrev pub row_asks : Row → Asks
row_asks row.Stays = stays
row_asks (row.Gives e) = gives (plain e)
row_asks (row.Which es) = which_from (trees es.items)
row_asks (row.Switch e es) = switch_from (plain e) (trees es.items)
row_asks (row.Junction j) = junction_asks j
row_asks (row.Compound e es) = compound_row (plain e ∷ trees es.items)
row_asks (row.While l) = loop_asks l
row_asks (row.For s l) = eval (plain s) (λ v. loop_asks l)
row_asks (row.Iterate b) = bounds_asks b
row_asks (row.Select s) = select_from (plain s.head) (plain s.test) (trees s.selected.items) (trees s.rest.items)
row_asks (row.Scan f) = scan_from (plain f.function) (trees f.rest.items)
row_asks (row.Fold f v) = fold_from (plain f.function) (plain v) (trees f.rest.items)
row_asks (row.FoldList f found v) = fold_list_from (plain f.function) (trees found) (plain v) (trees f.rest.items)
row_asks (row.Nest n v) = nest_from (plain n.function) (plain v) n.passes
row_asks (row.NestList n found v) = nest_list_from (plain n.function) (trees found) (plain v) n.passes
row_asks (row.FixedPoint n v) = fixed_point_from n.passes (plain n.function) (plain v)

abbrev pub value_asks : Valued → Tree → Asks
value_asks (valued.Which v es) u = by_truth u (gives (plain v)) (which_from (trees es.items)) stays
value_asks (valued.Switch s) q = matches (plain s.subject) q (switch_asks s)
value_asks (valued.Junction j) v = joined_by j.connective (trees j.left.items) (trees j.rest.items) v
value_asks (valued.Compound e es) v = compound_row (plain e ∷ trees es.items)
value_asks (valued.For l) v = loop_asks l
value_asks (valued.Bound b) v = bound_asks b v
value_asks (valued.Table p found v) w = table_again p found v w
value_asks (valued.Select s e) v = selected_asks s (plain e) v
value_asks (valued.Scan f) v = scan_from (plain f.function) (trees f.rest.items)
value_asks (valued.Fold f) w = fold_from (plain f.function) w (trees f.rest.items)
value_asks (valued.FoldList f found) w = collected (trees found ++ w ∷ []) (λ more. fold_list_from (plain f.function) more w (trees f.rest.items))
value_asks (valued.Nest n) w = nest_from (plain n.function) w n.passes
value_asks (valued.NestList n found) w = collected (trees found ++ w ∷ []) (λ more. nest_list_from (plain n.function) more w n.passes)
value_asks (valued.FixedPoint n v) w = if same w (plain v) then gives (plain v) else fixed_point_from n.passes (plain n.function) w

abbrev pub end_asks : Ended → Caught → Asks
end_asks (end.Condition l) u = after_condition u (body_asks l) (step_asks l)
end_asks (end.Body l) u = after_part u (step_asks l)
end_asks (end.Step l) u = after_part u (loop_asks l)
end_asks (end.Do p v) u = do_again p v u

abbrev pub call_tree : Call → Tree
call_tree c = applied (plain c.function) (trees c.args.items)

abbrev pub call_asks : Call → Valued → Asks
call_asks c v = eval (call_tree c) (value_asks v)

abbrev pub left_asks : Left → Asks
left_asks (left.Condition l) = condition_asks l
left_asks (left.Call c v) = call_asks c v
left_asks (left.Iterate p o v) = setting_asks p o v
left_asks (left.Set p o v) = pass_asks p o v

abbrev pub stand_at : Place → Stand
stand_at (place.Start r) = starts (row_asks r)
stand_at (place.Value v) = for_value (value_asks v)
stand_at (place.End e) = for_end (end_asks e)
stand_at (place.Match s) = for_match (switch_asks s)
stand_at (place.Leave l) = for_leave (λ _. left_asks l)
stand_at place.Over = over

-- the step is what is asked next, which isn't too large; and Large comes only where it is
pub record IsAnswer (a : Asks) (r : Result Step ExprFault) : Type 0 where
  pub next : IfOk r (λ s. (asked a ≡ Some (plain_ask s.ask)) × (stand_at s.place ≡ behind a) × ¬ IsTooLarge a)
  pub large : r ≡ Err Large → IsTooLarge a

-- the expression is this tree, and Large comes only where that is too large
pub record IsMade (t : Tree) (r : Result Stamped ExprFault) : Type 0 where
  pub tree : IfOk r (λ e. plain e ≡ t)
  pub large : r ≡ Err Large → ¬ IsWithinLimits t

-- the values are these trees, which aren't too heavy; and Large comes only where they are
pub record IsCollected (ts : List Tree) (r : Result (List Stamped) ExprFault) : Type 0 where
  pub values : IfOk r (λ f. trees f ≡ ts)
  pub light : IfOk r (λ f. total_weight ts ≤ 4000000)
  pub large : r ≡ Err Large → 4000000 < total_weight ts

-- ---- what a place holds

abbrev pub AskIsFrom : List Stamped → Ask → Type 0
AskIsFrom ms (ask.Eval e) = IsFrom ms e
AskIsFrom ms (ask.Matches e p) = IsFrom ms e × IsFrom ms p
AskIsFrom ms (ask.Let v) = IsFrom ms v
AskIsFrom ms ask.Pass = ⊤
AskIsFrom ms ask.Overflow = ⊤
AskIsFrom ms (ask.Done e) = IsFrom ms e
AskIsFrom ms ask.Unchanged = ⊤

abbrev pub LastIsFrom : List Stamped → Last → Type 0
LastIsFrom ms (last.Value e) = IsFrom ms e.now
LastIsFrom ms l = ⊤

abbrev pub AllFrom : List Stamped → List Stamped → Type 0
AllFrom ms ts = All (IsFrom ms) ts

abbrev pub JunctionIsFrom : List Stamped → Junction → Type 0
JunctionIsFrom ms j = AllFrom ms j.left.items × AllFrom ms j.rest.items

abbrev pub SwitchIsFrom : List Stamped → Switch → Type 0
SwitchIsFrom ms s = IsFrom ms s.subject × IsFrom ms s.chosen × AllFrom ms s.rest.items

abbrev pub OptionIsFrom : List Stamped → Option Stamped → Type 0
OptionIsFrom ms None = ⊤
OptionIsFrom ms (Some e) = IsFrom ms e

abbrev pub LoopIsFrom : List Stamped → Loop → Type 0
LoopIsFrom ms l = IsFrom ms l.condition × OptionIsFrom ms l.body × OptionIsFrom ms l.step

abbrev pub FoldIsFrom : List Stamped → Fold → Type 0
FoldIsFrom ms f = IsFrom ms f.function × AllFrom ms f.rest.items

abbrev pub SelectIsFrom : List Stamped → Select → Type 0
SelectIsFrom ms s = IsFrom ms s.head × IsFrom ms s.test × AllFrom ms s.selected.items × AllFrom ms s.rest.items

abbrev pub CallIsFrom : List Stamped → Call → Type 0
CallIsFrom ms c = IsFrom ms c.function × AllFrom ms c.args.items

abbrev pub FoundIsFrom : List Stamped → Option (List Stamped) → Type 0
FoundIsFrom ms None = ⊤
FoundIsFrom ms (Some found) = AllFrom ms found

abbrev pub BoundsAreFrom : List Stamped → Bounds → Type 0
BoundsAreFrom ms b = AllFrom ms b.body.items × FoundIsFrom ms b.found × AllFrom ms b.known.items × AllFrom ms b.rest.items

abbrev pub PassesAreFrom : List Stamped → Passes → Type 0
PassesAreFrom ms p = AllFrom ms p.body.items

abbrev pub RowIsFrom : List Stamped → Row → Type 0
RowIsFrom ms row.Stays = ⊤
RowIsFrom ms (row.Gives e) = IsFrom ms e
RowIsFrom ms (row.Which es) = AllFrom ms es.items
RowIsFrom ms (row.Switch e es) = IsFrom ms e × AllFrom ms es.items
RowIsFrom ms (row.Junction j) = JunctionIsFrom ms j
RowIsFrom ms (row.Compound e es) = IsFrom ms e × AllFrom ms es.items
RowIsFrom ms (row.While l) = LoopIsFrom ms l
RowIsFrom ms (row.For s l) = IsFrom ms s × LoopIsFrom ms l
RowIsFrom ms (row.Iterate b) = BoundsAreFrom ms b
RowIsFrom ms (row.Select s) = SelectIsFrom ms s
RowIsFrom ms (row.Scan f) = FoldIsFrom ms f
RowIsFrom ms (row.Fold f v) = FoldIsFrom ms f × IsFrom ms v
RowIsFrom ms (row.FoldList f found v) = FoldIsFrom ms f × AllFrom ms found × IsFrom ms v
RowIsFrom ms (row.Nest n v) = IsFrom ms n.function × IsFrom ms v
RowIsFrom ms (row.NestList n found v) = IsFrom ms n.function × AllFrom ms found × IsFrom ms v
RowIsFrom ms (row.FixedPoint n v) = IsFrom ms n.function × IsFrom ms v

abbrev pub ValuedIsFrom : List Stamped → Valued → Type 0
ValuedIsFrom ms (valued.Which v es) = IsFrom ms v × AllFrom ms es.items
ValuedIsFrom ms (valued.Switch s) = SwitchIsFrom ms s
ValuedIsFrom ms (valued.Junction j) = JunctionIsFrom ms j
ValuedIsFrom ms (valued.Compound e es) = IsFrom ms e × AllFrom ms es.items
ValuedIsFrom ms (valued.For l) = LoopIsFrom ms l
ValuedIsFrom ms (valued.Bound b) = BoundsAreFrom ms b
ValuedIsFrom ms (valued.Table p found v) = PassesAreFrom ms p × AllFrom ms found
ValuedIsFrom ms (valued.Select s e) = SelectIsFrom ms s × IsFrom ms e
ValuedIsFrom ms (valued.Scan f) = FoldIsFrom ms f
ValuedIsFrom ms (valued.Fold f) = FoldIsFrom ms f
ValuedIsFrom ms (valued.FoldList f found) = FoldIsFrom ms f × AllFrom ms found
ValuedIsFrom ms (valued.Nest n) = IsFrom ms n.function
ValuedIsFrom ms (valued.NestList n found) = IsFrom ms n.function × AllFrom ms found
ValuedIsFrom ms (valued.FixedPoint n v) = IsFrom ms n.function × IsFrom ms v

abbrev pub EndedIsFrom : List Stamped → Ended → Type 0
EndedIsFrom ms (end.Condition l) = LoopIsFrom ms l
EndedIsFrom ms (end.Body l) = LoopIsFrom ms l
EndedIsFrom ms (end.Step l) = LoopIsFrom ms l
EndedIsFrom ms (end.Do p v) = PassesAreFrom ms p

abbrev pub LeftIsFrom : List Stamped → Left → Type 0
LeftIsFrom ms (left.Condition l) = LoopIsFrom ms l
LeftIsFrom ms (left.Call c v) = CallIsFrom ms c × ValuedIsFrom ms v
LeftIsFrom ms (left.Iterate p o v) = PassesAreFrom ms p × FoundIsFrom ms o
LeftIsFrom ms (left.Set p o v) = PassesAreFrom ms p × FoundIsFrom ms o

abbrev pub PlaceIsFrom : List Stamped → Place → Type 0
PlaceIsFrom ms (place.Start r) = RowIsFrom ms r
PlaceIsFrom ms (place.Value v) = ValuedIsFrom ms v
PlaceIsFrom ms (place.End e) = EndedIsFrom ms e
PlaceIsFrom ms (place.Match s) = SwitchIsFrom ms s
PlaceIsFrom ms (place.Leave l) = LeftIsFrom ms l
PlaceIsFrom ms place.Over = ⊤

abbrev pub IsPassed : List Stamped → Result Step ExprFault → Type 0
IsPassed ms r = IfOk r (λ s. AskIsFrom ms s.ask × PlaceIsFrom ms s.place)
