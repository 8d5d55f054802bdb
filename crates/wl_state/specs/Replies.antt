-- What a row of loops and branches is told, what comes of its questions, and what was set aside of the entry of its iterator's name.
use Rattle.std.specs.Prelude.{◌≡◌, ℕ, ◌+◌, ◌*◌, ◌^◌, ◌≤◌, ⊤, Bool, true, false, List, Option, Some, None, Result, Ok, Err}
use Rattle.wl_control.specs.Asks.{Asks, Caught, value, broke, continued}
use Rattle.wl_control.specs.Cursors.{IsHeldFrom}
use Rattle.wl_control.specs.Pacing.{IsPaced}
use Rattle.wl_control.specs.Places.{AllFrom}
use Rattle.wl_control.specs.Stand.{Question, Answer, start, came, matched, went, Stand, asked, behind, after, IsAwaited, IsTooLarge}
use Rattle.wl_control.specs.declared.cursor.Cursor.{Cursor}
use Rattle.wl_control.specs.declared.place.Ask.{Ask}
use Rattle.wl_control.specs.declared.place.Ask.TheVariants as ask
use Rattle.wl_expr.specs.Passed.{IsFrom}
use Rattle.wl_expr.specs.Stamped.{Stamped, plain}
use Rattle.wl_expr.specs.Words.{Name}
use Rattle.wl_rules.specs.Entries.{map_rules}
use Rattle.wl_rules.specs.StampedRules.{plain_rule}
use Rattle.wl_semantics.specs.Control.{played, finished, give_back_taken}
use Rattle.wl_state.specs.Honest.{Grows}
use Rattle.wl_state.specs.Parts.{sized_row}
use Rattle.wl_state.specs.Played.{Seen, Plays, Played, Leads, Honest, AllHonest, IsTaken, Sound, TooLarge, found_tree}
use Rattle.wl_semantics.specs.Scoping as spec
use Rattle.wl_state.specs.declared.ends.End.{End}
use Rattle.wl_state.specs.declared.ends.End.TheVariants as end
use Rattle.wl_state.specs.declared.ends.Stop.{Stop}
use Rattle.wl_state.specs.declared.ends.Stop.TheVariants.{Memory, Thrown, Aborted, BudgetEnded, Broke, Continued}
use Rattle.wl_state.specs.declared.evaluator.Evaluator.{Evaluator}
use Rattle.wl_state.specs.declared.evaluator.Taken.{Taken}
use Rattle.wl_state.specs.declared.replies.Reply.{Reply}
use Rattle.wl_state.specs.declared.replies.Reply.TheVariants as reply
use Rattle.wl_state.specs.declared.replies.Outcome.{Outcome}
use Rattle.wl_state.specs.declared.replies.Outcome.TheVariants as outcome

-- ---- answers

abbrev pub told_by : Reply → Answer
told_by reply.Start = start
told_by (reply.Value e) = came (value (plain e))
told_by (reply.Matched b) = matched b
told_by reply.Went = went
told_by reply.Broke = came broke
told_by reply.Continued = came continued

abbrev pub HonestReply : Evaluator → Reply → Type 0
HonestReply k (reply.Value e) = Honest k e
HonestReply k r = ⊤

abbrev pub ReplyIsFrom : List Stamped → Reply → Type 0
ReplyIsFrom ms (reply.Value e) = IsFrom ms e
ReplyIsFrom ms r = ⊤

-- what is asked or given is honest
abbrev pub HonestAsk : Evaluator → Ask → Type 0
HonestAsk k (ask.Eval e) = Honest k e
HonestAsk k (ask.Matches e p) = Honest k e × Honest k p
HonestAsk k (ask.Let v) = Honest k v
HonestAsk k ask.Pass = ⊤
HonestAsk k ask.Overflow = ⊤
HonestAsk k (ask.Done e) = Honest k e
HonestAsk k ask.Unchanged = ⊤

-- what a row holds, and what it is told next, has its stamps from honest expressions
pub record Holds (k : Evaluator) (c : Cursor) (r : Reply) : Type 0 where
  pub parts : List Stamped
  pub honest : AllHonest k parts
  pub from : (ms : List Stamped) → AllFrom ms parts → IsHeldFrom ms c × ReplyIsFrom ms r

-- ---- ends where Break and Continue are caught

abbrev pub IsCaught : End → Result Reply Stop → Type 0
IsCaught (end.Value v) r = r ≡ Ok (reply.Value v)
IsCaught (end.Thrown v t) r = r ≡ Err (Thrown v t)
IsCaught end.Aborted r = r ≡ Err Aborted
IsCaught end.BudgetEnded r = r ≡ Err BudgetEnded
IsCaught end.Broke r = r ≡ Ok reply.Broke
IsCaught end.Continued r = r ≡ Ok reply.Continued

abbrev pub caught_of : Reply → Caught
caught_of (reply.Value e) = value (plain e)
caught_of reply.Broke = broke
caught_of r = continued

-- the end of an evaluation as an answer
abbrev pub caught_reply : Seen Reply Caught
caught_reply = record { view = caught_of; good = λ k r. HonestReply k r × (told_by r ≡ came (caught_of r)) }

-- ---- want of memory

abbrev pub is_memory : Stop → Bool
is_memory Memory = true
is_memory (Thrown v t) = false
is_memory Aborted = false
is_memory BudgetEnded = false
is_memory Broke = false
is_memory Continued = false

abbrev pub stops_by_memory : {X : Type 0} → Result X Stop → Bool
stops_by_memory (Ok x) = false
stops_by_memory (Err e) = is_memory e

-- ---- what was set aside

abbrev pub plain_taken : Name → Taken → spec.Taken
plain_taken x t = record { name = x; rules = map_rules plain_rule t.rules }

-- of the entry of this name
abbrev pub set_aside : Option Name → Option Taken → Option spec.Taken
set_aside (Some x) (Some t) = Some (plain_taken x t)
set_aside (Some x) None = None
set_aside None t = None

abbrev pub AreTaken : Evaluator → Option Name → Option Taken → Type 0
AreTaken k (Some x) (Some t) = IsTaken k x t
AreTaken k (Some x) None = ⊤
AreTaken k None t = ⊤

-- what was set aside can be given back
pub record Ready (x : Option Name) (k k' : Evaluator) (t : Option Taken) : Type 0 where
  pub sound : Sound k'
  pub taken : AreTaken k' x t
  pub grows : Grows k.store k'.store

-- ---- questions

-- this is what is asked, and the row waits so
pub record IsPosed (a : Asks) (q : Question) (s : Stand) : Type 0 where
  pub question : asked a ≡ Some q
  pub stands : s ≡ behind a
  pub fits : ¬ IsTooLarge a

-- once what was set aside is given back, the whole row has been played
abbrev pub Finishes : Option Name → Asks → Evaluator → Result (Option Stamped) Stop → Evaluator → Option Taken → Type 0
Finishes x row k r k' t = (k2 : Evaluator) → Plays (give_back_taken (set_aside x t)) k' (Ok tt) k2 false → Played found_tree (sized_row (finished x row)) k r k2

-- the row goes on with an answer of the kind that it waits for
pub record Goes (x : Option Name) (row : Asks) (k : Evaluator) (s : Stand) (r : Reply) (k' : Evaluator) (t : Option Taken) : Type 0 where
  pub leads : Leads (played x None row) k (played x (set_aside x t) (after s (told_by r))) k'
  pub awaited : IsAwaited s (told_by r)
  pub honest : HonestReply k' r

-- what comes of a question
abbrev pub Comes : Option Name → Asks → Evaluator → Stand → Result Outcome Stop → Evaluator → Option Taken → Type 0
Comes x row k s (Ok (outcome.Goes r)) k' t = Goes x row k s r k' t
Comes x row k s (Ok (outcome.Ends o)) k' t = Finishes x row k (Ok o) k' t
Comes x row k s (Err e) k' t = Finishes x row k (Err e) k' t

-- between two passes a row asks at most so often, and that is a count that fits
pub record IsBounded (a : Asks) : Type 0 where
  pub most : ℕ
  pub small : most + 2 ≤ 2 ^ 64
  pub paced : IsPaced most most a

-- so many questions were answered, since there were so many steps, and what is left has fewer before its next pass than the steps pay for
pub record Proceeds (answered from steps : ℕ) (a : Asks) : Type 0 where
  pub most : ℕ
  pub few : ℕ
  pub small : most + 2 ≤ 2 ^ 64
  pub paced : IsPaced most few a
  pub room : answered + few + (most + 1) * steps ≤ most + (most + 1) * from

-- the row has come to what is too large
abbrev pub IsRefused : Asks → Evaluator → Stop → Evaluator → Type 0
IsRefused a k e k' = is_memory e ≡ false → IsTooLarge a × TooLarge k e k'
