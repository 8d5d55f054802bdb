-- The worked cells, computed. tools/eval_oracle/worked.py writes this file.
use Rattle.std.proofs.Common.{refl}
use Rattle.wl_laws.specs.Cells.{cells}
use Rattle.wl_laws.specs.WorkedCells.{Symbols, EvaluatedOnce, GivesItself, RuleForAnElement, UpAndSub, Specific, HeldSequence, FirstForm, LateOrderless, OneIdentity, FlatAndOrderless, Fibonacci, ConditionRedefines, BlockedCondition, HiddenCondition, TestBreaks, ConditionMoves, Guard, GuardsWithin, GuardedNoMore, Scopes, NameTwice, BlockIsNoScope, BlockGivesBack, BlockPassesOver, BreakOut, ProtectedWithin, LimitAsIterator, NoIterator, Tables, Caught, QuietThrow, Recursion, Iteration, SixSteps, FiveSteps, EnoughForLeaves, OneLeafTooMany, Messages, Stopped, Checked, Uneven, Refused, ReplacedFirst, CasesByRule, WorkedCells}

pub symbols : Symbols
unfolding cells
symbols = refl

pub evaluatedOnce : EvaluatedOnce
unfolding cells
evaluatedOnce = refl

pub givesItself : GivesItself
unfolding cells
givesItself = refl

pub ruleForAnElement : RuleForAnElement
unfolding cells
ruleForAnElement = refl

pub upAndSub : UpAndSub
unfolding cells
upAndSub = refl

pub specific : Specific
unfolding cells
specific = refl

pub heldSequence : HeldSequence
unfolding cells
heldSequence = refl

pub firstForm : FirstForm
unfolding cells
firstForm = refl

pub lateOrderless : LateOrderless
unfolding cells
lateOrderless = refl

pub oneIdentity : OneIdentity
unfolding cells
oneIdentity = refl

pub flatAndOrderless : FlatAndOrderless
unfolding cells
flatAndOrderless = refl

pub fibonacci : Fibonacci
unfolding cells
fibonacci = refl

pub conditionRedefines : ConditionRedefines
unfolding cells
conditionRedefines = refl

pub blockedCondition : BlockedCondition
unfolding cells
blockedCondition = refl

pub hiddenCondition : HiddenCondition
unfolding cells
hiddenCondition = refl

pub testBreaks : TestBreaks
unfolding cells
testBreaks = refl

pub conditionMoves : ConditionMoves
unfolding cells
conditionMoves = refl

pub guard : Guard
unfolding cells
guard = refl

pub guardsWithin : GuardsWithin
unfolding cells
guardsWithin = refl

pub guardedNoMore : GuardedNoMore
unfolding cells
guardedNoMore = refl

pub scopes : Scopes
unfolding cells
scopes = refl

pub nameTwice : NameTwice
unfolding cells
nameTwice = refl

pub blockIsNoScope : BlockIsNoScope
unfolding cells
blockIsNoScope = refl

pub blockGivesBack : BlockGivesBack
unfolding cells
blockGivesBack = refl

pub blockPassesOver : BlockPassesOver
unfolding cells
blockPassesOver = refl

pub breakOut : BreakOut
unfolding cells
breakOut = refl

pub protectedWithin : ProtectedWithin
unfolding cells
protectedWithin = refl

pub limitAsIterator : LimitAsIterator
unfolding cells
limitAsIterator = refl

pub noIterator : NoIterator
unfolding cells
noIterator = refl

pub tables : Tables
unfolding cells
tables = refl

pub caught : Caught
unfolding cells
caught = refl

pub quietThrow : QuietThrow
unfolding cells
quietThrow = refl

pub recursion : Recursion
unfolding cells
recursion = refl

pub iteration : Iteration
unfolding cells
iteration = refl

pub sixSteps : SixSteps
unfolding cells
sixSteps = refl

pub fiveSteps : FiveSteps
unfolding cells
fiveSteps = refl

pub enoughForLeaves : EnoughForLeaves
unfolding cells
enoughForLeaves = refl

pub oneLeafTooMany : OneLeafTooMany
unfolding cells
oneLeafTooMany = refl

pub messages : Messages
unfolding cells
messages = refl

pub stopped : Stopped
unfolding cells
stopped = refl

pub checked : Checked
unfolding cells
checked = refl

pub uneven : Uneven
unfolding cells
uneven = refl

pub refused : Refused
unfolding cells
refused = refl

pub replacedFirst : ReplacedFirst
unfolding cells
replacedFirst = refl

pub casesByRule : CasesByRule
unfolding cells
casesByRule = refl

pub worked_cells : WorkedCells
worked_cells = (symbols, evaluatedOnce, givesItself, ruleForAnElement, upAndSub, specific, heldSequence, firstForm, lateOrderless, oneIdentity, flatAndOrderless, fibonacci, conditionRedefines, blockedCondition, hiddenCondition, testBreaks, conditionMoves, guard, guardsWithin, guardedNoMore, scopes, nameTwice, blockIsNoScope, blockGivesBack, blockPassesOver, breakOut, protectedWithin, limitAsIterator, noIterator, tables, caught, quietThrow, recursion, iteration, sixSteps, fiveSteps, enoughForLeaves, oneLeafTooMany, messages, stopped, checked, uneven, refused, replacedFirst, casesByRule)
