-- What a row answers: the elements that it looks at, a tree that doesn't fit, and stamps that are handed on.
use Rattle.std.specs.Prelude.{◌≡◌, ⊤, List, map, Option, Some, None, Result, Err, IfOk, codes}
use Rattle.std.specs.List.{All}
use Rattle.wl_exact.specs.Fraction.{Fraction}
use Rattle.wl_expr.specs.Applied.{Applied, overflow, gives, noticed, plain_applied}
use Rattle.wl_expr.specs.Passed.{IsFrom}
use Rattle.wl_expr.specs.Stamped.{Stamped, plain}
use Rattle.wl_expr.specs.Tree.{Tree, IsWithinLimits, num, symbol}
use Rattle.wl_expr.specs.Words.{overflow_form}
use Rattle.wl_expr.specs.declared.applied.Applied as code
use Rattle.wl_expr.specs.declared.applied.Applied.TheVariants as variant
use Rattle.wl_expr.specs.declared.applied.Notice.{Notice}
use Rattle.wl_expr.specs.declared.applied.Notice.TheVariants as notice
use Rattle.wl_expr.specs.declared.fault.ExprFault.{ExprFault}
use Rattle.wl_expr.specs.declared.fault.ExprFault.TheVariants.{Large}

abbrev pub trees : List Stamped → List Tree
trees ts = map plain ts

-- the number that a tree is
abbrev pub number_of : Tree → Option Fraction
number_of (num n) = Some n
number_of t = None

abbrev pub indeterminate_symbol : Tree
indeterminate_symbol = symbol (codes "Indeterminate")

abbrev pub infinity : Tree
infinity = symbol (codes "ComplexInfinity")

-- `Overflow[]`, with its message
abbrev pub overflowed : Applied
overflowed = noticed overflow overflow_form

-- the tree that is given doesn't fit
abbrev pub IsTooLarge : Applied → Type 0
IsTooLarge (gives t) = ¬ IsWithinLimits t
IsTooLarge (noticed n t) = ¬ IsWithinLimits t
IsTooLarge a = ⊥

-- the answer is this one, whose tree fits; and Large comes only where it doesn't
abbrev pub AnswerFits : Applied → code.Applied → Type 0
AnswerFits a r = (plain_applied r ≡ a) × ¬ IsTooLarge a

pub record IsAnswer (a : Applied) (r : Result code.Applied ExprFault) : Type 0 where
  pub is : IfOk r (AnswerFits a)
  pub large : r ≡ Err Large → IsTooLarge a

-- the expression is this tree, and Large comes only where that doesn't fit
pub record IsMade (t : Tree) (r : Result Stamped ExprFault) : Type 0 where
  pub tree : IfOk r (λ e. plain e ≡ t)
  pub large : r ≡ Err Large → ¬ IsWithinLimits t

-- ---- stamps

abbrev pub AllFrom : List Stamped → List Stamped → Type 0
AllFrom ms ts = All (IsFrom ms) ts

abbrev pub NoticeIsFrom : List Stamped → Notice → Type 0
NoticeIsFrom ms notice.Overflow = ⊤
NoticeIsFrom ms (notice.Infinite e) = IsFrom ms e
NoticeIsFrom ms (notice.Indeterminate e) = IsFrom ms e
NoticeIsFrom ms (notice.NoPart k e) = IsFrom ms k × IsFrom ms e

abbrev pub AppliedIsFrom : List Stamped → code.Applied → Type 0
AppliedIsFrom ms variant.Unchanged = ⊤
AppliedIsFrom ms (variant.Gives e) = IsFrom ms e
AppliedIsFrom ms (variant.Notice n e) = NoticeIsFrom ms n × IsFrom ms e
AppliedIsFrom ms (variant.Told n) = NoticeIsFrom ms n

-- what is given is made of these
abbrev pub IsPassed : List Stamped → Result code.Applied ExprFault → Type 0
IsPassed ms r = IfOk r (AppliedIsFrom ms)
