-- What the functions of a turn say besides: the choices that they make, and what is looked at without an evaluation.
use Rattle.std.specs.Prelude.{◌≡◌, ⊤, Bool, true, false, Option, Some, None, Result, Err, IfOk}
use Rattle.wl_expr.specs.Applied.{Applied, unchanged, gives, noticed, told, plain_applied}
use Rattle.wl_expr.specs.Same.{same}
use Rattle.wl_expr.specs.Stamped.{Stamped, plain, without_stamp}
use Rattle.wl_expr.specs.Tree.{Tree, symbol, node}
use Rattle.wl_expr.specs.Words.{Name, fits, leftmost}
use Rattle.wl_expr.specs.declared.applied.Applied as code
use Rattle.wl_expr.specs.declared.applied.Applied.TheVariants as variant
use Rattle.wl_expr.specs.declared.fault.ExprFault.{ExprFault}
use Rattle.wl_expr.specs.declared.fault.ExprFault.TheVariants.{Large}
use Rattle.wl_rules.specs.declared.rule.RuleKind.{RuleKind}
use Rattle.wl_rules.specs.declared.rule.RuleKind.TheVariants.{Down, Sub}
use Rattle.wl_semantics.specs.Prog.{Prog, ◌>>=◌}
use Rattle.wl_semantics.specs.BuiltIn.{sized_result}
use Rattle.wl_state.specs.Played.{Honest}
use Rattle.wl_state.specs.declared.ends.Turned as turneds
use Rattle.wl_state.specs.declared.ends.Turned.TheVariants as turned
use Rattle.wl_state.specs.declared.evaluator.Evaluator.{Evaluator}

-- ---- how a turn ends

-- a form that no rule changes is final, as this expression without a stamp on top
abbrev pub turned_by : Stamped → Stamped → Bool → Option Stamped → turneds.Turned
turned_by form last b None = turned.Final (without_stamp last) b
turned_by form last b (Some u) = elim (same (plain u) (plain form)) [ true ↦ turned.Final (without_stamp last) b | false ↦ turned.Next u ]

-- ---- whose rules are tried

-- the symbol whose up rules an element asks for
abbrev pub head_symbol : Tree → Option Tree
head_symbol (symbol x) = Some (symbol x)
head_symbol t = None

abbrev pub up_symbol : Tree → Option Tree
up_symbol (symbol x) = Some (symbol x)
up_symbol (node h ts) = head_symbol h
up_symbol t = None

-- the kind of the rules that the head of a form brings, and the name that has them
abbrev pub leftmost_place : Tree → Option (RuleKind × Name)
leftmost_place (symbol x) = Some (Sub, x)
leftmost_place h = None

abbrev pub place_by_head : Tree → Option (RuleKind × Name)
place_by_head (symbol x) = Some (Down, x)
place_by_head h = leftmost_place (leftmost h)

abbrev pub head_place : Tree → Option (RuleKind × Name)
head_place (node h ts) = place_by_head h
head_place t = None

-- ---- what rows give

-- a row, and then the size of its result tested
abbrev pub sized_row : Prog (Option Tree) → Prog (Option Tree)
sized_row p = p >>= λ r. sized_result r

-- the tree that is given fits
abbrev pub AnswerFits : Applied → Type 0
AnswerFits unchanged = ⊤
AnswerFits (gives t) = fits t ≡ true
AnswerFits (noticed n t) = fits t ≡ true
AnswerFits (told n) = ⊤

-- the tree that is given doesn't fit, and no message comes with it
abbrev pub AnswerIsLarge : Applied → Type 0
AnswerIsLarge unchanged = ⊥
AnswerIsLarge (gives t) = fits t ≡ false
AnswerIsLarge (noticed n t) = ⊥
AnswerIsLarge (told n) = ⊥

-- the answer of a row that looks at its elements alone is this one
pub record Answers (a : Applied) (r : Result code.Applied ExprFault) : Type 0 where
  pub is : IfOk r (λ v. (plain_applied v ≡ a) × AnswerFits a)
  pub large : r ≡ Err Large → AnswerIsLarge a

-- the stamps of what is given are true
abbrev pub HonestApplied : Evaluator → code.Applied → Type 0
HonestApplied k variant.Unchanged = ⊤
HonestApplied k (variant.Gives e) = Honest k e
HonestApplied k (variant.Notice n e) = Honest k e
HonestApplied k (variant.Told n) = ⊤
