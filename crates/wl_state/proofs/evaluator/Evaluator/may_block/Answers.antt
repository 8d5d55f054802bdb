use Rattle.std.proofs.Common.{◌∷◌, [], sym, ap, ◌∙◌}
use Rattle.wl_expr.specs.Stamped.{plain}
use Rattle.wl_expr.specs.Tree.{Tree}
use Rattle.wl_state.specs.Played.{trees}
use Rattle.wl_state.proofs.ScopingParts.{block_allowed, block_none, block_not, block_other, block_refused, message_same, protected_same}
use Rattle.wl_state.proofs.evaluator.Evaluator.may_block.Goals as goal

pub returns-then-is_protected-clause-played : goal.returns-then-is_protected-clause-played
returns-then-is_protected-clause-played g c =
    block_refused c.args.local.now _ c.args.self.now c.is_protected.new.self c.issue.new.self c.in_ok-is_protected.is_protected c.name_of-name.ensures c.in_ok-is_protected.ensures.played
    _ (ap trees c.from_ref.ensures.value ∙ ap (λ (t : Tree). t ∷ []) c.requires.symbol) c.if-is_protected.true c.in_ok-issue.ensures.played

pub returns-then-is_protected-clause-same : goal.returns-then-is_protected-clause-same
returns-then-is_protected-clause-same g c = message_same _ _ _ c.is_protected.new.self c.issue.new.self c.in_ok-issue.ensures.played ∙ protected_same _ c.in_ok-is_protected.is_protected c.args.self.now c.is_protected.new.self c.in_ok-is_protected.ensures.played

pub returns-then-not-is_limit-clause-played : goal.returns-then-not-is_limit-clause-played
returns-then-not-is_limit-clause-played g c = block_other c.args.local.now _ c.args.self.now c.is_protected.new.self c.is_protected.new.self c.in_ok-is_protected.is_protected c.name_of-name.ensures c.in_ok-is_protected.ensures.played c.if-is_protected.false (sym c.is_limit.ensures ∙ c.if-not-is_limit.true)

pub returns-then-not-is_limit-clause-same : goal.returns-then-not-is_limit-clause-same
returns-then-not-is_limit-clause-same g c = protected_same _ c.in_ok-is_protected.is_protected c.args.self.now c.is_protected.new.self c.in_ok-is_protected.ensures.played

pub returns-in_default-clause-played : goal.returns-in_default-clause-played
returns-in_default-clause-played g c =
    block_none c.args.local.now _ c.args.self.now c.is_protected.new.self c.refuse_limit.new.self c.in_ok-is_protected.is_protected c.name_of-name.ensures c.in_ok-is_protected.ensures.played c.if-is_protected.false (sym c.is_limit.ensures ∙ c.if-not-is_limit.false) c.in_default.is
    (plain c.in_ok-null.null) (ap plain c.in_ok-null.ensures) c.in_ok-refuse_limit.ensures.played

pub returns-in_default-clause-same : goal.returns-in_default-clause-same
returns-in_default-clause-same g c = message_same _ _ _ c.is_protected.new.self c.refuse_limit.new.self c.in_ok-refuse_limit.ensures.played ∙ protected_same _ c.in_ok-is_protected.is_protected c.args.self.now c.is_protected.new.self c.in_ok-is_protected.ensures.played

pub returns-then-allows-clause-played : goal.returns-then-allows-clause-played
returns-then-allows-clause-played g c = block_allowed c.args.local.now _ c.args.self.now c.is_protected.new.self c.is_protected.new.self c.in_ok-is_protected.is_protected c.name_of-name.ensures c.in_ok-is_protected.ensures.played c.if-is_protected.false c.in-Some.value c.in-Some.is (sym c.allows.ensures ∙ c.if-allows.true)

pub returns-then-allows-clause-same : goal.returns-then-allows-clause-same
returns-then-allows-clause-same g c = protected_same _ c.in_ok-is_protected.is_protected c.args.self.now c.is_protected.new.self c.in_ok-is_protected.ensures.played

pub returns-clause-played : goal.returns-clause-played
returns-clause-played g c =
    block_not c.args.local.now _ c.args.self.now c.is_protected.new.self c.refuse_limit-2.new.self c.in_ok-is_protected.is_protected c.name_of-name.ensures c.in_ok-is_protected.ensures.played c.if-is_protected.false (sym c.is_limit.ensures ∙ c.if-not-is_limit.false) c.in-Some.value c.in-Some.is
    (sym c.allows.ensures ∙ c.if-allows.false) c.in_ok-refuse_limit-2.ensures.played

pub returns-clause-same : goal.returns-clause-same
returns-clause-same g c = message_same _ _ _ c.is_protected.new.self c.refuse_limit-2.new.self c.in_ok-refuse_limit-2.ensures.played ∙ protected_same _ c.in_ok-is_protected.is_protected c.args.self.now c.is_protected.new.self c.in_ok-is_protected.ensures.played
