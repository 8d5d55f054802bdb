use Rattle.std.proofs.Common.{true≢false, sym, ◌∙◌}
use Rattle.wl_state.proofs.Shapings.{turned_same, turned_new}
use Rattle.wl_state.proofs.turn.turned.Goals as goal

pub returns-then-same : goal.returns-then-same
returns-then-same c = turned_same _ _ c.in-Some.next _ _ _ c.in-Some.is (c.same.ensures.0 c.if-same.true) c.in_ok-without_stamp-2.ensures.ok

pub returns : goal.returns
returns c = turned_new _ _ c.in-Some.next _ _ c.in-Some.is (λ e. true≢false (sym (c.same.ensures.1 e) ∙ c.if-same.false))
