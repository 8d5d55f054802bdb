use Rattle.wl_syntax.proofs.lower.+negated_at.Given as goal

abbrev pub decreases-negated_at : goal.decreases-negated_at
decreases-negated_at l = l.steps
