use Rattle.wl_match.proofs.pattern.Pattern.+is_stretchable.Given as goal

abbrev pub decreases-is_stretchable : goal.decreases-is_stretchable
decreases-is_stretchable l = l.q
