use Rattle.wl_match.proofs.LooksLemmas as lemmas
use Rattle.wl_match.proofs.pattern.Pattern.zero.Goals as goal

pub returns : goal.returns
returns c t = lemmas.default_is c.args.self.now _ t 0 0 c.self.view_is c.self.invariant.0 c.self.invariant.1.0.0
