use Rattle.wl_match.proofs.LooksLemmas as lemmas
use Rattle.wl_match.proofs.pattern.Pattern.one.Goals as goal

pub returns : goal.returns
returns c t = lemmas.default_is c.args.self.now _ t 1 1 c.self.view_is c.self.invariant.0 c.self.invariant.1.0.1
