use Rattle.std.proofs.Common.{ap, option_copied}
use Rattle.wl_state.proofs.IteratorParts.{nobody_back, none_is, nothing_back}
use Rattle.wl_state.proofs.evaluator.Evaluator.give_back_iterator.Goals as goal

pub returns-in_default-clause-played : goal.returns-in_default-clause-played
returns-in_default-clause-played c = nobody_back (option_copied c.args.name) c.args.taken c.args.self.now (ap option_copied (none_is c.args.name c.in_default.not-Some))

pub returns-in_default-taken-clause-played : goal.returns-in_default-taken-clause-played
returns-in_default-taken-clause-played c = nothing_back (option_copied c.args.name) c.args.taken c.args.self.now (none_is c.args.taken c.in_default-taken.not-Some)
