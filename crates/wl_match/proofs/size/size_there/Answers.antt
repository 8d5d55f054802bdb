use Rattle.std.proofs.lemmas.List.{get_or_default}
use Rattle.wl_match.specs.Sizes.{one_tree}
use Rattle.wl_match.proofs.size.size_there.Goals as goal

pub returns : goal.returns
returns c = get_or_default c.args.sizes.now c.args.place _ one_tree c.requires
