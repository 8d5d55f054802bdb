use Rattle.std.proofs.Common.{rules, ◌≡◌}
use Rattle.indexmap.specs.IndexSet.{insert_key}
use Rattle.wl_shape.proofs.Sets.{alike, has_one_more}
use Rattle.wl_shape.proofs.names.put.Goals as goal

pub returns : goal.returns
returns c =
    let k : c.insert.new.self.keys ≡ insert_key alike c.args.names.now.keys c.args.symbol.now = search rules in
    has_one_more c.args.names.now.keys c.insert.new.self.keys c.args.symbol.now k
