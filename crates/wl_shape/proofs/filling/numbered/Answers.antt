use Rattle.std.proofs.Common.{◌≡◌, sym, subst, ◌∙◌}
use Rattle.wl_ports.proofs.MadeNames.{numbered_name}
use Rattle.wl_ports.specs.Name.{IsName}
use Rattle.wl_shape.specs.Fill.{numbered}
use Rattle.wl_shape.proofs.filling.numbered.Goals as goal

pub symbol-requires : goal.symbol-requires
symbol-requires c =
    let e : c.as_str.result.now ≡ numbered c.args.n c.args.name.now = c.as_str.ensures.value ∙ c.in_ok-text.ensures.ok in
    subst IsName (sym e) (numbered_name c.args.name.now c.args.n c.utf8.name c.requires).1
