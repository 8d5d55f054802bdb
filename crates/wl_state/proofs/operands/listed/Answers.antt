use Rattle.std.proofs.Common.{rules, ◌≡◌, codes}
use Rattle.wl_state.proofs.Symbols.{listed_are}
use Rattle.wl_state.proofs.operands.listed.Goals as goal

pub returns-in-Symbol-List : goal.returns-in-Symbol-List
returns-in-Symbol-List c =
    let q : c.in-Symbol-List.field-0.now ≡ codes "List" = search rules in
    listed_are c.in-Symbol-List.field-0.now _ c.in-Node.args.now _ q c.in-Symbol-List.ensures.plain c.in-Node.ensures.plain
