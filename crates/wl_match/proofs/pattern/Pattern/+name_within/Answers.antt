use Rattle.std.proofs.Common.{◌<◌, refl, rules}
use Rattle.wl_match.proofs.LooksLemmas as lemmas
use Rattle.wl_match.proofs.pattern.Pattern.+name_within.Goals as goal

pub name_within-requires : goal.name_within-requires
name_within-requires t c =
    let k : c.in-Applies.inner < c.args.q = lemmas.inner_below c.args.self.now c.args.q _ _ _ c.in-Some.ensures c.in-Applies.is refl in
    (search rules, tt)

pub name_within-requires-in-Holds : goal.name_within-requires-in-Holds
name_within-requires-in-Holds t c =
    let k : c.in-Holds.inner < c.args.q = lemmas.inner_below c.args.self.now c.args.q _ _ _ c.in-Some.ensures c.in-Holds.is refl in
    (search rules, tt)

pub name_within-requires-in-Hold : goal.name_within-requires-in-Hold
name_within-requires-in-Hold t c =
    let k : c.in-Hold.inner < c.args.q = lemmas.inner_below c.args.self.now c.args.q _ _ _ c.in-Some.ensures c.in-Hold.is refl in
    (search rules, tt)
