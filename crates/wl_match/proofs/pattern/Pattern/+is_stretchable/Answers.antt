use Rattle.std.proofs.Common.{◌<◌, refl, rules}
use Rattle.wl_match.proofs.LooksLemmas as lemmas
use Rattle.wl_match.proofs.pattern.Pattern.+is_stretchable.Goals as goal

pub is_stretchable-requires : goal.is_stretchable-requires
is_stretchable-requires t c =
    let k : c.in-Named.inner < c.args.q = lemmas.inner_below c.args.self.now c.args.q _ _ _ c.in-Some.ensures c.in-Named.is refl in
    (search rules, tt)

pub is_stretchable-requires-in-Applies : goal.is_stretchable-requires-in-Applies
is_stretchable-requires-in-Applies t c =
    let k : c.in-Applies.inner < c.args.q = lemmas.inner_below c.args.self.now c.args.q _ _ _ c.in-Some.ensures c.in-Applies.is refl in
    (search rules, tt)

pub is_stretchable-requires-in-Holds : goal.is_stretchable-requires-in-Holds
is_stretchable-requires-in-Holds t c =
    let k : c.in-Holds.inner < c.args.q = lemmas.inner_below c.args.self.now c.args.q _ _ _ c.in-Some.ensures c.in-Holds.is refl in
    (search rules, tt)

pub is_stretchable-requires-in-Hold : goal.is_stretchable-requires-in-Hold
is_stretchable-requires-in-Hold t c =
    let k : c.in-Hold.inner < c.args.q = lemmas.inner_below c.args.self.now c.args.q _ _ _ c.in-Some.ensures c.in-Hold.is refl in
    (search rules, tt)

pub is_stretchable-requires-in-Optional : goal.is_stretchable-requires-in-Optional
is_stretchable-requires-in-Optional t c =
    let k : c.in-Optional.inner < c.args.q = lemmas.inner_below c.args.self.now c.args.q _ _ _ c.in-Some.ensures c.in-Optional.is refl in
    (search rules, tt)
