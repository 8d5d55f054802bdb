use Rattle.std.proofs.Common.{◌∙◌, ap}
use Rattle.wl_expr.specs.Stamped.{plain}
use Rattle.wl_match.proofs.PartsLemmas.{own_defaults, root_is}
use Rattle.wl_match.proofs.PatternLemmas.{kept_defaults, default_behind, default_parts}
use Rattle.wl_match.specs.Sizes.{sizes_of}
use Rattle.wl_match.proofs.PlacedLemmas.{placed_named}
use Rattle.wl_match.proofs.pattern.Pattern.prepare.Goals as goal

pub returns-clause-named : goal.returns-clause-named
returns-clause-named c f e =
    root_is c.args.flags.now 0 c.args.p.now _ _ _ c.build.new.parts.items c.in_ok-build.ensures ∙ placed_named f c.args.flags.now (plain c.args.p.now) e

pub returns-clause-passed : goal.returns-clause-passed
returns-clause-passed c ms f = c.in_ok-build.ensures.passed ms (kept_defaults ms _ c.in_ok-parts.ensures) f

pub invariant_of-result : goal.invariant_of-result
invariant_of-result c = (c.in_ok-build.ensures.behind (default_behind _ c.in_ok-parts.ensures), (default_parts _ _ c.in_ok-parts.ensures c.in_ok-build.ensures.keeps, (c.in_ok-sizes.ensures ∙ ap sizes_of c.as_slice.ensures.value, c.in_ok-build.ensures.heads (own_defaults _ c.in_ok-parts.ensures))))
