use Rattle.std.proofs.Common.{◌≡◌, map, refl, rules}
use Rattle.std.proofs.lemmas.Iterator.{YieldsList-from_map}
use Rattle.std.proofs.lemmas.Iterator.Adapters.{YieldsList-from_bytes}
use Rattle.std.proofs.lemmas.Iterator.Search.{cmp_from_yields_List}
use Rattle.std.specs.Char.{to_ascii_lowercase}
use Rattle.std.specs.Cmp.Lexicographic.{slice_cmp}
use Rattle.std.specs.Ordering.{nat_cmp}
use Rattle.wl_expr.proofs.order.name_order.Goals as goal

pub returns : goal.returns
returns c =
    let letters : c.cmp.result ≡ slice_cmp nat_cmp (map to_ascii_lowercase c.args.s.now) (map to_ascii_lowercase c.args.t.now) =
    cmp_from_yields_List (λ x y. y ≡ x) _ nat_cmp _ c.cmp.ensures.ran
    (YieldsList-from_map _ to_ascii_lowercase (YieldsList-from_bytes c.args.s.now (cc)) (cc) (λ x r q k. search rules))
    (λ it e. YieldsList-from_map _ to_ascii_lowercase (YieldsList-from_bytes c.args.t.now (cc)) (cc) (λ x r q k. search rules))
    (λ x y. refl) in
    cc
