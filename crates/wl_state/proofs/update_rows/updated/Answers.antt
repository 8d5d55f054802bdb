use Rattle.std.proofs.Common.{◌∷◌, [], codes, refl, sym, subst}
use Rattle.wl_expr.specs.Stamped.{plain}
use Rattle.wl_expr.specs.Tree.{Tree}
use Rattle.wl_expr.specs.Words.{form}
use Rattle.wl_state.specs.Played.{Makes}
use Rattle.wl_state.specs.Prepared.{updated}
use Rattle.wl_ports.proofs.AsciiNames.{ascii_is_name}
use Rattle.wl_state.proofs.update_rows.updated.Goals as goal

pub of_two-requires : goal.of_two-requires
of_two-requires c = ascii_is_name (codes "Plus") refl

pub of_two-negative-requires : goal.of_two-negative-requires
of_two-negative-requires c = ascii_is_name (codes "Times") refl

pub of_made-requires : goal.of_made-requires
of_made-requires c = ascii_is_name (codes "Plus") refl

pub of_two-requires-in-Times : goal.of_two-requires-in-Times
of_two-requires-in-Times c = ascii_is_name (codes "Times") refl

pub of_two-inverse-requires : goal.of_two-inverse-requires
of_two-inverse-requires c = ascii_is_name (codes "Power") refl

pub of_made-requires-in-Divide : goal.of_made-requires-in-Divide
of_made-requires-in-Divide c = ascii_is_name (codes "Times") refl

pub of_two-requires-in-Append : goal.of_two-requires-in-Append
of_two-requires-in-Append c = ascii_is_name (codes "Append") refl

pub of_two-requires-in-Prepend : goal.of_two-requires-in-Prepend
of_two-requires-in-Prepend c = ascii_is_name (codes "Prepend") refl

pub returns-in_ok-minus_one-in-Minus-clause-made : goal.returns-in_ok-minus_one-in-Minus-clause-made
returns-in_ok-minus_one-in-Minus-clause-made c =
    let o = plain c.args.old.now in
    let v = plain c.args.by.now in
    subst (λ u. Makes (updated u o v) c.of_made.result) (sym c.in-Minus.is)
    (subst (λ (z : Tree). Makes (form (codes "Plus") (o ∷ form (codes "Times") (z ∷ v ∷ []) ∷ [])) c.of_made.result) c.in_ok-minus_one-in-Minus.ensures.value (c.of_made.ensures.made _ c.of_two-negative.ensures.made))

pub returns-in_ok-minus_one-in-Divide-clause-made : goal.returns-in_ok-minus_one-in-Divide-clause-made
returns-in_ok-minus_one-in-Divide-clause-made c =
    let o = plain c.args.old.now in
    let v = plain c.args.by.now in
    subst (λ u. Makes (updated u o v) c.of_made-in-Divide.result) (sym c.in-Divide.is)
    (subst (λ (z : Tree). Makes (form (codes "Times") (o ∷ form (codes "Power") (v ∷ z ∷ []) ∷ [])) c.of_made-in-Divide.result) c.in_ok-minus_one-in-Divide.ensures.value (c.of_made-in-Divide.ensures.made _ c.of_two-inverse.ensures.made))
