use Rattle.std.proofs.Common.{◌≡◌, refl, sym, subst}
use Rattle.std.specs.Prelude.{List, codes}
use Rattle.wl_expr.specs.Stamped.{plain}
use Rattle.wl_expr.specs.Tree.{Tree}
use Rattle.wl_ports.proofs.AsciiNames.{ascii_is_name}
use Rattle.wl_shape.specs.Answers.{IsShaped, trees}
use Rattle.wl_shape.specs.Shape.{flattened, thread, without_sequences}
use Rattle.wl_shape.proofs.Splices.{kept_sequences, no_sequences}
use Rattle.wl_shape.proofs.arrangement.arrange.Goals as goal
use Rattle.wl_shape.proofs.arrangement.arrange.Goals.{then-keeps_sequences-via-then-keeps_sequences, then-keeps_sequences-via-else-keeps_sequences+then-not-any_form}

pub symbol-requires : goal.symbol-requires
symbol-requires c = ascii_is_name (codes "Sequence") refl

pub returns-then-keeps_sequences-clause-shaped : goal.returns-then-keeps_sequences-clause-shaped
returns-then-keeps_sequences-clause-shaped c =
    let a = c.args.attributes in
    let h = plain c.args.head.now in
    let es = trees c.args.args.now in
    let stays : without_sequences a es ≡ es = elim c.then-keeps_sequences.branch [
      | then-keeps_sequences-via-then-keeps_sequences w ↦ kept_sequences a es (sym w.if-keeps_sequences.ensures)
      | then-keeps_sequences-via-else-keeps_sequences+then-not-any_form w ↦ no_sequences a es (sym w.if-not-any_form.ensures)
    ] in
    subst (λ (us : List Tree). IsShaped (thread a h (flattened a h us)) c.flatten.result) (sym stays) c.flatten.ensures.shaped
