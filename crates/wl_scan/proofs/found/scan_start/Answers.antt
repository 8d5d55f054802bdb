use Rattle.std.proofs.Common.{ℕ, Option, ap, sym, ◌∙◌}
use Rattle.wl_scan.specs.Lengths.{beyond}
use Rattle.wl_scan.specs.Tokens.{commented}
use Rattle.wl_scan.proofs.Rows.{comment_found}
use Rattle.wl_scan.proofs.found.scan_start.Goals as goal

pub returns-in-Some : goal.returns-in-Some
returns-in-Some c =
    ap (λ (o : Option ℕ). commented (beyond 2 o)) (sym c.in-Some.is)
    ∙ comment_found _ _ _ _ c.as_bytes-bytes.ensures.value c.blank_length-blanks.ensures.length c.if-blanks-gt0.false (sym c.is_comment.ensures ∙ c.if-is_comment.true)
    c.comment_rest.ensures.length

pub returns-in-None : goal.returns-in-None
returns-in-None c =
    ap (λ (o : Option ℕ). commented (beyond 2 o)) (sym c.in-None.is)
    ∙ comment_found _ _ _ _ c.as_bytes-bytes.ensures.value c.blank_length-blanks.ensures.length c.if-blanks-gt0.false (sym c.is_comment.ensures ∙ c.if-is_comment.true)
    c.comment_rest.ensures.length
