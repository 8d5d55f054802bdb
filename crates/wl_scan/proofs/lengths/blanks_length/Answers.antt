use Rattle.wl_scan.proofs.Boundaries.{marks_boundary}
use Rattle.wl_scan.proofs.lengths.blanks_length.Goals as goal

pub range_from-requires : goal.range_from-requires
range_from-requires c = λ _. marks_boundary _ _ _ c.utf8.text c.as_bytes.ensures.value c.marks_length.ensures.length
