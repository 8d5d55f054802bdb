-- What a built-in that looks at its arguments alone answers.
use Rattle.wl_expr.specs.Stamped.{plain}
use Rattle.wl_expr.specs.Tree.{Tree}
use Rattle.wl_expr.specs.declared.applied.Applied as code
use Rattle.wl_expr.specs.declared.applied.Applied.TheVariants as variant
use Rattle.wl_expr.specs.declared.applied.Notice as code_notice
use Rattle.wl_expr.specs.declared.applied.Notice.TheVariants as notice

-- a message of a built-in, with the trees that its text shows
pub data Notice : Type 0 where
  overflow : Notice
  infinite : Tree → Notice
  indeterminate : Tree → Notice
  no_part : Tree → Tree → Notice

pub data Applied : Type 0 where
  unchanged : Applied  -- no row fits
  gives : Tree → Applied  -- the result
  noticed : Notice → Tree → Applied  -- the result, and a message that comes with it
  told : Notice → Applied  -- a message alone

-- what an answer in the code is, stamps apart
abbrev pub plain_notice : code_notice.Notice → Notice
plain_notice notice.Overflow = overflow
plain_notice (notice.Infinite e) = infinite (plain e)
plain_notice (notice.Indeterminate e) = indeterminate (plain e)
plain_notice (notice.NoPart k e) = no_part (plain k) (plain e)

abbrev pub plain_applied : code.Applied → Applied
plain_applied variant.Unchanged = unchanged
plain_applied (variant.Gives e) = gives (plain e)
plain_applied (variant.Notice n e) = noticed (plain_notice n) (plain e)
plain_applied (variant.Told n) = told (plain_notice n)
