-- The reading that a call hands out.
use Rattle.std.specs.Prelude.{[], Result, Ok, Err}
use Rattle.wl_expr.specs.Passed.{IsFrom}
use Rattle.wl_expr.specs.Stamped.{Stamped, plain}
use Rattle.wl_session.specs.Reading.{Reading, refused, read}
use Rattle.wl_session.specs.declared.fault.LineFault.{LineFault}

abbrev pub reading_of : Result Stamped LineFault → Reading
reading_of (Ok e) = read (plain e)
reading_of (Err fault) = refused fault

-- no stamp is on the expression or within it
abbrev pub IsBare : Stamped → Type 0
IsBare e = IsFrom [] e
