-- The role that the code's answer means.
use Rattle.wl_syntax.specs.declared.operator.SignRole.{SignRole}
use Rattle.wl_syntax.specs.declared.operator.SignRole.TheVariants.{Joins, Ends, Parts, Nothing}
use Rattle.wl_syntax.specs.Table.{Role, joins, ends, parts, nothing}

abbrev pub role_of : SignRole → Role
role_of (Joins o) = joins o
role_of (Ends o) = ends o
role_of Parts = parts
role_of Nothing = nothing
