-- What the code's own types stand for.
use Rattle.wl_ports.specs.Name.{IsName}
use Rattle.std.specs.Prelude.{⊤, List, [], map, filter_map}
use Rattle.wl_expr.specs.Same.{first_names}
use Rattle.wl_expr.specs.Stamped.{Stamped, plain}
use Rattle.wl_expr.specs.Words.{Name}
use Rattle.wl_assign.specs.Tags.{tag}
use Rattle.wl_expr.specs.Special as special
use Rattle.wl_assign.specs.Targets as target
use Rattle.wl_assign.specs.declared.special.Special.{Special}
use Rattle.wl_assign.specs.declared.special.Special.TheVariants as code
use Rattle.wl_assign.specs.declared.kinds.Target.{Target}
use Rattle.wl_assign.specs.declared.kinds.Target.TheVariants.{Own, Down, Sub, Raw}

abbrev pub special_of : Special → special.Special
special_of code.Ordinary = special.ordinary
special_of code.Blank = special.blank
special_of code.BlankSequence = special.blank_sequence
special_of code.BlankNullSequence = special.blank_null_sequence
special_of code.Named = special.named
special_of code.PatternTest = special.pattern_test
special_of code.Condition = special.condition
special_of code.HoldPattern = special.hold_pattern
special_of code.Optional = special.optional
special_of code.Alternatives = special.alternatives
special_of code.Repeated = special.repeated
special_of code.RepeatedNull = special.repeated_null
special_of code.Verbatim = special.verbatim
special_of code.Except = special.except

abbrev pub target_of : Target → target.Target
target_of (Own s) = target.own s.now
target_of (Down s) = target.down s.now
target_of (Sub s) = target.sub s.now
target_of Raw = target.raw

-- the symbol of a target is a name
abbrev pub TargetIsName : Target → Type 0
TargetIsName (Own s) = IsName s.now
TargetIsName (Down s) = IsName s.now
TargetIsName (Sub s) = IsName s.now
TargetIsName Raw = ⊤

-- the tags of these elements, and the distinct ones among them
abbrev pub named_in : List Stamped → List Name
named_in ts = filter_map tag (map plain ts)

abbrev pub found_in : List Stamped → List Name
found_in ts = first_names [] (named_in ts)
