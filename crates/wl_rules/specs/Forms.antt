-- The special form that the code names.
use Rattle.wl_expr.specs.Special.{Special, ordinary, blank, blank_sequence, blank_null_sequence, named, pattern_test, condition, hold_pattern, optional, alternatives, repeated, repeated_null, verbatim, except}
use Rattle.wl_rules.specs.declared.form.Form.{Form}
use Rattle.wl_rules.specs.declared.form.Form.TheVariants as form

abbrev pub special_of : Form → Special
special_of form.Ordinary = ordinary
special_of form.Blank = blank
special_of form.BlankSequence = blank_sequence
special_of form.BlankNullSequence = blank_null_sequence
special_of form.Named = named
special_of form.PatternTest = pattern_test
special_of form.Condition = condition
special_of form.HoldPattern = hold_pattern
special_of form.Optional = optional
special_of form.Alternatives = alternatives
special_of form.Repeated = repeated
special_of form.RepeatedNull = repeated_null
special_of form.Verbatim = verbatim
special_of form.Except = except
