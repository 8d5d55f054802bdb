-- How the fields of a set of attributes stand for the set.
use Rattle.wl_rules.specs.Attributes.{AttributeSet}
use Rattle.wl_rules.specs.declared.attribute.Attributes.TheInside.{Inside}

abbrev pub set_of : Inside → AttributeSet
set_of a = record {
  flat = a.flat;
  hold_all = a.hold_all;
  hold_all_complete = a.hold_all_complete;
  hold_first = a.hold_first;
  hold_rest = a.hold_rest;
  listable = a.listable;
  numeric_function = a.numeric_function;
  one_identity = a.one_identity;
  orderless = a.orderless;
  protected = a.protected;
  sequence_hold = a.sequence_hold;
}

abbrev pub fields_of : AttributeSet → Inside
fields_of s = record {
  flat = s.flat;
  hold_all = s.hold_all;
  hold_all_complete = s.hold_all_complete;
  hold_first = s.hold_first;
  hold_rest = s.hold_rest;
  listable = s.listable;
  numeric_function = s.numeric_function;
  one_identity = s.one_identity;
  orderless = s.orderless;
  protected = s.protected;
  sequence_hold = s.sequence_hold;
}
