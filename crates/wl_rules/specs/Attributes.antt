-- Attributes of a symbol, as a set. Their names are those of the manual's page of `Attributes`; NumericFunction has no effect here.
use Rattle.std.specs.Prelude.{Bool, true, false, List, [], ◌∷◌, Option, Some, None, codes, bytes_eq}
use Rattle.wl_expr.specs.Words.{Name}
use Rattle.wl_rules.specs.declared.attribute.Attribute.{Attribute}
use Rattle.wl_rules.specs.declared.attribute.Attribute.TheVariants.{Flat, HoldAll, HoldAllComplete, HoldFirst, HoldRest, Listable, NumericFunction, OneIdentity, Orderless, Protected, SequenceHold}

pub record AttributeSet : Type 0 where
  pub flat : Bool
  pub hold_all : Bool
  pub hold_all_complete : Bool
  pub hold_first : Bool
  pub hold_rest : Bool
  pub listable : Bool
  pub numeric_function : Bool
  pub one_identity : Bool
  pub orderless : Bool
  pub protected : Bool
  pub sequence_hold : Bool

abbrev pub no_attributes : AttributeSet
no_attributes = record {
  flat = false;
  hold_all = false;
  hold_all_complete = false;
  hold_first = false;
  hold_rest = false;
  listable = false;
  numeric_function = false;
  one_identity = false;
  orderless = false;
  protected = false;
  sequence_hold = false;
}

abbrev pub has : AttributeSet → Attribute → Bool
has s Flat = s.flat
has s HoldAll = s.hold_all
has s HoldAllComplete = s.hold_all_complete
has s HoldFirst = s.hold_first
has s HoldRest = s.hold_rest
has s Listable = s.listable
has s NumericFunction = s.numeric_function
has s OneIdentity = s.one_identity
has s Orderless = s.orderless
has s Protected = s.protected
has s SequenceHold = s.sequence_hold

-- the set in which an attribute is, or isn't, as said
abbrev pub put : Bool → AttributeSet → Attribute → AttributeSet
put b s Flat = record s { flat = b }
put b s HoldAll = record s { hold_all = b }
put b s HoldAllComplete = record s { hold_all_complete = b }
put b s HoldFirst = record s { hold_first = b }
put b s HoldRest = record s { hold_rest = b }
put b s Listable = record s { listable = b }
put b s NumericFunction = record s { numeric_function = b }
put b s OneIdentity = record s { one_identity = b }
put b s Orderless = record s { orderless = b }
put b s Protected = record s { protected = b }
put b s SequenceHold = record s { sequence_hold = b }

abbrev pub with : AttributeSet → Attribute → AttributeSet
with s a = put true s a

abbrev pub without : AttributeSet → Attribute → AttributeSet
without s a = put false s a

abbrev pub with_all : AttributeSet → List Attribute → AttributeSet
with_all s [] = s
with_all s (a ∷ as') = with_all (with s a) as'

abbrev pub without_all : AttributeSet → List Attribute → AttributeSet
without_all s [] = s
without_all s (a ∷ as') = without_all (without s a) as'

-- ---- by name

-- each attribute with its name, by name
abbrev pub attribute_names : List (Name × Attribute)
attribute_names =
    (codes "Flat", Flat) ∷ (codes "HoldAll", HoldAll) ∷ (codes "HoldAllComplete", HoldAllComplete) ∷ (codes "HoldFirst", HoldFirst) ∷ (codes "HoldRest", HoldRest)
    ∷ (codes "Listable", Listable) ∷ (codes "NumericFunction", NumericFunction) ∷ (codes "OneIdentity", OneIdentity) ∷ (codes "Orderless", Orderless)
    ∷ (codes "Protected", Protected) ∷ (codes "SequenceHold", SequenceHold) ∷ []

abbrev pub found_in : Name → List (Name × Attribute) → Option Attribute
found_in x [] = None
found_in x (p ∷ ps) = elim (bytes_eq x p.0) [ true ↦ Some p.1 | false ↦ found_in x ps ]

abbrev pub attribute_named : Name → Option Attribute
attribute_named x = found_in x attribute_names

abbrev pub before : Option Attribute → Option (List Attribute) → Option (List Attribute)
before (Some a) (Some as') = Some (a ∷ as')
before _ _ = None

-- the attributes of these names, where all are attributes
abbrev pub attributes_named : List Name → Option (List Attribute)
attributes_named [] = Some []
attributes_named (x ∷ xs) = before (attribute_named x) (attributes_named xs)

-- the names of those that are in the set, by name
abbrev pub names_in : AttributeSet → List (Name × Attribute) → List Name
names_in s [] = []
names_in s (p ∷ ps) = elim (has s p.1) [ true ↦ p.0 ∷ names_in s ps | false ↦ names_in s ps ]

abbrev pub names_of_attributes : AttributeSet → List Name
names_of_attributes s = names_in s attribute_names
