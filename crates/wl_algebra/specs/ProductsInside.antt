-- How what the code collects of a product stands for the definition's.
use Rattle.std.specs.Prelude.{◌≡◌, List, [], ◌∷◌, ◌++◌, map, Option, Some, None}
use Rattle.std.specs.List.{All}
use Rattle.wl_expr.specs.Passed.{IsFrom}
use Rattle.wl_expr.specs.Stamped.{Stamped, plain}
use Rattle.wl_algebra.specs.Answers.{AllFrom, trees}
use Rattle.wl_algebra.specs.Products.{Group}
use Rattle.wl_algebra.specs.declared.products.Factor.{Factor}
use Rattle.wl_algebra.specs.declared.products.Powers as code

abbrev pub Entry : Type 0
Entry = Stamped × code.Powers

abbrev pub entry_group : Entry → Group
entry_group p = record { base = plain p.0; element = plain p.1.element; exponents = trees p.1.exponents.items }

abbrev pub entry_groups : List Entry → List Group
entry_groups es = map entry_group es

abbrev pub plain_factor : Factor → Group
plain_factor f = record { base = plain f.base; element = plain f.element; exponents = plain f.exponent ∷ [] }

-- the powers of a base, with one factor more
abbrev pub Joins : Option code.Powers → Stamped → Stamped → code.Powers → Type 0
Joins None element exponent w = (plain w.element ≡ plain element) × (trees w.exponents.items ≡ plain exponent ∷ [])
Joins (Some g) element exponent w = (plain w.element ≡ plain g.element) × (trees w.exponents.items ≡ trees g.exponents.items ++ plain exponent ∷ [])

-- ---- stamps

pub record PowersFrom (ms : List Stamped) (g : code.Powers) : Type 0 where
  pub element : IsFrom ms g.element
  pub exponents : AllFrom ms g.exponents.items

pub record FactorIsFrom (ms : List Stamped) (f : Factor) : Type 0 where
  pub base : IsFrom ms f.base
  pub exponent : IsFrom ms f.exponent
  pub element : IsFrom ms f.element

abbrev pub EntryIsFrom : List Stamped → Entry → Type 0
EntryIsFrom ms p = IsFrom ms p.0 × PowersFrom ms p.1

abbrev pub EntriesFrom : List Stamped → List Entry → Type 0
EntriesFrom ms es = All (EntryIsFrom ms) es
