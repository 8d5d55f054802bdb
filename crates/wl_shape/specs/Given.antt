-- What is to stand for names, as the calls are given it.
use Rattle.std.specs.Prelude.{◌≡◌, true, false, List, Option, Some, None, option_map, ⊤}
use Rattle.std.specs.List.{All}
use Rattle.std.specs.Map.{lookup}
use Rattle.wl_expr.specs.Passed.{IsFrom}
use Rattle.wl_expr.specs.Same.{same, is_name_among}
use Rattle.wl_expr.specs.Stamped.{Stamped, plain}
use Rattle.wl_expr.specs.Tree.{Tree, symbol, IsWithinLimits}
use Rattle.wl_expr.specs.Words.{Name}
use Rattle.wl_match.specs.Search.{run_of}
use Rattle.wl_match.specs.Shown.{AreFrom, trail_in}
use Rattle.wl_shape.specs.Fill.{Values, binding, numbered}
use Rattle.wl_shape.specs.Names.{has_name}
use Rattle.wl_shape.specs.declared.filling.Given.{Given}
use Rattle.wl_shape.specs.declared.filling.Given.TheVariants.{Trees, Numbered, Bound}

-- what stands for a key that is this tree
abbrev pub paired_with : List (Stamped × Stamped) → Tree → Option Tree
paired_with es t = option_map plain (lookup (λ k. same t (plain k)) es)

-- what stands for the names of one pair
abbrev pub one_pair : Tree → Tree → Values
one_pair k t x = elim (same (symbol x) k) [ true ↦ Some t | false ↦ None ]

abbrev pub given_values : Given → Values
given_values (Trees m) x = paired_with m.now.entries (symbol x)
given_values (Numbered ns n) x = elim (has_name ns.now.keys x) [ true ↦ Some (symbol (numbered n x)) | false ↦ None ]
given_values (Bound v) x = binding (λ y. run_of y (trail_in v.now)) x

-- what stands for a symbol
abbrev pub given_tree : Given → Tree → Option Tree
given_tree g (symbol x) = given_values g x
given_tree g t = None

abbrev pub DoesNotFit : Option Tree → Type 0
DoesNotFit None = ⊥
DoesNotFit (Some t) = ¬ IsWithinLimits t

abbrev pub PairsFrom : List Stamped → List (Stamped × Stamped) → Type 0
PairsFrom ms es = All (λ (p : Stamped × Stamped). IsFrom ms p.1) es

abbrev pub GivenFrom : List Stamped → Given → Type 0
GivenFrom ms (Trees m) = PairsFrom ms m.now.entries
GivenFrom ms (Numbered ns n) = ⊤
GivenFrom ms (Bound v) = AreFrom ms v.now

-- nothing stands for these names
abbrev pub NoneStands : List Name → Values → Type 0
NoneStands xs vs = (x : Name) → is_name_among x xs ≡ true → vs x ≡ None
