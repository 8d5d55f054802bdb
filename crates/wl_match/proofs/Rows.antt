-- Worked rows of searches. f is Flat, o Orderless, g both, i has OneIdentity; h, q and List have none of these.
use Rattle.std.specs.Prelude.{◌≡◌, Bool, ◌||◌, [], ◌∷◌, refl, codes, bytes_eq, replicate}
use Rattle.wl_expr.specs.Tree.{Tree, symbol}
use Rattle.wl_expr.specs.Words.{Name, form, applied, natural}
use Rattle.wl_match.specs.declared.flags.Flags.{Flags}
use Rattle.wl_match.specs.Pattern.{pattern, applies, refuses}
use Rattle.wl_match.specs.Search.{Fail, Found, bound, noted}
use Rattle.wl_match.specs.Trials.{Trials}

abbrev is_arithmetic : Name → Bool
is_arithmetic s = bytes_eq s (codes "Plus") || bytes_eq s (codes "Times")

abbrev flags : Name → Flags
flags s = record {
  flat = is_arithmetic s || bytes_eq s (codes "f") || bytes_eq s (codes "g");
  orderless = is_arithmetic s || bytes_eq s (codes "o") || bytes_eq s (codes "g");
  one_identity = is_arithmetic s || bytes_eq s (codes "i") || bytes_eq s (codes "Power");
}

-- `_`, `__` and `___`
abbrev one_thing : Tree
one_thing = form (codes "Blank") []

abbrev some_things : Tree
some_things = form (codes "BlankSequence") []

abbrev any_things : Tree
any_things = form (codes "BlankNullSequence") []

-- `x:p`
abbrev named_as : Name → Tree → Tree
named_as x p = form (codes "Pattern") (symbol x ∷ p ∷ [])

abbrev a : Tree
a = symbol (codes "a")

abbrev b : Tree
b = symbol (codes "b")

abbrev c : Tree
c = symbol (codes "c")

abbrev q : Tree
q = symbol (codes "q")

abbrev t : Tree
t = symbol (codes "t")

-- `q[x___, y___, z___, b]` on `q[a, a, a, a, a, a, a, a, a, a]`
each_element_fails_the_last_literal : Trials (pattern flags (form (codes "q") ((named_as (codes "x") any_things) ∷ (named_as (codes "y") any_things) ∷ (named_as (codes "z") any_things) ∷ b ∷ []))) (form (codes "q") (a ∷ a ∷ a ∷ a ∷ a ∷ a ∷ a ∷ a ∷ a ∷ a ∷ []))
    ≡ replicate 55 Fail
each_element_fails_the_last_literal = refl

-- `q[x__, y__]` on `q[a, b, c]`
shorter_runs_first : Trials (pattern flags (form (codes "q") ((named_as (codes "x") some_things) ∷ (named_as (codes "y") some_things) ∷ []))) (form (codes "q") (a ∷ b ∷ c ∷ []))
    ≡ Found (bound (codes "x") (a ∷ []) ∷ bound (codes "y") (b ∷ c ∷ []) ∷ [])
    ∷ Found (bound (codes "x") (a ∷ b ∷ []) ∷ bound (codes "y") (c ∷ []) ∷ []) ∷ []
shorter_runs_first = refl

-- `x_. + y_` on `a`
absent_in_a_sum : Trials (pattern flags (form (codes "Plus") ((form (codes "Optional") ((named_as (codes "x") one_thing) ∷ [])) ∷ (named_as (codes "y") one_thing) ∷ []))) a
    ≡ Found (bound (codes "x") ((natural 0) ∷ []) ∷ bound (codes "y") (a ∷ []) ∷ []) ∷ []
absent_in_a_sum = refl

-- `x_^y_.` on `a`
second_of_a_power : Trials (pattern flags (form (codes "Power") ((named_as (codes "x") one_thing) ∷ (form (codes "Optional") ((named_as (codes "y") one_thing) ∷ [])) ∷ []))) a
    ≡ Found (bound (codes "x") (a ∷ []) ∷ bound (codes "y") ((natural 1) ∷ []) ∷ []) ∷ []
second_of_a_power = refl

-- `{x_, y_.}` on `{a}`
no_default_in_a_list : Trials (pattern flags (form (codes "List") ((named_as (codes "x") one_thing) ∷ (form (codes "Optional") ((named_as (codes "y") one_thing) ∷ [])) ∷ []))) (form (codes "List") (a ∷ []))
    ≡ Fail ∷ []
no_default_in_a_list = refl

-- `f[x_, y_]` on `f[a, b, c]`
flat_runs : Trials (pattern flags (form (codes "f") ((named_as (codes "x") one_thing) ∷ (named_as (codes "y") one_thing) ∷ []))) (form (codes "f") (a ∷ b ∷ c ∷ []))
    ≡ Found (bound (codes "x") (a ∷ []) ∷ bound (codes "y") ((form (codes "f") (b ∷ c ∷ [])) ∷ []) ∷ [])
    ∷ Found (bound (codes "x") ((form (codes "f") (a ∷ b ∷ [])) ∷ []) ∷ bound (codes "y") (c ∷ []) ∷ []) ∷ []
flat_runs = refl

-- `o[x__, y_]` on `o[a, b, c]`
picks_in_order : Trials (pattern flags (form (codes "o") ((named_as (codes "x") some_things) ∷ (named_as (codes "y") one_thing) ∷ []))) (form (codes "o") (a ∷ b ∷ c ∷ []))
    ≡ Found (bound (codes "x") (a ∷ b ∷ []) ∷ bound (codes "y") (c ∷ []) ∷ [])
    ∷ Found (bound (codes "x") (a ∷ c ∷ []) ∷ bound (codes "y") (b ∷ []) ∷ [])
    ∷ Found (bound (codes "x") (b ∷ c ∷ []) ∷ bound (codes "y") (a ∷ []) ∷ []) ∷ []
picks_in_order = refl

-- `g[x_, y_]` on `g[a, b, c]`
flat_and_orderless : Trials (pattern flags (form (codes "g") ((named_as (codes "x") one_thing) ∷ (named_as (codes "y") one_thing) ∷ []))) (form (codes "g") (a ∷ b ∷ c ∷ []))
    ≡ Found (bound (codes "x") (a ∷ []) ∷ bound (codes "y") ((form (codes "g") (b ∷ c ∷ [])) ∷ []) ∷ [])
    ∷ Found (bound (codes "x") (b ∷ []) ∷ bound (codes "y") ((form (codes "g") (a ∷ c ∷ [])) ∷ []) ∷ [])
    ∷ Found (bound (codes "x") (c ∷ []) ∷ bound (codes "y") ((form (codes "g") (a ∷ b ∷ [])) ∷ []) ∷ [])
    ∷ Found (bound (codes "x") ((form (codes "g") (a ∷ b ∷ [])) ∷ []) ∷ bound (codes "y") (c ∷ []) ∷ [])
    ∷ Found (bound (codes "x") ((form (codes "g") (a ∷ c ∷ [])) ∷ []) ∷ bound (codes "y") (b ∷ []) ∷ [])
    ∷ Found (bound (codes "x") ((form (codes "g") (b ∷ c ∷ [])) ∷ []) ∷ bound (codes "y") (a ∷ []) ∷ []) ∷ []
flat_and_orderless = refl

-- `i[x_, y_:0]` on `b`
one_identity : Trials (pattern flags (form (codes "i") ((named_as (codes "x") one_thing) ∷ (form (codes "Optional") ((named_as (codes "y") one_thing) ∷ (natural 0) ∷ [])) ∷ []))) b
    ≡ Found (bound (codes "x") (b ∷ []) ∷ bound (codes "y") ((natural 0) ∷ []) ∷ []) ∷ []
one_identity = refl

-- `h[x_, y_:0]` on `b`
no_one_identity : Trials (pattern flags (form (codes "h") ((named_as (codes "x") one_thing) ∷ (form (codes "Optional") ((named_as (codes "y") one_thing) ∷ (natural 0) ∷ [])) ∷ []))) b
    ≡ Fail ∷ []
no_one_identity = refl

-- `q[x__, x__]` on `q[a, b, a, b]`
repeated_name_over_sequences : Trials (pattern flags (form (codes "q") ((named_as (codes "x") some_things) ∷ (named_as (codes "x") some_things) ∷ []))) (form (codes "q") (a ∷ b ∷ a ∷ b ∷ []))
    ≡ Fail
    ∷ Found (bound (codes "x") (a ∷ b ∷ []) ∷ [])
    ∷ Fail ∷ []
repeated_name_over_sequences = refl

-- `q[x_, x_]` on `q[a, b]`
repeated_name_differs : Trials (pattern flags (form (codes "q") ((named_as (codes "x") one_thing) ∷ (named_as (codes "x") one_thing) ∷ []))) (form (codes "q") (a ∷ b ∷ []))
    ≡ Fail ∷ []
repeated_name_differs = refl

-- `Verbatim[x_]` on `x_`
verbatim : Trials (pattern flags (form (codes "Verbatim") ((named_as (codes "x") one_thing) ∷ []))) (named_as (codes "x") one_thing)
    ≡ Found ([]) ∷ []
verbatim = refl

-- `q[(a | b)..]` on `q[a, b]`
alternatives_repeated : Trials (pattern flags (form (codes "q") ((form (codes "Repeated") ((form (codes "Alternatives") (a ∷ b ∷ [])) ∷ [])) ∷ []))) (form (codes "q") (a ∷ b ∷ []))
    ≡ Fail
    ∷ Found ([])
    ∷ Fail ∷ []
alternatives_repeated = refl

-- `q[a...]` on `q[]`
repeated_null : Trials (pattern flags (form (codes "q") ((form (codes "RepeatedNull") (a ∷ [])) ∷ []))) (form (codes "q") [])
    ≡ Found ([]) ∷ []
repeated_null = refl

-- `q[_Integer, _Symbol, _q]` on `q[1, a, q[]]`
heads_of_blanks : Trials (pattern flags (form (codes "q") ((form (codes "Blank") ((symbol (codes "Integer")) ∷ [])) ∷ (form (codes "Blank") ((symbol (codes "Symbol")) ∷ [])) ∷ (form (codes "Blank") (q ∷ [])) ∷ []))) (form (codes "q") ((natural 1) ∷ a ∷ (form (codes "q") []) ∷ []))
    ≡ Found ([]) ∷ []
heads_of_blanks = refl

-- `_Rational` on `1`
integer_is_no_rational : Trials (pattern flags (form (codes "Blank") ((symbol (codes "Rational")) ∷ []))) (natural 1)
    ≡ Fail ∷ []
integer_is_no_rational = refl

-- `x_[a]` on `q[a]`
head_is_a_pattern : Trials (pattern flags (applied (named_as (codes "x") one_thing) (a ∷ []))) (form (codes "q") (a ∷ []))
    ≡ Found (bound (codes "x") (q ∷ []) ∷ []) ∷ []
head_is_a_pattern = refl

-- `Except[a]` on `b`
except : Trials (pattern flags (form (codes "Except") (a ∷ []))) b
    ≡ Found (noted (refuses a) (b ∷ []) ∷ []) ∷ []
except = refl

-- `q[Except[a, x_]]` on `q[b]`
except_within : Trials (pattern flags (form (codes "q") ((form (codes "Except") (a ∷ (named_as (codes "x") one_thing) ∷ [])) ∷ []))) (form (codes "q") (b ∷ []))
    ≡ Found (bound (codes "x") (b ∷ []) ∷ noted (refuses a) (b ∷ []) ∷ []) ∷ []
except_within = refl

-- `q[x__?t]` on `q[a, b]`
test_of_a_run : Trials (pattern flags (form (codes "q") ((form (codes "PatternTest") ((named_as (codes "x") some_things) ∷ t ∷ [])) ∷ []))) (form (codes "q") (a ∷ b ∷ []))
    ≡ Found (bound (codes "x") (a ∷ b ∷ []) ∷ noted (applies t) (a ∷ b ∷ []) ∷ []) ∷ []
test_of_a_run = refl

-- `q[x_, y_:b, z_]` on `q[a, c]`
optional_of_two : Trials (pattern flags (form (codes "q") ((named_as (codes "x") one_thing) ∷ (form (codes "Optional") ((named_as (codes "y") one_thing) ∷ b ∷ [])) ∷ (named_as (codes "z") one_thing) ∷ []))) (form (codes "q") (a ∷ c ∷ []))
    ≡ Found (bound (codes "x") (a ∷ []) ∷ bound (codes "y") (b ∷ []) ∷ bound (codes "z") (c ∷ []) ∷ []) ∷ []
optional_of_two = refl

-- `q[x_:b, y___]` on `q[a]`
optional_present_first : Trials (pattern flags (form (codes "q") ((form (codes "Optional") ((named_as (codes "x") one_thing) ∷ b ∷ [])) ∷ (named_as (codes "y") any_things) ∷ []))) (form (codes "q") (a ∷ []))
    ≡ Found (bound (codes "x") (a ∷ []) ∷ bound (codes "y") [] ∷ [])
    ∷ Found (bound (codes "x") (b ∷ []) ∷ bound (codes "y") (a ∷ []) ∷ []) ∷ []
optional_present_first = refl

-- `HoldPattern[x_, y_]` on `HoldPattern[a, b]`
special_with_other_elements : Trials (pattern flags (form (codes "HoldPattern") ((named_as (codes "x") one_thing) ∷ (named_as (codes "y") one_thing) ∷ []))) (form (codes "HoldPattern") (a ∷ b ∷ []))
    ≡ Found (bound (codes "x") (a ∷ []) ∷ bound (codes "y") (b ∷ []) ∷ []) ∷ []
special_with_other_elements = refl

-- `o[x_, y_:c]` on `o[a]`
orderless_with_optional : Trials (pattern flags (form (codes "o") ((named_as (codes "x") one_thing) ∷ (form (codes "Optional") ((named_as (codes "y") one_thing) ∷ c ∷ [])) ∷ []))) (form (codes "o") (a ∷ []))
    ≡ Found (bound (codes "x") (a ∷ []) ∷ bound (codes "y") (c ∷ []) ∷ []) ∷ []
orderless_with_optional = refl
