-- Chains: operators of one level in a row, without parentheses, as they are read from the left.
use Rattle.std.specs.Prelude.{ℕ, Bool, true, false, ◌&&◌, ◌||◌, ◌==◌, if◌then◌else◌}
use Rattle.std.specs.Str.{bytes_eq}
use Rattle.wl_syntax.specs.declared.operator.Infix.{Infix}
use Rattle.wl_syntax.specs.declared.operator.Infix.TheVariants.{Set, SetDelayed}
use Rattle.wl_syntax.specs.declared.operator.Postfix.TheVariants.{Unset}
use Rattle.wl_syntax.specs.declared.chain.Form.{Form}
use Rattle.wl_syntax.specs.declared.chain.Form.TheVariants.{Other, Name, Chain, Inequality, Nested, Defines}
use Rattle.wl_syntax.specs.declared.chain.Tagged.TheVariants.{TagSet, TagSetDelayed, TagUnset}
use Rattle.wl_syntax.specs.declared.chain.Link.{Link}
use Rattle.wl_syntax.specs.declared.chain.Link.TheVariants.{Alone, Starts, GoesOn, Mixes, MixesOn, Nests, NestsOn}
use Rattle.wl_syntax.specs.Table.{semi_level, infix_level, infix_name}
use Rattle.wl_syntax.specs.Token.{name}
use Rattle.wl_syntax.specs.Tree.{Tree, leaf, after, between}

abbrev pub is_comparison : ℕ → Bool
is_comparison n = n == 14

abbrev pub is_sameness : ℕ → Bool
is_sameness n = n == 15

abbrev pub is_chain : ℕ → Bool
is_chain n = (n == 8) || ((n == 12) || ((n == 13) || ((n == 14) || ((n == 15) || ((n == 17) || ((n == 18) || ((n == 20) || ((n == 22) || (n == semi_level)))))))))

-- o behind a chain of p: the same head goes on; comparisons of several kinds make one inequality; samenesses of several
-- kinds nest to the left
abbrev pub link_to_chain : Infix → Infix → Link
link_to_chain o p =
    if bytes_eq (infix_name p) (infix_name o) then GoesOn
    else (if is_comparison (infix_level o) && is_comparison (infix_level p) then Mixes p
    else (if is_sameness (infix_level o) && is_sameness (infix_level p) then Nests p else Starts))

abbrev pub link_of_chain : Infix → Form → Link
link_of_chain o (Chain p) = link_to_chain o p
link_of_chain o Inequality = if is_comparison (infix_level o) then MixesOn else Starts
link_of_chain o Nested = if is_sameness (infix_level o) then NestsOn else Starts
link_of_chain o _ = Starts

-- how o joins a left side of this form
abbrev pub link : Infix → Form → Link
link o f = if is_chain (infix_level o) then link_of_chain o f else Alone

-- the form of an operator that is no chain
abbrev pub alone : Infix → Form
alone Set = Defines TagSet
alone SetDelayed = Defines TagSetDelayed
alone _ = Other

abbrev pub linked : Infix → Link → Form
linked o Alone = alone o
linked o Starts = Chain o
linked o GoesOn = Chain o
linked o (Mixes p) = Inequality
linked o MixesOn = Inequality
linked o (Nests p) = Nested
linked o NestsOn = Nested

-- what stands at the top of a tree, without parentheses
abbrev pub form : Tree → Form
form (leaf (name _)) = Name
form (between l o r) = linked o (link o (form l))
form (after t Unset) = Defines TagUnset
form _ = Other

-- whether the chain on the left goes on
abbrev pub continues : Link → Bool
continues Alone = false
continues Starts = false
continues GoesOn = true
continues (Mixes p) = true
continues MixesOn = true
continues (Nests p) = false
continues NestsOn = false

abbrev pub nests : Link → Bool
nests (Nests p) = true
nests _ = false
