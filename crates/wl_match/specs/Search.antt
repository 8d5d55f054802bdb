-- A search: the leaves in order, and the steps to the first.
use Rattle.std.specs.Prelude.{ℕ, ◌+◌, Bool, true, false, List, [], ◌∷◌, ◌++◌, Option, Some, None}
use Rattle.std.specs.Str.{bytes_eq}
use Rattle.wl_expr.specs.Tree.{Tree}
use Rattle.wl_expr.specs.Same.{same_lists}
use Rattle.wl_match.specs.Pattern.{Ask}

pub data Entry : Type 0 where
  bound : List ℕ → List Tree → Entry
  noted : Ask → List Tree → Entry

-- what a branch has bound and noted so far, in order
abbrev pub Trail : Type 0
Trail = List Entry

pub data Leaf : Type 0 where
  Fail : Leaf
  Found : Trail → Leaf

pub data Search : Type 0 where
  leaf : Leaf → Search
  later : Search → Search
  either : Search → Search → Search

abbrev pub leaves : Search → List Leaf
leaves (leaf l) = l ∷ []
leaves (later s) = leaves s
leaves (either a b) = leaves a ++ leaves b

abbrev pub height : Search → ℕ
height (leaf l) = 0
height (later s) = height s + 1
height (either a b) = height a + 1

-- what follows on a trail
abbrev pub Cont : Type 0
Cont = Trail → Search

abbrev pub fail : Search
fail = leaf Fail

abbrev pub found : Cont
found e = leaf (Found e)

abbrev pub guard : Bool → Cont → Cont
guard true k e = later (k e)
guard false k e = fail

abbrev pub or_else : Search → Option Search → Search
or_else a None = later a
or_else a (Some b) = either a b

abbrev pub or_fail : Option Search → Search
or_fail None = fail
or_fail (Some s) = s

abbrev pub keep : Bool → List Tree → Option (List Tree) → Option (List Tree)
keep true r o = Some r
keep false r o = o

abbrev pub run_of : List ℕ → Trail → Option (List Tree)
run_of x [] = None
run_of x (bound y r ∷ e) = keep (bytes_eq x y) r (run_of x e)
run_of x (noted t r ∷ e) = run_of x e

abbrev pub bind_on : Option (List Tree) → List ℕ → List Tree → Cont → Cont
bind_on None x r k e = later (k (e ++ bound x r ∷ []))
bind_on (Some s) x r k e = guard (same_lists s r) k e

abbrev pub bind : List ℕ → List Tree → Cont → Cont
bind x r k e = bind_on (run_of x e) x r k e

abbrev pub note : Ask → List Tree → Cont → Cont
note t r k e = later (k (e ++ noted t r ∷ []))
