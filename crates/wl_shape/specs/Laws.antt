-- What a few nodes are shaped to, and what stands in a few bodies where names are filled.
use Rattle.std.specs.Prelude.{◌≡◌, List, [], ◌∷◌, codes, bytes_eq}
use Rattle.std.specs.Map.{lookup}
use Rattle.wl_expr.specs.Tree.{Tree, symbol}
use Rattle.wl_expr.specs.Words.{Name, form, applied, natural, list_of, sequence_of}
use Rattle.wl_rules.specs.Attributes.{AttributeSet, no_attributes, with_all}
use Rattle.wl_rules.specs.declared.attribute.Attribute.TheVariants.{Flat, Listable, Orderless, SequenceHold}
use Rattle.wl_shape.specs.Shape.{rebuilt, threaded, uneven, shape}
use Rattle.wl_shape.specs.Fill.{Values, Runs, fill, fill_binding, given, replace, rename}

abbrev pub a : Tree
a = symbol (codes "a")

abbrev pub b : Tree
b = symbol (codes "b")

abbrev pub c : Tree
c = symbol (codes "c")

abbrev pub f : Tree
f = symbol (codes "f")

abbrev pub x : Tree
x = symbol (codes "x")

abbrev pub y : Tree
y = symbol (codes "y")

-- `y$`
abbrev pub y' : Tree
y' = symbol (codes "y$")

abbrev pub sum_of : Tree → Tree → Tree
sum_of t u = form (codes "Plus") (t ∷ u ∷ [])

abbrev pub flat_and_orderless : AttributeSet
flat_and_orderless = with_all no_attributes (Flat ∷ Orderless ∷ [])

abbrev pub listable_and_orderless : AttributeSet
listable_and_orderless = with_all no_attributes (Listable ∷ Orderless ∷ [])

-- `f[t, Sequence[a, Sequence[b]], c]`, where sequences are spliced and where they stay, and a sequence of an element with a Flat head
abbrev pub WorkedSplices : Type 0
WorkedSplices =
    (shape flat_and_orderless (symbol (codes "Plus")) (b ∷ sum_of a (natural 2) ∷ sequence_of (natural 1 ∷ []) ∷ []) ≡ rebuilt (form (codes "Plus") (natural 1 ∷ natural 2 ∷ a ∷ b ∷ [])))
    × (shape no_attributes f (sequence_of (a ∷ sequence_of (b ∷ []) ∷ []) ∷ c ∷ []) ≡ rebuilt (applied f (a ∷ b ∷ c ∷ [])))
    × (shape (with_all no_attributes (SequenceHold ∷ [])) f (sequence_of (a ∷ sequence_of (b ∷ []) ∷ []) ∷ []) ≡ rebuilt (applied f (sequence_of (a ∷ sequence_of (b ∷ []) ∷ []) ∷ [])))
    × (shape (with_all no_attributes (Flat ∷ [])) f (sequence_of (applied f (a ∷ []) ∷ []) ∷ []) ≡ rebuilt (applied f (a ∷ [])))
    × (shape (with_all no_attributes (Flat ∷ [])) f (applied f (applied f (a ∷ []) ∷ b ∷ []) ∷ []) ≡ rebuilt (applied f (a ∷ b ∷ [])))
    × (shape (with_all no_attributes (Flat ∷ [])) f (applied f (sequence_of (a ∷ []) ∷ []) ∷ []) ≡ rebuilt (applied f (sequence_of (a ∷ []) ∷ [])))

-- `f[{1, 2}, x]`, `f[{1}, {1, 2}]`, `f[x, {1}]` and `f[x, {}]`; what is threaded isn't sorted, what is uneven is
abbrev pub WorkedThreads : Type 0
WorkedThreads =
    (shape (with_all no_attributes (Listable ∷ [])) f (list_of (natural 1 ∷ natural 2 ∷ []) ∷ x ∷ []) ≡ threaded (list_of (applied f (natural 1 ∷ x ∷ []) ∷ applied f (natural 2 ∷ x ∷ []) ∷ [])))
    × (shape (with_all no_attributes (Listable ∷ [])) f (list_of (natural 1 ∷ []) ∷ list_of (natural 1 ∷ natural 2 ∷ []) ∷ [])
    ≡ uneven (applied f (list_of (natural 1 ∷ []) ∷ list_of (natural 1 ∷ natural 2 ∷ []) ∷ [])))
    × (shape listable_and_orderless f (x ∷ list_of (natural 1 ∷ []) ∷ []) ≡ threaded (list_of (applied f (x ∷ natural 1 ∷ []) ∷ [])))
    × (shape listable_and_orderless f (list_of (natural 1 ∷ natural 2 ∷ []) ∷ list_of (natural 1 ∷ []) ∷ [])
    ≡ uneven (applied f (list_of (natural 1 ∷ []) ∷ list_of (natural 1 ∷ natural 2 ∷ []) ∷ [])))
    × (shape (with_all no_attributes (Listable ∷ [])) f (x ∷ list_of [] ∷ []) ≡ threaded (list_of []))
    × (shape no_attributes f (list_of (natural 1 ∷ []) ∷ []) ≡ rebuilt (applied f (list_of (natural 1 ∷ []) ∷ [])))

abbrev pub WorkedShapes : Type 0
WorkedShapes = WorkedSplices × WorkedThreads

abbrev pub function_of : Tree → Tree → Tree
function_of p t = form (codes "Function") (p ∷ t ∷ [])

-- `p = v`
abbrev pub set_to : Tree → Tree → Tree
set_to p v = form (codes "Set") (p ∷ v ∷ [])

-- the tree for x
abbrev pub x_to : Tree → Values
x_to t = given (codes "x" ∷ []) (t ∷ [])

-- `Function[y, x + y]` and `Function[{y$, y}, x + y]`, with y for x; a parameter named x shadows it, and one that captures nothing stays
abbrev pub WorkedCaptures : Type 0
WorkedCaptures =
    (fill (x_to y) (function_of y (sum_of x y)) ≡ function_of y' (sum_of y y'))
    × (fill (x_to y) (function_of (list_of (y' ∷ y ∷ [])) (sum_of x y)) ≡ function_of (list_of (y' ∷ y' ∷ [])) (sum_of y y'))
    × (fill (x_to y) (function_of x (sum_of x y)) ≡ function_of x (sum_of x y))
    × (fill (x_to a) (function_of y (sum_of x y)) ≡ function_of y (sum_of a y))
    × (fill (x_to y) (function_of y y) ≡ function_of y y)
    × (fill (x_to (sum_of y y')) (function_of y (sum_of x y)) ≡ function_of (symbol (codes "y$$")) (sum_of (sum_of y y') (symbol (codes "y$$"))))

-- `Module[{x = x}, x]`, `With[{y = x}, x + y]`, `With[{x}, x]` and `Block[{x = 1}, x]`: initial values lie outside, a With without values and a Block are no scopes
abbrev pub WorkedScopes : Type 0
WorkedScopes =
    (fill (x_to a) (form (codes "Module") (list_of (set_to x x ∷ []) ∷ x ∷ [])) ≡ form (codes "Module") (list_of (set_to x a ∷ []) ∷ x ∷ []))
    × (fill (x_to y) (form (codes "With") (list_of (set_to y x ∷ []) ∷ sum_of x y ∷ [])) ≡ form (codes "With") (list_of (set_to y' y ∷ []) ∷ sum_of y y' ∷ []))
    × (fill (x_to a) (form (codes "With") (list_of (x ∷ []) ∷ x ∷ [])) ≡ form (codes "With") (list_of (a ∷ []) ∷ a ∷ []))
    × (fill (x_to (natural 5)) (form (codes "Block") (list_of (set_to x (natural 1) ∷ []) ∷ x ∷ [])) ≡ form (codes "Block") (list_of (set_to (natural 5) (natural 1) ∷ []) ∷ natural 5 ∷ []))

-- what names are bound to
abbrev pub runs : List (Name × List Tree) → Runs
runs rs z = lookup (bytes_eq z) rs

-- runs of no, one and two elements; of equal names the first counts, and only its value may capture; the names of the third Module
abbrev pub WorkedReplacements : Type 0
WorkedReplacements =
    (fill_binding (applied f (x ∷ y ∷ [])) (runs ((codes "x", []) ∷ (codes "y", a ∷ []) ∷ [])) ≡ applied f (sequence_of [] ∷ a ∷ []))
    × (fill_binding (applied x (y ∷ [])) (runs ((codes "x", a ∷ b ∷ []) ∷ [])) ≡ applied (sequence_of (a ∷ b ∷ [])) (y ∷ []))
    × (replace (sum_of x y) (codes "x" ∷ codes "x" ∷ []) (a ∷ b ∷ []) ≡ sum_of a y)
    × (replace (function_of y (sum_of x y)) (codes "x" ∷ codes "x" ∷ []) (a ∷ y ∷ []) ≡ function_of y (sum_of a y))
    × (rename (sum_of x (function_of x x)) (codes "x" ∷ []) 3 ≡ sum_of (symbol (codes "x$3")) (function_of x x))

abbrev pub WorkedFillings : Type 0
WorkedFillings = WorkedCaptures × WorkedScopes × WorkedReplacements
