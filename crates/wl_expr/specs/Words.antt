-- Words on trees that the definitions of all crates share.
use Rattle.std.specs.Prelude.{ℕ, ℤ, pos, negsuc, Bool, true, false, ◌&&◌, ◌==◌, nat_le, List, [], ◌∷◌, Option, Some, None, codes, bytes_eq}
use Rattle.wl_exact.specs.Fraction.{of_int}
use Rattle.wl_expr.specs.Tree.{Tree, num, text, symbol, node, to_list, from_list, weight, depth}

abbrev pub Name : Type 0
Name = List ℕ

abbrev pub Bytes : Type 0
Bytes = List ℕ

-- `f[t1, t2, ..]` of a name f
abbrev pub form : Name → List Tree → Tree
form f ts = node (symbol f) (from_list ts)

-- `h[t1, t2, ..]`
abbrev pub applied : Tree → List Tree → Tree
applied h ts = node h (from_list ts)

-- ---- what built-ins answer and look for

abbrev pub true_symbol : Tree
true_symbol = symbol (codes "True")

abbrev pub false_symbol : Tree
false_symbol = symbol (codes "False")

abbrev pub truth : Bool → Tree
truth true = true_symbol
truth false = false_symbol

abbrev pub null_symbol : Tree
null_symbol = symbol (codes "Null")

abbrev pub failed_symbol : Tree
failed_symbol = symbol (codes "$Failed")

abbrev pub aborted_symbol : Tree
aborted_symbol = symbol (codes "$Aborted")

abbrev pub overflow_form : Tree
overflow_form = form (codes "Overflow") []

abbrev pub list_of : List Tree → Tree
list_of ts = form (codes "List") ts

abbrev pub sequence_of : List Tree → Tree
sequence_of ts = form (codes "Sequence") ts

abbrev pub whole : ℤ → Tree
whole n = num (of_int n)

abbrev pub natural : ℕ → Tree
natural n = whole (pos n)

-- ---- tests

-- whether a tree is the symbol of this name
abbrev pub is_the : Name → Tree → Bool
is_the x (symbol y) = bytes_eq x y
is_the x t = false

abbrev pub is_true : Tree → Bool
is_true t = is_the (codes "True") t

abbrev pub is_false : Tree → Bool
is_false t = is_the (codes "False") t

-- whether a tree is a node with the symbol of this name as head
abbrev pub is_form : Name → Tree → Bool
is_form x (node h ts) = is_the x h
is_form x t = false

abbrev pub is_list : Tree → Bool
is_list t = is_form (codes "List") t

abbrev pub is_number : Tree → Bool
is_number (num n) = true
is_number t = false

abbrev pub is_text : Tree → Bool
is_text (text s) = true
is_text t = false

abbrev pub is_node : Tree → Bool
is_node (node h ts) = true
is_node t = false

-- whether a tree is an integer
abbrev pub is_int : Tree → Bool
is_int (num n) = n.den == 1
is_int t = false

-- ---- parts

abbrev pub name_of : Tree → Option Name
name_of (symbol x) = Some x
name_of t = None

-- the integer that a tree is
abbrev pub int_of : Tree → Option ℤ
int_of (num n) = elim (n.den == 1) [ true ↦ Some n.num | false ↦ None ]
int_of t = None

-- the integer from 0 up that a tree is
abbrev pub count_of_int : ℤ → Option ℕ
count_of_int (pos n) = Some n
count_of_int (negsuc n) = None

abbrev pub count_of : Tree → Option ℕ
count_of t = elim (int_of t) [ None ↦ None | Some n ↦ count_of_int n ]

-- the elements of a node; an atom has none
abbrev pub elements : Tree → List Tree
elements (node h ts) = to_list ts
elements t = []

-- the head of a tree; numbers, texts and symbols have the head of their kind
abbrev pub head_of : Tree → Tree
head_of (num n) = elim (n.den == 1) [ true ↦ symbol (codes "Integer") | false ↦ symbol (codes "Rational") ]
head_of (text s) = symbol (codes "String")
head_of (symbol x) = symbol (codes "Symbol")
head_of (node h ts) = h

-- the name that is a node's head
abbrev pub head_name : Tree → Option Name
head_name (node h ts) = name_of h
head_name t = None

-- the head of the head and so on, up to one that is no node
abbrev pub leftmost : Tree → Tree
leftmost (node h ts) = leftmost h
leftmost t = t

-- the names, where all are symbols
abbrev pub with_first : Option Name → Option (List Name) → Option (List Name)
with_first (Some x) (Some xs) = Some (x ∷ xs)
with_first _ _ = None

abbrev pub names_of : List Tree → Option (List Name)
names_of [] = Some []
names_of (t ∷ ts) = with_first (name_of t) (names_of ts)

-- ---- size

-- whether a tree is within the limits
abbrev pub fits : Tree → Bool
fits t = nat_le (weight t) 4000000 && nat_le (depth t) 1000
