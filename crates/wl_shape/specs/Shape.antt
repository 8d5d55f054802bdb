-- The shape of a node once its head and elements stand: splicing, threading, sorting. Tutorial on the standard evaluation procedure, its steps on SequenceHold, Flat, Listable and Orderless.
use Rattle.std.specs.Prelude.{ℕ, zero, suc, ◌+◌, Bool, true, false, ◌||◌, ◌&&◌, nat_eq, List, [], ◌∷◌, ◌++◌, length, map, get_or, Option, Some, None, codes}
use Rattle.wl_expr.specs.Tree.{Tree, Trees, node, none, more, symbol}
use Rattle.wl_expr.specs.Same.{same}
use Rattle.wl_expr.specs.Sorted.{sorted}
use Rattle.wl_expr.specs.Words.{applied, is_list, elements, list_of}
use Rattle.wl_rules.specs.Attributes.{AttributeSet}

pub data Shaped : Type 0 where
  rebuilt : Tree → Shaped  -- the rebuilt form
  threaded : Tree → Shaped  -- the list of the nodes with corresponding elements
  uneven : Tree → Shaped  -- the rebuilt form, where lists have different lengths

-- the tree of each
abbrev pub shaped_tree : Shaped → Tree
shaped_tree (rebuilt t) = t
shaped_tree (threaded t) = t
shaped_tree (uneven t) = t

-- elements with this head are replaced by their elements, again and again
abbrev mutual
  pub spliced : Tree → Tree → List Tree
  spliced h (node k ts) = elim (same h k) [ true ↦ spliced_all h ts | false ↦ node k ts ∷ [] ]
  spliced h t = t ∷ []

  pub spliced_all : Tree → Trees → List Tree
  spliced_all h none = []
  spliced_all h (more t ts) = spliced h t ++ spliced_all h ts

abbrev pub spliced_list : Tree → List Tree → List Tree
spliced_list h [] = []
spliced_list h (t ∷ ts) = spliced h t ++ spliced_list h ts

-- unless SequenceHold or HoldAllComplete, sequences are spliced
abbrev pub without_sequences : AttributeSet → List Tree → List Tree
without_sequences a es = elim (a.sequence_hold || a.hold_all_complete) [ true ↦ es | false ↦ spliced_list (symbol (codes "Sequence")) es ]

-- under Flat, elements whose head is identical to the head are spliced
abbrev pub flattened : AttributeSet → Tree → List Tree → List Tree
flattened a h es = elim a.flat [ true ↦ spliced_list h es | false ↦ es ]

-- under Orderless, the elements are sorted
abbrev pub ordered : AttributeSet → List Tree → List Tree
ordered a es = elim a.orderless [ true ↦ sorted es | false ↦ es ]

-- what stands for an element in the k-th node: of a list its k-th element, of any other the element itself
abbrev pub corresponding : ℕ → Tree → Tree
corresponding k e = elim (is_list e) [ true ↦ get_or (elements e) k e | false ↦ e ]

abbrev pub threads : Tree → List Tree → ℕ → ℕ → List Tree
threads h es k zero = []
threads h es k (suc n) = applied h (map (corresponding k) es) ∷ threads h es (k + 1) n

-- the length of the first list among the elements
abbrev pub first_length : List Tree → Option ℕ
first_length [] = None
first_length (t ∷ ts) = elim (is_list t) [ true ↦ Some (length (elements t)) | false ↦ first_length ts ]

-- whether the lists among the elements have this length
abbrev pub lists_have : ℕ → List Tree → Bool
lists_have n [] = true
lists_have n (t ∷ ts) = elim (is_list t) [ true ↦ nat_eq (length (elements t)) n && lists_have n ts | false ↦ lists_have n ts ]

-- by the length of the first list, where there is one
abbrev pub thread_by : Option ℕ → AttributeSet → Tree → List Tree → Shaped
thread_by None a h es = rebuilt (applied h (ordered a es))
thread_by (Some n) a h es = elim (lists_have n es) [ true ↦ threaded (list_of (threads h es 0 n)) | false ↦ uneven (applied h (ordered a es)) ]

-- under Listable, nodes with corresponding elements
abbrev pub thread : AttributeSet → Tree → List Tree → Shaped
thread a h es = elim a.listable [ true ↦ thread_by (first_length es) a h es | false ↦ thread_by None a h es ]

-- the whole
abbrev pub shape : AttributeSet → Tree → List Tree → Shaped
shape a h es = thread a h (flattened a h (without_sequences a es))
