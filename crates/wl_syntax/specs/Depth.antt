-- The depth of a syntax tree: 1 for an atom, and 1 for each operator, bracket or parenthesis. A chain counts once, but one of
-- `===` and `=!=` counts once for each of its pairs.
use Rattle.std.specs.Prelude.{ℕ, ◌+◌, max, if◌then◌else◌}
use Rattle.wl_syntax.specs.declared.operator.Infix.TheVariants.{Semi}
use Rattle.wl_syntax.specs.declared.chain.Link.{Link}
use Rattle.wl_syntax.specs.Chain.{is_sameness, form, link, continues, nests}
use Rattle.wl_syntax.specs.Table.{infix_level}
use Rattle.wl_syntax.specs.Tree.{Tree, leaf, paren, brace, call, part, before, after, last, between, Elems, none, more}

-- the depth of a pair, from those of its left side, of the pairs of its left side, and of its right side
abbrev pub joined_depth : Link → ℕ → ℕ → ℕ → ℕ
joined_depth k l p r = if continues k then max l (1 + r) else (if nests k then 1 + max p r else 1 + max l r)

-- a last `;` belongs to the chain that it ends
abbrev pub last_depth : Link → ℕ → ℕ
last_depth k l = if continues k then l else 1 + l

abbrev mutual
  pub depth : Tree → ℕ
  depth (leaf a) = 1
  depth (paren t) = 1 + depth t
  depth (brace xs) = 1 + depths xs
  depth (call f xs) = 1 + max (depth f) (depths xs)
  depth (part f xs t) = 1 + max (max (depth f) (depths xs)) (depth t)
  depth (before o t) = 1 + depth t
  depth (after t o) = 1 + depth t
  depth (last t) = last_depth (link Semi (form t)) (depth t)
  depth (between l o r) = joined_depth (link o (form l)) (depth l) (pairs l) (depth r)

  pub depths : Elems → ℕ
  depths none = 0
  depths (more xs t) = max (depths xs) (depth t)

  -- the depth of a chain of `===` and `=!=` as nested pairs
  pub pairs : Tree → ℕ
  pairs (between l o r) = if is_sameness (infix_level o) then 1 + max (pairs l) (depth r) else joined_depth (link o (form l)) (depth l) (pairs l) (depth r)
  pairs (leaf a) = 1
  pairs (paren t) = 1 + depth t
  pairs (brace xs) = 1 + depths xs
  pairs (call f xs) = 1 + max (depth f) (depths xs)
  pairs (part f xs t) = 1 + max (max (depth f) (depths xs)) (depth t)
  pairs (before o t) = 1 + depth t
  pairs (after t o) = 1 + depth t
  pairs (last t) = last_depth (link Semi (form t)) (depth t)

-- the greatest depth of a syntax tree
abbrev pub max_depth : ℕ
max_depth = 400
