-- Rows of a node, with what was seen of it.
use Rattle.std.proofs.Common.{◌≡◌, ◌≤◌, ◌-◌, List, [], ◌∷◌, length, reverse, take, Option, Some, None, sym, ap, ◌∙◌, arith}
use Rattle.indexmap.proofs.ReorderLemmas.{map-reverse}
use Rattle.std.proofs.lemmas.List.{length-map, take-map}
use Rattle.wl_expr.specs.Applied.{Applied, gives}
use Rattle.wl_expr.specs.Stamped.{Stamped, plain}
use Rattle.wl_expr.specs.Tree.{Tree, num, text, symbol, node, from_list_to_list}
use Rattle.wl_expr.specs.Words.{applied}
use Rattle.wl_lists.specs.Answers.{trees}
use Rattle.wl_lists.specs.Elements.{most_of}
use Rattle.wl_lists.specs.Nodes.{node_of, by_node, of_node, of_node_and}

-- a node, from what is seen of it
abbrev rebuilt : Tree → Option (Tree × List Tree) → Tree
rebuilt t None = t
rebuilt t (Some p) = applied p.0 p.1

pub seen_node : (e h : Tree) (ts : List Tree) → Some (h, ts) ≡ node_of e → e ≡ applied h ts
seen_node (num n) h ts q = cc
seen_node (text s) h ts q = cc
seen_node (symbol x) h ts q = cc
seen_node (node g us) h ts q = ap (node g) (sym (from_list_to_list us)) ∙ ap (rebuilt (node g us)) (sym q)

pub node_row : (f : Tree → List Tree → Applied) (xs : List Stamped) (e : Stamped) (h : Tree) (ts : List Tree) → xs ≡ e ∷ [] → Some (h, ts) ≡ node_of (plain e) → of_node f (trees xs) ≡ f h ts
node_row f xs e h ts x q = ap (λ ys. of_node f (trees ys)) x ∙ ap (by_node f) (sym q)

pub node_and_row : (f : Tree → List Tree → Tree → Applied) (xs : List Stamped) (e y : Stamped) (h : Tree) (ts : List Tree) → xs ≡ e ∷ y ∷ [] → Some (h, ts) ≡ node_of (plain e) → of_node_and f (trees xs) ≡ f h ts (plain y)
node_and_row f xs e y h ts x q = ap (λ ys. of_node_and f (trees ys)) x ∙ ap (by_node (λ g us. f g us (plain y))) (sym q)

pub most_given : (h : Tree) (xs : List Stamped) → 1 ≤ length xs → most_of h (trees xs) ≡ gives (applied h (trees (take (length xs - 1) xs)))
most_given h [] l = absurd (omega arith)
most_given h (x ∷ xs) l =
    let n : length xs ≡ length (x ∷ xs) - 1 = omega arith in
    ap (λ n. gives (applied h (take n (trees (x ∷ xs))))) (length-map xs plain ∙ n) ∙ ap (λ ts. gives (applied h ts)) (take-map plain (length (x ∷ xs) - 1) (x ∷ xs))

pub reversed_trees : (xs : List Stamped) → trees (reverse xs) ≡ reverse (trees xs)
reversed_trees xs = map-reverse plain xs
