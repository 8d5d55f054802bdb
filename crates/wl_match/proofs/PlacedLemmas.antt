-- Where the flags in a list are those of the names, the patterns by places are those by names.
use Rattle.std.proofs.Common.{◌≡◌, ℕ, ◌+◌, List, [], ◌++◌, length, map, refl, sym, ap, ◌∙◌, append_assoc, length-append, arith}
use Rattle.std.proofs.Math.Seq.{get_or-append_seam}
use Rattle.std.proofs.lemmas.List.{append-nil, map-append, length-map}
use Rattle.wl_expr.specs.Tree.{Tree, Trees, num, text, symbol, node, none, more}
use Rattle.wl_expr.specs.Words.{Name}
use Rattle.wl_match.specs.declared.flags.Flags.{Flags}
use Rattle.wl_match.specs.Heads.{head_symbol, heads, heads_in, heads_above}
use Rattle.wl_match.specs.Pattern.{Pat, Pats, also, no_flags, pattern, patterns, read_node, read_special, nodes}
use Rattle.wl_match.specs.Placed.{flags_at, placed, placed_in}

read_own : (f : Name → Flags) (fs : List Flags) (k : ℕ) (pre post : List Flags) (h : Tree) (ts : Trees) (hp : Pat) (ps : Pats) → fs ≡ pre ++ (map f (head_symbol h) ++ post) → k ≡ length pre → read_node (λ s. flags_at fs k) h ts hp ps ≡ read_node f h ts hp ps
read_own f fs k pre post (symbol s) ts hp ps e n =
    ap (λ g. read_special s ts ps (nodes g (symbol s) hp ps)) ((λ i. flags_at (e i) (n i)) ∙ get_or-append_seam pre (f s) post no_flags)
read_own f fs k pre post (num v) ts hp ps e n = refl
read_own f fs k pre post (text v) ts hp ps e n = refl
read_own f fs k pre post (node g us) ts hp ps e n = refl

-- a list of three pieces, grouped anew
grouped : (f : Name → Flags) (pre post : List Flags) (xs ys : List Name) → pre ++ (map f (xs ++ ys) ++ post) ≡ (pre ++ map f xs) ++ (map f ys ++ post)
grouped f pre post xs ys =
    ap (λ zs. pre ++ (zs ++ post)) (map-append f xs ys) ∙ ap (λ zs. pre ++ zs) (append_assoc (map f xs) (map f ys) post) ∙ sym (append_assoc pre (map f xs) (map f ys ++ post))

left_of : (f : Name → Flags) (pre post : List Flags) (xs ys : List Name) → pre ++ (map f (xs ++ ys) ++ post) ≡ pre ++ (map f xs ++ (map f ys ++ post))
left_of f pre post xs ys = ap (λ zs. pre ++ (zs ++ post)) (map-append f xs ys) ∙ ap (λ zs. pre ++ zs) (append_assoc (map f xs) (map f ys) post)

moved : (f : Name → Flags) (k : ℕ) (pre : List Flags) (xs : List Name) → k ≡ length pre → k + length xs ≡ length (pre ++ map f xs)
moved f k pre xs e = omega (arith, length-append pre (map f xs), length-map xs f)

mutual
  placed_is : (f : Name → Flags) (fs : List Flags) (k : ℕ) (pre post : List Flags) (t : Tree) → fs ≡ pre ++ (map f (heads t) ++ post) → k ≡ length pre → placed fs k t ≡ pattern f t
  placed_is f fs k pre post (num n) e l = refl
  placed_is f fs k pre post (text s) e l = refl
  placed_is f fs k pre post (symbol s) e l = refl
  placed_is f fs k pre post (node h ts) e l =
      let own : fs ≡ pre ++ (map f (head_symbol h) ++ (map f (heads h ++ heads_in ts) ++ post)) = e ∙ left_of f pre post (head_symbol h) (heads h ++ heads_in ts) in
      let after : fs ≡ (pre ++ map f (head_symbol h)) ++ (map f (heads h ++ heads_in ts) ++ post) = e ∙ grouped f pre post (head_symbol h) (heads h ++ heads_in ts) in
      let top : fs ≡ (pre ++ map f (head_symbol h)) ++ (map f (heads h) ++ (map f (heads_in ts) ++ post)) = after ∙ left_of f (pre ++ map f (head_symbol h)) post (heads h) (heads_in ts) in
      let whole : fs ≡ pre ++ (map f (heads_above h ++ heads_in ts) ++ post) = e ∙ ap (λ zs. pre ++ (map f zs ++ post)) (sym (append_assoc (head_symbol h) (heads h) (heads_in ts))) in
      let below : fs ≡ (pre ++ map f (heads_above h)) ++ (map f (heads_in ts) ++ post) = whole ∙ grouped f pre post (heads_above h) (heads_in ts) in
      read_own f fs k pre (map f (heads h ++ heads_in ts) ++ post) h ts (placed fs (k + length (head_symbol h)) h) (placed_in fs (k + length (heads_above h)) ts) own l
      ∙ (λ i. read_node f h ts
      (placed_is f fs (k + length (head_symbol h)) (pre ++ map f (head_symbol h)) (map f (heads_in ts) ++ post) h top (moved f k pre (head_symbol h) l) i)
      (placed_in_is f fs (k + length (heads_above h)) (pre ++ map f (heads_above h)) post ts below (moved f k pre (heads_above h) l) i))

  placed_in_is : (f : Name → Flags) (fs : List Flags) (k : ℕ) (pre post : List Flags) (ts : Trees) → fs ≡ pre ++ (map f (heads_in ts) ++ post) → k ≡ length pre → placed_in fs k ts ≡ patterns f ts
  placed_in_is f fs k pre post none e l = refl
  placed_in_is f fs k pre post (more t ts) e l =
      let first : fs ≡ pre ++ (map f (heads t) ++ (map f (heads_in ts) ++ post)) = e ∙ left_of f pre post (heads t) (heads_in ts) in
      let rest : fs ≡ (pre ++ map f (heads t)) ++ (map f (heads_in ts) ++ post) = e ∙ grouped f pre post (heads t) (heads_in ts) in
      λ i. also (placed_is f fs k pre (map f (heads_in ts) ++ post) t first l i)
      (placed_in_is f fs (k + length (heads t)) (pre ++ map f (heads t)) post ts rest (moved f k pre (heads t) l) i)

pub placed_named : (f : Name → Flags) (fs : List Flags) (t : Tree) → fs ≡ map f (heads t) → placed fs 0 t ≡ pattern f t
placed_named f fs t e = placed_is f fs 0 [] [] t (e ∙ sym (append-nil (map f (heads t)))) refl
