-- Lists of goals that share what follows.
use Rattle.std.proofs.Common.{◌≡◌, ◌≢◌, ◌<◌, ◌≤◌, ◌-◌, ℕ, zero, suc, min, List, [], ◌∷◌, ◌++◌, length, get_or, refl, ap, sym, subst, ◌∙◌, arith, length-append, inl, inr}
use Rattle.std.proofs.Math.ListN.{get_or-append}
use Rattle.std.proofs.Math.Seq.{get_or-append_seam}
use Rattle.std.specs.List.{All}
use Rattle.std.proofs.lemmas.List.Elements.{All-get_or}
use Rattle.std.proofs.lemmas.Bool.{cases_lt}
use Rattle.wl_match.specs.declared.taken.Goal.{Goal}
use Rattle.wl_match.specs.declared.stack.Cell.{Cell}
use Rattle.wl_match.specs.Means.{link, chain, cell_at, no_cell, goals_at}

-- cells behind make no difference
pub chain_more : (cs ds : List Cell) (k n : ℕ) → k ≤ length cs → chain (cs ++ ds) k n ≡ chain cs k n
chain_more cs ds zero n h = refl
chain_more cs ds (suc k) n h =
    let c : cell_at (cs ++ ds) k ≡ cell_at cs k = get_or-append cs ds no_cell k (omega arith) in
    let l : k ≤ length cs = omega arith in
    λ i. link (n - k) (chain_more cs ds k n l i) ((c i).goal ∷ (chain_more cs ds k (cell_at (cs ++ ds) k).next l ∙ ap (λ z. chain cs k z.next) c) i)

here : (n k : ℕ) (a b : List Goal) → k < n → link (n - k) a b ≡ b
here n k a b h = let e : n - k ≡ suc (n - suc k) = omega arith in ap (λ z. link z a b) e

earlier : (n k : ℕ) (a b : List Goal) → n ≤ k → link (n - k) a b ≡ a
earlier n k a b h = let e : n - k ≡ 0 = omega arith in ap (λ z. link z a b) e

-- what is past the last is the last
clamped : (cs : List Cell) (k n : ℕ) → chain cs k n ≡ chain cs (min n k) (min n k)
clamped cs zero n = let e : min n 0 ≡ 0 = omega arith in ap (λ z. chain cs z z) (sym e)
clamped cs (suc k) n = elim (cases_lt k n) [
  | inl more ↦
      let e : min n (suc k) ≡ suc k = omega arith in
      let own = (cell_at cs k).goal ∷ chain cs k (cell_at cs k).next in
      here n k (chain cs k n) own more ∙ sym (here (suc k) k (chain cs k (suc k)) own (omega arith)) ∙ ap (λ z. chain cs z z) (sym e)
  | inr less ↦
      let e : min n (suc k) ≡ min n k = omega arith in
      earlier n k (chain cs k n) ((cell_at cs k).goal ∷ chain cs k (cell_at cs k).next) less ∙ clamped cs k n ∙ ap (λ z. chain cs z z) (sym e)
]

pub put_first : (cs ds : List Cell) (c : Cell) (n : ℕ) → ds ≡ cs ++ c ∷ [] → n ≡ length ds → goals_at ds n ≡ c.goal ∷ goals_at cs c.next
put_first cs ds c n e l =
    let k : length ds ≡ suc (length cs) = omega (arith, ap length e, length-append cs (c ∷ [])) in
    let m : n ≡ suc (length cs) = omega arith in
    let b : cell_at (cs ++ c ∷ []) (length cs) ≡ c = get_or-append_seam cs c [] no_cell in
    (λ i. chain (e i) (k i) (m i))
    ∙ here (suc (length cs)) (length cs) (chain (cs ++ c ∷ []) (length cs) (suc (length cs))) ((cell_at (cs ++ c ∷ []) (length cs)).goal ∷ chain (cs ++ c ∷ []) (length cs) (cell_at (cs ++ c ∷ []) (length cs)).next) (omega arith)
    ∙ (λ i. (b i).goal ∷ (chain_more cs (c ∷ []) (length cs) (cell_at (cs ++ c ∷ []) (length cs)).next (omega arith) ∙ ap (λ z. chain cs (length cs) z.next) b) i)

pub first_of : (cs : List Cell) (n m : ℕ) (c : Cell) → m ≡ min n (length cs) → 0 < m → c ≡ get_or cs (m - 1) c → goals_at cs n ≡ c.goal ∷ goals_at cs (min c.next (m - 1))
first_of cs n zero c e h g = absurd (omega arith)
first_of cs n (suc k) c e h g =
    let o : suc k - 1 ≡ k = omega arith in
    let l : k < length cs = omega arith in
    let b : cell_at cs k ≡ c = default_apart cs k no_cell c l ∙ ap (λ z. get_or cs z c) (sym o) ∙ sym g in
    let x : min (min c.next (suc k - 1)) (length cs) ≡ min c.next k = omega arith in
    clamped cs (length cs) n ∙ ap (λ z. chain cs z z) (sym e)
    ∙ here (suc k) k (chain cs k (suc k)) ((cell_at cs k).goal ∷ chain cs k (cell_at cs k).next) (omega arith)
    ∙ (λ i. (b i).goal ∷ chain cs k (b i).next)
    ∙ ap (λ z. c.goal ∷ z) (clamped cs k c.next ∙ ap (λ z. chain cs z z) (sym x) ∙ sym (clamped cs (length cs) (min c.next (suc k - 1))))
  where
    default_apart : (cs : List Cell) (k : ℕ) (c d : Cell) → k < length cs → get_or cs k c ≡ get_or cs k d
    default_apart [] k c d h = absurd (omega arith)
    default_apart (x ∷ cs) zero c d h = refl
    default_apart (x ∷ cs) (suc k) c d h = default_apart cs k c d (omega arith)

linked : (P : Goal → Type 0) (m : ℕ) (a : List Goal) (b g : Goal) (bs gs : List Goal) → link m a (b ∷ bs) ≡ g ∷ gs → (a ≡ g ∷ gs → P g) → P b → P g
linked P zero a b g bs gs e f h = f e
linked P (suc m) a b g bs gs e f h = let own : b ≡ g = cc in subst P own h

-- the first goal is that of a cell
pub in_chain : (P : Goal → Type 0) (cs : List Cell) (k n : ℕ) (g : Goal) (gs : List Goal) → k ≤ length cs → All (λ c. P c.goal) cs → chain cs k n ≡ g ∷ gs → P g
in_chain P cs zero n g gs l h e = cc
in_chain P cs (suc k) n g gs l h e =
    linked P (n - k) (chain cs k n) (cell_at cs k).goal g (chain cs k (cell_at cs k).next) gs e (λ x. in_chain P cs k n g gs (omega arith) h x) (All-get_or (λ c. P c.goal) cs k no_cell (omega arith) h)

pub none_first : (cs : List Cell) (n m : ℕ) → m ≡ min n (length cs) → m ≡ 0 → goals_at cs n ≡ []
none_first cs n m e z = clamped cs (length cs) n ∙ ap (λ w. chain cs w w) (sym e ∙ z)

pub goals_more : (cs : List Cell) (c : Cell) (n : ℕ) → n ≤ length cs → goals_at (cs ++ c ∷ []) n ≡ goals_at cs n
goals_more cs c n h =
    let k : length (cs ++ c ∷ []) ≡ suc (length cs) = omega (arith, length-append cs (c ∷ [])) in
    ap (λ z. chain (cs ++ c ∷ []) z n) k
    ∙ earlier n (length cs) (chain (cs ++ c ∷ []) (length cs) n) ((cell_at (cs ++ c ∷ []) (length cs)).goal ∷ chain (cs ++ c ∷ []) (length cs) (cell_at (cs ++ c ∷ []) (length cs)).next) h
    ∙ chain_more cs (c ∷ []) (length cs) n (omega arith)

pub first_is : (cs xs : List Cell) (n m n' : ℕ) (c : Cell) (g : Goal) → m ≡ min n (length xs) → m ≢ 0 → c ≡ get_or xs (m - 1) c → xs ≡ cs → g ≡ c.goal → n' ≡ min c.next (m - 1) → (goals_at cs n ≡ g ∷ goals_at cs n') × (n' ≤ length cs)
first_is cs xs n m n' c g e h f x p q =
    let l : m ≡ min n (length cs) = e ∙ ap (λ z. min n (length z)) x in
    (first_of cs n m c l (omega arith) (f ∙ ap (λ z. get_or z (m - 1) c) x) ∙ (λ i. sym p i ∷ goals_at cs (sym q i)), omega arith)
