-- A cell has one answer at most, want of memory apart.
use Rattle.std.proofs.Common.{ℕ, zero, suc, ◌+◌, ◌<◌, ◌≤◌, ◌≡◌, List, Some, None, refl, sym, ap, ◌∙◌, subst, arith}
use Rattle.wl_scan.specs.declared.token.ScanFault.{ScanFault}
use Rattle.wl_syntax.specs.declared.fault.SyntaxFault.{SyntaxFault}
use Rattle.wl_syntax.specs.declared.fault.SyntaxFault.TheVariants.{NotUtf8, Scan, Unclosed, Unexpected, TooDeep, Memory}
use Rattle.wl_syntax.specs.Parsed.{IsUnexpected}
use Rattle.wl_syntax.specs.Depth.{depth, max_depth}
use Rattle.wl_syntax.specs.Laws.{OneAnswer}
use Rattle.wl_syntax.specs.Reads.{HasTree, Refused, StandsAt}
use Rattle.wl_syntax.specs.Token.{Token}
use Rattle.wl_syntax.specs.Tree.{Tree}
use Rattle.wl_syntax.proofs.Reading.{same}

none_some : {A : Type 0} (a : A) → None ≡ Some a → ⊥
none_some a e = cc

scan_same : (f g : ScanFault) → Some f ≡ Some g → Scan f ≡ Scan g
scan_same f g e = cc

at_same : (k l : ℕ) → Some k ≡ Some l → Unexpected k ≡ Unexpected l
at_same k l e = cc

-- two trees of the same cell
one_tree : (bytes : List ℕ) (t u : Tree) → HasTree bytes t → HasTree bytes u → t ≡ u
one_tree bytes t u (s, (r, e)) (o, (q, d)) = same t u r q (e ∙ sym d)

-- two places of the same list
near : (p q : ℕ) → (p < q → ⊥) → (q < p → ⊥) → p ≡ q
near zero zero a b = refl
near zero (suc q) a b = absurd (a (omega arith))
near (suc p) zero a b = absurd (b (omega arith))
near (suc p) (suc q) a b = ap (λ n. suc n) (near p q (λ l. a (omega arith)) (λ l. b (omega arith)))

earlier : (ks : List Token) (p q : ℕ) → IsUnexpected ks p → IsUnexpected ks q → p < q → ⊥
earlier ks p q u v l = u.ends_it (v.before (p + 1) (omega arith))

place_same : (ks : List Token) (p q : ℕ) → IsUnexpected ks p → IsUnexpected ks q → p ≡ q
place_same ks p q u v = near p q (earlier ks p q u v) (earlier ks q p v u)

stands_same : (bytes : List ℕ) (p q k l : ℕ) → p ≡ q → StandsAt bytes p k → StandsAt bytes q l → Unexpected k ≡ Unexpected l
stands_same bytes p q k l e s r = at_same k l (sym s ∙ subst (λ i. StandsAt bytes i l) (sym e) r)

-- a cell with a tree that isn't too deep is not refused
not_refused : (bytes : List ℕ) (t : Tree) → HasTree bytes t → depth t ≤ max_depth → (f : SyntaxFault) → Refused bytes f → f ≡ Memory
not_refused bytes t h l NotUtf8 x = absurd (x h.0.0)
not_refused bytes t h l (Scan f) x = absurd (none_some f (sym h.0.1 ∙ x.1))
not_refused bytes t h l Unclosed x = absurd (x.1.0 t h.1)
not_refused bytes t h l (Unexpected k) x = absurd (x.1.1.no_tree t h.1)
not_refused bytes t h l TooDeep (u, g, m) = let e : depth t ≡ depth u = ap depth (one_tree bytes t u h g) in absurd (omega arith)
not_refused bytes t h l Memory x = refl

-- and each other one for one cause
one_cause : (bytes : List ℕ) (f g : SyntaxFault) → Refused bytes f → Refused bytes g → (f ≡ Memory → ⊥) → (g ≡ Memory → ⊥) → f ≡ g
one_cause bytes Memory g x y m n = absurd (m refl)
one_cause bytes NotUtf8 Memory x y m n = absurd (n refl)
one_cause bytes (Scan f) Memory x y m n = absurd (n refl)
one_cause bytes Unclosed Memory x y m n = absurd (n refl)
one_cause bytes (Unexpected k) Memory x y m n = absurd (n refl)
one_cause bytes TooDeep Memory x y m n = absurd (n refl)
one_cause bytes NotUtf8 NotUtf8 x y m n = refl
one_cause bytes NotUtf8 (Scan g) x y m n = absurd (x y.0)
one_cause bytes NotUtf8 Unclosed x y m n = absurd (x y.0.0)
one_cause bytes NotUtf8 (Unexpected l) x y m n = absurd (x y.0.0)
one_cause bytes NotUtf8 TooDeep x y m n = absurd (x y.1.0.0)
one_cause bytes (Scan f) NotUtf8 x y m n = absurd (y x.0)
one_cause bytes (Scan f) (Scan g) x y m n = scan_same f g (sym x.1 ∙ y.1)
one_cause bytes (Scan f) Unclosed x y m n = absurd (none_some f (sym y.0.1 ∙ x.1))
one_cause bytes (Scan f) (Unexpected l) x y m n = absurd (none_some f (sym y.0.1 ∙ x.1))
one_cause bytes (Scan f) TooDeep x y m n = absurd (none_some f (sym y.1.0.1 ∙ x.1))
one_cause bytes Unclosed NotUtf8 x y m n = absurd (y x.0.0)
one_cause bytes Unclosed (Scan g) x y m n = absurd (none_some g (sym x.0.1 ∙ y.1))
one_cause bytes Unclosed Unclosed x y m n = refl
one_cause bytes Unclosed (Unexpected l) x y m n = absurd (y.1.1.not_viable x.1.1)
one_cause bytes Unclosed TooDeep x y m n = absurd (x.1.0 y.0 y.1.1)
one_cause bytes (Unexpected k) NotUtf8 x y m n = absurd (y x.0.0)
one_cause bytes (Unexpected k) (Scan g) x y m n = absurd (none_some g (sym x.0.1 ∙ y.1))
one_cause bytes (Unexpected k) Unclosed x y m n = absurd (x.1.1.not_viable y.1.1)
one_cause bytes (Unexpected k) (Unexpected l) x y m n = stands_same bytes x.1.0 y.1.0 k l (place_same _ x.1.0 y.1.0 x.1.1 y.1.1) x.1.2 y.1.2
one_cause bytes (Unexpected k) TooDeep x y m n = absurd (x.1.1.no_tree y.0 y.1.1)
one_cause bytes TooDeep NotUtf8 x y m n = absurd (y x.1.0.0)
one_cause bytes TooDeep (Scan g) x y m n = absurd (none_some g (sym x.1.0.1 ∙ y.1))
one_cause bytes TooDeep Unclosed x y m n = absurd (y.1.0 x.0 x.1.1)
one_cause bytes TooDeep (Unexpected l) x y m n = absurd (y.1.1.no_tree x.0 x.1.1)
one_cause bytes TooDeep TooDeep x y m n = refl

pub one_answer : OneAnswer
one_answer = (one_tree, not_refused, one_cause)
