-- How three answers of an order go together: of a and b, of b and c, and of a and c.
use Rattle.std.proofs.Common.{◌≡◌, ◌≢◌, List, [], ◌∷◌, refl, sym}
use Rattle.std.proofs.lemmas.Cmp.{alike_right}
use Rattle.std.proofs.lemmas.List.Elements.{All-head, All-tail}
use Rattle.std.specs.Cmp.{IsTotalOrder}
use Rattle.std.specs.Cmp.Lexicographic.{slice_cmp}
use Rattle.std.specs.List.{All}
use Rattle.std.specs.Ordering.{ordering_then, ordering_reverse}
use Rattle.std.specs.declared.cmp.Ordering.{Ordering}
use Rattle.std.specs.declared.cmp.Ordering.TheVariants.{Less, Equal, Greater}

-- equal values stand alike to any other, and less is transitive
pub record Chain (x y z : Ordering) : Type 0 where
  pub alike_left : x ≡ Equal → z ≡ y
  pub alike_right : y ≡ Equal → z ≡ x
  pub less : x ≡ Less → y ≡ Less → z ≡ Less

-- in a total order they always go together
pub total_chain : {K : Type 0} {R : K → K → Ordering} → IsTotalOrder R → (a b c : K) → Chain (R a b) (R b c) (R a c)
total_chain {R = R} o a b c = record { alike_left = λ e. o.congr a b c e; alike_right = λ e. sym (alike_right o b c a e); less = o.trans a b c }

-- one answer is Less or Greater, and says enough of the third
pub less_any : (y : Ordering) → Chain Less y Less
less_any y = record { alike_left = λ e. cc; alike_right = λ e. cc; less = λ e f. cc }

pub any_less : (x : Ordering) → Chain x Less Less
any_less x = record { alike_left = λ e. cc; alike_right = λ e. cc; less = λ e f. cc }

pub greater_any : (y : Ordering) → Chain Greater y Greater
greater_any y = record { alike_left = λ e. cc; alike_right = λ e. cc; less = λ e f. cc }

pub any_greater : (x : Ordering) → Chain x Greater Greater
any_greater x = record { alike_left = λ e. cc; alike_right = λ e. cc; less = λ e f. cc }

-- they are opposite, and say nothing of the third
pub less_greater : (z : Ordering) → Chain Less Greater z
less_greater z = record { alike_left = λ e. cc; alike_right = λ e. cc; less = λ e f. cc }

pub greater_less : (z : Ordering) → Chain Greater Less z
greater_less z = record { alike_left = λ e. cc; alike_right = λ e. cc; less = λ e f. cc }

pub equal_chain : Chain Equal Equal Equal
equal_chain = record { alike_left = λ e. cc; alike_right = λ e. cc; less = λ e f. cc }

-- one order and then another
pub then_chain : (x y z u v w : Ordering) → Chain x y z → Chain u v w → Chain (ordering_then x u) (ordering_then y v) (ordering_then z w)
then_chain Less Less z u v w p q = rw (p.less refl refl) (less_any Less)
then_chain Less Equal z u v w p q = rw (p.alike_right refl) (less_any v)
then_chain Less Greater z u v w p q = less_greater (ordering_then z w)
then_chain Equal Less z u v w p q = rw (p.alike_left refl) (any_less u)
then_chain Equal Equal z u v w p q = rw (p.alike_left refl) q
then_chain Equal Greater z u v w p q = rw (p.alike_left refl) (any_greater u)
then_chain Greater Less z u v w p q = greater_less (ordering_then z w)
then_chain Greater Equal z u v w p q = rw (p.alike_right refl) (greater_any v)
then_chain Greater Greater z u v w p q = record { alike_left = λ e. cc; alike_right = λ e. cc; less = λ e f. cc }

-- lists, element by element
pub list_chain : {X : Type 0} (P : X → Type 0) (R : X → X → Ordering) → ((x y z : X) → P x → P y → P z → Chain (R x y) (R y z) (R x z))
    → (xs ys zs : List X) → All P xs → All P ys → All P zs → Chain (slice_cmp R xs ys) (slice_cmp R ys zs) (slice_cmp R xs zs)
list_chain P R h [] [] [] p q r = equal_chain
list_chain P R h [] [] (z ∷ zs) p q r = any_less Equal
list_chain P R h [] (y ∷ ys) [] p q r = less_greater Equal
list_chain P R h [] (y ∷ ys) (z ∷ zs) p q r = less_any _
list_chain P R h (x ∷ xs) [] [] p q r = greater_any Equal
list_chain P R h (x ∷ xs) [] (z ∷ zs) p q r = greater_less _
list_chain P R h (x ∷ xs) (y ∷ ys) [] p q r = any_greater _
list_chain P R h (x ∷ xs) (y ∷ ys) (z ∷ zs) p q r =
    then_chain (R x y) (R y z) (R x z) _ _ _ (h x y z (All-head P x xs p) (All-head P y ys q) (All-head P z zs r))
    (list_chain P R h xs ys zs (All-tail P x xs p) (All-tail P y ys q) (All-tail P z zs r))

-- one order and then another, the other way round
pub then_reverse : (x y u v : Ordering) → y ≡ ordering_reverse x → v ≡ ordering_reverse u → ordering_then y v ≡ ordering_reverse (ordering_then x u)
then_reverse Less y u v p q = rw p refl
then_reverse Equal y u v p q = rw p q
then_reverse Greater y u v p q = rw p refl

pub list_reverse : {X : Type 0} (R : X → X → Ordering) → ((x y : X) → R y x ≡ ordering_reverse (R x y)) → (xs ys : List X) → slice_cmp R ys xs ≡ ordering_reverse (slice_cmp R xs ys)
list_reverse R h [] [] = refl
list_reverse R h [] (y ∷ ys) = refl
list_reverse R h (x ∷ xs) [] = refl
list_reverse R h (x ∷ xs) (y ∷ ys) = then_reverse (R x y) (R y x) _ _ (h x y) (list_reverse R h xs ys)

-- both are Equal
pub then_equal : (x u : Ordering) → ordering_then x u ≡ Equal → (x ≡ Equal) × (u ≡ Equal)
then_equal Less u e = absurd (let no : Less ≡ Equal = e in cc)
then_equal Equal u e = (refl, e)
then_equal Greater u e = absurd (let no : Greater ≡ Equal = e in cc)

-- what comes no later than a second, which comes no later than a third, comes no later than the third
pub chain_upto : (x y z : Ordering) → Chain x y z → x ≢ Greater → y ≢ Greater → z ≢ Greater
chain_upto Less Less z p n m = rw (p.less refl refl) n
chain_upto Equal y z p n m = rw (p.alike_left refl) m
chain_upto x Equal z p n m = rw (p.alike_right refl) n
chain_upto Greater y z p n m = absurd (n refl)
chain_upto x Greater z p n m = absurd (m refl)

-- an answer that is its own opposite
pub own_opposite : (x : Ordering) → x ≡ ordering_reverse x → x ≡ Equal
own_opposite Less e = cc
own_opposite Equal e = refl
own_opposite Greater e = cc
