-- One pass of Nest, NestList and FixedPoint.
use Rattle.std.proofs.Common.{◌≡◌, Bool, true, false, ℕ, zero, suc, ◌-◌, ◌<◌, List, [], ◌∷◌, ◌++◌, Result, refl, ap, sym, subst, ◌∙◌, arith}
use Rattle.std.specs.Prelude.{if◌then◌else◌}
use Rattle.wl_expr.specs.Same.{same, same_decides}
use Rattle.wl_expr.specs.Stamped.{Stamped, plain}
use Rattle.wl_expr.specs.Tree.{Tree}
use Rattle.wl_expr.specs.Words.{applied, list_of}
use Rattle.wl_expr.specs.declared.fault.ExprFault.{ExprFault}
use Rattle.wl_control.specs.Asks.{Asks, gives, stays, eval, pass}
use Rattle.wl_control.specs.Collected.{collected}
use Rattle.wl_control.specs.Families.{nest_from, nest_list_from, fixed_point_from}
use Rattle.wl_control.specs.Places.{IsAnswer, trees}
use Rattle.wl_control.specs.declared.place.Step.{Step}

-- the call of a function on a value, in a pass of its own
abbrev pub call_pass : Tree → Tree → (Tree → Asks) → Asks
call_pass f v k = pass (λ _. eval (applied f (v ∷ [])) k)

pub call_alike : (f g v : Stamped) (ns args : List Stamped) (k : Tree → Asks) (r : Result Step ExprFault) → g ≡ f → ns ≡ [] → args ≡ ns ++ v ∷ []
    → IsAnswer (pass (λ _. eval (applied (plain g) (trees args)) k)) r → IsAnswer (call_pass (plain f) (plain v) k) r
call_alike f g v ns args k r p m q h =
    let alone : args ≡ [] ++ v ∷ [] = q ∙ ap (λ (xs : List Stamped). xs ++ v ∷ []) m in
    subst (λ (xs : List Stamped). IsAnswer (pass (λ _. eval (applied (plain f) (trees xs)) k)) r) alone
    (subst (λ (e : Stamped). IsAnswer (pass (λ _. eval (applied (plain e) (trees args)) k)) r) p h)

-- ---- Nest

nest_zero : (f v : Tree) → nest_from f v 0 ≡ gives v
unfolding nest_from
nest_zero f v = refl

nest_suc : (f v : Tree) (n : ℕ) → 0 < n → nest_from f v n ≡ call_pass f v (λ w. nest_from f w (n - 1))
unfolding nest_from
nest_suc f v zero h = absurd (omega arith)
nest_suc f v (suc n) h = let e : n ≡ suc n - 1 = omega arith in ap (λ m. call_pass f v (λ w. nest_from f w m)) e

pub nest_ends : (f v : Tree) (n : ℕ) (r : Result Step ExprFault) → n ≡ 0 → IsAnswer (gives v) r → IsAnswer (nest_from f v n) r
nest_ends f v n r e h = subst (λ a. IsAnswer a r) (sym (ap (λ m. nest_from f v m) e ∙ nest_zero f v)) h

pub nest_begins : (f g v : Stamped) (ns args : List Stamped) (n : ℕ) (r : Result Step ExprFault) → 0 < n → g ≡ f → ns ≡ [] → args ≡ ns ++ v ∷ []
    → IsAnswer (pass (λ _. eval (applied (plain g) (trees args)) (λ w. nest_from (plain f) w (n - 1)))) r → IsAnswer (nest_from (plain f) (plain v) n) r
nest_begins f g v ns args n r l p m q h =
    subst (λ a. IsAnswer a r) (sym (nest_suc (plain f) (plain v) n l)) (call_alike f g v ns args (λ w. nest_from (plain f) w (n - 1)) r p m q h)

-- ---- NestList

nest_list_zero : (f : Tree) (found : List Tree) (v : Tree) → nest_list_from f found v 0 ≡ gives (list_of found)
unfolding nest_list_from
nest_list_zero f found v = refl

abbrev pub nest_list_again : Tree → List Tree → ℕ → Tree → Asks
nest_list_again f found n w = collected (found ++ w ∷ []) (λ more. nest_list_from f more w n)

nest_list_suc : (f : Tree) (found : List Tree) (v : Tree) (n : ℕ) → 0 < n → nest_list_from f found v n ≡ call_pass f v (nest_list_again f found (n - 1))
unfolding nest_list_from
nest_list_suc f found v zero h = absurd (omega arith)
nest_list_suc f found v (suc n) h = let e : n ≡ suc n - 1 = omega arith in ap (λ m. call_pass f v (nest_list_again f found m)) e

pub nest_list_ends : (f : Tree) (found es : List Stamped) (v : Tree) (n : ℕ) (r : Result Step ExprFault) → n ≡ 0 → es ≡ found
    → IsAnswer (gives (list_of (trees es))) r → IsAnswer (nest_list_from f (trees found) v n) r
nest_list_ends f found es v n r e q h =
    subst (λ a. IsAnswer a r) (sym (ap (λ m. nest_list_from f (trees found) v m) e ∙ nest_list_zero f (trees found) v))
    (subst (λ (xs : List Stamped). IsAnswer (gives (list_of (trees xs))) r) q h)

pub nest_list_begins : (f g v : Stamped) (found : List Tree) (ns args : List Stamped) (n : ℕ) (r : Result Step ExprFault) → 0 < n → g ≡ f → ns ≡ [] → args ≡ ns ++ v ∷ []
    → IsAnswer (pass (λ _. eval (applied (plain g) (trees args)) (nest_list_again (plain f) found (n - 1)))) r → IsAnswer (nest_list_from (plain f) found (plain v) n) r
nest_list_begins f g v found ns args n r l p m q h =
    subst (λ a. IsAnswer a r) (sym (nest_list_suc (plain f) found (plain v) n l)) (call_alike f g v ns args (nest_list_again (plain f) found (n - 1)) r p m q h)

-- ---- FixedPoint

fixed_point_zero : (f v : Tree) → fixed_point_from 0 f v ≡ stays
unfolding fixed_point_from
fixed_point_zero f v = refl

abbrev pub fixed_point_again : Tree → Tree → ℕ → Tree → Asks
fixed_point_again f v n w = if same w v then gives v else fixed_point_from n f w

fixed_point_suc : (f v : Tree) (n : ℕ) → 0 < n → fixed_point_from n f v ≡ call_pass f v (fixed_point_again f v (n - 1))
unfolding fixed_point_from
fixed_point_suc f v zero h = absurd (omega arith)
fixed_point_suc f v (suc n) h = let e : n ≡ suc n - 1 = omega arith in ap (λ m. call_pass f v (fixed_point_again f v m)) e

pub fixed_point_over : (f v : Tree) (n : ℕ) (r : Result Step ExprFault) → n ≡ 0 → IsAnswer stays r → IsAnswer (fixed_point_from n f v) r
fixed_point_over f v n r e h = subst (λ a. IsAnswer a r) (sym (ap (λ m. fixed_point_from m f v) e ∙ fixed_point_zero f v)) h

pub fixed_point_begins : (f g v : Stamped) (ns args : List Stamped) (n : ℕ) (r : Result Step ExprFault) → 0 < n → g ≡ f → ns ≡ [] → args ≡ ns ++ v ∷ []
    → IsAnswer (pass (λ _. eval (applied (plain g) (trees args)) (fixed_point_again (plain f) (plain v) (n - 1)))) r → IsAnswer (fixed_point_from n (plain f) (plain v)) r
fixed_point_begins f g v ns args n r l p m q h =
    subst (λ a. IsAnswer a r) (sym (fixed_point_suc (plain f) (plain v) n l)) (call_alike f g v ns args (fixed_point_again (plain f) (plain v) (n - 1)) r p m q h)

-- the value is the one before, or another
when_false : (b : Bool) → ¬ (b ≡ true) → b ≡ false
when_false true n = absurd (n refl)
when_false false n = refl

pub fixed_point_ends : (f v w : Tree) (n : ℕ) (r : Result Step ExprFault) → w ≡ v → IsAnswer (gives v) r → IsAnswer (fixed_point_again f v n w) r
fixed_point_ends f v w n r e h =
    subst (λ a. IsAnswer a r) (sym (ap (λ (b : Bool). if b then gives v else fixed_point_from n f w) ((same_decides w v).1 e))) h

pub fixed_point_goes_on : (f v : Tree) (w u : Stamped) (n : ℕ) (r : Result Step ExprFault) → ¬ (plain w ≡ v) → u ≡ w
    → IsAnswer (fixed_point_from n f (plain u)) r → IsAnswer (fixed_point_again f v n (plain w)) r
fixed_point_goes_on f v w u n r e q h =
    let other : same (plain w) v ≡ false = when_false (same (plain w) v) (λ t. e ((same_decides (plain w) v).0 t)) in
    let next : IsAnswer (fixed_point_from n f (plain w)) r = subst (λ (x : Stamped). IsAnswer (fixed_point_from n f (plain x)) r) q h in
    subst (λ a. IsAnswer a r) (sym (ap (λ (b : Bool). if b then gives v else fixed_point_from n f (plain w)) other)) next
