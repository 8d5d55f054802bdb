-- A choice whose test is known.
use Rattle.std.proofs.Common.{◌≡◌, Bool, true, false, cond, not, Option, Some, None, Result, Ok, Err, is_some, option_map, refl, sym, subst}
use Rattle.std.specs.Prelude.{OnOk, OnErr}
use Rattle.std.specs.Bool.{OnTrue}

pub pick_true : {X : Type 0} (b : Bool) (u v : X) → b ≡ true → cond b u v ≡ u
pick_true true u v p = refl
pick_true false u v p = cc

pub pick_false : {X : Type 0} (b : Bool) (u v z : X) → b ≡ false → v ≡ z → cond b u v ≡ z
pick_false true u v z p q = cc
pick_false false u v z p q = q

pub pick_again : {X : Type 0} (a b : Bool) (w u v : X) → a ≡ b → cond a w v ≡ cond b w (cond a u v)
pick_again true true w u v p = refl
pick_again true false w u v p = cc
pick_again false true w u v p = cc
pick_again false false w u v p = refl

-- nothing is picked: so the test fails, and the rest has nothing
pub none_picked : {X : Type 0} (b : Bool) (u : X) (v : Option X) → cond b (Some u) v ≡ None → (b ≡ false) × (v ≡ None)
none_picked true u v p = cc
none_picked false u v p = (refl, p)

pub either_true : (b c : Bool) → c ≡ true → cond b true c ≡ true
either_true true c p = refl
either_true false c p = p

pub not_true : (b : Bool) → not b ≡ true → b ≡ false
not_true true p = cc
not_true false p = refl

-- what holds of both outcomes
pub by_outcome : {T E X : Type 0} (P : X → Type 0) (r : Result T E) (x y z : X) → OnOk r (x ≡ y) → OnErr r (x ≡ z) → P y → P z → P x
by_outcome P (Ok v) x y z p q a b = subst P (sym p) a
by_outcome P (Err e) x y z p q a b = subst P (sym q) b

pub is_some-option_map : {X Y : Type 0} (f : X → Y) (o : Option X) → is_some o ≡ is_some (option_map f o)
is_some-option_map f None = refl
is_some-option_map f (Some x) = refl

pub on_true : {P : Type 0} (b : Bool) → b ≡ true → OnTrue b P → P
on_true true h p = p
on_true false h p = cc
