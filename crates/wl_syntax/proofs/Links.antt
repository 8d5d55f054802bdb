-- What the link of an operator says of its left side.
use Rattle.std.proofs.Common.{◌≡◌, Bool, true, false, ◌&&◌, refl}
use Rattle.std.specs.Prelude.{if◌then◌else◌}
use Rattle.std.specs.Str.{bytes_eq}
use Rattle.std.proofs.lemmas.Slice.Eq.{bytes_eq-Decides}
use Rattle.wl_syntax.specs.declared.operator.Infix.{Infix}
use Rattle.wl_syntax.specs.declared.chain.Form.{Form}
use Rattle.wl_syntax.specs.declared.chain.Form.TheVariants.{Other, Name, Chain, Inequality, Nested, Defines}
use Rattle.wl_syntax.specs.declared.chain.Link.{Link}
use Rattle.wl_syntax.specs.declared.chain.Link.TheVariants.{Alone, Starts, GoesOn, Mixes, MixesOn, Nests, NestsOn}
use Rattle.wl_syntax.specs.Chain.{is_comparison, is_sameness, is_chain, link}
use Rattle.wl_syntax.specs.Table.{infix_level, infix_name}

abbrev pub LinkFits : Link → Infix → Form → Type 0
LinkFits GoesOn o (Chain p) = infix_name p ≡ infix_name o
LinkFits GoesOn o _ = ⊥
LinkFits (Mixes p) o (Chain q) = (p ≡ q) × (is_comparison (infix_level q) ≡ true) × (is_comparison (infix_level o) ≡ true)
LinkFits (Mixes p) o _ = ⊥
LinkFits MixesOn o Inequality = is_comparison (infix_level o) ≡ true
LinkFits MixesOn o _ = ⊥
LinkFits (Nests p) o (Chain q) = (p ≡ q) × (is_sameness (infix_level q) ≡ true)
LinkFits (Nests p) o _ = ⊥
LinkFits _ o f = Unit {0}

left_true : (a b : Bool) → (a && b) ≡ true → a ≡ true
left_true true b e = refl
left_true false b e = absurd (cc)

right_true : (a b : Bool) → (a && b) ≡ true → b ≡ true
right_true true true e = refl
right_true true false e = absurd (cc)
right_true false b e = absurd (cc)

starts : (o : Infix) (f : Form) (a : Bool) → LinkFits (if a then Starts else Alone) o f
starts o f true = tt
starts o f false = tt

pub link_fits : (o : Infix) (f : Form) → LinkFits (link o f) o f
link_fits o (Chain p) = go (is_chain (infix_level o)) (bytes_eq (infix_name p) (infix_name o)) refl (is_comparison (infix_level o) && is_comparison (infix_level p)) refl (is_sameness (infix_level o) && is_sameness (infix_level p)) refl
  where
    go : (a b : Bool) → bytes_eq (infix_name p) (infix_name o) ≡ b → (c : Bool) → (is_comparison (infix_level o) && is_comparison (infix_level p)) ≡ c → (d : Bool) → (is_sameness (infix_level o) && is_sameness (infix_level p)) ≡ d
        → LinkFits (if a then (if b then GoesOn else (if c then Mixes p else (if d then Nests p else Starts))) else Alone) o (Chain p)
    go false b e c f d g = tt
    go true true e c f d g = (bytes_eq-Decides (infix_name p) (infix_name o)).0 e
    go true false e true f d g = (refl, right_true _ _ f, left_true _ _ f)
    go true false e false f true g = (refl, right_true _ _ g)
    go true false e false f false g = tt
link_fits o Inequality = go (is_chain (infix_level o)) (is_comparison (infix_level o)) refl
  where
    go : (a b : Bool) → is_comparison (infix_level o) ≡ b → LinkFits (if a then (if b then MixesOn else Starts) else Alone) o Inequality
    go false b e = tt
    go true true e = e
    go true false e = tt
link_fits o Nested = go (is_chain (infix_level o)) (is_sameness (infix_level o))
  where
    go : (a b : Bool) → LinkFits (if a then (if b then NestsOn else Starts) else Alone) o Nested
    go false b = tt
    go true true = tt
    go true false = tt
link_fits o Other = starts o Other (is_chain (infix_level o))
link_fits o Name = starts o Name (is_chain (infix_level o))
link_fits o (Defines d) = starts o (Defines d) (is_chain (infix_level o))
