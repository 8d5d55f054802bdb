-- The turn of a node by its shape.
use Rattle.std.proofs.Common.{◌≡◌, ◌≤◌, ℕ, Bool, false, List, [], ◌∷◌, None, Result, Ok, Err, sym, ap, ◌∙◌, subst, arith, le_trans}
use Rattle.std.specs.Prelude.{⊤, codes}
use Rattle.std.specs.List.{All}
use Rattle.wl_expr.specs.Passed.{IsFrom}
use Rattle.wl_expr.specs.Stamped.{Stamped, node, from_list}
use Rattle.wl_expr.specs.Tree.{Tree, IsWithinLimits, weight, depth}
use Rattle.wl_expr.specs.Words.{applied}
use Rattle.wl_expr.specs.declared.fault.ExprFault.{ExprFault}
use Rattle.wl_expr.specs.declared.fault.ExprFault.TheVariants as fault
use Rattle.wl_expr.proofs.Passing.{all_from}
use Rattle.wl_expr.proofs.Small.{fits_decides}
use Rattle.wl_rules.specs.Attributes.{AttributeSet}
use Rattle.wl_shape.specs.Answers.{IsShaped, ShapedIsFrom, plain_shaped}
use Rattle.wl_shape.specs.Shape.{Shaped, rebuilt, threaded, uneven, shaped_tree, shape}
use Rattle.wl_shape.specs.Sizes.{IsNoLarger}
use Rattle.wl_shape.specs.declared.arrangement.Shaped as code
use Rattle.wl_shape.specs.declared.arrangement.Shaped.TheVariants as variant
use Rattle.wl_shape.proofs.ShapeSize.{shape-size}
use Rattle.wl_semantics.specs.Prog.{message, sized}
use Rattle.wl_semantics.specs.Elements.{bared, is_bared}
use Rattle.wl_semantics.specs.State.{Next}
use Rattle.wl_semantics.specs.Turn.{shaped_turn, rules_turn}
use Rattle.wl_state.specs.Played as played
use Rattle.wl_state.specs.Played.{Plays, Played, Honest, AllHonest, TooLarge, FaultStops, trees, turned}
use Rattle.wl_state.specs.declared.evaluator.Evaluator.{Evaluator}
use Rattle.wl_state.specs.declared.ends.Stop.{Stop}
use Rattle.wl_state.specs.declared.ends.Turned as turneds
use Rattle.wl_semantics.proofs.BaredSize.{bared-size}
use Rattle.wl_state.proofs.Playing.{plays_bind, plays_done}
use Rattle.wl_state.proofs.Rows.{played_bind, played_stop}
use Rattle.wl_state.proofs.Values.{built_honest, passed_honest}
use Rattle.wl_state.proofs.Fitting.{plays_fits, sized_large}
use Rattle.wl_state.proofs.Answering.{beyond}
use Rattle.wl_state.proofs.Shapings.{not_bared}

-- ---- stamps

abbrev pub HonestShaped : Evaluator → code.Shaped → Type 0
HonestShaped k (variant.Node e) = Honest k e
HonestShaped k (variant.Threaded e) = Honest k e
HonestShaped k (variant.Uneven e) = Honest k e

pub shaped_honest : (k : Evaluator) (h : Stamped) (vs : List Stamped) (s : code.Shaped) → Honest k h → AllHonest k vs → ((ms : List Stamped) → IsFrom ms h → All (IsFrom ms) vs → ShapedIsFrom ms s) → HonestShaped k s
shaped_honest k h vs (variant.Node e) x y f = passed_honest k.store (node None h (from_list vs)) e (λ ms g. f ms g.0 (all_from ms vs g.1)) (built_honest k.store h vs x y)
shaped_honest k h vs (variant.Threaded e) x y f = passed_honest k.store (node None h (from_list vs)) e (λ ms g. f ms g.0 (all_from ms vs g.1)) (built_honest k.store h vs x y)
shaped_honest k h vs (variant.Uneven e) x y f = passed_honest k.store (node None h (from_list vs)) e (λ ms g. f ms g.0 (all_from ms vs g.1)) (built_honest k.store h vs x y)

-- ---- a rebuilt form is within the limits where the first form is

bared_within : (a : AttributeSet) (h : Tree) (vs : List Tree) → IsWithinLimits (applied h vs) → IsWithinLimits (applied h (bared a vs))
bared_within a h vs w = let b = bared-size a vs in record { light = omega (arith, w.light, b.light); shallow = omega (arith, w.shallow, b.shallow) }

abbrev Small : Shaped → Type 0
Small (rebuilt t) = IsWithinLimits t
Small (uneven t) = IsWithinLimits t
Small (threaded t) = ⊤

no_larger : (w d : ℕ) (s : Shaped) → w ≤ 4000000 → d ≤ 1000 → IsNoLarger w d s → Small s
no_larger w d (rebuilt t) p q h = record { light = le_trans h.0 p; shallow = le_trans h.1 q }
no_larger w d (uneven t) p q h = record { light = le_trans h.0 p; shallow = le_trans h.1 q }
no_larger w d (threaded t) p q h = tt

small : (a : AttributeSet) (h : Tree) (vs : List Tree) → IsWithinLimits (applied h vs) → Small (shape a h (bared a vs))
small a h vs w =
    let b = bared_within a h vs w in
    no_larger (weight (applied h (bared a vs))) (depth (applied h (bared a vs))) (shape a h (bared a vs)) b.light b.shallow (shape-size a h (bared a vs))

stops_large : (a : AttributeSet) (first : Tree) (c : Bool) (s : Shaped) (k k' : Evaluator) (e : Stop) → Small s → ¬ IsWithinLimits (shaped_tree s) → TooLarge k e k' → Played turned (shaped_turn a first c s) k (Err e) k'
stops_large a first c (rebuilt t) k k' e w n g = absurd (n w)
stops_large a first c (uneven t) k k' e w n g = absurd (n w)
stops_large a first c (threaded t) k k' e w n g = played_stop played.itself turned (sized t) _ k e k' (sized_large played.itself t k k' e (beyond t n) g)

-- want of memory, or a threaded list that is too large
pub shape_stops : (a : AttributeSet) (h : Tree) (vs : List Tree) (first : Tree) (c : Bool) (r : Result code.Shaped ExprFault) (k k' : Evaluator) (f : ExprFault) (e : Stop) → IsWithinLimits (applied h vs)
    → r ≡ Err f → IsShaped (shape a h (bared a vs)) r → FaultStops f k e k' → Played turned (shaped_turn a first c (shape a h (bared a vs))) k (Err e) k'
shape_stops a h vs first c r k k' fault.Memory e w q s g = subst (λ z. Played turned (shaped_turn a first c (shape a h (bared a vs))) k (Err z) k') (sym g) tt
shape_stops a h vs first c r k k' fault.Large e w q s g = stops_large a first c (shape a h (bared a vs)) k k' e (small a h vs w) (s.large q) g

-- ---- by the shape

-- what was made is this shape
pub shape_is : (s : Shaped) (v : code.Shaped) → IsShaped s (Ok v) → plain_shaped v ≡ s
shape_is s v h = h.is.0

module _ (a : AttributeSet) (first : Tree) (c : Bool) (s : Shaped) (k : Evaluator) where
  pub rebuilt_plays : (t : Tree) (r : Result turneds.Turned Stop) (k' : Evaluator) → rebuilt t ≡ s → Played turned (rules_turn a first c t) k r k' → Played turned (shaped_turn a first c s) k r k'
  rebuilt_plays t r k' e h = subst (λ z. Played turned (shaped_turn a first c z) k r k') e h

  pub threaded_plays : (t : Tree) → threaded t ≡ s → IsWithinLimits t → Plays (shaped_turn a first c s) k (Ok (Next t)) k false
  threaded_plays t e w = subst (λ z. Plays (shaped_turn a first c z) k (Ok (Next t)) k false) e (plays_bind (sized t) _ (plays_fits t k ((fits_decides t).1 w)) plays_done)

  pub uneven_plays : (t : Tree) (k1 : Evaluator) (r : Result turneds.Turned Stop) (k' : Evaluator) → uneven t ≡ s → Plays (message (codes "Thread") (codes "tdlen") (t ∷ [])) k (Ok tt) k1 false
      → Played turned (rules_turn a first c t) k1 r k' → Played turned (shaped_turn a first c s) k r k'
  uneven_plays t k1 r k' e m h = subst (λ z. Played turned (shaped_turn a first c z) k r k') e (played_bind turned (message (codes "Thread") (codes "tdlen") (t ∷ [])) _ k k1 tt r k' m h)

-- the first form, where it is shaped already
pub stays_plays : (a : AttributeSet) (h : Tree) (vs : List Tree) (first : Tree) (c : Bool) (k : Evaluator) (r : Result turneds.Turned Stop) (k' : Evaluator) → is_bared a vs ≡ false → first ≡ applied h vs
    → shape a h vs ≡ rebuilt (applied h vs) → c ≡ is_bared a vs → Played turned (rules_turn a first c first) k r k' → Played turned (shaped_turn a first (is_bared a vs) (shape a h (bared a vs))) k r k'
stays_plays a h vs first c k r k' n e s q m =
    let w : shape a h (bared a vs) ≡ rebuilt first = ap (shape a h) (not_bared a vs n) ∙ s ∙ ap rebuilt (sym e) in
    subst (λ z. Played turned (shaped_turn a first (is_bared a vs) z) k r k') (sym w) (subst (λ b. Played turned (rules_turn a first b first) k r k') q m)
