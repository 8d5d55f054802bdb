use Rattle.std.proofs.Common.{false, Ok, refl, sym, subst, ◌∙◌, arith}
use Rattle.wl_assign.specs.Tags.{tags}
use Rattle.wl_expr.specs.Stamped.{plain}
use Rattle.wl_semantics.specs.Definitions as definitions
use Rattle.wl_state.specs.Operands.{left_side}
use Rattle.wl_state.specs.Played.{Plays}
use Rattle.wl_state.proofs.Playing.{plays_done}
use Rattle.wl_state.proofs.Rounds.{no_node}
use Rattle.wl_state.proofs.Rows.{later}
use Rattle.wl_state.proofs.Targeting.{no_tags, tags_ended, tags_next, tags_over, tags_past}
use Rattle.wl_state.proofs.evaluator.Evaluator.define_tags.Goals as goal

pub returns-in_default : goal.returns-in_default
returns-in_default g c =
    let a = c.args in
    let k = a.self.now in
    let l = left_side (plain a.left.now) (plain a.core.now) in
    let b = plain a.body.now in
    let v = plain a.value.now in
    let none = no_tags (plain a.core.now) (no_node _ _ _ c.view.ensures.all c.in_default.not-Node) in
    record {
      played = subst (λ xs. Plays (definitions.define_tags l b v false xs) k (Ok false) k false) (sym none) (subst (λ p. Plays p k (Ok false) k false) (sym (tags_over l b v false)) plays_done);
      kept = refl;
      ticks = refl;
    }

pub loop-k-init : goal.loop-k-init
loop-k-init g c = record { leads = λ r k o h. h; sound = c.requires.sound; left = c.requires.left; body = c.requires.body; kept = refl; ticks = refl }

pub returns-in_default-tag_at-clause-played : goal.returns-in_default-tag_at-clause-played
returns-in_default-tag_at-clause-played g c =
    let a = c.args in
    let l = c.loop-k in
    tags_ended (left_side (plain a.left.now) (plain a.core.now)) (plain a.body.now) (plain a.value.now) (tags (plain a.core.now)) l.k l.refused l.invariant.leads (sym c.in_default-tag_at.ensures.value)

pub loop-k-preserved : goal.loop-k-preserved
loop-k-preserved g c =
    let a = c.args in
    let l = c.loop-k in
    let h = c.in_ok-is_refused.ensures.played in
    record {
      leads = tags_next (left_side (plain a.left.now) (plain a.core.now)) (plain a.body.now) (plain a.value.now) (tags (plain a.core.now)) l.k l.refused l.invariant.leads c.in-Some.name.now c.in_ok-is_refused.is_refused _ (sym c.in-Some.ensures.value) h;
      sound = h.sound l.invariant.sound;
      left = later h _ l.invariant.left;
      body = later h _ l.invariant.body;
      kept = c.in_ok-is_refused.ensures.kept ∙ l.invariant.kept;
      ticks = cc;
    }

pub returns-clause-played : goal.returns-clause-played
returns-clause-played g c =
    let a = c.args in
    let l = c.loop-k in
    tags_ended (left_side (plain a.left.now) (plain a.core.now)) (plain a.body.now) (plain a.value.now) (tags (plain a.core.now)) l.k l.refused l.invariant.leads (tags_past _ (plain a.core.now) c.in-Node.args.now l.k c.in-Node.ensures.plain (omega arith))
