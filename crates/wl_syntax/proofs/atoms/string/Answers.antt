use Rattle.std.proofs.Common.{refl, ap, ◌∙◌, subst, sym, ◌<◌, length, arith}
use Rattle.wl_expr.specs.Stamped.{text}
use Rattle.wl_syntax.proofs.Strings.{unquoting_begins, next_escaped, next_backslash, next_quote, next_plain, unquoting_ends}
use Rattle.wl_syntax.proofs.atoms.string.Goals as goal

pub loop-ch-init : goal.loop-ch-init
loop-ch-init c = unquoting_begins _ _ _ _ c.utf8.token (ap (λ i. i.rest.now) c.into_iter-ch-iterator.ensures.into_iter_gives ∙ c.chars-ch-items.ensures.rest) c.new-unquoted.ensures.bytes refl

pub loop-ch-preserved-then-is_escaped : goal.loop-ch-preserved-then-is_escaped
loop-ch-preserved-then-is_escaped c = next_escaped _ _ _ _ _ _ _ _ c.if-is_escaped.true c.loop-ch.invariant c.in-Some.ensures.steps.0 c.escaped.ensures c.in_ok-push.ensures.bytes

pub loop-ch-preserved-then-ch-eq92 : goal.loop-ch-preserved-then-ch-eq92
loop-ch-preserved-then-ch-eq92 c = next_backslash _ _ _ _ _ _ c.if-is_escaped.false c.loop-ch.invariant c.in-Some.ensures.steps.0 c.if-ch-eq92.true

pub loop-ch-preserved-in_ok-push-2 : goal.loop-ch-preserved-in_ok-push-2
loop-ch-preserved-in_ok-push-2 c = next_plain _ _ _ _ _ _ _ c.if-is_escaped.false c.loop-ch.invariant c.in-Some.ensures.steps.0 c.if-ch-eq92.false c.if-ch-ne34.true c.in_ok-push-2.ensures.bytes

pub loop-ch-preserved : goal.loop-ch-preserved
loop-ch-preserved c = next_quote _ _ _ _ _ _ c.if-is_escaped.false c.loop-ch.invariant c.in-Some.ensures.steps.0 c.if-ch-ne34.false

pub returns : goal.returns
returns c = c.in_ok-text.ensures ∙ ap (λ s. text s) (c.as_str.ensures.value ∙ unquoting_ends _ _ _ _ c.loop-ch.invariant c.in-None.ensures.steps.0.0)

pub text-requires : goal.text-requires
text-requires c =
    let l = c.requires.light in
    subst (λ s. length s < 4000000) (sym (c.as_str.ensures.value ∙ unquoting_ends _ _ _ _ c.loop-ch.invariant c.in-None.ensures.steps.0.0)) (omega arith)
