use Rattle.std.proofs.Common.{◌+◌, drop, sym, ◌∙◌, subst, arith}
use Rattle.wl_rules.specs.Attributes.{AttributeSet}
use Rattle.wl_semantics.specs.EntryRows as rows
use Rattle.wl_state.specs.Operands.{names_among, put_all}
use Rattle.wl_state.specs.Played.{Leads, trees}
use Rattle.wl_state.proofs.Rows.{leads_on}
use Rattle.wl_state.proofs.Symbols.{next_named, next_unnamed, none_named, no_symbol}
use Rattle.wl_state.proofs.EntryRowParts.{change_step, change_over}
use Rattle.wl_state.proofs.evaluator.Evaluator.change_each.Goals as goal

pub loop-i-preserved : goal.loop-i-preserved
loop-i-preserved g c =
    let ss = c.args.symbols.now in
    let i = c.loop-i.i in
    let x = c.in-Symbol.name.now in
    let e = c.in_ok-change_attributes.ensures in
    let f : AttributeSet → AttributeSet = λ s. put_all c.args.are_in s c.args.attributes.now in
    let at = next_named ss i c.index-symbols-i.result c.loop-i-test.true c.index-symbols-i.is x (sym c.in-Symbol.ensures.plain) in
    record {
      leads = leads_on c.loop-i.invariant.leads (change_step f x (names_among (trees (drop i ss))) (names_among (trees (drop (i + 1) ss))) c.loop-i.self c.change_attributes.new.self at e.played);
      sound = e.played.sound c.loop-i.invariant.sound;
      kept = e.kept ∙ c.loop-i.invariant.kept;
      ticks = cc;
    }

pub loop-i-preserved-in_default : goal.loop-i-preserved-in_default
loop-i-preserved-in_default g c =
    let ss = c.args.symbols.now in
    let i = c.loop-i.i in
    let e = c.index-symbols-i.result in
    let f : AttributeSet → AttributeSet = λ s. put_all c.args.are_in s c.args.attributes.now in
    let at = next_unnamed ss i e c.loop-i-test.true c.index-symbols-i.is (no_symbol _ _ e c.view.ensures.all c.in_default.not-Symbol) in
    record {
      leads = subst (λ ys. Leads (rows.change_each f (names_among (trees ss))) c.args.self.now (rows.change_each f ys) c.loop-i.self) at c.loop-i.invariant.leads;
      sound = c.loop-i.invariant.sound;
      kept = c.loop-i.invariant.kept;
      ticks = cc;
    }

pub returns-clause-played : goal.returns-clause-played
returns-clause-played g c =
    let ss = c.args.symbols.now in
    let l = c.loop-i in
    let f : AttributeSet → AttributeSet = λ s. put_all c.args.are_in s c.args.attributes.now in
    l.invariant.leads _ _ _ (change_over f (names_among (trees (drop l.i ss))) l.self (none_named ss l.i (omega arith)))
