use Rattle.std.proofs.Common.{◌+◌, Ok, Some, drop, sym, ◌∙◌, subst, arith}
use Rattle.wl_semantics.specs.EntryRows as rows
use Rattle.wl_state.specs.Operands.{names_among}
use Rattle.wl_state.specs.Played.{Leads, trees}
use Rattle.wl_state.proofs.Rows.{leads_on}
use Rattle.wl_state.proofs.RowParts.{row_stays, row_null, row_at}
use Rattle.wl_state.proofs.Symbols.{next_named, next_unnamed, none_named, no_symbol, empty, not_empty}
use Rattle.wl_state.proofs.EntryRowParts.{clear_step, clear_over, clear_named-each, clear_named-other, clear_named-none}
use Rattle.wl_state.proofs.evaluator.Evaluator.clear_named.Goals as goal

pub returns-then-is_empty-clause-played : goal.returns-then-is_empty-clause-played
returns-then-is_empty-clause-played g c = row_stays _ _ (clear_named-none c.args.all (trees c.args.args.now) (empty c.args.args.now c.is_empty.result c.is_empty.ensures c.if-is_empty.true))

pub returns-then-not-are_symbols-clause-played : goal.returns-then-not-are_symbols-clause-played
returns-then-not-are_symbols-clause-played g c = row_stays _ _ (clear_named-other c.args.all (trees c.args.args.now) (sym c.are_symbols.ensures ∙ c.if-not-are_symbols.true))

pub loop-i-preserved : goal.loop-i-preserved
loop-i-preserved g c =
    let ss = c.args.args.now in
    let i = c.loop-i.i in
    let x = c.in-Symbol.name.now in
    let e = c.in_ok-clear_one.ensures in
    let at = next_named ss i c.index-args-i.result c.loop-i-test.true c.index-args-i.is x (sym c.in-Symbol.ensures.plain) in
    record {
      leads = leads_on c.loop-i.invariant.leads (clear_step c.args.all x (names_among (trees (drop i ss))) (names_among (trees (drop (i + 1) ss))) c.loop-i.self c.clear_one.new.self at e.played);
      sound = e.played.sound c.loop-i.invariant.sound;
      kept = e.kept ∙ c.loop-i.invariant.kept;
      ticks = cc;
    }

pub loop-i-preserved-in_default : goal.loop-i-preserved-in_default
loop-i-preserved-in_default g c =
    let ss = c.args.args.now in
    let i = c.loop-i.i in
    let e = c.index-args-i.result in
    let at = next_unnamed ss i e c.loop-i-test.true c.index-args-i.is (no_symbol _ _ e c.view.ensures.all c.in_default.not-Symbol) in
    record {
      leads = subst (λ ys. Leads (rows.clear_each c.args.all (names_among (trees ss))) c.args.self.now (rows.clear_each c.args.all ys) c.loop-i.self) at c.loop-i.invariant.leads;
      sound = c.loop-i.invariant.sound;
      kept = c.loop-i.invariant.kept;
      ticks = cc;
    }

pub returns-clause-played : goal.returns-clause-played
returns-clause-played g c =
    let ss = c.args.args.now in
    let l = c.loop-i in
    let all = c.args.all in
    let each = clear_named-each all (trees ss) (sym c.are_symbols.ensures ∙ c.if-not-are_symbols.false) (not_empty ss c.is_empty.result c.is_empty.ensures c.if-is_empty.false) in
    row_at _ _ c.args.self.now (Ok (Some c.in_ok-null.field-0)) l.self each (row_null _ _ _ c.in_ok-null.field-0 c.in_ok-null.ensures (l.invariant.leads _ _ _ (clear_over all (names_among (trees (drop l.i ss))) l.self (none_named ss l.i (omega arith)))))
