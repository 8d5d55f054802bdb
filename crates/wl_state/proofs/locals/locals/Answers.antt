use Rattle.std.proofs.Common.{sym, ◌∙◌, subst}
use Rattle.std.specs.Prelude.{IfSome}
use Rattle.wl_state.specs.Honest.{HonestIn}
use Rattle.wl_state.specs.LocalNames.{IsLocal, locals_in}
use Rattle.wl_state.specs.Searching.{needs_values}
use Rattle.wl_state.proofs.LocalParts.{a_local_more, all_locals, locals_honest_push, locals_listed, not_a_local}
use Rattle.wl_state.proofs.Values.{args_honest}
use Rattle.wl_state.proofs.locals.locals.Goals as goal

pub returns-in_default-2-clause-read : goal.returns-in_default-2-clause-read
returns-in_default-2-clause-read c =
    let k = needs_values c.args.need_values in
    let xs = c.in-Node.args.now in
    let l = c.loop-i in
    not_a_local k xs l.i c.index-args-i.result c.loop-i-test.true c.index-args-i.is (locals_in l.all.items) c.in_ok-name.field-0 c.in_default-2.is c.in_ok-name.ensures.read
    ∙ sym (locals_listed k _ _ xs c.in-Node.ensures.plain (sym c.is_symbol.ensures ∙ c.if-not-is_symbol.false) ∙ l.invariant.read)

pub loop-i-preserved : goal.loop-i-preserved
loop-i-preserved c =
    let k = needs_values c.args.need_values in
    let xs = c.in-Node.args.now in
    let l = c.loop-i in
    record {
      read = l.invariant.read ∙ a_local_more k xs l.i c.index-args-i.result c.loop-i-test.true c.index-args-i.is l.all.items c.in_ok-name.field-0 c.in-Some.name c.push.new.self.items c.in-Some.is c.in_ok-name.ensures.read c.in_ok-push.ensures.items;
      honest = λ a w. locals_honest_push a l.all.items c.in-Some.name c.push.new.self.items c.in_ok-push.ensures.items (l.invariant.honest a w)
          (subst (λ o. IfSome o (IsLocal a)) c.in-Some.is (c.in_ok-name.ensures.honest a (subst (HonestIn a) (sym c.index-args-i.is) (w l.i c.index-args-i.result c.loop-i-test.true))));
    }

pub returns-clause-read : goal.returns-clause-read
returns-clause-read c =
    let k = needs_values c.args.need_values in
    let xs = c.in-Node.args.now in
    let l = c.loop-i in
    all_locals k xs l.i l.all.items c.loop-i-test.false ∙ sym (locals_listed k _ _ xs c.in-Node.ensures.plain (sym c.is_symbol.ensures ∙ c.if-not-is_symbol.false) ∙ l.invariant.read)

pub returns-clause-honest : goal.returns-clause-honest
returns-clause-honest c = λ a h. c.loop-i.invariant.honest a (args_honest a _ _ _ _ c.in-Node.ensures.all h)
