use Rattle.std.proofs.Common.{None, refl, sym, ap, ◌∙◌, subst}
use Rattle.std.proofs.lemmas.List.Elements.{All-nil}
use Rattle.std.specs.List.{All}
use Rattle.wl_eval.specs.KernelView.{plain_lines}
use Rattle.wl_state.specs.Played.{HonestLine}
use Rattle.wl_eval.proofs.Beginning.{new_sound}
use Rattle.wl_eval.proofs.kernel.Kernel.new.Goals as goal

pub invariant_of-result : goal.invariant_of-result
invariant_of-result c =
    let a = c.in_ok-store.store in
    λ alive. record {
      sound = new_sound _ c.in_ok-store.ensures c.new-2.ensures c.new-3.ensures.items refl refl refl refl;
      depth = refl;
      log = refl;
      same = ap plain_lines (c.new-4.ensures.items ∙ sym c.new-3.ensures.items);
      honest = subst (All (HonestLine a)) (sym c.new-4.ensures.items) (All-nil (HonestLine a));
    }

pub returns-clause-sound : goal.returns-clause-sound
returns-clause-sound c =
    let a = c.in_ok-store.store in
    let sound = new_sound (record { alloc = c.args.alloc; store = a; desk = c.new-2.result; history = c.new-3.result; modules = 0; steps = c.args.steps; depth = 0; recursion = 200; iteration = 1000; log = None }) c.in_ok-store.ensures c.new-2.ensures c.new-3.ensures.items refl refl refl refl in
    record { rules = sound.honest; history = subst (All (HonestLine a)) (sym c.new-4.ensures.items) (All-nil (HonestLine a)) }
