use Rattle.std.proofs.Common.{rules, ◌≡◌, ◌++◌, ◌∷◌, []}
use Rattle.std.specs.Prelude.{ℕ, encode_utf8}
use Rattle.wl_expr.specs.Tree.{text}
use Rattle.wl_lists.proofs.Faults.{fault_passed_on}
use Rattle.wl_lists.proofs.Makings.{next_from, value_made, value_large}
use Rattle.wl_lists.proofs.strings.texts_of.Goals as goal

pub returns-in_err-one-clause-large : goal.returns-in_err-one-clause-large
returns-in_err-one-clause-large c = λ l.
    let w = fault_passed_on c.in_err-one.field-0.0 c.character_text.result c.from_residual-in_err-one.result c.in_err-one.was c.from_residual-in_err-one.ensures.1 l in
    value_large (λ (k : ℕ). text (encode_utf8 k)) c.args.cs.now c.loop-c.all.items c.loop-c.c-index c.c-item.result c.loop-c.invariant.value c.loop-c-test.true c.c-item.is (c.character_text.ensures.made.large w)

pub loop-c-preserved : goal.loop-c-preserved
loop-c-preserved c =
    let a : c.push.new.self.items ≡ c.loop-c.all.items ++ c.in_ok-one.one ∷ [] = search rules in
    record {
      value = value_made (λ (k : ℕ). text (encode_utf8 k)) c.args.cs.now c.loop-c.all.items c.push.new.self.items c.loop-c.c-index c.c-item.result c.in_ok-one.one c.loop-c.invariant.value c.loop-c-test.true c.c-item.is a c.in_ok-one.ensures.made.tree;
      passed = λ ms. next_from ms c.loop-c.all.items c.push.new.self.items c.in_ok-one.one (c.loop-c.invariant.passed ms) (c.in_ok-one.ensures.passed ms) a;
    }
