use Rattle.std.proofs.Common.{◌≡◌, ◌+◌, ◌≤◌, length, string_bytes, None, sym, ap, ◌∙◌, subst, true, false, arith}
use Rattle.std.specs.Str.{IsUtf8}
use Rattle.wl_expr.specs.Same.{is_name_among}
use Rattle.wl_expr.specs.Stamped as stamped
use Rattle.wl_expr.specs.Stamped.{plain}
use Rattle.wl_expr.specs.Tree.{symbol, IsWithinLimits}
use Rattle.wl_expr.specs.Words.{Name}
use Rattle.wl_ports.proofs.MadeNames.{dollar_name}
use Rattle.wl_ports.specs.Name.{IsName}
use Rattle.wl_shape.specs.Answers.{trees}
use Rattle.wl_shape.specs.Fill.{fresh, longest, marked, new_name}
use Rattle.wl_shape.specs.Names.{has_tree, names_in}
use Rattle.wl_shape.proofs.Faults.{fault_passed_on}
use Rattle.wl_shape.proofs.Fresh.{last_try, length-marked, no_longer, no_shorter, one_more_try, shorter_fits}
use Rattle.wl_shape.proofs.Meetings.{has_name-among}
use Rattle.wl_shape.proofs.renaming.new_name.Goals as goal

pub symbol-requires : goal.symbol-requires
symbol-requires c =
    let e : c.as_str.result.now ≡ marked c.args.name.now = c.as_str.ensures.value ∙ c.in_ok-push_str.ensures.bytes ∙ ap marked c.in_ok-longer.ensures.ok in
    subst IsName (sym e) (dollar_name c.args.name.now c.utf8.name c.requires).1

pub returns-in_err-symbol-clause-large : goal.returns-in_err-symbol-clause-large
returns-in_err-symbol-clause-large c = λ l.
    let w = fault_passed_on c.in_err-symbol.field-0.0 c.symbol.result c.from_residual-in_err-symbol.result c.in_err-symbol.was c.from_residual-in_err-symbol.ensures.1 l in
    let x = c.args.name.now in
    let ts = names_in (trees c.args.taken.now.keys) in
    let e : c.as_str.result.now ≡ marked x = c.as_str.ensures.value ∙ c.in_ok-push_str.ensures.bytes ∙ ap marked c.in_ok-longer.ensures.ok in
    λ fits. c.symbol.ensures.large.0 w (subst (λ y. IsWithinLimits (symbol y)) (sym e) (shorter_fits (marked x) (new_name ts x) (no_shorter (longest ts + 1) ts (marked x)) fits))

pub symbol-requires-in-tries : goal.symbol-requires-in-tries
symbol-requires-in-tries c =
    let before = string_bytes c.tries.longer in
    let e : c.as_str-in-tries.result.now ≡ marked before = c.as_str-in-tries.ensures.value ∙ c.in_ok-push_str-2.ensures.bytes in
    subst IsName (sym e) (dollar_name before c.tries.invariant.name.0 c.tries.invariant.name.1).1

pub returns-in_err-symbol-2-clause-large : goal.returns-in_err-symbol-2-clause-large
returns-in_err-symbol-2-clause-large c = λ l.
    let w = fault_passed_on c.in_err-symbol-2.field-0.0 c.symbol-in-tries.result c.from_residual-in_err-symbol-2.result c.in_err-symbol-2.was c.from_residual-in_err-symbol-2.ensures.1 l in
    let ts = names_in (trees c.args.taken.now.keys) in
    let before = string_bytes c.tries.longer in
    let e : c.as_str-in-tries.result.now ≡ marked before = c.as_str-in-tries.ensures.value ∙ c.in_ok-push_str-2.ensures.bytes in
    let h : is_name_among before ts ≡ true = sym (has_name-among c.args.taken.now.keys before) ∙ ap (λ t. has_tree c.args.taken.now.keys (plain t)) (sym c.tries.invariant.symbol) ∙ sym c.tries-test.ensures in
    let q : new_name ts c.args.name.now ≡ fresh (longest ts + 1) ts (marked before) = c.tries.invariant.same ∙ one_more_try ts before h in
    λ fits. c.symbol-in-tries.ensures.large.0 w (subst (λ y. IsWithinLimits (symbol y)) (sym e)
    (shorter_fits (marked before) (fresh (longest ts + 1) ts (marked before)) (no_shorter (longest ts + 1) ts (marked before)) (subst (λ y. IsWithinLimits (symbol y)) q fits)))

pub tries-init : goal.tries-init
tries-init c =
    let x = c.args.name.now in
    let ts = names_in (trees c.args.taken.now.keys) in
    let b : string_bytes c.push_str.new.self ≡ marked x = c.in_ok-push_str.ensures.bytes ∙ ap marked c.in_ok-longer.ensures.ok in
    record {
      name = subst (λ y. IsUtf8 y × IsName y) (sym b) (dollar_name x c.utf8.name c.requires);
      symbol = c.in_ok-symbol.ensures.ok ∙ ap (λ y. stamped.symbol None y) c.as_str.ensures.value;
      same = ap (fresh (longest ts + 1) ts) (sym b);
    }

pub tries-smaller : goal.tries-smaller
tries-smaller c =
    let ts = names_in (trees c.args.taken.now.keys) in
    let before = string_bytes c.tries.longer in
    let h : is_name_among before ts ≡ true = sym (has_name-among c.args.taken.now.keys before) ∙ ap (λ t. has_tree c.args.taken.now.keys (plain t)) (sym c.tries.invariant.symbol) ∙ sym c.tries-test.ensures in
    let l : length before ≤ longest ts = no_longer before ts h in
    let e : length (string_bytes c.push_str-in-tries.new.self) ≡ length before + 1 = ap length c.in_ok-push_str-2.ensures.bytes ∙ length-marked before in
    omega arith

pub tries-preserved : goal.tries-preserved
tries-preserved c =
    let ts = names_in (trees c.args.taken.now.keys) in
    let before = string_bytes c.tries.longer in
    let after = string_bytes c.push_str-in-tries.new.self in
    let b : after ≡ marked before = c.in_ok-push_str-2.ensures.bytes in
    let h : is_name_among before ts ≡ true = sym (has_name-among c.args.taken.now.keys before) ∙ ap (λ t. has_tree c.args.taken.now.keys (plain t)) (sym c.tries.invariant.symbol) ∙ sym c.tries-test.ensures in
    record {
      name = subst (λ y. IsUtf8 y × IsName y) (sym b) (dollar_name before c.tries.invariant.name.0 c.tries.invariant.name.1);
      symbol = c.in_ok-symbol-2.ensures.ok ∙ ap (λ y. stamped.symbol None y) c.as_str-in-tries.ensures.value;
      same = c.tries.invariant.same ∙ one_more_try ts before h ∙ ap (fresh (longest ts + 1) ts) (sym b);
    }

pub returns-clause-symbol : goal.returns-clause-symbol
returns-clause-symbol c =
    let ts = names_in (trees c.args.taken.now.keys) in
    let last = string_bytes c.tries.longer in
    let h : is_name_among last ts ≡ false = sym (has_name-among c.args.taken.now.keys last) ∙ ap (λ t. has_tree c.args.taken.now.keys (plain t)) (sym c.tries.invariant.symbol) ∙ sym c.tries-test.ensures in
    c.tries.invariant.symbol ∙ ap (λ y. stamped.symbol None y) (sym (c.tries.invariant.same ∙ last_try ts last h))
