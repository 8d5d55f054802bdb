use Rattle.std.proofs.Common.{codes, refl, sym, ap, Err, ◌∷◌, [], ◌∙◌, Ok, false, subst, map, option_map, option_copied}
use Rattle.wl_ports.proofs.AsciiNames.{ascii_is_name}
use Rattle.wl_expr.specs.Stamped.{plain}
use Rattle.wl_state.specs.Honest.{HonestIn}
use Rattle.wl_semantics.specs.Outcome as spec
use Rattle.wl_state.specs.Played.{Plays}
use Rattle.wl_semantics.specs.Prog.{message}
use Rattle.wl_state.proofs.Rows.{later, option_later}
use Rattle.wl_state.proofs.RowParts.{if_ok_more}
use Rattle.wl_state.proofs.Throws.{held_honest, held_plain, throw_plain, uncaught_held, uncaught_large}
use Rattle.wl_state.proofs.evaluator.Evaluator.uncaught.Goals as goal

pub symbol-requires : goal.symbol-requires
symbol-requires g c = ascii_is_name (codes "$Aborted") refl

pub returns-in_ok-issue-in-Ok-clause-played : goal.returns-in_ok-issue-in-Ok-clause-played
returns-in_ok-issue-in-Ok-clause-played g c =
    let v = c.args.value.now in
    let t = option_copied c.args.tag in
    let k = c.args.self.now in
    let k1 = c.issue.new.self in
    let told = subst (λ x. Plays (message (codes "Throw") (codes "nocatch") (x ∷ [])) k (Ok tt) k1 false) (ap plain c.in-Ok.ensures.thrown ∙ throw_plain v t)
    (subst (λ xs. Plays (message (codes "Throw") (codes "nocatch") xs) k (Ok tt) k1 false) (ap (λ xs. map plain xs) c.from_ref.ensures.value) c.in_ok-issue-in-Ok.ensures.played) in
    subst (λ x. Plays (spec.uncaught (plain v) (option_map plain t)) k (Ok x) k1 false) (sym (ap plain c.in-Ok.ensures.held ∙ held_plain v t)) (uncaught_held (plain v) (option_map plain t) k k1 c.in-Ok.ensures.fits told)

pub returns-in_ok-issue-in-Ok-clause-honest : goal.returns-in_ok-issue-in-Ok-clause-honest
returns-in_ok-issue-in-Ok-clause-honest g c =
    let h = c.in_ok-issue-in-Ok.ensures.played in
    subst (HonestIn c.issue.new.self.store) (sym c.in-Ok.ensures.held) (held_honest c.issue.new.self.store c.args.value.now (option_copied c.args.tag) (later h _ c.requires.value) (option_later h _ c.requires.tag))

pub returns-in_ok-issue-in-Err-Large-clause-played :
    goal.returns-in_ok-issue-in-Err-Large-clause-played
returns-in_ok-issue-in-Err-Large-clause-played g c =
    let v = plain c.args.value.now in
    let t = option_map plain (option_copied c.args.tag) in
    let k = c.args.self.now in
    let k1 = c.issue-in-Err-Large.new.self in
    if_ok_more c.symbol.result _ _ (λ e m. subst (λ x. Plays (spec.uncaught v t) k (Ok x) k1 false) (sym (ap plain m)) (uncaught_large v t k k1 (c.of.ensures.large (c.in-Err-Large.is ∙ ap Err c.in-Err-Large.field-0-is)) c.in_ok-issue-in-Err-Large.ensures.played)) c.symbol.ensures
