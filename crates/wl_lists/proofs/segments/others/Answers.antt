use Rattle.std.proofs.Common.{rules, ◌≡◌, ◌≤◌, ◌+◌, ◌-◌, ◌++◌, List, length, take, drop, length-drop, sym, ap, ◌∙◌, subst, arith}
use Rattle.std.proofs.lemmas.List.{length-map, map-append, take_all}
use Rattle.std.proofs.lemmas.List.Elements.{All-append}
use Rattle.wl_expr.specs.Passed.{IsFrom}
use Rattle.wl_expr.specs.Stamped.{Stamped, plain}
use Rattle.wl_expr.specs.Tree.{Tree}
use Rattle.wl_lists.specs.Answers.{AllFrom, trees}
use Rattle.wl_lists.proofs.segments.others.Goals as goal

pub returns-clause-value : goal.returns-clause-value
returns-clause-value c =
    let es = c.args.elements.now in
    let from = c.args.s.from in
    let past = c.args.s.from + c.args.s.count in
    let first = c.taken.result.now in
    let second = c.taken-2.result.now in
    let a : c.extend-2.new.all.items ≡ c.extend.new.all.items ++ second = search rules in
    let b : c.extend.new.all.items ≡ first = search rules in
    let n = length-map es plain in
    let m = length-drop past (trees es) in
    let l : length (drop past (trees es)) ≤ length es - past = omega (arith, n, m) in
    ap trees a ∙ map-append plain c.extend.new.all.items second
    ∙ ap (λ (us : List Stamped). trees us ++ trees second) b
    ∙ ap (λ (us : List Tree). us ++ trees second) c.taken.ensures.value
    ∙ ap (λ (us : List Tree). take from (trees es) ++ us) (c.taken-2.ensures.value ∙ take_all (length es - past) (drop past (trees es)) l)

pub returns-clause-passed : goal.returns-clause-passed
returns-clause-passed c = λ ms h.
    let first = c.taken.result.now in
    let second = c.taken-2.result.now in
    let a : c.extend-2.new.all.items ≡ c.extend.new.all.items ++ second = search rules in
    let b : c.extend.new.all.items ≡ first = search rules in
    subst (AllFrom ms) (sym a) (All-append (IsFrom ms) c.extend.new.all.items second (subst (AllFrom ms) (sym b) (c.taken.ensures.passed ms h)) (c.taken-2.ensures.passed ms h))
