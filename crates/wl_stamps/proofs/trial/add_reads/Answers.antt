use Rattle.std.proofs.Common.{◌≡◌, inl, inr, ◌++◌, take, refl, sym, ap, subst, ◌∙◌, arith}
use Rattle.std.proofs.lemmas.List.{take_all}
use Rattle.std.specs.Prelude.{Some}
use Rattle.wl_stamps.specs.Composition.{IsOneVersionEach}
use Rattle.wl_stamps.specs.Reads.{Read, version_of, noted, all_noted}
use Rattle.wl_stamps.proofs.Noting.{all_noted-more, take-all_noted, version_of-all_noted, noted_before}
use Rattle.wl_stamps.proofs.Versions.{each_more, two_versions}
use Rattle.wl_stamps.proofs.trial.add_reads.Goals as goal
use Rattle.wl_stamps.proofs.trial.add_reads.Goals.{in-None+in_ok-note-in-None, in-Some-version_of+else-first-version}

pub returns-then-first-version-clause-when : goal.returns-then-first-version-clause-when
returns-then-first-version-clause-when c =
    let rs = c.args.reads.now in
    let ps = c.args.part.now in
    let r : Read = (c.in-Some.index, c.in-Some.version) in
    let found : version_of c.in-Some.index (rs ++ take c.loop-k.k ps) ≡ Some c.in-Some-version_of.first =
    sym (version_of-all_noted c.in-Some.index rs (take c.loop-k.k ps)) ∙ ap (version_of c.in-Some.index) (sym c.loop-k.invariant.0) ∙ sym c.in-Some-version_of.ensures
    in
    (λ t. absurd (cc), λ h. absurd (two_versions rs ps c.loop-k.k r c.in-Some-version_of.first (sym c.in-Some.ensures) found c.if-first-version.true h))

pub returns-then-first-version-clause-refused : goal.returns-then-first-version-clause-refused
returns-then-first-version-clause-refused c =
    let rs = c.args.reads.now in
    let some = take c.loop-k.k c.args.part.now in
    c.cut.ensures ∙ ap (take c.len-before.result) c.loop-k.invariant.0 ∙ ap (λ n. take n (all_noted rs some)) c.loop-k.invariant.1 ∙ take-all_noted rs some

pub loop-k-preserved : goal.loop-k-preserved
loop-k-preserved c =
    let rs = c.args.reads.now in
    let ps = c.args.part.now in
    let k = c.loop-k.k in
    let r : Read = (c.in-Some.index, c.in-Some.version) in
    let e = sym c.in-Some.ensures in
    let more = all_noted-more rs ps k r e in
    let first = sym (version_of-all_noted c.in-Some.index rs (take k ps)) ∙ ap (version_of c.in-Some.index) (sym c.loop-k.invariant.0) in
    elim c.match-version_of.branch [
      | in-None+in_ok-note-in-None w ↦ (
        w.reads-is ∙ w.in_ok-note-in-None.ensures.ok ∙ ap (λ xs. noted xs r) c.loop-k.invariant.0 ∙ sym more,
        c.loop-k.invariant.1,
        each_more rs ps k r e c.loop-k.invariant.2 (inl (first ∙ sym w.in-None.ensures)),
      )
      | in-Some-version_of+else-first-version w ↦
          let found = first ∙ sym w.in-Some-version_of.ensures ∙ ap Some w.if-first-version.false in (
            w.reads-is ∙ c.loop-k.invariant.0 ∙ sym (noted_before (all_noted rs (take k ps)) r c.in-Some.version (version_of-all_noted c.in-Some.index rs (take k ps) ∙ found)) ∙ sym more,
            c.loop-k.invariant.1,
            each_more rs ps k r e c.loop-k.invariant.2 (inr found),
          )
    ]

pub returns-clause-when : goal.returns-clause-when
returns-clause-when c =
    let rs = c.args.reads.now in
    (λ t. subst (λ xs. IsOneVersionEach (rs ++ xs)) (take_all c.loop-k.k c.args.part.now (omega arith)) c.loop-k.invariant.2, λ h. refl)
