use Rattle.std.proofs.Common.{◌≡◌, ◌<◌, ◌≤◌, ◌++◌, ℕ, List, [], length, take, drop, min, arith, sym, ap, ◌∙◌, take-append-drop}
use Rattle.std.proofs.lemmas.Grind.{common_steps}
use Rattle.std.proofs.lemmas.List.{take-append-le}
use Rattle.wl_ports.proofs.memory_source.MemorySourceSource.read.Goals as goal

gave : (old into tail new : List ℕ) (n : ℕ) → n ≤ length into → take n into ≡ take n old → new ≡ drop n old → old ≡ take n (into ++ tail) ++ new
gave old into tail new n within front rest =
    sym (take-append-drop n old) ∙ ap (λ (l : List ℕ). l ++ drop n old) (sym (take-append-le n into tail within ∙ front)) ∙ ap (λ (l : List ℕ). take n (into ++ tail) ++ l) (sym rest)

at_end : (xs : List ℕ) → length xs ≡ 0 → xs ≡ []
at_end xs e = grind (arith, common_steps)

-- the given bytes are none only where there is no room or nothing is left
ends : (old into : List ℕ) (whole : List ℕ) (n most piece : ℕ) → n ≡ min (length into) (length old) → length into ≡ length (take most whole) → most ≡ min piece (length whole) → 1 ≤ piece
    → n ≡ 0 → 0 < length whole → length old ≡ 0
ends old into whole n most piece count known is large none some = grind (arith, common_steps)

pub returns-clause-bytes : goal.returns-clause-bytes
returns-clause-bytes c =
    let given = c.give.ensures in
    let known = c.give.auto.into in
    let within : c.give.result ≤ length c.give.new.into = omega (arith, given.count) in
    let all : length (c.give.new.into ++ drop c.min-most.result c.args.into.now) ≡ length c.args.into.now = grind (arith, common_steps, known, c.min-most.ensures) in
    rw (← c.self.view_is) (
      gave _ _ _ _ _ within given.front given.left,
      λ none some.
          at_end _ (let over = ends _ _ _ _ _ _ given.count known c.min-most.ensures c.self.invariant none (omega (arith, all)) in grind (arith, common_steps, given.left)),
    )
