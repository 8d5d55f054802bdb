-- Ticks that follow one another.
use Rattle.std.proofs.Common.{◌≡◌, ◌+◌, ◌≤◌, ℕ, List, refl, sym, ◌∙◌, ap, arith}
use Rattle.wl_ports.specs.Counted.{TicksAtMost, add_to_last, add_twice, add_none}

pub ticks_none : (k : ℕ) (xs : List ℕ) → TicksAtMost k xs xs
ticks_none k xs = (0, omega arith, sym (add_none 0 xs refl))

pub ticks_one : (k : ℕ) (xs ys : List ℕ) → 1 ≤ k → ys ≡ add_to_last 1 xs → TicksAtMost k xs ys
ticks_one k xs ys h e = (1, h, e)

pub ticks_two : (xs ys zs : List ℕ) → ys ≡ add_to_last 1 xs → TicksAtMost 1 ys zs → TicksAtMost 2 xs zs
ticks_two xs ys zs e h = (1 + h.0, omega (arith, h.1), h.2 ∙ ap (add_to_last h.0) e ∙ add_twice 1 h.0 xs)
