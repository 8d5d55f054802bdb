-- Loops: While and For. Break ends the innermost of them, Continue its pass. The rules are those of the manual's pages on these; which forms are left as they are is this project's own.
use Rattle.std.specs.Prelude.{ℕ, zero, suc, List, [], ◌∷◌, Option, Some, None, if◌then◌else◌}
use Rattle.wl_expr.specs.Tree.{Tree}
use Rattle.wl_expr.specs.Words.{null_symbol, is_true}
use Rattle.wl_control.specs.Asks.{Asks, gives, stays, eval, eval_catching, pass, endless, Caught, value, broke, continued}

-- what comes after the condition: where its value isn't True the loop ends
abbrev pub after_condition : Caught → Asks → Asks → Asks
after_condition (value v) rest continue = if is_true v then rest else gives null_symbol
after_condition broke rest continue = gives null_symbol
after_condition continued rest continue = continue

-- what comes after a body or a step
abbrev pub after_part : Caught → Asks → Asks
after_part (value v) rest = rest
after_part broke rest = gives null_symbol
after_part continued rest = rest

-- a body or a step, which may be left out
abbrev pub part : Option Tree → Asks → Asks
part None rest = rest
part (Some e) rest = eval_catching e (λ u. after_part u rest)

-- A pass starts right before its condition is evaluated; then come the body and the step. Continue in the condition or the body leads to the step, and in the step to the next pass.
unfoldable pub loop_from : ℕ → Tree → Option Tree → Option Tree → Asks
loop_from zero c b i = stays
loop_from (suc n) c b i = pass (λ _. eval_catching c (λ u. after_condition u (part b (part i (loop_from n c b i))) (part i (loop_from n c b i))))

-- `While[c]`, `While[c, b]`: no step
abbrev pub while_row : List Tree → Asks
while_row (c ∷ []) = loop_from endless c None None
while_row (c ∷ b ∷ []) = loop_from endless c (Some b) None
while_row es = stays

-- `For[s, c, i]`, `For[s, c, i, b]`: s is evaluated once, and Break and Continue in it aren't caught
abbrev pub for_row : List Tree → Asks
for_row (s ∷ c ∷ i ∷ []) = eval s (λ v. loop_from endless c None (Some i))
for_row (s ∷ c ∷ i ∷ b ∷ []) = eval s (λ v. loop_from endless c (Some b) (Some i))
for_row es = stays
