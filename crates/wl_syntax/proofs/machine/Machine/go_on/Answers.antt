use Rattle.std.proofs.Common.{ap}
use Rattle.wl_syntax.specs.Polish.{token_of}
use Rattle.wl_syntax.specs.Machine.{open_square, close_round, close_square, close_brace, next_element, closed, behind, beside}
use Rattle.wl_syntax.specs.RoleOf.{role_of}
use Rattle.wl_syntax.proofs.Steps.{as_step, step_sign, step_open_square, step_close_round, step_close_square, step_close_brace, step_comma, step_atom, step_open_round, step_open_brace}
use Rattle.wl_syntax.proofs.machine.Machine.go_on.Goals as goal

pub returns-in_ok-go_on_sign-in-Sign : goal.returns-in_ok-go_on_sign-in-Sign
returns-in_ok-go_on_sign-in-Sign c = as_step (behind (role_of c.role.result)) _ _ _ _ _ _ _ c.requires (step_sign _ _ _ (ap token_of c.in-Sign.is) c.role.ensures) c.in_ok-go_on_sign-in-Sign.ensures

pub returns-in_ok-open_square-in-OpenSquare : goal.returns-in_ok-open_square-in-OpenSquare
returns-in_ok-open_square-in-OpenSquare c = as_step (λ st. open_square (closed 3 st)) _ _ _ _ _ _ _ c.requires (step_open_square _ (ap token_of c.in-OpenSquare.is)) (λ st h. c.in_ok-open_square-in-OpenSquare.ensures _ (c.in_ok-close-in-OpenSquare.ensures st h))

pub returns-in_ok-close_round-in-CloseRound : goal.returns-in_ok-close_round-in-CloseRound
returns-in_ok-close_round-in-CloseRound c = as_step (λ st. close_round (closed 31 st)) _ _ _ _ _ _ _ c.requires (step_close_round _ (ap token_of c.in-CloseRound.is)) (λ st h. c.in_ok-close_round-in-CloseRound.ensures _ (c.in_ok-close-in-CloseRound.ensures st h))

pub returns-in_ok-close_square-in-CloseSquare : goal.returns-in_ok-close_square-in-CloseSquare
returns-in_ok-close_square-in-CloseSquare c = as_step (λ st. close_square (closed 31 st)) _ _ _ _ _ _ _ c.requires (step_close_square _ (ap token_of c.in-CloseSquare.is)) (λ st h. c.in_ok-close_square-in-CloseSquare.ensures _ (c.in_ok-close-in-CloseSquare.ensures st h))

pub returns-in_ok-close_brace-in-CloseBrace : goal.returns-in_ok-close_brace-in-CloseBrace
returns-in_ok-close_brace-in-CloseBrace c = as_step (λ st. close_brace (closed 31 st)) _ _ _ _ _ _ _ c.requires (step_close_brace _ (ap token_of c.in-CloseBrace.is)) (λ st h. c.in_ok-close_brace-in-CloseBrace.ensures _ (c.in_ok-close-in-CloseBrace.ensures st h))

pub returns-in_ok-next_element-in-Comma : goal.returns-in_ok-next_element-in-Comma
returns-in_ok-next_element-in-Comma c = as_step (λ st. next_element (closed 31 st)) _ _ _ _ _ _ _ c.requires (step_comma _ (ap token_of c.in-Comma.is)) (λ st h. c.in_ok-next_element-in-Comma.ensures _ (c.in_ok-close-in-Comma.ensures st h))

pub returns-in_ok-start_beside-in-Atom : goal.returns-in_ok-start_beside-in-Atom
returns-in_ok-start_beside-in-Atom c = as_step (beside (token_of c.args.token)) _ _ _ _ _ _ _ c.requires (step_atom _ _ (ap token_of c.in-Atom.is)) c.in_ok-start_beside-in-Atom.ensures

pub returns-in_ok-start_beside-in-OpenRound : goal.returns-in_ok-start_beside-in-OpenRound
returns-in_ok-start_beside-in-OpenRound c = as_step (beside (token_of c.args.token)) _ _ _ _ _ _ _ c.requires (step_open_round _ (ap token_of c.in-OpenRound.is)) c.in_ok-start_beside-in-OpenRound.ensures

pub returns-in_ok-start_beside-in-OpenBrace : goal.returns-in_ok-start_beside-in-OpenBrace
returns-in_ok-start_beside-in-OpenBrace c = as_step (beside (token_of c.args.token)) _ _ _ _ _ _ _ c.requires (step_open_brace _ (ap token_of c.in-OpenBrace.is)) c.in_ok-start_beside-in-OpenBrace.ensures
