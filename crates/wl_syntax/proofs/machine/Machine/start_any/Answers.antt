use Rattle.std.proofs.Common.{ap}
use Rattle.wl_syntax.specs.Polish.{token_of}
use Rattle.wl_syntax.specs.Machine.{brace_opened, second_square, empty_square, empty_brace}
use Rattle.wl_syntax.proofs.Steps.{leaf_starts, prefix_starts, prefix_none, round_starts, starts_as, starts_dead, start_brace, start_second, start_empty_square, start_empty_brace, start_round, start_comma}
use Rattle.wl_syntax.proofs.machine.Machine.start_any.Goals as goal

pub returns-in_ok-put_leaf-in-Atom : goal.returns-in_ok-put_leaf-in-Atom
returns-in_ok-put_leaf-in-Atom c = leaf_starts _ _ _ _ _ _ _ _ c.requires (ap token_of c.in-Atom.is) c.in_ok-put_leaf-in-Atom.ensures

pub returns-in_ok-push-in-Some : goal.returns-in_ok-push-in-Some
returns-in_ok-push-in-Some c = prefix_starts _ _ _ _ _ _ _ c.requires (ap token_of c.in-Sign.is) c.in-Some.ensures c.in_ok-push-in-Some.ensures.items

pub returns-in-None : goal.returns-in-None
returns-in-None c = prefix_none _ _ _ _ _ c.requires (ap token_of c.in-Sign.is) c.in-None.ensures

pub returns-in_ok-push-in-OpenRound : goal.returns-in_ok-push-in-OpenRound
returns-in_ok-push-in-OpenRound c = round_starts _ _ _ _ _ c.requires (ap token_of c.in-OpenRound.is) c.in_ok-push-in-OpenRound.ensures.items

pub returns-in_ok-start_list-in-OpenBrace : goal.returns-in_ok-start_list-in-OpenBrace
returns-in_ok-start_list-in-OpenBrace c = starts_as brace_opened _ _ _ _ _ _ _ c.requires (start_brace _ (ap token_of c.in-OpenBrace.is)) c.in_ok-start_list-in-OpenBrace.ensures

pub returns-in_ok-second_square-in-OpenSquare : goal.returns-in_ok-second_square-in-OpenSquare
returns-in_ok-second_square-in-OpenSquare c = starts_as second_square _ _ _ _ _ _ _ c.requires (start_second _ (ap token_of c.in-OpenSquare.is)) c.in_ok-second_square-in-OpenSquare.ensures

pub returns-in_ok-empty_square-in-CloseSquare : goal.returns-in_ok-empty_square-in-CloseSquare
returns-in_ok-empty_square-in-CloseSquare c = starts_as empty_square _ _ _ _ _ _ _ c.requires (start_empty_square _ (ap token_of c.in-CloseSquare.is)) c.in_ok-empty_square-in-CloseSquare.ensures

pub returns-in_ok-empty_brace-in-CloseBrace : goal.returns-in_ok-empty_brace-in-CloseBrace
returns-in_ok-empty_brace-in-CloseBrace c = starts_as empty_brace _ _ _ _ _ _ _ c.requires (start_empty_brace _ (ap token_of c.in-CloseBrace.is)) c.in_ok-empty_brace-in-CloseBrace.ensures

pub returns-in-CloseRound : goal.returns-in-CloseRound
returns-in-CloseRound c = starts_dead _ _ _ _ _ _ c.requires (start_round _ (ap token_of c.in-CloseRound.is))

pub returns-in-Comma : goal.returns-in-Comma
returns-in-Comma c = starts_dead _ _ _ _ _ _ c.requires (start_comma _ (ap token_of c.in-Comma.is))
