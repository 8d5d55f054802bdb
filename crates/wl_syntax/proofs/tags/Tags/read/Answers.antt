use Rattle.std.proofs.Common.{ap, refl}
use Rattle.wl_syntax.specs.Polish.{token_of}
use Rattle.wl_syntax.proofs.Levels.{stays, sign_stays, atom_stays, comma_stays, opens, opens_round, opens_square, opens_brace, closes, closes_round, closes_square, closes_brace}
use Rattle.wl_syntax.proofs.tags.Tags.read.Goals as goal

pub returns-in-Sign : goal.returns-in-Sign
returns-in-Sign c p h = let e = sign_stays _ _ p _ _ h.tag (ap token_of c.in-Sign.is) c.sign_tag-self.ensures in stays c.args.self.now _ p _ h e.0 c.is_dot-self.ensures e.1 refl refl

pub returns-in-Atom : goal.returns-in-Atom
returns-in-Atom c p h = let e = atom_stays _ p _ _ h.tag (ap token_of c.in-Atom.is) in stays c.args.self.now _ p _ h e.0 c.is_dot-self.ensures e.1 refl refl

pub returns-in-Comma : goal.returns-in-Comma
returns-in-Comma c p h = let e = comma_stays p _ (ap token_of c.in-Comma.is) in stays c.args.self.now _ p _ h e.0 c.is_dot-self.ensures e.1 refl refl

pub returns-in_ok-open-in-OpenRound : goal.returns-in_ok-open-in-OpenRound
returns-in_ok-open-in-OpenRound c p h = opens c.args.self.now _ _ p _ _ h refl c.is_dot-self.ensures refl refl (opens_round _ (ap token_of c.in-OpenRound.is)) c.in_ok-open-in-OpenRound.ensures

pub returns-in_ok-open-in-OpenSquare : goal.returns-in_ok-open-in-OpenSquare
returns-in_ok-open-in-OpenSquare c p h = opens c.args.self.now _ _ p _ _ h refl c.is_dot-self.ensures refl refl (opens_square _ (ap token_of c.in-OpenSquare.is)) c.in_ok-open-in-OpenSquare.ensures

pub returns-in_ok-open-in-OpenBrace : goal.returns-in_ok-open-in-OpenBrace
returns-in_ok-open-in-OpenBrace c p h = opens c.args.self.now _ _ p _ _ h refl c.is_dot-self.ensures refl refl (opens_brace _ (ap token_of c.in-OpenBrace.is)) c.in_ok-open-in-OpenBrace.ensures

pub returns-in-CloseRound : goal.returns-in-CloseRound
returns-in-CloseRound c p h = closes c.args.self.now _ _ p _ h c.is_dot-self.ensures refl refl (closes_round _ (ap token_of c.in-CloseRound.is)) c.close.ensures

pub returns-in-CloseSquare : goal.returns-in-CloseSquare
returns-in-CloseSquare c p h = closes c.args.self.now _ _ p _ h c.is_dot-self.ensures refl refl (closes_square _ (ap token_of c.in-CloseSquare.is)) c.close-in-CloseSquare.ensures

pub returns-in-CloseBrace : goal.returns-in-CloseBrace
returns-in-CloseBrace c p h = closes c.args.self.now _ _ p _ h c.is_dot-self.ensures refl refl (closes_brace _ (ap token_of c.in-CloseBrace.is)) c.close-in-CloseBrace.ensures
