use Rattle.std.proofs.Common.{◌≡◌, map, take}
use Rattle.wl_scan.specs.TokenParts.{lexeme_of}
use Rattle.wl_syntax.specs.Lexer.{grammar_token}
use Rattle.wl_syntax.specs.Polish.{token_of}
use Rattle.wl_syntax.proofs.lexer.grammar_tokens.Given as goal

abbrev pub invariant-loop-lexeme : goal.invariant-loop-lexeme
invariant-loop-lexeme l = map token_of l.tokens.items ≡ map grammar_token (map lexeme_of (take l.lexeme-index l.lexemes))
