-- What a `Token` of the code is.
use Rattle.wl_scan.specs.Tokens.{Lexeme}
use Rattle.wl_scan.specs.declared.token.Token.{Token}

abbrev pub lexeme_of : Token → Lexeme
lexeme_of token = record { kind = token.kind; text = token.text.now; at = token.at }
