-- The tokens of a text, one after another.
use Rattle.std.proofs.Common.{◌≡◌, List, [], ◌∷◌, ◌++◌, Some, None, map, sym, ap, ◌∙◌, append_assoc, append-nil, length, arith, ◌<◌}
use Rattle.std.proofs.lemmas.List.{map-append}
use Rattle.wl_scan.specs.declared.token.Token.{Token as CodeLexeme}
use Rattle.wl_scan.specs.declared.token.ScanFault.{ScanFault}
use Rattle.wl_scan.specs.TokenParts.{lexeme_of}
use Rattle.wl_scan.specs.Tokens.{Scanned, nothing, token_before, faulty}

-- what was taken and what is left
pub record Taken (all rest : Scanned) (vs : List CodeLexeme) : Type 0 where
  pub tokens : all.tokens ≡ map lexeme_of vs ++ rest.tokens
  pub fault : all.fault ≡ rest.fault

pub taken_begin : (all rest : Scanned) (vs : List CodeLexeme) → rest ≡ all → vs ≡ [] → Taken all rest vs
taken_begin all rest vs e f = record { tokens = ap (λ s. s.tokens) (sym e) ∙ ap (λ ws. map lexeme_of ws ++ rest.tokens) (sym f); fault = ap (λ s. s.fault) (sym e) }

pub taken_next : (all old new : Scanned) (vs ws : List CodeLexeme) (t : CodeLexeme) → Taken all old vs → old ≡ token_before (lexeme_of t) new → ws ≡ vs ++ t ∷ [] → Taken all new ws
taken_next all old new vs ws t h e f = record {
  tokens = h.tokens ∙ ap (λ s. map lexeme_of vs ++ s.tokens) e ∙ sym (append_assoc (map lexeme_of vs) (lexeme_of t ∷ []) new.tokens) ∙ ap (λ ls. ls ++ new.tokens) (sym (map-append lexeme_of vs (t ∷ []))) ∙ ap (λ us. map lexeme_of us ++ new.tokens) (sym f);
  fault = h.fault ∙ ap (λ s. s.fault) e;
}

pub taken_falls : (old new : Scanned) (t : CodeLexeme) → old ≡ token_before (lexeme_of t) new → length new.tokens < length old.tokens
taken_falls old new t e = let f : length old.tokens ≡ length (lexeme_of t ∷ new.tokens) = ap (λ s. length s.tokens) e in omega arith

pub taken_all : (all rest : Scanned) (vs : List CodeLexeme) → Taken all rest vs → rest ≡ nothing → (all.tokens ≡ map lexeme_of vs) × (all.fault ≡ None)
taken_all all rest vs h e = (h.tokens ∙ ap (λ s. map lexeme_of vs ++ s.tokens) e ∙ append-nil (map lexeme_of vs), h.fault ∙ ap (λ s. s.fault) e)

pub taken_fault : (all rest : Scanned) (vs : List CodeLexeme) (f : ScanFault) → Taken all rest vs → rest ≡ faulty f → all.fault ≡ Some f
taken_fault all rest vs f h e = h.fault ∙ ap (λ s. s.fault) e
