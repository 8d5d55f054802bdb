-- What a cell reads as, from the answers of the calls on its way.
use Rattle.std.proofs.Common.{ℕ, zero, suc, ◌<◌, ◌≤◌, ◌≡◌, List, [], ◌∷◌, Some, Err, map, length, get_or, refl, sym, ap, ◌∙◌, subst, arith}
use Rattle.std.proofs.lemmas.List.{length-map}
use Rattle.std.proofs.lemmas.Option.{slice_get-get_or}
use Rattle.std.specs.List.{slice_get}
use Rattle.wl_scan.specs.TokenParts.{lexeme_of}
use Rattle.wl_scan.specs.Tokens.{Lexeme, scanned}
use Rattle.wl_scan.specs.declared.token.Token.{Token as CodeLexeme}
use Rattle.wl_syntax.specs.declared.parser.TreeFault.{TreeFault}
use Rattle.wl_syntax.specs.declared.parser.TreeFault.TheVariants.{Unexpected}
use Rattle.wl_syntax.specs.Parsed.{IsParsed, IsTreeOf, IsUnclosed, IsUnexpected}
use Rattle.wl_syntax.specs.Depth.{depth, max_depth}
use Rattle.wl_expr.specs.Stamped.{Stamped, plain, unstamped, plain_unstamped}
use Rattle.wl_syntax.specs.Lexer.{grammar_token, tokens}
use Rattle.wl_syntax.specs.Lower.{lower}
use Rattle.wl_syntax.specs.Polish.{Node, polish}
use Rattle.wl_syntax.specs.Reads.{IsScanned, StandsAt, HasTree, IsReadAs}
use Rattle.wl_syntax.specs.Token.{Token}
use Rattle.wl_syntax.specs.Tree.{Tree}

-- the tokens of a text without a fault
pub record Lexed (bytes : List ℕ) (ls : List CodeLexeme) (ks : List Token) : Type 0 where
  pub scanned_text : IsScanned bytes
  pub lexemes : (scanned bytes).tokens ≡ map lexeme_of ls
  pub grammar : ks ≡ map grammar_token (map lexeme_of ls)

pub lexed_tokens : (bytes : List ℕ) (ls : List CodeLexeme) (ks : List Token) → Lexed bytes ls ks → ks ≡ tokens bytes
lexed_tokens bytes ls ks h = h.grammar ∙ ap (map grammar_token) (sym h.lexemes)

pub tree_read : (bytes : List ℕ) (ls : List CodeLexeme) (ks : List Token) (ns : List Node) (e : Stamped) → Lexed bytes ls ks → (t : Tree) × IsTreeOf ks t × (ns ≡ polish t) → ((t : Tree) → ns ≡ polish t → (depth t ≤ max_depth) × (e ≡ unstamped (lower t))) → IsReadAs bytes (plain e) × (e ≡ unstamped (plain e))
tree_read bytes ls ks ns e h (t, r, p) f =
    let d = f t p in
    let l : plain e ≡ lower t = ap plain d.1 ∙ plain_unstamped (lower t) in
    (record { tree = t; right = (h.scanned_text, subst (λ k. IsTreeOf k t) (lexed_tokens bytes ls ks h) r); shallow = d.0; lowered = l }, d.1 ∙ ap unstamped (sym l))

pub deep_read : (bytes : List ℕ) (ls : List CodeLexeme) (ks : List Token) (ns : List Node) → Lexed bytes ls ks → (t : Tree) × IsTreeOf ks t × (ns ≡ polish t) → ((t : Tree) → ns ≡ polish t → max_depth < depth t) → (t : Tree) × HasTree bytes t × (max_depth < depth t)
deep_read bytes ls ks ns h (t, r, e) f = (t, (h.scanned_text, subst (λ k. IsTreeOf k t) (lexed_tokens bytes ls ks h) r), f t e)

pub unclosed_read : (bytes : List ℕ) (ls : List CodeLexeme) (ks : List Token) → Lexed bytes ls ks → IsUnclosed ks → IsScanned bytes × IsUnclosed (tokens bytes)
unclosed_read bytes ls ks h u = (h.scanned_text, subst IsUnclosed (lexed_tokens bytes ls ks h) u)

get_or_mapped : {A B : Type 0} (f : A → B) (xs : List A) (i : ℕ) (d : A) → get_or (map f xs) i (f d) ≡ f (get_or xs i d)
get_or_mapped f [] i d = refl
get_or_mapped f (x ∷ xs) zero d = refl
get_or_mapped f (x ∷ xs) (suc i) d = get_or_mapped f xs i d

abbrev at_of : Lexeme → ℕ
at_of l = l.at

pub stands_at : (bytes : List ℕ) (ls : List CodeLexeme) (i : ℕ) (d : CodeLexeme) → (scanned bytes).tokens ≡ map lexeme_of ls → i < length ls → StandsAt bytes i ((get_or ls i d).at)
stands_at bytes ls i d e l =
    let n : i < length (map at_of (map lexeme_of ls)) = rw (length-map (map lexeme_of ls) at_of, length-map ls lexeme_of) l in
    subst (λ ts. slice_get (map at_of ts) i ≡ Some ((get_or ls i d).at)) (sym e)
    (slice_get-get_or (map at_of (map lexeme_of ls)) i (at_of (lexeme_of d)) n
    ∙ ap (λ x. Some x) (get_or_mapped at_of (map lexeme_of ls) i (lexeme_of d) ∙ ap at_of (get_or_mapped lexeme_of ls i d)))

pub place_within : (bytes : List ℕ) (ls : List CodeLexeme) (ks : List Token) (i : ℕ) → Lexed bytes ls ks → IsUnexpected ks i → i < length ls
place_within bytes ls ks i h u =
    let e : length ks ≡ length ls = ap length h.grammar ∙ length-map (map lexeme_of ls) grammar_token ∙ length-map ls lexeme_of in
    let w = u.within in omega arith

pub unexpected_read : (bytes : List ℕ) (ls : List CodeLexeme) (ks : List Token) (i : ℕ) (l : CodeLexeme) → Lexed bytes ls ks → IsUnexpected ks i → l ≡ get_or ls i l → IsScanned bytes × ((place : ℕ) × IsUnexpected (tokens bytes) place × StandsAt bytes place l.at)
unexpected_read bytes ls ks i l h u e =
    (h.scanned_text, (i, subst (λ k. IsUnexpected k i) (lexed_tokens bytes ls ks h) u, subst (λ m. StandsAt bytes i m.at) (sym e) (stands_at bytes ls i l h.lexemes (place_within bytes ls ks i h u))))

-- what the parser's answer says of an unexpected token
pub at_unexpected : (ks ls : List Token) (f : TreeFault) (i : ℕ) → IsParsed (λ (ns : List Node). ns) ks (Err f) → f ≡ Unexpected i → ks ≡ ls → IsUnexpected ls i
at_unexpected ks ls f i a e g = subst (λ k. IsUnexpected k i) g (subst (λ h. IsParsed (λ (ns : List Node). ns) ks (Err h)) e a)
