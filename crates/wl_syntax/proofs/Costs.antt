-- What the tokens of a text cost, and that their atoms have the forms of their kinds.
use Rattle.std.proofs.Common.{ℕ, zero, suc, ◌+◌, ◌-◌, ◌*◌, ◌<◌, ◌≤◌, ◌≡◌, Bool, true, false, ◌&&◌, leb, ◌==◌, nat_eq, List, [], ◌∷◌, ◌++◌, map, length, take, drop, get_or, refl, sym, ap, ◌∙◌, subst, arith}
use Rattle.std.proofs.lemmas.List.{length-take, length-append}
use Rattle.std.proofs.lemmas.List.Sums.{split_at_first}
use Rattle.std.proofs.lemmas.Bool.{eqb-false, leb-true}
use Rattle.std.proofs.lemmas.Slice.Eq.{bytes_eq-Decides}
use Rattle.std.proofs.lemmas.Str.{length-encode, len_utf8_bounds}
use Rattle.std.proofs.Math.ListN.{length-drop}
use Rattle.std.specs.Prelude.{codes, if◌then◌else◌, encode_utf8, encode_utf8_all}
use Rattle.std.specs.List.{before_first, after_first, starts_with, position_or_len}
use Rattle.std.specs.Str.{IsUtf8, bytes_eq, chars, chars_after, continuation_len, lead_bits}
use Rattle.wl_expr.specs.Tree as full
use Rattle.wl_expr.specs.Tree.{weight}
use Rattle.wl_scan.specs.Forms.{HasForm, IsPattern, is_mark}
use Rattle.wl_scan.specs.Tokens.{Scanned, scanned_from, coming, found}
use Rattle.wl_scan.specs.declared.found.Found.{Found}
use Rattle.wl_scan.specs.declared.found.Found.TheVariants.{Gap, Lexed, Fault}
use Rattle.wl_scan.specs.declared.token.Kind.{Kind}
use Rattle.wl_scan.specs.declared.token.Kind.TheVariants.{Number, Name, Pattern, Slot, Out, Text, Sign}
use Rattle.wl_scan.specs.declared.token.Token.{Token as CodeLexeme}
use Rattle.wl_scan.proofs.Forms.{found_has}
use Rattle.wl_scan.proofs.Steps.{Advances, found_advances}
use Rattle.wl_syntax.specs.declared.operator.Sign.TheVariants as sign
use Rattle.wl_syntax.specs.Parsed.{IsTreeOf}
use Rattle.wl_syntax.specs.Atoms.{named, index, slot_tree, output_tree, blank, blanks, bound, defaulted, pattern_tree, unquoted, string_of}
use Rattle.wl_syntax.specs.Lexer.{signs, looked_up, token_of_kind, grammar_token, tokens}
use Rattle.wl_syntax.specs.Polish.{Node, polish}
use Rattle.wl_syntax.specs.Small.{sign_bytes, cost, costs, TokensFit, AtomsFit, ElemsFit, IsSmall}
use Rattle.wl_syntax.specs.Table.{infix_sign}
use Rattle.wl_syntax.specs.Token.{Atom, number, name, pattern, slot, output, text, Token}
use Rattle.wl_syntax.specs.Token as token
use Rattle.wl_syntax.specs.Tree.{Tree, leaf, paren, brace, call, part, before, after, last, between, Elems, none, more, sign_tokens, comma_after, reads, read_elems}
use Rattle.wl_syntax.proofs.Outcomes.{Lexed as LexedBytes, lexed_tokens}

-- a token that costs at most 15 a byte of its text, and has the form of its kind if it is an atom
pub record Fits (s : List ℕ) (k : Token) : Type 0 where
  pub form : (ks : List Token) → TokensFit ks → TokensFit (k ∷ ks)
  pub light : cost k ≤ 15 * length s

-- signs

first_holds : (a b : Bool) → (a && b) ≡ true → a ≡ true
first_holds true b e = refl
first_holds false b e = absurd (cc)

both : (a b : Bool) → (a && b) ≡ true → b ≡ true
both true b e = e
both false b e = absurd (cc)

-- no atom, and at most 15 a byte of the text
abbrev is_cheap : Token → List ℕ → Bool
is_cheap (token.atom a) s = false
is_cheap k s = leb (cost k) (15 * length s)

abbrev all_cheap : List (List ℕ × Token) → Bool
all_cheap [] = true
all_cheap (row ∷ rows) = is_cheap row.1 row.0 && all_cheap rows

cheap_fits : (k : Token) (s : List ℕ) → is_cheap k s ≡ true → Fits s k
unfolding cost TokensFit
cheap_fits (token.atom a) s e = absurd (cc)
cheap_fits (token.sign g) s e = record { form = λ ks h. h; light = leb-true _ _ e }
cheap_fits token.open_round s e = record { form = λ ks h. h; light = leb-true _ _ e }
cheap_fits token.close_round s e = record { form = λ ks h. h; light = leb-true _ _ e }
cheap_fits token.open_square s e = record { form = λ ks h. h; light = leb-true _ _ e }
cheap_fits token.close_square s e = record { form = λ ks h. h; light = leb-true _ _ e }
cheap_fits token.open_brace s e = record { form = λ ks h. h; light = leb-true _ _ e }
cheap_fits token.close_brace s e = record { form = λ ks h. h; light = leb-true _ _ e }
cheap_fits token.comma s e = record { form = λ ks h. h; light = leb-true _ _ e }

unused_fits : (s : List ℕ) → Fits s (token.sign sign.Unused)
unfolding cost sign_bytes TokensFit
unused_fits s = record { form = λ ks h. h; light = omega arith }

looked_up_fits : (rows : List (List ℕ × Token)) → all_cheap rows ≡ true → (s : List ℕ) → Fits s (looked_up rows s)
looked_up_fits [] e s = unused_fits s
looked_up_fits (row ∷ rows) e s = go (bytes_eq s row.0) refl (cheap_fits row.1 row.0 (first_holds _ _ e)) (looked_up_fits rows (both _ _ e) s)
  where
    go : (b : Bool) → bytes_eq s row.0 ≡ b → Fits row.0 row.1 → Fits s (looked_up rows s) → Fits s (if b then row.1 else looked_up rows s)
    go true q f g = subst (λ t. Fits t row.1) (sym ((bytes_eq-Decides s row.0).0 q)) f
    go false q f g = g

signs_cheap : all_cheap signs ≡ true
unfolding cost sign_bytes
signs_cheap = refl

sign_fits : (s : List ℕ) → Fits s (looked_up signs s)
sign_fits s = looked_up_fits signs signs_cheap s

-- atoms

either_weight : (b : Bool) (x y : full.Tree) (n : ℕ) → weight x ≤ n → weight y ≤ n → weight (if b then x else y) ≤ n
either_weight true x y n a b = a
either_weight false x y n a b = b

index_weight : (s : List ℕ) → weight (index s) ≤ 1
index_weight s = either_weight (length s == 0) _ _ 1 (omega arith) (omega arith)

two_long : (c d : ℕ) (s : List ℕ) → starts_with nat_eq s (c ∷ d ∷ []) ≡ true → 2 ≤ length s
two_long c d [] e = absurd (cc)
two_long c d (b ∷ []) e = let f : false ≡ true = both _ _ e in absurd (cc)
two_long c d (a ∷ b ∷ s) e = omega arith

slot_weight : (s : List ℕ) → 0 < length s → weight (slot_tree s) + 9 ≤ 15 * length s
slot_weight s l = go (starts_with nat_eq s (codes "##")) refl
  where
    go : (b : Bool) → starts_with nat_eq s (codes "##") ≡ b → weight (if b then named (codes "SlotSequence") (index (drop 2 s) ∷ []) else named (codes "Slot") (index (drop 1 s) ∷ [])) + 9 ≤ 15 * length s
    go true e = let m = two_long 35 35 s e in let w = index_weight (drop 2 s) in omega arith
    go false e = let w = index_weight (drop 1 s) in omega arith

output_weight : (s : List ℕ) → weight (output_tree s) ≤ 5
output_weight s = either_weight (length s == 1) _ _ 5 (omega arith) (either_weight (starts_with nat_eq s (codes "%%")) _ _ 5 (omega arith) (omega arith))

-- the characters of a string

length-chars_after : (n c : ℕ) (bs : List ℕ) → length (chars_after n c bs) ≤ 1 + length bs
length-chars_after zero c [] = omega arith
length-chars_after zero c (b ∷ bs) = let h = length-chars_after (continuation_len b) (lead_bits b) bs in omega arith
length-chars_after (suc n) c [] = omega arith
length-chars_after (suc n) c (b ∷ bs) = let h = length-chars_after n (c * 64 + (b - 128)) bs in omega arith

length-chars : (s : List ℕ) → length (chars s) ≤ length s
unfolding chars
length-chars [] = omega arith
length-chars (b ∷ bs) = let h = length-chars_after (continuation_len b) (lead_bits b) bs in omega arith

length-unquoted : (b : Bool) (cs : List ℕ) → length (unquoted b cs) ≤ length cs
length-unquoted true [] = omega arith
length-unquoted false [] = omega arith
length-unquoted true (c ∷ cs) = let h = length-unquoted false cs in omega arith
length-unquoted false (c ∷ cs) = go (c == 92) (c == 34) (length-unquoted true cs) (length-unquoted false cs)
  where
    go : (a b : Bool) → length (unquoted true cs) ≤ length cs → length (unquoted false cs) ≤ length cs → length (if a then unquoted true cs else (if b then unquoted false cs else c ∷ unquoted false cs)) ≤ suc (length cs)
    go true b g h = omega arith
    go false true g h = omega arith
    go false false g h = omega arith

length-encoded : (cs : List ℕ) → length (encode_utf8_all cs) ≤ 4 * length cs
length-encoded [] = omega arith
length-encoded (c ∷ cs) = let h = length-encoded cs in let e = length-encode c in let b = (len_utf8_bounds c).1 in let a = length-append (encode_utf8 c) (encode_utf8_all cs) in omega arith

string_weight : (s : List ℕ) → 0 < length s → weight (full.text (string_of s)) + 9 ≤ 15 * length s
string_weight s l = let a = length-encoded (unquoted false (chars s)) in let b = length-unquoted false (chars s) in let c = length-chars s in omega arith

-- patterns

bound_weight : (s : List ℕ) (p : full.Tree) → weight (bound s p) ≤ 15 * length s + weight p
bound_weight s p = go (length s == 0) refl
  where
    go : (b : Bool) → (length s == 0) ≡ b → weight (if b then p else named (codes "Pattern") (full.symbol s ∷ p ∷ [])) ≤ 15 * length s + weight p
    go true e = omega arith
    go false e = let n : length s ≡ 0 → ⊥ = eqb-false (length s) 0 e in omega (arith, n)

blank_weight : (kind head : List ℕ) → weight (blank kind head) ≤ 1 + length kind + 2 * length head
blank_weight kind head = go (length head == 0) refl (bytes_eq head (codes "."))
  where
    go : (a : Bool) → (length head == 0) ≡ a → (b : Bool) → weight (if a then named kind [] else (if b then named kind [] else named kind (full.symbol head ∷ []))) ≤ 1 + length kind + 2 * length head
    go true e b = omega arith
    go false e true = omega arith
    go false e false = let n : length head ≡ 0 → ⊥ = eqb-false (length head) 0 e in omega (arith, n)

one_long : (c : ℕ) (s : List ℕ) → starts_with nat_eq s (c ∷ []) ≡ true → 1 ≤ length s
one_long c [] e = absurd (cc)
one_long c (a ∷ s) e = omega arith

blanks_weight : (s : List ℕ) → weight (blanks s) + 9 ≤ 15 * (1 + length s)
blanks_weight s = go (starts_with nat_eq s (codes "__")) refl (starts_with nat_eq s (codes "_")) refl
  where
    go : (a : Bool) → starts_with nat_eq s (codes "__") ≡ a → (b : Bool) → starts_with nat_eq s (codes "_") ≡ b
        → weight (if a then blank (codes "BlankNullSequence") (drop 2 s) else (if b then blank (codes "BlankSequence") (drop 1 s) else blank (codes "Blank") s)) + 9 ≤ 15 * (1 + length s)
    go true e b f = let m = two_long 95 95 s e in let w = blank_weight (codes "BlankNullSequence") (drop 2 s) in let d = length-drop 2 s in omega arith
    go false e true f = let m = one_long 95 s f in let w = blank_weight (codes "BlankSequence") (drop 1 s) in let d = length-drop 1 s in omega arith
    go false e false f = let w = blank_weight (codes "Blank") s in omega arith

dot_weight : (s : List ℕ) → s ≡ codes "." → weight (blanks s) ≤ 6
dot_weight s e = rw e (omega arith)

defaulted_weight : (s rest : List ℕ) → weight (defaulted rest (bound s (blanks rest))) + 9 ≤ 15 * (length s + (1 + length rest))
defaulted_weight s rest = go (bytes_eq rest (codes ".")) refl
  where
    go : (a : Bool) → bytes_eq rest (codes ".") ≡ a → weight (if a then named (codes "Optional") (bound s (blanks rest) ∷ []) else bound s (blanks rest)) + 9 ≤ 15 * (length s + (1 + length rest))
    go true e =
        let q = (bytes_eq-Decides rest (codes ".")).0 e in let w = dot_weight rest q in let b = bound_weight s (blanks rest) in
        let l = ap length q in omega arith
    go false e = let w = blanks_weight rest in let b = bound_weight s (blanks rest) in omega arith

pattern_weight : (s : List ℕ) → IsPattern s → weight (pattern_tree s) + 9 ≤ 15 * length s
pattern_weight s h =
    let e = ap length (split_at_first is_mark s 0 h.mark) in
    let a = length-append (before_first is_mark s) (get_or s (position_or_len is_mark s) 0 ∷ after_first is_mark s) in
    let w = defaulted_weight (before_first is_mark s) (after_first is_mark s) in omega arith

kind_fits : (k : Kind) (s : List ℕ) → HasForm k s → 0 < length s → Fits s (token_of_kind k s)
unfolding cost TokensFit
kind_fits Number s h l = record { form = λ ks f. (h, f); light = omega arith }
kind_fits Name s h l = record { form = λ ks f. (h, f); light = omega arith }
kind_fits Pattern s h l = let w = pattern_weight s h in record { form = λ ks f. (h, f); light = omega arith }
kind_fits Slot s h l = let w = slot_weight s l in record { form = λ ks f. (h, f); light = omega arith }
kind_fits Out s h l = let w = output_weight s in record { form = λ ks f. (h, f); light = omega arith }
kind_fits Text s h l = let w = string_weight s l in record { form = λ ks f. (tt, f); light = omega arith }
kind_fits Sign s h l = sign_fits s

-- all tokens of a text

pub record AllFit (ks : List Token) (n : ℕ) : Type 0 where
  pub forms : TokensFit ks
  pub light : costs ks ≤ 15 * n

more_fit : (k : Token) (s : List ℕ) (ks : List Token) (m n : ℕ) → Fits s k → AllFit ks m → length s + m ≤ n → AllFit (k ∷ ks) n
unfolding costs
more_fit k s ks m n f h l = let a = f.light in let b = h.light in record { forms = f.form ks h.forms; light = omega arith }

wider : (ks : List Token) (m n : ℕ) → AllFit ks m → m ≤ n → AllFit ks n
wider ks m n h l = let b = h.light in record { forms = h.forms; light = omega arith }

none_fit : (n : ℕ) → AllFit [] n
unfolding costs TokensFit
none_fit n = record { forms = tt; light = omega arith }

abbrev HasFound : List ℕ → Found → Type 0
HasFound s (Lexed kind n) = HasForm kind (take n s)
HasFound s _ = Unit {0}

coming_fit : (b at : ℕ) (bs : List ℕ) (f : Found) (rest : ℕ → Scanned) → HasFound (b ∷ bs) f → Advances (b ∷ bs) f
    → ((n : ℕ) → IsUtf8 (drop n bs) → AllFit (map grammar_token (rest n).tokens) (length (drop n bs))) → AllFit (map grammar_token (coming f (b ∷ bs) at rest).tokens) (suc (length bs))
coming_fit b at bs (Gap zero) rest h a all = absurd (omega (arith, a.0))
coming_fit b at bs (Gap (suc n)) rest h a all =
    let e : n ≡ suc n - 1 = omega arith in let d = length-drop n bs in
    subst (λ k. AllFit (map grammar_token (rest k).tokens) (suc (length bs))) e (wider _ _ _ (all n a.1.utf8) (omega arith))
coming_fit b at bs (Lexed kind zero) rest h a all = absurd (omega (arith, a.0))
coming_fit b at bs (Lexed kind (suc n)) rest h a all =
    let e : n ≡ suc n - 1 = omega arith in let d = length-drop n bs in let t = length-take (suc n) (b ∷ bs) in
    more_fit (token_of_kind kind (take (suc n) (b ∷ bs))) (take (suc n) (b ∷ bs)) (map grammar_token (rest (suc n - 1)).tokens) (length (drop n bs)) (suc (length bs))
    (kind_fits kind (take (suc n) (b ∷ bs)) h (omega arith)) (subst (λ k. AllFit (map grammar_token (rest k).tokens) (length (drop n bs))) e (all n a.1.utf8)) (omega arith)
coming_fit b at bs (Fault kind n) rest h a all = none_fit (suc (length bs))

fit_from : (passed at : ℕ) (bs : List ℕ) → IsUtf8 (drop passed bs) → AllFit (map grammar_token (scanned_from passed at bs).tokens) (length (drop passed bs))
unfolding scanned_from
fit_from zero at [] u = none_fit 0
fit_from (suc passed) at [] u = none_fit 0
fit_from (suc passed) at (b ∷ bs) u = fit_from passed (at + 1) bs u
fit_from zero at (b ∷ bs) u =
    coming_fit b at bs (found (b ∷ bs)) (λ n. scanned_from n (at + 1) bs) (found_has (b ∷ bs) u) (found_advances (b ∷ bs) u (omega arith)) (λ n v. fit_from n (at + 1) bs v)

pub tokens_fit : (bytes : List ℕ) → IsUtf8 bytes → AllFit (tokens bytes) (length bytes)
tokens_fit bytes u = fit_from 0 1 bytes u

-- and those of its tree

front : (a b : List Token) → TokensFit (a ++ b) → TokensFit a × TokensFit b
unfolding TokensFit
front [] b h = (tt, h)
front (token.atom x ∷ a) b h = let g = front a b h.1 in ((h.0, g.0), g.1)
front (token.sign g ∷ a) b h = front a b h
front (token.open_round ∷ a) b h = front a b h
front (token.close_round ∷ a) b h = front a b h
front (token.open_square ∷ a) b h = front a b h
front (token.close_square ∷ a) b h = front a b h
front (token.open_brace ∷ a) b h = front a b h
front (token.close_brace ∷ a) b h = front a b h
front (token.comma ∷ a) b h = front a b h

mutual
  unfolding TokensFit AtomsFit reads

  atoms_fit : (t : Tree) → TokensFit (reads t) → AtomsFit t
  atoms_fit (leaf a) h = h.0
  atoms_fit (paren t) h = atoms_fit t (front (reads t) (token.close_round ∷ []) h).0
  atoms_fit (brace xs) h = elems_fit xs (front (read_elems xs) (token.close_brace ∷ []) h).0
  atoms_fit (call f xs) h =
      let g = front (reads f) (token.open_square ∷ (read_elems xs ++ token.close_square ∷ [])) h in
      (atoms_fit f g.0, elems_fit xs (front (read_elems xs) (token.close_square ∷ []) g.1).0)
  atoms_fit (part f xs t) h =
      let g = front (reads f) (token.open_square ∷ token.open_square ∷ (read_elems xs ++ (comma_after xs ++ (reads t ++ token.close_square ∷ token.close_square ∷ [])))) h in
      let i = front (read_elems xs) (comma_after xs ++ (reads t ++ token.close_square ∷ token.close_square ∷ [])) g.1 in
      let j = front (comma_after xs) (reads t ++ token.close_square ∷ token.close_square ∷ []) i.1 in
      (atoms_fit f g.0, elems_fit xs i.0, atoms_fit t (front (reads t) (token.close_square ∷ token.close_square ∷ []) j.1).0)
  atoms_fit (before o t) h = atoms_fit t h
  atoms_fit (after t o) h = atoms_fit t (front (reads t) _ h).0
  atoms_fit (last t) h = atoms_fit t (front (reads t) _ h).0
  atoms_fit (between l o r) h = let g = front (reads l) (sign_tokens (infix_sign o) ++ reads r) h in (atoms_fit l g.0, atoms_fit r (front (sign_tokens (infix_sign o)) (reads r) g.1).1)

  elems_fit : (xs : Elems) → TokensFit (read_elems xs) → ElemsFit xs
  elems_fit none h = tt
  elems_fit (more xs t) h = let g = front (read_elems xs) (comma_after xs ++ reads t) h in (elems_fit xs g.0, atoms_fit t (front (comma_after xs) (reads t) g.1).1)

pub small_tree : (bytes : List ℕ) (ls : List CodeLexeme) (ks : List Token) (ns : List Node) → length bytes ≤ 131072 → LexedBytes bytes ls ks → (t : Tree) × IsTreeOf ks t × (ns ≡ polish t) → (t : Tree) × (ns ≡ polish t) × IsSmall t
small_tree bytes ls ks ns l h (t, r, p) =
    let a : AllFit (reads t) (length bytes) = subst (λ k. AllFit k (length bytes)) (sym (r.1 ∙ lexed_tokens bytes ls ks h)) (tokens_fit bytes h.scanned_text.0) in
    let w = a.light in (t, p, record { right = r.0; forms = atoms_fit t a.forms; light = omega arith })
