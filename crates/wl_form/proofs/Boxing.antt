-- The strings of the boxes are the text.
use Rattle.std.proofs.Common.{ℕ, ◌≡◌, List, [], ◌∷◌, ◌++◌, refl, sym, ap, ◌∙◌, append_assoc, append-nil, codes}
use Rattle.std.proofs.lemmas.Bool.{cond_both}
use Rattle.wl_expr.specs.Tree.{Tree, from_list}
use Rattle.wl_form.specs.Boxes.{Piece, between, boxed, strings, all_strings, strings_of, has_box, string_before, merged, box_of, operand_pieces, pieces, elem_pieces, link_pieces}
use Rattle.wl_form.specs.Laws.{BoxesHoldTheText}
use Rattle.wl_form.specs.Operators.{infix_text, prefix_text, postfix_text}
use Rattle.wl_form.specs.Shown.{Shown, number, name, string, pattern, slot, parens, braces, call, part, before, after, chain, ended, Elems, none, more, Links, nothing, behind, text_of, elems_text, links_text, comma_after}
use Rattle.wl_form.specs.Table.{shown}

before_strings : (s : List ℕ) (ts : List Tree) → all_strings (from_list (string_before s ts)) ≡ s ++ all_strings (from_list ts)
before_strings [] ts = refl
before_strings (b ∷ bs) ts = refl

merged_strings : (s : List ℕ) (ps : List Piece) → all_strings (from_list (merged s ps)) ≡ s ++ strings_of ps
merged_strings s [] = before_strings s []
merged_strings s (between u ∷ ps) = merged_strings (s ++ u) ps ∙ append_assoc s u (strings_of ps)
merged_strings s (boxed t ∷ ps) = before_strings s (t ∷ merged [] ps) ∙ ap (λ l. s ++ (strings t ++ l)) (merged_strings [] ps)

pub box_strings : (ps : List Piece) → strings (box_of ps) ≡ strings_of ps
box_strings ps = cond_both (has_box ps) _ _ (λ t. strings t ≡ strings_of ps) (λ _. append-nil (all_strings (from_list (merged [] ps))) ∙ merged_strings [] ps) (λ _. refl)

strings_append : (ps qs : List Piece) → strings_of (ps ++ qs) ≡ strings_of ps ++ strings_of qs
strings_append [] qs = refl
strings_append (between s ∷ ps) qs = ap (λ l. s ++ l) (strings_append ps qs) ∙ sym (append_assoc s (strings_of ps) (strings_of qs))
strings_append (boxed t ∷ ps) qs = ap (λ l. strings t ++ l) (strings_append ps qs) ∙ sym (append_assoc (strings t) (strings_of ps) (strings_of qs))

-- a box before other pieces
boxed_strings : (ps qs : List Piece) (s : List ℕ) → strings_of ps ≡ s → strings_of (boxed (box_of ps) ∷ qs) ≡ s ++ strings_of qs
boxed_strings ps qs s e = ap (λ l. l ++ strings_of qs) (box_strings ps ∙ e)

operand_strings : (s : Shown) → strings_of (pieces s) ≡ text_of s → strings_of (operand_pieces s (pieces s)) ≡ text_of s
operand_strings (parens s) e = e
operand_strings (number f) e = boxed_strings (pieces (number f)) [] (text_of (number f)) e ∙ append-nil (text_of (number f))
operand_strings (name s) e = boxed_strings (pieces (name s)) [] (text_of (name s)) e ∙ append-nil (text_of (name s))
operand_strings (string s) e = boxed_strings (pieces (string s)) [] (text_of (string s)) e ∙ append-nil (text_of (string s))
operand_strings (pattern x k h) e = boxed_strings (pieces (pattern x k h)) [] (text_of (pattern x k h)) e ∙ append-nil (text_of (pattern x k h))
operand_strings (slot d n) e = boxed_strings (pieces (slot d n)) [] (text_of (slot d n)) e ∙ append-nil (text_of (slot d n))
operand_strings (braces xs) e = boxed_strings (pieces (braces xs)) [] (text_of (braces xs)) e ∙ append-nil (text_of (braces xs))
operand_strings (call f xs) e = boxed_strings (pieces (call f xs)) [] (text_of (call f xs)) e ∙ append-nil (text_of (call f xs))
operand_strings (part f xs s) e = boxed_strings (pieces (part f xs s)) [] (text_of (part f xs s)) e ∙ append-nil (text_of (part f xs s))
operand_strings (before o s) e = boxed_strings (pieces (before o s)) [] (text_of (before o s)) e ∙ append-nil (text_of (before o s))
operand_strings (after s o) e = boxed_strings (pieces (after s o)) [] (text_of (after s o)) e ∙ append-nil (text_of (after s o))
operand_strings (chain s ls) e = boxed_strings (pieces (chain s ls)) [] (text_of (chain s ls)) e ∙ append-nil (text_of (chain s ls))
operand_strings (ended s ls) e = boxed_strings (pieces (ended s ls)) [] (text_of (ended s ls)) e ∙ append-nil (text_of (ended s ls))

two : (ps qs : List Piece) (a b : List ℕ) → strings_of ps ≡ a → strings_of qs ≡ b → strings_of (ps ++ qs) ≡ a ++ b
two ps qs a b e f = strings_append ps qs ∙ ap (λ l. l ++ strings_of qs) e ∙ ap (λ l. a ++ l) f

last_string : (s : List ℕ) → strings_of (between s ∷ []) ≡ s
last_string s = append-nil s

mutual
  text_pieces : (s : Shown) → strings_of (pieces s) ≡ text_of s
  text_pieces (number f) = append-nil (text_of (number f))
  text_pieces (name s) = append-nil s
  text_pieces (string s) = append-nil (text_of (string s))
  text_pieces (pattern x k h) = append-nil (text_of (pattern x k h))
  text_pieces (slot d n) = append-nil (text_of (slot d n))
  text_pieces (parens s) = ap (λ l. 40 ∷ l) (boxed_strings (pieces s) (between (codes ")") ∷ []) (text_of s) (text_pieces s))
  text_pieces (braces xs) = ap (λ l. 123 ∷ l) (two (elem_pieces xs) (between (codes "}") ∷ []) (elems_text xs) (codes "}") (elems_pieces xs) refl)
  text_pieces (call f xs) = two (operand_pieces f (pieces f)) _ (text_of f) (codes "[" ++ (elems_text xs ++ codes "]")) (operand_strings f (text_pieces f)) (ap (λ l. 91 ∷ l) (two (elem_pieces xs) (between (codes "]") ∷ []) (elems_text xs) (codes "]") (elems_pieces xs) refl))
  text_pieces (part f xs s) =
      two (operand_pieces f (pieces f)) _ (text_of f) _ (operand_strings f (text_pieces f))
      (ap (λ l. 91 ∷ 91 ∷ l) (two (elem_pieces xs) _ (elems_text xs) _ (elems_pieces xs) (ap (λ l. comma_after xs ++ l) (boxed_strings (pieces s) (between (codes "]]") ∷ []) (text_of s) (text_pieces s)))))
  text_pieces (before o s) = ap (λ l. prefix_text o ++ l) (operand_strings s (text_pieces s))
  text_pieces (after s o) = two (operand_pieces s (pieces s)) (between (postfix_text o) ∷ []) (text_of s) (postfix_text o) (operand_strings s (text_pieces s)) (last_string (postfix_text o))
  text_pieces (chain s ls) = two (operand_pieces s (pieces s)) (link_pieces ls) (text_of s) (links_text ls) (operand_strings s (text_pieces s)) (links_pieces ls)
  text_pieces (ended s ls) = two (operand_pieces s (pieces s)) _ (text_of s) (links_text ls ++ codes ";") (operand_strings s (text_pieces s)) (two (link_pieces ls) (between (codes ";") ∷ []) (links_text ls) (codes ";") (links_pieces ls) refl)

  elems_pieces : (xs : Elems) → strings_of (elem_pieces xs) ≡ elems_text xs
  elems_pieces none = refl
  elems_pieces (more xs s) = two (elem_pieces xs) _ (elems_text xs) (comma_after xs ++ text_of s) (elems_pieces xs) (ap (λ l. comma_after xs ++ l) (boxed_strings (pieces s) [] (text_of s) (text_pieces s) ∙ append-nil (text_of s)))

  links_pieces : (ls : Links) → strings_of (link_pieces ls) ≡ links_text ls
  links_pieces nothing = refl
  links_pieces (behind ls o s) = two (link_pieces ls) _ (links_text ls) (infix_text o ++ text_of s) (links_pieces ls) (ap (λ l. infix_text o ++ l) (operand_strings s (text_pieces s)))

pub boxes_hold_the_text : BoxesHoldTheText
boxes_hold_the_text t = box_strings (pieces (shown t)) ∙ text_pieces (shown t)
