use Rattle.std.proofs.Common.{ℕ, zero, suc, ◌≤◌, ◌≡◌, true, false, List, [], Some, None, take, refl, sym, ◌∙◌, codes, arith}
use Rattle.wl_expr.specs.Tree as full
use Rattle.wl_scan.specs.Tokens.{scanned}
use Rattle.wl_syntax.specs.declared.operator.Infix.TheVariants.{Map, Rule, Less, LessEqual, Minus, Beside, Tag, Set}
use Rattle.wl_syntax.specs.declared.operator.Postfix.TheVariants.{Function, Unset}
use Rattle.wl_syntax.specs.Depth.{depth, max_depth}
use Rattle.wl_syntax.specs.Laws.{LoosePostfix, MixedComparison, Negations, DottedTag}
use Rattle.wl_syntax.specs.Lexer.{tokens}
use Rattle.wl_syntax.specs.Lower.{lower}
use Rattle.wl_syntax.specs.Machine.{parse, run, wants, IsAlive}
use Rattle.wl_syntax.specs.Parsed.{HasNoTree}
use Rattle.wl_syntax.specs.Ending.{Viable}
use Rattle.wl_syntax.specs.Tags.{met}
use Rattle.wl_syntax.specs.declared.fault.SyntaxFault.TheVariants.{Unclosed, Unexpected}
use Rattle.wl_syntax.specs.Reads.{IsReadAs, Refused}
use Rattle.wl_syntax.specs.Token.{name, number, Token}
use Rattle.wl_syntax.specs.Tree.{Tree, leaf, paren, brace, between, after, none, more}
use Rattle.wl_syntax.proofs.Computing.{reading, all_ascii, ascii_text}
use Rattle.wl_syntax.proofs.Sound.{parse_is}
use Rattle.wl_syntax.proofs.Viable.{viable}
use Rattle.wl_syntax.proofs.laws.worked_cells.Goals as goal

read_as : (bytes : List ℕ) (t : Tree) (e : full.Tree) → all_ascii bytes ≡ true → (scanned bytes).fault ≡ None → parse (tokens bytes) ≡ Some t → depth t ≤ max_depth → e ≡ lower t → IsReadAs bytes e
read_as bytes t e u f p d l = record { tree = t; right = ((ascii_text bytes u, f), (parse_is (tokens bytes) t).0 p); shallow = d; lowered = l }

a : Tree
a = leaf (name (codes "a"))

b : Tree
b = leaf (name (codes "b"))

x : Tree
x = leaf (name (codes "x"))

loose_postfix : LoosePostfix
unfolding reading x
loose_postfix = read_as (codes "x -> y & /@ {1}") (between (after (between x Rule (leaf (name (codes "y")))) Function) Map (brace (more none (leaf (number (codes "1")))))) _ refl refl refl (omega arith) refl

mixed_comparison : MixedComparison
unfolding reading a b
mixed_comparison = read_as (codes "a < b <= c") (between (between a Less b) LessEqual (leaf (name (codes "c")))) _ refl refl refl (omega arith) refl

negations : Negations
unfolding reading a b
negations =
    (read_as (codes "a - 2 b") (between a Minus (between (leaf (number (codes "2"))) Beside b)) _ refl refl refl (omega arith) refl, read_as (codes "a - (2)") (between a Minus (paren (leaf (number (codes "2"))))) _ refl refl refl (omega arith) refl)

dotted_tag : DottedTag
unfolding reading a x
dotted_tag = read_as (codes "g/:a=. x=5") (between (leaf (name (codes "g"))) Tag (between (between (after a Unset) Beside x) Set (leaf (number (codes "5"))))) _ refl refl refl (omega arith) refl

no_tree : (ks : List Token) → parse ks ≡ None → HasNoTree ks
no_tree ks e t h = none_some t (sym e ∙ (parse_is ks t).1 h)
  where
    none_some : (t : Tree) → None ≡ Some t → ⊥
    none_some t e = cc

alive : (ks : List Token) → IsAlive (run (wants []) ks) → met ks ≡ true → Viable ks
alive ks a m = (viable ks).1 (a, m)

unmet : (ks : List Token) → met ks ≡ false → Viable ks → ⊥
unmet ks m v = true_false (sym m ∙ ((viable ks).0 v).1)
  where
    true_false : false ≡ true → ⊥
    true_false e = cc

two_powers : List Token
two_powers = tokens (codes "x ^ ^ 2")

powers_before : (j : ℕ) → j ≤ 2 → Viable (take j two_powers)
unfolding reading two_powers
powers_before zero l = alive [] tt refl
powers_before (suc zero) l = alive (take 1 two_powers) tt refl
powers_before (suc (suc zero)) l = alive (take 2 two_powers) tt refl
powers_before (suc (suc (suc j))) l = absurd (omega arith)

powers : Refused (codes "x ^ ^ 2") (Unexpected 5)
unfolding reading two_powers
powers = (
  (ascii_text (codes "x ^ ^ 2") refl, refl),
  (
    2,
    record {
      within = omega arith;
      no_tree = no_tree two_powers refl;
      not_viable = λ v. ((viable two_powers).0 v).0;
      ends_it = λ v. ((viable (take 3 two_powers)).0 v).0;
      before = powers_before;
    },
    refl,
  ),
)

definition_begun : Refused (codes "g /: l") Unclosed
unfolding reading
definition_begun = ((ascii_text (codes "g /: l") refl, refl), (no_tree (tokens (codes "g /: l")) refl, alive (tokens (codes "g /: l")) tt refl))

dotted : List Token
dotted = tokens (codes "g/:a=. x")

dotted_before : (j : ℕ) → j ≤ 4 → Viable (take j dotted)
unfolding reading dotted
dotted_before zero l = alive [] tt refl
dotted_before (suc zero) l = alive (take 1 dotted) tt refl
dotted_before (suc (suc zero)) l = alive (take 2 dotted) tt refl
dotted_before (suc (suc (suc zero))) l = alive (take 3 dotted) tt refl
dotted_before (suc (suc (suc (suc zero)))) l = alive (take 4 dotted) tt refl
dotted_before (suc (suc (suc (suc (suc j))))) l = absurd (omega arith)

behind_the_dot : Refused (codes "g/:a=. x") (Unexpected 8)
unfolding reading dotted
behind_the_dot = (
  (ascii_text (codes "g/:a=. x") refl, refl),
  (4, record { within = omega arith; no_tree = no_tree dotted refl; not_viable = unmet dotted refl; ends_it = unmet (take 5 dotted) refl; before = dotted_before }, refl),
)

pub returns : goal.returns
returns c = (loose_postfix, mixed_comparison, negations, dotted_tag, (powers, definition_begun, behind_the_dot))
