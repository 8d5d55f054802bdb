-- The head of a node that has a row.
use Rattle.std.proofs.Common.{ℕ, ◌≡◌, Bool, true, false, not, ◌&&◌, ◌==◌, List, [], ◌∷◌, refl, ap, ◌∙◌, codes}
use Rattle.std.specs.List.{list_all}
use Rattle.std.specs.Str.{bytes_eq}
use Rattle.std.proofs.lemmas.Bool.{and_parts, cond_both}
use Rattle.std.proofs.lemmas.Slice.Eq.{bytes_eq-Decides}
use Rattle.wl_expr.specs.Tree as full
use Rattle.wl_form.specs.declared.operator.Infix.{Infix}
use Rattle.wl_form.specs.declared.operator.Row.{Row}
use Rattle.wl_form.specs.declared.operator.Row.TheVariants as row
use Rattle.wl_form.specs.Operators.{infix_level}
use Rattle.wl_form.specs.Heads.{heads, looked_up, row_of}
use Rattle.wl_syntax.specs.Chain.{is_chain}
use Rattle.wl_syntax.specs.Table as table
use Rattle.wl_reading_back.specs.Written.{as_infix, as_postfix}
use Rattle.wl_reading_back.proofs.Back.{blank_name, slot_name}

abbrev pub row_name : Row → List ℕ
row_name row.List = codes "List"
row_name row.Sum = codes "Plus"
row_name row.Product = codes "Times"
row_name (row.Chain o) = table.infix_name (as_infix o)
row_name (row.Pair o) = table.infix_name (as_infix o)
row_name row.Not = codes "Not"
row_name (row.Ends o) = table.postfix_name (as_postfix o)
row_name row.Statements = codes "CompoundExpression"
row_name (row.Blanks k) = blank_name k
row_name row.Pattern = codes "Pattern"
row_name row.Optional = codes "Optional"
row_name (row.Slot d) = slot_name d
row_name row.Message = codes "MessageName"
row_name row.Part = codes "Part"
row_name row.Call = []

-- an operator between exactly two elements
abbrev pub is_pair : Infix → Bool
is_pair o = not (is_chain (infix_level o)) && (not (infix_level o == 1) && not (infix_level o == 21))

-- one between two or more
abbrev pub is_plain_chain : Infix → Bool
is_plain_chain o = is_chain (infix_level o) && (not (infix_level o == 13) && not (infix_level o == 1))

abbrev pub row_ok : Row → Bool
row_ok (row.Chain o) = is_plain_chain o
row_ok (row.Pair o) = is_pair o
row_ok _ = true

abbrev pub is_call : Row → Bool
is_call row.Call = true
is_call _ = false

abbrev entry_ok : List ℕ × Row → Bool
entry_ok e = bytes_eq e.0 (row_name e.1) && row_ok e.1

pub record RowFacts (s : List ℕ) (r : Row) : Type 0 where
  pub name : s ≡ row_name r
  pub ok : row_ok r ≡ true

entry_facts : (s : List ℕ) (e : List ℕ × Row) → entry_ok e ≡ true → bytes_eq s e.0 ≡ true → RowFacts s e.1
entry_facts s e h b = let p = and_parts (bytes_eq e.0 (row_name e.1)) (row_ok e.1) h in
    record { name = (bytes_eq-Decides s e.0).0 b ∙ (bytes_eq-Decides e.0 (row_name e.1)).0 p.0; ok = p.1 }

looked_facts : (list : List (List ℕ × Row)) (s : List ℕ) → list_all entry_ok list ≡ true → is_call (looked_up list s) ≡ false → RowFacts s (looked_up list s)
looked_facts [] s h n = absurd (cc)
looked_facts (e ∷ list) s h n =
    let p = and_parts (entry_ok e) (list_all entry_ok list) h in
    cond_both (bytes_eq s e.0) e.1 (looked_up list s) (λ r. is_call r ≡ false → RowFacts s r) (λ b m. entry_facts s e p.0 b) (λ b m. looked_facts list s p.1 m) n

all_ok : list_all entry_ok heads ≡ true
unfolding blank_name slot_name
all_ok = refl

-- the head of a node that has a row is the symbol of that name
pub record Headed (h : full.Tree) (r : Row) : Type 0 where
  pub head : h ≡ full.symbol (row_name r)
  pub ok : row_ok r ≡ true

pub headed : (h : full.Tree) → is_call (row_of h) ≡ false → Headed h (row_of h)
unfolding row_of
headed (full.symbol s) n = let f = looked_facts heads s all_ok n in record { head = ap (λ x. full.symbol x) f.name; ok = f.ok }
headed (full.num f) n = absurd (cc)
headed (full.text s) n = absurd (cc)
headed (full.node h ts) n = absurd (cc)
