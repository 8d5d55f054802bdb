-- What the start comes to.
use Rattle.std.proofs.Common.{◌≡◌, ◌≤◌, ℕ, zero, suc, List, [], ◌∷◌, ◌++◌, map, codes, refl, sym, subst, arith}
use Rattle.wl_expr.specs.Words.{Name}
use Rattle.wl_rules.specs.Attributes.{AttributeSet}
use Rattle.wl_rules.specs.Start.{SymbolRow, symbol_rows, slot_of_symbol, protected_with, symbols_in, slot_of_limit, limit_rows, start_store}
use Rattle.wl_rules.specs.Starting.{with_row, with_symbol_rows}
use Rattle.wl_rules.specs.Stored.{Slot, row_at}

-- each name is new when it comes
pub started : with_row (codes "$IterationLimit") (slot_of_limit (codes "$IterationLimit") 1000) (with_row (codes "$RecursionLimit") (slot_of_limit (codes "$RecursionLimit") 200) (with_symbol_rows symbol_rows [])) ≡ start_store.rows
started = refl

-- ---- versions

abbrev AreUnchanged : List (Name × Slot) → Type 0
AreUnchanged rows = (j : ℕ) → (row_at j rows).1.version ≡ 0

unchanged-append : (xs ys : List (Name × Slot)) → AreUnchanged xs → AreUnchanged ys → AreUnchanged (xs ++ ys)
unchanged-append [] ys p q j = q j
unchanged-append (x ∷ xs) ys p q zero = p zero
unchanged-append (x ∷ xs) ys p q (suc j) = unchanged-append xs ys (λ i. p (suc i)) q j

unchanged-symbols : (s : AttributeSet) (xs : List Name) → AreUnchanged (map (λ x. (x, slot_of_symbol s x)) xs)
unchanged-symbols s [] j = refl
unchanged-symbols s (x ∷ xs) zero = refl
unchanged-symbols s (x ∷ xs) (suc j) = unchanged-symbols s xs j

unchanged-symbols_in : (rs : List SymbolRow) → AreUnchanged (symbols_in rs)
unchanged-symbols_in [] j = refl
unchanged-symbols_in (r ∷ rs) j = unchanged-append (map (λ x. (x, slot_of_symbol (protected_with r.0) x)) r.1) (symbols_in rs) (unchanged-symbols (protected_with r.0) r.1) (unchanged-symbols_in rs) j

unchanged-limits : (ls : List (Name × ℕ)) → AreUnchanged (map (λ l. (l.0, slot_of_limit l.0 l.1)) ls)
unchanged-limits [] j = refl
unchanged-limits (l ∷ ls) zero = refl
unchanged-limits (l ∷ ls) (suc j) = unchanged-limits ls j

start_unchanged : AreUnchanged start_store.rows
start_unchanged = unchanged-append (symbols_in symbol_rows) (map (λ l. (l.0, slot_of_limit l.0 l.1)) limit_rows) (unchanged-symbols_in symbol_rows) (unchanged-limits limit_rows)

none_greater : (n : ℕ) → n ≡ 0 → n ≤ 0
none_greater n h = omega arith

pub start_versions : (rows : List (Name × Slot)) → rows ≡ start_store.rows → (j : ℕ) → (row_at j rows).1.version ≤ 0
start_versions rows e j = subst (λ (rs : List (Name × Slot)). (row_at j rs).1.version ≤ 0) (sym e) (none_greater (row_at j start_store.rows).1.version (start_unchanged j))
