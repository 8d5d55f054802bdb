-- Laws over the definitions of this crate.
use Rattle.std.specs.Prelude.{◌≡◌, ℕ, Option, Some, None, List, [], ◌∷◌, length, take, drop, map, codes, ◌-◌, ◌≤◌, All}
use Rattle.std.specs.List.{concat}
use Rattle.std.specs.Str.{IsUtf8}
use Rattle.wl_scan.specs.Cells.{whole, start, cells, told_by}
use Rattle.wl_scan.specs.Forms.{HasForm}
use Rattle.wl_scan.specs.Literals.{literal_value}
use Rattle.wl_scan.specs.Tokens.{Lexeme, scanned}
use Rattle.wl_scan.specs.declared.token.Kind.{Kind}
use Rattle.wl_scan.specs.declared.token.Kind.TheVariants.{Number, Name, Pattern, Sign}
use Rattle.wl_scan.specs.declared.token.ScanKind.TheVariants.{Real, LongNumber, Base, Digit}
use Rattle.wl_scan.specs.declared.token.ScanFault.{ScanFault}

-- however a text is cut into pieces, feeding them one after another tells of the cells of the whole text
abbrev pub PiecesTellTheCells : Type 0
PiecesTellTheCells = (pieces : List (List ℕ)) → told_by start pieces ≡ cells (concat pieces)

-- each token's text is the part of the whole text that begins at its place
abbrev pub IsPartOf : List ℕ → Lexeme → Type 0
IsPartOf source token = (1 ≤ token.at) × (token.text ≡ take (length token.text) (drop (token.at - 1) source))

abbrev pub TokensAreParts : Type 0
TokensAreParts = (text : List ℕ) → All (IsPartOf text) (scanned text).tokens

-- each token of a text has the form of its kind
abbrev pub TokensHaveForms : Type 0
TokensHaveForms = (text : List ℕ) → IsUtf8 text → All (λ t. HasForm t.kind t.text) (scanned text).tokens

-- worked examples

abbrev pub CellsOfExamples : Type 0
CellsOfExamples =
    (cells (codes "a + +\nb") ≡ record { text = whole (codes "a + +"); line_feed = Some 5 } ∷ record { text = whole (codes "b"); line_feed = None } ∷ [])
    × (cells (codes "(* c *)\n1.5") ≡ record { text = whole (codes "(* c *)\n1.5"); line_feed = None } ∷ [])
    × (cells (codes "f[\n)\n]\n") ≡ record { text = whole (codes "f[\n)"); line_feed = Some 4 } ∷ record { text = whole (codes "]"); line_feed = Some 6 } ∷ [])

abbrev pub lexemes : List ℕ → List (Kind × ℕ × ℕ)
lexemes text = map (λ t. (t.kind, length t.text, t.at)) (scanned text).tokens

abbrev pub TokensOfExamples : Type 0
TokensOfExamples =
    (lexemes (codes "a!==b") ≡ (Name, 1, 1) ∷ (Sign, 2, 2) ∷ (Sign, 1, 4) ∷ (Name, 1, 5) ∷ [])
    × (lexemes (codes "x_...") ≡ (Pattern, 2, 1) ∷ (Sign, 3, 3) ∷ [])
    × (lexemes (codes "1..5") ≡ (Number, 1, 1) ∷ (Sign, 2, 2) ∷ (Number, 1, 4) ∷ [])
    × ((scanned (codes "(* c *) 1.5")).fault ≡ Some (record { kind = Real; at = 9 }))
    × (lexemes (codes "16^^ff + 2^^101") ≡ (Number, 6, 1) ∷ (Sign, 1, 8) ∷ (Number, 6, 10) ∷ [])
    × (lexemes (codes "2^ ^1") ≡ (Number, 1, 1) ∷ (Sign, 1, 2) ∷ (Sign, 1, 4) ∷ (Number, 1, 5) ∷ [])

-- the faults of literals in other bases, and what those write that have none
abbrev pub fault_of : List ℕ → Option ScanFault
fault_of text = (scanned text).fault

abbrev pub LiteralsOfExamples : Type 0
LiteralsOfExamples =
    (fault_of (codes "37^^9.") ≡ Some (record { kind = Base; at = 1 }))
    × (fault_of (codes "1^^1") ≡ Some (record { kind = Base; at = 1 }))
    × (fault_of (codes "8^^78") ≡ Some (record { kind = Digit; at = 5 }))
    × (fault_of (codes "2^^102.") ≡ Some (record { kind = Digit; at = 6 }))
    × (fault_of (codes "2^^") ≡ Some (record { kind = Digit; at = 4 }))
    × (fault_of (codes "2^^1.") ≡ Some (record { kind = Real; at = 1 }))
    × (fault_of (codes "16^^80000000000000000000000000000000") ≡ Some (record { kind = LongNumber; at = 1 }))
    × (literal_value (codes "16^^ff") ≡ 255)
    × (literal_value (codes "2^^101") ≡ 5)
    × (literal_value (codes "36^^Zz") ≡ 1295)
    × (literal_value (codes "0016^^0F") ≡ 15)
    × (literal_value (codes "0120") ≡ 120)
