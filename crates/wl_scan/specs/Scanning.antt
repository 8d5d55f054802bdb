-- Words for steps of the scan.
use Rattle.std.specs.Prelude.{◌≡◌, ℕ, ◌==◌, ◌+◌, ◌≤◌, ◌<◌, nat_lt, if◌then◌else◌, List, length, take, drop}
use Rattle.std.specs.Str.{IsCharBoundary}
use Rattle.wl_scan.specs.Tokens.{Scanned, scanned_from, nothing, token_before, fault_at}
use Rattle.wl_scan.specs.declared.token.Kind.{Kind}
use Rattle.wl_scan.specs.declared.token.Kind.TheVariants.{Sign}
use Rattle.wl_scan.specs.declared.token.ScanKind.TheVariants.{BadChar}
use Rattle.wl_scan.specs.declared.found.Found.{Found}
use Rattle.wl_scan.specs.declared.found.Found.TheVariants.{Lexed, Fault}
use Rattle.wl_scan.specs.declared.tokens.Next.{Next}
use Rattle.wl_scan.specs.declared.tokens.Next.TheVariants as next

-- the choice between a name or pattern and a sign, by which the code comes to the longest of the rows
abbrev pub word_or_sign : Kind → ℕ → ℕ → Found
word_or_sign kind word sign = if nat_lt word sign then Lexed Sign sign else (if word == 0 then Fault BadChar 0 else Lexed kind word)

-- what is still to come at a place of the text
abbrev pub to_come : List ℕ → ℕ → Scanned
to_come text place = scanned_from 0 (place + 1) (drop place text)

-- a part of the text of n bytes, at a place
pub record IsPart (text : List ℕ) (place n : ℕ) : Type 0 where
  pub some : 0 < n
  pub within : place + n ≤ length text
  pub start : IsCharBoundary text place
  pub end : IsCharBoundary text (place + n)

-- what comes next from a place of the text on
abbrev pub Comes : List ℕ → ℕ → Next → Type 0
Comes text start next.End = to_come text start ≡ nothing
Comes text start (next.Token place kind n) =
    (to_come text start ≡ token_before (record { kind = kind; text = take n (drop place text); at = place + 1 }) (to_come text (place + n))) × IsPart text place n
Comes text start (next.Fault kind place) = (to_come text start ≡ fault_at kind (place + 1)) × (place ≤ length text)
