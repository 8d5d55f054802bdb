-- How many cells there are, and that each is counted.
use Rattle.std.proofs.Common.{◌≡◌, ◌≤◌, ◌<◌, ◌+◌, ◌-◌, ◌^◌, min, ℕ, Bool, true, false, if◌then◌else◌, nat_le, List, [], ◌∷◌, ◌++◌, length, take, map, Some, None, Option, refl, sym, ap, ◌∙◌, arith, length-append}
use Rattle.std.proofs.lemmas.Bool.Decides.{nat_tests}
use Rattle.std.proofs.lemmas.List.{length-map, length-take-le}
use Rattle.wl_scan.specs.Cells.{Cutting, CellText, PlacedCell, cells, cut, ended, remainder, finished, renewed, shown, start, taken_in, text_of, told_cell}
use Rattle.wl_session.specs.Answers.{answer_to, fresh, state_after}
use Rattle.wl_session.specs.Line.{SessionState, counted}
use Rattle.wl_session.specs.Reading.{Reading, AllRead, refused, read}
use Rattle.wl_session.specs.Transcript.{cells_read, input_limit, texts}

-- one or none
at_most_one : (b : Bool) (c : PlacedCell) → length (if b then c ∷ [] else []) ≤ 1
at_most_one true c = omega arith
at_most_one false c = omega arith

ended_few : (c : Cutting) (bytes : List ℕ) → length (ended c bytes) ≤ length bytes
ended_few c [] = omega arith
ended_few c (b ∷ bytes) =
    let next = taken_in (renewed c) b in
    omega (arith, length-append (told_cell next) (ended next bytes), at_most_one next.told (shown next), ended_few next bytes)

pub ended_texts_few : (c : Cutting) (bytes : List ℕ) → length (texts (ended c bytes)) ≤ length bytes
ended_texts_few c bytes = omega (arith, length-map (ended c bytes) (λ (p : PlacedCell). p.text), ended_few c bytes)

-- the cells that are read of a short input, and of a long one
pub short_read : (name : Option (List ℕ)) (bytes : List ℕ) → length bytes ≤ input_limit → cells_read (Some name) bytes ≡ texts (cells bytes)
short_read name bytes few = let is_few : nat_le (length bytes) input_limit ≡ true = grind (arith, nat_tests) in rw is_few refl

pub long_read : (name : Option (List ℕ)) (bytes : List ℕ) → input_limit < length bytes → cells_read (Some name) bytes ≡ texts (ended start (take input_limit bytes))
long_read name bytes many = let is_many : nat_le (length bytes) input_limit ≡ false = grind (arith, nat_tests) in rw is_many refl

pub read_few : (name : Option (List ℕ)) (bytes : List ℕ) → length (cells_read (Some name) bytes) ≤ input_limit + 1
read_few name bytes = by_length (nat_le (length bytes) input_limit) refl
  where
    by_length : (b : Bool) → nat_le (length bytes) input_limit ≡ b → length (cells_read (Some name) bytes) ≤ input_limit + 1
    by_length true e =
        let few : length bytes ≤ input_limit = grind (arith, nat_tests) in
        omega (
          arith,
          ap (λ (cs : List CellText). length cs) (short_read name bytes few),
          length-map (cells bytes) (λ (p : PlacedCell). p.text),
          length-append (ended start bytes) (remainder (cut start bytes)),
          ended_few start bytes,
          at_most_one (finished (cut start bytes)).told (record { text = text_of (finished (cut start bytes)); line_feed = None }),
        )
    by_length false e =
        let many : input_limit < length bytes = grind (arith, nat_tests) in
        omega (arith, ap (λ (cs : List CellText). length cs) (long_read name bytes many), ended_texts_few start (take input_limit bytes), length-take-le input_limit bytes (omega arith))

-- each is counted once
cell_counted : (s : SessionState) (r : Reading) → (answer_to s r).session.counts.cells ≡ counted s.counts.cells 1
unfolding answer_to
cell_counted s (refused f) = refl
cell_counted s (read t) = refl

cells_counted : (s : SessionState) (rs : List Reading) → s.counts.cells ≤ 2 ^ 64 - 1 → (state_after s rs).counts.cells ≡ counted s.counts.cells (length rs)
cells_counted s [] within = omega arith
cells_counted s (r ∷ rs) within =
    let next = (answer_to s r).session in
    omega (arith, cell_counted s r, cells_counted next rs (omega (arith, cell_counted s r)))

as_many : (cs : List CellText) (rs : List Reading) → AllRead cs rs → length rs ≡ length cs
as_many [] [] h = refl
as_many [] (r ∷ rs) h = absurd h
as_many (c ∷ cs) [] h = absurd h
as_many (c ∷ cs) (r ∷ rs) h = omega (arith, as_many cs rs h.1)

pub number_of : (cs : List CellText) (rs : List Reading) → AllRead cs rs → length cs ≤ input_limit + 1 → (state_after fresh rs).counts.cells ≡ length cs
number_of cs rs h few = omega (arith, cells_counted fresh rs (omega arith), as_many cs rs h)
