-- Runs that stop in the middle of their cells.
use Rattle.std.proofs.Common.{◌≡◌, ◌≤◌, ◌<◌, ◌-◌, ◌++◌, ℕ, List, [], ◌∷◌, length, take, Option, Ok, Err, OnOk, IfErr, Result, inl, refl, sym, subst, ap, ◌∙◌, arith, append_assoc, append-nil, length-append}
use Rattle.std.specs.Io.KnownBytes.{Consumes, IsAtEnd}
use Rattle.std.proofs.KnownBytes.{Consumes-trans}
use Rattle.std.proofs.lemmas.List.{length-take-le, take_all}
use Rattle.wl_scan.specs.Cells.{Cutting, CellText, PlacedCell, cut, ended, remainder, start, cells}
use Rattle.wl_scan.proofs.Pieces.{ended_append}
use Rattle.wl_session.specs.Answers.{IsAnswer}
use Rattle.wl_session.specs.Line.{SessionState}
use Rattle.wl_session.specs.Counting.{HasBegun}
use Rattle.wl_session.specs.Pieces.{IsWrittenInPart}
use Rattle.wl_session.specs.Stopping.{Played, HasStopped, StopsShort, within, at_end}
use Rattle.wl_session.specs.Streaming.{HasAnswered, HasFed}
use Rattle.wl_session.specs.Transcript.{input_limit, texts}
use Rattle.wl_session.specs.declared.session.LineEnd.{LineEnd}
use Rattle.wl_session.specs.declared.streaming.Stop.{Stop}
use Rattle.wl_session.specs.declared.streaming.Stop.TheVariants.{ReadFault, WriteFault, OutOfMemory, TooLong}
use Rattle.wl_session.proofs.Answering.{nothing_answered, answered_on, texts_append}
use Rattle.wl_session.proofs.Streams.{HasStreamed, front, streamed_all}

take_few : (n : ℕ) (l : List ℕ) → length l ≤ n → take n l ≡ l
take_few n l few = take_all n l few

-- one cell
pub stopped_writing : (s s' : SessionState) (h h' : Option (List ℕ)) (m m' : List ℕ) (c d : CellText) (end : LineEnd) (bytes piece : List ℕ) → IsAnswer c s s' end bytes → c ≡ d → piece ≡ bytes → IsWrittenInPart piece h h' → HasBegun 1 m m' → HasStopped WriteFault s s' h h' m m' (d ∷ [])
stopped_writing s s' h h' m m' c d end bytes piece one same is part marks = record {
  before = [];
  last = d;
  behind = [];
  all = refl;
  between = s;
  written = h;
  before_last = m;
  answered = nothing_answered s s h h m m refl refl refl;
  breaks = record { end = end; bytes = bytes; answer = subst (λ (x : CellText). IsAnswer x s s' end bytes) same one; part = subst (λ (l : List ℕ). IsWrittenInPart l h h') is part };
  begun = marks;
}

pub stopped_wanting : (s s' : SessionState) (h h' : Option (List ℕ)) (m m' : List ℕ) (d : CellText) → s'.state.world.history ≡ s.state.world.history → s'.counts ≡ s.counts → h' ≡ h → HasBegun 1 m m' → HasStopped OutOfMemory s s' h h' m m' (d ∷ [])
stopped_wanting s s' h h' m m' d same counted holds marks = record {
  before = [];
  last = d;
  behind = [];
  all = refl;
  between = s;
  written = h;
  before_last = m;
  answered = nothing_answered s s h h m m refl refl refl;
  breaks = record { history = same; counts = counted; unwritten = holds };
  begun = marks;
}

-- further cells before it
pub stopped_on : (stop : Stop) (s t u : SessionState) (h i j : Option (List ℕ)) (m n o : List ℕ) (cs ds : List CellText) → HasAnswered s t h i m n cs → HasStopped stop t u i j n o ds → HasStopped stop s u h j m o (cs ++ ds)
stopped_on stop s t u h i j m n o cs ds so_far x = record {
  before = cs ++ x.before;
  last = x.last;
  behind = x.behind;
  all = ap (λ (l : List CellText). cs ++ l) x.all ∙ sym (append_assoc cs x.before (x.last ∷ x.behind));
  between = x.between;
  written = x.written;
  before_last = x.before_last;
  answered = answered_on s t x.between h i x.written m n x.before_last cs x.before so_far x.answered;
  breaks = x.breaks;
  begun = x.begun;
}

-- and behind it
pub stopped_in : (stop : Stop) (s u : SessionState) (h j : Option (List ℕ)) (m o : List ℕ) (cs es : List CellText) → HasStopped stop s u h j m o cs → HasStopped stop s u h j m o (cs ++ es)
stopped_in stop s u h j m o cs es x = record {
  before = x.before;
  last = x.last;
  behind = x.behind ++ es;
  all = ap (λ (l : List CellText). l ++ es) x.all ∙ append_assoc x.before (x.last ∷ x.behind) es;
  between = x.between;
  written = x.written;
  before_last = x.before_last;
  answered = x.answered;
  breaks = x.breaks;
  begun = x.begun;
}

-- a piece that was fed in part, up to the cell where the run stopped
pub stopped_fed : (stop : Stop) (c d : Cutting) (s t u : SessionState) (h i j : Option (List ℕ)) (m n o : List ℕ) (xs ys zs piece : List ℕ) (cell : PlacedCell) → HasFed c d s t h i m n xs → ended d ys ≡ cell ∷ []
    → HasStopped stop t u i j n o (cell.text ∷ []) → piece ≡ xs ++ (ys ++ zs) → HasStopped stop s u h j m o (texts (ended c piece))
stopped_fed stop c d s t u h i j m n o xs ys zs piece cell so_far one x all =
    let rest = ended (cut d ys) zs in
    let told : ended c piece ≡ ended c xs ++ (cell ∷ [] ++ rest) =
    ap (ended c) all ∙ ended_append c xs (ys ++ zs) ∙ ap (λ (k : Cutting). ended c xs ++ ended k (ys ++ zs)) (sym so_far.cutting)
    ∙ ap (λ (l : List PlacedCell). ended c xs ++ l) (ended_append d ys zs ∙ ap (λ (l : List PlacedCell). l ++ rest) one) in
    subst (HasStopped stop s u h j m o) (sym (ap texts told ∙ texts_append (ended c xs) (cell ∷ [] ++ rest)))
    (stopped_on stop s t u h i j m n o (texts (ended c xs)) (cell.text ∷ texts rest) so_far.answered (stopped_in stop t u i j n o (cell.text ∷ []) (texts rest) x))

-- the cells of what was fed before, and then those of a piece
stopped_piece : (stop : Stop) (c : Cutting) (s t u : SessionState) (h i j : Option (List ℕ)) (m n o : List ℕ) (xs ys : List ℕ) → HasFed start c s t h i m n xs → HasStopped stop t u i j n o (texts (ended c ys)) → HasStopped stop s u h j m o (texts (ended start (xs ++ ys)))
stopped_piece stop c s t u h i j m n o xs ys so_far x =
    subst (HasStopped stop s u h j m o)
    (sym (ap texts (ended_append start xs ys ∙ ap (λ (k : Cutting). ended start xs ++ ended k ys) (sym so_far.cutting)) ∙ texts_append (ended start xs) (ended c ys)))
    (stopped_on stop s t u h i j m n o (texts (ended start xs)) (texts (ended c ys)) so_far.answered x)

-- a run that stopped within a piece
pub stopped_within : (stop : Stop) (a b b' : Option (List ℕ)) (c : Cutting) (s t u : SessionState) (h i j : Option (List ℕ)) (m n o : List ℕ) (room count : ℕ) (piece : List ℕ) → HasStreamed a b c s t h i m n room → count ≤ length piece → count < room
    → Consumes b b' (take count piece) → HasStopped stop t u i j n o (texts (ended c (take count piece))) → StopsShort stop a b' s u h j m o
stopped_within stop a b b' c s t u h i j m n o room count piece so_far fits less took x =
    let bytes = so_far.bytes ++ take count piece in
    let few : length bytes ≤ input_limit = omega (arith, length-append so_far.bytes (take count piece), length-take-le count piece fits, so_far.budget) in
    record {
      bytes = bytes;
      taken = Consumes-trans a b b' so_far.bytes (take count piece) so_far.taken took;
      few = omega (arith, few);
      told = texts (ended start bytes);
      tells = within (ap (λ (l : List ℕ). texts (ended start l)) (sym (take_few input_limit bytes few)));
      stopped = stopped_piece stop c s t u h i j m n o so_far.bytes (take count piece) so_far.fed x;
    }

-- or in the last piece, of which one byte is too many
pub stopped_last : (stop : Stop) (a b b' : Option (List ℕ)) (c : Cutting) (s t u : SessionState) (h i j : Option (List ℕ)) (m n o : List ℕ) (room count : ℕ) (piece : List ℕ) → HasStreamed a b c s t h i m n room → 0 < room → count ≡ room → count ≤ length piece
    → Consumes b b' (take count piece) → HasStopped stop t u i j n o (texts (ended c (take (count - 1) piece))) → StopsShort stop a b' s u h j m o
stopped_last stop a b b' c s t u h i j m n o room count piece so_far more all fits took x =
    let bytes = so_far.bytes ++ take count piece in
    record {
      bytes = bytes;
      taken = Consumes-trans a b b' so_far.bytes (take count piece) so_far.taken took;
      few = omega (arith, length-append so_far.bytes (take count piece), length-take-le count piece fits, so_far.budget);
      told = texts (ended start (so_far.bytes ++ take (count - 1) piece));
      tells = within (ap (λ (l : List ℕ). texts (ended start l)) (sym (front so_far.bytes piece count input_limit (omega arith) fits (omega (arith, so_far.budget)))));
      stopped = stopped_piece stop c s t u h i j m n o so_far.bytes (take (count - 1) piece) so_far.fed x;
    }

-- or in the cell that the end of the source ends
pub stopped_rest : (stop : Stop) (a b b' : Option (List ℕ)) (c : Cutting) (s t u : SessionState) (h i j : Option (List ℕ)) (m n o : List ℕ) (room count : ℕ) (piece : List ℕ) → HasStreamed a b c s t h i m n room → 0 < room → count ≡ 0
    → Consumes b b' (take count piece) → IsAtEnd b' → HasStopped stop t u i j n o (texts (remainder c)) → StopsShort stop a b' s u h j m o
stopped_rest stop a b b' c s t u h i j m n o room count piece so_far more none took ends x = record {
  bytes = so_far.bytes;
  taken = subst (Consumes a b') (append-nil so_far.bytes) (Consumes-trans a b b' so_far.bytes [] so_far.taken (subst (λ (k : ℕ). Consumes b b' (take k piece)) none took));
  few = omega (arith, so_far.budget);
  told = texts (cells so_far.bytes);
  tells = at_end ends (omega (arith, so_far.budget)) refl;
  stopped =
      subst (λ (k : Cutting). HasStopped stop s u h j m o (texts (ended start so_far.bytes ++ remainder k))) so_far.fed.cutting
      (subst (HasStopped stop s u h j m o) (sym (texts_append (ended start so_far.bytes) (remainder c)))
      (stopped_on stop s t u h i j m n o (texts (ended start so_far.bytes)) (texts (remainder c)) so_far.fed.answered x));
}

-- as a run is played
pub stopped_played : (stop : Stop) (a b : Option (List ℕ)) (s t : SessionState) (h i : Option (List ℕ)) (m n : List ℕ) → StopsShort stop a b s t h i m n → Played (Err stop) a b s t h i m n
stopped_played WriteFault a b s t h i m n x = inl x
stopped_played OutOfMemory a b s t h i m n x = x
stopped_played ReadFault a b s t h i m n x = absurd x.stopped.breaks
stopped_played TooLong a b s t h i m n x = absurd x.stopped.breaks

-- a run that read its source to the end, and answered the last cell or stopped in it
pub rest_played : (r : Result (Unit {0}) Stop) (a b b' : Option (List ℕ)) (c : Cutting) (s t u : SessionState) (h i j : Option (List ℕ)) (m n o : List ℕ) (room count : ℕ) (piece : List ℕ) → HasStreamed a b c s t h i m n room → 0 < room → count ≡ 0
    → Consumes b b' (take count piece) → IsAtEnd b' → OnOk r (HasAnswered t u i j n o (texts (remainder c))) → IfErr r (λ stop. HasStopped stop t u i j n o (texts (remainder c))) → Played r a b' s u h j m o
rest_played (Ok done) a b b' c s t u h i j m n o room count piece so_far more none took ends rest stop = streamed_all a b b' c s t u h i j m n o room count piece so_far more none took ends rest
rest_played (Err stop) a b b' c s t u h i j m n o room count piece so_far more none took ends rest x = stopped_played stop a b' s u h j m o (stopped_rest stop a b b' c s t u h i j m n o room count piece so_far more none took ends x)
