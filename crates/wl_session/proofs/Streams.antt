-- A run so far.
use Rattle.std.proofs.Common.{◌≡◌, ◌≤◌, ◌<◌, ◌+◌, ◌-◌, ◌++◌, ℕ, List, [], length, take, drop, refl, sym, subst, arith, ap, ◌∙◌, append-nil, length-append, Option}
use Rattle.std.specs.Io.KnownBytes.{Consumes, Keeps, IsAtEnd}
use Rattle.std.proofs.KnownBytes.{Consumes-nil, Consumes-trans, Consumes-kept}
use Rattle.std.proofs.lemmas.List.{length-take-le, take-append-le, take-append-drop}
use Rattle.std.proofs.Math.Seq.{take-append-add}
use Rattle.wl_scan.proofs.Pieces.{taken_cut}
use Rattle.wl_session.specs.Line.{SessionState}
use Rattle.wl_scan.specs.Cells.{Cutting, ended, remainder, start}
use Rattle.wl_session.specs.Streaming.{HasAnswered, HasFed, PlayedToEnd, PlayedToFault, PlayedToLimit}
use Rattle.wl_session.specs.Transcript.{input_limit, texts}
use Rattle.wl_session.proofs.Answering.{nothing_answered, answered_on, fed_append, texts_append}

-- these bytes were taken and fed, and so many more may be taken
pub record HasStreamed (left left' : Option (List ℕ)) (c : Cutting) (s s' : SessionState) (held held' : Option (List ℕ)) (counts counts' : List ℕ) (room : ℕ) : Type 0 where
  pub bytes : List ℕ
  pub taken : Consumes left left' bytes
  pub fed : HasFed start c s s' held held' counts counts' bytes
  pub budget : length bytes + room ≡ input_limit + 1

-- before the first piece
pub streamed_none : (a h : Option (List ℕ)) (c : Cutting) (s : SessionState) (m : List ℕ) → c ≡ start → HasStreamed a a c s s h h m m (input_limit + 1)
streamed_none a h c s m first = record {
  bytes = [];
  taken = Consumes-nil a;
  fed = record { cutting = first; answered = nothing_answered s s h h m m refl refl refl };
  budget = refl;
}

pub streamed_on : (a b b' : Option (List ℕ)) (c d : Cutting) (s t u : SessionState) (h i j : Option (List ℕ)) (m n o : List ℕ) (room n' room' : ℕ) (piece : List ℕ) → HasStreamed a b c s t h i m n room → Consumes b b' piece → HasFed c d t u i j n o piece
    → length piece ≡ n' → room ≡ room' + n' → HasStreamed a b' d s u h j m o room'
streamed_on a b b' c d s t u h i j m n o room n' room' piece so_far took more long falls = record {
  bytes = so_far.bytes ++ piece;
  taken = Consumes-trans a b b' so_far.bytes piece so_far.taken took;
  fed = fed_append start c d s t u h i j m n o so_far.bytes piece so_far.fed more;
  budget = omega (arith, length-append so_far.bytes piece, so_far.budget);
}

-- the source is at its end, and its last cell is answered
pub streamed_all : (a b b' : Option (List ℕ)) (c : Cutting) (s t u : SessionState) (h i j : Option (List ℕ)) (m n o : List ℕ) (room count : ℕ) (piece : List ℕ) → HasStreamed a b c s t h i m n room → 0 < room → count ≡ 0 → Consumes b b' (take count piece) → IsAtEnd b'
    → HasAnswered t u i j n o (texts (remainder c)) → PlayedToEnd a b' s u h j m o
streamed_all a b b' c s t u h i j m n o room count piece so_far more none took ends rest = record {
  bytes = so_far.bytes;
  taken = subst (Consumes a b') (append-nil so_far.bytes) (Consumes-trans a b b' so_far.bytes [] so_far.taken (subst (λ (k : ℕ). Consumes b b' (take k piece)) none took));
  at_end = ends;
  few = omega (arith, so_far.budget);
  answered =
      subst (λ (x : Cutting). HasAnswered s u h j m o (texts (ended start so_far.bytes ++ remainder x))) so_far.fed.cutting
      (subst (HasAnswered s u h j m o) (sym (texts_append (ended start so_far.bytes) (remainder c)))
      (answered_on s t u h i j m n o (texts (ended start so_far.bytes)) (texts (remainder c)) so_far.fed.answered rest));
}

-- a read failed
pub streamed_some : (a b b' : Option (List ℕ)) (c : Cutting) (s t : SessionState) (h i : Option (List ℕ)) (m n : List ℕ) (room : ℕ) → HasStreamed a b c s t h i m n room → 0 < room → Keeps b b' → PlayedToFault a b' s t h i m n
streamed_some a b b' c s t h i m n room so_far more kept = record {
  bytes = so_far.bytes;
  taken = Consumes-kept a b b' so_far.bytes so_far.taken kept;
  few = omega (arith, so_far.budget);
  answered = so_far.fed.answered;
}

-- the bytes that are read, where one more was taken
pub front : (xs piece : List ℕ) (count limit : ℕ) → 0 < count → count ≤ length piece → length xs + count ≡ limit + 1 → take limit (xs ++ take count piece) ≡ xs ++ take (count - 1) piece
front xs piece count limit some within budget =
    let first : limit ≡ length xs + (count - 1) = omega arith in
    let shorter : count - 1 ≤ length (take count piece) = omega (arith, length-take-le count piece within) in
    ap (λ (k : ℕ). take k (xs ++ take count piece)) first ∙ take-append-add xs (take count piece) (count - 1)
    ∙ ap (λ (l : List ℕ). xs ++ l) (sym (take-append-le (count - 1) (take count piece) (drop count piece) shorter) ∙ ap (take (count - 1)) (take-append-drop count piece))

-- one byte too many was taken
pub streamed_first : (a b b' : Option (List ℕ)) (c d : Cutting) (s t u : SessionState) (h i j : Option (List ℕ)) (m n o : List ℕ) (room count : ℕ) (piece : List ℕ) → HasStreamed a b c s t h i m n room → 0 < room → count ≡ room → count ≤ length piece
    → Consumes b b' (take count piece) → HasFed c d t u i j n o (take (count - 1) piece) → PlayedToLimit a b' s u h j m o
streamed_first a b b' c d s t u h i j m n o room count piece so_far more all within took fed = record {
  bytes = so_far.bytes ++ take count piece;
  taken = Consumes-trans a b b' so_far.bytes (take count piece) so_far.taken took;
  many = omega (arith, length-append so_far.bytes (take count piece), length-take-le count piece within, so_far.budget);
  answered =
      subst (λ (l : List ℕ). HasAnswered s u h j m o (texts (ended start l))) (sym (front so_far.bytes piece count input_limit (omega arith) within (omega (arith, so_far.budget))))
      (fed_append start c d s t u h i j m n o so_far.bytes (take (count - 1) piece) so_far.fed fed).answered;
}

-- the source didn't open
pub nothing_played : (a b : Option (List ℕ)) (s : SessionState) (h : Option (List ℕ)) (m : List ℕ) → b ≡ a → PlayedToFault a b s s h h m m
nothing_played a b s h m same = record {
  bytes = [];
  taken = subst (λ (x : Option (List ℕ)). Consumes a x []) (sym same) (Consumes-nil a);
  few = omega arith;
  answered = nothing_answered s s h h m m refl refl refl;
}

-- how many bytes were taken, by how many more may be
pub streamed_taken : (a b : Option (List ℕ)) (c : Cutting) (s t : SessionState) (h i : Option (List ℕ)) (m n : List ℕ) (room : ℕ) → HasStreamed a b c s t h i m n room → c.taken + room ≡ input_limit + 1
streamed_taken a b c s t h i m n room so_far = omega (arith, so_far.budget, ap (λ (x : Cutting). x.taken) so_far.fed.cutting, taken_cut start so_far.bytes)
