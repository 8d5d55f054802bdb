-- Cells that are answered one after another.
use Rattle.std.proofs.Common.{◌≡◌, ◌+◌, ◌++◌, ℕ, List, [], ◌∷◌, length, sym, subst, refl, arith, ap, ◌∙◌, append_assoc, append-nil, length-append, Option, Bool, true, false, if◌then◌else◌}
use Rattle.std.specs.Io.KnownBytes.{Appends}
use Rattle.std.proofs.lemmas.List.{map-append}
use Rattle.std.proofs.KnownBytes.{Appends-trans, Appends-nil}
use Rattle.wl_session.specs.Answers.{IsAnswer, answer_to, state_after, answers}
use Rattle.wl_state.proofs.Ticking.{marked}
use Rattle.wl_state.specs.Marks.{at_last_mark}
use Rattle.wl_session.specs.Counting.{HasBegun}
use Rattle.wl_session.specs.Line.{SessionState}
use Rattle.wl_session.specs.Reading.{Reading, IsReading, AllRead}
use Rattle.wl_session.specs.declared.session.LineEnd.{LineEnd}
use Rattle.wl_session.specs.Transcript.{texts}
use Rattle.wl_scan.specs.Cells.{Cutting, CellText, PlacedCell, cut, ended}
use Rattle.wl_session.specs.Streaming.{HasAnswered, HasFed}
use Rattle.wl_scan.proofs.Pieces.{cut_append, ended_append, taken_cut}

-- counts
pub begun_none : (m n : List ℕ) → n ≡ m → HasBegun 0 m n
begun_none m n same = record { new = []; behind = same ∙ sym (append-nil m); each = refl }

one_behind : (m o : List ℕ) → at_last_mark o ≡ m ++ 0 ∷ [] → (k : ℕ) × (o ≡ m ++ k ∷ [])
one_behind [] [] e = cc
one_behind [] (x ∷ []) e = (x, refl)
one_behind [] (x ∷ y ∷ []) e = cc
one_behind [] (x ∷ y ∷ z ∷ zs) e = cc
one_behind (x ∷ m) [] e = cc
one_behind (x ∷ m) (y ∷ []) e = absurd (no_more m (let rest : [] ≡ m ++ 0 ∷ [] = cc in rest))
  where
    no_more : (l : List ℕ) → [] ≡ l ++ 0 ∷ [] → ⊥
    no_more [] q = cc
    no_more (z ∷ l) q = cc
one_behind (x ∷ m) (y ∷ z ∷ zs) e =
    let (k, is) = one_behind m (z ∷ zs) (let rest : at_last_mark (z ∷ zs) ≡ m ++ 0 ∷ [] = cc in rest) in
    let first : y ≡ x = cc in
    (k, ap (λ (l : List ℕ). y ∷ l) is ∙ ap (λ (n : ℕ). n ∷ m ++ k ∷ []) first)

-- a mark, and then ticks
pub begun_one : (m n o : List ℕ) → n ≡ m ++ 0 ∷ [] → at_last_mark o ≡ at_last_mark n → HasBegun 1 m o
begun_one m n o marks ticks =
    let (k, is) = one_behind m o (ticks ∙ ap at_last_mark marks ∙ marked m 0) in record { new = k ∷ []; behind = is; each = refl }

pub begun_on : (j k l : ℕ) (m n o : List ℕ) → HasBegun j m n → HasBegun k n o → l ≡ j + k → HasBegun l m o
begun_on j k l m n o so_far more sum = record {
  new = so_far.new ++ more.new;
  behind = more.behind ∙ ap (λ (x : List ℕ). x ++ more.new) so_far.behind ∙ append_assoc m so_far.new more.new;
  each = omega (arith, length-append so_far.new more.new, so_far.each, more.each);
}

pub state_append : (s : SessionState) (rs qs : List Reading) → state_after s (rs ++ qs) ≡ state_after (state_after s rs) qs
state_append s [] qs = refl
state_append s (r ∷ rs) qs = state_append (answer_to s r).session rs qs

pub answers_append : (s : SessionState) (rs qs : List Reading) → answers s (rs ++ qs) ≡ answers s rs ++ answers (state_after s rs) qs
answers_append s [] qs = refl
answers_append s (r ∷ rs) qs =
    let first = (answer_to s r).pending in
    let next = (answer_to s r).session in
    ap (λ (l : List ℕ). first ++ l) (answers_append next rs qs) ∙ sym (append_assoc first (answers next rs) (answers (state_after next rs) qs))

pub all_read_append : (cs ds : List CellText) (rs qs : List Reading) → AllRead cs rs → AllRead ds qs → AllRead (cs ++ ds) (rs ++ qs)
all_read_append [] ds [] qs p q = q
all_read_append [] ds (r ∷ rs) qs p q = absurd p
all_read_append (c ∷ cs) ds [] qs p q = absurd p
all_read_append (c ∷ cs) ds (r ∷ rs) qs p q = (p.0, all_read_append cs ds rs qs p.1 q)

-- one cell
pub one_answered : (s s' : SessionState) (h h' : Option (List ℕ)) (m m' : List ℕ) (c d : CellText) (end : LineEnd) (bytes : List ℕ) → IsAnswer c s s' end bytes → c ≡ d → Appends h h' bytes → HasBegun 1 m m' → HasAnswered s s' h h' m m' (d ∷ [])
one_answered s s' h h' m m' c d end bytes one same wrote marks = record {
  readings = one.reading ∷ [];
  reads = (subst (λ (x : CellText). IsReading x one.reading) same one.reads, tt);
  state = one.state;
  written = subst (Appends h h') (one.pending ∙ sym (append-nil (answer_to s one.reading).pending)) wrote;
  begun = marks;
}

-- these cells, and then those
pub answered_on : (s t u : SessionState) (h i j : Option (List ℕ)) (m n o : List ℕ) (cs ds : List CellText) → HasAnswered s t h i m n cs → HasAnswered t u i j n o ds → HasAnswered s u h j m o (cs ++ ds)
answered_on s t u h i j m n o cs ds so_far more = record {
  readings = so_far.readings ++ more.readings;
  reads = all_read_append cs ds so_far.readings more.readings so_far.reads more.reads;
  state = more.state ∙ ap (λ (x : SessionState). state_after x more.readings) so_far.state ∙ sym (state_append s so_far.readings more.readings);
  written =
      subst (Appends h j) (ap (λ (x : SessionState). answers s so_far.readings ++ answers x more.readings) so_far.state ∙ sym (answers_append s so_far.readings more.readings))
      (Appends-trans h i j (answers s so_far.readings) (answers t more.readings) so_far.written more.written);
  begun = begun_on (length cs) (length ds) (length (cs ++ ds)) m n o so_far.begun more.begun (length-append cs ds);
}

pub texts_append : (cs ds : List PlacedCell) → texts (cs ++ ds) ≡ texts cs ++ texts ds
texts_append cs ds = map-append (λ (c : PlacedCell). c.text) cs ds

-- what a call of `feed` or `finish` tells, by its flag
pub told_of : (flag : Bool) (cell : PlacedCell) (cells : List PlacedCell) → cells ≡ (if flag then cell ∷ [] else []) → flag ≡ true → cells ≡ cell ∷ []
told_of flag cell cells is told = is ∙ ap (λ (b : Bool). if b then cell ∷ [] else []) told

pub told_of_none : (flag : Bool) (cell : PlacedCell) (cells : List PlacedCell) → cells ≡ (if flag then cell ∷ [] else []) → flag ≡ false → cells ≡ []
told_of_none flag cell cells is told = is ∙ ap (λ (b : Bool). if b then cell ∷ [] else []) told

-- further bytes that end no cell
pub fed_on : (c d e : Cutting) (s t : SessionState) (h i : Option (List ℕ)) (m n : List ℕ) (xs ys zs : List ℕ) → HasFed c d s t h i m n xs → e ≡ cut d ys → ended d ys ≡ [] → zs ≡ xs ++ ys → HasFed c e s t h i m n zs
fed_on c d e s t h i m n xs ys zs so_far next none all =
    subst (HasFed c e s t h i m n) (sym all) (record {
      cutting = next ∙ ap (λ (x : Cutting). cut x ys) so_far.cutting ∙ sym (cut_append c xs ys);
      answered =
          subst (λ (l : List PlacedCell). HasAnswered s t h i m n (texts l)) (sym (ended_append c xs ys ∙ ap (λ (x : Cutting). ended c xs ++ ended x ys) (sym so_far.cutting) ∙ ap (λ (l : List PlacedCell). ended c xs ++ l) none ∙ append-nil (ended c xs))) so_far.answered;
    })

-- further bytes that end a cell, which is answered
pub fed_cell : (c d e : Cutting) (s t u : SessionState) (h i j : Option (List ℕ)) (m n o : List ℕ) (xs ys zs : List ℕ) (cell : PlacedCell) → HasFed c d s t h i m n xs → e ≡ cut d ys → ended d ys ≡ cell ∷ []
    → HasAnswered t u i j n o (cell.text ∷ []) → zs ≡ xs ++ ys → HasFed c e s u h j m o zs
fed_cell c d e s t u h i j m n o xs ys zs cell so_far next one more all =
    subst (HasFed c e s u h j m o) (sym all) (record {
      cutting = next ∙ ap (λ (x : Cutting). cut x ys) so_far.cutting ∙ sym (cut_append c xs ys);
      answered =
          subst (λ (l : List PlacedCell). HasAnswered s u h j m o (texts l)) (sym (ended_append c xs ys ∙ ap (λ (x : Cutting). ended c xs ++ ended x ys) (sym so_far.cutting) ∙ ap (λ (l : List PlacedCell). ended c xs ++ l) one))
          (subst (HasAnswered s u h j m o) (sym (texts_append (ended c xs) (cell ∷ []))) (answered_on s t u h i j m n o (texts (ended c xs)) (cell.text ∷ []) so_far.answered more));
    })

pub nothing_answered : (s t : SessionState) (h i : Option (List ℕ)) (m n : List ℕ) → t ≡ s → i ≡ h → n ≡ m → HasAnswered s t h i m n []
nothing_answered s t h i m n stands holds marks = record {
  readings = [];
  reads = tt;
  state = stands;
  written = subst (λ (x : Option (List ℕ)). Appends h x []) (sym holds) (Appends-nil h);
  begun = begun_none m n marks;
}

pub fed_append : (c d e : Cutting) (s t u : SessionState) (h i j : Option (List ℕ)) (m n o : List ℕ) (xs ys : List ℕ) → HasFed c d s t h i m n xs → HasFed d e t u i j n o ys → HasFed c e s u h j m o (xs ++ ys)
fed_append c d e s t u h i j m n o xs ys so_far more = record {
  cutting = more.cutting ∙ ap (λ (x : Cutting). cut x ys) so_far.cutting ∙ sym (cut_append c xs ys);
  answered =
      subst (λ (l : List PlacedCell). HasAnswered s u h j m o (texts l)) (ap (λ (x : Cutting). ended c xs ++ ended x ys) so_far.cutting ∙ sym (ended_append c xs ys))
      (subst (HasAnswered s u h j m o) (sym (texts_append (ended c xs) (ended d ys))) (answered_on s t u h i j m n o (texts (ended c xs)) (texts (ended d ys)) so_far.answered more.answered));
}

-- how many bytes were taken
pub fed_taken : (c d : Cutting) (s t : SessionState) (h i : Option (List ℕ)) (m n : List ℕ) (xs : List ℕ) → HasFed c d s t h i m n xs → d.taken ≡ c.taken + length xs
fed_taken c d s t h i m n xs so_far = ap (λ (x : Cutting). x.taken) so_far.cutting ∙ taken_cut c xs
