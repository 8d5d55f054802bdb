-- What a run that broke off leaves, in the words of its contract.
use Rattle.std.proofs.Common.{◌≡◌, ◌≤◌, ◌<◌, ◌+◌, ◌-◌, ◌++◌, ℕ, Bool, true, false, nat_le, List, [], ◌∷◌, length, take, Option, Some, None, IfSome, Result, Ok, Err, inl, inr, refl, sym, subst, ap, ◌∙◌, arith, append_assoc, append-nil, length-append}
use Rattle.std.specs.Io.KnownBytes.{Appends, Consumes}
use Rattle.std.proofs.KnownBytes.{Appends-trans, Appends-nil}
use Rattle.std.proofs.lemmas.Bool.Decides.{nat_tests}
use Rattle.std.proofs.lemmas.List.{take-append-le, take_all}
use Rattle.std.proofs.Math.Seq.{take-append-add}
use Rattle.wl_scan.specs.Cells.{CellText, PlacedCell, cut, ended, remainder, start, cells}
use Rattle.wl_scan.proofs.Pieces.{ended_append}
use Rattle.wl_session.specs.Answers.{answer_to, fresh, no_counts, state_after, answers}
use Rattle.wl_session.specs.Line.{SessionState}
use Rattle.wl_session.specs.Ends.{status_of, history_of, counts_of, IsBrokenOff, IsLeftOff}
use Rattle.wl_session.specs.Reading.{AllRead}
use Rattle.wl_session.specs.SessionView.{SessionView, state_of}
use Rattle.wl_session.specs.Stopping.{Played, Tell, within, at_end, StopsShort}
use Rattle.wl_session.specs.Streaming.{PlayedToEnd}
use Rattle.wl_session.specs.Transcript.{cells_read, texts, input_limit}
use Rattle.wl_session.specs.declared.counts.Counts.{Counts}
use Rattle.wl_session.specs.declared.streaming.Stop.{Stop}
use Rattle.wl_session.specs.declared.streaming.Stop.TheVariants.{ReadFault, WriteFault, OutOfMemory, TooLong}
use Rattle.wl_session.proofs.Answering.{begun_none, begun_on, state_append, all_read_append, texts_append}
use Rattle.wl_session.proofs.Ending.{left_with, taken_all}
use Rattle.wl_session.proofs.Numbers.{short_read, long_read, number_of, read_few}

-- the cells that end within a front of the bytes are a front of the cells that are read
front_of_short : (name : Option (List ℕ)) (xs ys : List ℕ) → length (xs ++ ys) ≤ input_limit → (others : List CellText) × (cells_read (Some name) (xs ++ ys) ≡ texts (ended start (take input_limit xs)) ++ others)
front_of_short name xs ys few =
    let rest = ended (cut start xs) ys ++ remainder (cut start (xs ++ ys)) in
    let whole : take input_limit xs ≡ xs = take_all input_limit xs (omega (arith, length-append xs ys)) in (
      texts rest,
      short_read name (xs ++ ys) few
          ∙ ap texts (ap (λ (l : List PlacedCell). l ++ remainder (cut start (xs ++ ys))) (ended_append start xs ys) ∙ append_assoc (ended start xs) (ended (cut start xs) ys) (remainder (cut start (xs ++ ys))))
          ∙ texts_append (ended start xs) rest ∙ ap (λ (l : List ℕ). texts (ended start l) ++ texts rest) (sym whole),
    )

front_of_long : (name : Option (List ℕ)) (xs ys : List ℕ) → input_limit < length (xs ++ ys) → (others : List CellText) × (cells_read (Some name) (xs ++ ys) ≡ texts (ended start (take input_limit xs)) ++ others)
front_of_long name xs ys many = by_length (nat_le (length xs) input_limit) refl
  where
    by_length : (b : Bool) → nat_le (length xs) input_limit ≡ b → (others : List CellText) × (cells_read (Some name) (xs ++ ys) ≡ texts (ended start (take input_limit xs)) ++ others)
    by_length true e =
        let fits : length xs ≤ input_limit = grind (arith, nat_tests) in
        let k = input_limit - length xs in
        let limit : input_limit ≡ length xs + k = omega arith in
        let rest = ended (cut start xs) (take k ys) in (
          texts rest,
          long_read name (xs ++ ys) many ∙ ap (λ (n : ℕ). texts (ended start (take n (xs ++ ys)))) limit ∙ ap (λ (l : List ℕ). texts (ended start l)) (take-append-add xs ys k)
              ∙ ap texts (ended_append start xs (take k ys)) ∙ texts_append (ended start xs) rest ∙ ap (λ (l : List ℕ). texts (ended start l) ++ texts rest) (sym (take_all input_limit xs fits)),
        )
    by_length false e =
        let longer : input_limit ≤ length xs = grind (arith, nat_tests) in
        ([], long_read name (xs ++ ys) many ∙ ap (λ (l : List ℕ). texts (ended start l)) (take-append-le input_limit xs ys longer) ∙ sym (append-nil (texts (ended start (take input_limit xs)))))

front_of : (name : Option (List ℕ)) (xs ys : List ℕ) → (others : List CellText) × (cells_read (Some name) (xs ++ ys) ≡ texts (ended start (take input_limit xs)) ++ others)
front_of name xs ys = by_limit (nat_le (length (xs ++ ys)) input_limit) refl
  where
    by_limit : (b : Bool) → nat_le (length (xs ++ ys)) input_limit ≡ b → (others : List CellText) × (cells_read (Some name) (xs ++ ys) ≡ texts (ended start (take input_limit xs)) ++ others)
    by_limit true e = front_of_short name xs ys (grind (arith, nat_tests))
    by_limit false e = front_of_long name xs ys (grind (arith, nat_tests))

told_front : (name : Option (List ℕ)) (bytes xs : List ℕ) (b : Option (List ℕ)) (told : List CellText) → Consumes (Some bytes) b xs → Tell b xs told → (others : List CellText) × (cells_read (Some name) bytes ≡ told ++ others)
told_front name bytes xs None told took t = absurd took
told_front name bytes xs (Some ys) told took (within e) =
    let (others, is) = front_of name xs ys in (others, ap (cells_read (Some name)) took ∙ is ∙ ap (λ (l : List CellText). l ++ others) (sym e))
told_front name bytes xs (Some ys) told took (at_end ends few e) =
    let same : xs ≡ bytes = taken_all bytes xs (Some ys) took ends in
    ([], short_read name bytes (subst (λ (l : List ℕ). length l ≤ input_limit) same few) ∙ ap (λ (l : List ℕ). texts (cells l)) (sym same) ∙ sym e ∙ sym (append-nil told))

-- a front of few cells
few_of : (all front behind : List CellText) → length all ≤ input_limit + 1 → all ≡ front ++ behind → length front ≤ input_limit + 1
few_of all front behind few is = omega (arith, few, ap (λ (l : List CellText). length l) is, length-append front behind)

-- a write fault in the middle of a cell
part_broken : (name : Option (List ℕ)) (bytes : List ℕ) (view : SessionView) (b h i : Option (List ℕ)) (m n : List ℕ) (status : ℕ) → StopsShort WriteFault (Some bytes) b fresh (state_of view) h i m n
    → IsBrokenOff (cells_read (Some name) bytes) (record { status = status; session = Some view }) h i m n
part_broken name bytes view b h i m n status x =
    let y = x.stopped in
    let done = y.answered in
    let one = y.breaks.answer in
    let part = y.breaks.part in
    let (others, told) = told_front name bytes x.bytes b x.told x.taken x.tells in
    let last = one.reading ∷ [] in
    let shows : answers (state_after fresh done.readings) last ≡ y.breaks.bytes =
    append-nil (answer_to (state_after fresh done.readings) one.reading).pending ∙ ap (λ (s : SessionState). (answer_to s one.reading).pending) (sym done.state) ∙ sym one.pending in
    let is : state_of view ≡ state_after fresh (done.readings ++ last) = one.state ∙ ap (λ (s : SessionState). state_after s last) done.state ∙ sym (state_append fresh done.readings last) in
    let all : cells_read (Some name) bytes ≡ (y.before ++ y.last ∷ []) ++ (y.behind ++ others) =
    told ∙ ap (λ (l : List CellText). l ++ others) y.all ∙ append_assoc y.before (y.last ∷ y.behind) others ∙ sym (append_assoc y.before (y.last ∷ []) (y.behind ++ others)) in
    let reads = all_read_append y.before (y.last ∷ []) done.readings last done.reads (one.reads, tt) in
    record {
      begun = y.before ++ y.last ∷ [];
      others = y.behind ++ others;
      all = all;
      whole = done.readings;
      broken = last;
      one = omega arith;
      reads = reads;
      front = part.front;
      rest = part.rest;
      of_broken = shows ∙ part.whole;
      out = Appends-trans h y.written i (answers fresh done.readings) part.front done.written part.written;
      left_with = left_with view _ is;
      number = ap (λ (s : SessionState). s.counts.cells) is ∙ number_of _ _ reads (few_of _ _ _ (read_few name bytes) all);
      counted = begun_on (length y.before) 1 (length (y.before ++ y.last ∷ [])) m y.before_last n done.begun y.begun (length-append y.before (y.last ∷ []));
    }

-- or of the flush
all_broken : (name : Option (List ℕ)) (bytes : List ℕ) (view : SessionView) (b h i : Option (List ℕ)) (m n : List ℕ) (status : ℕ) → PlayedToEnd (Some bytes) b fresh (state_of view) h i m n
    → IsBrokenOff (cells_read (Some name) bytes) (record { status = status; session = Some view }) h i m n
all_broken name bytes view b h i m n status x =
    let done = x.answered in
    let (others, told) = told_front name bytes x.bytes b (texts (cells x.bytes)) x.taken (at_end x.at_end x.few refl) in
    let is : state_of view ≡ state_after fresh (done.readings ++ []) = done.state ∙ ap (state_after fresh) (sym (append-nil done.readings)) in
    let reads = subst (AllRead (texts (cells x.bytes))) (sym (append-nil done.readings)) done.reads in
    record {
      begun = texts (cells x.bytes);
      others = others;
      all = told;
      whole = done.readings;
      broken = [];
      one = omega arith;
      reads = reads;
      front = [];
      rest = [];
      of_broken = refl;
      out = subst (Appends h i) (sym (append-nil (answers fresh done.readings))) done.written;
      left_with = left_with view _ is;
      number = ap (λ (s : SessionState). s.counts.cells) is ∙ number_of _ _ reads (few_of _ _ _ (read_few name bytes) told);
      counted = done.begun;
    }

-- memory ran out
left_off : (name : Option (List ℕ)) (bytes : List ℕ) (view : SessionView) (b h i : Option (List ℕ)) (m n : List ℕ) (status : ℕ) → StopsShort OutOfMemory (Some bytes) b fresh (state_of view) h i m n
    → IsLeftOff (cells_read (Some name) bytes) (record { status = status; session = Some view }) h i m n
left_off name bytes view b h i m n status x =
    let y = x.stopped in
    let done = y.answered in
    let (others, told) = told_front name bytes x.bytes b x.told x.taken x.tells in
    record {
      answered = y.before;
      unanswered = y.last ∷ [];
      one = omega arith;
      others = y.behind ++ others;
      all = told ∙ ap (λ (l : List CellText). l ++ others) y.all ∙ append_assoc y.before (y.last ∷ y.behind) others ∙ sym (append_assoc y.before (y.last ∷ []) (y.behind ++ others));
      readings = done.readings;
      reads = done.reads;
      out = subst (λ (o : Option (List ℕ)). Appends h o (answers fresh done.readings)) (sym y.breaks.unwritten) done.written;
      history = y.breaks.history ∙ ap (λ (s : SessionState). s.state.world.history) done.state;
      session_counts = y.breaks.counts ∙ ap (λ (s : SessionState). s.counts) done.state;
      number =
          ap (λ (c : Counts). c.cells) (y.breaks.counts ∙ ap (λ (s : SessionState). s.counts) done.state)
          ∙ number_of _ _ done.reads (few_of _ _ _ (read_few name bytes) (told ∙ ap (λ (l : List CellText). l ++ others) y.all ∙ append_assoc y.before (y.last ∷ y.behind) others));
      counted = begun_on (length y.before) 1 (length (y.before ++ y.last ∷ [])) m y.before_last n done.begun y.begun (length-append y.before (y.last ∷ []));
    }

not_four : (flawed : Bool) → status_of (Ok tt) flawed ≡ 4 → ⊥
not_four true e = omega arith
not_four false e = omega arith

not_five : (flawed : Bool) → status_of (Ok tt) flawed ≡ 5 → ⊥
not_five true e = omega arith
not_five false e = omega arith

played_of_bytes : (r : Result (Unit {0}) Stop) (name : Option (List ℕ)) (bytes : List ℕ) (view : SessionView) (b h i : Option (List ℕ)) (m n : List ℕ) (status : ℕ) → status ≡ status_of r view.flawed → Played r (Some bytes) b fresh (state_of view) h i m n → status ≡ 4
    → IsBrokenOff (cells_read (Some name) bytes) (record { status = status; session = Some view }) h i m n
played_of_bytes (Ok done) name bytes view b h i m n status is played four = absurd (not_four view.flawed (sym is ∙ four))
played_of_bytes (Err ReadFault) name bytes view b h i m n status is played four = absurd (omega arith)
played_of_bytes (Err OutOfMemory) name bytes view b h i m n status is played four = absurd (omega arith)
played_of_bytes (Err TooLong) name bytes view b h i m n status is played four = absurd (omega arith)
played_of_bytes (Err WriteFault) name bytes view b h i m n status is (inl x) four = part_broken name bytes view b h i m n status x
played_of_bytes (Err WriteFault) name bytes view b h i m n status is (inr x) four = all_broken name bytes view b h i m n status x

starved_of_bytes : (r : Result (Unit {0}) Stop) (name : Option (List ℕ)) (bytes : List ℕ) (view : SessionView) (b h i : Option (List ℕ)) (m n : List ℕ) (status : ℕ) → status ≡ status_of r view.flawed → Played r (Some bytes) b fresh (state_of view) h i m n → status ≡ 5
    → IsLeftOff (cells_read (Some name) bytes) (record { status = status; session = Some view }) h i m n
starved_of_bytes (Ok done) name bytes view b h i m n status is played five = absurd (not_five view.flawed (sym is ∙ five))
starved_of_bytes (Err ReadFault) name bytes view b h i m n status is played five = absurd (omega arith)
starved_of_bytes (Err WriteFault) name bytes view b h i m n status is played five = absurd (omega arith)
starved_of_bytes (Err TooLong) name bytes view b h i m n status is played five = absurd (omega arith)
starved_of_bytes (Err OutOfMemory) name bytes view b h i m n status is played five = left_off name bytes view b h i m n status played

-- the same of a source that may not tell its bytes, for the words that were read
pub played_broken : (r : Result (Unit {0}) Stop) (asked : Option (Option (List ℕ))) (name : Option (List ℕ)) (view : SessionView) (a b h i : Option (List ℕ)) (s : SessionState) (m n : List ℕ) (status : ℕ) → Some name ≡ asked → s ≡ fresh → status ≡ status_of r view.flawed
    → Played r a b s (state_of view) h i m n → status ≡ 4 → IfSome a (λ bytes. IsBrokenOff (cells_read asked bytes) (record { status = status; session = Some view }) h i m n)
played_broken r asked name view None b h i s m n status read new is played four = tt
played_broken r asked name view (Some bytes) b h i s m n status read new is played four =
    subst (λ (w : Option (Option (List ℕ))). IsBrokenOff (cells_read w bytes) (record { status = status; session = Some view }) h i m n) read
    (played_of_bytes r name bytes view b h i m n status is (subst (λ (t : SessionState). Played r (Some bytes) b t (state_of view) h i m n) new played) four)

pub played_starved : (r : Result (Unit {0}) Stop) (asked : Option (Option (List ℕ))) (name : Option (List ℕ)) (view : SessionView) (a b h i : Option (List ℕ)) (s : SessionState) (m n : List ℕ) (status : ℕ) → Some name ≡ asked → s ≡ fresh → status ≡ status_of r view.flawed
    → Played r a b s (state_of view) h i m n → status ≡ 5 → IfSome a (λ bytes. IsLeftOff (cells_read asked bytes) (record { status = status; session = Some view }) h i m n)
played_starved r asked name view None b h i s m n status read new is played five = tt
played_starved r asked name view (Some bytes) b h i s m n status read new is played five =
    subst (λ (w : Option (Option (List ℕ))). IsLeftOff (cells_read w bytes) (record { status = status; session = Some view }) h i m n) read
    (starved_of_bytes r name bytes view b h i m n status is (subst (λ (t : SessionState). Played r (Some bytes) b t (state_of view) h i m n) new played) five)

-- memory ran out before a cell was begun
pub nothing_begun : (asked : Option (Option (List ℕ))) (session : Option SessionView) (a h : Option (List ℕ)) (m : List ℕ) → history_of session ≡ [] → counts_of session ≡ no_counts
    → IfSome a (λ bytes. IsLeftOff (cells_read asked bytes) (record { status = 5; session = session }) h h m m)
nothing_begun asked session None h m new uncounted = tt
nothing_begun asked session (Some bytes) h m new uncounted = record {
  answered = [];
  unanswered = [];
  one = omega arith;
  others = cells_read asked bytes;
  all = refl;
  readings = [];
  reads = tt;
  out = Appends-nil h;
  history = new;
  session_counts = uncounted;
  number = ap (λ (c : Counts). c.cells) uncounted;
  counted = begun_none m m refl;
}
