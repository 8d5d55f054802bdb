-- What a run's end says, by how it was played.
use Rattle.std.proofs.Common.{◌≡◌, ◌≢◌, ◌≤◌, ◌<◌, ◌+◌, ◌++◌, ◌⊎◌, ℕ, Bool, true, false, cond, nat_le, List, length, take, Option, Some, None, IsSome, IfSome, Result, Ok, Err, [], inl, inr, sym, subst, refl, arith, ap, ◌∙◌, append-nil, length-append}
use Rattle.std.proofs.lemmas.Bool.Decides.{nat_tests}
use Rattle.std.proofs.lemmas.List.{take-append-le}
use Rattle.std.proofs.KnownBytes.{Consumes-nil}
use Rattle.std.specs.Io.KnownBytes.{Appends, Consumes, IsAtEnd}
use Rattle.wl_ports.specs.Causes.{Rose, next_count}
use Rattle.wl_expr.specs.Words.{Name}
use Rattle.wl_session.specs.Answers.{fresh, state_after, answers}
use Rattle.wl_session.specs.Line.{SessionState}
use Rattle.wl_session.specs.Counting.{HasBegun}
use Rattle.wl_session.specs.Reading.{Reading, AllRead}
use Rattle.wl_scan.specs.Cells.{CellText}
use Rattle.wl_scan.specs.Cells.{cells, ended, start}
use Rattle.wl_session.specs.Ends.{status_of, IsTranscript, IsLeftWith, IsCutShort, HasTaken, HasTakenFew, IsReadToEnd, IsFaultless, HasRisen}
use Rattle.wl_session.specs.SessionView.{SessionView, state_of}
use Rattle.wl_session.specs.Stopping.{Played, StopsShort}
use Rattle.wl_session.specs.Streaming.{IsBlamed, PlayedToEnd, PlayedToLimit}
use Rattle.wl_session.proofs.Answering.{begun_on}
use Rattle.wl_session.proofs.Numbers.{short_read, long_read, ended_texts_few, number_of}
use Rattle.wl_session.specs.Transcript.{transcript, cells_read, texts, input_limit}
use Rattle.wl_session.specs.declared.streaming.Stop.{Stop}
use Rattle.wl_session.specs.declared.streaming.Stop.TheVariants.{ReadFault, WriteFault, OutOfMemory, TooLong}

short_status : (name : Option (List ℕ)) (bytes : List ℕ) (readings : List Reading) → length bytes ≤ input_limit → (transcript (Some name) bytes readings).status ≡ cond (state_after fresh readings).flawed 1 0
short_status name bytes readings few = let is_few : nat_le (length bytes) input_limit ≡ true = grind (arith, nat_tests) in rw is_few refl

long_status : (name : Option (List ℕ)) (bytes : List ℕ) (readings : List Reading) → input_limit < length bytes → (transcript (Some name) bytes readings).status ≡ 6
long_status name bytes readings many = let is_many : nat_le (length bytes) input_limit ≡ false = grind (arith, nat_tests) in rw is_many refl

-- all bytes were taken
pub taken_all : (bytes xs : List ℕ) (b : Option (List ℕ)) → Consumes (Some bytes) b xs → IsAtEnd b → xs ≡ bytes
taken_all bytes xs None took ends = absurd took
taken_all bytes xs (Some ys) took ends = sym (took ∙ ap (λ (l : List ℕ). xs ++ l) ends ∙ append-nil xs)

-- a front of the bytes was taken
taken_front : (bytes xs : List ℕ) (b : Option (List ℕ)) (n : ℕ) → Consumes (Some bytes) b xs → n < length xs → (n < length bytes) × (take n xs ≡ take n bytes)
taken_front bytes xs None n took many = absurd took
taken_front bytes xs (Some ys) n took many =
    (let longer = ap length took in omega (arith, longer, length-append xs ys), sym (ap (take n) took ∙ take-append-le n xs ys (omega arith)))

-- how many bytes were taken is seen from what is left
taken_same : (a b : Option (List ℕ)) (xs zs : List ℕ) → IsSome a → Consumes a b xs → Consumes a b zs → length xs ≡ length zs
taken_same None b xs zs tells p q = cc
taken_same (Some bytes) None xs zs tells p q = absurd p
taken_same (Some bytes) (Some ys) xs zs tells p q = omega (arith, ap length p, ap length q, length-append xs ys, length-append zs ys)

no_fault : (before now : ℕ) → IsFaultless before now → ¬ Rose before now
no_fault before now faultless rose = absurd (omega (arith, faultless.kept, faultless.below))

-- what a session in this state has
pub left_with : (view : SessionView) (s : SessionState) → state_of view ≡ s → IsLeftWith s (Some view)
left_with view s is = record {
  history = ap (λ (t : SessionState). t.state.world.history) is;
  definitions = λ (x : Name). ap (λ (t : SessionState). t.state.world.definitions x) is;
  counts = ap (λ (t : SessionState). t.counts) is;
}

all_is_transcript : (name : Option (List ℕ)) (bytes : List ℕ) (view : SessionView) (b h i : Option (List ℕ)) (m n : List ℕ) (status : ℕ) → PlayedToEnd (Some bytes) b fresh (state_of view) h i m n → status ≡ cond view.flawed 1 0
    → IsTranscript (Some name) bytes (record { status = status; session = Some view }) h i
all_is_transcript name bytes view b h i m n status all says =
    let whole = taken_all bytes all.bytes b all.taken all.at_end in
    let few : length bytes ≤ input_limit = subst (λ (l : List ℕ). length l ≤ input_limit) whole all.few in
    record {
      readings = all.answered.readings;
      reads = subst (λ (cs : List CellText). AllRead cs all.answered.readings) (ap (λ (l : List ℕ). texts (cells l)) whole ∙ sym (short_read name bytes few)) all.answered.reads;
      status = says ∙ ap (λ (s : SessionState). cond s.flawed 1 0) all.answered.state ∙ sym (short_status name bytes all.answered.readings few);
      out = all.answered.written;
      history = ap (λ (s : SessionState). s.state.world.history) all.answered.state;
      definitions = λ (x : Name). ap (λ (s : SessionState). s.state.world.definitions x) all.answered.state;
      counts = ap (λ (s : SessionState). s.counts) all.answered.state;
    }

first_is_transcript : (name : Option (List ℕ)) (bytes : List ℕ) (view : SessionView) (b h i : Option (List ℕ)) (m n : List ℕ) → PlayedToLimit (Some bytes) b fresh (state_of view) h i m n
    → IsTranscript (Some name) bytes (record { status = 6; session = Some view }) h i
first_is_transcript name bytes view b h i m n first =
    let (longer, front) = taken_front bytes first.bytes b input_limit first.taken (omega (arith, first.many)) in
    record {
      readings = first.answered.readings;
      reads = subst (λ (cs : List CellText). AllRead cs first.answered.readings) (ap (λ (l : List ℕ). texts (ended start l)) front ∙ sym (long_read name bytes longer)) first.answered.reads;
      status = sym (long_status name bytes first.answered.readings longer);
      out = first.answered.written;
      history = ap (λ (s : SessionState). s.state.world.history) first.answered.state;
      definitions = λ (x : Name). ap (λ (s : SessionState). s.state.world.definitions x) first.answered.state;
      counts = ap (λ (s : SessionState). s.counts) first.answered.state;
    }

done_status : (done : Unit {0}) (flawed : Bool) → status_of (Ok done) flawed ≡ cond flawed 1 0
done_status done true = refl
done_status done false = refl

-- the transcript, by how the run was played
played_is_transcript : (r : Result (Unit {0}) Stop) (name : Option (List ℕ)) (bytes : List ℕ) (view : SessionView) (b h i : Option (List ℕ)) (m n : List ℕ) (x x' y y' status : ℕ) → status ≡ status_of r view.flawed
    → Played r (Some bytes) b fresh (state_of view) h i m n → IsBlamed r x x' y y' → ¬ Rose x x' → ¬ Rose y y' → status ≢ 5 → IsTranscript (Some name) bytes (record { status = status; session = Some view }) h i
played_is_transcript (Ok done) name bytes view b h i m n x x' y y' status is played blamed no_read_fault no_write_fault some_memory =
    all_is_transcript name bytes view b h i m n status played (is ∙ done_status done view.flawed)
played_is_transcript (Err ReadFault) name bytes view b h i m n x x' y y' status is played blamed no_read_fault no_write_fault some_memory = absurd (no_read_fault blamed.0)
played_is_transcript (Err WriteFault) name bytes view b h i m n x x' y y' status is played blamed no_read_fault no_write_fault some_memory = absurd (no_write_fault blamed.1)
played_is_transcript (Err OutOfMemory) name bytes view b h i m n x x' y y' status is played blamed no_read_fault no_write_fault some_memory = absurd (some_memory is)
played_is_transcript (Err TooLong) name bytes view b h i m n x x' y y' status is played blamed no_read_fault no_write_fault some_memory =
    subst (λ (k : ℕ). IsTranscript (Some name) bytes (record { status = k; session = Some view }) h i) (sym is) (first_is_transcript name bytes view b h i m n played)

-- the same of a source that may not tell its bytes
pub played_transcript : (r : Result (Unit {0}) Stop) (asked : Option (Option (List ℕ))) (name : Option (List ℕ)) (view : SessionView) (a b h i : Option (List ℕ)) (s : SessionState) (m n : List ℕ) (x x' y y' status : ℕ) → Some name ≡ asked → s ≡ fresh
    → status ≡ status_of r view.flawed → Played r a b s (state_of view) h i m n → IsBlamed r x x' y y'
    → IfSome a (λ bytes. ¬ Rose x x' → ¬ Rose y y' → status ≢ 5 → IsTranscript asked bytes (record { status = status; session = Some view }) h i)
played_transcript r asked name view None b h i s m n x x' y y' status read new is played blamed = tt
played_transcript r asked name view (Some bytes) b h i s m n x x' y y' status read new is played blamed = λ no_read_fault no_write_fault some_memory.
    subst (λ (w : Option (Option (List ℕ))). IsTranscript w bytes (record { status = status; session = Some view }) h i) read
    (played_is_transcript r name bytes view b h i m n x x' y y' status is (subst (λ (t : SessionState). Played r (Some bytes) b t (state_of view) h i m n) new played) blamed no_read_fault no_write_fault some_memory)

-- a read fault leaves the cells answered that ended before it
pub played_cut_short : (r : Result (Unit {0}) Stop) (view : SessionView) (a b h i : Option (List ℕ)) (s : SessionState) (m n : List ℕ) (status : ℕ) → s ≡ fresh → status ≡ status_of r view.flawed → Played r a b s (state_of view) h i m n → status ≡ 3
    → IsCutShort (record { status = status; session = Some view }) a b h i m n
played_cut_short (Ok done) view a b h i s m n status new is played three = absurd (not_three view.flawed (sym is ∙ three))
  where
    not_three : (flawed : Bool) → status_of (Ok done) flawed ≡ 3 → ⊥
    not_three true e = omega arith
    not_three false e = omega arith
played_cut_short (Err WriteFault) view a b h i s m n status new is played three = absurd (omega arith)
played_cut_short (Err OutOfMemory) view a b h i s m n status new is played three = absurd (omega arith)
played_cut_short (Err TooLong) view a b h i s m n status new is played three = absurd (omega arith)
played_cut_short (Err ReadFault) view a b h i s m n status new is played three = record {
  bytes = played.bytes;
  taken = played.taken;
  few = played.few;
  readings = played.answered.readings;
  reads = played.answered.reads;
  out = subst (λ (t : SessionState). Appends h i (answers t played.answered.readings)) new played.answered.written;
  left_with = left_with view _ (played.answered.state ∙ ap (λ (t : SessionState). state_after t played.answered.readings) new);
  number =
      ap (λ (t : SessionState). t.counts.cells) (played.answered.state ∙ ap (λ (t : SessionState). state_after t played.answered.readings) new)
      ∙ number_of _ played.answered.readings played.answered.reads (omega (arith, ended_texts_few start played.bytes, played.few));
  counted = played.answered.begun;
}

-- each cell was begun once
begun_all : (name : Option (List ℕ)) (bytes : List ℕ) (b h i : Option (List ℕ)) (s s' : SessionState) (m n : List ℕ) → PlayedToEnd (Some bytes) b s s' h i m n → HasBegun (length (cells_read (Some name) bytes)) m n
begun_all name bytes b h i s s' m n all =
    let whole = taken_all bytes all.bytes b all.taken all.at_end in
    let few : length bytes ≤ input_limit = subst (λ (l : List ℕ). length l ≤ input_limit) whole all.few in
    subst (λ (cs : List CellText). HasBegun (length cs) m n) (ap (λ (l : List ℕ). texts (cells l)) whole ∙ sym (short_read name bytes few)) all.answered.begun

begun_first : (name : Option (List ℕ)) (bytes : List ℕ) (b h i : Option (List ℕ)) (s s' : SessionState) (m n : List ℕ) → PlayedToLimit (Some bytes) b s s' h i m n → HasBegun (length (cells_read (Some name) bytes)) m n
begun_first name bytes b h i s s' m n first =
    let (longer, front) = taken_front bytes first.bytes b input_limit first.taken (omega (arith, first.many)) in
    subst (λ (cs : List CellText). HasBegun (length cs) m n) (ap (λ (l : List ℕ). texts (ended start l)) front ∙ sym (long_read name bytes longer)) first.answered.begun

neither : (k status : ℕ) → status ≡ k → 1 < k → k < 6 → (status ≤ 1) ⊎ (status ≡ 6) → ⊥
neither k status is more less (inl few) = omega arith
neither k status is more less (inr six) = omega arith

begun_of_bytes : (r : Result (Unit {0}) Stop) (name : Option (List ℕ)) (flawed : Bool) (bytes : List ℕ) (b h i : Option (List ℕ)) (s s' : SessionState) (m n : List ℕ) (status : ℕ) → status ≡ status_of r flawed → Played r (Some bytes) b s s' h i m n
    → (status ≤ 1) ⊎ (status ≡ 6) → HasBegun (length (cells_read (Some name) bytes)) m n
begun_of_bytes (Ok done) name flawed bytes b h i s s' m n status is played one = begun_all name bytes b h i s s' m n played
begun_of_bytes (Err ReadFault) name flawed bytes b h i s s' m n status is played one = absurd (neither 3 status is (omega arith) (omega arith) one)
begun_of_bytes (Err WriteFault) name flawed bytes b h i s s' m n status is played one = absurd (neither 4 status is (omega arith) (omega arith) one)
begun_of_bytes (Err OutOfMemory) name flawed bytes b h i s s' m n status is played one = absurd (neither 5 status is (omega arith) (omega arith) one)
begun_of_bytes (Err TooLong) name flawed bytes b h i s s' m n status is played one = begun_first name bytes b h i s s' m n played

pub played_begun : (r : Result (Unit {0}) Stop) (asked : Option (Option (List ℕ))) (name : Option (List ℕ)) (flawed : Bool) (a b h i : Option (List ℕ)) (s s' : SessionState) (m n : List ℕ) (status : ℕ) → Some name ≡ asked → status ≡ status_of r flawed
    → Played r a b s s' h i m n → (status ≤ 1) ⊎ (status ≡ 6) → IfSome a (λ bytes. HasBegun (length (cells_read asked bytes)) m n)
played_begun r asked name flawed None b h i s s' m n status read is played one = tt
played_begun r asked name flawed (Some bytes) b h i s s' m n status read is played one =
    subst (λ (w : Option (Option (List ℕ))). HasBegun (length (cells_read w bytes)) m n) read (begun_of_bytes r name flawed bytes b h i s s' m n status is played one)

stopped_kept : (stop : Stop) (a b h i : Option (List ℕ)) (s s' : SessionState) (m n : List ℕ) → StopsShort stop a b s s' h i m n → (k : ℕ) × HasBegun k m n
stopped_kept stop a b h i s s' m n x =
    let y = x.stopped in (length y.before + 1, begun_on (length y.before) 1 (length y.before + 1) m y.before_last n y.answered.begun y.begun refl)

-- the counts before stand as they were, however the run was played
pub played_kept : (r : Result (Unit {0}) Stop) (a b h i : Option (List ℕ)) (s s' : SessionState) (m n : List ℕ) → Played r a b s s' h i m n → (k : ℕ) × HasBegun k m n
played_kept (Ok done) a b h i s s' m n played = (length (texts (cells played.bytes)), played.answered.begun)
played_kept (Err ReadFault) a b h i s s' m n played = (length (texts (ended start played.bytes)), played.answered.begun)
played_kept (Err WriteFault) a b h i s s' m n (inl x) = stopped_kept WriteFault a b h i s s' m n x
played_kept (Err WriteFault) a b h i s s' m n (inr x) = (length (texts (cells x.bytes)), x.answered.begun)
played_kept (Err OutOfMemory) a b h i s s' m n played = stopped_kept OutOfMemory a b h i s s' m n played
played_kept (Err TooLong) a b h i s s' m n played = (length (texts (ended start (take input_limit played.bytes))), played.answered.begun)

-- no more bytes were taken than one past the longest input that is read
pub played_few : (r : Result (Unit {0}) Stop) (a b h i : Option (List ℕ)) (s s' : SessionState) (m n : List ℕ) → Played r a b s s' h i m n → HasTakenFew a b
played_few (Ok done) a b h i s s' m n played = record { bytes = played.bytes; taken = played.taken; few = omega (arith, played.few) }
played_few (Err ReadFault) a b h i s s' m n played = record { bytes = played.bytes; taken = played.taken; few = omega (arith, played.few) }
played_few (Err WriteFault) a b h i s s' m n (inl x) = record { bytes = x.bytes; taken = x.taken; few = x.few }
played_few (Err WriteFault) a b h i s s' m n (inr x) = record { bytes = x.bytes; taken = x.taken; few = omega (arith, x.few) }
played_few (Err OutOfMemory) a b h i s s' m n played = record { bytes = played.bytes; taken = played.taken; few = played.few }
played_few (Err TooLong) a b h i s s' m n played = record { bytes = played.bytes; taken = played.taken; few = omega (arith, played.many) }

-- nothing was taken
pub none_taken : (a : Option (List ℕ)) → HasTakenFew a a
none_taken a = record { bytes = []; taken = Consumes-nil a; few = omega arith }

pub played_too_long : (r : Result (Unit {0}) Stop) (flawed : Bool) (a b h i : Option (List ℕ)) (s s' : SessionState) (m n : List ℕ) (status : ℕ) → status ≡ status_of r flawed → Played r a b s s' h i m n → status ≡ 6 → HasTaken (input_limit + 1) a b
played_too_long (Ok done) true a b h i s s' m n status is played six = absurd (omega arith)
played_too_long (Ok done) false a b h i s s' m n status is played six = absurd (omega arith)
played_too_long (Err ReadFault) flawed a b h i s s' m n status is played six = absurd (omega arith)
played_too_long (Err WriteFault) flawed a b h i s s' m n status is played six = absurd (omega arith)
played_too_long (Err OutOfMemory) flawed a b h i s s' m n status is played six = absurd (omega arith)
played_too_long (Err TooLong) flawed a b h i s s' m n status is played six = record { bytes = played.bytes; taken = played.taken; many = played.many }

pub too_long_played : (r : Result (Unit {0}) Stop) (flawed : Bool) (a b h i : Option (List ℕ)) (s s' : SessionState) (m n : List ℕ) (x x' y y' status : ℕ) → status ≡ status_of r flawed → Played r a b s s' h i m n → IsBlamed r x x' y y' → IsSome a
    → HasTaken (input_limit + 1) a b → IsFaultless y y' → (status ≡ 6) ⊎ (status ≡ 5)
too_long_played (Ok done) flawed a b h i s s' m n x x' y y' status is played blamed tells taken faultless = absurd (omega (arith, taken_same a b played.bytes taken.bytes tells played.taken taken.taken, played.few, taken.many))
too_long_played (Err ReadFault) flawed a b h i s s' m n x x' y y' status is played blamed tells taken faultless = absurd (omega (arith, taken_same a b played.bytes taken.bytes tells played.taken taken.taken, played.few, taken.many))
too_long_played (Err WriteFault) flawed a b h i s s' m n x x' y y' status is played blamed tells taken faultless = absurd (no_fault y y' faultless blamed.1)
too_long_played (Err OutOfMemory) flawed a b h i s s' m n x x' y y' status is played blamed tells taken faultless = inr is
too_long_played (Err TooLong) flawed a b h i s s' m n x x' y y' status is played blamed tells taken faultless = inl is

-- a source that is read to its end gave no more bytes than are read
few_taken : (a b : Option (List ℕ)) (xs : List ℕ) → IsSome a → IsReadToEnd a b → Consumes a b xs → length xs ≤ input_limit
few_taken None b xs tells read took = cc
few_taken (Some bytes) b xs tells read took = subst (λ (l : List ℕ). length l ≤ input_limit) (sym (taken_all bytes xs b took read.at_end)) read.few

pub read_to_end_played : (r : Result (Unit {0}) Stop) (flawed : Bool) (a b h i : Option (List ℕ)) (s s' : SessionState) (m n : List ℕ) (x x' y y' status : ℕ) → status ≡ status_of r flawed → Played r a b s s' h i m n → IsBlamed r x x' y y' → IsSome a
    → IsReadToEnd a b → IsFaultless x x' → IsFaultless y y' → (status ≤ 1) ⊎ (status ≡ 5)
read_to_end_played (Ok done) true a b h i s s' m n x x' y y' status is played blamed tells read faultless_source faultless_out = inl (omega arith)
read_to_end_played (Ok done) false a b h i s s' m n x x' y y' status is played blamed tells read faultless_source faultless_out = inl (omega arith)
read_to_end_played (Err ReadFault) flawed a b h i s s' m n x x' y y' status is played blamed tells read faultless_source faultless_out = absurd (no_fault x x' faultless_source blamed.0)
read_to_end_played (Err WriteFault) flawed a b h i s s' m n x x' y y' status is played blamed tells read faultless_source faultless_out = absurd (no_fault y y' faultless_out blamed.1)
read_to_end_played (Err OutOfMemory) flawed a b h i s s' m n x x' y y' status is played blamed tells read faultless_source faultless_out = inr is
read_to_end_played (Err TooLong) flawed a b h i s s' m n x x' y y' status is played blamed tells read faultless_source faultless_out = absurd (omega (arith, few_taken a b played.bytes tells read played.taken, played.many))

-- another name than the served one was asked for
pub strayed : (asked : Option (Option (List ℕ))) (name served : Option (List ℕ)) (status hits hits' strays strays' : ℕ) → Some name ≡ asked → (name ≢ served → (hits' ≡ hits) × (strays' ≡ next_count strays))
    → IfSome asked (λ n. n ≢ served → (hits' ≡ hits) × HasRisen status strays strays')
strayed asked name served status hits hits' strays strays' read counts = subst (λ (w : Option (Option (List ℕ))). IfSome w (λ n. n ≢ served → (hits' ≡ hits) × HasRisen status strays strays')) read
    (λ other. let (stay, rise) = counts other in (stay, record { rose = λ _. rise; or_stayed = inl rise }))

complete_of_bytes : (r : Result (Unit {0}) Stop) (flawed : Bool) (bytes : List ℕ) (b h i : Option (List ℕ)) (s s' : SessionState) (m n : List ℕ) (x x' y y' status : ℕ) → status ≡ status_of r flawed → Played r (Some bytes) b s s' h i m n → IsBlamed r x x' y y'
    → length bytes ≤ input_limit → ¬ Rose x x' → ¬ Rose y y' → (status ≤ 1) ⊎ (status ≡ 5)
complete_of_bytes (Ok done) true bytes b h i s s' m n x x' y y' status is played blamed few no_read_fault no_write_fault = inl (omega arith)
complete_of_bytes (Ok done) false bytes b h i s s' m n x x' y y' status is played blamed few no_read_fault no_write_fault = inl (omega arith)
complete_of_bytes (Err ReadFault) flawed bytes b h i s s' m n x x' y y' status is played blamed few no_read_fault no_write_fault = absurd (no_read_fault blamed.0)
complete_of_bytes (Err WriteFault) flawed bytes b h i s s' m n x x' y y' status is played blamed few no_read_fault no_write_fault = absurd (no_write_fault blamed.1)
complete_of_bytes (Err OutOfMemory) flawed bytes b h i s s' m n x x' y y' status is played blamed few no_read_fault no_write_fault = inr is
complete_of_bytes (Err TooLong) flawed bytes b h i s s' m n x x' y y' status is played blamed few no_read_fault no_write_fault =
    absurd (omega (arith, (taken_front bytes played.bytes b input_limit played.taken (omega (arith, played.many))).0, few))

-- a source of no more bytes than are read, and no fault
pub complete_played : (r : Result (Unit {0}) Stop) (flawed : Bool) (a b h i : Option (List ℕ)) (s s' : SessionState) (m n : List ℕ) (x x' y y' status : ℕ) → status ≡ status_of r flawed → Played r a b s s' h i m n → IsBlamed r x x' y y'
    → IfSome a (λ bytes. length bytes ≤ input_limit → ¬ Rose x x' → ¬ Rose y y' → (status ≤ 1) ⊎ (status ≡ 5))
complete_played r flawed None b h i s s' m n x x' y y' status is played blamed = tt
complete_played r flawed (Some bytes) b h i s s' m n x x' y y' status is played blamed = complete_of_bytes r flawed bytes b h i s s' m n x x' y y' status is played blamed
