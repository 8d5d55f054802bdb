-- The cutting of a text in pieces.
use Rattle.std.proofs.Common.{◌==◌, zero, suc, min, inl, inr, add-zero, ◌≡◌, ◌+◌, ◌-◌, ◌*◌, ◌^◌, ◌≤◌, ◌<◌, ◌++◌, ◌∙◌, ◌||◌, ◌&&◌, ◌⊎◌, ℕ, Bool, true, false, cond, ltb, List, [], ◌∷◌, length, take, drop, get_or, refl, sym, ap, subst, arith, append_assoc, append-nil}
use Rattle.std.proofs.lemmas.List.{take_all, length-take, length-append, length-take-le, length-drop, take-take, take_rest, take_more, get_or-drop}
use Rattle.std.proofs.Math.Seq.{take-append-add, take-add}
use Rattle.std.proofs.Math.Bool.{or-false}
use Rattle.std.proofs.lemmas.Bool.{cases_lt, eqb-true, eqb-false, and_parts, cond_both, cond-true, cond-false, and_left, and_right, ne_eqb, le-ltb, false_from_ne_true}
use Rattle.std.proofs.lemmas.Bool.Decides.{nat_tests}
use Rattle.std.specs.List.{concat}
use Rattle.wl_scan.specs.Characters.{is_blank}
use Rattle.wl_scan.specs.Places.{beginning, is_code, is_end, after, run_length, run_place, nesting}
use Rattle.wl_scan.specs.declared.place.Place.{Place}
use Rattle.wl_scan.specs.Cells.{Cutting, PlacedCell, IsCutting, cell_limit, between, renewed, taken_in, cut, ended, told_cell, shown, remainder, told_by, IsWithin}
use Rattle.wl_scan.specs.Lengths.{blank_length}

-- what the bytes of two pieces do is what the one and then the other does
pub cut_append : (c : Cutting) (xs ys : List ℕ) → cut c (xs ++ ys) ≡ cut (cut c xs) ys
cut_append c [] ys = refl
cut_append c (x ∷ xs) ys = cut_append (taken_in (renewed c) x) xs ys

pub ended_append : (c : Cutting) (xs ys : List ℕ) → ended c (xs ++ ys) ≡ ended c xs ++ ended (cut c xs) ys
ended_append c [] ys = refl
ended_append c (x ∷ xs) ys =
    let next = taken_in (renewed c) x in
    ap (λ (l : List PlacedCell). told_cell next ++ l) (ended_append next xs ys) ∙ sym (append_assoc (told_cell next) (ended next xs) (ended (cut next xs) ys))

pub told_by_is : (c : Cutting) (pieces : List (List ℕ)) → told_by c pieces ≡ ended c (concat pieces) ++ remainder (cut c (concat pieces))
told_by_is c [] = refl
told_by_is c (p ∷ ps) =
    ap (λ (l : List PlacedCell). ended c p ++ l) (told_by_is (cut c p) ps)
    ∙ sym (append_assoc (ended c p) (ended (cut c p) (concat ps)) (remainder (cut (cut c p) (concat ps))))
    ∙ ap (λ (l : List PlacedCell). l ++ remainder (cut (cut c p) (concat ps))) (sym (ended_append c p (concat ps)))
    ∙ ap (λ (d : Cutting). ended c (p ++ concat ps) ++ remainder d) (sym (cut_append c p (concat ps)))

-- before a cell

-- the blanks at the start, where the first byte is blank and where it isn't
blanks_more : (b : ℕ) (bs : List ℕ) (P : ℕ → Type 0) → (is_blank b ≡ true → P (suc (blank_length bs))) → (is_blank b ≡ false → P 0) → P (blank_length (b ∷ bs))
blanks_more b bs P more none =
    cond_both (is_blank b) (1 + blank_length bs) 0 P (λ e. subst P (omega arith) (more e)) none

not_end-beginning : (b : ℕ) → is_end beginning b ≡ false
not_end-beginning b = and_right (((b == 10) && true) && true) false refl

taken_blank : (n b : ℕ) → is_blank b ≡ true → taken_in (between n) b ≡ between (n + 1)
taken_blank n b blank = cond-false (is_end beginning b) _ _ (not_end-beginning b) ∙ cond-true (is_blank b) _ _ blank

pub cut_blanks : (n : ℕ) (bs : List ℕ)
    → (cut (between n) (take (blank_length bs) bs) ≡ between (n + blank_length bs)) × (ended (between n) (take (blank_length bs) bs) ≡ [])
cut_blanks n [] = (ap between (sym (add-zero n)), refl)
cut_blanks n (b ∷ bs) =
    blanks_more b bs
    (λ (m : ℕ). (cut (between n) (take m (b ∷ bs)) ≡ between (n + m)) × (ended (between n) (take m (b ∷ bs)) ≡ []))
    (λ blank.
    let next = taken_blank n b blank in
    let rest = cut_blanks (n + 1) bs in
    let m = blank_length bs in (
      ap (λ (c : Cutting). cut c (take m bs)) next ∙ rest.0 ∙ ap between (omega arith),
      ap (λ (c : Cutting). told_cell c ++ ended c (take m bs)) next ∙ rest.1,
    ))
    (λ _. (ap between (sym (add-zero n)), refl))

-- behind the blanks no blank follows
pub blank_length-behind : (bs : List ℕ) → blank_length (drop (blank_length bs) bs) ≡ 0
blank_length-behind [] = refl
blank_length-behind (b ∷ bs) =
    blanks_more b bs (λ (m : ℕ). blank_length (drop m (b ∷ bs)) ≡ 0)
    (λ _. blank_length-behind bs) (λ e. cond-false (is_blank b) _ _ e)

-- within a cell

-- a cutting that has told of nothing, by its parts
abbrev pub state : ℕ → Place → List ℕ → Bool → Cutting
state t p k long = record { taken = t; place = p; kept = k; is_long = long; told = false }

take_seam : (n : ℕ) (xs ys : List ℕ) → take n (take n xs ++ ys) ≡ take n (xs ++ ys)
take_seam zero xs ys = refl
take_seam (suc n) [] ys = refl
take_seam (suc n) (x ∷ xs) ys = ap (λ (l : List ℕ). x ∷ l) (take_seam n xs ys)

-- whether a list is past a limit can be asked at each step or at the end
past_limit : (long : Bool) (limit k m : ℕ) → (long || ltb limit (k + 1)) || ltb limit (min limit (k + 1) + m) ≡ (long || ltb limit (k + suc m))
past_limit true limit k m = refl
past_limit false limit k m = grind (arith, nat_tests)

-- a byte of a cell that doesn't end it
taken_more : (t : ℕ) (p : Place) (k : List ℕ) (long : Bool) (b : ℕ) → is_end p b ≡ false → ((length k == 0) && is_blank b) ≡ false
    → taken_in (state t p k long) b ≡ state (t + 1) (after p b) (take cell_limit (k ++ b ∷ [])) (long || ltb cell_limit (length k + 1))
taken_more t p k long b goes within = cond-false (is_end p b) _ _ goes ∙ cond-false ((length k == 0) && is_blank b) _ _ within

no_blank_before : (k bs : List ℕ) (b : ℕ) → (0 < length k) ⊎ (blank_length (b ∷ bs) ≡ 0) → ((length k == 0) && is_blank b) ≡ false
no_blank_before k bs b (inl begun) = and_left (length k == 0) (is_blank b) (ne_eqb (length k) 0 (λ e. omega (arith, e, begun)))
no_blank_before k bs b (inr none) =
    and_right (length k == 0) (is_blank b)
    (false_from_ne_true (is_blank b) (λ e. let some : 1 + blank_length bs ≡ 0 = sym (cond-true (is_blank b) (1 + blank_length bs) 0 e) ∙ none in omega (arith, some)))

-- the present cell after a run of bytes that don't end it
abbrev pub ran : ℕ → Place → List ℕ → Bool → ℕ → List ℕ → Cutting
ran t p k long n run = state (t + n) p (take cell_limit (k ++ run)) (long || ltb cell_limit (length k + n))

ran_none : (t : ℕ) (p : Place) (k : List ℕ) (long : Bool) → length k ≤ cell_limit → state t p k long ≡ ran t p k long 0 []
ran_none t p k long fits =
    let time : t ≡ t + 0 = omega arith in
    let kept : k ≡ take cell_limit (k ++ []) = sym (take_all cell_limit k fits) ∙ ap (take cell_limit) (sym (append-nil k)) in
    let flag : long ≡ (long || ltb cell_limit (length k + 0)) = sym (ap (λ (b : Bool). long || b) (le-ltb cell_limit (length k + 0) (omega arith)) ∙ or-false long) in
    cc

-- a run of bytes that don't end the cell, its first byte and the rest

run_more : (ends : Bool) (t : ℕ) (p q : Place) (k : List ℕ) (long : Bool) (b : ℕ) (bs : List ℕ) (m : ℕ) → is_end p b ≡ ends
    → length k ≤ cell_limit → ((length k == 0) && is_blank b) ≡ false
    → (let next = state (t + 1) (after p b) (take cell_limit (k ++ b ∷ [])) (long || ltb cell_limit (length k + 1)) in
    (cut next (take m bs) ≡ ran (t + 1) q (take cell_limit (k ++ b ∷ [])) (long || ltb cell_limit (length k + 1)) m (take m bs)) × (ended next (take m bs) ≡ []))
    → (let n = cond ends 0 (suc m) in
    (cut (state t p k long) (take n (b ∷ bs)) ≡ ran t (cond ends p q) k long n (take n (b ∷ bs))) × (ended (state t p k long) (take n (b ∷ bs)) ≡ []))
run_more true t p q k long b bs m ends fits within rest = (ran_none t p k long fits, refl)
run_more false t p q k long b bs m goes fits within rest =
    let next = taken_more t p k long b goes within in
    let time : t + 1 + m ≡ t + suc m = omega arith in
    let kept : take cell_limit (take cell_limit (k ++ b ∷ []) ++ take m bs) ≡ take cell_limit (k ++ b ∷ take m bs) =
    take_seam cell_limit (k ++ b ∷ []) (take m bs) ∙ ap (take cell_limit) (append_assoc k (b ∷ []) (take m bs)) in
    let size : length (take cell_limit (k ++ b ∷ [])) ≡ min cell_limit (length k + 1) =
    length-take cell_limit (k ++ b ∷ []) ∙ ap (min cell_limit) (length-append k (b ∷ [])) in
    let flag : ((long || ltb cell_limit (length k + 1)) || ltb cell_limit (length (take cell_limit (k ++ b ∷ [])) + m)) ≡ (long || ltb cell_limit (length k + suc m)) =
    ap (λ (n : ℕ). (long || ltb cell_limit (length k + 1)) || ltb cell_limit (n + m)) size ∙ past_limit long cell_limit (length k) m in
    let same : ran (t + 1) q (take cell_limit (k ++ b ∷ [])) (long || ltb cell_limit (length k + 1)) m (take m bs) ≡ ran t q k long (suc m) (b ∷ take m bs) = cc in (
      ap (λ (c : Cutting). cut c (take m bs)) next ∙ rest.0 ∙ same,
      ap (λ (c : Cutting). told_cell c ++ ended c (take m bs)) next ∙ rest.1,
    )

pub cut_run : (t : ℕ) (p : Place) (k : List ℕ) (long : Bool) (bs : List ℕ) → length k ≤ cell_limit → (0 < length k) ⊎ (blank_length bs ≡ 0)
    → (let n = run_length p bs in
    (cut (state t p k long) (take n bs) ≡ ran t (run_place p bs) k long n (take n bs)) × (ended (state t p k long) (take n bs) ≡ []))
cut_run t p k long [] fits within = (ran_none t p k long fits, refl)
cut_run t p k long (b ∷ bs) fits within =
    let kept = take cell_limit (k ++ b ∷ []) in
    let size : length kept ≡ min cell_limit (length k + 1) = length-take cell_limit (k ++ b ∷ []) ∙ ap (min cell_limit) (length-append k (b ∷ [])) in
    run_more (is_end p b) t p (run_place (after p b) bs) k long b bs (run_length (after p b) bs) refl fits (no_blank_before k bs b within)
    (cut_run (t + 1) (after p b) kept (long || ltb cell_limit (length k + 1)) bs (omega (arith, size)) (inl (omega (arith, size))))

run_end_more : (ends : Bool) (p q : Place) (b : ℕ) (bs : List ℕ) (m : ℕ) → is_end p b ≡ ends → (m < length bs → is_end q (get_or bs m 0) ≡ true)
    → cond ends 0 (suc m) < length (b ∷ bs) → is_end (cond ends p q) (get_or (b ∷ bs) (cond ends 0 (suc m)) 0) ≡ true
run_end_more true p q b bs m ends rest short = ends
run_end_more false p q b bs m goes rest short = rest (omega (arith, short))

-- behind a run that isn't all there is, a byte ends the cell
pub run_end : (p : Place) (bs : List ℕ) → run_length p bs < length bs → is_end (run_place p bs) (get_or bs (run_length p bs) 0) ≡ true
run_end p [] short = absurd (omega (arith, short))
run_end p (b ∷ bs) short = run_end_more (is_end p b) p (run_place (after p b) bs) b bs (run_length (after p b) bs) refl (run_end (after p b) bs) short

run_start_more : (ends : Bool) (p q : Place) (m : ℕ) → cond ends 0 (suc m) ≡ 0 → cond ends p q ≡ p
run_start_more true p q m none = refl
run_start_more false p q m none = absurd (omega (arith, none))

pub run_start : (p : Place) (bs : List ℕ) → run_length p bs ≡ 0 → run_place p bs ≡ p
run_start p [] none = refl
run_start p (b ∷ bs) none = run_start_more (is_end p b) p (run_place (after p b) bs) (run_length (after p b) bs) none

-- what holds on the way

pub between-IsCutting : (n : ℕ) → n ≤ 2 ^ 62 → IsCutting (between n)
between-IsCutting n fits = record {
  kept = omega arith;
  depth = omega arith;
  nesting = omega arith;
  taken = fits;
  begun = λ _. refl;
}

-- the present cell is its parts where nothing was told
untold : (c : Cutting) → c.told ≡ false → c ≡ state c.taken c.place c.kept c.is_long
untold c none = ap (λ (t : Bool). record c { told = t }) none

-- the blanks before a cell were passed over
pub skipped : (c d : Cutting) (n : ℕ) (bs : List ℕ) → c ≡ d → IsCutting c → length c.kept ≡ 0 → n ≡ blank_length bs
    → (record c { taken = c.taken + n } ≡ cut d (take n bs)) × (ended d (take n bs) ≡ [])
skipped c d n bs same sound none is =
    let fresh : c ≡ between c.taken = sound.begun none in
    let all = cut_blanks c.taken bs in (
      ap (λ (x : Cutting). record x { taken = c.taken + n }) fresh ∙ ap (λ (m : ℕ). between (c.taken + m)) is ∙ sym all.0
          ∙ ap (λ (x : Cutting). cut x (take (blank_length bs) bs)) (sym fresh ∙ same) ∙ ap (λ (m : ℕ). cut d (take m bs)) (sym is),
      ap (λ (m : ℕ). ended d (take m bs)) is ∙ ap (λ (x : Cutting). ended x (take (blank_length bs) bs)) (sym same ∙ fresh) ∙ all.1,
    )

pub skipped-IsCutting : (c : Cutting) (n : ℕ) → IsCutting c → length c.kept ≡ 0 → c.taken + n ≤ 2 ^ 62 → IsCutting (record c { taken = c.taken + n })
skipped-IsCutting c n sound none fits =
    let fresh : c ≡ between c.taken = sound.begun none in
    subst IsCutting (sym (ap (λ (x : Cutting). record x { taken = c.taken + n }) fresh)) (between-IsCutting (c.taken + n) fits)

-- a run of bytes of the present cell was taken
pub run_taken : (c d : Cutting) (p : Place) (n : ℕ) (bs : List ℕ) → c ≡ d → IsCutting c → d.told ≡ false → IsWithin d bs
    → n ≡ run_length c.place bs → p ≡ run_place c.place bs
    → (ran c.taken p c.kept c.is_long n (take n bs) ≡ cut d (take n bs)) × (ended d (take n bs) ≡ [])
run_taken c d p n bs same sound none within long reaches =
    let parts : d ≡ state c.taken c.place c.kept c.is_long = sym same ∙ untold c (ap (λ (x : Cutting). x.told) same ∙ none) in
    let begun : (0 < length c.kept) ⊎ (blank_length bs ≡ 0) = subst (λ (x : Cutting). IsWithin x bs) (sym same) within in
    let all = cut_run c.taken c.place c.kept c.is_long bs sound.kept begun in
    let m = run_length c.place bs in (
      ap (λ (q : Place). ran c.taken q c.kept c.is_long n (take n bs)) reaches
          ∙ ap (λ (k : ℕ). ran c.taken (run_place c.place bs) c.kept c.is_long k (take k bs)) long
          ∙ sym all.0 ∙ ap (λ (x : Cutting). cut x (take m bs)) (sym parts) ∙ ap (λ (k : ℕ). cut d (take k bs)) (sym long),
      ap (λ (k : ℕ). ended d (take k bs)) long ∙ ap (λ (x : Cutting). ended x (take m bs)) parts ∙ all.1,
    )

pub ran-IsCutting : (c : Cutting) (p : Place) (n : ℕ) (bs : List ℕ) → IsCutting c → c.told ≡ false → n ≤ length bs → c.taken + n ≤ 2 ^ 62
    → n ≡ run_length c.place bs → p ≡ run_place c.place bs → p.depth ≤ c.place.depth + 2 * n → nesting p.region ≤ nesting c.place.region + n
    → IsCutting (ran c.taken p c.kept c.is_long n (take n bs))
ran-IsCutting c p n bs sound none within fits long reaches depth nested =
    let size : length (take cell_limit (c.kept ++ take n bs)) ≡ min cell_limit (length c.kept + n) =
    length-take cell_limit (c.kept ++ take n bs) ∙ ap (min cell_limit) (length-append c.kept (take n bs) ∙ ap (λ (m : ℕ). length c.kept + m) (length-take-le n bs within)) in
    record {
      kept = omega (arith, size);
      depth = omega (arith, sound.depth);
      nesting = omega (arith, sound.nesting);
      taken = fits;
      begun = λ e.
          let no_more : n ≡ 0 = omega (arith, size, e) in
          let before : length c.kept ≡ 0 = omega (arith, size, e) in
          let there : p ≡ c.place = reaches ∙ run_start c.place bs (sym long ∙ no_more) in
          ap (λ (q : Place). ran c.taken q c.kept c.is_long n (take n bs)) there ∙ ap (λ (m : ℕ). ran c.taken c.place c.kept c.is_long m (take m bs)) no_more
          ∙ sym (ran_none c.taken c.place c.kept c.is_long sound.kept) ∙ sym (untold c none) ∙ sound.begun before ∙ ap between (omega arith);
    }

-- the part of a run for which there is room
pub kept_is : (k bs : List ℕ) (n room : ℕ) → length k + room ≡ cell_limit → k ++ take (min n room) bs ≡ take cell_limit (k ++ take n bs)
kept_is k bs n room is =
    let cut_off : take room (take n bs) ≡ take (min n room) bs =
    elim (cases_lt room n) [
      | inl long ↦ take-take room n bs (omega arith) ∙ ap (λ (m : ℕ). take m bs) (omega arith)
      | inr short ↦ take_all room (take n bs) (omega (arith, length-take n bs)) ∙ ap (λ (m : ℕ). take m bs) (omega arith)
    ] in
    ap (λ (l : List ℕ). k ++ l) (sym cut_off) ∙ sym (take-append-add k (take n bs) room) ∙ ap (λ (m : ℕ). take m (k ++ take n bs)) is

-- the buffer after its front got the part of a run for which there was room
pub stored : (items written buffer bs : List ℕ) (len n m : ℕ) → length items ≡ cell_limit → len ≤ cell_limit → n ≤ length bs → m ≡ min n (cell_limit - len)
    → buffer ≡ written → take (len + length (take m bs)) written ≡ take len items ++ take m bs
    → take (len + m) buffer ≡ take cell_limit (take len items ++ take n bs)
stored items written buffer bs len n m size within short is same wrote =
    let front : length (take len items) ≡ len = length-take-le len items (omega arith) in
    let part : length (take m bs) ≡ m = length-take-le m bs (omega arith) in
    ap (take (len + m)) same ∙ ap (λ (k : ℕ). take (len + k) written) (sym part) ∙ wrote
    ∙ ap (λ (k : ℕ). take len items ++ take k bs) is ∙ kept_is (take len items) bs n (cell_limit - len) (omega arith)

pub long_is : (items : List ℕ) (len n : ℕ) → length items ≡ cell_limit → len ≤ cell_limit → ltb (cell_limit - len) n ≡ ltb cell_limit (length (take len items) + n)
long_is items len n size within =
    let front : length (take len items) ≡ len = length-take-le len items (omega arith) in
    grind (arith, nat_tests)

pub ran_is : (c : Cutting) (p : Place) (n : ℕ) (k bs : List ℕ) (more : Bool) → c.told ≡ false → k ≡ take cell_limit (c.kept ++ take n bs)
    → more ≡ ltb cell_limit (length c.kept + n)
    → record { taken = c.taken + n; place = p; kept = k; is_long = c.is_long || more; told = c.told } ≡ ran c.taken p c.kept c.is_long n (take n bs)
ran_is c p n k bs more none kept long =
    ap (λ (l : List ℕ). record { taken = c.taken + n; place = p; kept = l; is_long = c.is_long || more; told = c.told }) kept
    ∙ ap (λ (b : Bool). record { taken = c.taken + n; place = p; kept = take cell_limit (c.kept ++ take n bs); is_long = c.is_long || b; told = c.told }) long
    ∙ ap (λ (b : Bool). record { taken = c.taken + n; place = p; kept = take cell_limit (c.kept ++ take n bs); is_long = c.is_long || ltb cell_limit (length c.kept + n); told = b }) none

pub run_ends : (p q : Place) (n : ℕ) (bs : List ℕ) → q ≡ run_place p bs → n ≡ run_length p bs → n < length bs → is_end q (get_or bs n 0) ≡ true
run_ends p q n bs reaches long short =
    ap (λ (x : Place). is_end x (get_or bs n 0)) reaches ∙ ap (λ (k : ℕ). is_end (run_place p bs) (get_or bs k 0)) long ∙ run_end p bs (omega (arith, long, short))

-- how many bytes were taken

taken-taken_in : (c : Cutting) (b : ℕ) → (taken_in c b).taken ≡ c.taken + 1
taken-taken_in c b =
    let P : Cutting → Type 0 = λ d. d.taken ≡ c.taken + 1 in
    cond_both (is_end c.place b) _ _ P (λ _. refl) (λ _. cond_both ((length c.kept == 0) && is_blank b) _ _ P (λ _. refl) (λ _. refl))

taken-renewed : (c : Cutting) → (renewed c).taken ≡ c.taken
taken-renewed c = cond_both c.told (between c.taken) c (λ (d : Cutting). d.taken ≡ c.taken) (λ _. refl) (λ _. refl)

pub taken_cut : (c : Cutting) (bs : List ℕ) → (cut c bs).taken ≡ c.taken + length bs
taken_cut c [] = omega arith
taken_cut c (b ∷ bs) = omega (arith, taken_cut (taken_in (renewed c) b) bs, taken-taken_in (renewed c) b, taken-renewed c)

-- a cell that was told of is done with at the next byte

renewed-renewed : (c : Cutting) → renewed (renewed c) ≡ renewed c
renewed-renewed c =
    cond_both c.told (between c.taken) c (λ (d : Cutting). renewed d ≡ d) (λ _. refl) (λ none. cond-false c.told (between c.taken) c none)

pub cut_renewed : (c : Cutting) (bs : List ℕ) → 0 < length bs → (cut (renewed c) bs ≡ cut c bs) × (ended (renewed c) bs ≡ ended c bs)
cut_renewed c [] some = absurd (omega (arith, some))
cut_renewed c (b ∷ bs) some =
    let same = renewed-renewed c in
    (ap (λ (d : Cutting). cut (taken_in d b) bs) same, ap (λ (d : Cutting). told_cell (taken_in d b) ++ ended (taken_in d b) bs) same)

-- two pieces that end no cell
pub fed : (c d e : Cutting) (bs : List ℕ) (m n : ℕ) → d ≡ cut c (take m bs) → ended c (take m bs) ≡ [] → m ≤ length bs
    → e ≡ cut d (take n (take (length bs - m) (drop m bs))) → ended d (take n (take (length bs - m) (drop m bs))) ≡ []
    → (e ≡ cut c (take (m + n) bs)) × (ended c (take (m + n) bs) ≡ [])
fed c d e bs m n first none_first within second none_second =
    let rest : take (length bs - m) (drop m bs) ≡ drop m bs = take_rest bs m in
    let parts : take (m + n) bs ≡ take m bs ++ take n (drop m bs) = take-add m n bs in (
      second ∙ ap (λ (l : List ℕ). cut d (take n l)) rest ∙ ap (λ (x : Cutting). cut x (take n (drop m bs))) first
          ∙ sym (cut_append c (take m bs) (take n (drop m bs))) ∙ ap (cut c) (sym parts),
      ap (ended c) parts ∙ ended_append c (take m bs) (take n (drop m bs))
          ∙ ap (λ (l : List PlacedCell). l ++ ended (cut c (take m bs)) (take n (drop m bs))) none_first
          ∙ ap (λ (x : Cutting). ended x (take n (drop m bs))) (sym first) ∙ ap (λ (l : List ℕ). ended d (take n l)) (sym rest) ∙ none_second,
    )

-- the byte that ends the cell
pub fed_end : (c e : Cutting) (bs : List ℕ) (n : ℕ) → e ≡ cut c (take n bs) → ended c (take n bs) ≡ [] → n < length bs → e.told ≡ false → is_end e.place (get_or bs n 0) ≡ true
    → (let told = record e { taken = e.taken + 1; told = true } in (told ≡ cut c (take (n + 1) bs)) × (ended c (take (n + 1) bs) ≡ shown told ∷ []))
fed_end c e bs n reaches none short untold ends =
    let b = get_or bs n 0 in
    let more : take (n + 1) bs ≡ take n bs ++ b ∷ [] = take_more bs n 0 short in
    let same : renewed e ≡ e = cond-false e.told (between e.taken) e untold in
    let last : taken_in (renewed e) b ≡ record e { taken = e.taken + 1; told = true } = ap (λ (x : Cutting). taken_in x b) same ∙ cond-true (is_end e.place b) _ _ ends in (
      sym (ap (cut c) more ∙ cut_append c (take n bs) (b ∷ []) ∙ ap (λ (x : Cutting). cut x (b ∷ [])) (sym reaches) ∙ last),
      ap (ended c) more ∙ ended_append c (take n bs) (b ∷ []) ∙ ap (λ (l : List PlacedCell). l ++ ended (cut c (take n bs)) (b ∷ [])) none
          ∙ ap (λ (x : Cutting). ended x (b ∷ [])) (sym reaches) ∙ ap (λ (x : Cutting). told_cell x ++ []) last,
    )

-- only a line feed ends a cell
pub end_is_line_feed : (p : Place) (b : ℕ) → is_end p b ≡ true → is_end p 10 ≡ true
end_is_line_feed p b ends =
    let line_feed : b ≡ 10 = eqb-true b 10 (and_parts (b == 10) _ (and_parts ((b == 10) && is_code p.region) _ (and_parts (((b == 10) && is_code p.region) && (p.depth == 0)) _ ends).0).0).0 in
    subst (λ (x : ℕ). is_end p x ≡ true) line_feed ends

-- a piece that is taken whole and ends no cell
pub fed_all : (c r d e : Cutting) (bs : List ℕ) (m n : ℕ) → r ≡ renewed c → d ≡ cut r (take m bs) → ended r (take m bs) ≡ [] → m ≤ length bs
    → e ≡ cut d (take n (take (length bs - m) (drop m bs))) → ended d (take n (take (length bs - m) (drop m bs))) ≡ [] → 0 < m + n → 0 < length bs
    → (e ≡ cut c (take (m + n) bs)) × (ended c (take (m + n) bs) ≡ [])
fed_all c r d e bs m n renewal first none_first within second none_second some any =
    let run = fed r d e bs m n first none_first within second none_second in
    let begun = cut_renewed c (take (m + n) bs) (omega (arith, length-take (m + n) bs)) in (
      run.0 ∙ ap (λ (x : Cutting). cut x (take (m + n) bs)) renewal ∙ begun.0,
      sym (ap (λ (x : Cutting). ended x (take (m + n) bs)) renewal ∙ begun.1) ∙ run.1,
    )

-- a piece that is taken up to the end of a cell
pub fed_to_end : (c r d e : Cutting) (bs : List ℕ) (m n : ℕ) → r ≡ renewed c → d ≡ cut r (take m bs) → ended r (take m bs) ≡ [] → m ≤ length bs
    → e ≡ cut d (take n (take (length bs - m) (drop m bs))) → ended d (take n (take (length bs - m) (drop m bs))) ≡ [] → m + n < length bs → e.told ≡ false
    → (n < length (take (length bs - m) (drop m bs)) → is_end e.place (get_or (take (length bs - m) (drop m bs)) n 0) ≡ true)
    → (let told = record e { taken = e.taken + 1; told = true } in (told ≡ cut c (take (m + n + 1) bs)) × (ended c (take (m + n + 1) bs) ≡ shown told ∷ []))
fed_to_end c r d e bs m n renewal first none_first within second none_second short untold ends =
    let run = fed r d e bs m n first none_first within second none_second in
    let rest : take (length bs - m) (drop m bs) ≡ drop m bs = take_rest bs m in
    let byte : get_or (take (length bs - m) (drop m bs)) n 0 ≡ get_or bs (m + n) 0 = ap (λ (l : List ℕ). get_or l n 0) rest ∙ get_or-drop m bs n 0 in
    let there : is_end e.place (get_or bs (m + n) 0) ≡ true =
    ap (is_end e.place) (sym byte) ∙ ends (omega (arith, ap length rest, length-drop m bs)) in
    let all = fed_end r e bs (m + n) run.0 run.1 short untold there in
    let begun = cut_renewed c (take (m + n + 1) bs) (omega (arith, length-take (m + n + 1) bs)) in (
      all.0 ∙ ap (λ (x : Cutting). cut x (take (m + n + 1) bs)) renewal ∙ begun.0,
      sym (ap (λ (x : Cutting). ended x (take (m + n + 1) bs)) renewal ∙ begun.1) ∙ all.1,
    )

pub some_bytes : (bs : List ℕ) (empty : Bool) → empty ≡ (length bs == 0) → empty ≡ false → 0 < length bs
some_bytes bs empty is none =
    let some : length bs ≡ 0 → ⊥ = eqb-false (length bs) 0 (sym is ∙ none) in
    omega (arith, some)
