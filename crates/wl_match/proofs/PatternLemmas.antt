-- The parts of a pattern by their places.
use Rattle.std.proofs.Common.{◌≡◌, ◌<◌, ◌≤◌, ◌+◌, ℕ, List, [], ◌∷◌, length, get_or, pos, ap, sym, subst, ◌∙◌, arith}
use Rattle.std.specs.List.{All}
use Rattle.std.proofs.lemmas.List.Elements.{All-cons, All-nil}
use Rattle.std.proofs.lemmas.List.{get_or_default, get_or_past, length-map}
use Rattle.std.proofs.Math.ListN.{get_or-map}
use Rattle.wl_expr.specs.Passed.{IsFrom}
use Rattle.wl_expr.specs.Stamped.{Stamped, num}
use Rattle.wl_exact.specs.Fraction.{of_int}
use Rattle.wl_match.specs.declared.part.Part.{Part}
use Rattle.wl_match.specs.declared.part.Part.TheVariants as part
use Rattle.wl_match.specs.declared.size.Size.{Size}
use Rattle.wl_match.specs.Parts.{HaveOwnHeads, inside, table, nothing, pat, pat_of, kept, IsBehind, HasDefaults}
use Rattle.wl_match.specs.Sizes.{size, sizes_of}
use Rattle.wl_match.specs.Means.{IsPart, NoPart}
use Rattle.wl_match.proofs.PartsLemmas.{pat_is, length_table, no_pat}
use Rattle.wl_match.proofs.SizesLemmas.{behind_at}

pub part_is : (xs ss : List Part) (i : ℕ) (s : Part) → xs ≡ ss → s ≡ get_or xs i s → i < length xs → IsBehind 0 ss → HaveOwnHeads ss → IsPart ss i s
part_is xs ss i s e f h b o = subst (λ zs. IsBehind 0 zs → HaveOwnHeads zs → IsPart zs i s) e (λ d g. record { part = get_or_default xs i (part.Hold 0) s h ∙ sym f; is = pat_is xs i s d h ∙ ap (pat_of (pat xs)) (sym f); behind = subst (λ n. All (λ j. j < n) (inside s)) (let z : 0 + i ≡ i = omega arith in z) (behind_at 0 xs i s h f d); own = g i }) b o

pub no_part : (xs ss : List Part) (i : ℕ) → xs ≡ ss → length xs ≤ i → NoPart ss i
no_part xs ss i e h = subst (λ zs. NoPart zs i) e (let r : NoPart xs i = record { part = get_or_past xs i (part.Hold 0) h; is = no_pat xs i h } in r)

pub size_is : (zs : List Size) (ss : List Part) (i : ℕ) (d : Size) → zs ≡ sizes_of ss → i < length zs → get_or zs i d ≡ size (pat ss i)
unfolding pat
size_is zs ss i d e h =
    get_or_default zs i d (size nothing) h ∙ ap (λ ys. get_or ys i (size nothing)) e ∙ get_or-map size (table [] ss) i nothing

pub no_size : (zs : List Size) (ss : List Part) (i : ℕ) → zs ≡ sizes_of ss → length zs ≤ i → size nothing ≡ size (pat ss i)
no_size zs ss i e h = ap size (sym (no_pat ss i (omega (arith, ap length e, length-map (table [] ss) size, length_table [] ss))))

pub kept_defaults : (ms : List Stamped) (ss : List Part) → ss ≡ part.Exactly (num (of_int (pos 0))) ∷ part.Exactly (num (of_int (pos 1))) ∷ [] → All (IsFrom ms) (kept ss)
unfolding kept
kept_defaults ms ss e = subst (λ zs. All (IsFrom ms) (kept zs)) (sym e) (All-cons (IsFrom ms) (num (of_int (pos 0))) (num (of_int (pos 1)) ∷ []) tt (All-cons (IsFrom ms) (num (of_int (pos 1))) [] tt (All-nil (IsFrom ms))))

-- what stands behind the first parts leaves them
pub default_parts : (old new : List Part) → old ≡ part.Exactly (num (of_int (pos 0))) ∷ part.Exactly (num (of_int (pos 1))) ∷ [] → ((j : ℕ) → j < length old → pat new j ≡ pat old j) → HasDefaults new
unfolding pat
default_parts old new e h =
    let two : length old ≡ 2 = ap length e in
    (h 0 (omega arith) ∙ ap (λ z. pat z 0) e, h 1 (omega arith) ∙ ap (λ z. pat z 1) e)

pub default_behind : (old : List Part) → old ≡ part.Exactly (num (of_int (pos 0))) ∷ part.Exactly (num (of_int (pos 1))) ∷ [] → IsBehind 0 old
default_behind old e = subst (IsBehind 0) (sym e) (All-nil (λ i. i < 0), (All-nil (λ i. i < 1), tt))
