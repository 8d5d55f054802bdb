-- What is printed is read again.
use Rattle.std.proofs.Common.{ℕ, ◌≡◌, true, not, ◌&&◌, List, [], ◌++◌, refl, sym, ap, ◌∙◌, subst, append-nil}
use Rattle.std.proofs.lemmas.Bool.{and_parts, not-true}
use Rattle.wl_expr.specs.Tree as full
use Rattle.wl_expr.specs.Proper.{IsProper, AreProper}
use Rattle.wl_form.specs.Heads.{row_of}
use Rattle.wl_form.specs.Shown.{Shown, name, string, call, operand_or_equal, text_of}
use Rattle.wl_form.specs.Table.{showing, showings, shown, elems}
use Rattle.wl_form.specs.Texts.{input_text, spelled, is_clean, are_clean, stops}
use Rattle.wl_syntax.specs.Lower.{lower}
use Rattle.wl_syntax.specs.Reads.{HasTree}
use Rattle.wl_syntax.specs.Tree.{Tree, reads}
use Rattle.wl_syntax.proofs.Unique.{one_answer}
use Rattle.wl_reading_back.specs.Law.{IsPrintable, PrintedIsRight, HasOneTree, ReadsAgain, ParsesBack}
use Rattle.wl_reading_back.specs.Written.{written}
use Rattle.wl_reading_back.proofs.Back.{string_back}
use Rattle.wl_reading_back.proofs.Cut.{Scans, scans_nothing}
use Rattle.wl_reading_back.proofs.Cutting.{End, plain as plain_end, stop, bang, semi, Allowed, end_of, cut}
use Rattle.wl_reading_back.proofs.Rowed.{headed}
use Rattle.wl_reading_back.proofs.Table.{Good, AllGood, Deep, AllDeep, number_good, added_good, call_good, row_good}
use Rattle.wl_reading_back.proofs.Well.{Well, right_tree}

symbol_good : (s : List ℕ) → IsProper (full.symbol s) → Good (full.symbol s) (showing (full.symbol s))
unfolding Well
symbol_good s i = added_good (full.symbol s) (name s) (record { utf8 = i.0; name = i.1 }) refl (λ e. absurd (cc)) (λ _ _. refl)

text_good : (s : List ℕ) → IsProper (full.text s) → Good (full.text s) (showing (full.text s))
unfolding Well
text_good s i = added_good (full.text s) (string s) i (ap (λ x. full.text x) (string_back s i)) (λ _ l r. refl) (λ _ _. refl)

mutual
  unfolding AllGood Deep AllDeep

  pub good : (t : full.Tree) → IsProper t → is_clean t ≡ true → Good t (showing t)
  good (full.num f) i c = number_good f i
  good (full.text s) i c = text_good s i
  good (full.symbol s) i c = symbol_good s i
  good (full.node h ts) i c =
      let p = and_parts (not (stops (row_of h) ts)) (is_clean h && are_clean ts) c in
      let q = and_parts (is_clean h) (are_clean ts) p.1 in
      row_good (row_of h) h ts (call (operand_or_equal 3 (showing h).whole) (elems (showings ts))) (headed h) (not-true (stops (row_of h) ts) p.0) i.1 (all_good ts i.1 q.1) (all_deep ts i.1 q.1)
      (call_good h ts (good h i.0 q.0) (all_good ts i.1 q.1))

  all_good : (ts : full.Trees) → AreProper ts → are_clean ts ≡ true → AllGood ts
  all_good full.none i c = tt
  all_good (full.more t ts) i c = let p = and_parts (is_clean t) (are_clean ts) c in (good t i.0 p.0, all_good ts i.1 p.1)

  deep : (t : full.Tree) → IsProper t → is_clean t ≡ true → Deep t
  deep (full.num f) i c = tt
  deep (full.text s) i c = tt
  deep (full.symbol s) i c = tt
  deep (full.node h ts) i c =
      let p = and_parts (not (stops (row_of h) ts)) (is_clean h && are_clean ts) c in
      let q = and_parts (is_clean h) (are_clean ts) p.1 in
      (good h i.0 q.0, all_good ts i.1 q.1)

  all_deep : (ts : full.Trees) → AreProper ts → are_clean ts ≡ true → AllDeep ts
  all_deep full.none i c = tt
  all_deep (full.more t ts) i c = let p = and_parts (is_clean t) (are_clean ts) c in (deep t i.0 p.0, all_deep ts i.1 p.1)

pub good_of : (t : full.Tree) → IsPrintable t → Good t (showing t)
good_of t h = good t h.proper h.clean

pub printed_is_right : PrintedIsRight
printed_is_right t h = right_tree (shown t) (good_of t h).well

-- at the end of the text anything may stop
at_end : (e : End) → Allowed e []
at_end plain_end = record { closes = refl; apart = refl }
at_end stop = record { closes = refl; apart = refl }
at_end bang = record { closes = refl; apart = refl }
at_end semi = record { closes = refl; apart = refl }

scanned_whole : (s : Shown) → Well s → Scans (text_of s) (reads (written s))
scanned_whole s w = subst (λ x. Scans x (reads (written s))) (append-nil (text_of s)) (subst (λ x. Scans (text_of s ++ []) x) (append-nil (reads (written s))) (cut s w [] [] (at_end (end_of s)) scans_nothing))

pub has_one_tree : HasOneTree
has_one_tree t h =
    let w = (good_of t h).well in
    let s = scanned_whole (shown t) w in
    ((s.utf8, s.fault 1), (right_tree (shown t) w, sym (s.tokens 1)))

lowered : (t : full.Tree) → IsPrintable t → (u : Tree) → HasTree (input_text t) u → spelled t ≡ lower u
lowered t h u k = sym (good_of t h).value ∙ ap lower (one_answer.0 (input_text t) (written (shown t)) u (has_one_tree t h) k)

pub reads_again : ReadsAgain
reads_again t h u k l = record { tree = u; right = k; shallow = l; lowered = lowered t h u k }

pub parses_back : ParsesBack
parses_back t h = (
  (λ e r. r.lowered ∙ sym (lowered t h r.tree r.right)),
  (λ f r l. one_answer.1 (input_text t) (written (shown t)) (has_one_tree t h) l f r),
)
