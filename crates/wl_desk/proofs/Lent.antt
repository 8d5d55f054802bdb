-- An element that is lent, if there is one.
use Rattle.std.proofs.Common.{◌≡◌, ℕ, List, Option, Some, None, Bor, option_map, slice_get, sym, ◌∙◌, ap}
use Rattle.std.specs.Slice.{IsItemAt}
use Rattle.std.proofs.lemmas.Option.{slice_get_past, slice_get-get_or}

pub lent_item : {X : Type 0} (xs : List X) (i : ℕ) (r : Option (Bor X)) → IsItemAt xs i r → option_map (λ e. e.now) r ≡ slice_get xs i
lent_item xs i None h = sym (slice_get_past xs i h.3)
lent_item xs i (Some x) h = ap Some h.1 ∙ sym (slice_get-get_or xs i x.now h.3.0)
