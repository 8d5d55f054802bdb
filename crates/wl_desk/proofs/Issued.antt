-- What a message leaves of a desk.
use Rattle.std.proofs.Common.{◌≡◌, Bool, true, false, cond, List, refl}
use Rattle.std.specs.Prelude.{◌==◌, nat_lt}
use Rattle.wl_expr.specs.Tree.{Tree}
use Rattle.wl_expr.specs.Words.{Name, Bytes}
use Rattle.wl_rules.specs.Entries.{Definitions, is_off}
use Rattle.wl_desk.specs.Desk.{Desk, count_of, full_name, issued, message_item, shown, shown_again, with_heard}

pub quiets_shown_again : (d : Definitions) (s : Name) (t : Bytes) (args : List Tree) (k : Desk) → (shown_again d s t args k).quiets ≡ k.quiets
quiets_shown_again d s t args k =
    elim (nat_lt (count_of (full_name s t) k.counts) 3) as (λ b. (cond b (shown (full_name s t) (message_item d s t args) k) k).quiets ≡ k.quiets) [ true ↦ refl | false ↦ refl ]

-- the open Quiets stay
pub quiets_issued : (d : Definitions) (s : Name) (t : Bytes) (args : List Tree) (k : Desk) → (issued d s t args k).quiets ≡ k.quiets
quiets_issued d s t args k =
    let unless_quiet : (b : Bool) → (with_heard true (cond b (shown_again d s t args k) k)).quiets ≡ k.quiets = elim [ true ↦ quiets_shown_again d s t args k | false ↦ refl ] in
    elim (is_off (d s) t) as (λ b. (cond b k (with_heard true (cond (k.quiets == 0) (shown_again d s t args k) k))).quiets ≡ k.quiets) [ true ↦ refl | false ↦ unless_quiet (k.quiets == 0) ]
