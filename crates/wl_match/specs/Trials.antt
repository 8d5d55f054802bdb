-- The trials of a pattern on a run.
use Rattle.std.specs.Prelude.{ℕ, zero, suc, ◌+◌, ◌-◌, min, max, Bool, true, false, cond, ◌&&◌, nat_eq, nat_lt, List, [], ◌∷◌, ◌++◌, length, take, drop, Option, Some, None, codes}
use Rattle.wl_expr.specs.Tree.{Tree, symbol, node, to_list, from_list}
use Rattle.wl_expr.specs.Same.{same, same_lists}
use Rattle.wl_expr.specs.Words.{head_of, natural}
use Rattle.wl_match.specs.declared.flags.Flags.{Flags}
use Rattle.wl_match.specs.Pattern.{Count, one, some, any, refuses, Pat, exactly, blank, named, tested, hold, optional, alternatives, repeated, except, nodes, Pats, end, also, need, most, plus, stretchable, name_in, any_optional}
use Rattle.wl_match.specs.Search.{Trail, Leaf, Search, later, leaves, Cont, fail, found, guard, or_else, or_fail, bind, note}

abbrev pub has_head : Option Tree → Tree → Bool
has_head None t = true
has_head (Some h) t = same h (head_of t)

abbrev pub all_have : Option Tree → List Tree → Bool
all_have h [] = true
all_have h (t ∷ ts) = has_head h t && all_have h ts

abbrev pub allows : Count → List Tree → Bool
allows one r = nat_eq (length r) 1
allows some r = nat_lt 0 (length r)
allows any r = true

abbrev pub is_one : List Tree → Bool
is_one r = nat_eq (length r) 1

-- q on each element in turn
abbrev pub in_turn : (List Tree → Cont → Cont) → List Tree → Cont → Cont
in_turn q [] k e = later (k e)
in_turn q (t ∷ r) k e = later (q (t ∷ []) (in_turn q r k) e)

-- a list of patterns under a head
pub record Site : Type 0 where
  pub head : Tree
  pub flags : Flags

abbrev pub stretches : Site → Pat → Bool
stretches s p = s.flags.flat && stretchable s.head p

abbrev pub most_under : Site → Pat → Option ℕ
most_under s p = cond (stretches s p) None (most p)

abbrev pub needs : Pats → ℕ
needs end = 0
needs (also p ps) = need p + needs ps

abbrev pub mosts : Site → Pats → Option ℕ
mosts s end = Some 0
mosts s (also p ps) = plus (most_under s p) (mosts s ps)

abbrev pub need_present : Pat → ℕ
need_present (optional d q) = need q
need_present p = need p

abbrev pub beyond : ℕ → Option ℕ → ℕ
beyond n None = 0
beyond n (Some m) = n - m

abbrev pub within : Option ℕ → ℕ → ℕ
within None n = n
within (Some m) n = min (m + 1) n

-- the least length of the run of p, and how many lengths there are from there
abbrev pub least : Site → Pat → Pats → ℕ → ℕ
least s p ps n = max (need_present p) (beyond n (mosts s ps))

abbrev pub lengths : Site → Pat → Pats → ℕ → ℕ
lengths s p ps n = within (most_under s p) (n + 1 - needs ps) - least s p ps n

-- the default of an absent element
abbrev pub default_of : Site → ℕ → Pat → Option Tree
default_of s j (optional (Some d) q) = Some d
default_of s j (optional None q) =
    cond (same s.head (symbol (codes "Plus"))) (Some (natural 0))
    (cond (same s.head (symbol (codes "Times"))) (Some (natural 1))
    (cond (same s.head (symbol (codes "Power")) && nat_eq j 2) (Some (natural 1)) None))
default_of s j p = None

abbrev pub name_of : Pat → Option (List ℕ)
name_of (optional d q) = name_in q
name_of p = None

abbrev pub absent : Option Tree → Option (List ℕ) → Cont → Trail → Option Search
absent None x k e = None
absent (Some d) None k e = Some (later (k e))
absent (Some d) (Some x) k e = Some (bind x (d ∷ []) k e)

abbrev pub shaped : Bool → Tree → List Tree → List Tree
shaped true h (t ∷ u ∷ r) = node h (from_list (t ∷ u ∷ r)) ∷ []
shaped _ h r = r

-- the first pattern on a run, and the rest on what is left
abbrev pub Took : Type 0
Took = List Tree → List Tree → Search

abbrev pub pick : Took → ℕ → List Tree → List Tree → List Tree → Search
pick f zero chosen skipped left = later (f chosen (skipped ++ left))
pick f (suc m) chosen skipped [] = fail
pick f (suc m) chosen skipped (x ∷ left) =
    or_else (pick f m (chosen ++ x ∷ []) skipped left) (cond (nat_lt m (length left)) (Some (pick f (suc m) chosen (skipped ++ x ∷ []) left)) None)

abbrev pub takes : Bool → Took → List Tree → ℕ → Search
takes true f left n = pick f n [] [] left
takes false f left n = f (take n left) (drop n left)

-- the lengths from low on, and then what is absent
abbrev pub each_length : (ℕ → Search) → Option Search → ℕ → ℕ → Option Search
each_length f a low zero = a
each_length f a low (suc n) = Some (or_else (f low) (each_length f a (low + 1) n))

abbrev mutual
  pub trials : Pat → List Tree → Cont → Cont
  trials (exactly t) r k e = guard (same_lists r (t ∷ [])) k e
  trials (blank c h) r k e = guard (allows c r && all_have h r) k e
  trials (named x q) r k e = later (trials q r (bind x r k) e)
  trials (tested t q) r k e = later (trials q r (note t r k) e)
  trials (hold q) r k e = later (trials q r k e)
  trials (optional d q) r k e = later (trials q r k e)
  trials (alternatives qs) r k e = later (or_fail (members qs r k e))
  trials (repeated c q) r k e = guard (allows c r) (in_turn (λ s l. trials q s l) r k) e
  trials (except c q) r k e = guard (is_one r) (λ d. trials q r (note (refuses c) r k) d) e
  trials (nodes f h hp ps) [] k e = fail
  trials (nodes f h hp ps) (t ∷ []) k e =
      elim (f.one_identity && any_optional ps && cond (same h (head_of t)) false true) [
        | true ↦ later (elements (record { head = h; flags = f }) 1 ps (t ∷ []) k e)
        | false ↦ elim t [
          | node g us ↦ later (trials hp (g ∷ []) (λ d. elements (record { head = h; flags = f }) 1 ps (to_list us) k d) e)
          | _ ↦ fail
        ]
      ]
  trials (nodes f h hp ps) (t ∷ u ∷ r) k e = fail

  pub members : Pats → List Tree → Cont → Trail → Option Search
  members end r k e = None
  members (also q qs) r k e = Some (or_else (trials q r k e) (members qs r k e))

  pub elements : Site → ℕ → Pats → List Tree → Cont → Cont
  elements s j end left k e = guard (nat_eq (length left) 0) k e
  elements s j (also p ps) left k e =
      later (or_fail (each_length
      (takes s.flags.orderless (λ r l. trials p (shaped (stretches s p) s.head r) (λ d. elements s (j + 1) ps l k d) e) left)
      (absent (default_of s j p) (name_of p) (λ d. elements s (j + 1) ps left k d) e)
      (least s p ps (length left)) (lengths s p ps (length left))))

-- the leaves of a pattern on a tree
abbrev pub Trials : Pat → Tree → List Leaf
Trials p t = leaves (trials p (t ∷ []) found [])
