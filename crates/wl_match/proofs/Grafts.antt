-- Where a part gives Fail, Fail stands; where it gives a binding, the leaves of what follows stand in its place.
use Rattle.std.proofs.Common.{◌≡◌, ◌≢◌, ℕ, zero, suc, ◌+◌, Bool, true, false, ◌&&◌, cond, nat_lt, nat_eq, List, [], ◌∷◌, ◌++◌, length, take, drop, Option, Some, None, append_assoc, refl, ap, sym, ◌∙◌}
use Rattle.std.proofs.lemmas.List.{append-nil}
use Rattle.wl_expr.specs.Tree.{Tree, node, to_list}
use Rattle.wl_match.specs.Pattern.{Pat, Pats, exactly, blank, named, tested, hold, optional, alternatives, repeated, except, nodes, end, also, any_optional, refuses}
use Rattle.wl_match.specs.Search.{Trail, Leaf, Fail, Found, Search, leaf, later, either, leaves, Cont, fail, found, guard, or_else, or_fail, bind, bind_on, note, run_of}
use Rattle.wl_expr.specs.Same.{same, same_lists}
use Rattle.wl_expr.specs.Words.{head_of}
use Rattle.wl_match.specs.Followed.{followed}
use Rattle.wl_match.specs.Trials.{Site, trials, members, elements, in_turn, each_length, absent, takes, pick, Took, allows, all_have, is_one, default_of, name_of, least, lengths, shaped, stretches}

abbrev pub graft : Search → Cont → Search
graft (leaf Fail) l = fail
graft (leaf (Found e)) l = l e
graft (later s) l = later (graft s l)
graft (either a b) l = either (graft a l) (graft b l)

abbrev pub graft_o : Option Search → Cont → Option Search
graft_o None l = None
graft_o (Some s) l = Some (graft s l)

guard-graft : (b : Bool) (k l : Cont) (e : Trail) → graft (guard b k e) l ≡ guard b (λ d. graft (k d) l) e
guard-graft true k l e = refl
guard-graft false k l e = refl

bind_on-graft : (o : Option (List Tree)) (x : List ℕ) (r : List Tree) (k l : Cont) (e : Trail) → graft (bind_on o x r k e) l ≡ bind_on o x r (λ d. graft (k d) l) e
bind_on-graft None x r k l e = refl
bind_on-graft (Some s) x r k l e = guard-graft (same_lists s r) k l e

bind-graft : (x : List ℕ) (r : List Tree) (k l : Cont) (e : Trail) → graft (bind x r k e) l ≡ bind x r (λ d. graft (k d) l) e
bind-graft x r k l e = bind_on-graft (run_of x e) x r k l e

or_else-graft : (a : Search) (o : Option Search) (l : Cont) → graft (or_else a o) l ≡ or_else (graft a l) (graft_o o l)
or_else-graft a None l = refl
or_else-graft a (Some b) l = refl

or_fail-graft : (o : Option Search) (l : Cont) → graft (or_fail o) l ≡ or_fail (graft_o o l)
or_fail-graft None l = refl
or_fail-graft (Some s) l = refl

cond-graft : (b : Bool) (s : Search) (l : Cont) → graft_o (cond b (Some s) None) l ≡ cond b (Some (graft s l)) None
cond-graft true s l = refl
cond-graft false s l = refl

absent-graft : (d : Option Tree) (x : Option (List ℕ)) (k l : Cont) (e : Trail) → graft_o (absent d x k e) l ≡ absent d x (λ d. graft (k d) l) e
absent-graft None x k l e = refl
absent-graft (Some d) None k l e = refl
absent-graft (Some d) (Some x) k l e = ap Some (bind-graft x (d ∷ []) k l e)

each-graft : (f g : ℕ → Search) (a : Option Search) (l : Cont) → ((n : ℕ) → graft (f n) l ≡ g n) → (low n : ℕ) → graft_o (each_length f a low n) l ≡ each_length g (graft_o a l) low n
each-graft f g a l h low zero = refl
each-graft f g a l h low (suc n) = ap Some (or_else-graft (f low) (each_length f a (low + 1) n) l ∙ (λ i. or_else (h low i) (each-graft f g a l h (low + 1) n i)))

pick-graft : (f g : Took) (l : Cont) → ((r q : List Tree) → graft (f r q) l ≡ g r q) → (n : ℕ) (c s left : List Tree) → graft (pick f n c s left) l ≡ pick g n c s left
pick-graft f g l h zero c s left = ap later (h c (s ++ left))
pick-graft f g l h (suc m) c s [] = refl
pick-graft f g l h (suc m) c s (x ∷ left) =
    or_else-graft (pick f m (c ++ x ∷ []) s left) (cond (nat_lt m (length left)) (Some (pick f (suc m) c (s ++ x ∷ []) left)) None) l
    ∙ ap (λ o. or_else (graft (pick f m (c ++ x ∷ []) s left) l) o) (cond-graft (nat_lt m (length left)) (pick f (suc m) c (s ++ x ∷ []) left) l)
    ∙ (λ i. or_else (pick-graft f g l h m (c ++ x ∷ []) s left i) (cond (nat_lt m (length left)) (Some (pick-graft f g l h (suc m) c (s ++ x ∷ []) left i)) None))

takes-graft : (b : Bool) (f g : Took) (l : Cont) (left : List Tree) → ((r q : List Tree) → graft (f r q) l ≡ g r q) → (n : ℕ) → graft (takes b f left n) l ≡ takes b g left n
takes-graft true f g l left h n = pick-graft f g l h n [] [] left
takes-graft false f g l left h n = h (take n left) (drop n left)

in_turn-graft : (q : List Tree → Cont → Cont) → ((s : List Tree) (k l : Cont) (e : Trail) → graft (q s k e) l ≡ q s (λ d. graft (k d) l) e) → (r : List Tree) (k l : Cont) (e : Trail) → graft (in_turn q r k e) l ≡ in_turn q r (λ d. graft (k d) l) e
in_turn-graft q h [] k l e = refl
in_turn-graft q h (t ∷ r) k l e = ap later (h (t ∷ []) (in_turn q r k) l e ∙ (λ i. q (t ∷ []) (λ d. in_turn-graft q h r k l d i) e))

mutual
  pub trials-graft : (p : Pat) (r : List Tree) (k l : Cont) (e : Trail) → graft (trials p r k e) l ≡ trials p r (λ d. graft (k d) l) e
  trials-graft (exactly t) r k l e = guard-graft (same_lists r (t ∷ [])) k l e
  trials-graft (blank c h) r k l e = guard-graft (allows c r && all_have h r) k l e
  trials-graft (named x q) r k l e = ap later (trials-graft q r (bind x r k) l e ∙ (λ i. trials q r (λ d. bind-graft x r k l d i) e))
  trials-graft (tested t q) r k l e = ap later (trials-graft q r (note t r k) l e)
  trials-graft (hold q) r k l e = ap later (trials-graft q r k l e)
  trials-graft (optional d q) r k l e = ap later (trials-graft q r k l e)
  trials-graft (alternatives qs) r k l e = ap later (or_fail-graft (members qs r k e) l ∙ ap or_fail (members-graft qs r k l e))
  trials-graft (repeated c q) r k l e = guard-graft (allows c r) (in_turn (λ s l. trials q s l) r k) l e ∙ (λ i. guard (allows c r) (λ d. in_turn-graft (λ s l. trials q s l) (λ s k l e. trials-graft q s k l e) r k l d i) e)
  trials-graft (except c q) r k l e = guard-graft (is_one r) (λ d. trials q r (note (refuses c) r k) d) l e ∙ (λ i. guard (is_one r) (λ d. trials-graft q r (note (refuses c) r k) l d i) e)
  trials-graft (nodes f h hp ps) [] k l e = refl
  trials-graft (nodes f h hp ps) (t ∷ []) k l e =
      let s : Site = record { head = h; flags = f } in
      let m : Cont = λ d. graft (k d) l in
      let A : Cont → Bool → Tree → Search = λ k v w. elim v [
        | true ↦ later (elements s 1 ps (t ∷ []) k e)
        | false ↦ elim w [
          | node g us ↦ later (trials hp (g ∷ []) (λ d. elements s 1 ps (to_list us) k d) e)
          | _ ↦ fail
        ]
      ] in
      elim (f.one_identity && any_optional ps && cond (same h (head_of t)) false true) as (λ v. graft (A k v t) l ≡ A m v t) [
        | true ↦ ap later (elements-graft s 1 ps (t ∷ []) k l e)
        | false ↦ elim t as (λ w. graft (A k false w) l ≡ A m false w) [
          | node g us ↦ ap later (trials-graft hp (g ∷ []) (λ d. elements s 1 ps (to_list us) k d) l e ∙ (λ i. trials hp (g ∷ []) (λ d. elements-graft s 1 ps (to_list us) k l d i) e))
          | _ ↦ refl
        ]
      ]
  trials-graft (nodes f h hp ps) (t ∷ u ∷ r) k l e = refl

  pub members-graft : (qs : Pats) (r : List Tree) (k l : Cont) (e : Trail) → graft_o (members qs r k e) l ≡ members qs r (λ d. graft (k d) l) e
  members-graft end r k l e = refl
  members-graft (also q qs) r k l e = ap Some (or_else-graft (trials q r k e) (members qs r k e) l ∙ (λ i. or_else (trials-graft q r k l e i) (members-graft qs r k l e i)))

  pub elements-graft : (s : Site) (j : ℕ) (ps : Pats) (left : List Tree) (k l : Cont) (e : Trail) → graft (elements s j ps left k e) l ≡ elements s j ps left (λ d. graft (k d) l) e
  elements-graft s j end left k l e = guard-graft (nat_eq (length left) 0) k l e
  elements-graft s j (also p ps) left k l e =
      let f : Took = λ r q. trials p (shaped (stretches s p) s.head r) (λ d. elements s (j + 1) ps q k d) e in
      let g : Took = λ r q. trials p (shaped (stretches s p) s.head r) (λ d. elements s (j + 1) ps q (λ d. graft (k d) l) d) e in
      let h : (r q : List Tree) → graft (f r q) l ≡ g r q = λ r q. trials-graft p (shaped (stretches s p) s.head r) (λ d. elements s (j + 1) ps q k d) l e ∙ (λ i. trials p (shaped (stretches s p) s.head r) (λ d. elements-graft s (j + 1) ps q k l d i) e) in
      let a = absent (default_of s j p) (name_of p) (λ d. elements s (j + 1) ps left k d) e in
      let low = least s p ps (length left) in
      let n = lengths s p ps (length left) in
      ap later (or_fail-graft (each_length (takes s.flags.orderless f left) a low n) l
      ∙ ap or_fail (each-graft (takes s.flags.orderless f left) (takes s.flags.orderless g left) a l (takes-graft s.flags.orderless f g l left h) low n
      ∙ ap (λ o. each_length (takes s.flags.orderless g left) o low n) (absent-graft (default_of s j p) (name_of p) (λ d. elements s (j + 1) ps left k d) l e
      ∙ (λ i. absent (default_of s j p) (name_of p) (λ d. elements-graft s (j + 1) ps left k l d i) e))))

followed-append : (xs ys : List Leaf) (f : Trail → List Leaf) → followed (xs ++ ys) f ≡ followed xs f ++ followed ys f
followed-append [] ys f = refl
followed-append (Fail ∷ xs) ys f = ap (λ z. Fail ∷ z) (followed-append xs ys f)
followed-append (Found e ∷ xs) ys f = ap (λ z. f e ++ z) (followed-append xs ys f) ∙ sym (append_assoc (f e) (followed xs f) (followed ys f))

graft-leaves : (s : Search) (k : Cont) → leaves (graft s k) ≡ followed (leaves s) (λ e. leaves (k e))
graft-leaves (leaf Fail) k = refl
graft-leaves (leaf (Found e)) k = sym (append-nil (leaves (k e)))
graft-leaves (later s) k = graft-leaves s k
graft-leaves (either a b) k = (λ i. graft-leaves a k i ++ graft-leaves b k i) ∙ sym (followed-append (leaves a) (leaves b) (λ e. leaves (k e)))

pub follows_on : (p : Pat) (r : List Tree) (k : Cont) (e : Trail) → leaves (trials p r k e) ≡ followed (leaves (trials p r found e)) (λ d. leaves (k d))
follows_on p r k e = ap leaves (sym (trials-graft p r found k e)) ∙ graft-leaves (trials p r found e) k

pub never_empty : (s : Search) → leaves s ≢ []
never_empty (leaf l) = λ e. cc
never_empty (later s) = never_empty s
never_empty (either a b) = λ e. never_empty a (nil_left (leaves a) (leaves b) e)
  where
    nil_left : (xs ys : List Leaf) → xs ++ ys ≡ [] → xs ≡ []
    nil_left [] ys e = refl
    nil_left (x ∷ xs) ys e = cc
