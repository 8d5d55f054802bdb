-- What the parser answers, from where its machine stands.
use Rattle.std.proofs.Common.{ℕ, Bool, true, false, ◌≡◌, List, [], ◌∷◌, ◌++◌, Option, Some, None, map, take, drop, length, take-append-drop, ◌+◌, ◌≢◌, refl, sym, ap, ◌∙◌, subst, append_assoc, arith, get_or, take-take, ◌⊎◌, ⊎_elim, inl, inr, ◌<◌, ◌≤◌}
use Rattle.std.proofs.Math.Seq.{take-length}
use Rattle.std.specs.Prelude.{unwrap_or}
use Rattle.std.proofs.lemmas.List.{map_more, take-map, length-map}
use Rattle.wl_syntax.specs.declared.machine.Entry.{Entry}
use Rattle.wl_syntax.specs.declared.machine.Standing.{Standing}
use Rattle.wl_syntax.specs.declared.machine.Standing.TheVariants.{Wants, Has, Semi, Dead}
use Rattle.wl_syntax.specs.declared.token.Token.{Token as CodeToken}
use Rattle.wl_syntax.specs.Token.{Token}
use Rattle.wl_syntax.specs.Tree.{Tree, last}
use Rattle.wl_syntax.specs.Machine.{Open, State, wants, has, semi, shuts, dead, closed, step, run, finished, finish, parse, IsAlive}
use Rattle.wl_syntax.specs.Ending.{Viable}
use Rattle.wl_syntax.specs.Tags.{met_from, met, Past, no_past, past_after, met_behind}
use Rattle.wl_syntax.specs.Polish.{Node, last_node, polish, token_of}
use Rattle.wl_syntax.specs.Flat.{out_of, entries, nodes, Stand}
use Rattle.wl_syntax.specs.Moves.{Holds, Moves, Finishes}
use Rattle.wl_syntax.specs.TagsHold.{TagsHold}
use Rattle.wl_syntax.specs.declared.machine.Machine.{Machine}
use Rattle.wl_syntax.specs.declared.tags.Tags.{Tags}
use Rattle.wl_syntax.specs.Parsed.{IsTreeOf, HasNoTree, IsUnclosed, IsUnexpected, first_unmet}
use Rattle.wl_syntax.proofs.Reading.{run-append, complete}
use Rattle.wl_syntax.proofs.Sound.{sound}
use Rattle.wl_syntax.proofs.Viable.{run_dead, viable}
use Rattle.wl_syntax.proofs.Flat.{on_has, on_semi, no_open}

abbrev pub read : List Token → State
read ks = run (wants []) ks

-- the levels behind a list
unfoldable pub past_from : Past → List Token → Past
past_from p [] = p
past_from p (k ∷ ks) = past_from (past_after p k) ks

abbrev pub past : List Token → Past
past ks = past_from no_past ks

past_from-push : (p : Past) (ks : List Token) (k : Token) → past_from p (ks ++ k ∷ []) ≡ past_after (past_from p ks) k
unfolding past_from
past_from-push p [] k = refl
past_from-push p (j ∷ ks) k = past_from-push (past_after p j) ks k

met_from-past : (p : Past) (ks : List Token) → met_from p.tag p.dot p.outer ks ≡ met_behind (past_from p ks)
unfolding met_from past_from
met_from-past p [] = refl
met_from-past p (k ∷ ks) = met_from-past (past_after p k) ks

pub met-past : (ks : List Token) → met ks ≡ met_behind (past ks)
met-past ks = met_from-past no_past ks

-- one more token
abbrev pub tokens_of : List CodeToken → List Token
tokens_of ts = map token_of ts

take_next : (ts : List CodeToken) (i : ℕ) (d : CodeToken) → i < length ts → take (i + 1) (tokens_of ts) ≡ take i (tokens_of ts) ++ token_of (get_or ts i d) ∷ []
take_next ts i d h = take-map token_of (i + 1) ts ∙ map_more token_of ts i d h ∙ ap (λ l. l ++ token_of (get_or ts i d) ∷ []) (sym (take-map token_of i ts))

pub run_next : (ts : List CodeToken) (i : ℕ) (d : CodeToken) → i < length ts → read (take (i + 1) (tokens_of ts)) ≡ step (read (take i (tokens_of ts))) (token_of (get_or ts i d))
unfolding run
run_next ts i d h = ap read (take_next ts i d h) ∙ run-append (wants []) (take i (tokens_of ts)) (token_of (get_or ts i d) ∷ [])

pub past_next : (ts : List CodeToken) (i : ℕ) (d : CodeToken) → i < length ts → past (take (i + 1) (tokens_of ts)) ≡ past_after (past (take i (tokens_of ts))) (token_of (get_or ts i d))
past_next ts i d h = ap past (take_next ts i d h) ∙ past_from-push no_past (take i (tokens_of ts)) (token_of (get_or ts i d))

-- what is known behind the first n tokens
abbrev pub FirstUnmet : List Token → ℕ → Option ℕ → Type 0
FirstUnmet ks n None = (j : ℕ) → j ≤ n → met (take j ks) ≡ true
FirstUnmet ks n (Some b) = (b < n) × (met (take (b + 1) ks) ≡ false) × ((j : ℕ) → j ≤ b → met (take j ks) ≡ true)

le_next : (j n : ℕ) → j ≤ n + 1 → (j ≤ n) ⊎ (j ≡ n + 1)
le_next j n h = grind arith

pub unmet_next : (ks : List Token) (n : ℕ) (u : Option ℕ) (b : Bool) → FirstUnmet ks n u → b ≡ met (take (n + 1) ks) → FirstUnmet ks (n + 1) (first_unmet u b n)
unmet_next ks n (Some k) b h e = (omega arith, h.1, h.2)
unmet_next ks n None true h e = λ j l. ⊎_elim (λ m. h j m) (λ m. ap (λ i. met (take i ks)) m ∙ sym e) (le_next j n l)
unmet_next ks n None false h e = (omega arith, sym e, h)

pub unmet_begin : (ks : List Token) → FirstUnmet ks 0 None
unfolding met_from
unmet_begin ks j l = let e : j ≡ 0 = omega arith in rw e refl

-- where the machine is alive
alive_of : (b : Standing) (ns : List Node) (p : List Entry) → b ≢ Dead → (st : State) → Stand b ns p st → IsAlive st
unfolding IsAlive
alive_of b ns p n (wants s) h = tt
alive_of b ns p n (has s x) h = tt
alive_of b ns p n (semi s x) h = tt
alive_of b ns p n (shuts s x) h = tt
alive_of b ns p n dead h = n h

dead_of : (b : Standing) (ns : List Node) (p : List Entry) → b ≡ Dead → (st : State) → Stand b ns p st → st ≡ dead
dead_of b ns p e (wants s) h = let g = h.0 in absurd (cc)
dead_of b ns p e (has s x) h = let g = h.0 in absurd (cc)
dead_of b ns p e (semi s x) h = let g = h.0 in absurd (cc)
dead_of b ns p e (shuts s x) h = let g = h.0 in absurd (cc)
dead_of b ns p e dead h = refl

not_alive : (st : State) → st ≡ dead → IsAlive st → ⊥
unfolding IsAlive
not_alive st e a = subst IsAlive e a

-- a list whose beginning kills the machine
run_from_dead : (ks : List Token) (j : ℕ) → read (take j ks) ≡ dead → read ks ≡ dead
run_from_dead ks j e = ap read (sym (take-append-drop j ks)) ∙ run-append (wants []) (take j ks) (drop j ks) ∙ ap (λ st. run st (drop j ks)) e ∙ run_dead (drop j ks)

dead_or : (st : State) → (st ≡ dead) ⊎ IsAlive st
unfolding IsAlive
dead_or (wants s) = inr tt
dead_or (has s x) = inr tt
dead_or (semi s x) = inr tt
dead_or (shuts s x) = inr tt
dead_or dead = inl refl

alive_part : (ks : List Token) (j : ℕ) → IsAlive (read ks) → IsAlive (read (take j ks))
alive_part ks j a = ⊎_elim (λ e. absurd (not_alive (read ks) (run_from_dead ks j e) a)) (λ b. b) (dead_or (read (take j ks)))

alive_below : (ks : List Token) (n j : ℕ) → j ≤ n → IsAlive (read (take n ks)) → IsAlive (read (take j ks))
alive_below ks n j l a = subst (λ l. IsAlive (read l)) (take-take j n ks l) (alive_part (take n ks) j a)

-- no tree where the machine doesn't finish
no_tree : (ks : List Token) → finish (read ks) ≡ None → HasNoTree ks
unfolding parse
no_tree ks e t r = let c = complete t r.0 in let d = ap parse r.1 in cc

dead_ends : (ks : List Token) → read ks ≡ dead → finish (read ks) ≡ None
unfolding finish
dead_ends ks e = rw e refl

-- a list that isn't met
unmet_not : (ks : List Token) → met ks ≡ false → Viable ks → ⊥
unmet_not ks e v = let h = ((viable ks).0 v).1 in cc

dead_not : (ks : List Token) → read ks ≡ dead → Viable ks → ⊥
dead_not ks e v = not_alive (read ks) e ((viable ks).0 v).0

met_viable : (ks : List Token) (n j : ℕ) → j ≤ n → IsAlive (read (take n ks)) → met (take j ks) ≡ true → Viable (take j ks)
met_viable ks n j l a m = (viable (take j ks)).1 (alive_below ks n j l a, m)

-- The machine died at the token of place n.
pub dead_unexpected : (ks : List Token) (n : ℕ) (u : Option ℕ) (k : ℕ) (b d : Standing) (ns ms : List Node) (p q : List Entry) → n < length ks → b ≢ Dead → Stand b ns p (read (take n ks)) → FirstUnmet ks n u → d ≡ Dead → Stand d ms q (read (take (n + 1) ks))
    → ((u ≡ None) × (k ≡ n)) ⊎ (u ≡ Some k) → IsUnexpected ks k
dead_unexpected ks n u k b d ns ms p q l a h f e g (inl i) =
    let z = dead_of d ms q e (read (take (n + 1) ks)) g in
    let w = run_from_dead ks (n + 1) z in
    let m = subst (FirstUnmet ks n) i.0 f in
    let v = alive_of b ns p a (read (take n ks)) h in
    subst (IsUnexpected ks) (sym i.1) (record { within = l; no_tree = no_tree ks (dead_ends ks w); not_viable = dead_not ks w; ends_it = dead_not (take (n + 1) ks) z; before = λ j o. met_viable ks n j o v (m j o) })
dead_unexpected ks n u k b d ns ms p q l a h f e g (inr i) =
    let z = dead_of d ms q e (read (take (n + 1) ks)) g in
    let w = run_from_dead ks (n + 1) z in
    let m = subst (FirstUnmet ks n) i f in
    let c = m.0 in
    let v = alive_of b ns p a (read (take n ks)) h in
    record { within = omega arith; no_tree = no_tree ks (dead_ends ks w); not_viable = dead_not ks w; ends_it = unmet_not (take (k + 1) ks) m.1; before = λ j o. met_viable ks n j (omega arith) v (m.2 j o) }

-- The list ended without a tree.
pub ended_unclosed : (ks : List Token) (b : Standing) (ns : List Node) (p : List Entry) → b ≢ Dead → Stand b ns p (read ks) → finish (read ks) ≡ None → met ks ≡ true → IsUnclosed ks
ended_unclosed ks b ns p a h e m = (no_tree ks e, (viable ks).1 (alive_of b ns p a (read ks) h, m))

pub ended_unexpected : (ks : List Token) (k : ℕ) (b : Standing) (ns : List Node) (p : List Entry) → b ≢ Dead → Stand b ns p (read (take (length ks) ks)) → finish (read ks) ≡ None → met ks ≡ false → FirstUnmet ks (length ks) (Some k) → IsUnexpected ks k
ended_unexpected ks k b ns p a h e m f =
    let c = f.0 in
    let v = alive_of b ns p a (read (take (length ks) ks)) h in
    record { within = c; no_tree = no_tree ks e; not_viable = unmet_not ks m; ends_it = unmet_not (take (k + 1) ks) f.1; before = λ j o. met_viable ks (length ks) j (omega arith) v (f.2 j o) }

-- The list ended with one.
pub ended_tree : (ks : List Token) (t : Tree) → finish (read ks) ≡ Some t → IsTreeOf ks t
unfolding parse
ended_tree ks t e = sound ks t e

pub whole : (ks : List Token) (j : ℕ) → j ≤ length ks → length ks ≤ j → take j ks ≡ ks
whole ks j g h = let e : j ≡ length ks = omega arith in rw e (take-length ks)

-- The machine at the end of the text.
finish_is : (b : Standing) (ns : List Node) (p : List Entry) → b ≡ Has → (st : State) → Stand b ns p st → finish st ≡ finished (closed 31 st)
unfolding finish closed
finish_is b ns p e = on_has (λ st. finish st ≡ finished (closed 31 st)) b ns p e (λ s x n h. refl)

stuck_finished : (d : Standing) (r : List Node) (q : List Entry) → d ≢ Has → (st : State) → Stand d r q st → finished st ≡ None
unfolding finished
stuck_finished d r q n (has s x) h = absurd (n h.0)
stuck_finished d r q n (wants s) h = refl
stuck_finished d r q n (semi s x) h = refl
stuck_finished d r q n (shuts s x) h = refl
stuck_finished d r q n dead h = refl

whole_finished : (d : Standing) (r : List Node) (q : List Entry) → d ≡ Has → q ≡ [] → (st : State) → Stand d r q st → (t : Tree) × (finished st ≡ Some t) × (r ≡ polish t)
unfolding finished out_of
whole_finished d r q e i = on_has (λ st. (t : Tree) × (finished st ≡ Some t) × (r ≡ polish t)) d r q e go
  where
    go : (s : List Open) (x : Tree) → r ≡ out_of s ++ polish x → q ≡ entries s → (t : Tree) × (finished (has s x) ≡ Some t) × (r ≡ polish t)
    go [] x n h = (x, refl, n)
    go (o ∷ s) x n h = absurd (no_open q i o s h)

more_not : (q w : List Entry) (e : Entry) → q ≡ w ++ e ∷ [] → q ≡ [] → ⊥
more_not q [] e h i = let j : [] ≡ e ∷ [] = sym i ∙ h in cc
more_not q (d ∷ w) e h i = let j : [] ≡ d ∷ (w ++ e ∷ []) = sym i ∙ h in cc

open_finished : (d : Standing) (r : List Node) (q w : List Entry) (e : Entry) → d ≡ Has → q ≡ w ++ e ∷ [] → (st : State) → Stand d r q st → finished st ≡ None
unfolding finished entries
open_finished d r q w e a i = on_has (λ st. finished st ≡ None) d r q a go
  where
    go : (s : List Open) (x : Tree) → r ≡ out_of s ++ polish x → q ≡ entries s → finished (has s x) ≡ None
    go [] x n h = absurd (more_not q w e i h)
    go (o ∷ s) x n h = refl

pub finish_stuck : (b d : Standing) (ns r : List Node) (p q : List Entry) → b ≡ Has → d ≢ Has → (st : State) → Stand b ns p st → Stand d r q (closed 31 st) → finish st ≡ None
finish_stuck b d ns r p q e n st h k = finish_is b ns p e st h ∙ stuck_finished d r q n (closed 31 st) k

pub finish_open : (b d : Standing) (ns r : List Node) (p q w : List Entry) (c : Entry) → b ≡ Has → d ≡ Has → q ≡ w ++ c ∷ [] → (st : State) → Stand b ns p st → Stand d r q (closed 31 st) → finish st ≡ None
finish_open b d ns r p q w c e i j st h k = finish_is b ns p e st h ∙ open_finished d r q w c i j (closed 31 st) k

pub finish_whole : (b d : Standing) (ns r r2 : List Node) (p q : List Entry) → b ≡ Has → d ≡ Has → q ≡ [] → r2 ≡ r → (st : State) → Stand b ns p st → Stand d r q (closed 31 st) → (t : Tree) × (finish st ≡ Some t) × (r2 ≡ polish t)
finish_whole b d ns r r2 p q e i j o st h k =
    let (t, f, g) = whole_finished d r q i j (closed 31 st) k in
    (t, finish_is b ns p e st h ∙ f, o ∙ g)

-- a `;` at the end is postfix
pub semi_finishes : (m l n : Machine) (d : Bool) → m.standing ≡ Semi → l.standing ≡ Has → nodes l.out.items ≡ nodes m.out.items ++ last_node ∷ [] → l.pending.items ≡ m.pending.items → Finishes l n d → Finishes m n d
unfolding finish polish
semi_finishes m l n true a b e i f = on_semi (λ st. (t : Tree) × (finish st ≡ Some t) × (nodes n.out.items ≡ polish t)) m.standing (nodes m.out.items) m.pending.items a
    (λ s x k h. f (has s (last x)) (b, e ∙ ap (λ ns. ns ++ last_node ∷ []) k ∙ append_assoc (out_of s) (polish x) (last_node ∷ []), i ∙ h))
semi_finishes m l n false a b e i f = on_semi (λ st. finish st ≡ None) m.standing (nodes m.out.items) m.pending.items a
    (λ s x k h. f (has s (last x)) (b, e ∙ ap (λ ns. ns ++ last_node ∷ []) k ∙ append_assoc (out_of s) (polish x) (last_node ∷ []), i ∙ h))

pub finish_other : (b : Standing) (ns : List Node) (p : List Entry) → b ≢ Has → b ≢ Semi → (st : State) → Stand b ns p st → finish st ≡ None
unfolding finish
finish_other b ns p n m (has s x) h = absurd (n h.0)
finish_other b ns p n m (semi s x) h = absurd (m h.0)
finish_other b ns p n m (wants s) h = refl
finish_other b ns p n m (shuts s x) h = refl
finish_other b ns p n m dead h = refl

-- what the parser keeps behind the first n tokens
pub record Running (m : Machine) (t : Tags) (u : Option ℕ) (ks : List Token) (n : ℕ) : Type 0 where
  pub holds : Holds m (read (take n ks))
  pub alive : m.standing ≢ Dead
  pub levels : TagsHold t (past (take n ks))
  pub first : FirstUnmet ks n u

wants_alive : (b : Standing) (ns : List Node) (p : List Entry) → b ≡ Wants → b ≢ Dead
wants_alive b ns p e i = cc

pub running_begin : (m : Machine) (t : Tags) (ts : List CodeToken) → Holds m (wants []) → TagsHold t no_past → Running m t None (tokens_of ts) 0
unfolding run past_from
running_begin m t ts h g = record { holds = h; alive = wants_alive m.standing (nodes m.out.items) m.pending.items h.0; levels = g; first = unmet_begin (tokens_of ts) }

unwrapped : (u : Option ℕ) (n k : ℕ) → k ≡ unwrap_or u n → ((u ≡ None) × (k ≡ n)) ⊎ (u ≡ Some k)
unwrapped None n k e = inl (refl, e)
unwrapped (Some b) n k e = inr (ap (λ x. Some x) (sym e))

length_of : (ts : List CodeToken) → length (tokens_of ts) ≡ length ts
length_of ts = length-map ts token_of

pub running_dead : (m n : Machine) (t : Tags) (u : Option ℕ) (ts : List CodeToken) (i : ℕ) (d : CodeToken) (k : ℕ) → Running m t u (tokens_of ts) i → i < length ts → Moves m n (λ st. step st (token_of (get_or ts i d))) → n.standing ≡ Dead → k ≡ unwrap_or u i → IsUnexpected (tokens_of ts) k
running_dead m n t u ts i d k r l f e j =
    let h : Holds n (read (take (i + 1) (tokens_of ts))) = subst (Holds n) (sym (run_next ts i d l)) (f (read (take i (tokens_of ts))) r.holds) in
    let g : i < length (tokens_of ts) = rw (length_of ts) l in
    dead_unexpected (tokens_of ts) i u k m.standing n.standing (nodes m.out.items) (nodes n.out.items) m.pending.items n.pending.items g r.alive r.holds r.first e h (unwrapped u i k j)

pub running_next : (m n : Machine) (t s : Tags) (u : Option ℕ) (ts : List CodeToken) (i : ℕ) (d : CodeToken) (b : Bool) → Running m t u (tokens_of ts) i → i < length ts → Moves m n (λ st. step st (token_of (get_or ts i d))) → n.standing ≢ Dead
    → ((p : Past) → TagsHold t p → TagsHold s (past_after p (token_of (get_or ts i d)))) → ((p : Past) → TagsHold s p → b ≡ met_behind p) → Running n s (first_unmet u b i) (tokens_of ts) (i + 1)
running_next m n t s u ts i d b r l f e g c =
    let h : TagsHold s (past (take (i + 1) (tokens_of ts))) = subst (TagsHold s) (sym (past_next ts i d l)) (g (past (take i (tokens_of ts))) r.levels) in
    record {
      holds = subst (Holds n) (sym (run_next ts i d l)) (f (read (take i (tokens_of ts))) r.holds);
      alive = e;
      levels = h;
      first = unmet_next (tokens_of ts) i u b r.first (c (past (take (i + 1) (tokens_of ts))) h ∙ sym (met-past (take (i + 1) (tokens_of ts))));
    }

-- all tokens are read
pub record Read (m : Machine) (t : Tags) (u : Option ℕ) (ks : List Token) : Type 0 where
  pub holds : Holds m (read ks)
  pub alive : m.standing ≢ Dead
  pub levels : TagsHold t (past ks)
  pub first : FirstUnmet ks (length ks) u
  pub held : Holds m (read (take (length ks) ks))

pub running_read : (m : Machine) (t : Tags) (u : Option ℕ) (ts : List CodeToken) (i : ℕ) → Running m t u (tokens_of ts) i → i ≤ length ts → length ts ≤ i → Read m t u (tokens_of ts)
running_read m t u ts i r g l =
    let e : i ≡ length (tokens_of ts) = rw (length_of ts) (omega arith) in
    let w : take i (tokens_of ts) ≡ tokens_of ts = ap (λ j. take j (tokens_of ts)) e ∙ take-length (tokens_of ts) in
    record {
      holds = subst (λ l. Holds m (read l)) w r.holds;
      alive = r.alive;
      levels = subst (λ l. TagsHold t (past l)) w r.levels;
      first = subst (λ j. FirstUnmet (tokens_of ts) j u) e r.first;
      held = subst (λ j. Holds m (read (take j (tokens_of ts)))) e r.holds;
    }

pub read_finished : (m n : Machine) (t : Tags) (u : Option ℕ) (ks : List Token) (d : Bool) → Read m t u ks → Finishes m n d → d ≡ true → (x : Tree) × IsTreeOf ks x × (nodes n.out.items ≡ polish x)
read_finished m n t u ks true r f e = let (x, g, h) = f (read ks) r.holds in (x, ended_tree ks x g, h)
read_finished m n t u ks false r f e = absurd (cc)

unfinished : (m n : Machine) (ks : List Token) (d : Bool) → Holds m (read ks) → Finishes m n d → d ≡ false → finish (read ks) ≡ None
unfinished m n ks false h f e = f (read ks) h
unfinished m n ks true h f e = absurd (cc)

pub read_unclosed : (m n : Machine) (t : Tags) (u : Option ℕ) (ks : List Token) (d b : Bool) → Read m t u ks → Finishes m n d → d ≡ false → ((p : Past) → TagsHold t p → b ≡ met_behind p) → b ≡ true → IsUnclosed ks
read_unclosed m n t u ks d b r f e c i = ended_unclosed ks m.standing (nodes m.out.items) m.pending.items r.alive r.holds (unfinished m n ks d r.holds f e) (met-past ks ∙ sym (c (past ks) r.levels) ∙ i)

pub read_never : (m n : Machine) (t : Tags) (ks : List Token) (d : Bool) → Read m t None ks → Finishes m n d → d ≡ false → IsUnclosed ks
read_never m n t ks d r f e = ended_unclosed ks m.standing (nodes m.out.items) m.pending.items r.alive r.holds (unfinished m n ks d r.holds f e) (ap met (sym (take-length ks)) ∙ r.first (length ks) (omega arith))

pub read_unexpected : (m n : Machine) (t : Tags) (k : ℕ) (ks : List Token) (d b : Bool) → Read m t (Some k) ks → Finishes m n d → d ≡ false → ((p : Past) → TagsHold t p → b ≡ met_behind p) → b ≡ false → IsUnexpected ks k
read_unexpected m n t k ks d b r f e c i = ended_unexpected ks k m.standing (nodes m.out.items) m.pending.items r.alive r.held (unfinished m n ks d r.holds f e) (met-past ks ∙ sym (c (past ks) r.levels) ∙ i) r.first
