-- Module numbers and the history.
use Rattle.std.proofs.Common.{◌≡◌, ℕ, ℤ, pos, negsuc, zero, suc, ◌+◌, ◌-◌, min, Bool, true, false, nat_le, List, [], ◌∷◌, length, map, Option, Some, None, IfSome, option_map, slice_get, Ok, refl, sym, ap, ◌∙◌, subst}
use Rattle.std.proofs.lemmas.Option.{slice_get-map}
use Rattle.std.proofs.lemmas.List.{length-map}
use Rattle.std.proofs.lemmas.List.Elements.{All-head, All-tail}
use Rattle.std.specs.List.{All}
use Rattle.wl_expr.specs.Stamped.{Stamped, plain}
use Rattle.wl_semantics.specs.State as spec
use Rattle.wl_semantics.specs.State.{World, State}
use Rattle.wl_semantics.specs.Prog as prog
use Rattle.wl_semantics.specs.Prog.{asking}
use Rattle.wl_semantics.specs.Effects.{acted, last_number, line_at, value_line, input_line}
use Rattle.wl_state.specs.Honest.{HonestOption}
use Rattle.wl_state.specs.Played.{Plays, Sound, HonestLine, plain_line, state}
use Rattle.wl_state.specs.Recall.{nth, from_front, numbered}
use Rattle.wl_state.specs.declared.evaluator.Line.{Line}
use Rattle.wl_state.specs.declared.evaluator.Evaluator.{Evaluator}
use Rattle.wl_state.proofs.Stores.{grows_refl}
use Rattle.wl_state.proofs.Playing.{began_none}
use Rattle.wl_state.proofs.Moves.{plays_asking}

-- with another module number, and nothing noted
unnoted_sound : (k : Evaluator) (n : ℕ) → Sound k → Sound (record k { modules = n; log = None })
unnoted_sound k n h = record {
  distinct = h.distinct;
  drawn = h.drawn;
  honest = h.honest;
  history = h.history;
  recursion = h.recursion;
  iteration = h.iteration;
  recursion_most = h.recursion_most;
  iteration_most = h.iteration_most;
  deepest = h.deepest;
  quiets = h.quiets;
  current = tt;
  began = began_none (record k { modules = n; log = None }) refl;
}

pub plays_drawn : (k : Evaluator) (n : ℕ) → n ≡ min (k.modules + 1) last_number → Plays (asking prog.draw) k (Ok (prog.number n)) (record k { modules = n; log = None }) false
unfolding acted
plays_drawn k n e =
    subst (λ z. Plays (asking prog.draw) k (Ok (prog.number z)) (record k { modules = n; log = None }) false) (sym e)
    (plays_asking prog.draw k (record k { modules = n; log = None }) (ap (λ z. let s : State = record (state k) { world = record (state k).world { module_number = z } } in s) e) refl (grows_refl _) (unnoted_sound k n))

-- ---- lines by their numbers

nth_map : {X Y : Type 0} (f : X → Y) (n : ℕ) (xs : List X) → nth n (map f xs) ≡ option_map f (nth n xs)
nth_map f zero xs = refl
nth_map f (suc n) xs = slice_get-map f xs n

line_nth : (n : ℕ) (ls : List spec.Line) → line_at n ls ≡ nth n ls
line_nth zero ls = refl
line_nth (suc n) ls = refl

end_by : {X : Type 0} → Bool → ℕ → List X → Option X
end_by b n xs = elim b [ true ↦ nth (length xs + 1 - n) xs | false ↦ None ]

line_back_is : (b : Bool) (n : ℕ) (ls : List spec.Line) → (elim b [ true ↦ line_at (length ls + 1 - n) ls | false ↦ None ]) ≡ end_by b n ls
unfolding end_by
line_back_is true n ls = line_nth (length ls + 1 - n) ls
line_back_is false n ls = refl

line_numbered : (n : ℤ) (ls : List spec.Line) → value_line n ls ≡ numbered n ls
unfolding end_by
line_numbered (pos n) ls = line_nth n ls
line_numbered (negsuc n) ls = line_back_is (nat_le (suc n) (length ls)) (suc n) ls

line_front : (n : ℤ) (ls : List spec.Line) → input_line n ls ≡ from_front n ls
line_front (pos n) ls = line_nth n ls
line_front (negsuc n) ls = refl

end_by_map : {X Y : Type 0} (f : X → Y) (b : Bool) (n : ℕ) (xs : List X) → end_by b n (map f xs) ≡ option_map f (end_by b n xs)
unfolding end_by
end_by_map f true n xs = ap (λ z. nth (z + 1 - n) (map f xs)) (length-map xs f) ∙ nth_map f (length xs + 1 - n) xs
end_by_map f false n xs = refl

numbered_map : {X Y : Type 0} (f : X → Y) (n : ℤ) (xs : List X) → numbered n (map f xs) ≡ option_map f (numbered n xs)
unfolding end_by
numbered_map f (pos n) xs = nth_map f n xs
numbered_map f (negsuc n) xs = ap (λ z. end_by (nat_le (suc n) z) (suc n) (map f xs)) (length-map xs f) ∙ end_by_map f (nat_le (suc n) (length xs)) (suc n) xs

front_map : {X Y : Type 0} (f : X → Y) (n : ℤ) (xs : List X) → from_front n (map f xs) ≡ option_map f (from_front n xs)
front_map f (pos n) xs = nth_map f n xs
front_map f (negsuc n) xs = refl

-- ---- what holds of each line holds of one of them

module _ {X : Type 0} (P : X → Type 0) where
  at_place : (xs : List X) (n : ℕ) → All P xs → IfSome (slice_get xs n) P
  at_place [] n h = tt
  at_place (x ∷ xs) zero h = All-head P x xs h
  at_place (x ∷ xs) (suc n) h = at_place xs n (All-tail P x xs h)

  at_nth : (n : ℕ) (xs : List X) → All P xs → IfSome (nth n xs) P
  at_nth zero xs h = tt
  at_nth (suc n) xs h = at_place xs n h

  at_end : (b : Bool) (n : ℕ) (xs : List X) → All P xs → IfSome (end_by b n xs) P
  unfolding end_by
  at_end true n xs h = at_nth (length xs + 1 - n) xs h
  at_end false n xs h = tt

  at_numbered : (n : ℤ) (xs : List X) → All P xs → IfSome (numbered n xs) P
  unfolding end_by
  at_numbered (pos n) xs h = at_nth n xs h
  at_numbered (negsuc n) xs h = at_end (nat_le (suc n) (length xs)) (suc n) xs h

  at_front : (n : ℤ) (xs : List X) → All P xs → IfSome (from_front n xs) P
  at_front (pos n) xs h = at_nth n xs h
  at_front (negsuc n) xs h = tt

-- ---- looks at the history

unnoted : (k : Evaluator) → Sound k → Sound (record k { log = None })
unnoted k h = unnoted_sound k k.modules h

module _ (k : Evaluator) (n : ℤ) (o : Option Line) (v : Option Stamped) where
  pub plays_value : o ≡ numbered n k.history.items → v ≡ option_map (λ (l : Line). l.value) o → Plays (asking (prog.recall_value n)) k (Ok (prog.found (option_map plain v))) (record k { log = None }) false
  unfolding acted
  plays_value e q =
      let w : option_map (λ (l : spec.Line). l.value) (value_line n (map plain_line k.history.items)) ≡ option_map plain v =
      ap (option_map (λ (l : spec.Line). l.value)) (line_numbered n (map plain_line k.history.items) ∙ numbered_map plain_line n k.history.items ∙ ap (option_map plain_line) (sym e)) ∙ seen o ∙ ap (option_map plain) (sym q) in
      subst (λ z. Plays (asking (prog.recall_value n)) k (Ok (prog.found z)) (record k { log = None }) false) w (plays_asking (prog.recall_value n) k (record k { log = None }) refl refl (grows_refl _) (unnoted k))
    where
      seen : (p : Option Line) → option_map (λ (l : spec.Line). l.value) (option_map plain_line p) ≡ option_map plain (option_map (λ (l : Line). l.value) p)
      seen None = refl
      seen (Some l) = refl

  pub value_honest : Sound k → o ≡ numbered n k.history.items → v ≡ option_map (λ (l : Line). l.value) o → HonestOption k.store v
  value_honest h e q = subst (HonestOption k.store) (sym q) (kept o (subst (λ z. IfSome z (HonestLine k.store)) (sym e) (at_numbered (HonestLine k.store) n k.history.items h.history)))
    where
      kept : (p : Option Line) → IfSome p (HonestLine k.store) → HonestOption k.store (option_map (λ (l : Line). l.value) p)
      kept None i = tt
      kept (Some l) i = i.1

  pub plays_input : o ≡ from_front n k.history.items → v ≡ option_map (λ (l : Line). l.input) o → Plays (asking (prog.recall_input n)) k (Ok (prog.found (option_map plain v))) (record k { log = None }) false
  unfolding acted
  plays_input e q =
      let w : option_map (λ (l : spec.Line). l.input) (input_line n (map plain_line k.history.items)) ≡ option_map plain v =
      ap (option_map (λ (l : spec.Line). l.input)) (line_front n (map plain_line k.history.items) ∙ front_map plain_line n k.history.items ∙ ap (option_map plain_line) (sym e)) ∙ seen o ∙ ap (option_map plain) (sym q) in
      subst (λ z. Plays (asking (prog.recall_input n)) k (Ok (prog.found z)) (record k { log = None }) false) w (plays_asking (prog.recall_input n) k (record k { log = None }) refl refl (grows_refl _) (unnoted k))
    where
      seen : (p : Option Line) → option_map (λ (l : spec.Line). l.input) (option_map plain_line p) ≡ option_map plain (option_map (λ (l : Line). l.input) p)
      seen None = refl
      seen (Some l) = refl

  pub input_honest : Sound k → o ≡ from_front n k.history.items → v ≡ option_map (λ (l : Line). l.input) o → HonestOption k.store v
  input_honest h e q = subst (HonestOption k.store) (sym q) (kept o (subst (λ z. IfSome z (HonestLine k.store)) (sym e) (at_front (HonestLine k.store) n k.history.items h.history)))
    where
      kept : (p : Option Line) → IfSome p (HonestLine k.store) → HonestOption k.store (option_map (λ (l : Line). l.input) p)
      kept None i = tt
      kept (Some l) i = i.0
