-- A list is viable exactly where the machine is alive behind it and each level is met.
use Rattle.std.proofs.Common.{Bool, true, false, ◌≡◌, List, [], ◌∷◌, ◌++◌, Some, None, cond, refl, sym, ap, ◌∙◌, subst, ap₂, ◌&&◌, ◌≢◌}
use Rattle.wl_syntax.specs.declared.operator.Infix.TheVariants.{Set, SetDelayed, Tag}
use Rattle.wl_syntax.specs.declared.operator.Sign.TheVariants as sign
use Rattle.wl_syntax.specs.Token.{Atom, number, name, pattern, slot, output, text, Token}
use Rattle.wl_syntax.specs.Token as token
use Rattle.wl_syntax.specs.Table.{role}
use Rattle.wl_syntax.specs.Tree.{Tree, leaf, before, last, between, reads, is_definition, Right}
use Rattle.wl_syntax.specs.Machine.{Open, open_infix, open_prefix, open_round, open_brace, open_call, open_part, State, wants, has, semi, shuts, dead, fits_right, close, close_round, close_brace, close_square, names_wanted, start_any, start_name, start, go_on, ends_element, step, run, finished, finish, parse, IsAlive}
use Rattle.std.proofs.Common.{◌⊎◌, inl, inr, ⊎_elim, ◌↔◌}
use Rattle.wl_syntax.proofs.Reading.{infix_takes, prefix_takes, complete, run-append}
use Rattle.wl_syntax.proofs.Sound.{sound}
use Rattle.wl_syntax.specs.declared.tags.Tagging.{Tagging}
use Rattle.wl_syntax.specs.declared.tags.Tagging.TheVariants.{Untagged, Tagged, Dotted}
use Rattle.wl_syntax.specs.Ending.{Closer, round, square, curly, closer, Level, level, any_name, definition, closing, Mode, wanted, behind, parted, role_mode, sign_mode, mode_after, sign_tag, tag_after, levels_after, operand, ending_from, ending, Viable}
use Rattle.wl_syntax.specs.Tags.{is_dot, is_met, all_met, met_from, met}
use Rattle.wl_syntax.proofs.Endings.{any_name_atom, Place, place, needs, shutting, has_tag, levels, GoodTags, Ends, both, operand_ends, dotted_ends}
use Rattle.wl_syntax.proofs.Shapes.{is_tagged, places, Dot, Shaped, step_shaped}

name_read : (s : List Open) → start s any_name ≡ has s (leaf any_name_atom)
unfolding start start_name start_any
name_read s = go (names_wanted s)
  where
    go : (b : Bool) → cond b (has s (leaf any_name_atom)) (has s (leaf any_name_atom)) ≡ has s (leaf any_name_atom)
    go true = refl
    go false = refl

semi_alike : (s : List Open) (x : Tree) (ps : List Place) → finish (run (semi s x) (shutting ps)) ≡ finish (run (has s (last x)) (shutting ps))
unfolding finish run step shutting ends_element
semi_alike s x [] = refl
semi_alike s x (place round l ∷ ps) = refl
semi_alike s x (place square l ∷ ps) = refl
semi_alike s x (place curly l ∷ ps) = refl

wants_ends : (s : List Open) → GoodTags s → Ends (wants s) (any_name ∷ (needs (has_tag s) ++ shutting (levels s)))
unfolding run step
wants_ends s g = let h = operand_ends s (leaf any_name_atom) g in (h.0, ap (λ st. finish (run st (needs (has_tag s) ++ shutting (levels s)))) (name_read s) ∙ h.1)

semi_ends : (s : List Open) (x : Tree) → GoodTags s → has_tag s ≡ false → Ends (semi s x) (shutting (levels s))
semi_ends s x g t = let h = (both s g).0 (last x) (inl t) in (h.0, semi_alike s x (levels s) ∙ h.1)

shuts_ends : (s : List Open) (t : Tree) → GoodTags s → Ends (shuts s t) (shutting (place square (has_tag s) ∷ levels s))
unfolding run step shutting
shuts_ends s t g = operand_ends s t g

-- where each level is met, the ending is what the stack needs
needs_met : (g : Tagging) → is_met false g ≡ true → definition g ≡ needs (is_tagged g)
needs_met Untagged e = refl
needs_met Tagged e = refl
needs_met Dotted e = absurd (cc)

both_true : (b c : Bool) → (b && c) ≡ true → (b ≡ true) × (c ≡ true)
both_true true c h = (refl, h)
both_true false c h = absurd (cc)

closing_met : (ls : List Level) → all_met ls ≡ true → closing ls ≡ shutting (places ls)
unfolding closing shutting
closing_met [] e = refl
closing_met (level b g ∷ ls) e =
    let h = both_true (is_met false g) (all_met ls) e in
    ap₂ (λ ns cs. closer b ∷ (ns ++ cs)) (needs_met g h.0) (closing_met ls h.1)

has_ends : (g : Tagging) (d : Bool) (s : List Open) (x : Tree) → GoodTags s → has_tag s ≡ is_tagged g → Dot d s x → is_met d g ≡ true → Ends (has s x) (definition g ++ shutting (levels s))
has_ends Untagged d s x k t h e = rw t at (operand_ends s x k)
has_ends Tagged d s x k t h e = rw t at (operand_ends s x k)
has_ends Dotted d s x k t h e = let (y, i, w) = h.0 e in subst (λ z. Ends (has s z) (shutting (levels s))) (sym i) (dotted_ends s y k w)

state_ends : (m : Mode) (g : Tagging) (d : Bool) (ls : List Level) (st : State) → Shaped m g d ls st → IsAlive st → is_met d g ≡ true → all_met ls ≡ true → Ends st (operand m ++ (definition g ++ closing ls))
unfolding operand IsAlive
state_ends m g d ls (wants s) h a i e = rw (h.0, needs_met g (subst (λ b. is_met b g ≡ true) h.4 i), closing_met ls e, ← h.1, ← h.2) (wants_ends s h.3)
state_ends m g d ls (has s x) h a i e = rw (h.0, closing_met ls e, ← h.2) (has_ends g d s x h.3 h.1 h.4 i)
state_ends m g d ls (semi s x) h a i e = rw (h.0, h.1, closing_met ls e, ← h.2) (semi_ends s x h.3 h.5)
state_ends m g d ls (shuts s t) h a i e = rw (h.0, h.1, closing_met ls e, ← h.2) (shuts_ends s t h.3)
state_ends m g d ls dead h a i e = absurd a

ends_from : (ks : List Token) (m : Mode) (g : Tagging) (d : Bool) (ls : List Level) (st : State) → Shaped m g d ls st → IsAlive (run st ks) → met_from g d ls ks ≡ true → Ends (run st ks) (ending_from m g ls ks)
unfolding run ending_from met_from
ends_from [] m g d ls st h a e = let f = both_true (is_met d g) (all_met ls) e in state_ends m g d ls st h a f.0 f.1
ends_from (k ∷ ks) m g d ls st h a e = ends_from ks (mode_after m k) (tag_after g ls k) (is_dot k) (levels_after g ls k) (step st k) (step_shaped k m g d ls st h) a e

pub run_dead : (ks : List Token) → run dead ks ≡ dead
unfolding run step
run_dead [] = refl
run_dead (k ∷ ks) = run_dead ks

-- A list that leaves a level unmet is not viable: the `/:` of that level gets no definition.
abbrev Fails : State → List Token → Type 0
Fails st ks = finish (run st ks) ≡ None

dead_fails : (ks : List Token) → Fails dead ks
unfolding finish
dead_fails ks = rw (run_dead ks) refl

tag_closes : (s : List Open) (x : Tree) → has_tag s ≡ true → is_definition x ≡ false → close 31 s x ≡ dead
unfolding close has_tag fits_right is_definition
tag_closes [] x t n = absurd (cc)
tag_closes (open_infix l Tag ∷ s) x t n = rw (infix_takes Tag, n) refl
tag_closes (open_infix l Set ∷ s) x t n = absurd (cc)
tag_closes (open_infix l SetDelayed ∷ s) x t n = absurd (cc)
tag_closes (open_infix l o ∷ s) x t n = rw (infix_takes o) (tag_closes s (between l o x) t refl)
tag_closes (open_prefix o ∷ s) x t n = rw (prefix_takes o) (tag_closes s (before o x) t refl)
tag_closes (open_round ∷ s) x t n = absurd (cc)
tag_closes (open_brace xs ∷ s) x t n = absurd (cc)
tag_closes (open_call f xs ∷ s) x t n = absurd (cc)
tag_closes (open_part f xs ∷ s) x t n = absurd (cc)

-- a level that is not met ends nowhere
tag_fails : (s : List Open) (x : Tree) (ls : List Level) → has_tag s ≡ true → is_definition x ≡ false → Fails (has s x) (closing ls)
unfolding finish run step go_on closing close_round close_square close_brace finished
tag_fails s x [] t n = ap finished (tag_closes s x t n)
tag_fails s x (level round g ∷ ls) t n = ap (λ st. finish (run (close_round st) (definition g ++ closing ls))) (tag_closes s x t n) ∙ dead_fails (definition g ++ closing ls)
tag_fails s x (level square g ∷ ls) t n = ap (λ st. finish (run (close_square st) (definition g ++ closing ls))) (tag_closes s x t n) ∙ dead_fails (definition g ++ closing ls)
tag_fails s x (level curly g ∷ ls) t n = ap (λ st. finish (run (close_brace st) (definition g ++ closing ls))) (tag_closes s x t n) ∙ dead_fails (definition g ++ closing ls)

dotted_fails : (m : Mode) (ls : List Level) (st : State) → Shaped m Dotted false ls st → m ≢ wanted → Fails st (closing ls)
dotted_fails m ls (wants s) h n = absurd (n h.0)
dotted_fails m ls (has s x) h n = tag_fails s x ls h.1 (h.4.1 refl)
dotted_fails m ls (semi s x) h n = let e = h.1 in absurd (cc)
dotted_fails m ls (shuts s x) h n = let e = h.1 in absurd (cc)
dotted_fails m ls dead h n = dead_fails (closing ls)

-- the state behind a level's definition and its closing sign
closer_shaped : (b : Closer) (m : Mode) (g k : Tagging) (d : Bool) (ls : List Level) (st : State) → Shaped m g d (level b k ∷ ls) st → Shaped behind k false ls (step st (closer b))
unfolding mode_after tag_after levels_after is_dot
closer_shaped round m g k d ls st h = step_shaped token.close_round m g d (level round k ∷ ls) st h
closer_shaped square m g k d ls st h = step_shaped token.close_square m g d (level square k ∷ ls) st h
closer_shaped curly m g k d ls st h = step_shaped token.close_brace m g d (level curly k ∷ ls) st h

equals_shaped : (m : Mode) (g : Tagging) (d : Bool) (ls : List Level) (st : State) → m ≢ wanted → Shaped m g d ls st → Shaped wanted Untagged false ls (step st (token.sign sign.Equals))
unfolding mode_after tag_after levels_after is_dot sign_mode sign_tag role role_mode
equals_shaped wanted g d ls st n h = absurd (n refl)
equals_shaped behind g d ls st n h = step_shaped (token.sign sign.Equals) behind g d ls st h
equals_shaped parted g d ls st n h = step_shaped (token.sign sign.Equals) parted g d ls st h

defined_shaped : (m : Mode) (g : Tagging) (d : Bool) (ls : List Level) (st : State) → m ≢ wanted → Shaped m g d ls st → Shaped behind Untagged false ls (run st (definition Tagged))
unfolding run mode_after tag_after levels_after is_dot
defined_shaped m g d ls st n h = step_shaped any_name wanted Untagged false ls (step st (token.sign sign.Equals)) (equals_shaped m g d ls st n h)

not_wanted : behind ≢ wanted
not_wanted e = cc

abbrev Unmet : Bool → Tagging → List Level → Type 0
Unmet d g ls = (is_met d g ≡ false) ⊎ (all_met ls ≡ false)

split : (b c : Bool) → (b && c) ≡ false → (b ≡ false) ⊎ (c ≡ false)
split true c h = inr h
split false c h = inl refl

unmet_is : (d : Bool) (g : Tagging) → is_met d g ≡ false → (d ≡ false) × (g ≡ Dotted)
unmet_is d Untagged e = absurd (cc)
unmet_is d Tagged e = absurd (cc)
unmet_is d Dotted e = (e, refl)

unmet_fails : (m : Mode) (g : Tagging) (d : Bool) (ls : List Level) (st : State) → Shaped m g d ls st → m ≢ wanted → d ≡ false → g ≡ Dotted → Fails st (definition g ++ closing ls)
unmet_fails m Dotted false ls st h n e i = dotted_fails m ls st h n
unmet_fails m Dotted true ls st h n e i = absurd (cc)
unmet_fails m Untagged d ls st h n e i = absurd (cc)
unmet_fails m Tagged d ls st h n e i = absurd (cc)

-- behind the definition that a level lacks the same brackets are open
behind_definition : (m : Mode) (g : Tagging) (d : Bool) (ls : List Level) (st : State) → m ≢ wanted → Shaped m g d ls st → (p : Mode) × (k : Tagging) × (c : Bool) × Shaped p k c ls (run st (definition g))
unfolding run
behind_definition m Tagged d ls st n h = (behind, Untagged, false, defined_shaped m Tagged d ls st n h)
behind_definition m Untagged d ls st n h = (m, Untagged, d, h)
behind_definition m Dotted d ls st n h = (m, Dotted, d, h)

-- behind an operand
closing_fails : (ls : List Level) (m : Mode) (g : Tagging) (d : Bool) (st : State) → m ≢ wanted → Shaped m g d ls st → Unmet d g ls → Fails st (definition g ++ closing ls)
unfolding closing run
closing_fails ls m g d st n h (inl e) = let i = unmet_is d g e in unmet_fails m g d ls st h n i.0 i.1
closing_fails [] m g d st n h (inr e) = absurd (cc)
closing_fails (level b k ∷ ls) m g d st n h (inr e) =
    let (p, j, c, a) = behind_definition m g d (level b k ∷ ls) st n h in
    ap finish (run-append st (definition g) (closing (level b k ∷ ls)))
    ∙ closing_fails ls behind k false (step (run st (definition g)) (closer b)) not_wanted (closer_shaped b p j k c ls (run st (definition g)) a) (split (is_met false k) (all_met ls) e)

operand_shaped : (g : Tagging) (d : Bool) (ls : List Level) (st : State) → Shaped wanted g d ls st → Shaped behind g false ls (step st any_name)
unfolding mode_after tag_after levels_after is_dot
operand_shaped g d ls st h = step_shaped any_name wanted g d ls st h

-- where an operand is wanted the last token is no `=.`
undotted : (g : Tagging) (d : Bool) (ls : List Level) (st : State) → Shaped wanted g d ls st → (st ≡ dead) ⊎ (d ≡ false)
undotted g d ls (wants s) h = inr h.4
undotted g d ls (has s x) h = let e = h.0 in absurd (cc)
undotted g d ls (semi s x) h = let e = h.0 in absurd (cc)
undotted g d ls (shuts s x) h = let e = h.0 in absurd (cc)
undotted g d ls dead h = inl refl

state_fails : (m : Mode) (g : Tagging) (d : Bool) (ls : List Level) (st : State) → Shaped m g d ls st → Unmet d g ls → Fails st (operand m ++ (definition g ++ closing ls))
unfolding operand run
state_fails behind g d ls st h u = closing_fails ls behind g d st not_wanted h u
state_fails parted g d ls st h u = closing_fails ls parted g d st (λ e. cc) h u
state_fails wanted g d ls st h u =
    ⊎_elim (λ e. subst (λ s. Fails s (any_name ∷ (definition g ++ closing ls))) (sym e) (dead_fails (any_name ∷ (definition g ++ closing ls))))
    (λ e. closing_fails ls behind g false (step st any_name) not_wanted (operand_shaped g d ls st h) (subst (λ b. Unmet b g ls) e u))
    (undotted g d ls st h)

fails_from : (ks : List Token) (m : Mode) (g : Tagging) (d : Bool) (ls : List Level) (st : State) → Shaped m g d ls st → met_from g d ls ks ≡ false → Fails (run st ks) (ending_from m g ls ks)
unfolding run ending_from met_from
fails_from [] m g d ls st h e = state_fails m g d ls st h (split (is_met d g) (all_met ls) e)
fails_from (k ∷ ks) m g d ls st h e = fails_from ks (mode_after m k) (tag_after g ls k) (is_dot k) (levels_after g ls k) (step st k) (step_shaped k m g d ls st h) e

alive_before : (st : State) (ks : List Token) (t : Tree) → finish (run st ks) ≡ Some t → IsAlive st
unfolding IsAlive
alive_before dead ks t e = let f = dead_fails ks in absurd (cc)
alive_before (wants s) ks t e = tt
alive_before (has s x) ks t e = tt
alive_before (semi s x) ks t e = tt
alive_before (shuts s x) ks t e = tt

start_shape : Shaped wanted Untagged false [] (wants [])
unfolding has_tag levels
start_shape = (refl, refl, refl, tt, refl)

met_or : (b : Bool) → (b ≡ false → ⊥) → b ≡ true
met_or true f = refl
met_or false f = absurd (f refl)

ending_parses : (ks : List Token) (t : Tree) → Right t → reads t ≡ ks ++ ending ks → finish (run (run (wants []) ks) (ending ks)) ≡ Some t
unfolding parse
ending_parses ks t r e = ap finish (sym (run-append (wants []) ks (ending ks))) ∙ ap parse (sym e) ∙ complete t r

viable_alive : (ks : List Token) → Viable ks → IsAlive (run (wants []) ks)
viable_alive ks v = alive_before (run (wants []) ks) (ending ks) v.0 (ending_parses ks v.0 v.1 v.2)

viable_met : (ks : List Token) → Viable ks → met ks ≡ true
unfolding ending
viable_met ks v = met_or (met ks) (λ e. let f = ending_parses ks v.0 v.1 v.2 in let n = fails_from ks wanted Untagged false [] (wants []) start_shape e in cc)

alive_viable : (ks : List Token) → IsAlive (run (wants []) ks) → met ks ≡ true → Viable ks
unfolding ending parse
alive_viable ks a m =
    let (t, e) = ends_from ks wanted Untagged false [] (wants []) start_shape a m in
    let (r, q) = sound (ks ++ ending ks) t (ap finish (run-append (wants []) ks (ending ks)) ∙ e) in (t, r, q)

-- A list is viable exactly where the machine is alive behind it and each level is met.
pub viable : (ks : List Token) → Viable ks ↔ (IsAlive (run (wants []) ks) × (met ks ≡ true))
viable ks = (λ v. (viable_alive ks v, viable_met ks v), λ h. alive_viable ks h.0 h.1)
