-- The reading of a right tree drives the machine to that tree.
use Rattle.std.proofs.Common.{ℕ, Bool, true, false, ◌≡◌, List, [], ◌∷◌, ◌++◌, Some, cond, refl, sym, ap, ◌∙◌, arith, ◌&&◌, not, ◌<◌, ◌≤◌}
use Rattle.wl_syntax.specs.declared.operator.Infix.{Infix}
use Rattle.wl_syntax.specs.declared.operator.Infix.TheVariants.{Message, PatternTest, Of, Map, Apply, MapApply, StringJoin, Power, Divide, Times, Beside, Plus, Minus, Equal, Unequal, Less, LessEqual, Greater, GreaterEqual, SameQ, UnsameQ, And, Or, Alternatives, Colon, StringExpression, Condition, Rule, RuleDelayed, ReplaceAll, ReplaceRepeated, AddTo, SubtractFrom, TimesBy, DivideBy, Into, Set, SetDelayed, UpSet, UpSetDelayed, Tag, Semi}
use Rattle.wl_syntax.specs.declared.operator.Prefix.{Prefix}
use Rattle.wl_syntax.specs.declared.operator.Prefix.TheVariants.{Negate}
use Rattle.wl_syntax.specs.declared.operator.Postfix.{Postfix}
use Rattle.wl_syntax.specs.declared.operator.Postfix.TheVariants.{Increment, Decrement, Factorial, Repeated, RepeatedNull, Function, Unset}
use Rattle.wl_syntax.specs.declared.operator.Sign.{Sign}
use Rattle.wl_syntax.specs.declared.operator.Sign.TheVariants as sign
use Rattle.wl_syntax.specs.Token.{Atom, number, name, pattern, slot, output, text, Token}
use Rattle.wl_syntax.specs.Token as token
use Rattle.wl_syntax.specs.Table.{infix_level, prefix_level, postfix_level, takes, leaves, leans_left, leans_right, joins, ends, role, prefix_of, infix_sign, prefix_sign, postfix_sign}
use Rattle.wl_syntax.specs.Tree.{Tree, leaf, paren, brace, call, part, before, after, last, between, Elems, none, more, reads, read_elems, right_edge, left_edge, begins_open, ends_last, Each, TakesLeft, is_name_or_text, is_definition, Asks, Right, RightElems, sign_tokens, comma_after}
use Rattle.wl_syntax.specs.Machine.{Open, open_infix, open_prefix, open_round, open_brace, open_call, open_part, State, wants, has, semi, shuts, dead, fits_left, fits_right, tag_bars, on_tag, close, closed, join, end_with, part_with, open_square, close_round, close_brace, close_square, next_element, empty_square, empty_brace, second_square, prefixed, names_wanted, start_any, start_name, start, started, with_role, go_on, ends_element, step, run, finished, finish, parse}

pub one_way : (p q : ℕ) → leaves p q ≡ true → takes q p ≡ false
unfolding leaves takes leans_left
one_way p q h = grind arith

pub infix_takes : (o : Infix) → takes 31 (infix_level o) ≡ true
unfolding takes infix_level
infix_takes Message = refl
infix_takes _ = refl

pub prefix_takes : (o : Prefix) → takes 31 (prefix_level o) ≡ true
unfolding takes prefix_level
prefix_takes Negate = refl
prefix_takes _ = refl

pub prefix_of_sign : (o : Prefix) → prefix_of (prefix_sign o) ≡ Some o
unfolding prefix_of prefix_sign
prefix_of_sign Negate = refl
prefix_of_sign _ = refl

-- what single operators ask is what the machine looks at
asks_left : (o : Infix) (l r : Tree) → Asks o l r → fits_left o l ≡ true
unfolding fits_left
asks_left Message l r h = h.0
asks_left _ l r h = refl

asks_right : (o : Infix) (l r : Tree) → Asks o l r → fits_right o r ≡ true
unfolding fits_right
asks_right Tag l r h = h
asks_right _ l r h = refl

asks_names : (o : Infix) (l r : Tree) (s : List Open) → Asks o l r → names_wanted (open_infix l o ∷ s) ≡ true → is_name_or_text r ≡ true
unfolding names_wanted
asks_names Message l r s h w = h.1
asks_names _ l r s h w = absurd (cc)

pub run-append : (st : State) (ks : List Token) (ls : List Token) → run st (ks ++ ls) ≡ run (run st ks) ls
unfolding run
run-append st [] ls = refl
run-append st (k ∷ ks) ls = run-append (step st k) ks ls

-- where the machine stands when it has read t
unfoldable pub push : List Open → Tree → State
push s (between l o r) = push (open_infix l o ∷ s) r
push s (before o r) = push (open_prefix o ∷ s) r
push s (last l) = semi s l
push s (leaf a) = has s (leaf a)
push s (paren t) = has s (paren t)
push s (brace xs) = has s (brace xs)
push s (call f xs) = has s (call f xs)
push s (part f xs t) = has s (part f xs t)
push s (after l o) = has s (after l o)

-- whether the innermost open operator stays open before one of level q
abbrev pub leaves_top : List Open → ℕ → Bool
leaves_top [] = λ q. true
leaves_top (open_infix l o ∷ s) = leaves (infix_level o)
leaves_top (open_prefix o ∷ s) = leaves (prefix_level o)
leaves_top (open_round ∷ s) = λ q. true
leaves_top (open_brace xs ∷ s) = λ q. true
leaves_top (open_call f xs ∷ s) = λ q. true
leaves_top (open_part f xs ∷ s) = λ q. true

abbrev pub Leaves : List Open → ℕ → Type 0
Leaves s q = leaves_top s q ≡ true

abbrev pub LeavesAll : List Open → List ℕ → Type 0
LeavesAll s qs = Each (leaves_top s) qs

-- what stands on t's right edge is closed by an operator that takes t
pub close-push : (q : ℕ) (s : List Open) (t : Tree) → Right t → Each (takes q) (right_edge t) → closed q (push s t) ≡ close q s t
unfolding closed push right_edge close Right
close-push q s (between l o r) a h = close-push q (open_infix l o ∷ s) r a.1 h.1 ∙ rw (h.0, asks_right o l r a.4) refl
close-push q s (before o r) a h = close-push q (open_prefix o ∷ s) r a.0 h.1 ∙ rw h.0 refl
close-push q s (leaf x) a h = refl
close-push q s (paren t) a h = refl
close-push q s (brace xs) a h = refl
close-push q s (call f xs) a h = refl
close-push q s (part f xs t) a h = refl
close-push q s (last l) a h = refl
close-push q s (after l o) a h = refl

-- nothing is closed by an operator that is left
pub close-leaves : (q : ℕ) (s : List Open) (x : Tree) → Leaves s q → close q s x ≡ has s x
unfolding close
close-leaves q [] x h = refl
close-leaves q (open_infix l o ∷ s) x h = rw (one_way (infix_level o) q h, h) refl
close-leaves q (open_prefix o ∷ s) x h = rw (one_way (prefix_level o) q h, h) refl
close-leaves q (open_round ∷ s) x h = refl
close-leaves q (open_brace xs ∷ s) x h = refl
close-leaves q (open_call f xs ∷ s) x h = refl
close-leaves q (open_part f xs ∷ s) x h = refl

pub takes_all : (t : Tree) → Each (takes 31) (right_edge t)
unfolding right_edge
takes_all (between l o r) = (infix_takes o, takes_all r)
takes_all (before o r) = (prefix_takes o, takes_all r)
takes_all (leaf a) = tt
takes_all (paren t) = tt
takes_all (brace xs) = tt
takes_all (call f xs) = tt
takes_all (part f xs t) = tt
takes_all (after l o) = tt
takes_all (last l) = tt

-- a fact of each state with an operand, and of each with a `;` behind one, holds where t has been read
pub on-push : (P : State → Type 0) → ((s : List Open) (x : Tree) → P (has s x)) → ((s : List Open) (x : Tree) → P (semi s x)) → (s : List Open) (t : Tree) → P (push s t)
unfolding push
on-push P h m s (between l o r) = on-push P h m (open_infix l o ∷ s) r
on-push P h m s (before o r) = on-push P h m (open_prefix o ∷ s) r
on-push P h m s (last l) = m s l
on-push P h m s (leaf a) = h s (leaf a)
on-push P h m s (paren t) = h s (paren t)
on-push P h m s (brace xs) = h s (brace xs)
on-push P h m s (call f xs) = h s (call f xs)
on-push P h m s (part f xs t) = h s (part f xs t)
on-push P h m s (after l o) = h s (after l o)

-- and a fact of each state with an operand, where t doesn't end with a `;`
pub on-whole : (P : State → Type 0) → ((s : List Open) (x : Tree) → P (has s x)) → (s : List Open) (t : Tree) → ends_last t ≡ false → P (push s t)
unfolding push ends_last
on-whole P h s (between l o r) e = on-whole P h (open_infix l o ∷ s) r e
on-whole P h s (before o r) e = on-whole P h (open_prefix o ∷ s) r e
on-whole P h s (last l) e = absurd (cc)
on-whole P h s (leaf a) e = h s (leaf a)
on-whole P h s (paren t) e = h s (paren t)
on-whole P h s (brace xs) e = h s (brace xs)
on-whole P h s (call f xs) e = h s (call f xs)
on-whole P h s (part f xs t) e = h s (part f xs t)
on-whole P h s (after l o) e = h s (after l o)

pub each_passes : (qs : List ℕ) → Each (λ q. true) qs
each_passes [] = tt
each_passes (q ∷ qs) = (refl, each_passes qs)

-- a first token: never one that ends an element, and one that makes a juxtaposition where the tree begins open
abbrev pub Opens : Token → Type 0
Opens k = (s : List Open) (x : Tree) → go_on s x k ≡ started (join Beside (close (infix_level Beside) s x)) k

begin : (t : Tree) → (k : Token) × (ks : List Token) × (reads t ≡ k ∷ ks) × (ends_element k ≡ false) × (begins_open t ≡ true → Opens k)
unfolding begins_open reads go_on ends_element
begin (leaf a) = (token.atom a, [], refl, refl, λ h s x. refl)
begin (paren t) = (token.open_round, reads t ++ token.close_round ∷ [], refl, refl, λ h s x. refl)
begin (brace xs) = (token.open_brace, read_elems xs ++ token.close_brace ∷ [], refl, refl, λ h s x. refl)
begin (call f xs) = let (k, ks, e, n, g) = begin f in (k, ks ++ token.open_square ∷ (read_elems xs ++ token.close_square ∷ []), rw e refl, n, g)
begin (part f xs t) = let (k, ks, e, n, g) = begin f in (k, ks ++ token.open_square ∷ token.open_square ∷ (read_elems xs ++ (comma_after xs ++ (reads t ++ token.close_square ∷ token.close_square ∷ []))), rw e refl, n, g)
begin (before o t) = (token.sign (prefix_sign o), reads t, refl, refl, λ h. absurd (cc))
begin (after t o) = let (k, ks, e, n, g) = begin t in (k, ks ++ token.sign (postfix_sign o) ∷ [], rw e refl, n, g)
begin (last t) = let (k, ks, e, n, g) = begin t in (k, ks ++ token.sign sign.Semicolon ∷ [], rw e refl, n, g)
begin (between l o r) = let (k, ks, e, n, g) = begin l in (k, ks ++ (sign_tokens (infix_sign o) ++ reads r), rw e refl, n, g)

-- the steps behind an operand
signed : (g : Sign) (o : Infix) → role g ≡ joins o → (s : List Open) (t : Tree) → ends_last t ≡ false → step (push s t) (token.sign g) ≡ join o (closed (infix_level o) (push s t))
unfolding step go_on with_role closed
signed g o e = on-whole (λ st. step st (token.sign g) ≡ join o (closed (infix_level o) st)) (λ s x. rw e refl)

parted : (s : List Open) (t : Tree) → ends_last t ≡ false → step (push s t) (token.sign sign.Semicolon) ≡ part_with (closed 30 (push s t))
unfolding step go_on with_role closed role
parted = on-whole (λ st. step st (token.sign sign.Semicolon) ≡ part_with (closed 30 st)) (λ s x. refl)

start_dead : (c b : Bool) (o : Infix) (l : Tree) (s : List Open) (k : Token) → step (cond c dead (cond b (wants (open_infix l o ∷ s)) dead)) k ≡ started (cond c dead (cond b (wants (open_infix l o ∷ s)) dead)) k
unfolding step started
start_dead true b o l s k = refl
start_dead false true o l s k = refl
start_dead false false o l s k = refl

start_join : (o : Infix) (st : State) (k : Token) → step (join o st) k ≡ started (join o st) k
unfolding join step started
start_join o (has s x) k = start_dead (on_tag s && tag_bars o) (fits_left o x) o x s k
start_join o (wants s) k = refl
start_join o (semi s x) k = refl
start_join o (shuts s x) k = refl
start_join o dead k = refl

beside : (k : Token) → Opens k → (s : List Open) (t : Tree) → ends_last t ≡ false → step (push s t) k ≡ step (join Beside (closed (infix_level Beside) (push s t))) k
unfolding step closed
beside k g = on-whole (λ st. step st k ≡ step (join Beside (closed (infix_level Beside) st)) k) (λ s x. g s x ∙ sym (start_join Beside (close (infix_level Beside) s x) k))

step_postfix : (g : Sign) (o : Postfix) → role g ≡ ends o → (s : List Open) (t : Tree) → ends_last t ≡ false → step (push s t) (token.sign g) ≡ end_with o (closed (postfix_level o) (push s t))
unfolding step go_on with_role closed
step_postfix g o e = on-whole (λ st. step st (token.sign g) ≡ end_with o (closed (postfix_level o) st)) (λ s x. rw e refl)

opened : (s : List Open) (t : Tree) → ends_last t ≡ false → step (push s t) token.open_square ≡ open_square (closed 3 (push s t))
unfolding step go_on closed
opened = on-whole (λ st. step st token.open_square ≡ open_square (closed 3 st)) (λ s x. refl)

round_closed : (s : List Open) (t : Tree) → step (push s t) token.close_round ≡ close_round (closed 31 (push s t))
unfolding step go_on closed ends_element
round_closed = on-push (λ st. step st token.close_round ≡ close_round (closed 31 st)) (λ s x. refl) (λ s x. refl)

square_closed : (s : List Open) (t : Tree) → step (push s t) token.close_square ≡ close_square (closed 31 (push s t))
unfolding step go_on closed ends_element
square_closed = on-push (λ st. step st token.close_square ≡ close_square (closed 31 st)) (λ s x. refl) (λ s x. refl)

brace_closed : (s : List Open) (t : Tree) → step (push s t) token.close_brace ≡ close_brace (closed 31 (push s t))
unfolding step go_on closed ends_element
brace_closed = on-push (λ st. step st token.close_brace ≡ close_brace (closed 31 st)) (λ s x. refl) (λ s x. refl)

comma_read : (s : List Open) (t : Tree) → step (push s t) token.comma ≡ next_element (closed 31 (push s t))
unfolding step go_on closed ends_element
comma_read = on-push (λ st. step st token.comma ≡ next_element (closed 31 st)) (λ s x. refl) (λ s x. refl)

finish_push : (s : List Open) (t : Tree) → finish (push s t) ≡ finished (closed 31 (push s t))
unfolding finish closed
finish_push = on-push (λ st. finish st ≡ finished (closed 31 st)) (λ s x. refl) (λ s x. refl)

-- brackets with elements
pub data Bracket : Type 0 where
  of_call : Tree → Bracket
  of_part : Tree → Bracket
  of_brace : Bracket

abbrev pub open_with : Bracket → Elems → Open
open_with (of_call f) xs = open_call f xs
open_with (of_part f) xs = open_part f xs
open_with of_brace xs = open_brace xs

-- where the machine stands when it has read elements
unfoldable pub elems_read : Bracket → List Open → Elems → State
elems_read b s none = wants (open_with b none ∷ s)
elems_read b s (more xs t) = push (open_with b xs ∷ s) t

close_bracket : (b : Bracket) (xs : Elems) (s : List Open) (x : Tree) → close 31 (open_with b xs ∷ s) x ≡ has (open_with b xs ∷ s) x
unfolding close
close_bracket (of_call f) xs s x = refl
close_bracket (of_part f) xs s x = refl
close_bracket of_brace xs s x = refl

next_bracket : (b : Bracket) (xs : Elems) (s : List Open) (x : Tree) → next_element (has (open_with b xs ∷ s) x) ≡ wants (open_with b (more xs x) ∷ s)
unfolding next_element
next_bracket (of_call f) xs s x = refl
next_bracket (of_part f) xs s x = refl
next_bracket of_brace xs s x = refl

bracket_leaves : (b : Bracket) (xs : Elems) (s : List Open) (qs : List ℕ) → LeavesAll (open_with b xs ∷ s) qs
bracket_leaves (of_call f) xs s qs = each_passes qs
bracket_leaves (of_part f) xs s qs = each_passes qs
bracket_leaves of_brace xs s qs = each_passes qs

bracket_names : (b : Bracket) (xs : Elems) (s : List Open) → names_wanted (open_with b xs ∷ s) ≡ false
unfolding names_wanted
bracket_names (of_call f) xs s = refl
bracket_names (of_part f) xs s = refl
bracket_names of_brace xs s = refl

-- closing all behind a right tree above a bracket
all_closed : (b : Bracket) (xs : Elems) (s : List Open) (t : Tree) → Right t → closed 31 (push (open_with b xs ∷ s) t) ≡ has (open_with b xs ∷ s) t
all_closed b xs s t h = close-push 31 (open_with b xs ∷ s) t h (takes_all t) ∙ close_bracket b xs s t

elems_comma : (b : Bracket) (s : List Open) (xs : Elems) → RightElems xs → run (elems_read b s xs) (comma_after xs) ≡ wants (open_with b xs ∷ s)
unfolding elems_read run Right
elems_comma b s none h = refl
elems_comma b s (more xs t) h = comma_read (open_with b xs ∷ s) t ∙ ap next_element (all_closed b xs s t h.1) ∙ next_bracket b xs s t

call_closed : (f : Tree) (s : List Open) (xs : Elems) → RightElems xs → step (elems_read (of_call f) s xs) token.close_square ≡ has s (call f xs)
unfolding elems_read step start start_any empty_square close_square Right names_wanted
call_closed f s none h = refl
call_closed f s (more xs t) h = square_closed (open_call f xs ∷ s) t ∙ ap close_square (all_closed (of_call f) xs s t h.1)

list_closed : (s : List Open) (xs : Elems) → RightElems xs → step (elems_read of_brace s xs) token.close_brace ≡ has s (brace xs)
unfolding elems_read step start start_any empty_brace close_brace Right names_wanted
list_closed s none h = refl
list_closed s (more xs t) h = brace_closed (open_brace xs ∷ s) t ∙ ap close_brace (all_closed of_brace xs s t h.1)

-- a list after t
after_reading : (t : Tree) (st : State) (ks : List Token) (to : State) → run st (reads t) ≡ to → run st (reads t ++ ks) ≡ run to ks
after_reading t st ks to h = run-append st (reads t) ks ∙ ap (λ st. run st ks) h

-- an operator that fits closes all of l's right edge and nothing below it
closed_fit : (q : ℕ) (s : List Open) (l : Tree) → Right l → TakesLeft q l → Leaves s q → closed q (push s l) ≡ has s l
closed_fit q s l a h e = close-push q s l a h.0 ∙ close-leaves q s l e

-- names are wanted nowhere but behind `::`
abbrev pub Admits : List Open → Tree → Type 0
Admits s t = names_wanted s ≡ true → is_name_or_text t ≡ true

plain : (s : List Open) (k : Token) → (names_wanted s ≡ true → ⊥) → start s k ≡ start_any s k
unfolding start
plain s k n = go (names_wanted s) n
  where
    go : (b : Bool) → (b ≡ true → ⊥) → cond b (start_name s k) (start_any s k) ≡ start_any s k
    go true n = absurd (n refl)
    go false n = refl

other_started : (s : List Open) (a : Atom) → (names_wanted s ≡ true → ⊥) → start s (token.atom a) ≡ has s (leaf a)
unfolding start_any
other_started s a n = plain s (token.atom a) n

leaf_started : (s : List Open) (a : Atom) → Admits s (leaf a) → start s (token.atom a) ≡ has s (leaf a)
unfolding start start_name start_any is_name_or_text
leaf_started s (name a) n = go (names_wanted s)
  where
    go : (b : Bool) → cond b (has s (leaf (name a))) (has s (leaf (name a))) ≡ has s (leaf (name a))
    go true = refl
    go false = refl
leaf_started s (text a) n = go (names_wanted s)
  where
    go : (b : Bool) → cond b (has s (leaf (text a))) (has s (leaf (text a))) ≡ has s (leaf (text a))
    go true = refl
    go false = refl
leaf_started s (number a) n = other_started s (number a) (λ w. let e = n w in cc)
leaf_started s (pattern a) n = other_started s (pattern a) (λ w. let e = n w in cc)
leaf_started s (slot a) n = other_started s (slot a) (λ w. let e = n w in cc)
leaf_started s (output a) n = other_started s (output a) (λ w. let e = n w in cc)

prefix_read : (s : List Open) (o : Prefix) → (names_wanted s ≡ true → ⊥) → start s (token.sign (prefix_sign o)) ≡ wants (open_prefix o ∷ s)
prefix_read s o n = plain s (token.sign (prefix_sign o)) n ∙ unfold start_any prefixed in rw (prefix_of_sign o) refl

join_fits : (o : Infix) (s : List Open) (l : Tree) → fits_left o l ≡ true → (on_tag s && tag_bars o) ≡ false → join o (has s l) ≡ wants (open_infix l o ∷ s)
unfolding join
join_fits o s l e f = rw (f, e) refl

part_has : (s : List Open) (l : Tree) → part_with (has s l) ≡ semi s l
unfolding part_with
part_has s l = refl

semi_goes_on : (s : List Open) (l : Tree) (k : Token) → ends_element k ≡ false → step (semi s l) k ≡ step (wants (open_infix l Semi ∷ s)) k
unfolding step
semi_goes_on s l k e = rw e refl

-- an infix operator comes behind l, and then r
joined : (g : Sign) (o : Infix) → role g ≡ joins o → (l r : Tree) (s : List Open) → Asks o l r → (on_tag s && tag_bars o) ≡ false → ends_last l ≡ false → closed (infix_level o) (push s l) ≡ has s l
    → run (step (push s l) (token.sign g)) (reads r) ≡ run (wants (open_infix l o ∷ s)) (reads r)
joined g o e l r s a f n c = ap (λ st. run st (reads r)) (signed g o e s l n ∙ ap (join o) c ∙ join_fits o s l (asks_left o l r a) f)

arrives : (o : Infix) (l r : Tree) (s : List Open) → Asks o l r → (on_tag s && tag_bars o) ≡ false → ends_last l ≡ false → closed (infix_level o) (push s l) ≡ has s l
    → run (push s l) (sign_tokens (infix_sign o) ++ reads r) ≡ run (wants (open_infix l o ∷ s)) (reads r)
unfolding infix_sign run role infix_level
arrives Message l r s a f n c = joined sign.ColonColon Message refl l r s a f n c
arrives PatternTest l r s a f n c = joined sign.Question PatternTest refl l r s a f n c
arrives Of l r s a f n c = joined sign.At Of refl l r s a f n c
arrives Map l r s a f n c = joined sign.SlashAt Map refl l r s a f n c
arrives Apply l r s a f n c = joined sign.AtAt Apply refl l r s a f n c
arrives MapApply l r s a f n c = joined sign.AtAtAt MapApply refl l r s a f n c
arrives StringJoin l r s a f n c = joined sign.LessGreater StringJoin refl l r s a f n c
arrives Power l r s a f n c = joined sign.Caret Power refl l r s a f n c
arrives Divide l r s a f n c = joined sign.Slash Divide refl l r s a f n c
arrives Times l r s a f n c = joined sign.Star Times refl l r s a f n c
arrives Plus l r s a f n c = joined sign.Plus Plus refl l r s a f n c
arrives Minus l r s a f n c = joined sign.Dash Minus refl l r s a f n c
arrives Equal l r s a f n c = joined sign.EqualsEquals Equal refl l r s a f n c
arrives Unequal l r s a f n c = joined sign.BangEquals Unequal refl l r s a f n c
arrives Less l r s a f n c = joined sign.Less Less refl l r s a f n c
arrives LessEqual l r s a f n c = joined sign.LessEquals LessEqual refl l r s a f n c
arrives Greater l r s a f n c = joined sign.Greater Greater refl l r s a f n c
arrives GreaterEqual l r s a f n c = joined sign.GreaterEquals GreaterEqual refl l r s a f n c
arrives SameQ l r s a f n c = joined sign.EqualsEqualsEquals SameQ refl l r s a f n c
arrives UnsameQ l r s a f n c = joined sign.EqualsBangEquals UnsameQ refl l r s a f n c
arrives And l r s a f n c = joined sign.AmpersandAmpersand And refl l r s a f n c
arrives Or l r s a f n c = joined sign.BarBar Or refl l r s a f n c
arrives Alternatives l r s a f n c = joined sign.Bar Alternatives refl l r s a f n c
arrives Colon l r s a f n c = joined sign.Colon Colon refl l r s a f n c
arrives StringExpression l r s a f n c = joined sign.TildeTilde StringExpression refl l r s a f n c
arrives Condition l r s a f n c = joined sign.SlashSemicolon Condition refl l r s a f n c
arrives Rule l r s a f n c = joined sign.DashGreater Rule refl l r s a f n c
arrives RuleDelayed l r s a f n c = joined sign.ColonGreater RuleDelayed refl l r s a f n c
arrives ReplaceAll l r s a f n c = joined sign.SlashDot ReplaceAll refl l r s a f n c
arrives ReplaceRepeated l r s a f n c = joined sign.SlashSlashDot ReplaceRepeated refl l r s a f n c
arrives AddTo l r s a f n c = joined sign.PlusEquals AddTo refl l r s a f n c
arrives SubtractFrom l r s a f n c = joined sign.DashEquals SubtractFrom refl l r s a f n c
arrives TimesBy l r s a f n c = joined sign.StarEquals TimesBy refl l r s a f n c
arrives DivideBy l r s a f n c = joined sign.SlashEquals DivideBy refl l r s a f n c
arrives Into l r s a f n c = joined sign.SlashSlash Into refl l r s a f n c
arrives Set l r s a f n c = joined sign.Equals Set refl l r s a f n c
arrives SetDelayed l r s a f n c = joined sign.ColonEquals SetDelayed refl l r s a f n c
arrives UpSet l r s a f n c = joined sign.CaretEquals UpSet refl l r s a f n c
arrives UpSetDelayed l r s a f n c = joined sign.CaretColonEquals UpSetDelayed refl l r s a f n c
arrives Tag l r s a f n c = joined sign.SlashColon Tag refl l r s a f n c
arrives Semi l r s a f n c =
    let (k, ks, e, m, g) = begin r in
    ap (λ st. run st (reads r)) (parted s l n ∙ ap part_with c ∙ part_has s l) ∙ rw e (ap (λ st. run st ks) (semi_goes_on s l k m))
arrives Beside l r s a f n c =
    let (k, ks, e, m, g) = begin r in
    rw e (ap (λ st. run st ks) (beside k (g a) s l n ∙ ap (λ st. step (join Beside st) k) c ∙ ap (λ st. step st k) (join_fits Beside s l (asks_left Beside l r a) f)))

-- the step at a postfix operator
postfixed : (o : Postfix) (s : List Open) (t : Tree) → ends_last t ≡ false → closed (postfix_level o) (push s t) ≡ has s t → step (push s t) (token.sign (postfix_sign o)) ≡ push s (after t o)
unfolding postfix_sign role push end_with postfix_level
postfixed Increment s t n c = step_postfix sign.PlusPlus Increment refl s t n ∙ ap (end_with Increment) c
postfixed Decrement s t n c = step_postfix sign.MinusMinus Decrement refl s t n ∙ ap (end_with Decrement) c
postfixed Factorial s t n c = step_postfix sign.Bang Factorial refl s t n ∙ ap (end_with Factorial) c
postfixed Repeated s t n c = step_postfix sign.DotDot Repeated refl s t n ∙ ap (end_with Repeated) c
postfixed RepeatedNull s t n c = step_postfix sign.DotDotDot RepeatedNull refl s t n ∙ ap (end_with RepeatedNull) c
postfixed Function s t n c = step_postfix sign.Ampersand Function refl s t n ∙ ap (end_with Function) c
postfixed Unset s t n c = step_postfix sign.EqualsDot Unset refl s t n ∙ ap (end_with Unset) c

lasted : (s : List Open) (t : Tree) → ends_last t ≡ false → closed 30 (push s t) ≡ has s t → step (push s t) (token.sign sign.Semicolon) ≡ push s (last t)
unfolding push
lasted s t n c = parted s t n ∙ ap part_with c ∙ part_has s t

-- no operator that a `/:` bars stands on the left edge
pub free_left : Tree → Bool
free_left (between l o r) = not (tag_bars o) && free_left l
free_left (after l o) = free_left l
free_left (last l) = free_left l
free_left (call f xs) = free_left f
free_left (part f xs t) = free_left f
free_left _ = true

low_bar : (o : Infix) → infix_level o < 29 → tag_bars o ≡ false
unfolding infix_level tag_bars
low_bar UpSet h = absurd (omega arith)
low_bar UpSetDelayed h = absurd (omega arith)
low_bar Tag h = absurd (omega arith)
low_bar _ h = refl

low_postfix : (o : Postfix) → postfix_level o ≤ 29
unfolding postfix_level
low_postfix Increment = omega arith
low_postfix _ = omega arith

right29 : leans_right 29 ≡ true
unfolding leans_right
right29 = refl

low_takes : (q p : ℕ) → takes q p ≡ true → q ≤ 29 → p < 29
unfolding takes leans_left
low_takes q p h e = let r = right29 in grind arith

never_last : (l : Tree) → ends_last (last l) ≡ false → ⊥
unfolding ends_last
never_last l e = cc

low_free : (t : Tree) (q : ℕ) → q ≤ 29 → Right t → TakesLeft q t → free_left t ≡ true
unfolding free_left Right right_edge
low_free (between l o r) q e a h =
    let low : infix_level o < 29 = low_takes q (infix_level o) h.0.0 e in
    let le : infix_level o ≤ 29 = omega arith in
    let f : free_left l ≡ true = low_free l (infix_level o) le a.0 a.2 in
    rw (low_bar o low, f) refl
low_free (after l o) q e a h = low_free l (postfix_level o) (low_postfix o) a.0 a.1
low_free (last l) q e a h = absurd (never_last l h.1)
low_free (call f xs) q e a h = low_free f 3 (omega arith) a.0 a.1
low_free (part f xs t) q e a h = low_free f 3 (omega arith) a.0 a.1
low_free (leaf x) q e a h = refl
low_free (paren t) q e a h = refl
low_free (brace xs) q e a h = refl
low_free (before o t) q e a h = refl

definition_free : (t : Tree) → Right t → is_definition t ≡ true → free_left t ≡ true
unfolding is_definition free_left Right infix_level postfix_level tag_bars
definition_free (between l Set r) a d = low_free l 29 (omega arith) a.0 a.2
definition_free (between l SetDelayed r) a d = low_free l 29 (omega arith) a.0 a.2
definition_free (after l Unset) a d = low_free l 29 (omega arith) a.0 a.1
definition_free _ a d = absurd (cc)

abbrev pub Unbarred : List Open → Tree → Type 0
Unbarred s t = on_tag s ≡ true → free_left t ≡ true

asks_free : (o : Infix) (l r : Tree) (s : List Open) → Right r → Asks o l r → Unbarred (open_infix l o ∷ s) r
unfolding on_tag
asks_free Tag l r s a h w = definition_free r a h
asks_free _ l r s a h w = absurd (cc)

both_true : (b c : Bool) → (not b && c) ≡ true → (b ≡ false) × (c ≡ true)
both_true true c h = absurd (cc)
both_true false c h = (refl, h)

unbarred_root : (s : List Open) (l r : Tree) (o : Infix) → Unbarred s (between l o r) → (on_tag s && tag_bars o) ≡ false
unfolding free_left
unbarred_root s l r o u = go (on_tag s) u
  where
    go : (b : Bool) → (b ≡ true → (not (tag_bars o) && free_left l) ≡ true) → (b && tag_bars o) ≡ false
    go true u = (both_true (tag_bars o) (free_left l) (u refl)).0
    go false u = refl

unbarred_left : (s : List Open) (l r : Tree) (o : Infix) → Unbarred s (between l o r) → Unbarred s l
unfolding free_left
unbarred_left s l r o u w = (both_true (tag_bars o) (free_left l) (u w)).1

bracket_tags : (b : Bracket) (xs : Elems) (s : List Open) → on_tag (open_with b xs ∷ s) ≡ false
unfolding on_tag
bracket_tags (of_call f) xs s = refl
bracket_tags (of_part f) xs s = refl
bracket_tags of_brace xs s = refl

-- where a name is wanted, only a leaf comes
composite : (t : Tree) (s : List Open) → is_name_or_text t ≡ false → Admits s t → names_wanted s ≡ true → ⊥
composite t s e n w = let g = n w in absurd (cc)

begin_part : (s : List Open) (f : Tree) (ks : List Token) → run (wants (open_call f none ∷ s)) (token.open_square ∷ ks) ≡ run (wants (open_part f none ∷ s)) ks
unfolding run step start start_any second_square names_wanted
begin_part s f ks = refl

end_part : (s : List Open) (f : Tree) (xs : Elems) (t : Tree) → Right t → run (push (open_part f xs ∷ s) t) (token.close_square ∷ token.close_square ∷ []) ≡ has s (part f xs t)
unfolding run
end_part s f xs t h = ap (λ st. step st token.close_square) (square_closed (open_part f xs ∷ s) t ∙ ap close_square (all_closed (of_part f) xs s t h)) ∙ unfold close_square step in refl

start_round : (s : List Open) → start_any s token.open_round ≡ wants (open_round ∷ s)
unfolding start_any
start_round s = refl

start_brace : (s : List Open) → start_any s token.open_brace ≡ wants (open_brace none ∷ s)
unfolding start_any
start_brace s = refl

round_done : (s : List Open) (t : Tree) → close_round (close 31 (open_round ∷ s) t) ≡ has s (paren t)
unfolding close close_round
round_done s t = refl

square_done : (s : List Open) (f : Tree) → open_square (has s f) ≡ wants (open_call f none ∷ s)
unfolding open_square
square_done s f = refl

mutual
  unfolding reads run Right left_edge push is_name_or_text names_wanted elems_read open_square step free_left on_tag

  pub drives : (t : Tree) (s : List Open) → Right t → LeavesAll s (left_edge t) → Admits s t → Unbarred s t → run (wants s) (reads t) ≡ push s t
  drives (leaf a) s h e n u = leaf_started s a n
  drives (paren t) s h e n u =
      ap (λ st. run st (reads t ++ token.close_round ∷ [])) (plain s token.open_round (composite (paren t) s refl n) ∙ start_round s)
      ∙ after_reading t (wants (open_round ∷ s)) (token.close_round ∷ []) (push (open_round ∷ s) t) (drives t (open_round ∷ s) h (each_passes (left_edge t)) (λ w. absurd (cc)) (λ w. absurd (cc)))
      ∙ round_closed (open_round ∷ s) t ∙ ap close_round (close-push 31 (open_round ∷ s) t h (takes_all t)) ∙ round_done s t
  drives (brace xs) s h e n u =
      ap (λ st. run st (read_elems xs ++ token.close_brace ∷ [])) (plain s token.open_brace (composite (brace xs) s refl n) ∙ start_brace s)
      ∙ run-append (wants (open_brace none ∷ s)) (read_elems xs) (token.close_brace ∷ [])
      ∙ ap (λ st. run st (token.close_brace ∷ [])) (drives_elems xs of_brace s h)
      ∙ list_closed s xs h
  drives (call f xs) s h e n u =
      after_reading f (wants s) (token.open_square ∷ (read_elems xs ++ token.close_square ∷ [])) (push s f) (drives f s h.0 e.1 (λ w. absurd (composite (call f xs) s refl n w)) u)
      ∙ ap (λ st. run st (read_elems xs ++ token.close_square ∷ [])) (opened s f h.1.1 ∙ ap open_square (closed_fit 3 s f h.0 h.1 e.0) ∙ square_done s f)
      ∙ run-append (wants (open_call f none ∷ s)) (read_elems xs) (token.close_square ∷ [])
      ∙ ap (λ st. run st (token.close_square ∷ [])) (drives_elems xs (of_call f) s h.2)
      ∙ call_closed f s xs h.2
  drives (part f xs t) s h e n u =
      let end : List Token = token.close_square ∷ token.close_square ∷ [] in
      let rest : List Token = read_elems xs ++ (comma_after xs ++ (reads t ++ end)) in
      after_reading f (wants s) (token.open_square ∷ token.open_square ∷ rest) (push s f) (drives f s h.0 e.1 (λ w. absurd (composite (part f xs t) s refl n w)) u)
      ∙ ap (λ st. run st (token.open_square ∷ rest)) (opened s f h.1.1 ∙ ap open_square (closed_fit 3 s f h.0 h.1 e.0) ∙ square_done s f)
      ∙ begin_part s f rest
      ∙ run-append (wants (open_part f none ∷ s)) (read_elems xs) (comma_after xs ++ (reads t ++ end))
      ∙ ap (λ st. run st (comma_after xs ++ (reads t ++ end))) (drives_elems xs (of_part f) s h.2)
      ∙ run-append (elems_read (of_part f) s xs) (comma_after xs) (reads t ++ end)
      ∙ ap (λ st. run st (reads t ++ end)) (elems_comma (of_part f) s xs h.2)
      ∙ after_reading t (wants (open_part f xs ∷ s)) end (push (open_part f xs ∷ s) t) (drives t (open_part f xs ∷ s) h.3 (each_passes (left_edge t)) (λ w. absurd (cc)) (λ w. absurd (cc)))
      ∙ end_part s f xs t h.3
  drives (before o t) s h e n u = ap (λ st. run st (reads t)) (prefix_read s o (composite (before o t) s refl n)) ∙ drives t (open_prefix o ∷ s) h.0 h.1 (λ w. absurd (cc)) (λ w. absurd (cc))
  drives (after t o) s h e n u =
      after_reading t (wants s) (token.sign (postfix_sign o) ∷ []) (push s t) (drives t s h.0 e.1 (λ w. absurd (composite (after t o) s refl n w)) u)
      ∙ postfixed o s t h.1.1 (closed_fit (postfix_level o) s t h.0 h.1 e.0)
  drives (last t) s h e n u =
      after_reading t (wants s) (token.sign sign.Semicolon ∷ []) (push s t) (drives t s h.0 e.1 (λ w. absurd (composite (last t) s refl n w)) u)
      ∙ lasted s t h.1.1 (closed_fit 30 s t h.0 h.1 e.0)
  drives (between l o r) s h e n u =
      after_reading l (wants s) (sign_tokens (infix_sign o) ++ reads r) (push s l) (drives l s h.0 e.1 (λ w. absurd (composite (between l o r) s refl n w)) (unbarred_left s l r o u))
      ∙ arrives o l r s h.4 (unbarred_root s l r o u) h.2.1 (closed_fit (infix_level o) s l h.0 h.2 e.0)
      ∙ drives r (open_infix l o ∷ s) h.1 h.3 (asks_names o l r s h.4) (asks_free o l r s h.1 h.4)

  drives_elems : (xs : Elems) (b : Bracket) (s : List Open) → RightElems xs → run (wants (open_with b none ∷ s)) (read_elems xs) ≡ elems_read b s xs
  drives_elems none b s h = refl
  drives_elems (more xs t) b s h =
      run-append (wants (open_with b none ∷ s)) (read_elems xs) (comma_after xs ++ reads t)
      ∙ ap (λ st. run st (comma_after xs ++ reads t)) (drives_elems xs b s h.0)
      ∙ run-append (elems_read b s xs) (comma_after xs) (reads t)
      ∙ ap (λ st. run st (reads t)) (elems_comma b s xs h.0)
      ∙ drives t (open_with b xs ∷ s) h.1 (bracket_leaves b xs s (left_edge t)) (λ w. let g = bracket_names b xs s in absurd (cc)) (λ w. let g = bracket_tags b xs s in absurd (cc))

pub complete : (t : Tree) → Right t → parse (reads t) ≡ Some t
unfolding parse finished close names_wanted on_tag
complete t h = ap finish (drives t [] h (each_passes (left_edge t)) (λ w. absurd (cc)) (λ w. absurd (cc))) ∙ finish_push [] t ∙ ap finished (close-push 31 [] t h (takes_all t))

-- Two right trees that read as the same tokens are the same tree.
pub same : (t u : Tree) → Right t → Right u → reads t ≡ reads u → t ≡ u
same t u h k e = let a = complete t h in let b = complete u k in let c = ap parse e in cc
