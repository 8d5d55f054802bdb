-- What the machine gives is a right tree that reads as the tokens.
use Rattle.std.proofs.Common.{ℕ, Bool, true, false, ◌≡◌, List, [], ◌∷◌, ◌++◌, Option, Some, None, cond, refl, sym, ap, ◌∙◌, subst, ap₂, append_assoc, append-nil, ◌&&◌, ◌↔◌}
use Rattle.wl_syntax.specs.declared.operator.Infix.{Infix}
use Rattle.wl_syntax.specs.declared.operator.Infix.TheVariants.{Message, Beside, Tag, Semi}
use Rattle.wl_syntax.specs.declared.operator.Prefix.{Prefix}
use Rattle.wl_syntax.specs.declared.operator.Postfix.{Postfix}
use Rattle.wl_syntax.specs.declared.operator.Postfix.TheVariants.{Increment}
use Rattle.wl_syntax.specs.declared.operator.Sign.{Sign}
use Rattle.wl_syntax.specs.declared.operator.Sign.TheVariants as sign
use Rattle.wl_syntax.specs.Token.{Atom, number, name, pattern, slot, output, text, Token}
use Rattle.wl_syntax.specs.Token as token
use Rattle.wl_syntax.specs.Table.{infix_level, prefix_level, postfix_level, takes, leaves, leans_right, Role, joins, ends, parts, nothing, role, prefix_of, infix_sign, prefix_sign, postfix_sign}
use Rattle.wl_syntax.specs.Tree.{Tree, leaf, paren, brace, call, part, before, after, last, between, none, more, reads, read_elems, right_edge, left_edge, begins_open, ends_last, Each, TakesLeft, is_name_or_text, Asks, Right, RightElems, sign_tokens, comma_after}
use Rattle.wl_syntax.specs.Machine.{Open, open_infix, open_prefix, open_round, open_brace, open_call, open_part, State, wants, has, semi, shuts, dead, fits_left, fits_right, tag_bars, on_tag, close, join, end_with, part_with, open_square, close_round, close_brace, close_square, next_element, empty_square, empty_brace, second_square, prefixed, names_wanted, start_any, start_name, start, started, with_role, go_on, ends_element, step, run, finished, finish, parse}
use Rattle.wl_syntax.proofs.Reading.{complete, Leaves, LeavesAll}

RoleIs : Sign → Role → Type 0
RoleIs g (joins o) = infix_sign o ≡ Some g
RoleIs g (ends o) = postfix_sign o ≡ g
RoleIs g parts = g ≡ sign.Semicolon
RoleIs g nothing = Unit {0}

role_is : (g : Sign) → RoleIs g (role g)
unfolding RoleIs role infix_sign postfix_sign
role_is sign.Unused = tt
role_is _ = refl

PrefixIs : Sign → Option Prefix → Type 0
PrefixIs g (Some o) = prefix_sign o ≡ g
PrefixIs g None = Unit {0}

prefix_is : (g : Sign) → PrefixIs g (prefix_of g)
unfolding PrefixIs prefix_of prefix_sign
prefix_is sign.Dash = refl
prefix_is sign.PlusPlus = refl
prefix_is sign.MinusMinus = refl
prefix_is sign.Bang = refl
prefix_is _ = tt

-- a juxtaposition's operand begins open, and any other operator stands before any operand
abbrev Begins : Infix → Bool → Type 0
Begins Beside b = b ≡ true
Begins _ b = Unit {0}

begins_any : (o : Infix) (g : Sign) → infix_sign o ≡ Some g → Begins o false
unfolding infix_sign
begins_any Beside g e = absurd (cc)
begins_any _ g e = tt

begins_true : (o : Infix) → Begins o true
begins_true Beside = refl
begins_true _ = tt

-- what the innermost open operator asks of the operand's beginning
abbrev Opening : List Open → Bool → Type 0
Opening [] b = Unit {0}
Opening (open_infix l o ∷ s) b = Begins o b
Opening (open_prefix o ∷ s) b = Unit {0}
Opening (open_round ∷ s) b = Unit {0}
Opening (open_brace xs ∷ s) b = Unit {0}
Opening (open_call f xs ∷ s) b = Unit {0}
Opening (open_part f xs ∷ s) b = Unit {0}

opening_true : (s : List Open) → Opening s true
opening_true [] = tt
opening_true (open_infix l o ∷ s) = begins_true o
opening_true (open_prefix o ∷ s) = tt
opening_true (open_round ∷ s) = tt
opening_true (open_brace xs ∷ s) = tt
opening_true (open_call f xs ∷ s) = tt
opening_true (open_part f xs ∷ s) = tt

-- where a name is wanted nothing is left open on the left edge
Plain : List Open → Type 0
Plain s = names_wanted s ≡ true → ⊥

infix_plain : (s : List Open) (o : Infix) → Leaves s (infix_level o) → Plain s
unfolding Plain names_wanted leaves leans_right infix_level
infix_plain (open_infix l Message ∷ s) Message h w = absurd (cc)
infix_plain (open_infix l Message ∷ s) _ h w = absurd (cc)
infix_plain _ o h w = absurd (cc)

postfix_plain : (s : List Open) (o : Postfix) → Leaves s (postfix_level o) → Plain s
unfolding Plain names_wanted leaves leans_right postfix_level infix_level
postfix_plain (open_infix l Message ∷ s) Increment h w = absurd (cc)
postfix_plain (open_infix l Message ∷ s) _ h w = absurd (cc)
postfix_plain _ o h w = absurd (cc)

last_plain : (s : List Open) → Leaves s 30 → Plain s
unfolding Plain names_wanted leaves leans_right infix_level
last_plain (open_infix l Message ∷ s) h w = absurd (cc)
last_plain _ h w = absurd (cc)

square_plain : (s : List Open) → Leaves s 3 → Plain s
unfolding Plain names_wanted leaves leans_right infix_level
square_plain (open_infix l Message ∷ s) h w = absurd (cc)
square_plain _ h w = absurd (cc)

naming : (s : List Open) (t : Tree) → Plain s → names_wanted s ≡ true → is_name_or_text t ≡ true
unfolding Plain
naming s t p w = absurd (p w)

-- an operand fits above what is open
record Fits (s : List Open) (x : Tree) : Type 0 where
  pub edge : LeavesAll s (left_edge x)
  pub opening : Opening s (begins_open x)
  pub named : names_wanted s ≡ true → is_name_or_text x ≡ true

-- a left operand, taken by an operator of level q above s
record Taken (q : ℕ) (s : List Open) (l : Tree) : Type 0 where
  pub right : Right l
  pub takes : TakesLeft q l
  pub fits : Fits s l
  pub leaves : Leaves s q

abbrev GoodStack : List Open → Type 0
GoodStack [] = Unit {0}
GoodStack (open_infix l o ∷ s) = Taken (infix_level o) s l × (fits_left o l ≡ true) × Plain s × GoodStack s
GoodStack (open_prefix o ∷ s) = Opening s false × Plain s × GoodStack s
GoodStack (open_round ∷ s) = Plain s × GoodStack s
GoodStack (open_brace xs ∷ s) = Plain s × RightElems xs × GoodStack s
GoodStack (open_call f xs ∷ s) = Taken 3 s f × RightElems xs × GoodStack s
GoodStack (open_part f xs ∷ s) = Taken 3 s f × RightElems xs × GoodStack s

stack_reads : List Open → List Token
stack_reads [] = []
stack_reads (open_infix l o ∷ s) = stack_reads s ++ (reads l ++ sign_tokens (infix_sign o))
stack_reads (open_prefix o ∷ s) = stack_reads s ++ token.sign (prefix_sign o) ∷ []
stack_reads (open_round ∷ s) = stack_reads s ++ token.open_round ∷ []
stack_reads (open_brace xs ∷ s) = stack_reads s ++ token.open_brace ∷ (read_elems xs ++ comma_after xs)
stack_reads (open_call f xs ∷ s) = stack_reads s ++ (reads f ++ token.open_square ∷ (read_elems xs ++ comma_after xs))
stack_reads (open_part f xs ∷ s) = stack_reads s ++ (reads f ++ token.open_square ∷ token.open_square ∷ (read_elems xs ++ comma_after xs))

record Stands (ks : List Token) (s : List Open) (x : Tree) : Type 0 where
  pub below : GoodStack s
  pub right : Right x
  pub fits : Fits s x
  pub reading : stack_reads s ++ reads x ≡ ks

abbrev Free : Tree → Type 0
Free x = (q : ℕ) → Each (takes q) (right_edge x)

abbrev Good : List Token → State → Type 0
Good ks (wants s) = GoodStack s × Opening s false × (stack_reads s ≡ ks)
Good ks (has s x) = Stands ks s x × Free x × (ends_last x ≡ false)
Good ks (semi s x) = Taken 30 s x × GoodStack s × (stack_reads s ++ (reads x ++ token.sign sign.Semicolon ∷ []) ≡ ks)
Good ks (shuts s t) = ((ls : List Token) → ls ≡ ks ++ token.close_square ∷ [] → Stands ls s t) × Free t × (ends_last t ≡ false)
Good ks dead = Unit {0}

abbrev Closed : ℕ → Bool → List Token → State → Type 0
Closed q b ks (has s x) = Stands ks s x × Each (takes q) (right_edge x) × Leaves s q × (ends_last x ≡ b)
Closed q b ks _ = Unit {0}

by_cond : (P : State → Type 0) (b : Bool) (x y : State) → (b ≡ true → P x) → P y → P (cond b x y)
by_cond P true x y f g = f refl
by_cond P false x y f g = g

-- what the machine looked at is what the operators ask
asks : (o : Infix) (l : Tree) (s : List Open) (x : Tree) → fits_left o l ≡ true → fits_right o x ≡ true → Begins o (begins_open x) → (names_wanted (open_infix l o ∷ s) ≡ true → is_name_or_text x ≡ true) → Asks o l x
unfolding fits_left fits_right names_wanted
asks Message l s x a c d n = (a, n refl)
asks Beside l s x a c d n = d
asks Tag l s x a c d n = c
asks _ l s x a c d n = tt

close_good : (q : ℕ) (s : List Open) (x : Tree) (b : Bool) (ks : List Token) → Stands ks s x → Each (takes q) (right_edge x) → ends_last x ≡ b → Closed q b ks (close q s x)
unfolding close
close_good q [] x b ks h t n = (h, t, refl, n)
close_good q (open_infix l o ∷ s) x b ks h t n =
    by_cond (Closed q b ks) (takes q (infix_level o)) _ _
    (λ e. by_cond (Closed q b ks) (fits_right o x) (close q s (between l o x)) dead
    (λ f. close_good q s (between l o x) b ks
    (unfold Right left_edge begins_open reads stack_reads in record {
      below = h.below.3;
      right = (h.below.0.right, h.right, h.below.0.takes, h.fits.edge, asks o l s x h.below.1 f h.fits.opening h.fits.named);
      fits = record { edge = (h.below.0.leaves, h.below.0.fits.edge); opening = h.below.0.fits.opening; named = naming s (between l o x) h.below.2 };
      reading = simp append_assoc at h.reading;
    })
    (unfold right_edge in (e, t)) (unfold ends_last in n)) tt)
    (by_cond (Closed q b ks) (leaves (infix_level o) q) (has (open_infix l o ∷ s) x) dead (λ e. (h, t, e, n)) tt)
close_good q (open_prefix o ∷ s) x b ks h t n =
    by_cond (Closed q b ks) (takes q (prefix_level o)) _ _
    (λ e. close_good q s (before o x) b ks
    (unfold Right left_edge begins_open reads stack_reads in record {
      below = h.below.2;
      right = (h.right, h.fits.edge);
      fits = record { edge = tt; opening = h.below.0; named = naming s (before o x) h.below.1 };
      reading = simp append_assoc at h.reading;
    })
    (unfold right_edge in (e, t)) (unfold ends_last in n))
    (by_cond (Closed q b ks) (leaves (prefix_level o) q) (has (open_prefix o ∷ s) x) dead (λ e. (h, t, e, n)) tt)
close_good q (open_round ∷ s) x b ks h t n = (h, t, refl, n)
close_good q (open_brace xs ∷ s) x b ks h t n = (h, t, refl, n)
close_good q (open_call f xs ∷ s) x b ks h t n = (h, t, refl, n)
close_good q (open_part f xs ∷ s) x b ks h t n = (h, t, refl, n)

by_bool : (P : State → Type 0) (b : Bool) (x y : State) → (b ≡ true → P x) → (b ≡ false → P y) → P (cond b x y)
by_bool P true x y f g = f refl
by_bool P false x y f g = g refl

abbrev with_token : List Token → Token → List Token
with_token ks k = ks ++ k ∷ []

behind : (rs : List Token) (bs : List Token) (cs : List Token) (ks : List Token) → rs ++ bs ≡ ks → rs ++ (bs ++ cs) ≡ ks ++ cs
behind rs bs cs ks e = sym (append_assoc rs bs cs) ∙ ap (λ l. l ++ cs) e

-- operands of one token
leaf_good : (s : List Open) (a : Atom) (ks : List Token) → (names_wanted s ≡ true → is_name_or_text (leaf a) ≡ true) → GoodStack s → stack_reads s ≡ ks → Good (with_token ks (token.atom a)) (has s (leaf a))
unfolding Right left_edge begins_open reads right_edge ends_last
leaf_good s a ks n h e = (record { below = h; right = tt; fits = record { edge = tt; opening = opening_true s; named = n }; reading = ap (λ l. l ++ token.atom a ∷ []) e }, λ q. tt, refl)

prefixed_good : (s : List Open) (g : Sign) (ks : List Token) → Plain s → GoodStack s → Opening s false → stack_reads s ≡ ks → (p : Option Prefix) → PrefixIs g p → Good (with_token ks (token.sign g)) (prefixed s p)
unfolding prefixed PrefixIs stack_reads
prefixed_good s g ks n h u e (Some o) i = ((u, n, h), tt, ap₂ (λ l f. l ++ token.sign f ∷ []) e i)
prefixed_good s g ks n h u e None i = tt

empty_square_good : (s : List Open) (ks : List Token) → GoodStack s → stack_reads s ≡ ks → Good (with_token ks token.close_square) (empty_square s)
unfolding empty_square
empty_square_good (open_call f none ∷ s) ks h e =
    unfold Right left_edge begins_open reads right_edge stack_reads ends_last in (
      record {
        below = h.2;
        right = (h.0.right, h.0.takes, tt);
        fits = record { edge = (h.0.leaves, h.0.fits.edge); opening = h.0.fits.opening; named = naming s (call f none) (square_plain s h.0.leaves) };
        reading = rw (← e) (simp append_assoc);
      },
      λ q. tt,
      refl,
    )
empty_square_good _ ks h e = tt

empty_brace_good : (s : List Open) (ks : List Token) → GoodStack s → stack_reads s ≡ ks → Good (with_token ks token.close_brace) (empty_brace s)
unfolding empty_brace
empty_brace_good (open_brace none ∷ s) ks h e =
    unfold Right left_edge begins_open reads right_edge stack_reads ends_last in (
      record {
        below = h.2;
        right = tt;
        fits = record { edge = tt; opening = opening_true s; named = naming s (brace none) h.0 };
        reading = rw (← e) (simp append_assoc);
      },
      λ q. tt,
      refl,
    )
empty_brace_good _ ks h e = tt

second_square_good : (s : List Open) (ks : List Token) → GoodStack s → stack_reads s ≡ ks → Good (with_token ks token.open_square) (second_square s)
unfolding second_square
second_square_good (open_call f none ∷ s) ks h e = unfold reads stack_reads in (h, tt, rw (← e) (simp append_assoc))
second_square_good _ ks h e = tt

-- the tokens that may begin the right operand of a juxtaposition
Opener : Token → Type 0
Opener (token.atom a) = Unit {0}
Opener token.open_round = Unit {0}
Opener token.open_brace = Unit {0}
Opener _ = ⊥

opener_good : (s : List Open) (k : Token) (ks : List Token) → Opener k → Plain s → GoodStack s → stack_reads s ≡ ks → Good (with_token ks k) (start_any s k)
unfolding start_any Opener
opener_good s (token.atom a) ks o n h e = leaf_good s a ks (naming s (leaf a) n) h e
opener_good s token.open_round ks o n h e = unfold stack_reads in ((n, h), tt, ap (λ l. l ++ token.open_round ∷ []) e)
opener_good s token.open_brace ks o n h e = unfold stack_reads reads Right in ((n, tt, h), tt, ap (λ l. l ++ token.open_brace ∷ []) e)
opener_good s (token.sign g) ks o n h e = absurd o
opener_good s token.open_square ks o n h e = absurd o
opener_good s token.close_round ks o n h e = absurd o
opener_good s token.close_square ks o n h e = absurd o
opener_good s token.close_brace ks o n h e = absurd o
opener_good s token.comma ks o n h e = absurd o

any_good : (s : List Open) (k : Token) (ks : List Token) → Plain s → GoodStack s → Opening s false → stack_reads s ≡ ks → Good (with_token ks k) (start_any s k)
unfolding start_any
any_good s (token.atom a) ks n h u e = leaf_good s a ks (naming s (leaf a) n) h e
any_good s (token.sign g) ks n h u e = prefixed_good s g ks n h u e (prefix_of g) (prefix_is g)
any_good s token.open_round ks n h u e = unfold Opener in opener_good s token.open_round ks tt n h e
any_good s token.open_brace ks n h u e = unfold Opener in opener_good s token.open_brace ks tt n h e
any_good s token.open_square ks n h u e = second_square_good s ks h e
any_good s token.close_square ks n h u e = empty_square_good s ks h e
any_good s token.close_brace ks n h u e = empty_brace_good s ks h e
any_good s token.close_round ks n h u e = tt
any_good s token.comma ks n h u e = tt

name_good : (s : List Open) (k : Token) (ks : List Token) → GoodStack s → stack_reads s ≡ ks → Good (with_token ks k) (start_name s k)
unfolding start_name
name_good s (token.atom (name a)) ks h e = leaf_good s (name a) ks (unfold is_name_or_text in λ w. refl) h e
name_good s (token.atom (text a)) ks h e = leaf_good s (text a) ks (unfold is_name_or_text in λ w. refl) h e
name_good s _ ks h e = tt

start_good : (s : List Open) (k : Token) (ks : List Token) → GoodStack s → Opening s false → stack_reads s ≡ ks → Good (with_token ks k) (start s k)
unfolding start
start_good s k ks h u e = by_bool (Good (with_token ks k)) (names_wanted s) (start_name s k) (start_any s k) (λ w. name_good s k ks h e) (λ w. any_good s k ks (unfold Plain in λ v. absurd (cc)) h u e)

-- behind an operand
joined_good : (o : Infix) (b : Bool) (ks : List Token) (ls : List Token) (s : List Open) (x : Tree) → Closed (infix_level o) false ks (has s x) → Begins o false → fits_left o x ≡ b → stack_reads s ++ (reads x ++ sign_tokens (infix_sign o)) ≡ ls
    → Good ls (cond b (wants (open_infix x o ∷ s)) dead)
unfolding stack_reads
joined_good o true ks ls s x h u f e = ((record { right = h.0.right; takes = (h.1, h.3); fits = h.0.fits; leaves = h.2 }, f, infix_plain s o h.2, h.0.below), u, e)
joined_good o false ks ls s x h u f e = tt

join_good : (o : Infix) (g : Sign) (ks : List Token) → infix_sign o ≡ Some g → (st : State) → Closed (infix_level o) false ks st → Good (with_token ks (token.sign g)) (join o st)
unfolding join
join_good o g ks e (has s x) h = by_bool (Good (with_token ks (token.sign g))) (on_tag s && tag_bars o) dead _ (λ w. tt) (λ w. joined_good o (fits_left o x) ks (with_token ks (token.sign g)) s x h (begins_any o g e) refl (rw e (behind (stack_reads s) (reads x) (token.sign g ∷ []) ks h.0.reading)))
join_good o g ks e _ h = tt

end_good : (o : Postfix) (g : Sign) (ks : List Token) → postfix_sign o ≡ g → (st : State) → Closed (postfix_level o) false ks st → Good (with_token ks (token.sign g)) (end_with o st)
unfolding end_with ends_last
end_good o g ks e (has s x) h =
    unfold Right left_edge begins_open reads right_edge in (
      record {
        below = h.0.below;
        right = (h.0.right, (h.1, h.3));
        fits = record { edge = (h.2, h.0.fits.edge); opening = h.0.fits.opening; named = naming s (after x o) (postfix_plain s o h.2) };
        reading = rw e (behind (stack_reads s) (reads x) (token.sign g ∷ []) ks h.0.reading);
      },
      λ q. tt,
      refl,
    )
end_good o g ks e _ h = tt

part_good : (g : Sign) (ks : List Token) → g ≡ sign.Semicolon → (st : State) → Closed 30 false ks st → Good (with_token ks (token.sign g)) (part_with st)
unfolding part_with
part_good g ks e (has s x) h = (record { right = h.0.right; takes = (h.1, h.3); fits = h.0.fits; leaves = h.2 }, h.0.below, rw e (behind (stack_reads s) (reads x) (token.sign sign.Semicolon ∷ []) ks h.0.reading))
part_good g ks e _ h = tt

open_square_good : (ks : List Token) (st : State) → Closed 3 false ks st → Good (with_token ks token.open_square) (open_square st)
unfolding open_square
open_square_good ks (has s x) h =
    unfold Right reads stack_reads in
    ((record { right = h.0.right; takes = (h.1, h.3); fits = h.0.fits; leaves = h.2 }, tt, h.0.below), tt, behind (stack_reads s) (reads x) (token.open_square ∷ []) ks h.0.reading)
open_square_good ks _ h = tt

close_round_good : (b : Bool) (ks : List Token) (st : State) → Closed 31 b ks st → Good (with_token ks token.close_round) (close_round st)
unfolding close_round
close_round_good b ks (has (open_round ∷ s) x) h =
    unfold Right left_edge begins_open reads right_edge stack_reads ends_last in (
      record {
        below = h.0.below.1;
        right = h.0.right;
        fits = record { edge = tt; opening = opening_true s; named = naming s (paren x) h.0.below.0 };
        reading = rw (← h.0.reading) (simp append_assoc);
      },
      λ q. tt,
      refl,
    )
close_round_good b ks _ h = tt

close_brace_good : (b : Bool) (ks : List Token) (st : State) → Closed 31 b ks st → Good (with_token ks token.close_brace) (close_brace st)
unfolding close_brace
close_brace_good b ks (has (open_brace xs ∷ s) x) h =
    unfold Right left_edge begins_open reads right_edge stack_reads ends_last in (
      record {
        below = h.0.below.2;
        right = (h.0.below.1, h.0.right);
        fits = record { edge = tt; opening = opening_true s; named = naming s (brace (more xs x)) h.0.below.0 };
        reading = rw (← h.0.reading) (simp append_assoc);
      },
      λ q. tt,
      refl,
    )
close_brace_good b ks _ h = tt

close_square_good : (b : Bool) (ks : List Token) (st : State) → Closed 31 b ks st → Good (with_token ks token.close_square) (close_square st)
unfolding close_square
close_square_good b ks (has (open_call f xs ∷ s) x) h =
    unfold Right left_edge begins_open reads right_edge stack_reads ends_last in (
      record {
        below = h.0.below.2;
        right = (h.0.below.0.right, h.0.below.0.takes, (h.0.below.1, h.0.right));
        fits = record { edge = (h.0.below.0.leaves, h.0.below.0.fits.edge); opening = h.0.below.0.fits.opening; named = naming s (call f (more xs x)) (square_plain s h.0.below.0.leaves) };
        reading = rw (← h.0.reading) (simp append_assoc);
      },
      λ q. tt,
      refl,
    )
close_square_good b ks (has (open_part f xs ∷ s) x) h =
    unfold Right left_edge begins_open reads right_edge stack_reads ends_last in (
      λ ls e. record {
        below = h.0.below.2;
        right = (h.0.below.0.right, h.0.below.0.takes, h.0.below.1, h.0.right);
        fits = record { edge = (h.0.below.0.leaves, h.0.below.0.fits.edge); opening = h.0.below.0.fits.opening; named = naming s (part f xs x) (square_plain s h.0.below.0.leaves) };
        reading = rw (e, ← h.0.reading) (simp append_assoc);
      },
      λ q. tt,
      refl,
    )
close_square_good b ks _ h = tt

next_element_good : (b : Bool) (ks : List Token) (st : State) → Closed 31 b ks st → Good (with_token ks token.comma) (next_element st)
unfolding next_element
next_element_good b ks (has (open_call f xs ∷ s) x) h = unfold Right reads stack_reads in ((h.0.below.0, (h.0.below.1, h.0.right), h.0.below.2), tt, rw (← h.0.reading) (simp append_assoc))
next_element_good b ks (has (open_part f xs ∷ s) x) h = unfold Right reads stack_reads in ((h.0.below.0, (h.0.below.1, h.0.right), h.0.below.2), tt, rw (← h.0.reading) (simp append_assoc))
next_element_good b ks (has (open_brace xs ∷ s) x) h = unfold Right reads stack_reads in ((h.0.below.0, (h.0.below.1, h.0.right), h.0.below.2), tt, rw (← h.0.reading) (simp append_assoc))
next_element_good b ks _ h = tt

started_good : (k : Token) (b : Bool) (ks : List Token) (s : List Open) (x : Tree) → Opener k → Closed (infix_level Beside) false ks (has s x) → fits_left Beside x ≡ b → Good (with_token ks k) (started (cond b (wants (open_infix x Beside ∷ s)) dead) k)
unfolding started start names_wanted stack_reads infix_sign
started_good k false ks s x o h f = tt
started_good k true ks s x o h f =
    opener_good (open_infix x Beside ∷ s) k ks o (unfold Plain names_wanted in λ w. absurd (cc))
    (record { right = h.0.right; takes = (h.1, h.3); fits = h.0.fits; leaves = h.2 }, f, infix_plain s Beside h.2, h.0.below) (rw append-nil h.0.reading)

barred_good : (k : Token) (c : Bool) (ks : List Token) (s : List Open) (x : Tree) → Opener k → Closed (infix_level Beside) false ks (has s x) → Good (with_token ks k) (started (cond c dead (cond (fits_left Beside x) (wants (open_infix x Beside ∷ s)) dead)) k)
unfolding started
barred_good k true ks s x o h = tt
barred_good k false ks s x o h = started_good k (fits_left Beside x) ks s x o h refl

beside_good : (k : Token) (ks : List Token) → Opener k → (st : State) → Closed (infix_level Beside) false ks st → Good (with_token ks k) (started (join Beside st) k)
unfolding join started
beside_good k ks o (has s x) h = barred_good k (on_tag s && tag_bars Beside) ks s x o h
beside_good k ks o _ h = tt

role_good : (s : List Open) (x : Tree) (g : Sign) (ks : List Token) → Stands ks s x → Free x → ends_last x ≡ false → (r : Role) → RoleIs g r → Good (with_token ks (token.sign g)) (with_role s x r)
unfolding with_role RoleIs
role_good s x g ks h t n (joins o) e = join_good o g ks e (close (infix_level o) s x) (close_good (infix_level o) s x false ks h (t (infix_level o)) n)
role_good s x g ks h t n (ends o) e = end_good o g ks e (close (postfix_level o) s x) (close_good (postfix_level o) s x false ks h (t (postfix_level o)) n)
role_good s x g ks h t n parts e = part_good g ks e (close 30 s x) (close_good 30 s x false ks h (t 30) n)
role_good s x g ks h t n nothing e = tt

go_on_good : (s : List Open) (x : Tree) (k : Token) (ks : List Token) → Stands ks s x → Free x → ends_last x ≡ false → Good (with_token ks k) (go_on s x k)
unfolding go_on
go_on_good s x (token.sign g) ks h t n = role_good s x g ks h t n (role g) (role_is g)
go_on_good s x token.open_square ks h t n = open_square_good ks (close 3 s x) (close_good 3 s x false ks h (t 3) n)
go_on_good s x token.close_round ks h t n = close_round_good false ks (close 31 s x) (close_good 31 s x false ks h (t 31) n)
go_on_good s x token.close_square ks h t n = close_square_good false ks (close 31 s x) (close_good 31 s x false ks h (t 31) n)
go_on_good s x token.close_brace ks h t n = close_brace_good false ks (close 31 s x) (close_good 31 s x false ks h (t 31) n)
go_on_good s x token.comma ks h t n = next_element_good false ks (close 31 s x) (close_good 31 s x false ks h (t 31) n)
go_on_good s x token.open_round ks h t n = beside_good token.open_round ks (unfold Opener in tt) (close (infix_level Beside) s x) (close_good (infix_level Beside) s x false ks h (t (infix_level Beside)) n)
go_on_good s x token.open_brace ks h t n = beside_good token.open_brace ks (unfold Opener in tt) (close (infix_level Beside) s x) (close_good (infix_level Beside) s x false ks h (t (infix_level Beside)) n)
go_on_good s x (token.atom a) ks h t n = beside_good (token.atom a) ks (unfold Opener in tt) (close (infix_level Beside) s x) (close_good (infix_level Beside) s x false ks h (t (infix_level Beside)) n)

-- a `;` that is postfix
last_stands : (s : List Open) (x : Tree) (ks : List Token) → Taken 30 s x → GoodStack s → stack_reads s ++ (reads x ++ token.sign sign.Semicolon ∷ []) ≡ ks → Stands ks s (last x)
unfolding Right left_edge begins_open reads
last_stands s x ks h b e = record {
  below = b;
  right = (h.right, h.takes);
  fits = record { edge = (h.leaves, h.fits.edge); opening = h.fits.opening; named = naming s (last x) (last_plain s h.leaves) };
  reading = e;
}

last_good : (s : List Open) (x : Tree) (k : Token) (ks : List Token) → Stands ks s (last x) → ends_element k ≡ true → Good (with_token ks k) (go_on s (last x) k)
unfolding go_on ends_element right_edge ends_last
last_good s x token.close_round ks h e = close_round_good true ks (close 31 s (last x)) (close_good 31 s (last x) true ks h tt refl)
last_good s x token.close_square ks h e = close_square_good true ks (close 31 s (last x)) (close_good 31 s (last x) true ks h tt refl)
last_good s x token.close_brace ks h e = close_brace_good true ks (close 31 s (last x)) (close_good 31 s (last x) true ks h tt refl)
last_good s x token.comma ks h e = next_element_good true ks (close 31 s (last x)) (close_good 31 s (last x) true ks h tt refl)
last_good s x (token.sign g) ks h e = absurd (cc)
last_good s x token.open_square ks h e = absurd (cc)
last_good s x token.open_round ks h e = absurd (cc)
last_good s x token.open_brace ks h e = absurd (cc)
last_good s x (token.atom a) ks h e = absurd (cc)

-- and one that is infix
semi_good : (s : List Open) (x : Tree) (k : Token) (ks : List Token) → Taken 30 s x → GoodStack s → stack_reads s ++ (reads x ++ token.sign sign.Semicolon ∷ []) ≡ ks → Good (with_token ks k) (start (open_infix x Semi ∷ s) k)
unfolding infix_level infix_sign stack_reads fits_left
semi_good s x k ks h b e = start_good (open_infix x Semi ∷ s) k ks (h, refl, infix_plain s Semi h.leaves, b) tt e

step_good : (ks : List Token) (k : Token) (st : State) → Good ks st → Good (with_token ks k) (step st k)
unfolding step
step_good ks k (wants s) h = start_good s k ks h.0 h.1 h.2
step_good ks k (has s x) h = go_on_good s x k ks h.0 h.1 h.2
step_good ks k (semi s x) h = by_bool (Good (with_token ks k)) (ends_element k) (go_on s (last x) k) (start (open_infix x Semi ∷ s) k) (λ e. last_good s x k ks (last_stands s x ks h.0 h.1 h.2) e) (λ e. semi_good s x k ks h.0 h.1 h.2)
step_good ks token.close_square (shuts s t) h = (h.0 (with_token ks token.close_square) refl, h.1, h.2)
step_good ks token.close_round (shuts s t) h = tt
step_good ks token.close_brace (shuts s t) h = tt
step_good ks token.comma (shuts s t) h = tt
step_good ks (token.sign g) (shuts s t) h = tt
step_good ks token.open_square (shuts s t) h = tt
step_good ks token.open_round (shuts s t) h = tt
step_good ks token.open_brace (shuts s t) h = tt
step_good ks (token.atom a) (shuts s t) h = tt
step_good ks k dead h = tt

run_good : (ls : List Token) (ks : List Token) (st : State) → Good ks st → Good (ks ++ ls) (run st ls)
unfolding run
run_good [] ks st h = rw append-nil h
run_good (l ∷ ls) ks st h = rw append_assoc at (run_good ls (with_token ks l) (step st l) (step_good ks l st h))

finished_good : (b : Bool) (ks : List Token) (t : Tree) (st : State) → Closed 31 b ks st → finished st ≡ Some t → Right t × (reads t ≡ ks)
unfolding finished stack_reads
finished_good b ks t (has [] x) h e = let same : x ≡ t = cc in subst (λ (u : Tree). Right u × (reads u ≡ ks)) same (h.0.right, h.0.reading)
finished_good b ks t (has (o ∷ s) x) h e = absurd (cc)
finished_good b ks t (wants s) h e = absurd (cc)
finished_good b ks t (semi s x) h e = absurd (cc)
finished_good b ks t (shuts s x) h e = absurd (cc)
finished_good b ks t dead h e = absurd (cc)

finish_good : (ks : List Token) (t : Tree) (st : State) → Good ks st → finish st ≡ Some t → Right t × (reads t ≡ ks)
unfolding finish
finish_good ks t (has s x) h e = finished_good false ks t (close 31 s x) (close_good 31 s x false ks h.0 (h.1 31) h.2) e
finish_good ks t (semi s x) h e = finished_good true ks t (close 31 s (last x)) (close_good 31 s (last x) true ks (last_stands s x ks h.0 h.1 h.2) (unfold right_edge in tt) (unfold ends_last in refl)) e
finish_good ks t (wants s) h e = absurd (cc)
finish_good ks t (shuts s x) h e = absurd (cc)
finish_good ks t dead h e = absurd (cc)

-- The machine's tree is right, and reads as the tokens.
pub sound : (ks : List Token) (t : Tree) → parse ks ≡ Some t → Right t × (reads t ≡ ks)
unfolding parse stack_reads
sound ks t e = finish_good ks t (run (wants []) ks) (run_good ks [] (wants []) (tt, tt, refl)) e

pub parse_is : (ks : List Token) (t : Tree) → (parse ks ≡ Some t) ↔ (Right t × (reads t ≡ ks))
parse_is ks t = (λ e. sound ks t e, λ h. ap parse (sym h.1) ∙ complete t h.0)
