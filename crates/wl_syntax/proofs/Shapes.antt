-- What the tokens alone tell of the state that they lead to: whether it wants an operand, and its levels.
use Rattle.std.proofs.Common.{ℕ, Bool, true, false, ◌≡◌, List, [], ◌∷◌, cond, refl, sym, ap, ◌∙◌, subst, ap₂, arith, ◌&&◌, ◌≤◌}
use Rattle.wl_syntax.specs.declared.operator.Infix.{Infix}
use Rattle.wl_syntax.specs.declared.operator.Infix.TheVariants.{Message, PatternTest, Of, Map, Apply, MapApply, StringJoin, Power, Divide, Times, Beside, Plus, Minus, Equal, Unequal, Less, LessEqual, Greater, GreaterEqual, SameQ, UnsameQ, And, Or, Alternatives, Colon, StringExpression, Condition, Rule, RuleDelayed, ReplaceAll, ReplaceRepeated, AddTo, SubtractFrom, TimesBy, DivideBy, Into, Set, SetDelayed, UpSet, UpSetDelayed, Tag, Semi}
use Rattle.wl_syntax.specs.declared.operator.Prefix.TheVariants.{Negate}
use Rattle.wl_syntax.specs.declared.operator.Postfix.{Postfix}
use Rattle.wl_syntax.specs.declared.operator.Postfix.TheVariants.{Increment, Decrement, Factorial, Repeated, RepeatedNull, Function, Unset}
use Rattle.wl_syntax.specs.declared.operator.Sign.{Sign}
use Rattle.wl_syntax.specs.declared.operator.Sign.TheVariants as sign
use Rattle.wl_syntax.specs.Token.{Atom, number, name, pattern, slot, output, text, Token}
use Rattle.wl_syntax.specs.Token as token
use Rattle.wl_syntax.specs.Table.{infix_level, prefix_level, postfix_level, takes, leaves, leans_left, leans_right, role, prefix_of}
use Rattle.wl_syntax.specs.Tree.{Tree, leaf, paren, brace, call, before, after, last, between, none, more, is_definition}
use Rattle.wl_syntax.specs.Machine.{Open, open_infix, open_prefix, open_round, open_brace, open_call, open_part, State, wants, has, semi, shuts, dead, fits_left, fits_right, tag_bars, on_tag, close, join, end_with, part_with, open_square, close_round, close_brace, close_square, next_element, empty_square, empty_brace, second_square, prefixed, names_wanted, start_any, start_name, start, started, with_role, go_on, ends_element, step}
use Rattle.wl_syntax.proofs.Reading.{Leaves}
use Rattle.wl_syntax.specs.declared.tags.Tagging.{Tagging}
use Rattle.wl_syntax.specs.declared.tags.Tagging.TheVariants.{Untagged, Tagged, Dotted}
use Rattle.wl_syntax.specs.Ending.{Closer, round, square, curly, Level, level, Mode, wanted, behind, parted, role_mode, sign_mode, mode_after, dotted_tag, sign_tag, outer_tag, outer_levels, tag_after, levels_after}
use Rattle.wl_syntax.specs.Tags.{is_dot}
use Rattle.wl_syntax.proofs.Endings.{Place, place, has_tag, levels, TagFit, GoodTags, top29}

abbrev pub is_tagged : Tagging → Bool
is_tagged Untagged = false
is_tagged _ = true

abbrev pub places : List Level → List Place
places [] = []
places (level b g ∷ ls) = place b (is_tagged g) ∷ places ls

tagged_still : (g : Tagging) → is_tagged (dotted_tag g) ≡ is_tagged g
tagged_still Untagged = refl
tagged_still _ = refl

not_tagged : (g : Tagging) → false ≡ is_tagged g → g ≡ Untagged
not_tagged Untagged e = refl
not_tagged Tagged e = absurd (cc)
not_tagged Dotted e = absurd (cc)

-- the outermost-but-one level, of the stack and of the ending
pub outer_is : (b : Closer) (l : Bool) (ps : List Place) (ls : List Level) → place b l ∷ ps ≡ places ls → (l ≡ is_tagged (outer_tag ls)) × (ps ≡ places (outer_levels ls))
outer_is b l ps [] e = absurd (cc)
outer_is b l ps (level c g ∷ ls) e = (cc, cc)

-- What the ending sees of a state. A `=.` that was the last token stands on a level that it met; else the operand is no
-- definition.
abbrev pub Dot : Bool → List Open → Tree → Type 0
Dot d s x = (d ≡ true → (y : Tree) × (x ≡ after y Unset) × Leaves s 29) × (d ≡ false → is_definition x ≡ false)

no_dot : (s : List Open) (x : Tree) → is_definition x ≡ false → Dot false s x
no_dot s x e = (λ d. absurd (cc), λ d. e)

abbrev pub Shaped : Mode → Tagging → Bool → List Level → State → Type 0
Shaped m g d ls (wants s) = (m ≡ wanted) × (has_tag s ≡ is_tagged g) × (levels s ≡ places ls) × GoodTags s × (d ≡ false)
Shaped m g d ls (has s x) = (m ≡ behind) × (has_tag s ≡ is_tagged g) × (levels s ≡ places ls) × GoodTags s × Dot d s x
Shaped m g d ls (semi s x) = (m ≡ parted) × (g ≡ Untagged) × (levels s ≡ places ls) × GoodTags s × (d ≡ false) × (has_tag s ≡ false)
Shaped m g d ls (shuts s t) = (m ≡ behind) × (g ≡ Untagged) × (place square (has_tag s) ∷ levels s ≡ places ls) × GoodTags s × (d ≡ false) × (is_definition t ≡ false)
Shaped m g d ls dead = Unit {0}

abbrev pub Kept : ℕ → Bool → List Place → State → Type 0
Kept q l ps (has s x) = GoodTags s × (levels s ≡ ps) × Leaves s q × (q ≤ 29 → has_tag s ≡ l)
Kept q l ps _ = Unit {0}

low_tagged : (q : ℕ) (l : Tree) (o : Infix) (s : List Open) → takes q (infix_level o) ≡ true → q ≤ 29 → has_tag (open_infix l o ∷ s) ≡ has_tag s
unfolding takes infix_level leans_left leans_right has_tag
low_tagged q l Set s h e = absurd (grind arith)
low_tagged q l SetDelayed s h e = absurd (grind arith)
low_tagged q l Tag s h e = absurd (grind arith)
low_tagged q l _ s h e = refl

by_cond : (P : State → Type 0) (b : Bool) (x y : State) → (b ≡ true → P x) → P y → P (cond b x y)
by_cond P true x y f g = f refl
by_cond P false x y f g = g

close_kept : (q : ℕ) (s : List Open) (x : Tree) (l : Bool) (ps : List Place) → GoodTags s → levels s ≡ ps → (q ≤ 29 → has_tag s ≡ l) → Kept q l ps (close q s x)
unfolding close
close_kept q [] x l ps g e t = (g, e, refl, t)
close_kept q (open_infix k o ∷ s) x l ps g e t =
    by_cond (Kept q l ps) (takes q (infix_level o)) _ _
    (λ a. by_cond (Kept q l ps) (fits_right o x) (close q s (between k o x)) dead (λ f. close_kept q s (between k o x) l ps g.1 (unfold levels in e) (λ z. sym (low_tagged q k o s a z) ∙ t z)) tt)
    (by_cond (Kept q l ps) (leaves (infix_level o) q) (has (open_infix k o ∷ s) x) dead (λ a. (g, e, a, t)) tt)
close_kept q (open_prefix o ∷ s) x l ps g e t =
    by_cond (Kept q l ps) (takes q (prefix_level o)) (close q s (before o x)) _
    (λ a. close_kept q s (before o x) l ps g (unfold levels in e) (λ z. unfold has_tag in t z))
    (by_cond (Kept q l ps) (leaves (prefix_level o) q) (has (open_prefix o ∷ s) x) dead (λ a. (g, e, a, t)) tt)
close_kept q (open_round ∷ s) x l ps g e t = (g, e, refl, t)
close_kept q (open_brace xs ∷ s) x l ps g e t = (g, e, refl, t)
close_kept q (open_call f xs ∷ s) x l ps g e t = (g, e, refl, t)
close_kept q (open_part f xs ∷ s) x l ps g e t = (g, e, refl, t)

-- nothing is open in the level behind closing for 30
bare : (s : List Open) → Leaves s 30 → has_tag s ≡ false
unfolding has_tag leaves leans_right infix_level prefix_level
bare [] h = refl
bare (open_round ∷ s) h = refl
bare (open_brace xs ∷ s) h = refl
bare (open_call f xs ∷ s) h = refl
bare (open_part f xs ∷ s) h = refl
bare (open_prefix Negate ∷ s) h = absurd (cc)
bare (open_prefix _ ∷ s) h = absurd (cc)
bare (open_infix l Message ∷ s) h = absurd (cc)
bare (open_infix l _ ∷ s) h = absurd (cc)

by_tag : (s : List Open) (A : Type 0) → (has_tag s ≡ false → A) → (has_tag s ≡ true → A) → A
by_tag s A f g = go (has_tag s) refl
  where
    go : (b : Bool) → has_tag s ≡ b → A
    go true e = g e
    go false e = f e

-- an operator of level 29 other than `=` finds no open `/:`
unbarred_none : (s : List Open) → Leaves s 29 → GoodTags s → on_tag s ≡ false → has_tag s ≡ false
unbarred_none s h g n = by_tag s (has_tag s ≡ false) (λ e. e) (λ e. let f = top29 s h g e in absurd (cc))

by_bool : (P : State → Type 0) (b : Bool) (x y : State) → (b ≡ true → P x) → (b ≡ false → P y) → P (cond b x y)
by_bool P true x y f g = f refl
by_bool P false x y f g = g refl

and_true : (b : Bool) → (b && true) ≡ false → b ≡ false
and_true true h = h
and_true false h = refl

join_shaped : (o : Infix) (g k : Tagging) (ls : List Level)
    → ((s : List Open) (x : Tree) → Kept (infix_level o) (is_tagged g) (places ls) (has s x) → (on_tag s && tag_bars o) ≡ false → TagFit o s × (has_tag (open_infix x o ∷ s) ≡ is_tagged k))
    → (st : State) → Kept (infix_level o) (is_tagged g) (places ls) st → Shaped wanted k false ls (join o st)
unfolding join
join_shaped o g k ls fit (has s x) h =
    by_bool (Shaped wanted k false ls) (on_tag s && tag_bars o) dead _ (λ a. tt)
    (λ a. let f = fit s x h a in by_cond (Shaped wanted k false ls) (fits_left o x) (wants (open_infix x o ∷ s)) dead (λ c. (refl, f.1, unfold levels in h.1, (f.0, h.0), refl)) tt)
join_shaped o g k ls fit _ h = tt

end_shaped : (o : Postfix) (g k : Tagging) (d : Bool) (ls : List Level) → postfix_level o ≤ 29 → is_tagged g ≡ is_tagged k → ((s : List Open) (x : Tree) → Leaves s (postfix_level o) → Dot d s (after x o))
    → (st : State) → Kept (postfix_level o) (is_tagged g) (places ls) st → Shaped behind k d ls (end_with o st)
unfolding end_with
end_shaped o g k d ls e i f (has s x) h = (refl, h.3 e ∙ i, h.1, h.0, f s x h.2)
end_shaped o g k d ls e i f _ h = tt

part_shaped : (l : Bool) (ls : List Level) (st : State) → Kept 30 l (places ls) st → Shaped parted Untagged false ls (part_with st)
unfolding part_with
part_shaped l ls (has s x) h = (refl, refl, h.1, h.0, refl, bare s h.2)
part_shaped l ls _ h = tt

role_shaped : (c : Sign) (s : List Open) (x : Tree) (g : Tagging) (ls : List Level) → GoodTags s → has_tag s ≡ is_tagged g → levels s ≡ places ls → Shaped (role_mode (role c)) (sign_tag g c) (is_dot (token.sign c)) ls (with_role s x (role c))
unfolding role with_role role_mode sign_tag is_dot infix_level postfix_level has_tag tag_bars is_definition
role_shaped sign.ColonColon s x g ls t k e = join_shaped Message g g ls (λ s x h a. (tt, h.3 (omega arith))) (close 1 s x) (close_kept 1 s x (is_tagged g) (places ls) t e (λ z. k))
role_shaped sign.Question s x g ls t k e = join_shaped PatternTest g g ls (λ s x h a. (tt, h.3 (omega arith))) (close 2 s x) (close_kept 2 s x (is_tagged g) (places ls) t e (λ z. k))
role_shaped sign.At s x g ls t k e = join_shaped Of g g ls (λ s x h a. (tt, h.3 (omega arith))) (close 5 s x) (close_kept 5 s x (is_tagged g) (places ls) t e (λ z. k))
role_shaped sign.SlashAt s x g ls t k e = join_shaped Map g g ls (λ s x h a. (tt, h.3 (omega arith))) (close 6 s x) (close_kept 6 s x (is_tagged g) (places ls) t e (λ z. k))
role_shaped sign.AtAt s x g ls t k e = join_shaped Apply g g ls (λ s x h a. (tt, h.3 (omega arith))) (close 6 s x) (close_kept 6 s x (is_tagged g) (places ls) t e (λ z. k))
role_shaped sign.AtAtAt s x g ls t k e = join_shaped MapApply g g ls (λ s x h a. (tt, h.3 (omega arith))) (close 6 s x) (close_kept 6 s x (is_tagged g) (places ls) t e (λ z. k))
role_shaped sign.LessGreater s x g ls t k e = join_shaped StringJoin g g ls (λ s x h a. (tt, h.3 (omega arith))) (close 8 s x) (close_kept 8 s x (is_tagged g) (places ls) t e (λ z. k))
role_shaped sign.Caret s x g ls t k e = join_shaped Power g g ls (λ s x h a. (tt, h.3 (omega arith))) (close 9 s x) (close_kept 9 s x (is_tagged g) (places ls) t e (λ z. k))
role_shaped sign.Slash s x g ls t k e = join_shaped Divide g g ls (λ s x h a. (tt, h.3 (omega arith))) (close 11 s x) (close_kept 11 s x (is_tagged g) (places ls) t e (λ z. k))
role_shaped sign.Star s x g ls t k e = join_shaped Times g g ls (λ s x h a. (tt, h.3 (omega arith))) (close 12 s x) (close_kept 12 s x (is_tagged g) (places ls) t e (λ z. k))
role_shaped sign.Plus s x g ls t k e = join_shaped Plus g g ls (λ s x h a. (tt, h.3 (omega arith))) (close 13 s x) (close_kept 13 s x (is_tagged g) (places ls) t e (λ z. k))
role_shaped sign.Dash s x g ls t k e = join_shaped Minus g g ls (λ s x h a. (tt, h.3 (omega arith))) (close 13 s x) (close_kept 13 s x (is_tagged g) (places ls) t e (λ z. k))
role_shaped sign.EqualsEquals s x g ls t k e = join_shaped Equal g g ls (λ s x h a. (tt, h.3 (omega arith))) (close 14 s x) (close_kept 14 s x (is_tagged g) (places ls) t e (λ z. k))
role_shaped sign.BangEquals s x g ls t k e = join_shaped Unequal g g ls (λ s x h a. (tt, h.3 (omega arith))) (close 14 s x) (close_kept 14 s x (is_tagged g) (places ls) t e (λ z. k))
role_shaped sign.Less s x g ls t k e = join_shaped Less g g ls (λ s x h a. (tt, h.3 (omega arith))) (close 14 s x) (close_kept 14 s x (is_tagged g) (places ls) t e (λ z. k))
role_shaped sign.LessEquals s x g ls t k e = join_shaped LessEqual g g ls (λ s x h a. (tt, h.3 (omega arith))) (close 14 s x) (close_kept 14 s x (is_tagged g) (places ls) t e (λ z. k))
role_shaped sign.Greater s x g ls t k e = join_shaped Greater g g ls (λ s x h a. (tt, h.3 (omega arith))) (close 14 s x) (close_kept 14 s x (is_tagged g) (places ls) t e (λ z. k))
role_shaped sign.GreaterEquals s x g ls t k e = join_shaped GreaterEqual g g ls (λ s x h a. (tt, h.3 (omega arith))) (close 14 s x) (close_kept 14 s x (is_tagged g) (places ls) t e (λ z. k))
role_shaped sign.EqualsEqualsEquals s x g ls t k e = join_shaped SameQ g g ls (λ s x h a. (tt, h.3 (omega arith))) (close 15 s x) (close_kept 15 s x (is_tagged g) (places ls) t e (λ z. k))
role_shaped sign.EqualsBangEquals s x g ls t k e = join_shaped UnsameQ g g ls (λ s x h a. (tt, h.3 (omega arith))) (close 15 s x) (close_kept 15 s x (is_tagged g) (places ls) t e (λ z. k))
role_shaped sign.AmpersandAmpersand s x g ls t k e = join_shaped And g g ls (λ s x h a. (tt, h.3 (omega arith))) (close 17 s x) (close_kept 17 s x (is_tagged g) (places ls) t e (λ z. k))
role_shaped sign.BarBar s x g ls t k e = join_shaped Or g g ls (λ s x h a. (tt, h.3 (omega arith))) (close 18 s x) (close_kept 18 s x (is_tagged g) (places ls) t e (λ z. k))
role_shaped sign.Bar s x g ls t k e = join_shaped Alternatives g g ls (λ s x h a. (tt, h.3 (omega arith))) (close 20 s x) (close_kept 20 s x (is_tagged g) (places ls) t e (λ z. k))
role_shaped sign.Colon s x g ls t k e = join_shaped Colon g g ls (λ s x h a. (tt, h.3 (omega arith))) (close 21 s x) (close_kept 21 s x (is_tagged g) (places ls) t e (λ z. k))
role_shaped sign.TildeTilde s x g ls t k e = join_shaped StringExpression g g ls (λ s x h a. (tt, h.3 (omega arith))) (close 22 s x) (close_kept 22 s x (is_tagged g) (places ls) t e (λ z. k))
role_shaped sign.SlashSemicolon s x g ls t k e = join_shaped Condition g g ls (λ s x h a. (tt, h.3 (omega arith))) (close 23 s x) (close_kept 23 s x (is_tagged g) (places ls) t e (λ z. k))
role_shaped sign.DashGreater s x g ls t k e = join_shaped Rule g g ls (λ s x h a. (tt, h.3 (omega arith))) (close 24 s x) (close_kept 24 s x (is_tagged g) (places ls) t e (λ z. k))
role_shaped sign.ColonGreater s x g ls t k e = join_shaped RuleDelayed g g ls (λ s x h a. (tt, h.3 (omega arith))) (close 24 s x) (close_kept 24 s x (is_tagged g) (places ls) t e (λ z. k))
role_shaped sign.SlashDot s x g ls t k e = join_shaped ReplaceAll g g ls (λ s x h a. (tt, h.3 (omega arith))) (close 25 s x) (close_kept 25 s x (is_tagged g) (places ls) t e (λ z. k))
role_shaped sign.SlashSlashDot s x g ls t k e = join_shaped ReplaceRepeated g g ls (λ s x h a. (tt, h.3 (omega arith))) (close 25 s x) (close_kept 25 s x (is_tagged g) (places ls) t e (λ z. k))
role_shaped sign.PlusEquals s x g ls t k e = join_shaped AddTo g g ls (λ s x h a. (tt, h.3 (omega arith))) (close 26 s x) (close_kept 26 s x (is_tagged g) (places ls) t e (λ z. k))
role_shaped sign.DashEquals s x g ls t k e = join_shaped SubtractFrom g g ls (λ s x h a. (tt, h.3 (omega arith))) (close 26 s x) (close_kept 26 s x (is_tagged g) (places ls) t e (λ z. k))
role_shaped sign.StarEquals s x g ls t k e = join_shaped TimesBy g g ls (λ s x h a. (tt, h.3 (omega arith))) (close 26 s x) (close_kept 26 s x (is_tagged g) (places ls) t e (λ z. k))
role_shaped sign.SlashEquals s x g ls t k e = join_shaped DivideBy g g ls (λ s x h a. (tt, h.3 (omega arith))) (close 26 s x) (close_kept 26 s x (is_tagged g) (places ls) t e (λ z. k))
role_shaped sign.SlashSlash s x g ls t k e = join_shaped Into g g ls (λ s x h a. (tt, h.3 (omega arith))) (close 28 s x) (close_kept 28 s x (is_tagged g) (places ls) t e (λ z. k))
role_shaped sign.Equals s x g ls t k e = join_shaped Set g Untagged ls (λ s x h a. (λ w. top29 s h.2 h.0 w, refl)) (close 29 s x) (close_kept 29 s x (is_tagged g) (places ls) t e (λ z. k))
role_shaped sign.ColonEquals s x g ls t k e = join_shaped SetDelayed g Untagged ls (λ s x h a. (λ w. top29 s h.2 h.0 w, refl)) (close 29 s x) (close_kept 29 s x (is_tagged g) (places ls) t e (λ z. k))
role_shaped sign.CaretEquals s x g ls t k e = join_shaped UpSet g g ls (λ s x h a. (unbarred_none s h.2 h.0 (and_true (on_tag s) a), h.3 (omega arith))) (close 29 s x) (close_kept 29 s x (is_tagged g) (places ls) t e (λ z. k))
role_shaped sign.CaretColonEquals s x g ls t k e = join_shaped UpSetDelayed g g ls (λ s x h a. (unbarred_none s h.2 h.0 (and_true (on_tag s) a), h.3 (omega arith))) (close 29 s x) (close_kept 29 s x (is_tagged g) (places ls) t e (λ z. k))
role_shaped sign.SlashColon s x g ls t k e = join_shaped Tag g Tagged ls (λ s x h a. (unbarred_none s h.2 h.0 (and_true (on_tag s) a), refl)) (close 29 s x) (close_kept 29 s x (is_tagged g) (places ls) t e (λ z. k))
role_shaped sign.Semicolon s x g ls t k e = part_shaped (is_tagged g) ls (close 30 s x) (close_kept 30 s x (is_tagged g) (places ls) t e (λ z. k))
role_shaped sign.PlusPlus s x g ls t k e = end_shaped Increment g g false ls (omega arith) refl (λ s x h. no_dot s (after x Increment) refl) (close 4 s x) (close_kept 4 s x (is_tagged g) (places ls) t e (λ z. k))
role_shaped sign.MinusMinus s x g ls t k e = end_shaped Decrement g g false ls (omega arith) refl (λ s x h. no_dot s (after x Decrement) refl) (close 4 s x) (close_kept 4 s x (is_tagged g) (places ls) t e (λ z. k))
role_shaped sign.Bang s x g ls t k e = end_shaped Factorial g g false ls (omega arith) refl (λ s x h. no_dot s (after x Factorial) refl) (close 7 s x) (close_kept 7 s x (is_tagged g) (places ls) t e (λ z. k))
role_shaped sign.DotDot s x g ls t k e = end_shaped Repeated g g false ls (omega arith) refl (λ s x h. no_dot s (after x Repeated) refl) (close 19 s x) (close_kept 19 s x (is_tagged g) (places ls) t e (λ z. k))
role_shaped sign.DotDotDot s x g ls t k e = end_shaped RepeatedNull g g false ls (omega arith) refl (λ s x h. no_dot s (after x RepeatedNull) refl) (close 19 s x) (close_kept 19 s x (is_tagged g) (places ls) t e (λ z. k))
role_shaped sign.Ampersand s x g ls t k e = end_shaped Function g g false ls (omega arith) refl (λ s x h. no_dot s (after x Function) refl) (close 27 s x) (close_kept 27 s x (is_tagged g) (places ls) t e (λ z. k))
role_shaped sign.EqualsDot s x g ls t k e = end_shaped Unset g (dotted_tag g) true ls (omega arith) (sym (tagged_still g)) (λ s x h. (λ d. (x, refl, h), λ d. absurd (cc))) (close 29 s x) (close_kept 29 s x (is_tagged g) (places ls) t e (λ z. k))
role_shaped sign.Unused s x g ls t k e = tt

open_square_shaped : (g : Tagging) (ls : List Level) (st : State) → Kept 3 (is_tagged g) (places ls) st → Shaped wanted Untagged false (level square g ∷ ls) (open_square st)
unfolding open_square has_tag levels
open_square_shaped g ls (has s x) h = (refl, refl, ap₂ (λ a b. place square a ∷ b) (h.3 (omega arith)) h.1, h.0, refl)
open_square_shaped g ls _ h = tt

close_round_shaped : (l : Bool) (ls : List Level) (st : State) → Kept 31 l (places ls) st → Shaped behind (outer_tag ls) false (outer_levels ls) (close_round st)
unfolding close_round levels is_definition
close_round_shaped l ls (has (open_round ∷ s) x) h = let o = outer_is round (has_tag s) (levels s) ls h.1 in (refl, o.0, o.1, h.0, no_dot s (paren x) refl)
close_round_shaped l ls _ h = tt

close_brace_shaped : (l : Bool) (ls : List Level) (st : State) → Kept 31 l (places ls) st → Shaped behind (outer_tag ls) false (outer_levels ls) (close_brace st)
unfolding close_brace levels is_definition
close_brace_shaped l ls (has (open_brace xs ∷ s) x) h = let o = outer_is curly (has_tag s) (levels s) ls h.1 in (refl, o.0, o.1, h.0, no_dot s (brace (more xs x)) refl)
close_brace_shaped l ls _ h = tt

close_square_shaped : (l : Bool) (ls : List Level) (st : State) → Kept 31 l (places ls) st → Shaped behind (outer_tag ls) false (outer_levels ls) (close_square st)
unfolding close_square levels is_definition
close_square_shaped l ls (has (open_call f xs ∷ s) x) h = let o = outer_is square (has_tag s) (levels s) ls h.1 in (refl, o.0, o.1, h.0, no_dot s (call f (more xs x)) refl)
close_square_shaped l ls (has (open_part f xs ∷ s) x) h = let o = outer_is square false (place square (has_tag s) ∷ levels s) ls h.1 in (refl, not_tagged (outer_tag ls) o.0, o.1, h.0, refl, refl)
close_square_shaped l ls _ h = tt

next_shaped : (l : Bool) (ls : List Level) (st : State) → Kept 31 l (places ls) st → Shaped wanted Untagged false ls (next_element st)
unfolding next_element levels has_tag
next_shaped l ls (has (open_call f xs ∷ s) x) h = (refl, refl, h.1, h.0, refl)
next_shaped l ls (has (open_part f xs ∷ s) x) h = (refl, refl, h.1, h.0, refl)
next_shaped l ls (has (open_brace xs ∷ s) x) h = (refl, refl, h.1, h.0, refl)
next_shaped l ls _ h = tt

-- a token where an operand is wanted
prefixed_shaped : (c : Sign) (s : List Open) (g : Tagging) (ls : List Level) → GoodTags s → has_tag s ≡ is_tagged g → levels s ≡ places ls → Shaped wanted (sign_tag g c) (is_dot (token.sign c)) ls (prefixed s (prefix_of c))
unfolding prefixed prefix_of sign_tag is_dot has_tag levels
prefixed_shaped sign.Dash s g ls k t e = (refl, t, e, k, refl)
prefixed_shaped sign.PlusPlus s g ls k t e = (refl, t, e, k, refl)
prefixed_shaped sign.MinusMinus s g ls k t e = (refl, t, e, k, refl)
prefixed_shaped sign.Bang s g ls k t e = (refl, t, e, k, refl)
prefixed_shaped _ s g ls k t e = tt

empty_square_shaped : (s : List Open) (ls : List Level) → GoodTags s → levels s ≡ places ls → Shaped behind (outer_tag ls) false (outer_levels ls) (empty_square s)
unfolding empty_square levels is_definition
empty_square_shaped (open_call f none ∷ s) ls g e = let o = outer_is square (has_tag s) (levels s) ls e in (refl, o.0, o.1, g, no_dot s (call f none) refl)
empty_square_shaped _ ls g e = tt

empty_brace_shaped : (s : List Open) (ls : List Level) → GoodTags s → levels s ≡ places ls → Shaped behind (outer_tag ls) false (outer_levels ls) (empty_brace s)
unfolding empty_brace levels is_definition
empty_brace_shaped (open_brace none ∷ s) ls g e = let o = outer_is curly (has_tag s) (levels s) ls e in (refl, o.0, o.1, g, no_dot s (brace none) refl)
empty_brace_shaped _ ls g e = tt

second_shaped : (s : List Open) (g : Tagging) (ls : List Level) → GoodTags s → has_tag s ≡ is_tagged g → levels s ≡ places ls → Shaped wanted Untagged false (level square g ∷ ls) (second_square s)
unfolding second_square levels has_tag
second_shaped (open_call f none ∷ s) g ls k t e = (refl, refl, ap₂ (λ a b. place square a ∷ b) t e, k, refl)
second_shaped _ g ls k t e = tt

any_shaped : (s : List Open) (c : Token) (g : Tagging) (ls : List Level) → GoodTags s → has_tag s ≡ is_tagged g → levels s ≡ places ls → Shaped (mode_after wanted c) (tag_after g ls c) (is_dot c) (levels_after g ls c) (start_any s c)
unfolding start_any mode_after sign_mode tag_after levels_after
any_shaped s (token.sign c) g ls k t e = prefixed_shaped c s g ls k t e
any_shaped s (token.atom a) g ls k t e = unfold is_dot is_definition in (refl, t, e, k, no_dot s (leaf a) refl)
any_shaped s token.open_round g ls k t e = unfold is_dot has_tag levels in (refl, refl, ap₂ (λ a b. place round a ∷ b) t e, k, refl)
any_shaped s token.open_brace g ls k t e = unfold is_dot has_tag levels in (refl, refl, ap₂ (λ a b. place curly a ∷ b) t e, k, refl)
any_shaped s token.open_square g ls k t e = unfold is_dot in second_shaped s g ls k t e
any_shaped s token.close_square g ls k t e = unfold is_dot in empty_square_shaped s ls k e
any_shaped s token.close_brace g ls k t e = unfold is_dot in empty_brace_shaped s ls k e
any_shaped s token.close_round g ls k t e = tt
any_shaped s token.comma g ls k t e = tt

name_shaped : (s : List Open) (c : Token) (g : Tagging) (ls : List Level) → GoodTags s → has_tag s ≡ is_tagged g → levels s ≡ places ls → Shaped (mode_after wanted c) (tag_after g ls c) (is_dot c) (levels_after g ls c) (start_name s c)
unfolding start_name mode_after tag_after levels_after is_dot is_definition
name_shaped s (token.atom (name a)) g ls k t e = (refl, t, e, k, no_dot s (leaf (name a)) refl)
name_shaped s (token.atom (text a)) g ls k t e = (refl, t, e, k, no_dot s (leaf (text a)) refl)
name_shaped s _ g ls k t e = tt

start_shaped : (s : List Open) (c : Token) (g : Tagging) (ls : List Level) → GoodTags s → has_tag s ≡ is_tagged g → levels s ≡ places ls → Shaped (mode_after wanted c) (tag_after g ls c) (is_dot c) (levels_after g ls c) (start s c)
unfolding start
start_shaped s c g ls k t e = by_cond (Shaped (mode_after wanted c) (tag_after g ls c) (is_dot c) (levels_after g ls c)) (names_wanted s) (start_name s c) (start_any s c) (λ w. name_shaped s c g ls k t e) (any_shaped s c g ls k t e)

started_shaped : (c : Token) (g : Tagging) (ls : List Level) (st : State) → Shaped wanted g false ls st → Shaped (mode_after wanted c) (tag_after g ls c) (is_dot c) (levels_after g ls c) (started st c)
unfolding started
started_shaped c g ls (wants s) h = start_shaped s c g ls h.3 h.1 h.2
started_shaped c g ls _ h = tt

beside_shaped : (c : Token) (s : List Open) (x : Tree) (g : Tagging) (ls : List Level) → GoodTags s → has_tag s ≡ is_tagged g → levels s ≡ places ls → Shaped (mode_after wanted c) (tag_after g ls c) (is_dot c) (levels_after g ls c) (started (join Beside (close (infix_level Beside) s x)) c)
unfolding infix_level has_tag
beside_shaped c s x g ls k t e = started_shaped c g ls (join Beside (close 12 s x)) (join_shaped Beside g g ls (λ s x h a. (tt, h.3 (omega arith))) (close 12 s x) (close_kept 12 s x (is_tagged g) (places ls) k e (λ z. t)))

go_on_shaped : (s : List Open) (x : Tree) (c : Token) (g : Tagging) (ls : List Level) → GoodTags s → has_tag s ≡ is_tagged g → levels s ≡ places ls → Shaped (mode_after behind c) (tag_after g ls c) (is_dot c) (levels_after g ls c) (go_on s x c)
unfolding go_on mode_after sign_mode tag_after levels_after
go_on_shaped s x (token.sign a) g ls k t e = role_shaped a s x g ls k t e
go_on_shaped s x token.open_square g ls k t e = unfold is_dot in open_square_shaped g ls (close 3 s x) (close_kept 3 s x (is_tagged g) (places ls) k e (λ z. t))
go_on_shaped s x token.close_round g ls k t e = unfold is_dot in close_round_shaped (is_tagged g) ls (close 31 s x) (close_kept 31 s x (is_tagged g) (places ls) k e (λ z. t))
go_on_shaped s x token.close_square g ls k t e = unfold is_dot in close_square_shaped (is_tagged g) ls (close 31 s x) (close_kept 31 s x (is_tagged g) (places ls) k e (λ z. t))
go_on_shaped s x token.close_brace g ls k t e = unfold is_dot in close_brace_shaped (is_tagged g) ls (close 31 s x) (close_kept 31 s x (is_tagged g) (places ls) k e (λ z. t))
go_on_shaped s x token.comma g ls k t e = unfold is_dot in next_shaped (is_tagged g) ls (close 31 s x) (close_kept 31 s x (is_tagged g) (places ls) k e (λ z. t))
go_on_shaped s x token.open_round g ls k t e = beside_shaped token.open_round s x g ls k t e
go_on_shaped s x token.open_brace g ls k t e = beside_shaped token.open_brace s x g ls k t e
go_on_shaped s x (token.atom a) g ls k t e = beside_shaped (token.atom a) s x g ls k t e

mode_parted : (c : Token) → mode_after wanted c ≡ mode_after parted c
unfolding mode_after sign_mode
mode_parted (token.sign g) = refl
mode_parted _ = refl

last_shaped : (s : List Open) (x : Tree) (c : Token) (g : Tagging) (ls : List Level) → GoodTags s → has_tag s ≡ is_tagged g → levels s ≡ places ls → ends_element c ≡ true → Shaped (mode_after parted c) (tag_after g ls c) (is_dot c) (levels_after g ls c) (go_on s (last x) c)
unfolding go_on mode_after tag_after levels_after is_dot ends_element
last_shaped s x token.close_round g ls k t e a = close_round_shaped (is_tagged g) ls (close 31 s (last x)) (close_kept 31 s (last x) (is_tagged g) (places ls) k e (λ z. t))
last_shaped s x token.close_square g ls k t e a = close_square_shaped (is_tagged g) ls (close 31 s (last x)) (close_kept 31 s (last x) (is_tagged g) (places ls) k e (λ z. t))
last_shaped s x token.close_brace g ls k t e a = close_brace_shaped (is_tagged g) ls (close 31 s (last x)) (close_kept 31 s (last x) (is_tagged g) (places ls) k e (λ z. t))
last_shaped s x token.comma g ls k t e a = next_shaped (is_tagged g) ls (close 31 s (last x)) (close_kept 31 s (last x) (is_tagged g) (places ls) k e (λ z. t))
last_shaped s x (token.sign c) g ls k t e a = absurd (cc)
last_shaped s x (token.atom c) g ls k t e a = absurd (cc)
last_shaped s x token.open_round g ls k t e a = absurd (cc)
last_shaped s x token.open_square g ls k t e a = absurd (cc)
last_shaped s x token.open_brace g ls k t e a = absurd (cc)

semi_shaped : (s : List Open) (x : Tree) (c : Token) (g : Tagging) (ls : List Level) → GoodTags s → has_tag s ≡ false → has_tag s ≡ is_tagged g → levels s ≡ places ls → Shaped (mode_after parted c) (tag_after g ls c) (is_dot c) (levels_after g ls c) (start (open_infix x Semi ∷ s) c)
unfolding has_tag levels
semi_shaped s x c g ls k n t e = subst (λ m. Shaped m (tag_after g ls c) (is_dot c) (levels_after g ls c) (start (open_infix x Semi ∷ s) c)) (mode_parted c) (start_shaped (open_infix x Semi ∷ s) c g ls (n, k) t e)

shuts_shaped : (s : List Open) (t : Tree) (c : Token) (g : Tagging) (ls : List Level) → GoodTags s → place square (has_tag s) ∷ levels s ≡ places ls → is_definition t ≡ false → Shaped (mode_after behind c) (tag_after g ls c) (is_dot c) (levels_after g ls c) (step (shuts s t) c)
unfolding step mode_after tag_after levels_after is_dot
shuts_shaped s t token.close_square g ls k e n = let o = outer_is square (has_tag s) (levels s) ls e in (refl, o.0, o.1, k, no_dot s t n)
shuts_shaped s t (token.sign c) g ls k e n = tt
shuts_shaped s t (token.atom c) g ls k e n = tt
shuts_shaped s t token.open_round g ls k e n = tt
shuts_shaped s t token.open_square g ls k e n = tt
shuts_shaped s t token.open_brace g ls k e n = tt
shuts_shaped s t token.close_round g ls k e n = tt
shuts_shaped s t token.close_brace g ls k e n = tt
shuts_shaped s t token.comma g ls k e n = tt

semi_step : (s : List Open) (x : Tree) (c : Token) (g : Tagging) (ls : List Level) → GoodTags s → has_tag s ≡ false → has_tag s ≡ is_tagged g → levels s ≡ places ls → Shaped (mode_after parted c) (tag_after g ls c) (is_dot c) (levels_after g ls c) (step (semi s x) c)
unfolding step
semi_step s x c g ls k n t e = by_bool (Shaped (mode_after parted c) (tag_after g ls c) (is_dot c) (levels_after g ls c)) (ends_element c) (go_on s (last x) c) (start (open_infix x Semi ∷ s) c) (λ a. last_shaped s x c g ls k t e a) (λ a. semi_shaped s x c g ls k n t e)

plain_level : (s : List Open) (g : Tagging) → g ≡ Untagged → has_tag s ≡ false → has_tag s ≡ is_tagged g
plain_level s g i n = n ∙ sym (ap is_tagged i)

pub step_shaped : (c : Token) (m : Mode) (g : Tagging) (d : Bool) (ls : List Level) (st : State) → Shaped m g d ls st → Shaped (mode_after m c) (tag_after g ls c) (is_dot c) (levels_after g ls c) (step st c)
step_shaped c m g d ls (wants s) h = rw h.0 (unfold step in start_shaped s c g ls h.3 h.1 h.2)
step_shaped c m g d ls (has s x) h = rw h.0 (unfold step in go_on_shaped s x c g ls h.3 h.1 h.2)
step_shaped c m g d ls (semi s x) h = rw h.0 (semi_step s x c g ls h.3 h.5 (plain_level s g h.1 h.5) h.2)
step_shaped c m g d ls (shuts s t) h = rw h.0 (shuts_shaped s t c g ls h.3 h.2 h.5)
step_shaped c m g d ls dead h = unfold step in tt
