-- From a stack that is open, the missing definitions and the closing signs lead to a tree.
use Rattle.std.proofs.Common.{ℕ, Bool, true, false, ◌≡◌, List, [], ◌∷◌, ◌++◌, Some, refl, sym, ap, ◌∙◌}
use Rattle.wl_syntax.specs.declared.operator.Infix.{Infix}
use Rattle.wl_syntax.specs.declared.operator.Infix.TheVariants.{Message, PatternTest, Of, Map, Apply, MapApply, StringJoin, Power, Divide, Times, Beside, Plus, Minus, Equal, Unequal, Less, LessEqual, Greater, GreaterEqual, SameQ, UnsameQ, And, Or, Alternatives, Colon, StringExpression, Condition, Rule, RuleDelayed, ReplaceAll, ReplaceRepeated, AddTo, SubtractFrom, TimesBy, DivideBy, Into, Set, SetDelayed, UpSet, UpSetDelayed, Tag, Semi}
use Rattle.wl_syntax.specs.declared.operator.Prefix.{Prefix}
use Rattle.wl_syntax.specs.declared.operator.Prefix.TheVariants.{Negate}
use Rattle.wl_syntax.specs.declared.operator.Postfix.TheVariants.{Unset}
use Rattle.wl_syntax.specs.declared.operator.Sign.TheVariants as sign
use Rattle.wl_syntax.specs.Token.{Atom, number, name, pattern, slot, output, text, Token}
use Rattle.wl_syntax.specs.Token as token
use Rattle.wl_syntax.specs.Table.{infix_level, prefix_level, takes, leaves, leans_left, leans_right, role}
use Rattle.wl_syntax.specs.Tree.{Tree, leaf, paren, brace, call, part, before, after, between, more, is_definition}
use Rattle.wl_syntax.specs.Machine.{Open, open_infix, open_prefix, open_round, open_brace, open_call, open_part, State, has, fits_left, fits_right, tag_bars, on_tag, close, join, close_round, close_brace, close_square, names_wanted, start_any, start, with_role, go_on, step, run, finished, finish}
use Rattle.std.proofs.Common.{◌⊎◌, inl, inr, ⊎_elim}
use Rattle.wl_syntax.proofs.Reading.{Leaves, prefix_takes}
use Rattle.wl_syntax.specs.Ending.{Closer, round, square, curly, closer, any_name}

abbrev pub any_name_atom : Atom
any_name_atom = name (97 ∷ [])

-- an open bracket, and whether a `/:` without a `=` stands open outside it
pub data Place : Type 0 where
  place : Closer → Bool → Place

abbrev pub needs : Bool → List Token
needs true = token.sign sign.Equals ∷ any_name ∷ []
needs false = []

unfoldable pub shutting : List Place → List Token
shutting [] = []
shutting (place b l ∷ ls) = closer b ∷ (needs l ++ shutting ls)

-- whether a level has a `/:` that no `=` follows
unfoldable pub has_tag : List Open → Bool
has_tag (open_infix l Tag ∷ s) = true
has_tag (open_infix l Set ∷ s) = false
has_tag (open_infix l SetDelayed ∷ s) = false
has_tag (open_infix l _ ∷ s) = has_tag s
has_tag (open_prefix o ∷ s) = has_tag s
has_tag _ = false

unfoldable pub levels : List Open → List Place
levels [] = []
levels (open_infix l o ∷ s) = levels s
levels (open_prefix o ∷ s) = levels s
levels (open_round ∷ s) = place round (has_tag s) ∷ levels s
levels (open_brace xs ∷ s) = place curly (has_tag s) ∷ levels s
levels (open_call f xs ∷ s) = place square (has_tag s) ∷ levels s
levels (open_part f xs ∷ s) = place square false ∷ place square (has_tag s) ∷ levels s

-- what holds below an operator of level 29 or 30
abbrev pub TagFit : Infix → List Open → Type 0
TagFit Set s = has_tag s ≡ true → on_tag s ≡ true
TagFit SetDelayed s = has_tag s ≡ true → on_tag s ≡ true
TagFit UpSet s = has_tag s ≡ false
TagFit UpSetDelayed s = has_tag s ≡ false
TagFit Tag s = has_tag s ≡ false
TagFit Semi s = has_tag s ≡ false
TagFit _ s = Unit {0}

abbrev pub GoodTags : List Open → Type 0
GoodTags [] = Unit {0}
GoodTags (open_infix l o ∷ s) = TagFit o s × GoodTags s
GoodTags (open_prefix o ∷ s) = GoodTags s
GoodTags (open_round ∷ s) = GoodTags s
GoodTags (open_brace xs ∷ s) = GoodTags s
GoodTags (open_call f xs ∷ s) = GoodTags s
GoodTags (open_part f xs ∷ s) = GoodTags s

-- An operator of level 29 that comes on a level with an open `/:` comes right on it.
pub top29 : (s : List Open) → Leaves s 29 → GoodTags s → has_tag s ≡ true → on_tag s ≡ true
unfolding has_tag on_tag leaves leans_right infix_level prefix_level
top29 (open_infix l Tag ∷ s) h g t = refl
top29 (open_infix l Set ∷ s) h g t = absurd (cc)
top29 (open_infix l SetDelayed ∷ s) h g t = absurd (cc)
top29 (open_infix l UpSet ∷ s) h g t = let e = g.0 in absurd (cc)
top29 (open_infix l UpSetDelayed ∷ s) h g t = let e = g.0 in absurd (cc)
top29 (open_infix l Semi ∷ s) h g t = let e = g.0 in absurd (cc)
top29 (open_infix l _ ∷ s) h g t = absurd (cc)
top29 (open_prefix Negate ∷ s) h g t = absurd (cc)
top29 (open_prefix _ ∷ s) h g t = absurd (cc)
top29 [] h g t = absurd (cc)
top29 (open_round ∷ s) h g t = absurd (cc)
top29 (open_brace xs ∷ s) h g t = absurd (cc)
top29 (open_call f xs ∷ s) h g t = absurd (cc)
top29 (open_part f xs ∷ s) h g t = absurd (cc)

abbrev pub Ends : State → List Token → Type 0
Ends st ks = (t : Tree) × (finish (run st ks) ≡ Some t)

-- the level needs no definition: none is lacking, or the operand is one and stands on the `/:`
abbrev pub Met : List Open → Tree → Type 0
Met s x = (has_tag s ≡ false) ⊎ ((on_tag s ≡ true) × (is_definition x ≡ true))

abbrev pub Fin : List Open → Type 0
Fin s = (x : Tree) → Met s x → Ends (has s x) (shutting (levels s))

abbrev pub Rest : List Open → Type 0
Rest s = (x : Tree) → has_tag s ≡ true → Ends (has s x) (token.sign sign.Equals ∷ any_name ∷ shutting (levels s))

-- two operands that close alike meet the rest alike
alike : (s : List Open) (x : Tree) (u : List Open) (y : Tree) → close 31 s x ≡ close 31 u y → (ls : List Place) → finish (run (has s x) (shutting ls)) ≡ finish (run (has u y) (shutting ls))
unfolding finish run step go_on shutting
alike s x u y e [] = ap finished e
alike s x u y e (place round l ∷ ls) = ap (λ st. finish (run (close_round st) (needs l ++ shutting ls))) e
alike s x u y e (place square l ∷ ls) = ap (λ st. finish (run (close_square st) (needs l ++ shutting ls))) e
alike s x u y e (place curly l ∷ ls) = ap (λ st. finish (run (close_brace st) (needs l ++ shutting ls))) e

carry : (s : List Open) (x : Tree) (u : List Open) (y : Tree) → close 31 s x ≡ close 31 u y → (ls : List Place) → Ends (has u y) (shutting ls) → Ends (has s x) (shutting ls)
carry s x u y e ls h = (h.0, alike s x u y e ls ∙ h.1)

close_infix : (q : ℕ) (l : Tree) (o : Infix) (s : List Open) (x : Tree) → takes q (infix_level o) ≡ true → fits_right o x ≡ true → close q (open_infix l o ∷ s) x ≡ close q s (between l o x)
unfolding close
close_infix q l o s x t f = rw (t, f) refl

close_prefix : (q : ℕ) (o : Prefix) (s : List Open) (x : Tree) → takes q (prefix_level o) ≡ true → close q (open_prefix o ∷ s) x ≡ close q s (before o x)
unfolding close
close_prefix q o s x t = rw t refl

-- `=` comes: what is below 29 is closed alike
equals_alike : (s : List Open) (x : Tree) (u : List Open) (y : Tree) → close 29 s x ≡ close 29 u y → (ks : List Token) → run (has s x) (token.sign sign.Equals ∷ ks) ≡ run (has u y) (token.sign sign.Equals ∷ ks)
unfolding run step go_on role with_role infix_level
equals_alike s x u y e ks = ap (λ st. run (join Set st) ks) e

by_tag : (s : List Open) (A : Type 0) → (has_tag s ≡ false → A) → (has_tag s ≡ true → A) → A
by_tag s A f g = go (has_tag s) refl
  where
    go : (b : Bool) → has_tag s ≡ b → A
    go true e = g e
    go false e = f e

-- an operator below 29 says nothing of the level
low_fin : (l : Tree) (o : Infix) (s : List Open) → takes 31 (infix_level o) ≡ true → ((x : Tree) → fits_right o x ≡ true) → has_tag (open_infix l o ∷ s) ≡ has_tag s → on_tag (open_infix l o ∷ s) ≡ false → Fin s → Fin (open_infix l o ∷ s)
unfolding levels
low_fin l o s t f e n h x m =
    carry (open_infix l o ∷ s) x s (between l o x) (close_infix 31 l o s x t (f x)) (levels s)
    (h (between l o x) (⊎_elim (λ a. inl (sym e ∙ a)) (λ a. let b = a.0 in absurd (cc)) m))

low_rest : (l : Tree) (o : Infix) (s : List Open) → takes 29 (infix_level o) ≡ true → ((x : Tree) → fits_right o x ≡ true) → has_tag (open_infix l o ∷ s) ≡ has_tag s → Rest s → Rest (open_infix l o ∷ s)
unfolding levels
low_rest l o s t f e r x a =
    let h = r (between l o x) (sym e ∙ a) in
    (h.0, ap finish (equals_alike (open_infix l o ∷ s) x s (between l o x) (close_infix 29 l o s x t (f x)) (any_name ∷ shutting (levels s))) ∙ h.1)

prefix_fin : (o : Prefix) (s : List Open) → Fin s → Fin (open_prefix o ∷ s)
unfolding levels has_tag on_tag
prefix_fin o s h x m =
    carry (open_prefix o ∷ s) x s (before o x) (close_prefix 31 o s x (prefix_takes o)) (levels s)
    (h (before o x) (⊎_elim (λ a. inl a) (λ a. let b = a.0 in absurd (cc)) m))

prefix_low : (o : Prefix) → takes 29 (prefix_level o) ≡ true
unfolding takes prefix_level leans_left leans_right
prefix_low Negate = refl
prefix_low _ = refl

prefix_rest : (o : Prefix) (s : List Open) → Rest s → Rest (open_prefix o ∷ s)
unfolding levels has_tag
prefix_rest o s r x a =
    let h = r (before o x) a in
    (h.0, ap finish (equals_alike (open_prefix o ∷ s) x s (before o x) (close_prefix 29 o s x (prefix_low o)) (any_name ∷ shutting (levels s))) ∙ h.1)

-- an operator of level 29 or 30 over a level without an open `/:`
high_fin : (l : Tree) (o : Infix) (s : List Open) → takes 31 (infix_level o) ≡ true → has_tag s ≡ false → Fin s → (x : Tree) → fits_right o x ≡ true → Ends (has (open_infix l o ∷ s) x) (shutting (levels s))
high_fin l o s t e h x f = carry (open_infix l o ∷ s) x s (between l o x) (close_infix 31 l o s x t f) (levels s) (h (between l o x) (inl e))

-- `=` and a name right on a `/:`
tag_rest : (l : Tree) (s : List Open) → Fin (open_infix l Tag ∷ s) → Rest (open_infix l Tag ∷ s)
unfolding run step go_on role with_role infix_level close takes leaves leans_left leans_right join on_tag tag_bars fits_left start names_wanted start_any is_definition levels fits_right
tag_rest l s h x a =
    carry (open_infix x Set ∷ open_infix l Tag ∷ s) (leaf any_name_atom) (open_infix l Tag ∷ s) (between x Set (leaf any_name_atom)) refl (levels s)
    (h (between x Set (leaf any_name_atom)) (inr (refl, refl)))

-- a level with what it lacks
whole : (s : List Open) → Fin s → Rest s → (x : Tree) → Ends (has s x) (needs (has_tag s) ++ shutting (levels s))
whole s f r x = by_tag s (Ends (has s x) (needs (has_tag s) ++ shutting (levels s))) (λ e. rw e (f x (inl e))) (λ e. rw e (r x e))

pub both : (s : List Open) → GoodTags s → Fin s × Rest s
unfolding has_tag on_tag infix_level prefix_level takes leans_left leans_right fits_right is_definition levels shutting run step go_on close close_round close_brace close_square finish finished
both [] g = (λ x m. (x, refl), λ x a. absurd (cc))
both (open_infix l Tag ∷ s) g =
    let h = (both s g.1).0 in
    let f : Fin (open_infix l Tag ∷ s) = λ x m. high_fin l Tag s refl g.0 h x (⊎_elim (λ e. absurd (cc)) (λ d. d.1) m) in
    (f, tag_rest l s f)
both (open_infix l Set ∷ s) g =
    let h = (both s g.1).0 in
    (λ x m. carry (open_infix l Set ∷ s) x s (between l Set x) refl (levels s) (h (between l Set x) (by_tag s (Met s (between l Set x)) (λ e. inl e) (λ e. inr (g.0 e, refl)))), λ x a. absurd (cc))
both (open_infix l SetDelayed ∷ s) g =
    let h = (both s g.1).0 in
    (λ x m. carry (open_infix l SetDelayed ∷ s) x s (between l SetDelayed x) refl (levels s) (h (between l SetDelayed x) (by_tag s (Met s (between l SetDelayed x)) (λ e. inl e) (λ e. inr (g.0 e, refl)))), λ x a. absurd (cc))
both (open_infix l UpSet ∷ s) g = let h = (both s g.1).0 in let e = g.0 in (λ x m. high_fin l UpSet s refl e h x refl, λ x a. absurd (cc))
both (open_infix l UpSetDelayed ∷ s) g = let h = (both s g.1).0 in let e = g.0 in (λ x m. high_fin l UpSetDelayed s refl e h x refl, λ x a. absurd (cc))
both (open_infix l Semi ∷ s) g = let h = (both s g.1).0 in let e = g.0 in (λ x m. high_fin l Semi s refl e h x refl, λ x a. absurd (cc))
both (open_infix l Message ∷ s) g = let h = both s g.1 in (low_fin l Message s refl (λ x. refl) refl refl h.0, low_rest l Message s refl (λ x. refl) refl h.1)
both (open_infix l PatternTest ∷ s) g = let h = both s g.1 in (low_fin l PatternTest s refl (λ x. refl) refl refl h.0, low_rest l PatternTest s refl (λ x. refl) refl h.1)
both (open_infix l Of ∷ s) g = let h = both s g.1 in (low_fin l Of s refl (λ x. refl) refl refl h.0, low_rest l Of s refl (λ x. refl) refl h.1)
both (open_infix l Map ∷ s) g = let h = both s g.1 in (low_fin l Map s refl (λ x. refl) refl refl h.0, low_rest l Map s refl (λ x. refl) refl h.1)
both (open_infix l Apply ∷ s) g = let h = both s g.1 in (low_fin l Apply s refl (λ x. refl) refl refl h.0, low_rest l Apply s refl (λ x. refl) refl h.1)
both (open_infix l MapApply ∷ s) g = let h = both s g.1 in (low_fin l MapApply s refl (λ x. refl) refl refl h.0, low_rest l MapApply s refl (λ x. refl) refl h.1)
both (open_infix l StringJoin ∷ s) g = let h = both s g.1 in (low_fin l StringJoin s refl (λ x. refl) refl refl h.0, low_rest l StringJoin s refl (λ x. refl) refl h.1)
both (open_infix l Power ∷ s) g = let h = both s g.1 in (low_fin l Power s refl (λ x. refl) refl refl h.0, low_rest l Power s refl (λ x. refl) refl h.1)
both (open_infix l Divide ∷ s) g = let h = both s g.1 in (low_fin l Divide s refl (λ x. refl) refl refl h.0, low_rest l Divide s refl (λ x. refl) refl h.1)
both (open_infix l Times ∷ s) g = let h = both s g.1 in (low_fin l Times s refl (λ x. refl) refl refl h.0, low_rest l Times s refl (λ x. refl) refl h.1)
both (open_infix l Beside ∷ s) g = let h = both s g.1 in (low_fin l Beside s refl (λ x. refl) refl refl h.0, low_rest l Beside s refl (λ x. refl) refl h.1)
both (open_infix l Plus ∷ s) g = let h = both s g.1 in (low_fin l Plus s refl (λ x. refl) refl refl h.0, low_rest l Plus s refl (λ x. refl) refl h.1)
both (open_infix l Minus ∷ s) g = let h = both s g.1 in (low_fin l Minus s refl (λ x. refl) refl refl h.0, low_rest l Minus s refl (λ x. refl) refl h.1)
both (open_infix l Equal ∷ s) g = let h = both s g.1 in (low_fin l Equal s refl (λ x. refl) refl refl h.0, low_rest l Equal s refl (λ x. refl) refl h.1)
both (open_infix l Unequal ∷ s) g = let h = both s g.1 in (low_fin l Unequal s refl (λ x. refl) refl refl h.0, low_rest l Unequal s refl (λ x. refl) refl h.1)
both (open_infix l Less ∷ s) g = let h = both s g.1 in (low_fin l Less s refl (λ x. refl) refl refl h.0, low_rest l Less s refl (λ x. refl) refl h.1)
both (open_infix l LessEqual ∷ s) g = let h = both s g.1 in (low_fin l LessEqual s refl (λ x. refl) refl refl h.0, low_rest l LessEqual s refl (λ x. refl) refl h.1)
both (open_infix l Greater ∷ s) g = let h = both s g.1 in (low_fin l Greater s refl (λ x. refl) refl refl h.0, low_rest l Greater s refl (λ x. refl) refl h.1)
both (open_infix l GreaterEqual ∷ s) g = let h = both s g.1 in (low_fin l GreaterEqual s refl (λ x. refl) refl refl h.0, low_rest l GreaterEqual s refl (λ x. refl) refl h.1)
both (open_infix l SameQ ∷ s) g = let h = both s g.1 in (low_fin l SameQ s refl (λ x. refl) refl refl h.0, low_rest l SameQ s refl (λ x. refl) refl h.1)
both (open_infix l UnsameQ ∷ s) g = let h = both s g.1 in (low_fin l UnsameQ s refl (λ x. refl) refl refl h.0, low_rest l UnsameQ s refl (λ x. refl) refl h.1)
both (open_infix l And ∷ s) g = let h = both s g.1 in (low_fin l And s refl (λ x. refl) refl refl h.0, low_rest l And s refl (λ x. refl) refl h.1)
both (open_infix l Or ∷ s) g = let h = both s g.1 in (low_fin l Or s refl (λ x. refl) refl refl h.0, low_rest l Or s refl (λ x. refl) refl h.1)
both (open_infix l Alternatives ∷ s) g = let h = both s g.1 in (low_fin l Alternatives s refl (λ x. refl) refl refl h.0, low_rest l Alternatives s refl (λ x. refl) refl h.1)
both (open_infix l Colon ∷ s) g = let h = both s g.1 in (low_fin l Colon s refl (λ x. refl) refl refl h.0, low_rest l Colon s refl (λ x. refl) refl h.1)
both (open_infix l StringExpression ∷ s) g = let h = both s g.1 in (low_fin l StringExpression s refl (λ x. refl) refl refl h.0, low_rest l StringExpression s refl (λ x. refl) refl h.1)
both (open_infix l Condition ∷ s) g = let h = both s g.1 in (low_fin l Condition s refl (λ x. refl) refl refl h.0, low_rest l Condition s refl (λ x. refl) refl h.1)
both (open_infix l Rule ∷ s) g = let h = both s g.1 in (low_fin l Rule s refl (λ x. refl) refl refl h.0, low_rest l Rule s refl (λ x. refl) refl h.1)
both (open_infix l RuleDelayed ∷ s) g = let h = both s g.1 in (low_fin l RuleDelayed s refl (λ x. refl) refl refl h.0, low_rest l RuleDelayed s refl (λ x. refl) refl h.1)
both (open_infix l ReplaceAll ∷ s) g = let h = both s g.1 in (low_fin l ReplaceAll s refl (λ x. refl) refl refl h.0, low_rest l ReplaceAll s refl (λ x. refl) refl h.1)
both (open_infix l ReplaceRepeated ∷ s) g = let h = both s g.1 in (low_fin l ReplaceRepeated s refl (λ x. refl) refl refl h.0, low_rest l ReplaceRepeated s refl (λ x. refl) refl h.1)
both (open_infix l AddTo ∷ s) g = let h = both s g.1 in (low_fin l AddTo s refl (λ x. refl) refl refl h.0, low_rest l AddTo s refl (λ x. refl) refl h.1)
both (open_infix l SubtractFrom ∷ s) g = let h = both s g.1 in (low_fin l SubtractFrom s refl (λ x. refl) refl refl h.0, low_rest l SubtractFrom s refl (λ x. refl) refl h.1)
both (open_infix l TimesBy ∷ s) g = let h = both s g.1 in (low_fin l TimesBy s refl (λ x. refl) refl refl h.0, low_rest l TimesBy s refl (λ x. refl) refl h.1)
both (open_infix l DivideBy ∷ s) g = let h = both s g.1 in (low_fin l DivideBy s refl (λ x. refl) refl refl h.0, low_rest l DivideBy s refl (λ x. refl) refl h.1)
both (open_infix l Into ∷ s) g = let h = both s g.1 in (low_fin l Into s refl (λ x. refl) refl refl h.0, low_rest l Into s refl (λ x. refl) refl h.1)
both (open_prefix o ∷ s) g = let h = both s g in (prefix_fin o s h.0, prefix_rest o s h.1)
both (open_round ∷ s) g = let h = both s g in (λ x m. whole s h.0 h.1 (paren x), λ x a. absurd (cc))
both (open_brace xs ∷ s) g = let h = both s g in (λ x m. whole s h.0 h.1 (brace (more xs x)), λ x a. absurd (cc))
both (open_call f xs ∷ s) g = let h = both s g in (λ x m. whole s h.0 h.1 (call f (more xs x)), λ x a. absurd (cc))
both (open_part f xs ∷ s) g = let h = both s g in (λ x m. whole s h.0 h.1 (part f xs x), λ x a. absurd (cc))

-- From an operand, the missing definitions and the shutting signs lead to a tree.
pub operand_ends : (s : List Open) (x : Tree) → GoodTags s → Ends (has s x) (needs (has_tag s) ++ shutting (levels s))
operand_ends s x g = whole s (both s g).0 (both s g).1 x

-- and where a needs ends in `=.`, without a further one
pub dotted_ends : (s : List Open) (x : Tree) → GoodTags s → Leaves s 29 → Ends (has s (after x Unset)) (shutting (levels s))
unfolding is_definition
dotted_ends s x g h = (both s g).0 (after x Unset) (by_tag s (Met s (after x Unset)) (λ e. inl e) (λ e. inr (top29 s h g e, refl)))
