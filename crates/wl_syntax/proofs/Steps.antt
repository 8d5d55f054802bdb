-- What each function of the machine does to the states that its fields stand for.
use Rattle.std.proofs.Common.{ℕ, Bool, true, false, ◌≡◌, List, [], ◌∷◌, ◌++◌, Some, None, cond, refl, sym, ap, ◌∙◌, subst, append_assoc, append-nil, ◌⊎◌, ◌≢◌, inl, inr, ap₂, ◌&&◌}
use Rattle.wl_syntax.specs.declared.operator.Infix.{Infix}
use Rattle.wl_syntax.specs.declared.operator.Infix.TheVariants.{Semi as Semicolon}
use Rattle.wl_syntax.specs.declared.operator.Prefix.{Prefix}
use Rattle.wl_syntax.specs.declared.operator.Postfix.{Postfix}
use Rattle.wl_syntax.specs.declared.operator.Sign.{Sign}
use Rattle.wl_syntax.specs.declared.machine.Entry.{Entry}
use Rattle.wl_syntax.specs.declared.machine.Entry.TheVariants as entry
use Rattle.wl_syntax.specs.declared.machine.Standing.{Standing}
use Rattle.wl_syntax.specs.declared.machine.Standing.TheVariants.{Wants, Has, Semi, Shuts, Dead}
use Rattle.wl_syntax.specs.declared.token.Node.{Node as CodeNode}
use Rattle.wl_syntax.specs.declared.token.Atom.{Atom as CodeAtom}
use Rattle.wl_syntax.specs.declared.token.Atom.TheVariants as code_atom
use Rattle.wl_syntax.specs.declared.token.Token.{Token as CodeToken}
use Rattle.wl_syntax.specs.declared.token.Token.TheVariants as code_token
use Rattle.wl_syntax.specs.Polish.{atom_of, token_of}
use Rattle.wl_syntax.specs.Token.{Atom, number, name, pattern, slot, output, text, Token}
use Rattle.wl_syntax.specs.Token as token
use Rattle.wl_syntax.specs.declared.operator.SignRole.{SignRole}
use Rattle.wl_syntax.specs.declared.operator.SignRole.TheVariants as sign_role
use Rattle.wl_syntax.specs.RoleOf.{role_of}
use Rattle.wl_syntax.specs.Table.{takes, leaves, infix_level, prefix_level, postfix_level, Role, joins, ends, parts, nothing, role, prefix_of}
use Rattle.wl_syntax.specs.Tree.{Tree, leaf, before, last, between, none, more}
use Rattle.wl_syntax.specs.Machine.{Open, open_infix, open_prefix, open_round, open_brace, open_call, open_part, State, wants, has, semi, shuts, dead, fits_left, fits_right, tag_bars, on_tag, names_wanted, close, closed, join, end_with, part_with, open_square, close_round, close_brace, close_square, next_element, empty_square, empty_brace, second_square, prefixed, brace_opened, start_any, start_name, start, started, with_role, behind, beside, go_on, ends_element, step}
use Rattle.wl_syntax.specs.Polish.{Node, leaf_node, list_node, paren_node, element_node, call_node, part_node, before_node, after_node, last_node, between_node, polish}
use Rattle.wl_syntax.specs.Flat.{out_of, entry_of, entries, nodes, Stand}
use Rattle.wl_syntax.specs.Moves.{OfOperand, OfOpen, at_wants}
use Rattle.wl_syntax.proofs.Reading.{close-leaves}
use Rattle.wl_syntax.proofs.Flat.{on_has, on_wants, on_semi, on_shuts, on_dead, on_popped, is_call, is_brace, on_round, on_call, on_brace, on_part, on_infix, on_prefix, no_open, top_is}

abbrev Entries : Type 0
Entries = List Entry

abbrev Nodes : Type 0
Nodes = List CodeNode

-- an operator behind an operand
pub join_has : (b : Standing) (ns : List Node) (p q : Entries) (o : Infix) (t f : Bool) → b ≡ Has → OfOpen p t (λ s. on_tag s && tag_bars o) → OfOperand ns f (fits_left o) → t ≡ false → f ≡ true → q ≡ p ++ entry.Infix o ∷ [] → (st : State) → Stand b ns p st → Stand Wants ns q (join o st)
unfolding join out_of entries
join_has b ns p q o t f e tag fit i j k = on_has (λ st. Stand Wants ns q (join o st)) b ns p e
    (λ s x n h. rw (← tag s h, i, ← fit (out_of s) x n, j) (refl, n, k ∙ ap (λ l. l ++ entry.Infix o ∷ []) h))

pub join_barred : (b : Standing) (ns : List Node) (p : Entries) (o : Infix) (t : Bool) → b ≡ Has → OfOpen p t (λ s. on_tag s && tag_bars o) → t ≡ true → (st : State) → Stand b ns p st → Stand Dead ns p (join o st)
unfolding join
join_barred b ns p o t e tag i = on_has (λ st. Stand Dead ns p (join o st)) b ns p e (λ s x n h. rw (← tag s h, i) refl)

dead_either : (c : Bool) (ns : List Node) (p : Entries) → Stand Dead ns p (cond c dead dead)
dead_either true ns p = refl
dead_either false ns p = refl

pub join_unfit : (b : Standing) (ns : List Node) (p : Entries) (o : Infix) (f : Bool) → b ≡ Has → OfOperand ns f (fits_left o) → f ≡ false → (st : State) → Stand b ns p st → Stand Dead ns p (join o st)
unfolding join
join_unfit b ns p o f e fit i = on_has (λ st. Stand Dead ns p (join o st)) b ns p e (λ s x n h. rw (← fit (out_of s) x n, i) (dead_either (on_tag s && tag_bars o) ns p))

pub end_has : (b : Standing) (ns r : List Node) (p : Entries) (o : Postfix) → b ≡ Has → r ≡ ns ++ after_node o ∷ [] → (st : State) → Stand b ns p st → Stand b r p (end_with o st)
unfolding end_with polish
end_has b ns r p o e f = on_has (λ st. Stand b r p (end_with o st)) b ns p e (λ s x n h. (e, f ∙ ap (λ l. l ++ after_node o ∷ []) n ∙ append_assoc (out_of s) (polish x) (after_node o ∷ []), h))

pub part_has : (b : Standing) (ns : List Node) (p : Entries) → b ≡ Has → (st : State) → Stand b ns p st → Stand Semi ns p (part_with st)
unfolding part_with
part_has b ns p e = on_has (λ st. Stand Semi ns p (part_with st)) b ns p e (λ s x n h. (refl, n, h))

pub square_has : (b : Standing) (ns : List Node) (p q : Entries) → b ≡ Has → q ≡ p ++ entry.Call ∷ [] → (st : State) → Stand b ns p st → Stand Wants ns q (open_square st)
unfolding open_square out_of entries polish
square_has b ns p q e f = on_has (λ st. Stand Wants ns q (open_square st)) b ns p e (λ s x n h. (refl, n ∙ ap (λ l. out_of s ++ l) (sym (append-nil (polish x))), f ∙ ap (λ l. l ++ entry.Call ∷ []) h))

-- closing brackets
pub round_pops : (b d : Standing) (os os2 : Nodes) (r : List Node) (p q : Entries) (e : Entry) → b ≡ Has → d ≡ Has → os2 ≡ os → p ≡ q ++ e ∷ [] → e ≡ entry.Round → r ≡ nodes os2 ++ paren_node ∷ []
    → (st : State) → Stand b (nodes os) p st → Stand d r q (close_round st)
unfolding close_round polish
round_pops b d os os2 r p q e e0 e1 e2 e3 e4 e5 = on_round (λ st. Stand d r q (close_round st)) b (nodes os) p q e e0 e3 e4
    (λ s x j n. (e1, rw (e5, e2, n) (simp append_assoc), j))

pub round_not : (b : Standing) (ns r : List Node) (p q : Entries) (e : Entry) → b ≡ Has → p ≡ q ++ e ∷ [] → (e ≡ entry.Round → ⊥) → (st : State) → Stand b ns p st → Stand Dead r q (close_round st)
unfolding close_round
round_not b ns r p q e e0 e3 m = on_popped (λ st. Stand Dead r q (close_round st)) b ns p q e e0 e3 (λ o s x i j n. rw (go o s x (λ k. m (sym i ∙ k))) refl)
  where
    go : (o : Open) (s : List Open) (x : Tree) → (entry_of o ≡ entry.Round → ⊥) → close_round (has (o ∷ s) x) ≡ dead
    go open_round s x n = absurd (n refl)
    go _ s x n = refl

abbrev Emitted : Standing → List Node → Entries → Standing → List Node → Entries → List Node → Type 0
Emitted d ns q d2 r q2 ms = (r ≡ ns ++ ms) × (q2 ≡ q) × (d2 ≡ d)

pub square_pops : (b d d2 : Standing) (os os2 : Nodes) (r : List Node) (p q q2 : Entries) (e : Entry) → b ≡ Has → d ≡ Has → os2 ≡ os → p ≡ q ++ e ∷ [] → is_call e ≡ true → (r ≡ nodes os2 ++ element_node ∷ call_node ∷ []) × (q2 ≡ q) × (d2 ≡ d)
    → (st : State) → Stand b (nodes os) p st → Stand d2 r q2 (close_square st)
unfolding close_square polish
square_pops b d d2 os os2 r p q q2 e e0 e1 e2 e3 e4 e5 = on_call (λ st. Stand d2 r q2 (close_square st)) b (nodes os) p q e e0 e3 e4
    (λ f xs s x j n. (e5.2 ∙ e1, rw (e5.0, e2, n) (simp append_assoc), e5.1 ∙ j))

pub brace_pops : (b d d2 : Standing) (os os2 : Nodes) (r : List Node) (p q q2 : Entries) (e : Entry) → b ≡ Has → d ≡ Has → os2 ≡ os → p ≡ q ++ e ∷ [] → is_brace e ≡ true → (r ≡ nodes os2 ++ element_node ∷ call_node ∷ []) × (q2 ≡ q) × (d2 ≡ d)
    → (st : State) → Stand b (nodes os) p st → Stand d2 r q2 (close_brace st)
unfolding close_brace polish
brace_pops b d d2 os os2 r p q q2 e e0 e1 e2 e3 e4 e5 = on_brace (λ st. Stand d2 r q2 (close_brace st)) b (nodes os) p q e e0 e3 e4
    (λ xs s x j n. (e5.2 ∙ e1, rw (e5.0, e2, n) (simp append_assoc), e5.1 ∙ j))

pub part_pops : (b d2 : Standing) (os os2 : Nodes) (r : List Node) (p q q2 : Entries) (e : Entry) → b ≡ Has → os2 ≡ os → p ≡ q ++ e ∷ [] → e ≡ entry.Part → (r ≡ nodes os2 ++ element_node ∷ part_node ∷ []) × (q2 ≡ q) × (d2 ≡ Shuts)
    → (st : State) → Stand b (nodes os) p st → Stand d2 r q2 (close_square st)
unfolding close_square polish
part_pops b d2 os os2 r p q q2 e e0 e2 e3 e4 e5 = on_part (λ st. Stand d2 r q2 (close_square st)) b (nodes os) p q e e0 e3 e4
    (λ f xs s x j n. (e5.2, rw (e5.0, e2, n) (simp append_assoc), e5.1 ∙ j))

pub square_not : (b : Standing) (ns r : List Node) (p q : Entries) (e : Entry) → b ≡ Has → p ≡ q ++ e ∷ [] → (e ≡ entry.Call → ⊥) → (e ≡ entry.CallMore → ⊥) → (e ≡ entry.Part → ⊥)
    → (st : State) → Stand b ns p st → Stand Dead r q (close_square st)
unfolding close_square
square_not b ns r p q e e0 e3 m1 m2 m3 = on_popped (λ st. Stand Dead r q (close_square st)) b ns p q e e0 e3 (λ o s x i j n. rw (go o s x (λ k. m1 (sym i ∙ k)) (λ k. m2 (sym i ∙ k)) (λ k. m3 (sym i ∙ k))) refl)
  where
    go : (o : Open) (s : List Open) (x : Tree) → (entry_of o ≡ entry.Call → ⊥) → (entry_of o ≡ entry.CallMore → ⊥) → (entry_of o ≡ entry.Part → ⊥) → close_square (has (o ∷ s) x) ≡ dead
    go (open_call f none) s x n1 n2 n3 = absurd (n1 refl)
    go (open_call f (more xs t)) s x n1 n2 n3 = absurd (n2 refl)
    go (open_part f xs) s x n1 n2 n3 = absurd (n3 refl)
    go _ s x n1 n2 n3 = refl

pub brace_not : (b : Standing) (ns r : List Node) (p q : Entries) (e : Entry) → b ≡ Has → p ≡ q ++ e ∷ [] → (e ≡ entry.Brace → ⊥) → (e ≡ entry.BraceMore → ⊥)
    → (st : State) → Stand b ns p st → Stand Dead r q (close_brace st)
unfolding close_brace
brace_not b ns r p q e e0 e3 m1 m2 = on_popped (λ st. Stand Dead r q (close_brace st)) b ns p q e e0 e3 (λ o s x i j n. rw (go o s x (λ k. m1 (sym i ∙ k)) (λ k. m2 (sym i ∙ k))) refl)
  where
    go : (o : Open) (s : List Open) (x : Tree) → (entry_of o ≡ entry.Brace → ⊥) → (entry_of o ≡ entry.BraceMore → ⊥) → close_brace (has (o ∷ s) x) ≡ dead
    go (open_brace none) s x n1 n2 = absurd (n1 refl)
    go (open_brace (more xs t)) s x n1 n2 = absurd (n2 refl)
    go _ s x n1 n2 = refl

-- a comma
pub next_call : (b d2 : Standing) (os os2 : Nodes) (r : List Node) (p q q2 : Entries) (e : Entry) → b ≡ Has → os2 ≡ os → p ≡ q ++ e ∷ [] → is_call e ≡ true → (r ≡ nodes os2 ++ element_node ∷ []) × (q2 ≡ q ++ entry.CallMore ∷ []) × (d2 ≡ Wants)
    → (st : State) → Stand b (nodes os) p st → Stand d2 r q2 (next_element st)
unfolding next_element polish out_of entries
next_call b d2 os os2 r p q q2 e e0 e2 e3 e4 e5 = on_call (λ st. Stand d2 r q2 (next_element st)) b (nodes os) p q e e0 e3 e4
    (λ f xs s x j n. (e5.2, rw (e5.0, e2, n) (simp append_assoc), rw (e5.1, j) refl))

pub next_brace : (b d2 : Standing) (os os2 : Nodes) (r : List Node) (p q q2 : Entries) (e : Entry) → b ≡ Has → os2 ≡ os → p ≡ q ++ e ∷ [] → is_brace e ≡ true → (r ≡ nodes os2 ++ element_node ∷ []) × (q2 ≡ q ++ entry.BraceMore ∷ []) × (d2 ≡ Wants)
    → (st : State) → Stand b (nodes os) p st → Stand d2 r q2 (next_element st)
unfolding next_element polish out_of entries
next_brace b d2 os os2 r p q q2 e e0 e2 e3 e4 e5 = on_brace (λ st. Stand d2 r q2 (next_element st)) b (nodes os) p q e e0 e3 e4
    (λ xs s x j n. (e5.2, rw (e5.0, e2, n) (simp append_assoc), rw (e5.1, j) refl))

pub next_part : (b d2 : Standing) (os os2 : Nodes) (r : List Node) (p q q2 : Entries) (e : Entry) → b ≡ Has → os2 ≡ os → p ≡ q ++ e ∷ [] → e ≡ entry.Part → (r ≡ nodes os2 ++ element_node ∷ []) × (q2 ≡ q ++ entry.Part ∷ []) × (d2 ≡ Wants)
    → (st : State) → Stand b (nodes os) p st → Stand d2 r q2 (next_element st)
unfolding next_element polish out_of entries
next_part b d2 os os2 r p q q2 e e0 e2 e3 e4 e5 = on_part (λ st. Stand d2 r q2 (next_element st)) b (nodes os) p q e e0 e3 e4
    (λ f xs s x j n. (e5.2, rw (e5.0, e2, n) (simp append_assoc), rw (e5.1, j) refl))

pub next_not : (b : Standing) (ns r : List Node) (p q : Entries) (e : Entry) → b ≡ Has → p ≡ q ++ e ∷ [] → (e ≡ entry.Call → ⊥) → (e ≡ entry.CallMore → ⊥) → (e ≡ entry.Brace → ⊥) → (e ≡ entry.BraceMore → ⊥) → (e ≡ entry.Part → ⊥)
    → (st : State) → Stand b ns p st → Stand Dead r q (next_element st)
unfolding next_element
next_not b ns r p q e e0 e3 m1 m2 m3 m4 m5 = on_popped (λ st. Stand Dead r q (next_element st)) b ns p q e e0 e3 (λ o s x i j n. rw (go o s x (λ k. m1 (sym i ∙ k)) (λ k. m2 (sym i ∙ k)) (λ k. m3 (sym i ∙ k)) (λ k. m4 (sym i ∙ k)) (λ k. m5 (sym i ∙ k))) refl)
  where
    go : (o : Open) (s : List Open) (x : Tree) → (entry_of o ≡ entry.Call → ⊥) → (entry_of o ≡ entry.CallMore → ⊥) → (entry_of o ≡ entry.Brace → ⊥) → (entry_of o ≡ entry.BraceMore → ⊥) → (entry_of o ≡ entry.Part → ⊥) → next_element (has (o ∷ s) x) ≡ dead
    go (open_call f none) s x n1 n2 n3 n4 n5 = absurd (n1 refl)
    go (open_call f (more xs t)) s x n1 n2 n3 n4 n5 = absurd (n2 refl)
    go (open_brace none) s x n1 n2 n3 n4 n5 = absurd (n3 refl)
    go (open_brace (more xs t)) s x n1 n2 n3 n4 n5 = absurd (n4 refl)
    go (open_part f xs) s x n1 n2 n3 n4 n5 = absurd (n5 refl)
    go _ s x n1 n2 n3 n4 n5 = refl

-- where an operand is wanted
pub on_taken : (P : State → Type 0) (b : Standing) (ns : List Node) (p q : Entries) (e : Entry) → b ≡ Wants → p ≡ q ++ e ∷ []
    → ((o : Open) (s : List Open) → entry_of o ≡ e → q ≡ entries s → ns ≡ out_of (o ∷ s) → P (wants (o ∷ s))) → (st : State) → Stand b ns p st → P st
unfolding entries
on_taken P b ns p q e a f each = on_wants P b ns p a go
  where
    no : (q : Entries) (e : Entry) → [] ≡ q ++ e ∷ [] → ⊥
    no [] e h = cc
    no (d ∷ q) e h = cc

    go : (s : List Open) → ns ≡ out_of s → p ≡ entries s → P (wants s)
    go [] n h = absurd (no q e (sym h ∙ f))
    go (o ∷ s) n h = let g = top_is p q e f o s h in each o s g.0 g.1 n

pub on_bare : (P : State → Type 0) (b : Standing) (ns : List Node) (p : Entries) → b ≡ Wants → p ≡ [] → P (wants []) → (st : State) → Stand b ns p st → P st
on_bare P b ns p a f each = on_wants P b ns p a go
  where
    go : (s : List Open) → ns ≡ out_of s → p ≡ entries s → P (wants s)
    go [] n h = each
    go (o ∷ s) n h = absurd (no_open p f o s h)

called_none : (o : Open) → entry_of o ≡ entry.Call → (f : Tree) × (o ≡ open_call f none)
called_none (open_call f none) i = (f, refl)
called_none (open_call f (more xs t)) i = absurd (cc)
called_none (open_brace none) i = absurd (cc)
called_none (open_brace (more xs t)) i = absurd (cc)
called_none _ i = absurd (cc)

braced_none : (o : Open) → entry_of o ≡ entry.Brace → o ≡ open_brace none
braced_none (open_brace none) i = refl
braced_none (open_brace (more xs t)) i = absurd (cc)
braced_none (open_call f none) i = absurd (cc)
braced_none (open_call f (more xs t)) i = absurd (cc)
braced_none _ i = absurd (cc)

call_empty : (d2 : Standing) (r : List Node) (q2 : Entries) (f : Tree) (s : List Open) → d2 ≡ Has → r ≡ out_of (open_call f none ∷ s) ++ call_node ∷ [] → q2 ≡ entries s → Stand d2 r q2 (empty_square (open_call f none ∷ s))
unfolding empty_square out_of polish
call_empty d2 r q2 f s a n j = (a, n ∙ simp append_assoc, j)

brace_empty : (d2 : Standing) (r : List Node) (q2 : Entries) (s : List Open) → d2 ≡ Has → r ≡ out_of (open_brace none ∷ s) ++ call_node ∷ [] → q2 ≡ entries s → Stand d2 r q2 (empty_brace (open_brace none ∷ s))
unfolding empty_brace out_of polish
brace_empty d2 r q2 s a n j = (a, n ∙ simp append_assoc, j)

call_second : (d2 : Standing) (ns : List Node) (q2 : Entries) (f : Tree) (s : List Open) → d2 ≡ Wants → ns ≡ out_of (open_call f none ∷ s) → q2 ≡ entries s ++ entry.Part ∷ [] → Stand d2 ns q2 (second_square (open_call f none ∷ s))
unfolding second_square out_of entries polish
call_second d2 ns q2 f s a n j = (a, n, j)

pub empty_square_pops : (b d2 : Standing) (os os2 : Nodes) (r : List Node) (p q q2 : Entries) (e : Entry) → b ≡ Wants → os2 ≡ os → p ≡ q ++ e ∷ [] → e ≡ entry.Call → (r ≡ nodes os2 ++ call_node ∷ []) × (q2 ≡ q) × (d2 ≡ Has)
    → (st : State) → Stand b (nodes os) p st → Stand d2 r q2 (at_wants empty_square st)
empty_square_pops b d2 os os2 r p q q2 e e0 e2 e3 e4 e5 = on_taken (λ st. Stand d2 r q2 (at_wants empty_square st)) b (nodes os) p q e e0 e3
    (λ o s i j n. let (f, h) = called_none o (i ∙ e4) in
    subst (λ u. Stand d2 r q2 (empty_square (u ∷ s))) (sym h) (call_empty d2 r q2 f s e5.2 (e5.0 ∙ ap (λ l. nodes l ++ call_node ∷ []) e2 ∙ ap (λ l. l ++ call_node ∷ []) (n ∙ ap (λ u. out_of (u ∷ s)) h)) (e5.1 ∙ j)))

pub empty_square_not : (b : Standing) (ns r : List Node) (p q : Entries) (e : Entry) → b ≡ Wants → p ≡ q ++ e ∷ [] → (e ≡ entry.Call → ⊥) → (st : State) → Stand b ns p st → Stand Dead r q (at_wants empty_square st)
unfolding empty_square
empty_square_not b ns r p q e e0 e3 m = on_taken (λ st. Stand Dead r q (at_wants empty_square st)) b ns p q e e0 e3 (λ o s i j n. rw (go o s (λ k. m (sym i ∙ k))) refl)
  where
    go : (o : Open) (s : List Open) → (entry_of o ≡ entry.Call → ⊥) → empty_square (o ∷ s) ≡ dead
    go (open_call f none) s n = absurd (n refl)
    go _ s n = refl

pub empty_square_none : (b : Standing) (ns r : List Node) (p q : Entries) → b ≡ Wants → p ≡ [] → (st : State) → Stand b ns p st → Stand Dead r q (at_wants empty_square st)
empty_square_none b ns r p q e f = on_bare (λ st. Stand Dead r q (at_wants empty_square st)) b ns p e f (unfold empty_square in refl)

pub empty_brace_pops : (b d2 : Standing) (os os2 : Nodes) (r : List Node) (p q q2 : Entries) (e : Entry) → b ≡ Wants → os2 ≡ os → p ≡ q ++ e ∷ [] → e ≡ entry.Brace → (r ≡ nodes os2 ++ call_node ∷ []) × (q2 ≡ q) × (d2 ≡ Has)
    → (st : State) → Stand b (nodes os) p st → Stand d2 r q2 (at_wants empty_brace st)
empty_brace_pops b d2 os os2 r p q q2 e e0 e2 e3 e4 e5 = on_taken (λ st. Stand d2 r q2 (at_wants empty_brace st)) b (nodes os) p q e e0 e3
    (λ o s i j n. let h = braced_none o (i ∙ e4) in
    subst (λ u. Stand d2 r q2 (empty_brace (u ∷ s))) (sym h) (brace_empty d2 r q2 s e5.2 (e5.0 ∙ ap (λ l. nodes l ++ call_node ∷ []) e2 ∙ ap (λ l. l ++ call_node ∷ []) (n ∙ ap (λ u. out_of (u ∷ s)) h)) (e5.1 ∙ j)))

pub empty_brace_not : (b : Standing) (ns r : List Node) (p q : Entries) (e : Entry) → b ≡ Wants → p ≡ q ++ e ∷ [] → (e ≡ entry.Brace → ⊥) → (st : State) → Stand b ns p st → Stand Dead r q (at_wants empty_brace st)
unfolding empty_brace
empty_brace_not b ns r p q e e0 e3 m = on_taken (λ st. Stand Dead r q (at_wants empty_brace st)) b ns p q e e0 e3 (λ o s i j n. rw (go o s (λ k. m (sym i ∙ k))) refl)
  where
    go : (o : Open) (s : List Open) → (entry_of o ≡ entry.Brace → ⊥) → empty_brace (o ∷ s) ≡ dead
    go (open_brace none) s n = absurd (n refl)
    go _ s n = refl

pub empty_brace_none : (b : Standing) (ns r : List Node) (p q : Entries) → b ≡ Wants → p ≡ [] → (st : State) → Stand b ns p st → Stand Dead r q (at_wants empty_brace st)
empty_brace_none b ns r p q e f = on_bare (λ st. Stand Dead r q (at_wants empty_brace st)) b ns p e f (unfold empty_brace in refl)

pub second_pops : (b d2 : Standing) (os os2 : Nodes) (p q q2 : Entries) (e : Entry) → b ≡ Wants → d2 ≡ b → os2 ≡ os → p ≡ q ++ e ∷ [] → e ≡ entry.Call → q2 ≡ q ++ entry.Part ∷ []
    → (st : State) → Stand b (nodes os) p st → Stand d2 (nodes os2) q2 (at_wants second_square st)
second_pops b d2 os os2 p q q2 e e0 e1 e2 e3 e4 e5 = on_taken (λ st. Stand d2 (nodes os2) q2 (at_wants second_square st)) b (nodes os) p q e e0 e3
    (λ o s i j n. let (f, h) = called_none o (i ∙ e4) in
    subst (λ u. Stand d2 (nodes os2) q2 (second_square (u ∷ s))) (sym h) (call_second d2 (nodes os2) q2 f s (e1 ∙ e0) (ap nodes e2 ∙ n ∙ ap (λ u. out_of (u ∷ s)) h) (e5 ∙ ap (λ l. l ++ entry.Part ∷ []) j)))

pub second_not : (b : Standing) (ns r : List Node) (p q : Entries) (e : Entry) → b ≡ Wants → p ≡ q ++ e ∷ [] → (e ≡ entry.Call → ⊥) → (st : State) → Stand b ns p st → Stand Dead r q (at_wants second_square st)
unfolding second_square
second_not b ns r p q e e0 e3 m = on_taken (λ st. Stand Dead r q (at_wants second_square st)) b ns p q e e0 e3 (λ o s i j n. rw (go o s (λ k. m (sym i ∙ k))) refl)
  where
    go : (o : Open) (s : List Open) → (entry_of o ≡ entry.Call → ⊥) → second_square (o ∷ s) ≡ dead
    go (open_call f none) s n = absurd (n refl)
    go _ s n = refl

pub second_none : (b : Standing) (ns r : List Node) (p q : Entries) → b ≡ Wants → p ≡ [] → (st : State) → Stand b ns p st → Stand Dead r q (at_wants second_square st)
second_none b ns r p q e f = on_bare (λ st. Stand Dead r q (at_wants second_square st)) b ns p e f (unfold second_square in refl)

pub list_begins : (b : Standing) (ns r : List Node) (p q : Entries) → b ≡ Wants → r ≡ ns ++ list_node ∷ [] → q ≡ p ++ entry.Brace ∷ [] → (st : State) → Stand b ns p st → Stand b r q (at_wants brace_opened st)
unfolding brace_opened out_of entries polish
list_begins b ns r p q e f g = on_wants (λ st. Stand b r q (at_wants brace_opened st)) b ns p e (λ s n h. (e, f ∙ ap (λ l. l ++ list_node ∷ []) n, g ∙ ap (λ l. l ++ entry.Brace ∷ []) h))

pub leaf_starts : (b d2 : Standing) (ns r : List Node) (p q : Entries) (k : Token) (a : Atom) → b ≡ Wants → k ≡ token.atom a → (r ≡ ns ++ leaf_node a ∷ []) × (q ≡ p) × (d2 ≡ Has) → (st : State) → Stand b ns p st → Stand d2 r q (at_wants (λ s. start_any s k) st)
unfolding start_any polish
leaf_starts b d2 ns r p q k a e i f = on_wants (λ st. Stand d2 r q (at_wants (λ s. start_any s k) st)) b ns p e (λ s n h. rw i (f.2, f.0 ∙ ap (λ l. l ++ leaf_node a ∷ []) n, f.1 ∙ h))

pub prefix_starts : (b : Standing) (ns : List Node) (p q : Entries) (k : Token) (g : Sign) (o : Prefix) → b ≡ Wants → k ≡ token.sign g → Some o ≡ prefix_of g → q ≡ p ++ entry.Prefix o ∷ [] → (st : State) → Stand b ns p st → Stand b ns q (at_wants (λ s. start_any s k) st)
unfolding start_any prefixed out_of entries
prefix_starts b ns p q k g o e i j f = on_wants (λ st. Stand b ns q (at_wants (λ s. start_any s k) st)) b ns p e (λ s n h. rw (i, ← j) (e, n, f ∙ ap (λ l. l ++ entry.Prefix o ∷ []) h))

pub prefix_none : (b : Standing) (ns : List Node) (p : Entries) (k : Token) (g : Sign) → b ≡ Wants → k ≡ token.sign g → None ≡ prefix_of g → (st : State) → Stand b ns p st → Stand Dead ns p (at_wants (λ s. start_any s k) st)
unfolding start_any prefixed
prefix_none b ns p k g e i j = on_wants (λ st. Stand Dead ns p (at_wants (λ s. start_any s k) st)) b ns p e (λ s n h. rw (i, ← j) refl)

pub round_starts : (b : Standing) (ns : List Node) (p q : Entries) (k : Token) → b ≡ Wants → k ≡ token.open_round → q ≡ p ++ entry.Round ∷ [] → (st : State) → Stand b ns p st → Stand b ns q (at_wants (λ s. start_any s k) st)
unfolding start_any out_of entries
round_starts b ns p q k e i f = on_wants (λ st. Stand b ns q (at_wants (λ s. start_any s k) st)) b ns p e (λ s n h. rw i (e, n, f ∙ ap (λ l. l ++ entry.Round ∷ []) h))

-- one function of what is open in the place of another
pub starts_as : (f : List Open → State) (b : Standing) (ns : List Node) (p : Entries) (d2 : Standing) (r : List Node) (q : Entries) (k : Token) → b ≡ Wants → ((s : List Open) → start_any s k ≡ f s)
    → ((st : State) → Stand b ns p st → Stand d2 r q (at_wants f st)) → (st : State) → Stand b ns p st → Stand d2 r q (at_wants (λ s. start_any s k) st)
starts_as f b ns p d2 r q k e i g st h = on_wants (λ st. Stand b ns p st → Stand d2 r q (at_wants (λ s. start_any s k) st)) b ns p e (λ s n j w. rw (i s) (g (wants s) w)) st h h

pub starts_dead : (b : Standing) (ns : List Node) (p : Entries) (r : List Node) (q : Entries) (k : Token) → b ≡ Wants → ((s : List Open) → start_any s k ≡ dead) → (st : State) → Stand b ns p st → Stand Dead r q (at_wants (λ s. start_any s k) st)
starts_dead b ns p r q k e i = on_wants (λ st. Stand Dead r q (at_wants (λ s. start_any s k) st)) b ns p e (λ s n h. rw (i s) refl)

pub start_brace : (k : Token) → k ≡ token.open_brace → (s : List Open) → start_any s k ≡ brace_opened s
unfolding start_any brace_opened
start_brace k e s = rw e refl

pub start_second : (k : Token) → k ≡ token.open_square → (s : List Open) → start_any s k ≡ second_square s
unfolding start_any
start_second k e s = rw e refl

pub start_empty_square : (k : Token) → k ≡ token.close_square → (s : List Open) → start_any s k ≡ empty_square s
unfolding start_any
start_empty_square k e s = rw e refl

pub start_empty_brace : (k : Token) → k ≡ token.close_brace → (s : List Open) → start_any s k ≡ empty_brace s
unfolding start_any
start_empty_brace k e s = rw e refl

pub start_round : (k : Token) → k ≡ token.close_round → (s : List Open) → start_any s k ≡ dead
unfolding start_any
start_round k e s = rw e refl

pub start_comma : (k : Token) → k ≡ token.comma → (s : List Open) → start_any s k ≡ dead
unfolding start_any
start_comma k e s = rw e refl

-- where a name is wanted
pub name_starts : (b d2 : Standing) (ns r : List Node) (p q : Entries) (k : Token) (a : Atom) → b ≡ Wants → k ≡ token.atom a → ((s : List Open) → start_name s (token.atom a) ≡ has s (leaf a)) → (r ≡ ns ++ leaf_node a ∷ []) × (q ≡ p) × (d2 ≡ Has)
    → (st : State) → Stand b ns p st → Stand d2 r q (at_wants (λ s. start_name s k) st)
unfolding polish
name_starts b d2 ns r p q k a e i j f = on_wants (λ st. Stand d2 r q (at_wants (λ s. start_name s k) st)) b ns p e (λ s n h. rw (i, j s) (f.2, f.0 ∙ ap (λ l. l ++ leaf_node a ∷ []) n, f.1 ∙ h))

pub name_dead : (b : Standing) (ns : List Node) (p : Entries) (r : List Node) (q : Entries) (k : Token) → b ≡ Wants → ((s : List Open) → start_name s k ≡ dead) → (st : State) → Stand b ns p st → Stand Dead r q (at_wants (λ s. start_name s k) st)
name_dead b ns p r q k e i = on_wants (λ st. Stand Dead r q (at_wants (λ s. start_name s k) st)) b ns p e (λ s n h. rw (i s) refl)

pub name_name : (w : List ℕ) (s : List Open) → start_name s (token.atom (name w)) ≡ has s (leaf (name w))
unfolding start_name
name_name w s = refl

pub name_text : (w : List ℕ) (s : List Open) → start_name s (token.atom (text w)) ≡ has s (leaf (text w))
unfolding start_name
name_text w s = refl

pub name_not : (k : Token) → ((a : Atom) → k ≡ token.atom a → ⊥) → (s : List Open) → start_name s k ≡ dead
unfolding start_name
name_not (token.atom a) n s = absurd (n a refl)
name_not _ n s = refl

-- a token where an operand is wanted
pub start_as_name : (b : Standing) (ns : List Node) (p : Entries) (d2 : Standing) (r : List Node) (q : Entries) (k : Token) (w : Bool) → b ≡ Wants → OfOpen p w names_wanted → w ≡ true
    → ((st : State) → Stand b ns p st → Stand d2 r q (at_wants (λ s. start_name s k) st)) → (st : State) → Stand b ns p st → Stand d2 r q (started st k)
unfolding started start
start_as_name b ns p d2 r q k w e i j g st h = on_wants (λ st. Stand b ns p st → Stand d2 r q (started st k)) b ns p e (λ s n l f. rw (← i s l, j) (g (wants s) f)) st h h

pub start_as_any : (b : Standing) (ns : List Node) (p : Entries) (d2 : Standing) (r : List Node) (q : Entries) (k : Token) (w : Bool) → b ≡ Wants → OfOpen p w names_wanted → w ≡ false
    → ((st : State) → Stand b ns p st → Stand d2 r q (at_wants (λ s. start_any s k) st)) → (st : State) → Stand b ns p st → Stand d2 r q (started st k)
unfolding started start
start_as_any b ns p d2 r q k w e i j g st h = on_wants (λ st. Stand b ns p st → Stand d2 r q (started st k)) b ns p e (λ s n l f. rw (← i s l, j) (g (wants s) f)) st h h

pub unless_wants : (b : Standing) (ns r : List Node) (p q : Entries) (k : Token) → (b ≡ Wants → ⊥) → (st : State) → Stand b ns p st → Stand Dead r q (started st k)
unfolding started
unless_wants b ns r p q k n (wants s) h = absurd (n h.0)
unless_wants b ns r p q k n (has s x) h = refl
unless_wants b ns r p q k n (semi s x) h = refl
unless_wants b ns r p q k n (shuts s x) h = refl
unless_wants b ns r p q k n dead h = refl

-- Behind an operand a step is what a function of the state is.
pub as_step : (f : State → State) (b : Standing) (ns : List Node) (p : Entries) (d2 : Standing) (r : List Node) (q : Entries) (k : Token) → b ≡ Has → ((s : List Open) (x : Tree) → step (has s x) k ≡ f (has s x))
    → ((st : State) → Stand b ns p st → Stand d2 r q (f st)) → (st : State) → Stand b ns p st → Stand d2 r q (step st k)
as_step f b ns p d2 r q k e i g st h = on_has (λ st. Stand b ns p st → Stand d2 r q (step st k)) b ns p e (λ s x n l w. rw (i s x) (g (has s x) w)) st h h

behind_is : (s : List Open) (x : Tree) (r : Role) → with_role s x r ≡ behind r (has s x)
unfolding with_role behind closed
behind_is s x (joins o) = refl
behind_is s x (ends o) = refl
behind_is s x parts = refl
behind_is s x nothing = refl

pub behind_joins : (r : SignRole) (o : Infix) (n : ℕ) → r ≡ sign_role.Joins o → n ≡ infix_level o → (st : State) → join o (closed n st) ≡ behind (role_of r) st
unfolding behind
behind_joins r o n e i st = rw (e, i) refl

pub behind_ends : (r : SignRole) (o : Postfix) (n : ℕ) → r ≡ sign_role.Ends o → n ≡ postfix_level o → (st : State) → end_with o (closed n st) ≡ behind (role_of r) st
unfolding behind
behind_ends r o n e i st = rw (e, i) refl

pub behind_parts : (r : SignRole) → r ≡ sign_role.Parts → (st : State) → part_with (closed 30 st) ≡ behind (role_of r) st
unfolding behind
behind_parts r e st = rw e refl

pub behind_nothing : (r : SignRole) → r ≡ sign_role.Nothing → (st : State) → dead ≡ behind (role_of r) st
unfolding behind
behind_nothing r e st = rw e refl

-- one function of states in the place of another
pub as_behind : (f g : State → State) (b : Standing) (ns : List Node) (p : Entries) (d : Standing) (r : List Node) (q : Entries) → ((st : State) → f st ≡ g st) → ((st : State) → Stand b ns p st → Stand d r q (f st)) → (st : State) → Stand b ns p st → Stand d r q (g st)
as_behind f g b ns p d r q e h st a = subst (Stand d r q) (e st) (h st a)

pub step_sign : (k : Token) (g : Sign) (r : Role) → k ≡ token.sign g → r ≡ role g → (s : List Open) (x : Tree) → step (has s x) k ≡ behind r (has s x)
unfolding step go_on
step_sign k g r e i s x = rw (e, i) (behind_is s x (role g))

pub step_open_square : (k : Token) → k ≡ token.open_square → (s : List Open) (x : Tree) → step (has s x) k ≡ open_square (closed 3 (has s x))
unfolding step go_on closed
step_open_square k e s x = rw e refl

pub step_close_round : (k : Token) → k ≡ token.close_round → (s : List Open) (x : Tree) → step (has s x) k ≡ close_round (closed 31 (has s x))
unfolding step go_on closed
step_close_round k e s x = rw e refl

pub step_close_square : (k : Token) → k ≡ token.close_square → (s : List Open) (x : Tree) → step (has s x) k ≡ close_square (closed 31 (has s x))
unfolding step go_on closed
step_close_square k e s x = rw e refl

pub step_close_brace : (k : Token) → k ≡ token.close_brace → (s : List Open) (x : Tree) → step (has s x) k ≡ close_brace (closed 31 (has s x))
unfolding step go_on closed
step_close_brace k e s x = rw e refl

pub step_comma : (k : Token) → k ≡ token.comma → (s : List Open) (x : Tree) → step (has s x) k ≡ next_element (closed 31 (has s x))
unfolding step go_on closed
step_comma k e s x = rw e refl

pub step_atom : (k : Token) (a : Atom) → k ≡ token.atom a → (s : List Open) (x : Tree) → step (has s x) k ≡ beside k (has s x)
unfolding step go_on closed beside
step_atom k a e s x = rw e refl

pub step_open_round : (k : Token) → k ≡ token.open_round → (s : List Open) (x : Tree) → step (has s x) k ≡ beside k (has s x)
unfolding step go_on closed beside
step_open_round k e s x = rw e refl

pub step_open_brace : (k : Token) → k ≡ token.open_brace → (s : List Open) (x : Tree) → step (has s x) k ≡ beside k (has s x)
unfolding step go_on closed beside
step_open_brace k e s x = rw e refl

-- behind a `;`
pub settle_ends : (b : Standing) (ns r : List Node) (p : Entries) (d2 : Standing) (r2 : List Node) (q : Entries) (k : Token) → b ≡ Semi → ends_element k ≡ true → r ≡ ns ++ last_node ∷ []
    → ((st : State) → Stand Has r p st → Stand d2 r2 q (step st k)) → (st : State) → Stand b ns p st → Stand d2 r2 q (step st k)
unfolding step polish
settle_ends b ns r p d2 r2 q k e i f g = on_semi (λ st. Stand d2 r2 q (step st k)) b ns p e
    (λ s x n h. rw i (g (has s (last x)) (refl, f ∙ ap (λ l. l ++ last_node ∷ []) n ∙ append_assoc (out_of s) (polish x) (last_node ∷ []), h)))

pub settle_joins : (b : Standing) (ns : List Node) (p p2 : Entries) (d2 : Standing) (r2 : List Node) (q : Entries) (k : Token) → b ≡ Semi → ends_element k ≡ false → p2 ≡ p ++ entry.Infix Semicolon ∷ []
    → ((st : State) → Stand Wants ns p2 st → Stand d2 r2 q (started st k)) → (st : State) → Stand b ns p st → Stand d2 r2 q (step st k)
unfolding step started out_of entries
settle_joins b ns p p2 d2 r2 q k e i f g = on_semi (λ st. Stand d2 r2 q (step st k)) b ns p e
    (λ s x n h. rw i (g (wants (open_infix x Semicolon ∷ s)) (refl, n, f ∙ ap (λ l. l ++ entry.Infix Semicolon ∷ []) h)))

pub shut_square : (b : Standing) (ns : List Node) (p : Entries) (k : Token) → b ≡ Shuts → k ≡ token.close_square → (st : State) → Stand b ns p st → Stand Has ns p (step st k)
unfolding step
shut_square b ns p k e i = on_shuts (λ st. Stand Has ns p (step st k)) b ns p e (λ s x n h. rw i (refl, n, h))

pub shut_not : (b : Standing) (ns : List Node) (p : Entries) (k : Token) → b ≡ Shuts → (k ≡ token.close_square → ⊥) → (st : State) → Stand b ns p st → Stand Dead ns p (step st k)
unfolding step
shut_not b ns p k e m = on_shuts (λ st. Stand Dead ns p (step st k)) b ns p e (λ s x n h. rw (go k m s x) refl)
  where
    go : (k : Token) → (k ≡ token.close_square → ⊥) → (s : List Open) (x : Tree) → step (shuts s x) k ≡ dead
    go token.close_square m s x = absurd (m refl)
    go (token.atom a) m s x = refl
    go _ m s x = refl

pub not_close_square : (k : CodeToken) → (k ≡ code_token.CloseSquare → ⊥) → token_of k ≡ token.close_square → ⊥
not_close_square code_token.CloseSquare n e = n refl
not_close_square _ n e = cc

pub not_atom : (k : CodeToken) → ((a : CodeAtom) → k ≡ code_token.Atom a → ⊥) → (a : Atom) → token_of k ≡ token.atom a → ⊥
not_atom (code_token.Atom b) n a e = n b refl
not_atom _ n a e = cc

pub atom_not : (a : CodeAtom) → ((w : _) → a ≡ code_atom.Name w → ⊥) → ((w : _) → a ≡ code_atom.Text w → ⊥) → (s : List Open) → start_name s (token.atom (atom_of a)) ≡ dead
unfolding start_name
atom_not (code_atom.Name w) n m s = absurd (n w refl)
atom_not (code_atom.Text w) n m s = absurd (m w refl)
atom_not _ n m s = refl

pub step_wants : (b : Standing) (ns : List Node) (p : Entries) (d2 : Standing) (r : List Node) (q : Entries) (k : Token) → b ≡ Wants → ((st : State) → Stand b ns p st → Stand d2 r q (started st k)) → (st : State) → Stand b ns p st → Stand d2 r q (step st k)
unfolding step started
step_wants b ns p d2 r q k e g st h = on_wants (λ st. Stand b ns p st → Stand d2 r q (step st k)) b ns p e (λ s n l w. g (wants s) w) st h h

pub step_dead : (b : Standing) (ns : List Node) (p : Entries) (k : Token) → b ≡ Dead → (st : State) → Stand b ns p st → Stand b ns p (step st k)
unfolding step
step_dead b ns p k e = on_dead (λ st. Stand b ns p (step st k)) b ns p e e

-- closing operators
pub infix_closes : (level : ℕ) (b d : Standing) (os os2 : Nodes) (r : List Node) (p q : Entries) (e : Entry) (o : Infix) (f : Bool) → b ≡ Has → d ≡ Has → os2 ≡ os → p ≡ q ++ e ∷ [] → e ≡ entry.Infix o
    → takes level (infix_level o) ≡ true → OfOperand (nodes os2) f (fits_right o) → f ≡ true → r ≡ nodes os2 ++ between_node o ∷ []
    → (st : State) → Stand b (nodes os) p st → (to : State) × Stand d r q to × (closed level st ≡ closed level to)
unfolding closed close polish
infix_closes level b d os os2 r p q e o f e0 e1 e2 e3 e4 t fit i e5 =
    on_infix (λ st. (to : State) × Stand d r q to × (closed level st ≡ closed level to)) b (nodes os) p q e o e0 e3 e4
    (λ l s x j n. (has s (between l o x), (e1, rw (e5, e2, n) (simp append_assoc), j), rw (t, ← fit (out_of s ++ polish l) x (ap nodes e2 ∙ n), i) refl))

pub infix_unfit : (level : ℕ) (b : Standing) (os os2 : Nodes) (r : List Node) (p q : Entries) (e : Entry) (o : Infix) (f : Bool) → b ≡ Has → os2 ≡ os → p ≡ q ++ e ∷ [] → e ≡ entry.Infix o
    → takes level (infix_level o) ≡ true → OfOperand (nodes os2) f (fits_right o) → f ≡ false
    → (st : State) → Stand b (nodes os) p st → Stand Dead r q (closed level st)
unfolding closed close
infix_unfit level b os os2 r p q e o f e0 e2 e3 e4 t fit i =
    on_infix (λ st. Stand Dead r q (closed level st)) b (nodes os) p q e o e0 e3 e4 (λ l s x j n. rw (t, ← fit (out_of s ++ polish l) x (ap nodes e2 ∙ n), i) refl)

pub prefix_closes : (level : ℕ) (b d : Standing) (os os2 : Nodes) (r : List Node) (p q : Entries) (e : Entry) (o : Prefix) → b ≡ Has → d ≡ Has → os2 ≡ os → p ≡ q ++ e ∷ [] → e ≡ entry.Prefix o
    → takes level (prefix_level o) ≡ true → r ≡ nodes os2 ++ before_node o ∷ []
    → (st : State) → Stand b (nodes os) p st → (to : State) × Stand d r q to × (closed level st ≡ closed level to)
unfolding closed close polish
prefix_closes level b d os os2 r p q e o e0 e1 e2 e3 e4 t e5 =
    on_prefix (λ st. (to : State) × Stand d r q to × (closed level st ≡ closed level to)) b (nodes os) p q e o e0 e3 e4
    (λ s x j n. (has s (before o x), (e1, rw (e5, e2, n) (simp append_assoc), j), rw t refl))

pub infix_stuck : (level : ℕ) (b : Standing) (ns r : List Node) (p q : Entries) (e : Entry) (o : Infix) → b ≡ Has → p ≡ q ++ e ∷ [] → e ≡ entry.Infix o
    → takes level (infix_level o) ≡ false → leaves (infix_level o) level ≡ false → (st : State) → Stand b ns p st → Stand Dead r q (closed level st)
unfolding closed close
infix_stuck level b ns r p q e o e0 e3 e4 t u = on_infix (λ st. Stand Dead r q (closed level st)) b ns p q e o e0 e3 e4 (λ l s x j n. rw (t, u) refl)

pub prefix_stuck : (level : ℕ) (b : Standing) (ns r : List Node) (p q : Entries) (e : Entry) (o : Prefix) → b ≡ Has → p ≡ q ++ e ∷ [] → e ≡ entry.Prefix o
    → takes level (prefix_level o) ≡ false → leaves (prefix_level o) level ≡ false → (st : State) → Stand b ns p st → Stand Dead r q (closed level st)
unfolding closed close
prefix_stuck level b ns r p q e o e0 e3 e4 t u = on_prefix (λ st. Stand Dead r q (closed level st)) b ns p q e o e0 e3 e4 (λ s x j n. rw (t, u) refl)

-- operators that are left, put back
pub infix_left : (level : ℕ) (b d : Standing) (os os2 : Nodes) (p q q2 : Entries) (e : Entry) (o : Infix) → b ≡ Has → d ≡ Has → os2 ≡ os → p ≡ q ++ e ∷ [] → q2 ≡ q ++ entry.Infix o ∷ [] → e ≡ entry.Infix o
    → leaves (infix_level o) level ≡ true → (st : State) → Stand b (nodes os) p st → Stand d (nodes os2) q2 (closed level st)
unfolding closed out_of entries
infix_left level b d os os2 p q q2 e o e0 e1 e2 e3 e5 e4 u =
    on_infix (λ st. Stand d (nodes os2) q2 (closed level st)) b (nodes os) p q e o e0 e3 e4 (λ l s x j n. rw (close-leaves level (open_infix l o ∷ s) x u) (e1, ap nodes e2 ∙ n, rw (e5, j) refl))

pub prefix_left : (level : ℕ) (b d : Standing) (os os2 : Nodes) (p q q2 : Entries) (e : Entry) (o : Prefix) → b ≡ Has → d ≡ Has → os2 ≡ os → p ≡ q ++ e ∷ [] → q2 ≡ q ++ entry.Prefix o ∷ [] → e ≡ entry.Prefix o
    → leaves (prefix_level o) level ≡ true → (st : State) → Stand b (nodes os) p st → Stand d (nodes os2) q2 (closed level st)
unfolding closed out_of entries
prefix_left level b d os os2 p q q2 e o e0 e1 e2 e3 e5 e4 u =
    on_prefix (λ st. Stand d (nodes os2) q2 (closed level st)) b (nodes os) p q e o e0 e3 e4 (λ s x j n. rw (close-leaves level (open_prefix o ∷ s) x u) (e1, ap nodes e2 ∙ n, rw (e5, j) refl))

bracket_closed : (level : ℕ) (o : Open) (s : List Open) (x : Tree) → ((i : Infix) → entry_of o ≡ entry.Infix i → ⊥) → ((i : Prefix) → entry_of o ≡ entry.Prefix i → ⊥) → close level (o ∷ s) x ≡ has (o ∷ s) x
unfolding close
bracket_closed level (open_infix l o) s x n m = absurd (n o refl)
bracket_closed level (open_prefix o) s x n m = absurd (m o refl)
bracket_closed level open_round s x n m = refl
bracket_closed level (open_brace xs) s x n m = refl
bracket_closed level (open_call f xs) s x n m = refl
bracket_closed level (open_part f xs) s x n m = refl

pub bracket_left : (level : ℕ) (b d : Standing) (os os2 : Nodes) (p q q2 : Entries) (e : Entry) → b ≡ Has → d ≡ Has → os2 ≡ os → p ≡ q ++ e ∷ [] → q2 ≡ q ++ e ∷ []
    → ((i : Infix) → e ≡ entry.Infix i → ⊥) → ((i : Prefix) → e ≡ entry.Prefix i → ⊥) → (st : State) → Stand b (nodes os) p st → Stand d (nodes os2) q2 (closed level st)
unfolding closed entries
bracket_left level b d os os2 p q q2 e e0 e1 e2 e3 e5 n m = on_popped (λ st. Stand d (nodes os2) q2 (closed level st)) b (nodes os) p q e e0 e3
    (λ o s x i j w. rw (bracket_closed level o s x (λ c k. n c (sym i ∙ k)) (λ c k. m c (sym i ∙ k))) (e1, ap nodes e2 ∙ w, e5 ∙ ap₂ (λ l c. l ++ c ∷ []) j (sym i)))

pub nothing_left : (level : ℕ) (b d : Standing) (os os2 : Nodes) (p q : Entries) → b ≡ Has → (b ≢ Has) ⊎ (p ≡ []) → d ≡ b → os2 ≡ os → q ≡ p → (st : State) → Stand b (nodes os) p st → Stand d (nodes os2) q (closed level st)
unfolding closed close
nothing_left level b d os os2 p q a (inl n) e1 e2 e3 st h = absurd (n a)
nothing_left level b d os os2 p q a (inr e) e1 e2 e3 st h = on_has (λ st. Stand d (nodes os2) q (closed level st)) b (nodes os) p a go st h
  where
    go : (s : List Open) (x : Tree) → nodes os ≡ out_of s ++ polish x → p ≡ entries s → Stand d (nodes os2) q (closed level (has s x))
    go [] x n k = (e1 ∙ a, ap nodes e2 ∙ n, e3 ∙ k)
    go (o ∷ s) x n k = absurd (no_open p e o s k)
