-- The functions of the machine, on the states that its fields stand for.
use Rattle.std.proofs.Common.{Bool, true, false, ◌≡◌, List, [], ◌∷◌, ◌++◌, refl, sym, ap, ◌∙◌, subst, append_assoc, ◌⊎◌, ◌≢◌, inl, inr}
use Rattle.std.proofs.lemmas.List.{same_from_push}
use Rattle.wl_syntax.specs.declared.operator.Infix.{Infix}
use Rattle.wl_syntax.specs.declared.operator.Infix.TheVariants.{Message, Tag, Set, SetDelayed}
use Rattle.wl_syntax.specs.declared.operator.Postfix.TheVariants.{Unset}
use Rattle.wl_syntax.specs.declared.operator.Prefix.{Prefix}
use Rattle.wl_syntax.specs.declared.operator.Postfix.{Postfix}
use Rattle.wl_syntax.specs.declared.machine.Entry.{Entry}
use Rattle.wl_syntax.specs.declared.machine.Entry.TheVariants as entry
use Rattle.wl_syntax.specs.declared.machine.Standing.{Standing}
use Rattle.wl_syntax.specs.declared.machine.Standing.TheVariants.{Wants, Has, Semi, Shuts, Dead}
use Rattle.wl_syntax.specs.declared.token.Node.{Node as CodeNode}
use Rattle.wl_syntax.specs.Token.{name}
use Rattle.wl_syntax.specs.Tree.{Tree, leaf, paren, brace, call, part, before, after, last, between, Elems, none, more, is_name, is_definition}
use Rattle.wl_syntax.specs.Machine.{Open, open_infix, open_prefix, open_round, open_brace, open_call, open_part, State, wants, has, semi, shuts, dead, fits_left, fits_right, on_tag, names_wanted, join, end_with, part_with, open_square, close_round, close_brace, close_square, next_element}
use Rattle.wl_syntax.specs.Polish.{Node, list_node, element_node, call_node, between_node, polish, polish_elems, node_of}
use Rattle.wl_syntax.specs.Flat.{out_of, entry_of, entries, root_of, node_defines, node_names, nodes, Stand}
use Rattle.wl_syntax.specs.Moves.{OfOperand}

-- one more node
pub pushed : (ns ms : List CodeNode) (n : CodeNode) → ms ≡ ns ++ n ∷ [] → nodes ms ≡ nodes ns ++ node_of n ∷ []
pushed ns ms n e = ap nodes e ∙ go ns
  where
    go : (ks : List CodeNode) → nodes (ks ++ n ∷ []) ≡ nodes ks ++ node_of n ∷ []
    go [] = refl
    go (k ∷ ks) = ap (λ l. node_of k ∷ l) (go ks)

-- What holds of each state with an operand holds of one that the fields stand for where an operand stands; and so on.
pub on_has : (P : State → Type 0) (b : Standing) (out : List Node) (p : List Entry) → b ≡ Has → ((s : List Open) (x : Tree) → out ≡ out_of s ++ polish x → p ≡ entries s → P (has s x)) → (st : State) → Stand b out p st → P st
on_has P b out p e each (has s x) h = each s x h.1 h.2
on_has P b out p e each (wants s) h = let g = h.0 in absurd (cc)
on_has P b out p e each (semi s x) h = let g = h.0 in absurd (cc)
on_has P b out p e each (shuts s x) h = let g = h.0 in absurd (cc)
on_has P b out p e each dead h = absurd (cc)

pub on_wants : (P : State → Type 0) (b : Standing) (out : List Node) (p : List Entry) → b ≡ Wants → ((s : List Open) → out ≡ out_of s → p ≡ entries s → P (wants s)) → (st : State) → Stand b out p st → P st
on_wants P b out p e each (wants s) h = each s h.1 h.2
on_wants P b out p e each (has s x) h = let g = h.0 in absurd (cc)
on_wants P b out p e each (semi s x) h = let g = h.0 in absurd (cc)
on_wants P b out p e each (shuts s x) h = let g = h.0 in absurd (cc)
on_wants P b out p e each dead h = absurd (cc)

pub on_semi : (P : State → Type 0) (b : Standing) (out : List Node) (p : List Entry) → b ≡ Semi → ((s : List Open) (x : Tree) → out ≡ out_of s ++ polish x → p ≡ entries s → P (semi s x)) → (st : State) → Stand b out p st → P st
on_semi P b out p e each (semi s x) h = each s x h.1 h.2
on_semi P b out p e each (wants s) h = let g = h.0 in absurd (cc)
on_semi P b out p e each (has s x) h = let g = h.0 in absurd (cc)
on_semi P b out p e each (shuts s x) h = let g = h.0 in absurd (cc)
on_semi P b out p e each dead h = absurd (cc)

pub on_shuts : (P : State → Type 0) (b : Standing) (out : List Node) (p : List Entry) → b ≡ Shuts → ((s : List Open) (x : Tree) → out ≡ out_of s ++ polish x → p ≡ entries s → P (shuts s x)) → (st : State) → Stand b out p st → P st
on_shuts P b out p e each (shuts s x) h = each s x h.1 h.2
on_shuts P b out p e each (wants s) h = let g = h.0 in absurd (cc)
on_shuts P b out p e each (has s x) h = let g = h.0 in absurd (cc)
on_shuts P b out p e each (semi s x) h = let g = h.0 in absurd (cc)
on_shuts P b out p e each dead h = absurd (cc)

pub on_dead : (P : State → Type 0) (b : Standing) (out : List Node) (p : List Entry) → b ≡ Dead → P dead → (st : State) → Stand b out p st → P st
on_dead P b out p e each dead h = each
on_dead P b out p e each (wants s) h = let g = h.0 in absurd (cc)
on_dead P b out p e each (has s x) h = let g = h.0 in absurd (cc)
on_dead P b out p e each (semi s x) h = let g = h.0 in absurd (cc)
on_dead P b out p e each (shuts s x) h = let g = h.0 in absurd (cc)

-- a function of states that is dead but at an operand
pub record NeedsHas (f : State → State) : Type 0 where
  pub at_wants : (s : List Open) → f (wants s) ≡ dead
  pub at_semi : (s : List Open) (x : Tree) → f (semi s x) ≡ dead
  pub at_shuts : (s : List Open) (x : Tree) → f (shuts s x) ≡ dead
  pub at_dead : f dead ≡ dead

pub unless_has : (f : State → State) → NeedsHas f → (b : Standing) (out r : List Node) (p q : List Entry) → (b ≡ Has → ⊥) → (st : State) → Stand b out p st → Stand Dead r q (f st)
unless_has f d b out r p q n (has s x) h = absurd (n h.0)
unless_has f d b out r p q n (wants s) h = rw (d.at_wants s) refl
unless_has f d b out r p q n (semi s x) h = rw (d.at_semi s x) refl
unless_has f d b out r p q n (shuts s x) h = rw (d.at_shuts s x) refl
unless_has f d b out r p q n dead h = rw d.at_dead refl

pub join_needs : (o : Infix) → NeedsHas (join o)
unfolding join
join_needs o = record { at_wants = λ s. refl; at_semi = λ s x. refl; at_shuts = λ s x. refl; at_dead = refl }

pub end_needs : (o : Postfix) → NeedsHas (end_with o)
unfolding end_with
end_needs o = record { at_wants = λ s. refl; at_semi = λ s x. refl; at_shuts = λ s x. refl; at_dead = refl }

pub part_needs : NeedsHas part_with
unfolding part_with
part_needs = record { at_wants = λ s. refl; at_semi = λ s x. refl; at_shuts = λ s x. refl; at_dead = refl }

pub square_needs : NeedsHas open_square
unfolding open_square
square_needs = record { at_wants = λ s. refl; at_semi = λ s x. refl; at_shuts = λ s x. refl; at_dead = refl }

pub close_round_needs : NeedsHas close_round
unfolding close_round
close_round_needs = record { at_wants = λ s. refl; at_semi = λ s x. refl; at_shuts = λ s x. refl; at_dead = refl }

pub close_brace_needs : NeedsHas close_brace
unfolding close_brace
close_brace_needs = record { at_wants = λ s. refl; at_semi = λ s x. refl; at_shuts = λ s x. refl; at_dead = refl }

pub close_square_needs : NeedsHas close_square
unfolding close_square
close_square_needs = record { at_wants = λ s. refl; at_semi = λ s x. refl; at_shuts = λ s x. refl; at_dead = refl }

pub next_needs : NeedsHas next_element
unfolding next_element
next_needs = record { at_wants = λ s. refl; at_semi = λ s x. refl; at_shuts = λ s x. refl; at_dead = refl }

-- the last node of an operand is its tree's root
root-polish : (x : Tree) → (ns : List Node) × (polish x ≡ ns ++ root_of x ∷ [])
unfolding polish
root-polish (leaf a) = ([], refl)
root-polish (paren t) = (polish t, refl)
root-polish (brace xs) = (list_node ∷ polish_elems xs, refl)
root-polish (call f xs) = (polish f ++ polish_elems xs, sym (append_assoc (polish f) (polish_elems xs) (call_node ∷ [])))
root-polish (part f xs t) = (polish f ++ (polish_elems xs ++ (polish t ++ element_node ∷ [])), simp append_assoc)
root-polish (before o t) = (polish t, refl)
root-polish (after t o) = (polish t, refl)
root-polish (last t) = (polish t, refl)
root-polish (between l o r) = (polish l ++ polish r, sym (append_assoc (polish l) (polish r) (between_node o ∷ [])))

pub root_is : (ns : List CodeNode) (n : CodeNode) (ms : List CodeNode) → ns ≡ ms ++ n ∷ [] → (ks : List Node) (x : Tree) → nodes ns ≡ ks ++ polish x → root_of x ≡ node_of n
root_is ns n ms e ks x h =
    let (js, i) = root-polish x in
    let g = same_from_push (nodes ms) (ks ++ js) (node_of n) (root_of x) (sym (pushed ms ns n e) ∙ h ∙ ap (λ l. ks ++ l) i ∙ sym (append_assoc ks js (root_of x ∷ []))) in
    sym g.1

no_push : (q : List Node) (e : Node) → [] ≡ q ++ e ∷ [] → ⊥
no_push [] e h = cc
no_push (d ∷ q) e h = cc

pub no_root : (ns : List CodeNode) → ns ≡ [] → (ks : List Node) (x : Tree) → nodes ns ≡ ks ++ polish x → ⊥
no_root ns e ks x h =
    let (js, i) = root-polish x in
    no_push (ks ++ js) (root_of x) (sym (ap nodes e) ∙ h ∙ ap (λ l. ks ++ l) i ∙ sym (append_assoc ks js (root_of x ∷ [])))

no_entry : (q : List Entry) (e : Entry) → [] ≡ q ++ e ∷ [] → ⊥
no_entry [] e h = cc
no_entry (d ∷ q) e h = cc

pub no_open : (p : List Entry) → p ≡ [] → (o : Open) (s : List Open) → p ≡ entries (o ∷ s) → ⊥
unfolding entries
no_open p e o s h = no_entry (entries s) (entry_of o) (sym e ∙ h)

-- what is open, by its innermost entry
pub top_is : (p : List Entry) (q : List Entry) (e : Entry) → p ≡ q ++ e ∷ [] → (o : Open) (s : List Open) → p ≡ entries (o ∷ s) → (entry_of o ≡ e) × (q ≡ entries s)
unfolding entries
top_is p q e i o s h = let g = same_from_push q (entries s) e (entry_of o) (sym i ∙ h) in (sym g.1, g.0)

-- tests of what is open
pub test_none : (test : List Open → Bool) → test [] ≡ false → (p : List Entry) → p ≡ [] → (s : List Open) → p ≡ entries s → false ≡ test s
test_none test t p e [] h = sym t
test_none test t p e (o ∷ s) h = absurd (no_open p e o s h)

pub test_top : (test : List Open → Bool) (b : Bool) (p q : List Entry) (e : Entry) → p ≡ q ++ e ∷ [] → ((o : Open) (s : List Open) → entry_of o ≡ e → b ≡ test (o ∷ s)) → (s : List Open) → p ≡ entries s → b ≡ test s
unfolding entries
test_top test b p q e i each [] h = absurd (no_entry q e (sym h ∙ i))
test_top test b p q e i each (o ∷ s) h = each o s (top_is p q e i o s h).0

pub tag_none : on_tag [] ≡ false
unfolding on_tag
tag_none = refl

pub names_none : names_wanted [] ≡ false
unfolding names_wanted
names_none = refl

pub tag_top : (o : Open) (s : List Open) → entry_of o ≡ entry.Infix Tag → true ≡ on_tag (o ∷ s)
unfolding on_tag
tag_top (open_infix l o) s e = let i : o ≡ Tag = cc in rw i refl
tag_top (open_prefix o) s e = absurd (cc)
tag_top open_round s e = absurd (cc)
tag_top (open_brace none) s e = absurd (cc)
tag_top (open_brace (more xs t)) s e = absurd (cc)
tag_top (open_call f none) s e = absurd (cc)
tag_top (open_call f (more xs t)) s e = absurd (cc)
tag_top (open_part f xs) s e = absurd (cc)

pub tag_not : (o : Open) (s : List Open) → (entry_of o ≡ entry.Infix Tag → ⊥) → false ≡ on_tag (o ∷ s)
unfolding on_tag
tag_not (open_infix l Tag) s n = absurd (n refl)
tag_not (open_infix l _) s n = refl
tag_not _ s n = refl

pub names_top : (o : Open) (s : List Open) → entry_of o ≡ entry.Infix Message → true ≡ names_wanted (o ∷ s)
unfolding names_wanted
names_top (open_infix l o) s e = let i : o ≡ Message = cc in rw i refl
names_top (open_prefix o) s e = absurd (cc)
names_top open_round s e = absurd (cc)
names_top (open_brace none) s e = absurd (cc)
names_top (open_brace (more xs t)) s e = absurd (cc)
names_top (open_call f none) s e = absurd (cc)
names_top (open_call f (more xs t)) s e = absurd (cc)
names_top (open_part f xs) s e = absurd (cc)

pub names_not : (o : Open) (s : List Open) → (entry_of o ≡ entry.Infix Message → ⊥) → false ≡ names_wanted (o ∷ s)
unfolding names_wanted
names_not (open_infix l Message) s n = absurd (n refl)
names_not (open_infix l _) s n = refl
names_not _ s n = refl

-- The state under a popped entry.
pub on_popped : (P : State → Type 0) (b : Standing) (out : List Node) (p q : List Entry) (e : Entry) → b ≡ Has → p ≡ q ++ e ∷ []
    → ((o : Open) (s : List Open) (x : Tree) → entry_of o ≡ e → q ≡ entries s → out ≡ out_of (o ∷ s) ++ polish x → P (has (o ∷ s) x))
    → (st : State) → Stand b out p st → P st
unfolding entries
on_popped P b out p q e a f each = on_has P b out p a go
  where
    go : (s : List Open) (x : Tree) → out ≡ out_of s ++ polish x → p ≡ entries s → P (has s x)
    go [] x n h = absurd (no_entry q e (sym h ∙ f))
    go (o ∷ s) x n h = let g = top_is p q e f o s h in each o s x g.0 g.1 n

-- a function that needs something open
pub record NeedsOpen (f : State → State) : Type 0 where
  pub needs : NeedsHas f
  pub at_none : (x : Tree) → f (has [] x) ≡ dead

pub unless_open : (f : State → State) → NeedsOpen f → (b : Standing) (out r : List Node) (p q : List Entry) → (b ≢ Has) ⊎ (p ≡ []) → (st : State) → Stand b out p st → Stand Dead r q (f st)
unless_open f d b out r p q (inl n) st h = unless_has f d.needs b out r p q n st h
unless_open f d b out r p q (inr e) (has [] x) h = rw (d.at_none x) refl
unless_open f d b out r p q (inr e) (has (o ∷ s) x) h = absurd (no_open p e o s h.2)
unless_open f d b out r p q (inr e) (wants s) h = rw (d.needs.at_wants s) refl
unless_open f d b out r p q (inr e) (semi s x) h = rw (d.needs.at_semi s x) refl
unless_open f d b out r p q (inr e) (shuts s x) h = rw (d.needs.at_shuts s x) refl
unless_open f d b out r p q (inr e) dead h = rw d.needs.at_dead refl

pub round_open : NeedsOpen close_round
unfolding close_round
round_open = record { needs = close_round_needs; at_none = λ x. refl }

pub brace_open : NeedsOpen close_brace
unfolding close_brace
brace_open = record { needs = close_brace_needs; at_none = λ x. refl }

pub square_open : NeedsOpen close_square
unfolding close_square
square_open = record { needs = close_square_needs; at_none = λ x. refl }

pub next_open : NeedsOpen next_element
unfolding next_element
next_open = record { needs = next_needs; at_none = λ x. refl }

-- which brackets an entry is
abbrev pub is_call : Entry → Bool
is_call entry.Call = true
is_call entry.CallMore = true
is_call _ = false

abbrev pub is_brace : Entry → Bool
is_brace entry.Brace = true
is_brace entry.BraceMore = true
is_brace _ = false

called : (o : Open) → is_call (entry_of o) ≡ true → (f : Tree) × (xs : Elems) × (o ≡ open_call f xs)
called (open_call f xs) i = (f, xs, refl)
called (open_brace none) i = absurd (cc)
called (open_brace (more xs t)) i = absurd (cc)
called _ i = absurd (cc)

braced : (o : Open) → is_brace (entry_of o) ≡ true → (xs : Elems) × (o ≡ open_brace xs)
braced (open_brace xs) i = (xs, refl)
braced (open_call f none) i = absurd (cc)
braced (open_call f (more xs t)) i = absurd (cc)
braced _ i = absurd (cc)

parted : (o : Open) → entry_of o ≡ entry.Part → (f : Tree) × (xs : Elems) × (o ≡ open_part f xs)
parted (open_part f xs) i = (f, xs, refl)
parted (open_call f none) i = absurd (cc)
parted (open_call f (more xs t)) i = absurd (cc)
parted (open_brace none) i = absurd (cc)
parted (open_brace (more xs t)) i = absurd (cc)
parted _ i = absurd (cc)

rounded : (o : Open) → entry_of o ≡ entry.Round → o ≡ open_round
rounded open_round i = refl
rounded (open_call f none) i = absurd (cc)
rounded (open_call f (more xs t)) i = absurd (cc)
rounded (open_brace none) i = absurd (cc)
rounded (open_brace (more xs t)) i = absurd (cc)
rounded _ i = absurd (cc)

infixed : (o : Open) (i : Infix) → entry_of o ≡ entry.Infix i → (l : Tree) × (o ≡ open_infix l i)
infixed (open_infix l o) i e = (l, ap (λ u. open_infix l u) cc)
infixed (open_call f none) i e = absurd (cc)
infixed (open_call f (more xs t)) i e = absurd (cc)
infixed (open_brace none) i e = absurd (cc)
infixed (open_brace (more xs t)) i e = absurd (cc)
infixed _ i e = absurd (cc)

prefixed_is : (o : Open) (i : Prefix) → entry_of o ≡ entry.Prefix i → o ≡ open_prefix i
prefixed_is (open_prefix o) i e = ap (λ u. open_prefix u) cc
prefixed_is (open_call f none) i e = absurd (cc)
prefixed_is (open_call f (more xs t)) i e = absurd (cc)
prefixed_is (open_brace none) i e = absurd (cc)
prefixed_is (open_brace (more xs t)) i e = absurd (cc)
prefixed_is _ i e = absurd (cc)

pub on_round : (P : State → Type 0) (b : Standing) (out : List Node) (p q : List Entry) (e : Entry) → b ≡ Has → p ≡ q ++ e ∷ [] → e ≡ entry.Round
    → ((s : List Open) (x : Tree) → q ≡ entries s → out ≡ out_of s ++ polish x → P (has (open_round ∷ s) x)) → (st : State) → Stand b out p st → P st
unfolding out_of
on_round P b out p q e a f k each = on_popped P b out p q e a f go
  where
    go : (o : Open) (s : List Open) (x : Tree) → entry_of o ≡ e → q ≡ entries s → out ≡ out_of (o ∷ s) ++ polish x → P (has (o ∷ s) x)
    go o s x i j n = let h = rounded o (i ∙ k) in subst (λ u. P (has (u ∷ s) x)) (sym h) (each s x j (n ∙ ap (λ u. out_of (u ∷ s) ++ polish x) h))

pub on_call : (P : State → Type 0) (b : Standing) (out : List Node) (p q : List Entry) (e : Entry) → b ≡ Has → p ≡ q ++ e ∷ [] → is_call e ≡ true
    → ((f : Tree) (xs : Elems) (s : List Open) (x : Tree) → q ≡ entries s → out ≡ (out_of s ++ (polish f ++ polish_elems xs)) ++ polish x → P (has (open_call f xs ∷ s) x)) → (st : State) → Stand b out p st → P st
unfolding out_of
on_call P b out p q e a f k each = on_popped P b out p q e a f go
  where
    go : (o : Open) (s : List Open) (x : Tree) → entry_of o ≡ e → q ≡ entries s → out ≡ out_of (o ∷ s) ++ polish x → P (has (o ∷ s) x)
    go o s x i j n = let (g, xs, h) = called o (ap is_call i ∙ k) in subst (λ u. P (has (u ∷ s) x)) (sym h) (each g xs s x j (n ∙ ap (λ u. out_of (u ∷ s) ++ polish x) h))

pub on_brace : (P : State → Type 0) (b : Standing) (out : List Node) (p q : List Entry) (e : Entry) → b ≡ Has → p ≡ q ++ e ∷ [] → is_brace e ≡ true
    → ((xs : Elems) (s : List Open) (x : Tree) → q ≡ entries s → out ≡ (out_of s ++ list_node ∷ polish_elems xs) ++ polish x → P (has (open_brace xs ∷ s) x)) → (st : State) → Stand b out p st → P st
unfolding out_of
on_brace P b out p q e a f k each = on_popped P b out p q e a f go
  where
    go : (o : Open) (s : List Open) (x : Tree) → entry_of o ≡ e → q ≡ entries s → out ≡ out_of (o ∷ s) ++ polish x → P (has (o ∷ s) x)
    go o s x i j n = let (xs, h) = braced o (ap is_brace i ∙ k) in subst (λ u. P (has (u ∷ s) x)) (sym h) (each xs s x j (n ∙ ap (λ u. out_of (u ∷ s) ++ polish x) h))

pub on_part : (P : State → Type 0) (b : Standing) (out : List Node) (p q : List Entry) (e : Entry) → b ≡ Has → p ≡ q ++ e ∷ [] → e ≡ entry.Part
    → ((f : Tree) (xs : Elems) (s : List Open) (x : Tree) → q ≡ entries s → out ≡ (out_of s ++ (polish f ++ polish_elems xs)) ++ polish x → P (has (open_part f xs ∷ s) x)) → (st : State) → Stand b out p st → P st
unfolding out_of
on_part P b out p q e a f k each = on_popped P b out p q e a f go
  where
    go : (o : Open) (s : List Open) (x : Tree) → entry_of o ≡ e → q ≡ entries s → out ≡ out_of (o ∷ s) ++ polish x → P (has (o ∷ s) x)
    go o s x i j n = let (g, xs, h) = parted o (i ∙ k) in subst (λ u. P (has (u ∷ s) x)) (sym h) (each g xs s x j (n ∙ ap (λ u. out_of (u ∷ s) ++ polish x) h))

pub on_infix : (P : State → Type 0) (b : Standing) (out : List Node) (p q : List Entry) (e : Entry) (o : Infix) → b ≡ Has → p ≡ q ++ e ∷ [] → e ≡ entry.Infix o
    → ((l : Tree) (s : List Open) (x : Tree) → q ≡ entries s → out ≡ (out_of s ++ polish l) ++ polish x → P (has (open_infix l o ∷ s) x)) → (st : State) → Stand b out p st → P st
unfolding out_of
on_infix P b out p q e o a f k each = on_popped P b out p q e a f go
  where
    go : (u : Open) (s : List Open) (x : Tree) → entry_of u ≡ e → q ≡ entries s → out ≡ out_of (u ∷ s) ++ polish x → P (has (u ∷ s) x)
    go u s x i j n = let (l, h) = infixed u o (i ∙ k) in subst (λ u. P (has (u ∷ s) x)) (sym h) (each l s x j (n ∙ ap (λ u. out_of (u ∷ s) ++ polish x) h))

pub on_prefix : (P : State → Type 0) (b : Standing) (out : List Node) (p q : List Entry) (e : Entry) (o : Prefix) → b ≡ Has → p ≡ q ++ e ∷ [] → e ≡ entry.Prefix o
    → ((s : List Open) (x : Tree) → q ≡ entries s → out ≡ out_of s ++ polish x → P (has (open_prefix o ∷ s) x)) → (st : State) → Stand b out p st → P st
unfolding out_of
on_prefix P b out p q e o a f k each = on_popped P b out p q e a f go
  where
    go : (u : Open) (s : List Open) (x : Tree) → entry_of u ≡ e → q ≡ entries s → out ≡ out_of (u ∷ s) ++ polish x → P (has (u ∷ s) x)
    go u s x i j n = let h = prefixed_is u o (i ∙ k) in subst (λ u. P (has (u ∷ s) x)) (sym h) (each s x j (n ∙ ap (λ u. out_of (u ∷ s) ++ polish x) h))

-- what the machine looks at in an operand, by its root
root_names : (x : Tree) → node_names (root_of x) ≡ is_name x
unfolding is_name
root_names (leaf (name a)) = refl
root_names (leaf _) = refl
root_names _ = refl

root_defines : (x : Tree) → node_defines (root_of x) ≡ is_definition x
unfolding is_definition
root_defines (between l Set r) = refl
root_defines (between l SetDelayed r) = refl
root_defines (between l _ r) = refl
root_defines (after t Unset) = refl
root_defines (after t _) = refl
root_defines _ = refl

pub left_none : (ns : List CodeNode) (b : Bool) (test : Tree → Bool) → ns ≡ [] → OfOperand (nodes ns) b test
left_none ns b test e ms x h = absurd (no_root ns e ms x h)

pub left_named : (ns : List CodeNode) (ms : List CodeNode) (n : CodeNode) (b : Bool) (o : Infix) → o ≡ Message → ns ≡ ms ++ n ∷ [] → b ≡ node_names (node_of n) → OfOperand (nodes ns) b (fits_left o)
unfolding fits_left
left_named ns ms n b o i e f ks x h = rw i (f ∙ ap node_names (sym (root_is ns n ms e ks x h)) ∙ root_names x)

pub right_defined : (ns : List CodeNode) (ms : List CodeNode) (n : CodeNode) (b : Bool) (o : Infix) → o ≡ Tag → ns ≡ ms ++ n ∷ [] → b ≡ node_defines (node_of n) → OfOperand (nodes ns) b (fits_right o)
unfolding fits_right
right_defined ns ms n b o i e f ks x h = rw i (f ∙ ap node_defines (sym (root_is ns n ms e ks x h)) ∙ root_defines x)

left_any : (o : Infix) → (o ≡ Message → ⊥) → (x : Tree) → true ≡ fits_left o x
unfolding fits_left
left_any Message n x = absurd (n refl)
left_any _ n x = refl

right_any : (o : Infix) → (o ≡ Tag → ⊥) → (x : Tree) → true ≡ fits_right o x
unfolding fits_right
right_any Tag n x = absurd (n refl)
right_any _ n x = refl

pub left_free : (ns : List CodeNode) (o : Infix) → (o ≡ Message → ⊥) → OfOperand (nodes ns) true (fits_left o)
left_free ns o n ms x h = left_any o n x

pub right_free : (ns : List CodeNode) (o : Infix) → (o ≡ Tag → ⊥) → OfOperand (nodes ns) true (fits_right o)
right_free ns o n ms x h = right_any o n x

-- another operator than this one
pub other_infix : (d e : Entry) (i j : Infix) → d ≡ e → e ≡ entry.Infix i → (i ≡ j → ⊥) → d ≡ entry.Infix j → ⊥
other_infix d e i j p q n r = let k : i ≡ j = cc in n k
