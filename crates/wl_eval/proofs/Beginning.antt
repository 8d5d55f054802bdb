-- An evaluator with the store of the start is sound, and stays so where a cell begins and a line is kept.
use Rattle.std.proofs.Common.{Vec, Global, ◌≡◌, ℕ, zero, suc, Bool, true, false, ◌&&◌, List, [], ◌∷◌, ◌++◌, map, Option, Some, None, bytes_eq, refl, sym, ap, ◌∙◌, subst, arith, true≢false}
use Rattle.std.proofs.lemmas.List.Elements.{All-nil, All-cons}
use Rattle.std.specs.List.{All}
use Rattle.wl_desk.specs.Desk.{Desk, new_desk}
use Rattle.wl_expr.specs.Words.{Name}
use Rattle.wl_rules.specs.Attributes.{AttributeSet}
use Rattle.wl_rules.specs.Changes.{AreDistinct}
use Rattle.wl_rules.specs.Entries.{Entry, value_at, put_message}
use Rattle.wl_rules.specs.Start.{SymbolRow, MessageText, with_texts, message_rows, symbol_rows, slot_of_symbol, protected_with, symbols_in, limit_rule, slot_of_limit, limit_rows, start_store}
use Rattle.wl_rules.specs.Stored.{Stored, Slot, row_at, definitions}
use Rattle.wl_rules.specs.declared.rule.Rule.{Rule}
use Rattle.wl_rules.specs.declared.rule.RuleKind.TheVariants.{Own, Down, Up, Sub}
use Rattle.wl_semantics.specs.Eval.{number_in}
use Rattle.wl_state.specs.Honest.{HonestRule, HonestRules, HonestStore}
use Rattle.wl_semantics.specs.LeftSides.{recursion_limit, iteration_limit}
use Rattle.wl_state.specs.Logs.{IsLogOf}
use Rattle.wl_state.specs.Played.{Sound, HonestLine}
use Rattle.wl_state.specs.declared.evaluator.Evaluator.{Evaluator}
use Rattle.wl_state.specs.declared.evaluator.Line.{Line}
use Rattle.wl_state.proofs.Changing.{no_rules_honest}
use Rattle.wl_state.proofs.Playing.{began_none}

-- ---- names stand once

abbrev is_new : Option Slot → Bool
is_new None = true
is_new (Some w) = false

abbrev are_apart : List (Name × Slot) → Bool
are_apart [] = true
are_apart (r ∷ rs) = is_new (value_at r.0 rs) && are_apart rs

new_is_none : (o : Option Slot) → is_new o ≡ true → o ≡ None
new_is_none None e = refl
new_is_none (Some w) e = absurd (true≢false (sym e))

both : (a b : Bool) → (a && b) ≡ true → (a ≡ true) × (b ≡ true)
both true b e = (refl, e)
both false b e = absurd (true≢false (sym e))

apart_distinct : (rows : List (Name × Slot)) → are_apart rows ≡ true → AreDistinct rows
apart_distinct [] e = tt
apart_distinct (r ∷ rs) e = let p = both (is_new (value_at r.0 rs)) (are_apart rs) e in (new_is_none (value_at r.0 rs) p.0, apart_distinct rs p.1)

start_distinct : AreDistinct start_store.rows
start_distinct = apart_distinct start_store.rows refl

-- ---- no rule has a stamp

module _ (c : Stored) where
  abbrev Rows : List (Name × Slot) → Type 0
  Rows rows = (j : ℕ) → HonestRules c (row_at j rows).1.entry.rules

  none_at_all : Rows []
  none_at_all j = no_rules_honest c

  rows_cons : (r : Name × Slot) (rs : List (Name × Slot)) → HonestRules c r.1.entry.rules → Rows rs → Rows (r ∷ rs)
  rows_cons r rs h g zero = h
  rows_cons r rs h g (suc j) = g j

  rows_append : (xs ys : List (Name × Slot)) → Rows xs → Rows ys → Rows (xs ++ ys)
  rows_append [] ys h g = g
  rows_append (x ∷ xs) ys h g = rows_cons x (xs ++ ys) (h zero) (rows_append xs ys (λ j. h (suc j)) g)

  one_of : Bool → Entry Rule → Entry Rule → Entry Rule
  one_of b f g = elim b [ true ↦ f | false ↦ g ]

  one_of_rules : (b : Bool) (f g e : Entry Rule) → f.rules ≡ e.rules → g.rules ≡ e.rules → (one_of b f g).rules ≡ e.rules
  unfolding one_of
  one_of_rules true f g e p q = p
  one_of_rules false f g e p q = q

  texts_rules : (x : Name) (ms : List MessageText) (e : Entry Rule) → (with_texts x ms e).rules ≡ e.rules
  unfolding one_of
  texts_rules x [] e = refl
  texts_rules x (m ∷ ms) e =
      let f = put_message m.tag m.text e in
      one_of_rules (bytes_eq x m.symbol) (with_texts x ms f) (with_texts x ms e) e (texts_rules x ms f) (texts_rules x ms e)

  symbols : (s : AttributeSet) (xs : List Name) → Rows (map (λ x. (x, slot_of_symbol s x)) xs)
  symbols s [] = none_at_all
  symbols s (x ∷ xs) = rows_cons (x, slot_of_symbol s x) (map (λ y. (y, slot_of_symbol s y)) xs) (subst (HonestRules c) (sym (texts_rules x message_rows _)) (no_rules_honest c)) (symbols s xs)

  all_symbols : (rs : List SymbolRow) → Rows (symbols_in rs)
  all_symbols [] = none_at_all
  all_symbols (r ∷ rs) = rows_append (map (λ x. (x, slot_of_symbol (protected_with r.0) x)) r.1) (symbols_in rs) (symbols (protected_with r.0) r.1) (all_symbols rs)

  limit_honest : (x : Name) (n : ℕ) → HonestRules c (record { own = limit_rule x n ∷ []; down = []; up = []; sub = [] })
  limit_honest x n Own = All-cons (HonestRule c) (limit_rule x n) [] (tt, tt) (All-nil (HonestRule c))
  limit_honest x n Down = All-nil (HonestRule c)
  limit_honest x n Up = All-nil (HonestRule c)
  limit_honest x n Sub = All-nil (HonestRule c)

  limits : (ls : List (Name × ℕ)) → Rows (map (λ l. (l.0, slot_of_limit l.0 l.1)) ls)
  limits [] = none_at_all
  limits (l ∷ ls) = rows_cons (l.0, slot_of_limit l.0 l.1) (map (λ m. (m.0, slot_of_limit m.0 m.1)) ls) (subst (HonestRules c) (sym (texts_rules l.0 message_rows _)) (limit_honest l.0 l.1)) (limits ls)

start_honest : HonestStore start_store
start_honest = rows_append start_store (symbols_in symbol_rows) (map (λ l. (l.0, slot_of_limit l.0 l.1)) limit_rows) (all_symbols start_store symbol_rows) (limits start_store limit_rows)

start_recursion : number_in (definitions start_store recursion_limit).rules.own ≡ 200
start_recursion = refl

start_iteration : number_in (definitions start_store iteration_limit).rules.own ≡ 1000
start_iteration = refl

-- a new evaluator
pub new_sound : (k : Evaluator) → k.store ≡ start_store → k.desk ≡ new_desk → k.history.items ≡ [] → k.depth ≡ 0 → k.recursion ≡ 200 → k.iteration ≡ 1000 → k.log ≡ None → Sound k
new_sound k s d h z r i l = record {
  distinct = subst (λ (a : Stored). AreDistinct a.rows) (sym s) start_distinct;
  drawn = let e = ap (λ (a : Stored). a.drawn) s in omega (arith, e);
  honest = subst HonestStore (sym s) start_honest;
  history = subst (All (HonestLine k.store)) (sym h) (All-nil (HonestLine k.store));
  recursion = ap (λ (a : Stored). number_in (definitions a recursion_limit).rules.own) s ∙ start_recursion ∙ sym r;
  iteration = ap (λ (a : Stored). number_in (definitions a iteration_limit).rules.own) s ∙ start_iteration ∙ sym i;
  recursion_most = omega (arith, r);
  iteration_most = omega (arith, i);
  deepest = omega (arith, z);
  quiets = let e = ap (λ (k : Desk). k.quiets) d in omega (arith, e);
  current = subst (IsLogOf k.store) (sym l) tt;
  began = began_none k l;
}

-- ---- what begins and ends a cell

-- another number of steps, and another desk with as many open Quiets, where nothing is noted
pub refilled_sound : (k : Evaluator) (n : ℕ) (d : Desk) → d.quiets ≡ k.desk.quiets → k.log ≡ None → Sound k → Sound (record k { steps = n; desk = d })
refilled_sound k n d q l h = record {
  distinct = h.distinct;
  drawn = h.drawn;
  honest = h.honest;
  history = h.history;
  recursion = h.recursion;
  iteration = h.iteration;
  recursion_most = h.recursion_most;
  iteration_most = h.iteration_most;
  deepest = h.deepest;
  quiets = omega (arith, q, h.quiets);
  current = h.current;
  began = began_none (record k { steps = n; desk = d }) l;
}

-- another history of honest lines
pub lines_sound : (k : Evaluator) (v : Vec Line Global) → All (HonestLine k.store) v.items → Sound k → Sound (record k { history = v })
lines_sound k v a h = record {
  distinct = h.distinct;
  drawn = h.drawn;
  honest = h.honest;
  history = a;
  recursion = h.recursion;
  iteration = h.iteration;
  recursion_most = h.recursion_most;
  iteration_most = h.iteration_most;
  deepest = h.deepest;
  quiets = h.quiets;
  current = h.current;
  began = h.began;
}
