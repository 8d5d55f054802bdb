-- Changes of the entries, and what stays true.
use Rattle.std.proofs.Common.{◌≡◌, ℕ, ◌≤◌, Bool, true, false, cond, if◌then◌else◌, ◌&&◌, bytes_eq, nat_le, leb-true, slice_get, unwrap_or, ◌<◌, ◌^◌, Result, OnOk, IfOk, List, [], ◌∷◌, map, Option, Some, None, Ok, refl, sym, ap, ◌∙◌, subst, arith, true≢false}
use Rattle.std.proofs.lemmas.List.Elements.{All-nil, All-cons, All-head, All-tail, All-weaker}
use Rattle.std.proofs.lemmas.Cmp.{nat_list_eq_equiv}
use Rattle.std.specs.Bool.{OnTrue, OnFalse}
use Rattle.std.specs.List.{All}
use Rattle.std.specs.Cmp.Lexicographic.{same_text}
use Rattle.wl_expr.specs.Tree.{Tree}
use Rattle.wl_expr.specs.Same.{same}
use Rattle.wl_expr.specs.Stamped.{plain}
use Rattle.wl_expr.specs.Words.{Name, count_of}
use Rattle.wl_assign.specs.Limits.{is_within}
use Rattle.wl_rules.specs.Entries.{Entry, PlainRule, Definitions, Rules, of_kind, with_kind, with_entry, map_entry, left_side}
use Rattle.wl_rules.specs.Changes.{AreDistinct, Defines, IsProtected}
use Rattle.wl_rules.specs.Entries as entries
use Rattle.wl_rules.specs.RuleLists.{has_left, replaced, inserted, insert, removed}
use Rattle.wl_rules.specs.StampedRules.{left_of, plain_rule}
use Rattle.wl_rules.specs.Stored.{Stored, name_at, entry_at, definitions}
use Rattle.wl_rules.specs.Stored.{changed as changed_store}
use Rattle.wl_rules.specs.declared.rule.Rule.{Rule}
use Rattle.wl_rules.specs.declared.rule.RuleKind.{RuleKind}
use Rattle.wl_rules.specs.declared.rule.RuleKind.TheVariants.{Own, Down, Up, Sub}
use Rattle.wl_semantics.specs.State.{State}
use Rattle.wl_semantics.specs.Prog.{What, doing, asking}
use Rattle.wl_semantics.specs.Effects.{acted, changed}
use Rattle.wl_semantics.specs.LeftSides.{is_limit, limit_allows, recursion_limit, iteration_limit}
use Rattle.wl_semantics.specs.Eval.{limit, number_in}
use Rattle.wl_state.specs.Honest.{HonestRule, HonestRules, HonestStore, Grows}
use Rattle.wl_state.specs.Played.{Plays, Sound, HonestLine, IsLimit, MayHave, with_number, state}
use Rattle.wl_state.specs.declared.evaluator.Evaluator.{Evaluator}
use Rattle.wl_state.proofs.Stores.{honest_grows, rules_grow}
use Rattle.wl_state.proofs.Playing.{began_none}
use Rattle.wl_state.proofs.Placed.{Changes, Indexed, changes, defined_at}
use Rattle.wl_state.proofs.Moves.{plays_asking, plays_doing}

-- ---- lists of honest rules

module _ (c : Stored) where
  abbrev are : List Rule → Type 0
  are rs = All (HonestRule c) rs

  either_are : (b : Bool) (rs qs : List Rule) → are rs → are qs → are (if b then rs else qs)
  either_are true rs qs h g = h
  either_are false rs qs h g = g

  replaced_are : (n : Rule) (rs : List Rule) → HonestRule c n → are rs → are (replaced left_of n rs)
  replaced_are n [] h g = g
  replaced_are n (r ∷ rs) h g =
      let t = All-tail (HonestRule c) r rs g in
      either_are _ (n ∷ rs) (r ∷ replaced left_of n rs) (All-cons (HonestRule c) n rs h t) (All-cons (HonestRule c) r (replaced left_of n rs) (All-head (HonestRule c) r rs g) (replaced_are n rs h t))

  inserted_are : (n : Rule) (rs : List Rule) → HonestRule c n → are rs → are (inserted left_of n rs)
  inserted_are n [] h g = All-cons (HonestRule c) n [] h g
  inserted_are n (r ∷ rs) h g =
      let t = All-tail (HonestRule c) r rs g in
      either_are _ (n ∷ r ∷ rs) (r ∷ inserted left_of n rs) (All-cons (HonestRule c) n (r ∷ rs) h g) (All-cons (HonestRule c) r (inserted left_of n rs) (All-head (HonestRule c) r rs g) (inserted_are n rs h t))

  removed_are : (l : Tree) (rs : List Rule) → are rs → are (removed left_of l rs)
  removed_are l [] g = g
  removed_are l (r ∷ rs) g =
      let t = All-tail (HonestRule c) r rs g in
      either_are _ rs (r ∷ removed left_of l rs) t (All-cons (HonestRule c) r (removed left_of l rs) (All-head (HonestRule c) r rs g) (removed_are l rs t))

  with_kind_are : (k : RuleKind) (rs : List Rule) (r : Rules Rule) → are rs → HonestRules c r → HonestRules c (with_kind k rs r)
  with_kind_are Own rs r h g Own = h
  with_kind_are Own rs r h g Down = g Down
  with_kind_are Own rs r h g Up = g Up
  with_kind_are Own rs r h g Sub = g Sub
  with_kind_are Down rs r h g Own = g Own
  with_kind_are Down rs r h g Down = h
  with_kind_are Down rs r h g Up = g Up
  with_kind_are Down rs r h g Sub = g Sub
  with_kind_are Up rs r h g Own = g Own
  with_kind_are Up rs r h g Down = g Down
  with_kind_are Up rs r h g Up = h
  with_kind_are Up rs r h g Sub = g Sub
  with_kind_are Sub rs r h g Own = g Own
  with_kind_are Sub rs r h g Down = g Down
  with_kind_are Sub rs r h g Up = g Up
  with_kind_are Sub rs r h g Sub = h

  pub put_honest : (k : RuleKind) (n : Rule) (e : Entry Rule) → HonestRule c n → HonestRules c e.rules → HonestRules c (entries.put_rule left_of k n e).rules
  put_honest k n e h g =
      let rs = of_kind k e.rules in
      with_kind_are k (insert left_of n rs) e.rules (either_are (has_left left_of (left_of n) rs) (replaced left_of n rs) (inserted left_of n rs) (replaced_are n rs h (g k)) (inserted_are n rs h (g k))) g

  pub removed_honest : (k : RuleKind) (l : Tree) (e : Entry Rule) → HonestRules c e.rules → HonestRules c (entries.remove_rule left_of k l e).rules
  removed_honest k l e g = with_kind_are k (removed left_of l (of_kind k e.rules)) e.rules (removed_are l (of_kind k e.rules) (g k)) g

  pub no_rules_honest : HonestRules c entries.no_rules
  no_rules_honest Own = All-nil (HonestRule c)
  no_rules_honest Down = All-nil (HonestRule c)
  no_rules_honest Up = All-nil (HonestRule c)
  no_rules_honest Sub = All-nil (HonestRule c)

  pub cleared_honest : (b : Bool) (e : Entry Rule) → HonestRules c (entries.cleared b e).rules
  cleared_honest true e = no_rules_honest
  cleared_honest false e = no_rules_honest

-- ---- the numbers of the limits

-- the own rules of a name after a change of an entry
own_after : (x y : Name) (e : Entry PlainRule) (d : Definitions) (n m : ℕ) → (x ≡ y → number_in e.rules.own ≡ n) → number_in (d y).rules.own ≡ m → number_in (with_entry x e d y).rules.own ≡ (if bytes_eq x y then n else m)
own_after x y e d n m h g = cases (bytes_eq x y) refl
  where
    cases : (b : Bool) → bytes_eq x y ≡ b → number_in (if b then e else d y).rules.own ≡ (if b then n else m)
    cases true q = h (same_text x y (sym q))
    cases false q = g

most_after : (x y : Name) (n m most : ℕ) → (x ≡ y → n ≤ most) → m ≤ most → (if bytes_eq x y then n else m) ≤ most
most_after x y n m most h g = cases (bytes_eq x y) refl
  where
    cases : (b : Bool) → bytes_eq x y ≡ b → (if b then n else m) ≤ most
    cases true q = h (same_text x y (sym q))
    cases false q = g

either_same : {X : Type 0} (b : Bool) (a : X) → (if b then a else a) ≡ a
either_same true a = refl
either_same false a = refl

-- ---- how a change plays

-- the change, what the definitions have of the name before and after, and the numbers of the limits after
module _ (a : What) (k : Evaluator) (b : Stored) (x : Name) (i : ℕ) (make : Entry PlainRule → Entry PlainRule) (e : Entry Rule) (n : ℕ) (ch : Changes k.store x i make e b)
    (act : (acted a (state k).world).1 ≡ changed x make (state k).world) (h : Sound k) (rules : HonestRules b e.rules) (number : IsLimit x (make (definitions k.store x)).rules.own n) where
  abbrev after : Evaluator
  after = record (with_number x n (record k { store = b })) { log = None }

  after_state : state after ≡ record (state k) { world = (acted a (state k).world).1 }
  after_state = ap (λ f. let s : State = record (state k) { world = record (state k).world { definitions = f } } in s) ch.definitions ∙ ap (λ w. let s : State = record (state k) { world = w } in s) (sym act)

  after_limit : (y : Name) (m : ℕ) → (x ≡ y → number_in (make (definitions k.store x)).rules.own ≡ n) → limit y (state k).world ≡ m → limit y (state after).world ≡ (if bytes_eq x y then n else m)
  after_limit y m p q = ap (λ (f : Definitions). number_in (f y).rules.own) ch.definitions ∙ own_after x y (make (definitions k.store x)) (definitions k.store) n m p q

  after_sound : Sound after
  after_sound = record {
    distinct = ch.distinct;
    drawn = ch.drawn;
    honest = ch.honest h.honest rules;
    history = All-weaker (HonestLine k.store) (HonestLine b) (λ l y. (honest_grows k.store b ch.grows l.input y.0, honest_grows k.store b ch.grows l.value y.1)) k.history.items h.history;
    recursion = after_limit recursion_limit k.recursion (λ q. (number.recursion q).0) h.recursion;
    iteration = after_limit iteration_limit k.iteration (λ q. (number.iteration q).0) h.iteration;
    recursion_most = most_after x recursion_limit n k.recursion 512 (λ q. (number.recursion q).1) h.recursion_most;
    iteration_most = most_after x iteration_limit n k.iteration 1000000 (λ q. (number.iteration q).1) h.iteration_most;
    deepest = h.deepest;
    quiets = h.quiets;
    current = tt;
    began = began_none after refl;
  }

  pub change_asked : Plays (asking a) k (Ok (acted a (state k).world).0) after false
  change_asked = plays_asking a k after after_state refl ch.grows (λ s. after_sound)

  pub change_done : Plays (doing a) k (Ok tt) after false
  change_done = plays_doing a k after after_state refl ch.grows (λ s. after_sound)

-- a change that leaves the numbers of the limits
pub number_stays : (k : Evaluator) (x : Name) (b : Stored) → Sound k → (own : List PlainRule) → (x ≡ recursion_limit → own ≡ (definitions k.store x).rules.own) → (x ≡ iteration_limit → own ≡ (definitions k.store x).rules.own)
    → (n : ℕ) × IsLimit x own n × (record (with_number x n (record k { store = b })) { log = None } ≡ record k { store = b; log = None })
number_stays k x b h own p q = cases (bytes_eq x recursion_limit) (bytes_eq x iteration_limit) refl refl
  where
    none : bytes_eq x recursion_limit ≡ false → x ≡ recursion_limit → ⊥
    none e s = true≢false (sym (subst (λ z. bytes_eq z recursion_limit ≡ true) (sym s) refl) ∙ e)

    no : bytes_eq x iteration_limit ≡ false → x ≡ iteration_limit → ⊥
    no e s = true≢false (sym (subst (λ z. bytes_eq z iteration_limit ≡ true) (sym s) refl) ∙ e)

    cases : (c d : Bool) → bytes_eq x recursion_limit ≡ c → bytes_eq x iteration_limit ≡ d → (n : ℕ) × IsLimit x own n × (record (with_number x n (record k { store = b })) { log = None } ≡ record k { store = b; log = None })
    cases true d e f =
        let s : x ≡ recursion_limit = same_text x recursion_limit (sym e) in
        let g : bytes_eq x iteration_limit ≡ false = ap (λ z. bytes_eq z iteration_limit) s in
        (k.recursion, record { recursion = λ t. (ap number_in (p s) ∙ ap (λ z. number_in (definitions k.store z).rules.own) s ∙ h.recursion, h.recursion_most); iteration = λ t. absurd (no g t) }, rw (e, g) refl)
    cases false true e f =
        let s : x ≡ iteration_limit = same_text x iteration_limit (sym f) in
        (k.iteration, record { recursion = λ t. absurd (none e t); iteration = λ t. (ap number_in (q s) ∙ ap (λ z. number_in (definitions k.store z).rules.own) s ∙ h.iteration, h.iteration_most) }, rw (e, f) refl)
    cases false false e f = (0, record { recursion = λ s. absurd (none e s); iteration = λ s. absurd (no f s) }, rw (e, f) refl)

-- ---- a change that is not refused

-- an entry that isn't Protected
pub unprotected : (a s : Stored) (x : Name) (i : ℕ) → AreDistinct a.rows → Indexed a x i s → (definitions a x).attributes.protected ≡ false → IsProtected i s → ⊥
unprotected a s x i d t h p =
    let e : map_entry plain_rule (entry_at i s) ≡ definitions a x = sym (defined_at s i t.index (t.distinct d)) ∙ ap (definitions s) t.name ∙ ap (λ f. f x) t.kept.definitions in
    true≢false (sym p ∙ ap (λ (z : Entry PlainRule). z.attributes.protected) e ∙ h)

-- the entry of a name, at its place
pub entry_is : (a s : Stored) (x : Name) (i : ℕ) → AreDistinct a.rows → Indexed a x i s → map_entry plain_rule (entry_at i s) ≡ definitions a x
entry_is a s x i d t = sym (defined_at s i t.index (t.distinct d)) ∙ ap (definitions s) t.name ∙ ap (λ f. f x) t.kept.definitions

-- what an entry has is honest after a change too
pub entry_honest : (a s b : Stored) (x : Name) (i : ℕ) → Indexed a x i s → Grows a b → HonestStore a → HonestRules b (entry_at i s).rules
entry_honest a s b x i t g h = t.honest b (λ j. rules_grow a b g (entry_at j a).rules (h j)) i

-- a name that is no limit
pub no_limit : (x : Name) → is_limit x ≡ false → ((x ≡ recursion_limit → ⊥) × (x ≡ iteration_limit → ⊥))
no_limit x h = (
  λ s. true≢false (sym (subst (λ z. is_limit z ≡ true) (sym s) refl) ∙ h),
  λ s. true≢false (sym (subst (λ z. is_limit z ≡ true) (sym s) refl) ∙ h),
)

-- a change of an entry that leaves its rules
pub change_stays : (a : What) (k : Evaluator) (s b : Stored) (x : Name) (i : ℕ) (make : Entry PlainRule → Entry PlainRule) (e : Entry Rule) → Sound k → Indexed k.store x i s → b ≡ changed_store i e s → Defines (name_at i s) make s b
    → (acted a (state k).world).1 ≡ changed x make (state k).world → e.rules ≡ (entry_at i s).rules → (make (definitions k.store x)).rules.own ≡ (definitions k.store x).rules.own → Plays (doing a) k (Ok tt) (record k { store = b; log = None }) false
change_stays a k s b x i make e h t c d act r o =
    let ch = changes k.store s b x i make e h.distinct h.drawn t c d in
    let ns = number_stays k x b h (make (definitions k.store x)).rules.own (λ _. o) (λ _. o) in
    subst (λ z. Plays (doing a) k (Ok tt) z false) ns.2
    (change_done a k b x i make e ns.0 ch act h (subst (HonestRules b) (sym r) (entry_honest k.store s b x i t ch.grows h.honest)) ns.1)

-- a change of an entry of a name that is no limit
pub change_other : (a : What) (k : Evaluator) (s b : Stored) (x : Name) (i : ℕ) (make : Entry PlainRule → Entry PlainRule) (e : Entry Rule) → Sound k → is_limit x ≡ false → Indexed k.store x i s → b ≡ changed_store i e s → Defines (name_at i s) make s b
    → (acted a (state k).world).1 ≡ changed x make (state k).world → (HonestRules b (entry_at i s).rules → HonestRules b e.rules) → Plays (doing a) k (Ok tt) (record k { store = b; log = None }) false
change_other a k s b x i make e h l t c d act r =
    let ch = changes k.store s b x i make e h.distinct h.drawn t c d in
    let no = no_limit x l in
    let ns = number_stays k x b h (make (definitions k.store x)).rules.own (λ q. absurd (no.0 q)) (λ q. absurd (no.1 q)) in
    subst (λ z. Plays (doing a) k (Ok tt) z false) ns.2 (change_done a k b x i make e ns.0 ch act h (r (entry_honest k.store s b x i t ch.grows h.honest)) ns.1)

-- ---- the numbers after a rule is put

first_most : (b : Bool) (most : ℕ) (rs qs : List PlainRule) → number_in rs ≤ most → number_in qs ≤ most → number_in (if b then rs else qs) ≤ most
first_most true most rs qs h g = h
first_most false most rs qs h g = g

replaced_most : (most : ℕ) (n : PlainRule) (rs : List PlainRule) → number_in (n ∷ []) ≤ most → number_in rs ≤ most → number_in (replaced left_side n rs) ≤ most
replaced_most most n [] h g = g
replaced_most most n (r ∷ rs) h g = first_most _ most (n ∷ rs) (r ∷ replaced left_side n rs) h g

inserted_most : (most : ℕ) (n : PlainRule) (rs : List PlainRule) → number_in (n ∷ []) ≤ most → number_in rs ≤ most → number_in (inserted left_side n rs) ≤ most
inserted_most most n [] h g = h
inserted_most most n (r ∷ rs) h g = first_most _ most (n ∷ r ∷ rs) (r ∷ inserted left_side n rs) h g

put_most : (most : ℕ) (k : RuleKind) (n : PlainRule) (e : Entry PlainRule) → number_in (n ∷ []) ≤ most → number_in e.rules.own ≤ most → number_in (entries.put_rule left_side k n e).rules.own ≤ most
put_most most Own n e h g = first_most (has_left left_side n.left e.rules.own) most (replaced left_side n e.rules.own) (inserted left_side n e.rules.own) (replaced_most most n e.rules.own h g) (inserted_most most n e.rules.own h g)
put_most most Down n e h g = g
put_most most Up n e h g = g
put_most most Sub n e h g = g

within_most : (most : ℕ) (o : Option ℕ) → is_within most o ≡ true → unwrap_or o 0 ≤ most
within_most most None h = absurd (true≢false (sym h))
within_most most (Some n) h = leb-true n most (and_right (nat_le 20 n) (nat_le n most) h)
  where
    and_right : (a b : Bool) → (a && b) ≡ true → b ≡ true
    and_right true b e = e
    and_right false b e = absurd (true≢false (sym e))

-- a limit that gets a rule has an allowed number
pub put_limit : (k : Evaluator) (x : Name) (kind : RuleKind) (n : PlainRule) (m : ℕ) → Sound k → MayHave x n.body → m ≡ number_in (entries.put_rule left_side kind n (definitions k.store x)).rules.own → IsLimit x (entries.put_rule left_side kind n (definitions k.store x)).rules.own m
put_limit k x kind n m h may e = record {
  recursion = λ s.
      let a : is_within 512 (count_of n.body) ≡ true = subst (λ z. limit_allows z n.body ≡ true) s (may (subst (λ z. is_limit z ≡ true) (sym s) refl)) in
      let g : number_in (definitions k.store x).rules.own ≤ 512 = (let w : number_in (definitions k.store x).rules.own ≡ k.recursion = ap (λ z. number_in (definitions k.store z).rules.own) s ∙ h.recursion in omega (arith, w, h.recursion_most)) in
      (sym e, (let w = put_most 512 kind n (definitions k.store x) (within_most 512 (count_of n.body) a) g in omega (arith, w, e)));
  iteration = λ s.
      let a : is_within 1000000 (count_of n.body) ≡ true = subst (λ z. limit_allows z n.body ≡ true) s (may (subst (λ z. is_limit z ≡ true) (sym s) refl)) in
      let g : number_in (definitions k.store x).rules.own ≤ 1000000 = (let w : number_in (definitions k.store x).rules.own ≡ k.iteration = ap (λ z. number_in (definitions k.store z).rules.own) s ∙ h.iteration in omega (arith, w, h.iteration_most)) in
      (sym e, (let w = put_most 1000000 kind n (definitions k.store x) (within_most 1000000 (count_of n.body) a) g in omega (arith, w, e)));
}

-- the number is small where the name is that of a limit
pub limit_small : (x : Name) (own : List PlainRule) (m : ℕ) → IsLimit x own m → is_limit x ≡ true → m < 2 ^ 32
limit_small x own m h l = cases (bytes_eq x recursion_limit) (bytes_eq x iteration_limit) refl refl l
  where
    cases : (c d : Bool) → bytes_eq x recursion_limit ≡ c → bytes_eq x iteration_limit ≡ d → is_limit x ≡ true → m < 2 ^ 32
    cases true d e f q = let w = (h.recursion (same_text x recursion_limit (sym e))).1 in omega (arith, w)
    cases false true e f q = let w = (h.iteration (same_text x iteration_limit (sym f))).1 in omega (arith, w)
    cases false false e f q = absurd (true≢false (sym q ∙ rw (e, f) refl))

-- the rules of a name after a change
pub rules_after : (a b : Stored) (x : Name) (i : ℕ) (make : Entry PlainRule → Entry PlainRule) (e : Entry Rule) → Changes a x i make e b → map_entry plain_rule (entry_at i b) ≡ make (definitions a x)
rules_after a b x i make e ch =
    sym (defined_at b i ch.index ch.distinct) ∙ ap (definitions b) ch.name ∙ ap (λ f. f x) ch.definitions ∙ ap (λ (c : Bool). if c then make (definitions a x) else definitions a x) (nat_list_eq_equiv.refl x)

pub on_ok : {A E P : Type 0} {r : Result A E} {x : A} → r ≡ Ok x → OnOk r P → P
on_ok {A} {E} {P} e h = subst (λ z. OnOk z P) e h

pub if_ok : {A E : Type 0} (P : A → Type 0) {r : Result A E} {x : A} → r ≡ Ok x → IfOk r P → P x
if_ok P e h = subst (λ z. IfOk z P) e h

pub has_left_plain : (l : Tree) (rs : List Rule) → has_left left_of l rs ≡ has_left left_side l (map plain_rule rs)
has_left_plain l [] = refl
has_left_plain l (r ∷ rs) = ap (λ b. cond (same l (left_of r)) true b) (has_left_plain l rs)

pub off_rules : {R : Type 0} (t : List ℕ) (b : Bool) (e : Entry R) → (entries.set_off t b e).rules ≡ e.rules
off_rules t true e = refl
off_rules t false e = refl

-- the number that was there before
pub taken_limit : (k : Evaluator) (x : Name) (n : ℕ) → Sound k → (x ≡ recursion_limit → n ≡ k.recursion) → (x ≡ iteration_limit → n ≡ k.iteration) → IsLimit x (definitions k.store x).rules.own n
taken_limit k x n h p q = record {
  recursion = λ s. (ap (λ z. number_in (definitions k.store z).rules.own) s ∙ h.recursion ∙ sym (p s), (let e = p s in omega (arith, e, h.recursion_most)));
  iteration = λ s. (ap (λ z. number_in (definitions k.store z).rules.own) s ∙ h.iteration ∙ sym (q s), (let e = q s in omega (arith, e, h.iteration_most)));
}

-- ---- the number of the first rule

pub first_is : (rs : List Rule) (r : Rule) → Some r ≡ slice_get rs 0 → number_in (map plain_rule rs) ≡ unwrap_or (count_of (plain r.body)) 0
first_is [] r h = absurd (let q : Some r ≡ None = h in cc)
first_is (s ∷ rs) r h = let q : r ≡ s = (let z : Some r ≡ Some s = h in cc) in ap (λ (z : Rule). unwrap_or (count_of (plain z.body)) 0) (sym q)

pub first_of_none : (rs : List Rule) → None ≡ slice_get rs 0 → number_in (map plain_rule rs) ≡ 0
first_of_none [] h = refl
first_of_none (s ∷ rs) h = absurd (let q : None ≡ Some s = h in cc)

pub if_true : {P : Type 0} {b : Bool} → b ≡ true → OnTrue b P → P
if_true {P} e h = subst (λ z. OnTrue z P) e h

pub if_false : {P : Type 0} {b : Bool} → b ≡ false → OnFalse b P → P
if_false {P} e h = subst (λ z. OnFalse z P) e h
