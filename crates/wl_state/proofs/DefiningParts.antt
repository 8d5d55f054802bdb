-- How the parts of definitions play.
use Rattle.std.proofs.Common.{◌≡◌, Bool, true, false, ◌&&◌, ◌||◌, not, [], ◌∷◌, Option, Some, Ok, refl, sym, subst}
use Rattle.std.specs.Prelude.{codes}
use Rattle.wl_expr.specs.Tree.{Tree, text, symbol}
use Rattle.wl_expr.specs.Words.{Name, Bytes, null_symbol, failed_symbol}
use Rattle.wl_rules.specs.Entries.{of_kind, left_side as plain_left}
use Rattle.wl_rules.specs.RuleLists.{has_left}
use Rattle.wl_rules.specs.Stored.{definitions as stored}
use Rattle.wl_rules.specs.declared.rule.RuleKind.{RuleKind}
use Rattle.wl_semantics.specs.Prog.{Prog, done, ◌>>=◌, put_rule, put_message, remove_rule, entry_of, result, doing, message, is_protected}
use Rattle.wl_semantics.specs.Definitions as definitions
use Rattle.wl_semantics.specs.Definitions.{limset, write_message}
use Rattle.wl_semantics.specs.LeftSides.{is_limit}
use Rattle.wl_state.specs.Operands.{left_side, taken_answer}
use Rattle.wl_state.specs.Played.{Plays, TakesAway}
use Rattle.wl_state.specs.declared.evaluator.Evaluator.{Evaluator}
use Rattle.wl_state.proofs.Playing.{plays_bind, plays_done}

-- ---- what is refused

abbrev refuses_limit : Name → Tree → Bool → Prog Bool
refuses_limit x v b = elim b [ true ↦ limset x v >>= λ _. done true | false ↦ done false ]

abbrev refuses_by : RuleKind → Name → Tree → Tree → Bool → Bool → Prog Bool
refuses_by kind x c v allowed p = elim p [ true ↦ write_message kind x c >>= λ _. done true | false ↦ refuses_limit x v (is_limit x && not allowed) ]

module _ (kind : RuleKind) (x : Name) (c v : Tree) (allowed : Bool) (k k1 k2 : Evaluator) (p : Bool) (h : Plays (is_protected x) k (Ok p) k1 false) where
  refuses_at : (q r : Bool) (k3 : Evaluator) → p ≡ q → Plays (refuses_by kind x c v allowed q) k1 (Ok r) k3 false → Plays (definitions.refuses kind x c v allowed) k (Ok r) k3 false
  refuses_at q r k3 e m = plays_bind (is_protected x) _ h (subst (λ z. Plays (refuses_by kind x c v allowed z) k1 (Ok r) k3 false) (sym e) m)

  pub told_protected : p ≡ true → Plays (write_message kind x c) k1 (Ok tt) k2 false → Plays (definitions.refuses kind x c v allowed) k (Ok true) k2 false
  told_protected e m = refuses_at true true k2 e (plays_bind (write_message kind x c) _ m plays_done)

  pub told_limit : p ≡ false → (is_limit x && not allowed) ≡ true → Plays (limset x v) k1 (Ok tt) k2 false → Plays (definitions.refuses kind x c v allowed) k (Ok true) k2 false
  told_limit e f m = refuses_at false true k2 e (subst (λ z. Plays (refuses_limit x v z) k1 (Ok true) k2 false) (sym f) (plays_bind (limset x v) _ m plays_done))

  pub not_refused : p ≡ false → (is_limit x && not allowed) ≡ false → Plays (definitions.refuses kind x c v allowed) k (Ok false) k1 false
  not_refused e f = refuses_at false false k1 e (subst (λ z. Plays (refuses_limit x v z) k1 (Ok false) k1 false) (sym f) plays_done)

-- ---- a rule

abbrev puts_by : RuleKind → Name → Tree → Tree → Bool → Prog Bool
puts_by kind x l body r = elim r [ true ↦ done true | false ↦ doing (put_rule x kind (record { left = l; body = body })) >>= λ _. done false ]

module _ (kind : RuleKind) (x : Name) (l c body v : Tree) (allowed : Bool) (k k1 k2 : Evaluator) (r : Bool) (h : Plays (definitions.refuses kind x c v allowed) k (Ok r) k1 false) where
  pub defined_not : r ≡ true → Plays (definitions.defined kind x (left_side l c) body v allowed) k (Ok true) k1 false
  defined_not e = plays_bind (definitions.refuses kind x c v allowed) _ h (subst (λ z. Plays (puts_by kind x l body z) k1 (Ok true) k1 false) (sym e) plays_done)

  pub defined_put : r ≡ false → Plays (doing (put_rule x kind (record { left = l; body = body }))) k1 (Ok tt) k2 false → Plays (definitions.defined kind x (left_side l c) body v allowed) k (Ok false) k2 false
  defined_put e m =
      plays_bind (definitions.refuses kind x c v allowed) _ h
      (subst (λ z. Plays (puts_by kind x l body z) k1 (Ok false) k2 false) (sym e) (plays_bind (doing (put_rule x kind (record { left = l; body = body }))) _ m plays_done))

-- ---- the text of a message

abbrev texts_limit : Name → Bytes → Bytes → Bool → Prog (Unit {0})
texts_limit s t y b = elim b [ true ↦ limset s (text y) | false ↦ doing (put_message s t y) ]

abbrev texts_by : Name → Bytes → Bytes → Bool → Prog (Unit {0})
texts_by s t y p = elim p [ true ↦ message (codes "Set") (codes "wrsym") (symbol s ∷ []) | false ↦ texts_limit s t y (is_limit s) ]

module _ (s : Name) (t y : Bytes) (k k1 k2 : Evaluator) (p : Bool) (h : Plays (is_protected s) k (Ok p) k1 false) where
  pub text_refused : p ≡ true → Plays (message (codes "Set") (codes "wrsym") (symbol s ∷ [])) k1 (Ok tt) k2 false → Plays (definitions.set_message s t y) k (Ok tt) k2 false
  text_refused e m = plays_bind (is_protected s) _ h (subst (λ z. Plays (texts_by s t y z) k1 (Ok tt) k2 false) (sym e) m)

  pub text_by_limit : (b : Bool) → p ≡ false → is_limit s ≡ b → Plays (texts_limit s t y b) k1 (Ok tt) k2 false → Plays (definitions.set_message s t y) k (Ok tt) k2 false
  text_by_limit b e f m =
      plays_bind (is_protected s) _ h (subst (λ z. Plays (texts_by s t y z) k1 (Ok tt) k2 false) (sym e) (subst (λ z. Plays (texts_limit s t y z) k1 (Ok tt) k2 false) (sym f) m))

-- ---- a rule taken away

abbrev takes_by : RuleKind → Name → Tree → Bool → Prog (Option Tree)
takes_by kind x l b = elim b [ true ↦ result failed_symbol | false ↦ doing (remove_rule x kind l) >>= λ _. result null_symbol ]

abbrev takes_at : RuleKind → Name → Tree → Bool → Prog (Option Tree)
takes_at kind x l r = entry_of x >>= λ e. takes_by kind x l (r || not (has_left plain_left l (of_kind kind e.rules)))

module _ (kind : RuleKind) (x : Name) (l c : Tree) (k k1 : Evaluator) (r : Bool) (h : Plays (definitions.refuses kind x c null_symbol false) k (Ok r) k1 false) where
  takes : (q : Bool) (a : Option Tree) (k3 : Evaluator) → r ≡ q → Plays (takes_at kind x l q) k1 (Ok a) k3 false → Plays (definitions.taken_away kind x (left_side l c)) k (Ok a) k3 false
  takes q a k3 e m = plays_bind (definitions.refuses kind x c null_symbol false) _ h (subst (λ z. Plays (takes_at kind x l z) k1 (Ok a) k3 false) (sym e) m)

  pub taken_not : (k2 : Evaluator) → r ≡ true → Plays (entry_of x) k1 (Ok (stored k1.store x)) k2 false → Plays (definitions.taken_away kind x (left_side l c)) k (Ok (Some failed_symbol)) k2 false
  taken_not k2 e m = takes true (Some failed_symbol) k2 e (plays_bind (entry_of x) _ m plays_done)

  pub taken_found : (k2 : Evaluator) (b : Bool) → r ≡ false → TakesAway x kind l k1 b k2 → Plays (definitions.taken_away kind x (left_side l c)) k (Ok (Some (taken_answer b))) k2 false
  taken_found k2 true e m =
      takes false (Some null_symbol) k2 e
      (plays_bind (entry_of x) _ m.looks (subst (λ z. Plays (takes_by kind x l (not z)) m.between (Ok (Some null_symbol)) k2 false) m.found (plays_bind (doing (remove_rule x kind l)) _ (m.taken refl) plays_done)))
  taken_found k2 false e m =
      takes false (Some failed_symbol) k2 e
      (plays_bind (entry_of x) _ m.looks (subst (λ z. Plays (takes_by kind x l (not z)) m.between (Ok (Some failed_symbol)) k2 false) m.found
      (subst (λ z. Plays (result failed_symbol) m.between (Ok (Some failed_symbol)) z false) (sym (m.none refl)) plays_done)))
