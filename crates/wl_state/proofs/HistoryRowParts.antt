-- How the rows of items, messages and the history play.
use Rattle.std.proofs.Common.{◌≡◌, Bool, true, false, List, [], ◌∷◌, Option, Some, None, option_map, Result, Ok, Err, IfOk, ◌↔◌, length, refl, sym, ap, ◌∙◌, subst, arith}
use Rattle.std.specs.Prelude.{codes, IfSome}
use Rattle.wl_expr.specs.Stamped as stamped
use Rattle.wl_expr.specs.Stamped.{Stamped, plain, plains, from_list}
use Rattle.wl_expr.specs.Tree.{Tree, Trees, IsWithinLimits, num, text, symbol, node, none, more, to_list}
use Rattle.wl_expr.specs.Words.{Name, Bytes, fits, is_the, null_symbol}
use Rattle.wl_expr.specs.declared.fault.ExprFault.{ExprFault}
use Rattle.wl_expr.specs.declared.fault.ExprFault.TheVariants as fault
use Rattle.wl_rules.specs.Entries as entries
use Rattle.wl_rules.specs.Entries.{value_at}
use Rattle.wl_rules.specs.Stored.{Stored, plain_entry, definitions}
use Rattle.wl_semantics.specs.Prog.{Prog, done, ◌>>=◌, set_off, recall_value, recall_input, entry_of, doing, message, unchanged}
use Rattle.wl_semantics.specs.MessageRows as rows
use Rattle.wl_semantics.specs.MessageRows.{MessageName, message_name}
use Rattle.wl_state.specs.Parts.{sized_row}
use Rattle.wl_state.specs.Operands.{only_int, only_message, name_and_text, out_line, IsTextMade}
use Rattle.wl_state.specs.Played.{Plays, Played, HonestMaybe, found_tree, trees}
use Rattle.wl_state.specs.declared.evaluator.Evaluator.{Evaluator}
use Rattle.wl_state.proofs.Playing.{plays_bind, plays_done}
use Rattle.wl_state.proofs.Fitting.{makes}
use Rattle.wl_state.proofs.Values.{list_of_plains}
use Rattle.wl_state.proofs.RowParts.{row_none, row_gives, if_ok_more}

-- ---- the name of a message

abbrev nothing : Option MessageName
nothing = None

neither : (b : Bool) → nothing ≡ (elim b [ true ↦ nothing | false ↦ nothing ])
neither true = refl
neither false = refl

message_name_of : (h : Tree) (ts : Trees) → message_name (node h ts) ≡ (elim (is_the (codes "MessageName") h) [ true ↦ name_and_text (to_list ts) | false ↦ None ])
message_name_of h none = neither (is_the (codes "MessageName") h)
message_name_of h (more (num n) ts) = neither (is_the (codes "MessageName") h)
message_name_of h (more (text s) ts) = neither (is_the (codes "MessageName") h)
message_name_of h (more (symbol s) none) = neither (is_the (codes "MessageName") h)
message_name_of h (more (symbol s) (more (num n) ts)) = neither (is_the (codes "MessageName") h)
message_name_of h (more (symbol s) (more (text t) none)) = refl
message_name_of h (more (symbol s) (more (text t) (more u us))) = neither (is_the (codes "MessageName") h)
message_name_of h (more (symbol s) (more (symbol x) ts)) = neither (is_the (codes "MessageName") h)
message_name_of h (more (symbol s) (more (node f us) ts)) = neither (is_the (codes "MessageName") h)
message_name_of h (more (node f us) ts) = neither (is_the (codes "MessageName") h)

named_by : (b : Bool) (h : Tree) (es : List Stamped) (t : Tree) → is_the (codes "MessageName") h ≡ b → node h (plains (from_list es)) ≡ t → message_name t ≡ (elim b [ true ↦ name_and_text (trees es) | false ↦ None ])
named_by b h es t e q =
    ap message_name (sym q) ∙ message_name_of h (plains (from_list es)) ∙ ap (λ (z : Bool). elim z [ true ↦ name_and_text (to_list (plains (from_list es))) | false ↦ None ]) e
    ∙ ap (λ us. elim b [ true ↦ name_and_text us | false ↦ None ]) (list_of_plains es)

pub message_named : (h : Tree) (es : List Stamped) (t : Tree) → is_the (codes "MessageName") h ≡ true → node h (plains (from_list es)) ≡ t → name_and_text (trees es) ≡ message_name t
message_named h es t e q = sym (named_by true h es t e q)

pub message_unnamed : (h : Tree) (es : List Stamped) (t : Tree) → is_the (codes "MessageName") h ≡ false → node h (plains (from_list es)) ≡ t → None ≡ message_name t
message_unnamed h es t e q = sym (named_by false h es t e q)

pub message_other : (t : Tree) → ((h : Tree) (ts : Trees) → t ≡ node h ts → ⊥) → None ≡ message_name t
message_other (num n) f = refl
message_other (text s) f = refl
message_other (symbol x) f = refl
message_other (node h ts) f = absurd (f h ts refl)

-- ---- messages

pub message_row-more : (es ts : List Tree) (t : Tree) (m : MessageName) → es ≡ t ∷ ts → Some m ≡ message_name t → rows.message_row es ≡ rows.message_by (Some m) ts
message_row-more es ts t m e h = ap rows.message_row e ∙ ap (λ o. rows.message_by o ts) (sym h)

pub message_row-other : (es ts : List Tree) (t : Tree) → es ≡ t ∷ ts → message_name t ≡ None → rows.message_row es ≡ unchanged
message_row-other es ts t e h = ap rows.message_row e ∙ ap (λ o. rows.message_by o ts) h

no_elements : (ss : List Stamped) → length ss ≡ 0 → trees ss ≡ []
no_elements [] h = refl
no_elements (s ∷ ss) h = absurd (omega (arith, h))

pub message_row-none : (ss : List Stamped) → length ss ≡ 0 → rows.message_row (trees ss) ≡ unchanged
message_row-none ss h = ap rows.message_row (no_elements ss h)

pub message_plays : (m : MessageName) (ts : List Tree) (k k1 : Evaluator) → Plays (message m.symbol m.tag ts) k (Ok tt) k1 false → Plays (rows.message_by (Some m) ts) k (Ok (Some null_symbol)) k1 false
message_plays m ts k k1 h = plays_bind (message m.symbol m.tag ts) _ h plays_done

pub switch_plays : (off : Bool) (o : Option MessageName) (m : MessageName) (k k1 : Evaluator) → Some m ≡ o → Plays (doing (set_off m.symbol m.tag off)) k (Ok tt) k1 false → Plays (rows.switch_by off o) k (Ok (Some null_symbol)) k1 false
switch_plays off o m k k1 e h = subst (λ z. Plays (rows.switch_by off z) k (Ok (Some null_symbol)) k1 false) e (plays_bind (doing (set_off m.symbol m.tag off)) _ h plays_done)

pub off_row-by : (es : List Tree) → rows.off_row es ≡ rows.switch_by true (only_message es)
off_row-by [] = refl
off_row-by (m ∷ []) = refl
off_row-by (m ∷ n ∷ es) = refl

pub on_row-by : (es : List Tree) → rows.on_row es ≡ rows.switch_by false (only_message es)
on_row-by [] = refl
on_row-by (m ∷ []) = refl
on_row-by (m ∷ n ∷ es) = refl

-- ---- the text of a message

abbrev pub text_by : Option MessageName → Prog (Option Tree)
text_by None = unchanged
text_by (Some m) = entry_of m.symbol >>= λ e. done (option_map text (entries.message e m.tag))

pub message_name_row-by : (es : List Tree) → rows.message_name_row es ≡ text_by (name_and_text es)
message_name_row-by [] = refl
message_name_row-by (num n ∷ es) = refl
message_name_row-by (text s ∷ es) = refl
message_name_row-by (symbol s ∷ []) = refl
message_name_row-by (symbol s ∷ num n ∷ es) = refl
message_name_row-by (symbol s ∷ text t ∷ []) = refl
message_name_row-by (symbol s ∷ text t ∷ u ∷ es) = refl
message_name_row-by (symbol s ∷ symbol x ∷ es) = refl
message_name_row-by (symbol s ∷ node h ts ∷ es) = refl
message_name_row-by (node h ts ∷ es) = refl

pub no_entry : (x : Name) (t : Bytes) (a : Stored) → value_at x a.rows ≡ None → IsTextMade (entries.message (definitions a x) t) None
no_entry x t a h = subst (λ o. IsTextMade o None) (sym (ap (λ w. entries.message (plain_entry w) t) h)) tt

pub no_text : (o : Option Bytes) → o ≡ None → IsTextMade o None
no_text o e = subst (λ z. IsTextMade z None) (sym e) tt

pub text_made : (o : Option Bytes) (t : Bytes) (r : Result Stamped ExprFault) → o ≡ Some t → IfOk r (λ e. e ≡ stamped.text t) → ((r ≡ Err fault.Large) ↔ ¬ IsWithinLimits (text t)) → IsTextMade o (Some r)
text_made o t r e ok large =
    subst (λ z. IsTextMade z (Some r)) (sym e) (makes (text t) r (if_ok_more r (λ z. z ≡ stamped.text t) (λ z. plain z ≡ text t) (λ z q. ap plain q) ok) large, ok)

pub made_text : (o : Option Bytes) (r : Result Stamped ExprFault) → IsTextMade o (Some r) → (t : Bytes) × (o ≡ Some t) × IsTextMade (Some t) (Some r)
made_text None r h = absurd h
made_text (Some t) r h = (t, refl, h)

pub unmade_text : (o : Option Bytes) → IsTextMade o None → o ≡ None
unmade_text None h = refl
unmade_text (Some t) h = absurd h

-- ---- the history

pub in_row-by : (es : List Tree) → rows.in_row es ≡ rows.recalled_at recall_input (only_int es)
in_row-by [] = refl
in_row-by (n ∷ []) = refl
in_row-by (n ∷ m ∷ es) = refl

pub out_row-by : (es : List Tree) → rows.out_row es ≡ rows.recalled_at recall_value (out_line es)
out_row-by [] = refl
out_row-by (n ∷ []) = refl
out_row-by (n ∷ m ∷ es) = refl

pub row_found : (p : Prog (Option Tree)) (k k1 : Evaluator) (o r : Option Stamped) → Plays p k (Ok (option_map plain o)) k1 false → HonestMaybe k1 o → r ≡ o → IfSome r (λ e. fits (plain e) ≡ true) → Played found_tree (sized_row p) k (Ok r) k1
row_found p k k1 o r h g e f = cases r (subst (λ z. Plays p k (Ok (option_map plain z)) k1 false) (sym e) h) (subst (HonestMaybe k1) (sym e) g) f
  where
    cases : (z : Option Stamped) → Plays p k (Ok (option_map plain z)) k1 false → HonestMaybe k1 z → IfSome z (λ e. fits (plain e) ≡ true) → Played found_tree (sized_row p) k (Ok z) k1
    cases None m n q = row_none p k k1 m
    cases (Some e) m n q = row_gives p k k1 e m q n
