-- How the rows play that define, set and take away.
use Rattle.std.proofs.Common.{◌≡◌, ℕ, ◌+◌, ◌≤◌, ◌<◌, Bool, true, false, ◌&&◌, not, List, [], ◌∷◌, length, drop, get_or, Option, Some, None, option_map, is_some, Result, Ok, Err, refl, sym, ap, ap₂, ◌∙◌, subst, arith}
use Rattle.std.proofs.lemmas.List.{drop_all, length-map}
use Rattle.std.specs.Borrow.{Bor}
use Rattle.std.specs.Result.{IsErrAnd}
use Rattle.std.specs.Prelude.{codes, nat_eq}
use Rattle.wl_assign.specs.Targets.{target}
use Rattle.wl_expr.specs.Look.{looked}
use Rattle.wl_expr.specs.Stamped as stamped
use Rattle.wl_expr.specs.Stamped.{Stamped, plain, plains}
use Rattle.wl_expr.specs.Tree.{Tree, Trees, num, text, symbol, node, none, more, to_list, from_list, from_list_to_list}
use Rattle.wl_expr.specs.declared.look.Look.{Look}
use Rattle.wl_expr.specs.declared.look.Look.TheVariants as look
use Rattle.wl_expr.specs.declared.stamp.Stamp.{Stamp}
use Rattle.wl_expr.specs.Words.{Name, Bytes, form, is_the, is_list, elements, failed_symbol, null_symbol}
use Rattle.wl_shape.specs.Elements.{list_elements}
use Rattle.wl_semantics.specs.Prog.{Prog, done, ◌>>=◌, message, result}
use Rattle.wl_semantics.specs.Definitions as definitions
use Rattle.wl_semantics.specs.Definitions.{LeftSide, define_target, define_up_target, define_tagged_by, tagged, set, set_each, set_message, set_plain, set_node, prepared}
use Rattle.wl_semantics.specs.LeftSides.{Sides, moved_condition, with_core}
use Rattle.wl_semantics.specs.MessageRows.{MessageName, message_name}
use Rattle.wl_state.specs.Operands.{taken_answer}
use Rattle.wl_state.specs.Parts.{sized_row}
use Rattle.wl_state.specs.Played.{Played, Plays, Leads, found_tree, itself, trees}
use Rattle.wl_state.specs.Prepared.{message_text, prepared_side, refusal, refusal_name, set_one, set_by, same_shape, under}
use Rattle.wl_state.specs.declared.ends.Stop.{Stop}
use Rattle.wl_state.specs.declared.evaluator.Evaluator.{Evaluator}
use Rattle.wl_state.proofs.Matches.{exit}
use Rattle.wl_state.proofs.Playing.{plays_bind, plays_done}
use Rattle.wl_state.proofs.Preparing.{within_under}
use Rattle.wl_state.proofs.RowParts.{row_gives}
use Rattle.wl_state.proofs.Rows.{leads_bind}
use Rattle.wl_state.proofs.Shapings.{next_of}
use Rattle.wl_state.proofs.Values.{list_of_plains}

-- ---- one left side

message_name_node : (h : Tree) (ls : Trees) (v : Tree) → None ≡ message_name (node h ls) → set_node h ls v ≡ set_plain (node h ls) v
message_name_node h none v e = refl
message_name_node h (more (num n) ls) v e = refl
message_name_node h (more (text s) ls) v e = refl
message_name_node h (more (node f us) ls) v e = refl
message_name_node h (more (symbol s) none) v e = refl
message_name_node h (more (symbol s) (more (num n) ls)) v e = refl
message_name_node h (more (symbol s) (more (symbol x) ls)) v e = refl
message_name_node h (more (symbol s) (more (node f us) ls)) v e = refl
message_name_node h (more (symbol s) (more (text t) (more u us))) v e = refl
message_name_node h (more (symbol s) (more (text t) none)) (num n) e = refl
message_name_node h (more (symbol s) (more (text t) none)) (symbol x) e = refl
message_name_node h (more (symbol s) (more (text t) none)) (node f us) e = refl
message_name_node h (more (symbol s) (more (text t) none)) (text x) e = go (is_the (codes "MessageName") h) e
  where
    go : (b : Bool) → None ≡ (elim b as (λ _. Option MessageName) [ true ↦ Some (record { symbol = s; tag = t }) | false ↦ None ])
        → elim b [ true ↦ set_message s t x | false ↦ set_plain (node h (more (symbol s) (more (text t) none))) (text x) ] ≡ set_plain (node h (more (symbol s) (more (text t) none))) (text x)
    go true q = absurd (let w : ◌≡◌ {A = Option MessageName} None (Some (record { symbol = s; tag = t })) = q in cc)
    go false q = refl

pub set_unnamed : (l v : Tree) → None ≡ message_name l → set_one l v ≡ set_plain l v
set_unnamed (num n) v e = refl
set_unnamed (text s) v e = refl
set_unnamed (symbol x) v e = refl
set_unnamed (node h ls) v e = message_name_node h ls v e

not_text : (h : Tree) (ls : Trees) (v : Tree) → ((x : Bytes) → v ≡ text x → ⊥) → set_node h ls v ≡ set_plain (node h ls) v
not_text h ls (text x) n = absurd (n x refl)
not_text h none (num a) n = refl
not_text h (more l ls) (num a) n = go l ls
  where
    go : (l : Tree) (ls : Trees) → set_node h (more l ls) (num a) ≡ set_plain (node h (more l ls)) (num a)
    go (num b) ls = refl
    go (text s) ls = refl
    go (node f us) ls = refl
    go (symbol s) none = refl
    go (symbol s) (more (num b) ls) = refl
    go (symbol s) (more (symbol x) ls) = refl
    go (symbol s) (more (node f us) ls) = refl
    go (symbol s) (more (text t) none) = refl
    go (symbol s) (more (text t) (more u us)) = refl
not_text h none (symbol a) n = refl
not_text h (more l ls) (symbol a) n = go l ls
  where
    go : (l : Tree) (ls : Trees) → set_node h (more l ls) (symbol a) ≡ set_plain (node h (more l ls)) (symbol a)
    go (num b) ls = refl
    go (text s) ls = refl
    go (node f us) ls = refl
    go (symbol s) none = refl
    go (symbol s) (more (num b) ls) = refl
    go (symbol s) (more (symbol x) ls) = refl
    go (symbol s) (more (node f us) ls) = refl
    go (symbol s) (more (text t) none) = refl
    go (symbol s) (more (text t) (more u us)) = refl
not_text h none (node g ws) n = refl
not_text h (more l ls) (node g ws) n = go l ls
  where
    go : (l : Tree) (ls : Trees) → set_node h (more l ls) (node g ws) ≡ set_plain (node h (more l ls)) (node g ws)
    go (num b) ls = refl
    go (text s) ls = refl
    go (node f us) ls = refl
    go (symbol s) none = refl
    go (symbol s) (more (num b) ls) = refl
    go (symbol s) (more (symbol x) ls) = refl
    go (symbol s) (more (node f us) ls) = refl
    go (symbol s) (more (text t) none) = refl
    go (symbol s) (more (text t) (more u us)) = refl

-- a value that is no text
pub set_valued : (l v : Tree) → ((x : Bytes) → v ≡ text x → ⊥) → set_one l v ≡ set_plain l v
set_valued (num n) v f = refl
set_valued (text s) v f = refl
set_valued (symbol x) v f = refl
set_valued (node h ls) v f = not_text h ls v f

-- the text of a message
pub set_text : (l : Tree) (m : MessageName) (x : Bytes) → Some m ≡ message_name l → set_one l (text x) ≡ set_message m.symbol m.tag x
set_text (node h (more (symbol s) (more (text t) none))) m x e = go (is_the (codes "MessageName") h) e
  where
    go : (b : Bool) → Some m ≡ (elim b as (λ _. Option MessageName) [ true ↦ Some (record { symbol = s; tag = t }) | false ↦ None ])
        → elim b [ true ↦ set_message s t x | false ↦ set_plain (node h (more (symbol s) (more (text t) none))) (text x) ] ≡ set_message m.symbol m.tag x
    go true q = let w : m ≡ record { symbol = s; tag = t } = cc in ap (λ (z : MessageName). set_message z.symbol z.tag x) (sym w)
    go false q = absurd (let w : Some m ≡ None = q in cc)
set_text (num n) m x e = absurd (let w : Some m ≡ None = e in cc)
set_text (text s) m x e = absurd (let w : Some m ≡ None = e in cc)
set_text (symbol s) m x e = absurd (let w : Some m ≡ None = e in cc)
set_text (node h none) m x e = absurd (let w : Some m ≡ None = e in cc)
set_text (node h (more (num n) ls)) m x e = absurd (let w : Some m ≡ None = e in cc)
set_text (node h (more (text s) ls)) m x e = absurd (let w : Some m ≡ None = e in cc)
set_text (node h (more (node f us) ls)) m x e = absurd (let w : Some m ≡ None = e in cc)
set_text (node h (more (symbol s) none)) m x e = absurd (let w : Some m ≡ None = e in cc)
set_text (node h (more (symbol s) (more (num n) ls))) m x e = absurd (let w : Some m ≡ None = e in cc)
set_text (node h (more (symbol s) (more (symbol y) ls))) m x e = absurd (let w : Some m ≡ None = e in cc)
set_text (node h (more (symbol s) (more (node f us) ls))) m x e = absurd (let w : Some m ≡ None = e in cc)
set_text (node h (more (symbol s) (more (text t) (more u us)))) m x e = absurd (let w : Some m ≡ None = e in cc)

-- what is no text
pub no_text : (p : Option Stamp) (l : Look) (e : Stamped) → looked p l ≡ e → ((s : Bor (List ℕ)) → l ≡ look.Text s → ⊥) → (x : Bytes) → plain e ≡ text x → ⊥
no_text p (look.Num n) e q f x w = let y : num n ≡ text x = ap plain q ∙ w in cc
no_text p (look.Text s) e q f x w = f s refl
no_text p (look.Symbol s) e q f x w = let y : symbol s.now ≡ text x = ap plain q ∙ w in cc
no_text p (look.Node a es) e q f x w = let y : node (plain a.now) (plains (stamped.from_list es.now)) ≡ text x = ap plain q ∙ w in cc

abbrev no_message : Option (MessageName × Bytes)
no_message = None

pub text_none : (l v : Tree) → ((x : Bytes) → v ≡ text x → ⊥) → no_message ≡ message_text l v
text_none l (num n) f = refl
text_none l (text x) f = absurd (f x refl)
text_none l (symbol x) f = refl
text_none l (node h ts) f = refl

-- the message by the name that was read on the left, and the text that was read on the right
abbrev pub with_text : Bytes → Option MessageName → Option (MessageName × Bytes)
with_text x o = option_map (λ m. (m, x)) o

pub text_some : (l v : Tree) (x : Bytes) (o : Option MessageName) → text x ≡ v → o ≡ message_name l → with_text x o ≡ message_text l v
text_some l v x o e q = ap (with_text x) q ∙ ap (message_text l) e

named_text : (o : Option MessageName) (m : MessageName) (x y : Bytes) → Some (m, x) ≡ with_text y o → (Some m ≡ o) × (y ≡ x)
named_text None m x y e = absurd (let w : Some (m, x) ≡ no_message = e in cc)
named_text (Some n) m x y e =
    let w : ◌≡◌ {A = Option (MessageName × Bytes)} (Some (m, x)) (Some (n, y)) = e in
    let z : ◌≡◌ {A = MessageName × Bytes} (m, x) (n, y) = cc in
    (ap (λ (p : MessageName × Bytes). Some p.0) z, sym (ap (λ (p : MessageName × Bytes). p.1) z))

nameless : (o : Option MessageName) (x : Bytes) → no_message ≡ with_text x o → None ≡ o
nameless None x e = refl
nameless (Some m) x e = absurd (let w : no_message ≡ Some (m, x) = e in cc)

pub text_set : (l v : Tree) (m : MessageName) (x : Bytes) → Some (m, x) ≡ message_text l v → set_one l v ≡ set_message m.symbol m.tag x
text_set l (text y) m x e = let q = named_text (message_name l) m x y e in ap (λ z. set_one l (text z)) q.1 ∙ set_text l m x q.0
text_set l (num n) m x e = absurd (let w : Some (m, x) ≡ no_message = e in cc)
text_set l (symbol s) m x e = absurd (let w : Some (m, x) ≡ no_message = e in cc)
text_set l (node h ts) m x e = absurd (let w : Some (m, x) ≡ no_message = e in cc)

pub plain_set : (l v : Tree) → no_message ≡ message_text l v → set_one l v ≡ set_plain l v
plain_set l (text x) e = set_unnamed l (text x) (nameless (message_name l) x e)
plain_set l (num n) e = set_valued l (num n) (λ x q. let w : num n ≡ text x = q in cc)
plain_set l (symbol s) e = set_valued l (symbol s) (λ x q. let w : symbol s ≡ text x = q in cc)
plain_set l (node h ts) e = set_valued l (node h ts) (λ x q. let w : node h ts ≡ text x = q in cc)

pub plain_stop : (l v : Tree) (k k1 : Evaluator) (r : Result (Unit {0}) Stop) (e : Stop) → no_message ≡ message_text l v → IsErrAnd r (λ d. d ≡ e) → Played itself (definitions.define true l v) k (Err e) k1 → Played itself (set_one l v) k r k1
plain_stop l v k k1 r e q i m = subst (λ p. Played itself p k r k1) (sym (plain_set l v q)) (exit itself itself (definitions.define true l v) (λ b. done tt) k k1 r e i m)

pub plain_done : (l v : Tree) (k k1 : Evaluator) (b : Bool) → no_message ≡ message_text l v → Plays (definitions.define true l v) k (Ok b) k1 false → Plays (set_one l v) k (Ok tt) k1 false
plain_done l v k k1 b q m = subst (λ p. Plays p k (Ok tt) k1 false) (sym (plain_set l v q)) (plays_bind (definitions.define true l v) (λ b. done tt) m plays_done)

-- ---- lists of left sides

pub set_single : (l v : Tree) → None ≡ list_elements l → set l v ≡ set_one l v
unfolding set
set_single (num n) v e = refl
set_single (text s) v e = refl
set_single (symbol x) v e = refl
set_single (node h ls) v e = go (is_the (codes "List") h) e
  where
    go : (b : Bool) → None ≡ (elim b as (λ _. Option (List Tree)) [ true ↦ Some (to_list ls) | false ↦ None ])
        → elim b [ true ↦ elim (is_list v && nat_eq (length (to_list ls)) (length (elements v))) [ true ↦ set_each ls (elements v) | false ↦ message (codes "Set") (codes "shape") (node h ls ∷ v ∷ []) ] | false ↦ set_node h ls v ]
        ≡ set_node h ls v
    go true q = absurd (let w : None ≡ Some (to_list ls) = q in cc)
    go false q = refl

by_shape : (b : Bool) (l v : Tree) (ls : Trees) (vs : List Tree) → elim b [ true ↦ set_each ls vs | false ↦ message (codes "Set") (codes "shape") (l ∷ v ∷ []) ] ≡ set_by ls l v (elim b [ true ↦ Some vs | false ↦ None ])
by_shape true l v ls vs = refl
by_shape false l v ls vs = refl

pub set_list : (l v : Tree) (es : List Tree) → Some es ≡ list_elements l → set l v ≡ set_by (from_list es) l v (same_shape (length es) v)
unfolding set
set_list (num n) v es e = absurd (let w : Some es ≡ None = e in cc)
set_list (text s) v es e = absurd (let w : Some es ≡ None = e in cc)
set_list (symbol x) v es e = absurd (let w : Some es ≡ None = e in cc)
set_list (node h ls) v es e = go (is_the (codes "List") h) e
  where
    go : (b : Bool) → Some es ≡ (elim b as (λ _. Option (List Tree)) [ true ↦ Some (to_list ls) | false ↦ None ])
        → elim b [ true ↦ elim (is_list v && nat_eq (length (to_list ls)) (length (elements v))) [ true ↦ set_each ls (elements v) | false ↦ message (codes "Set") (codes "shape") (node h ls ∷ v ∷ []) ] | false ↦ set_node h ls v ]
        ≡ set_by (from_list es) (node h ls) v (same_shape (length es) v)
    go true q =
        let w : es ≡ to_list ls = (let z : Some es ≡ Some (to_list ls) = q in cc) in
        by_shape (is_list v && nat_eq (length (to_list ls)) (length (elements v))) (node h ls) v ls (elements v)
        ∙ ap (λ us. set_by us (node h ls) v (same_shape (length (to_list ls)) v)) (sym (from_list_to_list ls))
        ∙ ap (λ us. set_by (from_list us) (node h ls) v (same_shape (length us) v)) (sym w)
    go false q = absurd (let w : Some es ≡ None = q in cc)

-- the same by the elements that were read
pub set_shape : (l v : Tree) (ls : List Stamped) (o : Option (List Tree)) → Some (trees ls) ≡ list_elements l → o ≡ same_shape (length ls) v → set l v ≡ set_by (from_list (trees ls)) l v o
set_shape l v ls o e q = set_list l v (trees ls) e ∙ ap (λ n. set_by (from_list (trees ls)) l v (same_shape n v)) (length-map ls plain) ∙ ap (set_by (from_list (trees ls)) l v) (sym q)

pub each_over : (vs : List Tree) → set_each none vs ≡ done tt
unfolding set_each
each_over vs = refl

pub each_next : (l v : Tree) (ls : Trees) (vs : List Tree) → set_each (more l ls) (v ∷ vs) ≡ (set l v >>= λ _. set_each ls vs)
unfolding set_each
each_next l v ls vs = refl

module _ (ls vs : List Stamped) (i : ℕ) where
  pub set_at : (l v : Stamped) → i < length ls → length vs ≡ length ls → l ≡ get_or ls i l → v ≡ get_or vs i v
      → set_each (from_list (trees (drop i ls))) (trees (drop i vs)) ≡ (set (plain l) (plain v) >>= λ _. set_each (from_list (trees (drop (i + 1) ls))) (trees (drop (i + 1) vs)))
  set_at l v b n p q =
      ap₂ (λ (us ws : List Stamped). set_each (from_list (trees us)) (trees ws)) (next_of ls i l b p) (next_of vs i v (omega (arith, b, n)) q)
      ∙ each_next (plain l) (plain v) (from_list (trees (drop (i + 1) ls))) (trees (drop (i + 1) vs))

  pub set_step : (l v : Stamped) {w : Prog (Unit {0})} {k k1 k2 : Evaluator} → i < length ls → length vs ≡ length ls → l ≡ get_or ls i l → v ≡ get_or vs i v → Leads w k (set_each (from_list (trees (drop i ls))) (trees (drop i vs))) k1
      → Plays (set (plain l) (plain v)) k1 (Ok tt) k2 false → Leads w k (set_each (from_list (trees (drop (i + 1) ls))) (trees (drop (i + 1) vs))) k2
  set_step l v {k1 = k1} b n p q h m r k3 o d =
      h r k3 o (subst (λ z. Plays z k1 r k3 o) (sym (set_at l v b n p q)) (leads_bind (set (plain l) (plain v)) (λ _. set_each (from_list (trees (drop (i + 1) ls))) (trees (drop (i + 1) vs))) m r k3 o d))

  pub set_over : {w : Prog (Unit {0})} {k k1 : Evaluator} → length ls ≤ i → Leads w k (set_each (from_list (trees (drop i ls))) (trees (drop i vs))) k1 → Plays w k (Ok tt) k1 false
  set_over {k1 = k1} b h = h _ _ _ (subst (λ z. Plays z k1 (Ok tt) k1 false) (sym (ap (λ (us : List Stamped). set_each (from_list (trees us)) (trees (drop i vs))) (drop_all i ls b) ∙ each_over (trees (drop i vs)))) plays_done)

-- the elements of a list, where they were read
pub list_read : (h t : Tree) (es : List Stamped) → is_the (codes "List") h ≡ true → node h (plains (stamped.from_list es)) ≡ t → Some (trees es) ≡ list_elements t
list_read h t es e q =
    ap Some (sym (list_of_plains es)) ∙ sym (ap (λ (b : Bool). elim b as (λ _. Option (List Tree)) [ true ↦ Some (to_list (plains (stamped.from_list es))) | false ↦ None ]) e) ∙ ap list_elements q

-- ---- definitions

abbrev pub define_by : Bool → Tree → Sides → Prog Bool
define_by i v m = prepared m.left >>= λ s. define_target i s m.body v (target s.core)

pub define_stop : (i : Bool) (l v : Tree) (m : Sides) (k k1 : Evaluator) (r : Result Bool Stop) (e : Stop) → moved_condition l v ≡ m → IsErrAnd r (λ d. d ≡ e) → Played prepared_side (prepared m.left) k (Err e) k1 → Played itself (definitions.define i l v) k r k1
define_stop i l v m k k1 r e q h w =
    subst (λ p. Played itself p k r k1) (sym (ap (define_by i v) q)) (exit prepared_side itself (prepared m.left) (λ s. define_target i s m.body v (target s.core)) k k1 r e h w)

pub define_sides : (i : Bool) (l v : Tree) (m : Sides) → moved_condition l v ≡ m → definitions.define i l v ≡ define_by i v m
define_sides i l v m e = ap (define_by i v) e

-- ---- what is given

pub delayed_plays : (p : Prog Bool) (b : Bool) (k k1 : Evaluator) → Plays p k (Ok b) k1 false → Plays (definitions.delayed p) k (Ok (Some (refusal b))) k1 false
delayed_plays p b k k1 h = plays_bind p _ h (at b)
  where
    at : (b : Bool) → Plays (elim b [ true ↦ result failed_symbol | false ↦ result null_symbol ]) k1 (Ok (Some (refusal b))) k1 false
    at true = plays_done
    at false = plays_done

pub taken_refusal : (b : Bool) → taken_answer b ≡ refusal (not b)
taken_refusal true = refl
taken_refusal false = refl

pub row_refusal : (p : Prog Bool) (b : Bool) (k k1 : Evaluator) (e : Stamped) → e ≡ stamped.symbol None (refusal_name b) → Plays p k (Ok b) k1 false → Played found_tree (sized_row (definitions.delayed p)) k (Ok (Some e)) k1
row_refusal p true k k1 e q h = subst (λ z. Played found_tree (sized_row (definitions.delayed p)) k (Ok (Some z)) k1) (sym q) (row_gives (definitions.delayed p) k k1 (stamped.symbol None (codes "$Failed")) (delayed_plays p true k k1 h) refl tt)
row_refusal p false k k1 e q h = subst (λ z. Played found_tree (sized_row (definitions.delayed p)) k (Ok (Some z)) k1) (sym q) (row_gives (definitions.delayed p) k k1 (stamped.symbol None (codes "Null")) (delayed_plays p false k k1 h) refl tt)

pub row_taken : (p : Prog (Option Tree)) (b : Bool) (k k1 : Evaluator) (e : Stamped) → e ≡ stamped.symbol None (refusal_name (not b)) → Plays p k (Ok (Some (taken_answer b))) k1 false → Played found_tree (sized_row p) k (Ok (Some e)) k1
row_taken p true k k1 e q h = subst (λ z. Played found_tree (sized_row p) k (Ok (Some z)) k1) (sym q) (row_gives p k k1 (stamped.symbol None (codes "Null")) h refl tt)
row_taken p false k k1 e q h = subst (λ z. Played found_tree (sized_row p) k (Ok (Some z)) k1) (sym q) (row_gives p k k1 (stamped.symbol None (codes "$Failed")) h refl tt)

-- a left side that is a symbol has no condition
pub no_condition : {A : Type 0} (f : A → Tree) (o : Option A) (l c t : Tree) (x : Name) → t ≡ with_core (under (option_map f o) l) c → t ≡ symbol x → is_some o ≡ false
no_condition f None l c t x e q = refl
no_condition f (Some d) l c t x e q = absurd (let w : form (codes "Condition") (with_core l c ∷ f d ∷ []) ≡ symbol x = sym (within_under (Some (f d)) l c) ∙ sym e ∙ q in cc)

-- ---- definitions by tags

abbrev pub define_up_by : Tree → Sides → Prog Bool
define_up_by v m = prepared m.left >>= λ s. define_up_target s m.body v (target s.core)

pub define_up_sides : (l v : Tree) (m : Sides) → moved_condition l v ≡ m → definitions.define_up l v ≡ define_up_by v m
define_up_sides l v m e = ap (define_up_by v) e

abbrev pub define_tagged_with : Name → Tree → Sides → Prog Bool
define_tagged_with g v m = prepared m.left >>= λ s. define_tagged_by g s m.body v (tagged g s.core)

pub define_tagged_sides : (g : Name) (l v : Tree) (m : Sides) → moved_condition l v ≡ m → definitions.define_tagged g l v ≡ define_tagged_with g v m
define_tagged_sides g l v m e = ap (define_tagged_with g v) e
