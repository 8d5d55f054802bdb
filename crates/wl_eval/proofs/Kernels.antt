-- What a kernel is in between its calls: what evaluations, refilling and a new line leave of it, and the outcome of an end.
use Rattle.std.proofs.Common.{Vec, Global, ◌≡◌, ℕ, Bool, true, ◌||◌, List, [], ◌∷◌, ◌++◌, Option, Some, None, Result, Ok, Err, refl, sym, ap, ap₂, ◌∙◌, subst, true≢false}
use Rattle.std.proofs.lemmas.List.{map-append}
use Rattle.std.proofs.lemmas.List.Elements.{All-push, All-weaker}
use Rattle.std.specs.List.{All}
use Rattle.wl_desk.specs.Desk.{refilled}
use Rattle.wl_expr.specs.Tree.{Tree}
use Rattle.wl_rules.specs.Stored.{definitions}
use Rattle.wl_semantics.specs.State as spec
use Rattle.wl_semantics.specs.State.{State, End}
use Rattle.wl_semantics.specs.Prog.{Prog, end_of}
use Rattle.wl_semantics.specs.Eval.{Eval, Go, interp}
use Rattle.wl_eval.specs.KernelView.{IsIdle, IsSound, plain_lines, state_of, view_of}
use Rattle.wl_state.specs.Logs.{is_spoiled}
use Rattle.wl_semantics.specs.Outcome.{evaluated, outcome}
use Rattle.wl_state.specs.Played.{Plays, HonestEnd, GoodEnd, HonestLine, plain_line, state}
use Rattle.wl_state.specs.declared.ends.End as ends
use Rattle.wl_state.specs.declared.ends.End.TheVariants as end
use Rattle.wl_state.specs.declared.evaluator.Evaluator.{Evaluator}
use Rattle.wl_state.specs.declared.evaluator.Line.{Line}
use Rattle.wl_state.specs.declared.evaluator.Log.{Log}
use Rattle.wl_eval.proofs.Beginning.{lines_sound, refilled_sound}
use Rattle.wl_eval.proofs.History.{Go-history}
use Rattle.wl_state.proofs.Rows.{same_depth}
use Rattle.wl_state.proofs.Stores.{honest_grows}

-- ---- the state

pub idle_state : (k : Evaluator) (ls : List Line) (b : Bool) → IsIdle k ls → state_of (view_of k ls b) ≡ state k
idle_state k ls b h =
    ap₂ (λ (xs : List spec.Line) (d : ℕ). record { world = record { definitions = definitions k.store; history = xs; module_number = k.modules; desk = k.desk }; steps = k.steps; depth = d }) h.same (sym h.depth)

pub idle_sound : (k : Evaluator) (ls : List Line) (b : Bool) → IsIdle k ls → IsSound (view_of k ls b)
idle_sound k ls b h = record { rules = h.sound.honest; history = h.honest }

-- ---- behind a program

spoiled_none : (o : Option Log) → is_spoiled o ≡ true → o ≡ None
spoiled_none None e = refl
spoiled_none (Some u) e = absurd (true≢false (sym e))

pub idle_after : {R : Type 0} {p : Prog R} {k k1 : Evaluator} {r : Result R End} {o : Bool} → Plays p k r k1 o → (ls : List Line) → IsIdle k ls → IsIdle k1 ls
idle_after {R} {p} {k} {k1} {r} {o} x ls h = record {
  sound = x.sound h.sound;
  depth = same_depth x ∙ h.depth;
  log = spoiled_none k1.log (x.notes.spoiled ∙ ap (λ l. is_spoiled l || (Go p (state k)).did.effect) h.log);
  same = h.same ∙ sym (Go-history p (state k)) ∙ ap (λ (s : State). s.world.history) x.leaves;
  honest = All-weaker (HonestLine k.store) (HonestLine k1.store) (λ l y. (honest_grows k.store k1.store x.grows l.input y.0, honest_grows k.store k1.store x.grows l.value y.1)) ls h.honest;
}

-- the state behind a program from an idle evaluator, in the words of a kernel
pub idle_leaves : {R : Type 0} {p : Prog R} {k k1 : Evaluator} {r : Result R End} {o : Bool} → Plays p k r k1 o → (ls : List Line) (b c : Bool) → IsIdle k ls → state_of (view_of k1 ls c) ≡ (Go p (state_of (view_of k ls b))).state
idle_leaves {R} {p} {k} {k1} {r} {o} x ls b c h =
    idle_state k1 ls c (idle_after x ls h) ∙ sym x.leaves ∙ ap (λ (s : State). (Go p s).state) (sym (idle_state k ls b h))

pub idle_ends : {R : Type 0} {p : Prog R} {k k1 : Evaluator} {r : Result R End} {o : Bool} → Plays p k r k1 o → (ls : List Line) (b : Bool) → IsIdle k ls → (Go p (state_of (view_of k ls b))).result ≡ r
idle_ends {R} {p} {k} {k1} {r} {o} x ls b h = ap (λ (s : State). (Go p s).result) (idle_state k ls b h) ∙ x.ends

-- ---- an evaluation

go_result : (t : Tree) (s : State) → (Go (end_of t) s).result ≡ Ok (Eval t s).result
unfolding end_of interp
go_result t s = refl

go_state : (t : Tree) (s : State) → (Go (end_of t) s).state ≡ (Eval t s).state
unfolding end_of interp
go_state t s = refl

abbrev the_end : Result End End → End
the_end (Ok e) = e
the_end (Err e) = e

pub evaluated_ends : (t : Tree) {k k1 : Evaluator} {e : End} {o : Bool} → Plays (end_of t) k (Ok e) k1 o → (ls : List Line) (b : Bool) → IsIdle k ls → outcome e ≡ (evaluated t (state_of (view_of k ls b))).result
evaluated_ends t {k} {k1} {e} {o} x ls b h =
    let s = state_of (view_of k ls b) in
    sym (ap (λ (r : Result End End). outcome (the_end r)) (sym (go_result t s) ∙ idle_ends x ls b h))

pub evaluated_leaves : (t : Tree) {k k1 : Evaluator} {e : End} {o : Bool} → Plays (end_of t) k (Ok e) k1 o → (ls : List Line) (b c : Bool) → IsIdle k ls → state_of (view_of k1 ls c) ≡ (evaluated t (state_of (view_of k ls b))).state
evaluated_leaves t {k} {k1} {e} {o} x ls b c h = idle_leaves x ls b c h ∙ go_state t (state_of (view_of k ls b))

pub good_honest : (n : ℕ) (k : Evaluator) (e : ends.End) → GoodEnd n k e → HonestEnd k e
good_honest n k (end.Value v) h = h.0
good_honest n k (end.Thrown v t) h = h
good_honest n k end.Aborted h = tt
good_honest n k end.BudgetEnded h = tt
good_honest n k end.Broke h = tt
good_honest n k end.Continued h = tt

-- ---- a cell begins, a line is kept

pub idle_refilled : (k : Evaluator) (n : ℕ) (ls : List Line) → IsIdle k ls → IsIdle (record k { steps = n; desk = refilled k.desk }) ls
idle_refilled k n ls h = record { sound = refilled_sound k n (refilled k.desk) refl h.log h.sound; depth = h.depth; log = h.log; same = h.same; honest = h.honest }

pub idle_line : (k : Evaluator) (v : Vec Line Global) (ls xs : List Line) (l : Line) → v.items ≡ k.history.items ++ l ∷ [] → xs ≡ ls ++ l ∷ [] → HonestLine k.store l → IsIdle k ls → IsIdle (record k { history = v }) xs
idle_line k v ls xs l is more good h = record {
  sound = lines_sound k v (subst (All (HonestLine k.store)) (sym is) (All-push (HonestLine k.store) k.history.items l h.sound.history good)) h.sound;
  depth = h.depth;
  log = h.log;
  same = ap plain_lines more ∙ map-append plain_line ls (l ∷ []) ∙ ap (λ (us : List spec.Line). us ++ plain_line l ∷ []) h.same ∙ sym (map-append plain_line k.history.items (l ∷ [])) ∙ ap plain_lines (sym is);
  honest = subst (All (HonestLine k.store)) (sym more) (All-push (HonestLine k.store) ls l h.honest good);
}

pub lines_more : (ls xs : List Line) (l : Line) → xs ≡ ls ++ l ∷ [] → plain_lines xs ≡ plain_lines ls ++ plain_line l ∷ []
lines_more ls xs l more = ap plain_lines more ∙ map-append plain_line ls (l ∷ [])
