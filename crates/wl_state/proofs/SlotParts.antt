-- What a Function gives, part by part.
use Rattle.std.proofs.Common.{◌≡◌, ℕ, zero, suc, ◌+◌, ◌<◌, ◌≤◌, Bool, true, false, List, [], ◌∷◌, ◌++◌, length, get_or, take, drop, map, slice_get, Option, Some, None, is_some, Result, Ok, Err, IfOk, refl, sym, ap, ap₂, ◌∙◌, subst, arith, add-one}
use Rattle.std.proofs.lemmas.Bool.{le-leb, lt-leb}
use Rattle.std.proofs.lemmas.Option.{slice_get_past, slice_get-get_or}
use Rattle.std.specs.List.{drop-map}
use Rattle.std.proofs.Math.Seq.{take-suc}
use Rattle.std.proofs.lemmas.List.{map-append, take-map, get_or-map, length-map}
use Rattle.std.specs.List.{list_all}
use Rattle.std.proofs.lemmas.List.Elements.{All-cons, All-head, All-push, All-tail}
use Rattle.std.proofs.lemmas.Result.{err_from_is_err_and}
use Rattle.std.specs.Prelude.{IfSome, IsErrAnd, option_map, unwrap_or, codes, bytes_eq}
use Rattle.wl_expr.proofs.Parts.{plains_from_list}
use Rattle.wl_expr.proofs.Small.{small_at}
use Rattle.wl_shape.specs.Given.{DoesNotFit}
use Rattle.wl_shape.specs.Renewed.{IsRenewed}
use Rattle.wl_state.proofs.Values.{list_of_plains}
use Rattle.wl_expr.proofs.Small.{fits_decides}
use Rattle.wl_expr.specs.Passed.{IsFrom}
use Rattle.wl_expr.specs.declared.fault.ExprFault.{ExprFault}
use Rattle.wl_expr.specs.declared.fault.ExprFault.TheVariants as fault
use Rattle.wl_expr.specs.Stamped as stamped
use Rattle.wl_expr.specs.Stamped.{Stamped, plain, plains, from_list}
use Rattle.wl_expr.specs.Tree as tree
use Rattle.wl_expr.specs.Tree.{Tree, Trees, num, text, symbol, node, none, more, to_list, IsWithinLimits, AreSmall}
use Rattle.wl_expr.specs.Words.{Name, applied, count_of, sequence_of, is_form, is_the, is_list, elements, name_of, names_of, with_first}
use Rattle.wl_shape.specs.Answers.{AllFrom}
use Rattle.wl_shape.specs.Elements.{is_name}
use Rattle.wl_shape.specs.Fill as fill
use Rattle.wl_shape.specs.Names.{names_in}
use Rattle.wl_shape.specs.Scopes.{function_names}
use Rattle.wl_state.specs.Operands.{listed}
use Rattle.wl_semantics.specs.BuiltIn.{built_in}
use Rattle.wl_state.specs.Parts.{sized_row}
use Rattle.wl_semantics.specs.Prog.{done}
use Rattle.wl_state.specs.Played.{FaultStops, Played, Honest, AllHonest, found_tree, trees}
use Rattle.wl_state.specs.declared.evaluator.Evaluator.{Evaluator}
use Rattle.wl_state.specs.declared.ends.Stop.{Stop}
use Rattle.wl_state.proofs.Answering.{beyond, from_honest, row_large}
use Rattle.wl_state.proofs.Playing.{plays_done, plays_done_is}
use Rattle.wl_state.proofs.RowParts.{row_gives, row_stays}
use Rattle.wl_semantics.specs.ScopeRows.{function_applied, function_by, is_inner, slot, slots_from, slot_of, with_slots, with_slots_in, with_names}
use Rattle.wl_state.specs.Slots.{IsGiven, new_or}

-- ---- names

-- what the names are of trees that are all symbols
pub record AreNames (ts : List Tree) : Type 0 where
  pub names : names_of ts ≡ Some (names_in ts)
  pub symbols : list_all is_name ts ≡ true
  pub count : length (names_in ts) ≡ length ts

named_more : (x : Name) (ts : List Tree) (o : Option (List Name)) → names_of ts ≡ o → is_some (with_first (Some x) o) ≡ true → (is_some o ≡ true → AreNames ts) → AreNames (symbol x ∷ ts)
named_more x ts None e h f = absurd (cc)
named_more x ts (Some ys) e h f =
    let n = f refl in
    record { names = ap (with_first (Some x)) n.names; symbols = n.symbols; count = ap suc n.count }

pub are_names : (ts : List Tree) → is_some (names_of ts) ≡ true → AreNames ts
are_names [] h = record { names = refl; symbols = refl; count = refl }
are_names (symbol x ∷ ts) h = named_more x ts (names_of ts) refl h (are_names ts)
are_names (num n ∷ ts) h = absurd (cc)
are_names (text s ∷ ts) h = absurd (cc)
are_names (node g us ∷ ts) h = absurd (cc)

names_by : (b : Bool) (t : Tree) (ts : List Tree) → name_of t ≡ None → ◌≡◌ {A = Option (List Name)} (elim b [ true ↦ names_of ts | false ↦ None ]) (names_of (elim b [ true ↦ ts | false ↦ t ∷ [] ]))
names_by true t ts e = refl
names_by false t ts e = sym (ap (λ o. with_first o (Some [])) e)

pub listed_names : (t : Tree) → function_names t ≡ names_of (listed t)
listed_names (symbol x) = refl
listed_names (num n) = refl
listed_names (text s) = refl
listed_names (node h ts) = names_by (is_list (node h ts)) (node h ts) (to_list ts) refl

-- of the values no more count than there are names
given_taken : (xs : List Name) (ts : List Tree) (n : ℕ) (x : Name) → length xs ≤ n → fill.given xs (take n ts) x ≡ fill.given xs ts x
given_taken [] ts n x l = refl
given_taken (y ∷ ys) [] zero x l = refl
given_taken (y ∷ ys) [] (suc n) x l = refl
given_taken (y ∷ ys) (t ∷ ts) zero x l = absurd (omega (arith, l))
given_taken (y ∷ ys) (t ∷ ts) (suc n) x l = ap (λ o. elim (bytes_eq x y) [ true ↦ Some t | false ↦ o ]) (given_taken ys ts n x (omega (arith, l)))

pub replace_taken : (b : Tree) (xs : List Name) (ts : List Tree) (n : ℕ) → length xs ≤ n → fill.replace b xs (take n ts) ≡ fill.replace b xs ts
replace_taken b xs ts n l = λ i. fill.fill (λ x. given_taken xs ts n x l i) b

-- the names of a Function are these
named_by : (t : Tree) → is_some (names_of (listed t)) ≡ true → function_names t ≡ Some (names_in (listed t))
named_by t h = listed_names t ∙ (are_names (listed t) h).names

-- with enough arguments, and with too few
pub enough_names : (t b : Tree) (ts us : List Tree) → is_some (names_of (listed t)) ≡ true → us ≡ take (length (listed t)) ts → length (listed t) ≤ length ts
    → Some (fill.replace b (names_in (listed t)) us) ≡ with_names b (function_names t) ts
enough_names t b ts us h q l =
    let xs = names_in (listed t) in
    let n = (are_names (listed t) h).count in
    ap Some (ap (fill.replace b xs) q ∙ replace_taken b xs ts (length (listed t)) (omega (arith, n)))
    ∙ sym (ap (λ o. with_names b o ts) (named_by t h) ∙ ap (λ (z : Bool). elim z [ true ↦ Some (fill.replace b xs ts) | false ↦ None ]) (le-leb (length xs) (length ts) (omega (arith, l, n))))

pub few_arguments : (t b : Tree) (ts : List Tree) → is_some (names_of (listed t)) ≡ true → length ts < length (listed t) → None ≡ with_names b (function_names t) ts
few_arguments t b ts h l =
    let xs = names_in (listed t) in
    let n = (are_names (listed t) h).count in
    sym (ap (λ o. with_names b o ts) (named_by t h) ∙ ap (λ (z : Bool). elim z [ true ↦ Some (fill.replace b xs ts) | false ↦ None ]) (lt-leb (length xs) (length ts) (omega (arith, l, n))))

pub no_function_names : (t b : Tree) (ts : List Tree) → is_some (names_of (listed t)) ≡ false → None ≡ with_names b (function_names t) ts
no_function_names t b ts h = sym (ap (λ o. with_names b o ts) (listed_names t) ∙ unnamed (names_of (listed t)) h)
  where
    unnamed : (o : Option (List Name)) → is_some o ≡ false → with_names b o ts ≡ None
    unnamed None e = refl
    unnamed (Some xs) e = absurd (cc)

-- the values of as many names as there are
pub taken_trees : (es ds ns : List Stamped) (ls : List Tree) → ds ≡ take (length ns) es → trees ns ≡ ls → trees ds ≡ take (length ls) (trees es)
taken_trees es ds ns ls p q = ap trees p ∙ sym (take-map plain (length ns) es) ∙ ap (λ m. take m (trees es)) (sym (length-map ns plain) ∙ ap length q)

pub names_filled : (t b : Tree) (es ds ns : List Stamped) → is_some (names_of (listed t)) ≡ true → trees ns ≡ listed t → ds ≡ take (length ns) es → length ns ≤ length es
    → Some (fill.replace b (names_in (trees ns)) (trees ds)) ≡ with_names b (function_names t) (trees es)
names_filled t b es ds ns h q p l =
    let m : length ns ≡ length (listed t) = sym (length-map ns plain) ∙ ap length q in
    let n : length (trees es) ≡ length es = length-map es plain in
    ap (λ us. Some (fill.replace b (names_in us) (trees ds))) q ∙ enough_names t b (trees es) (trees ds) h (taken_trees es ds ns (listed t) p q) (omega (arith, l, m, n))

-- ---- slots

module _ (f : Tree) (args : List Tree) (h : Tree) (ts : Trees) where
  abbrev by_inner : Bool → Tree
  by_inner b =
      elim b [
        | true ↦ node h ts
        | false ↦ elim (slot_of f args (node h ts) h (to_list ts)) [ Some u ↦ u | None ↦ node (with_slots f args h) (with_slots_in f args ts) ]
      ]

  pub inner_stays : is_inner h (to_list ts) ≡ true → with_slots f args (node h ts) ≡ node h ts
  inner_stays e = ap by_inner e

  abbrev by_slot : Option Tree → Tree
  by_slot o = elim o [ Some u ↦ u | None ↦ node (with_slots f args h) (with_slots_in f args ts) ]

  pub slot_stands : (u : Tree) → is_inner h (to_list ts) ≡ false → slot_of f args (node h ts) h (to_list ts) ≡ Some u → with_slots f args (node h ts) ≡ u
  slot_stands u e q = ap by_inner e ∙ ap by_slot q

  pub no_slot : is_inner h (to_list ts) ≡ false → slot_of f args (node h ts) h (to_list ts) ≡ None → with_slots f args (node h ts) ≡ node (with_slots f args h) (with_slots_in f args ts)
  no_slot e q = ap by_inner e ∙ ap by_slot q

pub slots_in_each : (f : Tree) (args : List Tree) (es : List Stamped) → with_slots_in f args (plains (from_list es)) ≡ tree.from_list (map (with_slots f args) (trees es))
slots_in_each f args [] = refl
slots_in_each f args (e ∷ es) = ap (λ us. more (with_slots f args (plain e)) us) (slots_in_each f args es)

-- which slot a node is
module _ (f t h e : Tree) (args : List Tree) (o : Option ℕ) (c : o ≡ count_of e) where
  abbrev slot_by : Bool → Bool → Option Tree
  slot_by a b = elim a [ true ↦ option_map (slot f args t) (count_of e) | false ↦ elim b [ true ↦ option_map (slots_from args t) (count_of e) | false ↦ None ] ]

  pub one_slot : is_the (codes "Slot") h ≡ true → option_map (slot f args t) o ≡ slot_of f args t h (e ∷ [])
  one_slot p = ap (option_map (slot f args t)) c ∙ sym (ap (λ a. slot_by a (is_the (codes "SlotSequence") h)) p)

  pub slots_on : is_the (codes "Slot") h ≡ false → is_the (codes "SlotSequence") h ≡ true → option_map (slots_from args t) o ≡ slot_of f args t h (e ∷ [])
  slots_on p q = ap (option_map (slots_from args t)) c ∙ sym (ap₂ slot_by p q)

module _ (f t : Tree) (args : List Tree) where
  abbrev counted_by : Option ℕ → Bool → Bool → Option Tree
  counted_by o a b = elim a [ true ↦ option_map (slot f args t) o | false ↦ elim b [ true ↦ option_map (slots_from args t) o | false ↦ None ] ]

  none_counted : (a b : Bool) → None ≡ counted_by None a b
  none_counted true b = refl
  none_counted false true = refl
  none_counted false false = refl

  pub no_count : (h e : Tree) → None ≡ count_of e → None ≡ slot_of f args t h (e ∷ [])
  no_count h e c = none_counted (is_the (codes "Slot") h) (is_the (codes "SlotSequence") h) ∙ ap (λ o. counted_by o (is_the (codes "Slot") h) (is_the (codes "SlotSequence") h)) c

pub neither_slot : (f t h e : Tree) (args : List Tree) → is_the (codes "Slot") h ≡ false → is_the (codes "SlotSequence") h ≡ false → None ≡ slot_of f args t h (e ∷ [])
neither_slot f t h e args p q = sym (ap₂ (slot_by f t h e args (count_of e) refl) p q)

pub not_one : (f t h : Tree) (args ts : List Tree) → (length ts ≡ 1 → ⊥) → None ≡ slot_of f args t h ts
not_one f t h args [] n = refl
not_one f t h args (e ∷ []) n = absurd (n refl)
not_one f t h args (e ∷ d ∷ ts) n = refl

-- what stands for `#n`
pub argument_none : (f t : Tree) (args : List Tree) (n : ℕ) → length args < n → t ≡ slot f args t n
argument_none f t args zero l = absurd (omega (arith, l))
argument_none f t args (suc m) l = sym (ap (λ o. unwrap_or o t) (slice_get_past args m (omega (arith, l))))

pub argument_at : (f t : Tree) (es : List Stamped) (n m : ℕ) (e : Stamped) → n ≡ m + 1 → m < length es → e ≡ get_or es m e → plain e ≡ slot f (trees es) t n
argument_at f t es zero m e q l p = absurd (omega (arith, q))
argument_at f t es (suc j) m e q l p =
    let i : j ≡ m = omega (arith, q) in
    let k : length (trees es) ≡ length es = length-map es plain in
    ap plain p ∙ sym (ap (λ o. unwrap_or o t) (ap (slice_get (trees es)) i ∙ slice_get-get_or (trees es) m (plain e) (omega (arith, l, k))) ∙ get_or-map plain es m e (plain e) l)

-- and for `##n`
pub sequence_none : (ts : List Tree) (t : Tree) (n : ℕ) → n ≡ 0 → t ≡ slots_from ts t n
sequence_none ts t n e = sym (ap (slots_from ts t) e)

pub sequence_past : (ts : List Tree) (t : Tree) (n : ℕ) → length ts + 1 < n → t ≡ slots_from ts t n
sequence_past ts t zero l = absurd (omega (arith, l))
sequence_past ts t (suc m) l = sym (ap (λ (b : Bool). elim b [ true ↦ sequence_of (drop m ts) | false ↦ t ]) (lt-leb m (length ts) (omega (arith, l))))

pub sequence_from : (es : List Stamped) (t : Tree) (n m : ℕ) → n ≡ m + 1 → m ≤ length es → sequence_of (trees (drop m es)) ≡ slots_from (trees es) t n
sequence_from es t zero m q l = absurd (omega (arith, q))
sequence_from es t (suc j) m q l =
    let i : j ≡ m = omega (arith, q) in
    let k : length (trees es) ≡ length es = length-map es plain in
    ap sequence_of (sym (drop-map plain m es)) ∙ ap (λ x. sequence_of (drop x (trees es))) (sym i) ∙ sym (ap (λ (b : Bool). elim b [ true ↦ sequence_of (drop j (trees es)) | false ↦ t ]) (le-leb j (length (trees es)) (omega (arith, l, k, i))))

pub sequence_tree : (es ds : List Stamped) (t : Tree) (n m : ℕ) (h : Stamped) → h ≡ stamped.symbol None (codes "Sequence") → ds ≡ drop m es → n ≡ m + 1 → m ≤ length es → node (plain h) (plains (from_list ds)) ≡ slots_from (trees es) t n
sequence_tree es ds t n m h p q e l =
    ap₂ node (ap plain p) (ap (λ us. plains (from_list us)) q) ∙ ap (node (symbol (codes "Sequence"))) (plains_from_list (drop m es))
    ∙ sequence_from es t n m e l

-- ---- elements, of which some are new

pub new_or_push : (xs : List Stamped) (x : Stamped) (es : List Stamped) → new_or (xs ++ x ∷ []) es ≡ xs ++ x ∷ []
new_or_push [] x es = refl
new_or_push (y ∷ ys) x es = refl

pub new_or_some : (xs es : List Stamped) → (length xs ≡ 0 → ⊥) → new_or xs es ≡ xs
new_or_some [] es n = absurd (n refl)
new_or_some (x ∷ xs) es n = refl

pub new_or_none : (xs es : List Stamped) → length xs ≡ 0 → new_or xs es ≡ es
new_or_none [] es n = refl
new_or_none (x ∷ xs) es n = absurd (omega arith)

pub plain_or : (o : Option Stamped) (e : Stamped) → plain (unwrap_or o e) ≡ unwrap_or (option_map plain o) (plain e)
plain_or None e = refl
plain_or (Some n) e = refl

-- one more
pub put_more : (g : Tree → Tree) (es all after : List Stamped) (k : ℕ) (e : Stamped) (o : Option Stamped) → k < length es → e ≡ get_or es k e → unwrap_or (option_map plain o) (plain e) ≡ g (plain e)
    → new_or after (take k es ++ e ∷ []) ≡ new_or all (take k es) ++ unwrap_or o e ∷ [] → trees (new_or all (take k es)) ≡ map g (trees (take k es)) → trees (new_or after (take (k + 1) es)) ≡ map g (trees (take (k + 1) es))
put_more g es all after k e o l p m a v =
    let t : take (k + 1) es ≡ take k es ++ e ∷ [] = ap (λ n. take n es) (add-one k) ∙ take-suc es k e l ∙ ap (λ y. take k es ++ y ∷ []) (sym p) in
    let w : map g (trees (take k es ++ e ∷ [])) ≡ map g (trees (take k es)) ++ g (plain e) ∷ [] = ap (map g) (map-append plain (take k es) (e ∷ [])) ∙ map-append g (trees (take k es)) (plain e ∷ []) in
    ap (λ us. trees (new_or after us)) t ∙ ap trees a ∙ map-append plain (new_or all (take k es)) (unwrap_or o e ∷ []) ∙ ap₂ (λ us y. us ++ y ∷ []) v (plain_or o e ∙ m) ∙ sym (ap (λ us. map g (trees us)) t ∙ w)

-- each fits where all do
pub each_small : (g : Tree → Tree) (es : List Stamped) (k : ℕ) (e : Stamped) → k < length es → e ≡ get_or es k e → AreSmall (tree.from_list (map g (trees es))) → IsWithinLimits (g (plain e))
each_small g es k e l p s =
    let n : length (map g (trees es)) ≡ length es = length-map (trees es) g ∙ length-map es plain in
    let m : length (trees es) ≡ length es = length-map es plain in
    let q : get_or (map g (trees es)) k (g (plain e)) ≡ g (plain e) = get_or-map g (trees es) k (plain e) (g (plain e)) (omega (arith, l, m)) ∙ ap g (get_or-map plain es k e (plain e) l ∙ ap plain (sym p)) in
    subst IsWithinLimits q (small_at (map g (trees es)) k (g (plain e)) (omega (arith, l, n)) s)

pub put_from : (ms es all after : List Stamped) (k : ℕ) (e : Stamped) (o : Option Stamped) → k < length es → e ≡ get_or es k e → new_or after (take k es ++ e ∷ []) ≡ new_or all (take k es) ++ unwrap_or o e ∷ []
    → AllFrom ms es → AllFrom ms (new_or all (take k es)) → (IsFrom ms e → IfSome o (IsFrom ms)) → AllFrom ms (new_or after (take (k + 1) es))
put_from ms es all after k e o l p a h f g =
    let t : take (k + 1) es ≡ take k es ++ e ∷ [] = ap (λ n. take n es) (add-one k) ∙ take-suc es k e l ∙ ap (λ y. take k es ++ y ∷ []) (sym p) in
    let w : IsFrom ms e = subst (IsFrom ms) (sym p) (h k e l) in
    subst (λ us. AllFrom ms (new_or after us)) (sym t) (subst (AllFrom ms) (sym a) (All-push (IsFrom ms) (new_or all (take k es)) (unwrap_or o e) f (from_either o w (g w))))
  where
    from_either : (u : Option Stamped) → IsFrom ms e → IfSome u (IsFrom ms) → IsFrom ms (unwrap_or u e)
    from_either None x y = x
    from_either (Some n) x y = y

-- ---- faults on the way

fault_is : {X Y : Type 0} (d : ExprFault) (before : Result X ExprFault) (r : Result Y ExprFault) → before ≡ Err d → IsErrAnd r (λ y. y ≡ d) → r ≡ Err fault.Large → before ≡ Err fault.Large
fault_is {X} {Y} d before r b h l =
    let p = err_from_is_err_and r h in
    let w : ◌≡◌ {A = Result Y ExprFault} (Err d) (Err fault.Large) = sym (p.1 ∙ ap Err p.2) ∙ l in
    let z : d ≡ fault.Large = cc in
    b ∙ ap Err z

pub fault_renewed : {X : Type 0} (t u : Tree) (d : ExprFault) (before : Result X ExprFault) (r : Result (Option Stamped) ExprFault) → before ≡ Err d → IsErrAnd r (λ y. y ≡ d) → (before ≡ Err fault.Large → ¬ IsWithinLimits u) → IsRenewed t u r
fault_renewed t u d before r b h large =
    let p = err_from_is_err_and r h in
    record { tree = subst (λ q. IfOk q (λ o. unwrap_or (option_map plain o) t ≡ u)) (sym (p.1 ∙ ap Err p.2)) tt; large = λ l. large (fault_is d before r b h l) }

pub fault_given : {X : Type 0} (o : Option Tree) (d : ExprFault) (before : Result X ExprFault) (r : Result (Option Stamped) ExprFault) → before ≡ Err d → IsErrAnd r (λ y. y ≡ d) → (before ≡ Err fault.Large → DoesNotFit o) → IsGiven o r
fault_given o d before r b h large =
    let p = err_from_is_err_and r h in
    record { tree = subst (λ q. IfOk q (λ v. option_map plain v ≡ o)) (sym (p.1 ∙ ap Err p.2)) tt; large = λ l. large (fault_is d before r b h l) }

pub fault_large : {X Y : Type 0} (d : ExprFault) (before : Result X ExprFault) (r : Result Y ExprFault) → before ≡ Err d → IsErrAnd r (λ y. y ≡ d) → r ≡ Err fault.Large → before ≡ Err fault.Large
fault_large d before r b h l = fault_is d before r b h l

-- ---- a node of the body

pub leaf_stays : (f e : Tree) (args : List Tree) → ((h : Tree) (ts : Trees) → e ≡ node h ts → ⊥) → e ≡ with_slots f args e
leaf_stays f (num n) args g = refl
leaf_stays f (text s) args g = refl
leaf_stays f (symbol x) args g = refl
leaf_stays f (node h ts) args g = absurd (g h ts refl)

module _ (f : Tree) (args : List Tree) (h : Tree) (es : List Stamped) (e : Tree) (q : node h (plains (from_list es)) ≡ e) where
  inner_by : (b : Bool) → is_inner h (trees es) ≡ b → is_inner h (to_list (plains (from_list es))) ≡ b
  inner_by b i = ap (is_inner h) (list_of_plains es) ∙ i

  pub inner_case : is_inner h (trees es) ≡ true → e ≡ with_slots f args e
  inner_case i = sym (ap (with_slots f args) (sym q) ∙ inner_stays f args h (plains (from_list es)) (inner_by true i) ∙ q)

  slot_at : (o : Option Tree) → o ≡ slot_of f args e h (trees es) → slot_of f args (node h (plains (from_list es))) h (to_list (plains (from_list es))) ≡ o
  slot_at o s = ap (λ z. slot_of f args z h (to_list (plains (from_list es)))) q ∙ ap (slot_of f args e h) (list_of_plains es) ∙ sym s

  pub slot_case : (v : Tree) → is_inner h (trees es) ≡ false → Some v ≡ slot_of f args e h (trees es) → v ≡ with_slots f args e
  slot_case v i s = sym (ap (with_slots f args) (sym q) ∙ slot_stands f args h (plains (from_list es)) v (inner_by false i) (slot_at (Some v) s))

  pub node_case : is_inner h (trees es) ≡ false → None ≡ slot_of f args e h (trees es) → with_slots f args e ≡ node (with_slots f args h) (tree.from_list (map (with_slots f args) (trees es)))
  node_case i s =
      ap (with_slots f args) (sym q) ∙ no_slot f args h (plains (from_list es)) (inner_by false i) (slot_at None s)
      ∙ ap (node (with_slots f args h)) (slots_in_each f args es)

pub rebuilt_case : (f : Tree) (args : List Tree) (h : Stamped) (es : List Stamped) (e : Tree) (new : Option Stamped) (ns : List Stamped) (r : Result (Option Stamped) ExprFault) → node (plain h) (plains (from_list es)) ≡ e
    → with_slots f args e ≡ node (with_slots f args (plain h)) (tree.from_list (map (with_slots f args) (trees es))) → unwrap_or (option_map plain new) (plain h) ≡ with_slots f args (plain h) → trees (new_or ns es) ≡ map (with_slots f args) (trees es)
    → IsRenewed (applied (plain h) (trees es)) (applied (plain (unwrap_or new h)) (trees (new_or ns es))) r → IsRenewed e (with_slots f args e) r
rebuilt_case f args h es e new ns r q w p m x =
    let a : applied (plain h) (trees es) ≡ e = ap (node (plain h)) (sym (plains_from_list es)) ∙ q in
    let b : applied (plain (unwrap_or new h)) (trees (new_or ns es)) ≡ with_slots f args e = ap₂ (λ y us. node y (tree.from_list us)) (plain_or new h ∙ p) m ∙ sym w in
    subst (λ z. IsRenewed z (with_slots f args e) r) a (subst (λ y. IsRenewed (applied (plain h) (trees es)) y r) b x)

-- a node that is built
pub node_renewed : (t h : Tree) (es : List Stamped) (e : Stamped) → plain e ≡ node h (plains (from_list es)) → IsRenewed t (applied h (trees es)) (Ok (Some e))
node_renewed t h es e q = record { tree = q ∙ ap (node h) (plains_from_list es); large = λ l. cc }

pub node_too_large : (t h : Tree) (es : List Stamped) (d : ExprFault) (made : Result Stamped ExprFault) (r : Result (Option Stamped) ExprFault) → made ≡ Err d → IsErrAnd r (λ y. y ≡ d) → (made ≡ Err fault.Large → ¬ IsWithinLimits (node h (plains (from_list es)))) → IsRenewed t (applied h (trees es)) r
node_too_large t h es d made r b w l = fault_renewed t (applied h (trees es)) d made r b w (λ q f. l q (subst IsWithinLimits (ap (node h) (sym (plains_from_list es))) f))

-- ---- the row

-- what can't be given
pub given_fault : (o : Option Tree) (k k' : Evaluator) (r : Result (Option Stamped) ExprFault) (f : ExprFault) (e : Stop) → r ≡ Err f → IsGiven o r → FaultStops f k e k' → Played found_tree (sized_row (done o)) k (Err e) k'
given_fault o k k' r fault.Memory e q h g = subst (λ z. Played found_tree (sized_row (done o)) k (Err z) k') (sym g) tt
given_fault None k k' r fault.Large e q h g = absurd (h.large q)
given_fault (Some t) k k' r fault.Large e q h g = row_large (done (Some t)) t k k k' e (beyond t (h.large q)) plays_done g

-- what is given
given_is : (o : Option Tree) (r : Result (Option Stamped) ExprFault) (v : Option Stamped) → r ≡ Ok v → IsGiven o r → option_map plain v ≡ o
given_is o r v q h = subst (λ z. IfOk z (λ w. option_map plain w ≡ o)) q h.tree

pub given_none : (o : Option Tree) (k : Evaluator) (r : Result (Option Stamped) ExprFault) → r ≡ Ok None → IsGiven o r → Played found_tree (sized_row (done o)) k (Ok None) k
given_none o k r q h = row_stays (done o) k (ap done (sym (given_is o r None q h)))

pub given_some : (o : Option Tree) (k : Evaluator) (r : Result (Option Stamped) ExprFault) (e : Stamped) → r ≡ Ok (Some e) → IsGiven o r → IsWithinLimits (plain e) → Honest k e → Played found_tree (sized_row (done o)) k (Ok (Some e)) k
given_some o k r e q h w g = row_gives (done o) k k e (plays_done_is (sym (given_is o r (Some e) q h))) ((fits_decides (plain e)).1 w) g

pub given_honest : (k : Evaluator) (f : Stamped) (args : List Stamped) (r : Result (Option Stamped) ExprFault) (e : Stamped) → r ≡ Ok (Some e) → ((ms : List Stamped) → IsFrom ms f → AllFrom ms args → IfOk r (λ o. IfSome o (IsFrom ms)))
    → Honest k f → AllHonest k args → Honest k e
given_honest k f args r e q p g h =
    from_honest k (f ∷ args) (All-cons (Honest k) f args g h) e
    (λ ms a. subst (λ z. IfOk z (λ o. IfSome o (IsFrom ms))) q (p ms (All-head (IsFrom ms) f args a) (All-tail (IsFrom ms) f args a)))

-- a form whose head is no symbol
pub built_in-function : (h : Tree) (ts : List Tree) (t : Tree) → node h (tree.from_list ts) ≡ t → ((x : Name) → h ≡ symbol x → ⊥) → built_in t ≡ sized_row (done (function_applied h ts))
built_in-function (num n) ts t q f = ap built_in (sym q) ∙ ap (λ us. sized_row (done (function_applied (num n) us))) (tree.to_list_from_list ts)
built_in-function (text s) ts t q f = ap built_in (sym q) ∙ ap (λ us. sized_row (done (function_applied (text s) us))) (tree.to_list_from_list ts)
built_in-function (symbol x) ts t q f = absurd (f x refl)
built_in-function (node g vs) ts t q f = ap built_in (sym q) ∙ ap (λ us. sized_row (done (function_applied (node g vs) us))) (tree.to_list_from_list ts)

-- ---- the parts of a Function

pub no_function : (t : Tree) (args : List Tree) → ((h : Tree) (ts : Trees) → t ≡ node h ts → ⊥) → None ≡ function_applied t args
no_function (num n) args g = refl
no_function (text s) args g = refl
no_function (symbol x) args g = refl
no_function (node h ts) args g = absurd (g h ts refl)

module _ (t h : Tree) (es : List Stamped) (args : List Tree) (q : node h (plains (from_list es)) ≡ t) where
  abbrev applied_if : Bool → Option Tree
  applied_if b = elim b [ true ↦ function_by t (elements t) args | false ↦ None ]

  pub other_form : is_the (codes "Function") h ≡ false → None ≡ function_applied t args
  other_form i = sym (ap applied_if (ap (is_form (codes "Function")) (sym q) ∙ i))

  by_parts : is_the (codes "Function") h ≡ true → function_applied t args ≡ function_by t (trees es) args
  by_parts i =
      ap applied_if (ap (is_form (codes "Function")) (sym q) ∙ i)
      ∙ ap (λ us. function_by t us args) (ap elements (sym q) ∙ list_of_plains es)

  pub one_part : (b : Stamped) → is_the (codes "Function") h ≡ true → es ≡ b ∷ [] → Some (with_slots t args (plain b)) ≡ function_applied t args
  one_part b i p = sym (by_parts i ∙ ap (λ us. function_by t (trees us) args) p)

  pub two_parts : (x b : Stamped) → is_the (codes "Function") h ≡ true → es ≡ x ∷ b ∷ [] → with_names (plain b) (function_names (plain x)) args ≡ function_applied t args
  two_parts x b i p = sym (by_parts i ∙ ap (λ us. function_by t (trees us) args) p)

  pub other_parts : is_the (codes "Function") h ≡ true → (length es ≡ 1 → ⊥) → (length es ≡ 2 → ⊥) → None ≡ function_applied t args
  other_parts i n m = sym (by_parts i ∙ none_by es n m)
    where
      none_by : (us : List Stamped) → (length us ≡ 1 → ⊥) → (length us ≡ 2 → ⊥) → function_by t (trees us) args ≡ None
      none_by [] n m = refl
      none_by (a ∷ []) n m = absurd (n refl)
      none_by (a ∷ b ∷ []) n m = absurd (m refl)
      none_by (a ∷ b ∷ d ∷ us) n m = refl

-- the body, where no slot is replaced in it
pub body_given : (b : Stamped) (o : Option Stamped) (e : Stamped) (u : Tree) (v : Option Tree) → unwrap_or (option_map plain o) (plain b) ≡ u → Some u ≡ v → e ≡ unwrap_or o b → Some (plain e) ≡ v
body_given b o e u v p q r = ap (λ x. Some (plain x)) r ∙ ap Some (plain_or o b ∙ p) ∙ q
