-- Rules that are read in an expression.
use Rattle.std.proofs.Common.{◌≡◌, ℕ, ◌+◌, ◌<◌, Bool, true, false, List, [], ◌∷◌, ◌++◌, length, map, drop, get_or, Option, Some, None, refl, sym, ap, ◌∙◌, append_assoc}
use Rattle.std.specs.Prelude.{codes}
use Rattle.wl_expr.specs.Stamped as stamped
use Rattle.wl_expr.specs.Stamped.{Stamped, plain, plains}
use Rattle.wl_expr.specs.Tree.{Tree, num, text, symbol, node, none, more}
use Rattle.wl_expr.specs.Words.{elements, is_list, is_the}
use Rattle.wl_rules.specs.Entries.{PlainRule}
use Rattle.wl_semantics.specs.LeftSides.{moved_condition}
use Rattle.wl_semantics.specs.MatchRows.{delayed_rule, rule_from, rule_of, rules_in, rules_of, with_rule}
use Rattle.wl_state.specs.Replacing.{is_rule_head, pair}
use Rattle.wl_state.proofs.Bindings.{drop_item}
use Rattle.wl_state.proofs.MatchRowParts.{pair_is}
use Rattle.wl_state.proofs.Values.{list_of_plains}

-- ---- a rule

abbrev pub rule_on : Bool → Tree → Tree → Option PlainRule
rule_on true l r = Some (rule_from (moved_condition l r))
rule_on false l r = None

-- a rule whose head is as asked
abbrev pub rule_with : (Tree → Bool) → Tree → Option PlainRule
rule_with b (node h (more l (more r none))) = rule_on (b h) l r
rule_with b t = None

on_is : (b : Bool) (l r : Tree) → elim b [ true ↦ Some (rule_from (moved_condition l r)) | false ↦ None ] ≡ rule_on b l r
on_is true l r = refl
on_is false l r = refl

pub rule_is : (t : Tree) → rule_of t ≡ rule_with is_rule_head t
rule_is (num n) = refl
rule_is (text s) = refl
rule_is (symbol x) = refl
rule_is (node h none) = refl
rule_is (node h (more l none)) = refl
rule_is (node h (more l (more r none))) = on_is (is_rule_head h) l r
rule_is (node h (more l (more r (more u us)))) = refl

pub delayed_is : (t : Tree) → delayed_rule t ≡ rule_with (is_the (codes "RuleDelayed")) t
delayed_is (num n) = refl
delayed_is (text s) = refl
delayed_is (symbol x) = refl
delayed_is (node h none) = refl
delayed_is (node h (more l none)) = refl
delayed_is (node h (more l (more r none))) = on_is (is_the (codes "RuleDelayed") h) l r
delayed_is (node h (more l (more r (more u us)))) = refl

pub rule_pair : (b : Tree → Bool) (t h : Tree) (es : List Stamped) (l r : Stamped) → node h (plains (stamped.from_list es)) ≡ t → Some (l, r) ≡ pair es → rule_with b t ≡ rule_on (b h) (plain l) (plain r)
rule_pair b t h es l r q n = ap (rule_with b) (sym q) ∙ ap (λ us. rule_with b (node h (plains (stamped.from_list us)))) (pair_is es l r n)

-- ---- rules

-- these before those
abbrev pub with_rules : List PlainRule → Option (List PlainRule) → Option (List PlainRule)
with_rules rs None = None
with_rules rs (Some qs) = Some (rs ++ qs)

with_one : (rs : List PlainRule) (r : PlainRule) (o : Option (List PlainRule)) → with_rules rs (with_rule (Some r) o) ≡ with_rules (rs ++ r ∷ []) o
with_one rs r None = refl
with_one rs r (Some qs) = ap Some (sym (append_assoc rs (r ∷ []) qs))

pub rules_next : (rs : List PlainRule) (r : PlainRule) (xs : List Stamped) (i : ℕ) (x : Stamped) → i < length xs → x ≡ get_or xs i x → Some r ≡ rule_of (plain x)
    → with_rules rs (rules_of (map plain (drop i xs))) ≡ with_rules (rs ++ r ∷ []) (rules_of (map plain (drop (i + 1) xs)))
rules_next rs r xs i x h e q =
    let ts = map plain (drop (i + 1) xs) in
    ap (λ z. with_rules rs (rules_of (map plain z))) (drop_item xs i x h e) ∙ ap (λ z. with_rules rs (with_rule z (rules_of ts))) (sym q) ∙ with_one rs r (rules_of ts)

-- ---- a list of rules

list_by : (t : Tree) (b : Bool) → is_list t ≡ b → rules_in t ≡ elim b [ true ↦ rules_of (elements t) | false ↦ rules_of (t ∷ []) ]
list_by t b e = ap (λ z. elim z [ true ↦ rules_of (elements t) | false ↦ rules_of (t ∷ []) ]) e

pub of_list : (t h : Tree) (es : List Stamped) → node h (plains (stamped.from_list es)) ≡ t → is_the (codes "List") h ≡ true → rules_in t ≡ rules_of (map plain es)
of_list t h es q n = list_by t true (ap is_list (sym q) ∙ n) ∙ ap (λ z. rules_of (elements z)) (sym q) ∙ ap rules_of (list_of_plains es)
