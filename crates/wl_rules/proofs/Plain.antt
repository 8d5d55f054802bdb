-- What a change of an entry is without stamps.
use Rattle.std.proofs.Common.{◌≡◌, ℕ, Bool, true, false, cond, List, [], ◌∷◌, map, refl, ◌∙◌, ap}
use Rattle.std.specs.Ordering.{is_gt}
use Rattle.wl_expr.specs.Same.{same}
use Rattle.wl_expr.specs.Tree.{Tree}
use Rattle.wl_rules.specs.Entries.{Entry, left_side, map_entry, put_rule, remove_rule, cleared, set_off}
use Rattle.wl_rules.specs.Key.{key_of, key_order}
use Rattle.wl_rules.specs.RuleLists.{has_left, replaced, inserted, insert, removed}
use Rattle.wl_rules.specs.StampedRules.{left_of, plain_rule}
use Rattle.wl_rules.specs.declared.rule.Rule.{Rule}
use Rattle.wl_rules.specs.declared.rule.RuleKind.{RuleKind}
use Rattle.wl_rules.specs.declared.rule.RuleKind.TheVariants.{Own, Down, Up, Sub}

has_left-plain : (l : Tree) (rs : List Rule) → has_left left_of l rs ≡ has_left left_side l (map plain_rule rs)
has_left-plain l [] = refl
has_left-plain l (r ∷ rs) = ap (λ b. cond (same l (left_of r)) true b) (has_left-plain l rs)

replaced-plain : (n : Rule) (rs : List Rule) → map plain_rule (replaced left_of n rs) ≡ replaced left_side (plain_rule n) (map plain_rule rs)
replaced-plain n [] = refl
replaced-plain n (r ∷ rs) =
    elim (same (left_of n) (left_of r)) as (λ b. map plain_rule ((cond b (n ∷ rs) (r ∷ replaced left_of n rs))) ≡ (cond b (plain_rule n ∷ map plain_rule rs) (plain_rule r ∷ replaced left_side (plain_rule n) (map plain_rule rs)))) [
      | true ↦ refl
      | false ↦ ap (λ xs. plain_rule r ∷ xs) (replaced-plain n rs)
    ]

inserted-plain : (n : Rule) (rs : List Rule) → map plain_rule (inserted left_of n rs) ≡ inserted left_side (plain_rule n) (map plain_rule rs)
inserted-plain n [] = refl
inserted-plain n (r ∷ rs) =
    elim (is_gt (key_order (key_of (left_of r)) (key_of (left_of n)))) as (λ b. map plain_rule ((cond b (n ∷ r ∷ rs) (r ∷ inserted left_of n rs))) ≡ (cond b (plain_rule n ∷ plain_rule r ∷ map plain_rule rs) (plain_rule r ∷ inserted left_side (plain_rule n) (map plain_rule rs)))) [
      | true ↦ refl
      | false ↦ ap (λ xs. plain_rule r ∷ xs) (inserted-plain n rs)
    ]

insert-plain : (n : Rule) (rs : List Rule) → map plain_rule (insert left_of n rs) ≡ insert left_side (plain_rule n) (map plain_rule rs)
insert-plain n rs =
    let chosen : map plain_rule (cond (has_left left_of (left_of n) rs) (replaced left_of n rs) (inserted left_of n rs)) ≡ cond (has_left left_of (left_of n) rs) (replaced left_side (plain_rule n) (map plain_rule rs)) (inserted left_side (plain_rule n) (map plain_rule rs)) =
    elim (has_left left_of (left_of n) rs) as (λ b. map plain_rule (cond b (replaced left_of n rs) (inserted left_of n rs)) ≡ cond b (replaced left_side (plain_rule n) (map plain_rule rs)) (inserted left_side (plain_rule n) (map plain_rule rs))) [
      | true ↦ replaced-plain n rs
      | false ↦ inserted-plain n rs
    ] in
    chosen ∙ ap (λ b. cond b (replaced left_side (plain_rule n) (map plain_rule rs)) (inserted left_side (plain_rule n) (map plain_rule rs))) (has_left-plain (left_of n) rs)

removed-plain : (l : Tree) (rs : List Rule) → map plain_rule (removed left_of l rs) ≡ removed left_side l (map plain_rule rs)
removed-plain l [] = refl
removed-plain l (r ∷ rs) =
    elim (same l (left_of r)) as (λ b. map plain_rule ((cond b (rs) (r ∷ removed left_of l rs))) ≡ (cond b (map plain_rule rs) (plain_rule r ∷ removed left_side l (map plain_rule rs)))) [
      | true ↦ refl
      | false ↦ ap (λ xs. plain_rule r ∷ xs) (removed-plain l rs)
    ]

pub put_rule_plain : (k : RuleKind) (n : Rule) (e : Entry Rule) → map_entry plain_rule (put_rule left_of k n e) ≡ put_rule left_side k (plain_rule n) (map_entry plain_rule e)
put_rule_plain Own n e = rw (insert-plain n e.rules.own) refl
put_rule_plain Down n e = rw (insert-plain n e.rules.down) refl
put_rule_plain Up n e = rw (insert-plain n e.rules.up) refl
put_rule_plain Sub n e = rw (insert-plain n e.rules.sub) refl

pub remove_rule_plain : (k : RuleKind) (l : Tree) (e : Entry Rule) → map_entry plain_rule (remove_rule left_of k l e) ≡ remove_rule left_side k l (map_entry plain_rule e)
remove_rule_plain Own l e = rw (removed-plain l e.rules.own) refl
remove_rule_plain Down l e = rw (removed-plain l e.rules.down) refl
remove_rule_plain Up l e = rw (removed-plain l e.rules.up) refl
remove_rule_plain Sub l e = rw (removed-plain l e.rules.sub) refl

pub cleared_plain : (all : Bool) (e : Entry Rule) → map_entry plain_rule (cleared all e) ≡ cleared all (map_entry plain_rule e)
cleared_plain true e = refl
cleared_plain false e = refl

pub set_off_plain : (t : List ℕ) (b : Bool) (e : Entry Rule) → map_entry plain_rule (set_off t b e) ≡ set_off t b (map_entry plain_rule e)
set_off_plain t true e = refl
set_off_plain t false e = refl
