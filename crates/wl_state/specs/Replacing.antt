-- What the functions of matching rows and of replacement say: rules that are read in an expression, and trees of which only a size is known that doesn't fit.
use Rattle.std.specs.Prelude.{Vec, ⊤, ◌≡◌, Bool, true, false, not, ◌||◌, List, [], ◌∷◌, ◌++◌, Option, Some, None, option_map, Result, Ok, Err, codes}
use Rattle.std.specs.List.{All}
use Rattle.std.proofs.Common.{Global}
use Rattle.wl_expr.specs.Passed.{IsFrom}
use Rattle.wl_expr.specs.Stamped as stamped
use Rattle.wl_expr.specs.Stamped.{Stamped, plain}
use Rattle.wl_expr.specs.Tree.{Tree, IsWithinLimits}
use Rattle.wl_expr.specs.Words.{applied, fits, is_the}
use Rattle.wl_expr.specs.declared.fault.ExprFault.{ExprFault}
use Rattle.wl_expr.specs.declared.fault.ExprFault.TheVariants as fault
use Rattle.wl_rules.specs.Entries.{PlainRule}
use Rattle.wl_rules.specs.declared.rule.Rule.{Rule}
use Rattle.wl_semantics.specs.Prog.{Prog, done, ◌>>=◌}
use Rattle.wl_semantics.specs.MatchRows as rows
use Rattle.wl_state.specs.Played.{Seen, AllHonest, Honest, HonestMaybe, trees}
use Rattle.wl_state.specs.declared.evaluator.Evaluator.{Evaluator}
use Rattle.wl_state.specs.declared.replace_rows.Replaced.{Replaced}
use Rattle.wl_state.specs.declared.replace_rows.Replaced.TheVariants as replaced
use Rattle.wl_state.specs.declared.replace_rows.ReplacedEach.{ReplacedEach}
use Rattle.wl_state.specs.declared.replace_rows.ReplacedEach.TheVariants as each

-- ---- rules that are read

-- the left side under a condition
abbrev pub conditioned : Stamped → Stamped → Stamped
conditioned l c = stamped.node None (stamped.symbol None (codes "Condition")) (stamped.from_list (l ∷ c ∷ []))

-- whether a node of two elements with this head is a rule
abbrev pub is_rule_head : Tree → Bool
is_rule_head h = is_the (codes "Rule") h || is_the (codes "RuleDelayed") h

-- each stamped part of both sides is one of these
abbrev pub IsRuleFrom : List Stamped → Rule → Type 0
IsRuleFrom ms r = IsFrom ms r.left × IsFrom ms r.body

abbrev pub MaybeRuleFrom : List Stamped → Option Rule → Type 0
MaybeRuleFrom ms None = ⊤
MaybeRuleFrom ms (Some r) = IsRuleFrom ms r

abbrev pub MaybeRulesFrom : List Stamped → Option (Vec Rule Global) → Type 0
MaybeRulesFrom ms None = ⊤
MaybeRulesFrom ms (Some v) = All (IsRuleFrom ms) v.items

-- ---- elements that are found

-- the two of a row
abbrev pub pair : List Stamped → Option (Stamped × Stamped)
pair (a ∷ b ∷ []) = Some (a, b)
pair es = None

abbrev pub found_trees : Seen (Vec Stamped Global) (List Tree)
found_trees = record { view = λ v. trees v.items; good = λ k v. AllHonest k v.items }

-- whether an element that matches, or doesn't, is one that is wanted
abbrev pub agrees : Bool → Bool → Bool
agrees true b = b
agrees false b = not b

-- the elements that match, or those that don't, behind those that are found
abbrev pub sifted : Bool → List Tree → Tree → List Tree → Prog (List Tree)
sifted true = rows.matching
sifted false = rows.unmatched

-- True or False
abbrev pub truth_symbol : Bool → Stamped
truth_symbol true = stamped.symbol None (codes "True")
truth_symbol false = stamped.symbol None (codes "False")

-- ---- what replacement makes

-- a tree that fits; of one that doesn't only that is known
abbrev pub fitting : Tree → Option Tree
fitting t = elim (fits t) [ true ↦ Some t | false ↦ None ]

-- a node of what head and elements have become
abbrev pub joined : Option Tree → Option (List Tree) → Option Tree
joined (Some h) (Some ts) = fitting (applied h ts)
joined _ _ = None

-- one element more
abbrev pub pushed : {A : Type 0} → Option (List A) → Option A → Option (List A)
pushed (Some xs) (Some x) = Some (xs ++ x ∷ [])
pushed _ _ = None

-- what a part becomes
unfoldable pub replacing : List PlainRule → Tree → Prog (Option Tree)
replacing rs t = rows.replace_all rs t >>= λ u. done (fitting u)

-- what elements become, behind those that stand before them
unfoldable pub replacing_each : Option (List Tree) → List PlainRule → List Tree → Prog (Option (List Tree))
replacing_each us rs [] = done us
replacing_each us rs (t ∷ ts) = replacing rs t >>= λ u. replacing_each (pushed us u) rs ts

-- what an expression has become
abbrev pub part_of : Stamped → Replaced → Option Stamped
part_of e replaced.Same = Some e
part_of e (replaced.Changed u) = Some u
part_of e replaced.Large = None

-- what these have become
abbrev pub each_of : List Stamped → ReplacedEach → Option (List Stamped)
each_of es each.Same = Some es
each_of es (each.Changed us) = Some us.items
each_of es each.Large = None

abbrev pub AllHonestMaybe : Evaluator → Option (List Stamped) → Type 0
AllHonestMaybe k None = ⊤
AllHonestMaybe k (Some es) = AllHonest k es

abbrev pub seen_replaced : Stamped → Seen Replaced (Option Tree)
seen_replaced e = record { view = λ r. option_map plain (part_of e r); good = λ k r. HonestMaybe k (part_of e r) }

abbrev pub seen_each : List Stamped → Seen ReplacedEach (Option (List Tree))
seen_each es = record { view = λ r. option_map trees (each_of es r); good = λ k r. AllHonestMaybe k (each_of es r) }

-- what was made, if it isn't too large
abbrev pub IsMade : Result Stamped ExprFault → Replaced → Type 0
IsMade (Ok e) r = (r ≡ replaced.Changed e) × IsWithinLimits (plain e)
IsMade (Err fault.Large) r = r ≡ replaced.Large
IsMade (Err fault.Memory) r = ⊥

-- the node is the same, or new, or too large
abbrev pub IsNode : Stamped → List Stamped → Replaced → Type 0
IsNode h es replaced.Same = ⊤
IsNode h es (replaced.Changed u) = (u ≡ stamped.node None h (stamped.from_list es)) × IsWithinLimits (plain u)
IsNode h es replaced.Large = fits (applied (plain h) (trees es)) ≡ false

-- a node of this head and these elements, which have become these
abbrev pub IsRebuilt : Stamped → List Stamped → Option Stamped → Option (List Stamped) → Replaced → Type 0
IsRebuilt h es (Some g) (Some us) r = IsNode g us r × (r ≡ replaced.Same → (g ≡ h) × (us ≡ es))
IsRebuilt h es _ _ r = r ≡ replaced.Large

-- the last of the results, where each is as it was
abbrev pub seen_result : Seen Stamped (Option Tree)
seen_result = record { view = λ e. Some (plain e); good = Honest }
