use Rattle.std.proofs.Common.{◌∷◌, [], ◌∙◌, subst}
use Rattle.wl_syntax.specs.Lower.{args_of, tagged_name}
use Rattle.wl_syntax.proofs.Building.{items_one, items_more, args_unstamped, args_none}
use Rattle.wl_expr.specs.Tree.{IsWithinLimits}
use Rattle.wl_syntax.proofs.Heads.{tagged_head}
use Rattle.wl_syntax.specs.Atoms.{named}
use Rattle.wl_syntax.proofs.lower.tag.Goals as goal

pub returns-in_ok-named-in-Node : goal.returns-in_ok-named-in-Node
returns-in_ok-named-in-Node c l r p q =
    rw c.tagged_name.ensures at (c.in_ok-named-in-Node.ensures (l ∷ args_of r) (c.deref.ensures.value ∙ c.in_ok-all-in-Node.ensures ∙ items_more _ _ l (args_of r) p (args_unstamped _ _ _ r (c.in-Node.ensures.all ∙ q))))

pub returns-in_ok-named-in_default : goal.returns-in_ok-named-in_default
returns-in_ok-named-in_default c l r p q =
    rw (args_none c.view.result _ r (λ h ts. c.in_default.not-Node h ts) (c.view.ensures.all ∙ q)) (rw c.tagged_name-in_default.ensures at (c.in_ok-named-in_default.ensures (l ∷ []) (items_one _ l p)))

pub named-requires-clause-fits : goal.named-requires-clause-fits
named-requires-clause-fits c =
    let (l, r, p, q, w) = c.requires in
    (l ∷ args_of r, c.deref.ensures.value ∙ c.in_ok-all-in-Node.ensures ∙ items_more _ _ l (args_of r) p (args_unstamped _ _ _ r (c.in-Node.ensures.all ∙ q)), rw c.tagged_name.ensures w)

pub named-requires-in_default : goal.named-requires-in_default
named-requires-in_default c =
    let (l, r, p, q, w) = c.requires in record {
      head = rw c.tagged_name-in_default.ensures (tagged_head c.args.tagged);
      fits = (l ∷ [], items_one _ l p, rw c.tagged_name-in_default.ensures (subst (λ es. IsWithinLimits (named (tagged_name c.args.tagged) (l ∷ es))) (args_none c.view.result _ r (λ h ts. c.in_default.not-Node h ts) (c.view.ensures.all ∙ q)) w));
    }
