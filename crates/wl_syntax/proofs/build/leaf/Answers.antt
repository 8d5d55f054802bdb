use Rattle.wl_syntax.proofs.SmallTrees.{leaf_form, leaf_fits}
use Rattle.wl_syntax.proofs.build.leaf.Goals as goal

pub atom_expr-requires-clause-form : goal.atom_expr-requires-clause-form
atom_expr-requires-clause-form c = leaf_form _ c.requires

pub atom_expr-requires-clause-fits : goal.atom_expr-requires-clause-fits
atom_expr-requires-clause-fits c = leaf_fits _ c.requires
