-- What is printed is read again.
use Rattle.std.specs.Prelude.{true, ◌≡◌, ◌≤◌}
use Rattle.wl_expr.specs.Tree as full
use Rattle.wl_expr.specs.Proper.{IsProper}
use Rattle.wl_form.specs.Table.{shown}
use Rattle.wl_form.specs.Texts.{input_text, spelled, is_clean}
use Rattle.wl_syntax.specs.declared.fault.SyntaxFault.{SyntaxFault}
use Rattle.wl_syntax.specs.declared.fault.SyntaxFault.TheVariants.{Memory}
use Rattle.wl_syntax.specs.Depth.{depth, max_depth}
use Rattle.wl_syntax.specs.Reads.{HasTree, IsReadAs, Refused}
use Rattle.wl_syntax.specs.Tree.{Tree, Right}
use Rattle.wl_reading_back.specs.Written.{written}

-- an expression that is printed so that it can be read again
pub record IsPrintable (t : full.Tree) : Type 0 where
  pub proper : IsProper t
  pub clean : is_clean t ≡ true

-- what is printed of an expression is a right tree
abbrev pub PrintedIsRight : Type 0
PrintedIsRight = (t : full.Tree) → IsPrintable t → Right (written (shown t))

-- The text has a right tree.
abbrev pub HasOneTree : Type 0
HasOneTree = (t : full.Tree) → IsPrintable t → HasTree (input_text t) (written (shown t))

-- Where the right tree of the text isn't too deep, the text is read as the expression, its fractions spelled out.
abbrev pub ReadsAgain : Type 0
ReadsAgain = (t : full.Tree) → IsPrintable t → (u : Tree) → HasTree (input_text t) u → depth u ≤ max_depth → IsReadAs (input_text t) (spelled t)

-- What `parse` may answer on the text: that expression, or a refusal, which is want of memory unless the right tree is too deep.
abbrev pub ParsesBack : Type 0
ParsesBack = (t : full.Tree) → IsPrintable t → ((e : full.Tree) → IsReadAs (input_text t) e → e ≡ spelled t) × ((fault : SyntaxFault) → Refused (input_text t) fault → depth (written (shown t)) ≤ max_depth → fault ≡ Memory)
