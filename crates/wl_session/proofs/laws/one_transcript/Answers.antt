use Rattle.std.proofs.Common.{◌≡◌, ◌≢◌, ℕ, List, [], ◌∷◌, refl, ap, sym, ◌∙◌}
use Rattle.wl_scan.specs.Cells.{CellText, whole, too_long}
use Rattle.wl_expr.specs.Tree.{Tree}
use Rattle.wl_syntax.specs.Laws.{OneTree, NotRefused, OneCause, OneAnswer}
use Rattle.wl_syntax.specs.Lower.{lower}
use Rattle.wl_syntax.specs.Reads.{IsReadAs}
use Rattle.wl_syntax.specs.Reads.{Refused}
use Rattle.wl_syntax.specs.declared.fault.SyntaxFault.{SyntaxFault}
use Rattle.wl_syntax.specs.declared.fault.SyntaxFault.TheVariants.{Memory}
use Rattle.wl_session.specs.Reading.{Reading, refused, read, IsReading, AllRead}
use Rattle.wl_session.specs.declared.fault.LineFault.TheVariants.{TooLong, Syntax}
use Rattle.wl_session.specs.Transcript.{cells_read, transcript}
use Rattle.wl_session.proofs.laws.one_transcript.Goals as goal

trees_same : (bytes : List ℕ) (e f : Tree) → OneTree → IsReadAs bytes e → IsReadAs bytes f → e ≡ f
trees_same bytes e f law a b = a.lowered ∙ ap lower (law bytes a.tree b.tree a.right b.right) ∙ sym b.lowered

not_both : (bytes : List ℕ) (e : Tree) (f : SyntaxFault) → NotRefused → IsReadAs bytes e → (f ≢ Memory) × Refused bytes f → ⊥
not_both bytes e f law a b = b.0 (law bytes a.tree a.right a.shallow f b.1)

read_once : (c : CellText) (r q : Reading) → OneAnswer → IsReading c r → IsReading c q → r ≡ q
read_once (whole bytes) (read e) (read f) law a b = ap (λ t. read t) (trees_same bytes e f law.0 a b)
read_once (whole bytes) (read e) (refused (Syntax f)) law a b = absurd (not_both bytes e f law.1 a b)
read_once (whole bytes) (read e) (refused TooLong) law a b = absurd b
read_once (whole bytes) (refused (Syntax f)) (read e) law a b = absurd (not_both bytes e f law.1 b a)
read_once (whole bytes) (refused TooLong) (read e) law a b = absurd a
read_once (whole bytes) (refused (Syntax f)) (refused (Syntax g)) law a b = ap (λ h. refused (Syntax h)) (law.2 bytes f g a.1 b.1 a.0 b.0)
read_once (whole bytes) (refused (Syntax f)) (refused TooLong) law a b = absurd b
read_once (whole bytes) (refused TooLong) (refused q) law a b = absurd a
read_once too_long r q law a b = a ∙ sym b

all_read_once : (cs : List CellText) (rs qs : List Reading) → OneAnswer → AllRead cs rs → AllRead cs qs → rs ≡ qs
all_read_once [] [] [] law a b = refl
all_read_once [] [] (q ∷ qs) law a b = absurd b
all_read_once [] (r ∷ rs) qs law a b = absurd a
all_read_once (c ∷ cs) [] qs law a b = absurd a
all_read_once (c ∷ cs) (r ∷ rs) [] law a b = absurd b
all_read_once (c ∷ cs) (r ∷ rs) (q ∷ qs) law a b = λ i. read_once c r q law a.0 b.0 i ∷ all_read_once cs rs qs law a.1 b.1 i

pub returns : goal.returns
returns c = λ asked bytes rs qs a b. ap (transcript asked bytes) (all_read_once (cells_read asked bytes) rs qs c.one_answer.ensures a b)
