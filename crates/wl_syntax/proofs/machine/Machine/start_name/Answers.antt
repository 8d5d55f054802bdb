use Rattle.std.proofs.Common.{ap}
use Rattle.wl_syntax.specs.Polish.{token_of}
use Rattle.wl_syntax.proofs.Steps.{name_starts, name_dead, name_name, name_text, name_not, atom_not, not_atom}
use Rattle.wl_syntax.proofs.machine.Machine.start_name.Goals as goal

pub returns-in_default : goal.returns-in_default
returns-in_default c = name_dead _ _ _ _ _ _ c.requires (name_not _ (not_atom _ c.in_default.not-Atom))

pub returns-in_ok-put_leaf-in-Name : goal.returns-in_ok-put_leaf-in-Name
returns-in_ok-put_leaf-in-Name c = name_starts _ _ _ _ _ _ _ _ c.requires (ap token_of c.in-Atom.is) (λ s. rw c.in-Name.is (name_name _ s)) c.in_ok-put_leaf-in-Name.ensures

pub returns-in_ok-put_leaf-in-Text : goal.returns-in_ok-put_leaf-in-Text
returns-in_ok-put_leaf-in-Text c = name_starts _ _ _ _ _ _ _ _ c.requires (ap token_of c.in-Atom.is) (λ s. rw c.in-Text.is (name_text _ s)) c.in_ok-put_leaf-in-Text.ensures

pub returns-in_default-atom : goal.returns-in_default-atom
returns-in_default-atom c = name_dead _ _ _ _ _ _ c.requires (λ s. rw c.in-Atom.is (atom_not _ c.in_default-atom.not-Name c.in_default-atom.not-Text s))
