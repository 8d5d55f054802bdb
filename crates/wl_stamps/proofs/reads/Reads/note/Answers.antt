use Rattle.std.proofs.Common.{◌∷◌, [], ◌++◌, nat_eq, sym, ap, ◌∙◌}
use Rattle.indexmap.proofs.CallerLemmas.{insert_entry-new}
use Rattle.wl_stamps.specs.Reads.{version_of}
use Rattle.wl_stamps.proofs.Noting.{noted_last}
use Rattle.wl_stamps.proofs.reads.Reads.note.Goals as goal

pub returns-clause-ok : goal.returns-clause-ok
returns-clause-ok c =
    let none = sym c.in_default.ensures in
    c.in_ok-insert.ensures.entries
    ∙ insert_entry-new nat_eq c.self.inside.versions c.args.index c.args.version (ap (version_of c.args.index) c.self.view_is ∙ none)
    ∙ ap (λ xs. xs ++ (c.args.index, c.args.version) ∷ []) c.self.view_is ∙ sym (noted_last c.args.self.now (c.args.index, c.args.version) none)
