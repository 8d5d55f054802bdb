use Rattle.std.proofs.Common.{◌≢◌, length, rules}
use Rattle.wl_match.specs.Parts.{count_of}
use Rattle.wl_match.proofs.FormsLemmas.{blank_other}
use Rattle.wl_match.proofs.forms.blank.Goals as goal

pub returns-in-None-clause-is : goal.returns-in-None-clause-is
returns-in-None-clause-is c f p =
    let some : length c.args.args.now ≢ 0 = search rules in
    blank_other (count_of c.args.number) c.args.args.now p some c.in-None.ensures
