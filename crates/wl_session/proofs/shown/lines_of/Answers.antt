use Rattle.std.proofs.Common.{◌≡◌, ◌++◌, option_map, string_bytes}
use Rattle.wl_session.specs.Line.{lines}
use Rattle.wl_session.specs.Shown.{lines_of}
use Rattle.wl_session.proofs.Lines.{lines_all}
use Rattle.wl_session.proofs.shown.lines_of.Goals as goal

pub returns : goal.returns
returns c =
    let last = lines_of (option_map string_bytes c.args.last) in
    let answer = lines_of (option_map string_bytes c.args.answer) in
    let put : string_bytes c.push_some.new.text ≡ string_bytes c.in_ok-text.text ++ lines last = c.in_ok-push_some.ensures in
    let putting : string_bytes c.push_some-2.new.text ≡ string_bytes c.push_some.new.text ++ lines answer = c.in_ok-push_some-2.ensures in
    lines_all c.args.items.now last answer _ _ _ c.in_ok-text.ensures put putting
