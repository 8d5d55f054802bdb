use Rattle.std.proofs.Common.{◌+◌, ◌<◌, ◌∙◌, [], ◌∷◌, length, take, drop, get_or, ◌-◌, arith, ap, sym}
use Rattle.std.proofs.lemmas.List.{length-drop, take_rest}
use Rattle.wl_scan.specs.Cells.{Cutting, shown}
use Rattle.wl_scan.proofs.Pieces.{fed_all, fed_to_end, end_is_line_feed, some_bytes}
use Rattle.wl_scan.proofs.cells.Cells.feed.Goals as goal

pub end_cell-requires-clause-end : goal.end_cell-requires-clause-end
end_cell-requires-clause-end c =
    let bytes = c.args.bytes.now in
    let blanks = c.skip_blanks-blanks.result in
    let rest = ap length (take_rest bytes blanks) in
    end_is_line_feed c.take_run.new.self.place (get_or (take (length bytes - blanks) (drop blanks bytes)) c.take_run.result 0)
    (c.take_run.ensures.end
    (omega (arith, rest, length-drop c.skip_blanks-blanks.result c.args.bytes.now, c.if-used-bytes.false, c.skip_blanks-blanks.ensures.within, c.take_run.ensures.within)))

pub returns-then-used-bytes-clause-after : goal.returns-then-used-bytes-clause-after
returns-then-used-bytes-clause-after c =
    let any : 0 < length c.args.bytes.now = some_bytes _ _ c.is_empty.ensures c.if-is_empty.false in
    let first = c.skip_blanks-blanks.ensures in
    let second = c.take_run.ensures in
    (fed_all _ _ _ _ _ _ _ c.renew.ensures.after first.after first.none first.within second.after second.none (omega (arith, c.if-used-bytes.true)) any).0

pub returns-then-used-bytes-clause-told : goal.returns-then-used-bytes-clause-told
returns-then-used-bytes-clause-told c =
    let any : 0 < length c.args.bytes.now = some_bytes _ _ c.is_empty.ensures c.if-is_empty.false in
    let first = c.skip_blanks-blanks.ensures in
    let second = c.take_run.ensures in
    (fed_all _ _ _ _ _ _ _ c.renew.ensures.after first.after first.none first.within second.after second.none (omega (arith, c.if-used-bytes.true)) any).1

pub returns-clause-after : goal.returns-clause-after
returns-clause-after c =
    let first = c.skip_blanks-blanks.ensures in
    let second = c.take_run.ensures in
    let rest = ap length (take_rest c.args.bytes.now c.skip_blanks-blanks.result) in
    let short : c.skip_blanks-blanks.result + c.take_run.result < length c.args.bytes.now =
    omega (arith, rest, length-drop c.skip_blanks-blanks.result c.args.bytes.now, c.if-used-bytes.false, first.within, second.within) in
    c.end_cell.ensures ∙ (fed_to_end _ _ _ c.take_run.new.self _ _ _ c.renew.ensures.after first.after first.none first.within second.after second.none short second.untold second.end).0

pub returns-clause-told : goal.returns-clause-told
returns-clause-told c =
    let first = c.skip_blanks-blanks.ensures in
    let second = c.take_run.ensures in
    let rest = ap length (take_rest c.args.bytes.now c.skip_blanks-blanks.result) in
    let short : c.skip_blanks-blanks.result + c.take_run.result < length c.args.bytes.now =
    omega (arith, rest, length-drop c.skip_blanks-blanks.result c.args.bytes.now, c.if-used-bytes.false, first.within, second.within) in
    (fed_to_end _ _ _ c.take_run.new.self _ _ _ c.renew.ensures.after first.after first.none first.within second.after second.none short second.untold second.end).1
    ∙ ap (λ (d : Cutting). shown d ∷ []) (sym c.end_cell.ensures)
