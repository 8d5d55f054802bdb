use Rattle.std.proofs.Common.{arith, codes, refl, ◌∙◌, ap}
use Rattle.wl_ports.proofs.AsciiNames.{ascii_is_name}
use Rattle.wl_rules.specs.Start.{symbol_rows, slot_of_limit}
use Rattle.wl_rules.specs.Starting.{with_row, with_symbol_rows}
use Rattle.wl_rules.proofs.Started.{started}
use Rattle.wl_rules.proofs.start.start.Goals as goal

pub put_limit-requires : goal.put_limit-requires
put_limit-requires c = record { name = ascii_is_name (codes "$RecursionLimit") refl; small = record { light = omega arith; shallow = omega arith } }

pub put_limit-requires-2 : goal.put_limit-requires-2
put_limit-requires-2 c = record { name = ascii_is_name (codes "$IterationLimit") refl; small = record { light = omega arith; shallow = omega arith } }

pub returns : goal.returns
returns c =
    let symbols = c.in_ok-put_all_symbols.ensures ∙ ap (with_symbol_rows symbol_rows) c.new-table.ensures in
    c.in_ok-put_limit-2.ensures ∙ ap (with_row (codes "$IterationLimit") (slot_of_limit (codes "$IterationLimit") 1000)) (c.in_ok-put_limit.ensures ∙ ap (with_row (codes "$RecursionLimit") (slot_of_limit (codes "$RecursionLimit") 200)) symbols) ∙ started
