use Rattle.std.proofs.Common.{sym, ◌∙◌, ap, arith}
use Rattle.wl_expr.specs.Stamped.{plain}
use Rattle.wl_rules.specs.Forms.{special_of}
use Rattle.wl_rules.proofs.Keys.{of_symbol_at}
use Rattle.wl_rules.proofs.form.Form.of_symbol.Goals as goal

pub returns-in-Symbol : goal.returns-in-Symbol
returns-in-Symbol c =
    sym (of_symbol_at (special_of c.args.self) c.args.args.now c.first-item.result c.in-Symbol.field-0.now (omega arith) (sym (ap plain c.first-item.is) ∙ sym c.in-Symbol.ensures.plain))
