-- How the checker tells rules and entries apart.
use Rattle.std.specs.Prelude.{List, refl}
use Rattle.std.specs.Coded.{Coded, coded_list, coded×, code_by}
use Rattle.wl_expr.specs.Stamped.{stamped_code}
use Rattle.wl_rules.specs.Entries.{Rules}
use Rattle.wl_rules.specs.declared.rule.Rule.{Rule}

abbrev pub rule_code : Coded Rule
rule_code = code_by (_ × _) (coded× stamped_code stamped_code) (λ r. (r.left, r.body)) (λ p. record { left = p.0; body = p.1 }) (λ _. refl)

abbrev pub list_code : Coded (List Rule)
list_code = coded_list rule_code

abbrev pub rules_code : Coded (Rules Rule)
rules_code =
    code_by (_ × _) (coded× list_code (coded× list_code (coded× list_code list_code))) (λ r. (r.own, (r.down, (r.up, r.sub))))
    (λ p. record { own = p.0; down = p.1.0; up = p.1.1.0; sub = p.1.1.1 }) (λ _. refl)
