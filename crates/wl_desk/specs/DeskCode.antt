-- How the checker tells desks apart.
use Rattle.std.specs.Prelude.{refl}
use Rattle.std.specs.Coded.{Coded, coded_ℕ, coded_bool, coded_list, coded×, code_by}
use Rattle.wl_expr.specs.Stamped.{bytes_code}
use Rattle.wl_desk.specs.Desk.{Desk, Counts}

abbrev pub counts_code : Coded Counts
counts_code = coded_list (coded× bytes_code coded_ℕ)

abbrev pub desk_code : Coded Desk
desk_code =
    code_by (_ × _) (coded× coded_ℕ (coded× coded_bool (coded× counts_code (coded_list bytes_code))))
    (λ k. (k.quiets, (k.heard, (k.counts, k.items)))) (λ p. record { quiets = p.0; heard = p.1.0; counts = p.1.1.0; items = p.1.1.1 }) (λ _. refl)
