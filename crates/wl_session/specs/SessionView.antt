-- A session as contracts see it: its kernel and what it keeps from cell to cell, and the bytes of the last cell.
use Rattle.std.specs.Prelude.{◌≡◌, ◌||◌, ℕ, Bool, true, false, Option, refl}
use Rattle.std.specs.Coded.{Coded, code_by, coded×, coded_bool, coded_option, coded_ℕ}
use Rattle.wl_eval.specs.KernelView as kernel
use Rattle.wl_eval.specs.KernelView.{KernelView, kernel_code}
use Rattle.wl_expr.specs.Stamped.{bytes_code}
use Rattle.wl_expr.specs.Words.{Bytes}
use Rattle.wl_session.specs.Line.{SessionState, counted, left_of}
use Rattle.wl_session.specs.declared.counts.Counts.{Counts}
use Rattle.wl_session.specs.declared.options.Form.{Form}
use Rattle.wl_session.specs.declared.options.Form.TheVariants.{Input, Full}
use Rattle.wl_session.specs.declared.options.Options.{Options}

pub record SessionView : Type 0 where
  pub kernel : KernelView
  pub options : Options
  pub total_left : Option ℕ
  pub counts : Counts
  pub flawed : Bool
  pub dead : Bool  -- whether memory ran out
  pub pending : Bytes

abbrev pub state_of : SessionView → SessionState
state_of s = record { options = s.options; state = kernel.state_of s.kernel; total_left = s.total_left; counts = s.counts; flawed = s.flawed }

-- a cell took so many steps, and its budget ended or not
abbrev pub closed : ℕ → Bool → SessionView → SessionView
closed taken is_budget s = record s {
  total_left = left_of s.total_left taken;
  counts = record s.counts { cells = counted s.counts.cells 1; steps = counted s.counts.steps taken };
  flawed = s.flawed || is_budget;
}

-- how the checker tells sessions apart

abbrev pub form_code : Coded Form
form_code = code_by Bool coded_bool (λ f. elim f [ Input ↦ false | Full ↦ true ]) (λ b. elim b [ false ↦ Input | true ↦ Full ]) (λ f. elim f as (λ g. elim (elim g as (λ _. Bool) [ Input ↦ false | Full ↦ true ]) [ false ↦ Input | true ↦ Full ] ≡ g) [ Input ↦ refl | Full ↦ refl ])

abbrev pub options_code : Coded Options
options_code = code_by (_ × _) (coded× coded_ℕ (coded× (coded_option coded_ℕ) form_code)) (λ o. (o.steps, (o.total, o.form))) (λ p. record { steps = p.0; total = p.1.0; form = p.1.1 }) (λ _. refl)

abbrev pub counts_code : Coded Counts
counts_code = code_by (_ × _) (coded× coded_ℕ (coded× coded_ℕ coded_ℕ)) (λ c. (c.cells, (c.refused, c.steps))) (λ p. record { cells = p.0; refused = p.1.0; steps = p.1.1 }) (λ _. refl)

abbrev pub session_code : Coded SessionView
session_code =
    code_by (_ × _) (coded× kernel_code (coded× options_code (coded× (coded_option coded_ℕ) (coded× counts_code (coded× coded_bool (coded× coded_bool bytes_code))))))
    (λ s. (s.kernel, (s.options, (s.total_left, (s.counts, (s.flawed, (s.dead, s.pending)))))))
    (λ p. record { kernel = p.0; options = p.1.0; total_left = p.1.1.0; counts = p.1.1.1.0; flawed = p.1.1.1.1.0; dead = p.1.1.1.1.1.0; pending = p.1.1.1.1.1.1 }) (λ _. refl)
