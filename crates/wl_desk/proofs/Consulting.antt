-- What the store answered, as what its definitions say.
use Rattle.std.proofs.Common.{◌≡◌, Option, Some, None, refl, sym, ap}
use Rattle.std.specs.Prelude.{is_some}
use Rattle.wl_expr.specs.Words.{Name, Bytes}
use Rattle.wl_rules.specs.Changes.{Shown}
use Rattle.wl_rules.specs.Entries.{value_at, message, is_off}
use Rattle.wl_rules.specs.Stored.{Stored, definitions, plain_entry}
use Rattle.wl_desk.specs.Consulted.{IsConsulted, message_in, is_off_in}

pub message_consulted : (x : Name) (s : Stored) (o : Option Shown) (t : Bytes) → IsConsulted x s o → message_in t o ≡ message (definitions s x) t
message_consulted x s None t h = ap (λ w. message (plain_entry w) t) (sym (h.none refl))
message_consulted x s (Some v) t h = ap (λ (ms : _). value_at t ms) h.shown.messages

pub off_consulted : (x : Name) (s : Stored) (o : Option Shown) (t : Bytes) → IsConsulted x s o → is_off_in t o ≡ is_off (definitions s x) t
off_consulted x s None t h = ap (λ w. is_off (plain_entry w) t) (sym (h.none refl))
off_consulted x s (Some v) t h = ap (λ (ts : _). is_some (value_at t ts)) h.shown.off
