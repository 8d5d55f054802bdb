-- A cell that was answered as it is read.
use Rattle.std.proofs.Common.{◌≡◌, IfOk, OnOk, Result, Ok, Err}
use Rattle.wl_expr.specs.Tree.{Tree}
use Rattle.wl_expr.specs.Words.{Bytes}
use Rattle.wl_ports.specs.declared.memory.Memory.{Memory}
use Rattle.wl_scan.specs.Cells.{CellText}
use Rattle.wl_session.specs.Answers.{IsAnswer, answer_to, refusal}
use Rattle.wl_session.specs.Line.{SessionState, line}
use Rattle.wl_session.specs.Reading.{IsReading, refused, read}
use Rattle.wl_session.specs.declared.fault.LineFault.{LineFault}
use Rattle.wl_session.specs.declared.session.LineEnd.{LineEnd}

pub refused_answer : (r : Result LineEnd Memory) (cell : CellText) (s t : SessionState) (bytes : Bytes) (f : LineFault) → IsReading cell (refused f)
    → IfOk r (λ end. end ≡ (refusal f s).end) → OnOk r (t ≡ (refusal f s).session) → OnOk r (bytes ≡ (refusal f s).pending) → IfOk r (λ end. IsAnswer cell s t end bytes)
unfolding answer_to
refused_answer (Ok end) cell s t bytes f reads ends state pending = record { reading = refused f; reads = reads; ends = ends; state = state; pending = pending }
refused_answer (Err e) cell s t bytes f reads ends state pending = tt

pub read_answer : (r : Result LineEnd Memory) (cell : CellText) (s t : SessionState) (bytes : Bytes) (e : Tree) → IsReading cell (read e)
    → IfOk r (λ end. end ≡ (line s e).end) → OnOk r (t ≡ (line s e).session) → OnOk r (bytes ≡ (line s e).pending) → IfOk r (λ end. IsAnswer cell s t end bytes)
unfolding answer_to
read_answer (Ok end) cell s t bytes e reads ends state pending = record { reading = read e; reads = reads; ends = ends; state = state; pending = pending }
read_answer (Err m) cell s t bytes e reads ends state pending = tt
