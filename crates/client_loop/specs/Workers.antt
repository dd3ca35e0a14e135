-- What becomes of a worker's seat (this project's own form).
use Rattle.std.specs.Prelude.{◌≡◌, ℕ, List, Option, true}
use Rattle.policy_board.specs.SeatState.{SeatState}
use Rattle.wire_reader.specs.Meters.{IsStopped, has_failed}
use Rattle.wire_reader.specs.declared.serving.EndReason.TheVariants.{ReadFault, WriteFault}
use Rattle.client_loop.specs.declared.source.Connection.{Connection}
use Rattle.client_loop.specs.declared.source.Served.{Served}
use Rattle.client_loop.specs.Connections.{ServesConnection}
use Rattle.client_loop.specs.SharedAnswers.{SharedAnswers}

-- a worker's connection of this number: the source gave it, it was served at the seat to its end, and the source took
-- back what was left of it. A fault of a device, or of memory, is an end only where the meter on it says so.
-- `remaining` and `contents` are what a reader has still to tell, and what a writer was given
pub record ServesNext {I O : Type 0} (remaining : I → Option (List ℕ)) (contents : O → Option (List ℕ))
    (gave : ℕ → ℕ → Connection I O → Type 0) (took : ℕ → ℕ → Served I O → Type 0)
    (worker number : ℕ) (before after : SeatState) : Type 0 where
  pub connection : Connection I O
  pub end : Served I O
  pub given : gave worker number connection
  pub taken : took worker number end
  pub served : ServesConnection (λ a ask given b. SharedAnswers a ask given b) (has_failed 0 end.memory.refusals)
      (remaining connection.reader) before end.why after (contents connection.writer) (contents end.output.device)
  pub read_fault : end.why ≡ ReadFault → IsStopped (has_failed 0 end.input.faults) end.input.left
  pub write_fault : end.why ≡ WriteFault → has_failed 0 end.output.faults ≡ true
