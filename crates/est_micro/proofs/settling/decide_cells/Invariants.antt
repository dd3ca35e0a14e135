use Rattle.std.proofs.Common.{◌≡◌, ◌-◌, ℕ, Bool, length}
use Rattle.est_kernel.specs.Bits.{bits}
use Rattle.est_net.specs.Kept.{kept, reopened}
use Rattle.est_micro.specs.Engine.{IsNetOf}
use Rattle.est_micro.specs.Parts.{AgreeBut}
use Rattle.est_micro.proofs.Settles.{Settling}
use Rattle.est_micro.proofs.settling.decide_cells.Given as goal

abbrev pub invariant-loop-swept : goal.invariant-loop-swept
invariant-loop-swept l = record {
  settling : (others : ℕ → Bool) → AgreeBut (bits l.question.unasked) (bits l.question.inputs) others
      → Settling (bits l.question.unasked) l.question.kernel.now l.question.state.now others l.decided_before l.decided
      l.net.cells.items l.swept l.env;
  net : IsNetOf l.net l.question.kernel.now;
  once : kept l.net ≡ reopened l.fn.net;
}

abbrev pub decreases-loop-swept : goal.decreases-loop-swept
decreases-loop-swept l = length l.net.cells.items - l.decided_before
