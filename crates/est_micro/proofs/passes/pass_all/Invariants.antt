use Rattle.std.proofs.Common.{◌≡◌, ◌≤◌, ℕ, Bool}
use Rattle.est_kernel.specs.Bits.{bits}
use Rattle.est_net.specs.Cells.{decided}
use Rattle.est_net.specs.Kept.{kept}
use Rattle.est_micro.specs.Engine.{IsNetOf}
use Rattle.est_micro.specs.Parts.{AgreeBut}
use Rattle.est_micro.specs.Runs.{Ready}
use Rattle.est_micro.proofs.passes.pass_all.Given as goal

abbrev pub invariant-loop : goal.invariant-loop
invariant-loop l = record {
  net : IsNetOf l.net l.question.kernel.now;
  more : decided l.fn.net.cells.items ≤ decided l.net.cells.items;
  ready : (others : ℕ → Bool) → AgreeBut (bits l.question.unasked) (bits l.question.inputs) others
      → Ready (bits l.question.unasked) l.question.kernel.now l.question.state.now others l.fn.net.cells.items l.fn.env
      → Ready (bits l.question.unasked) l.question.kernel.now l.question.state.now others l.net.cells.items l.env;
  kept : kept l.net ≡ kept l.fn.net;
}
