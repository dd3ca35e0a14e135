use Rattle.std.proofs.Common.{Result, drop, map}
use Rattle.est_relations.specs.Offers.{PendingInputs}
use Rattle.est_relations.specs.declared.refusal.PendingRefusal.{PendingRefusal}
use Rattle.reactor_core.specs.Standing.{inputs_of_module}
use Rattle.lab_run.specs.Walking.{AreOffered}
use Rattle.lab_run.proofs.stepped_module.inputs_of.Given as goal

abbrev pub invariant-loop-place : goal.invariant-loop-place
invariant-loop-place l =
    (answer : Result PendingInputs PendingRefusal) → AreOffered l.pending
    (map (λ t. t.now) (drop l.place l.names)) answer
    → AreOffered (inputs_of_module l.loaded 0) (map (λ t. t.now) l.names) answer
