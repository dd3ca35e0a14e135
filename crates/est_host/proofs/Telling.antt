-- A question that ends no machine.
use Rattle.std.proofs.Common.{◌≢◌, ℕ, refl, Some}
use Rattle.est_host.specs.Answers.{Does, IsAnswered}
use Rattle.est_host.specs.declared.question.HostQuestion.{HostQuestion}
use Rattle.est_host.specs.declared.question.HostQuestion.TheVariants.{React, Given, Reset, Inputs, Outputs, Letter, End}
use Rattle.est_host.specs.declared.question.HostQuestion.TheVariants.{Saved, Restore, Put}
use Rattle.est_host.specs.declared.running.HostedMachine.{HostedMachine}
use Rattle.est_machine.specs.Machines.{MachineState}

pub is_told : (q : HostQuestion) → q ≢ End → (m : MachineState) (before : HostedMachine) (argument result : ℕ)
    (after : HostedMachine)
    → IsAnswered q m before argument result after → Does (Some q) (Some m) before argument result after
is_told React d m before argument result after h = h
is_told Given d m before argument result after h = h
is_told Reset d m before argument result after h = h
is_told Inputs d m before argument result after h = h
is_told Outputs d m before argument result after h = h
is_told Letter d m before argument result after h = h
is_told End d m before argument result after h = absurd (d refl)
is_told Saved d m before argument result after h = h
is_told Restore d m before argument result after h = h
is_told (Put place) d m before argument result after h = h
