use Rattle.std.proofs.Common.{map, rules}
use Rattle.lab_run.specs.Walking.{MayTake}
use Rattle.lab_run.proofs.stepped_module.SteppedModule.try_instant.Goals as goal

pub returns-clause-done : goal.returns-clause-done
returns-clause-done c =
    let taken : MayTake c.args.self.now.loaded (map (λ t. t.now) c.args.names.now) c.in-Ok.signals = search rules in (
      (c.in_ok-line.field-0-0, record { inputs = c.in-Ok.signals; taken = taken; is = c.in_ok-line.ensures.told }),
      c.look.ensures.kept,
    )
