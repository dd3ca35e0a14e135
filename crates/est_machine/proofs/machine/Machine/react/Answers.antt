use Rattle.est_machine.proofs.machine.Machine.react.Goals as goal
use Rattle.est_machine.specs.Machines.{not_taken, stuck}

pub returns-in-Err-clause-refused : goal.returns-in-Err-clause-refused
returns-in-Err-clause-refused c =
    rw (← c.self.view_is) (not_taken c.in-Err.refusal (rw c.interface.ensures at c.in-Err.ensures.refused))

pub returns-in-Err-react-clause-refused : goal.returns-in-Err-react-clause-refused
returns-in-Err-react-clause-refused c =
    rw (← c.self.view_is) (stuck c.in-Err-react.stuck.undecided (rw c.interface.ensures at c.in_default.ensures.taken)
    c.in-Err-react.ensures.stuck)
