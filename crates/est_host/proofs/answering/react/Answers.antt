use Rattle.est_host.proofs.answering.react.Goals as goal
use Rattle.est_host.specs.Answers.{reacts, refuses}

pub returns-in-Ok : goal.returns-in-Ok
returns-in-Ok c = reacts c.in-Ok.outputs c.react.new.self c.in-Ok.ensures.reacts

pub returns-in-Err : goal.returns-in-Err
returns-in-Err c =
    rw (c.status_of.ensures, c.told_of.ensures, c.in-Err.ensures.same) (refuses c.in-Err.refusal
    c.in-Err.ensures.refused)
