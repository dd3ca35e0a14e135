use Rattle.std.proofs.Common.{refl}
use Rattle.est_host.proofs.Telling.{is_told}
use Rattle.est_host.proofs.answering.answer.Goals as goal

pub returns : goal.returns
returns c = rw (← c.question_of.ensures, c.in-Some.is, c.in-Some-machine.is)
    (is_told c.in-Some.question c.in_default-question.not-End c.in-Some-machine.machine _ c.args.argument
    c.tell.result _ (record { machine = c.tell.new.machine; there = refl; tells = c.tell.ensures }))
