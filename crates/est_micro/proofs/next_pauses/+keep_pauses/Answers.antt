use Rattle.std.proofs.Common.{Bool, ◌||◌, ◌&&◌, ap, ◌∙◌}
use Rattle.est_kernel.specs.PauseNumbers.{has_pause}
use Rattle.est_kernel.specs.Pauses.{pauses_of}
use Rattle.est_micro.proofs.Collecting.{or_nothing, kept_pair}
use Rattle.est_micro.proofs.next_pauses.+keep_pauses.Goals as goal

pub keep_pauses_of_two-returns : goal.keep_pauses_of_two-returns
keep_pauses_of_two-returns t c = λ i.
    c.keep_pauses-2.ensures i
    ∙ (ap (λ (z : Bool). z || (c.args.on && (has_pause c.args.q.now i && pauses_of c.args.pauses.now i)))
    (c.keep_pauses.ensures i)
    ∙ kept_pair (pauses_of c.args.next.now i) c.args.on (has_pause c.args.p.now i) (has_pause c.args.q.now i)
    (pauses_of c.args.pauses.now i))

pub keep_pauses-returns-in-Nothing : goal.keep_pauses-returns-in-Nothing
keep_pauses-returns-in-Nothing t c = λ i. rw c.in-Nothing.is (or_nothing (pauses_of c.args.next.now i) c.args.on)

pub keep_pauses-returns-in-Emit : goal.keep_pauses-returns-in-Emit
keep_pauses-returns-in-Emit t c = λ i. rw c.in-Emit.is (or_nothing (pauses_of c.args.next.now i) c.args.on)

pub keep_pauses-returns-in-Exit : goal.keep_pauses-returns-in-Exit
keep_pauses-returns-in-Exit t c = λ i. rw c.in-Exit.is (or_nothing (pauses_of c.args.next.now i) c.args.on)
