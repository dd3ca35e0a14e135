use Rattle.std.proofs.Common.{ap}
use Rattle.reactor_core.proofs.AnswerLemmas.{commit_adds}
use Rattle.access_core.specs.declared.reply.Reply.TheVariants.{Refused}
use Rattle.access_core.specs.SlotStep.{stamp_of}
use Rattle.access_core.proofs.Stepping.{step_lacking, step_opened, step_settled, step_stuck}
use Rattle.access_core.proofs.Stepping.{commit_accepted, commit_refused}
use Rattle.access_core.proofs.slot.step_reactor.Goals as goal

pub returns-in-Err-clause-step : goal.returns-in-Err-clause-step
returns-in-Err-clause-step c = λ entries stands.
    step_lacking entries c.args.slot c.args.session (stamp_of entries c.args.session) c.args.reactor
    c.in-Err.refusal c.in-Err.reactor _ c.in-Err.ensures (ap Refused c.from.ensures)

pub returns-in-Err-settle-clause-step : goal.returns-in-Err-settle-clause-step
returns-in-Err-settle-clause-step c = λ entries stands.
    let journal = c.in-Ok.opened in
    let named = rw c.in-Err-settle.ensures.1 at c.refuse_stuck-refusal.ensures entries stands in
    let stuck = step_stuck entries c.args.slot c.args.session (stamp_of entries c.args.session) journal _ _ named
    c.in-Err-settle.ensures.1 in
    step_opened entries c.args.slot c.args.session (stamp_of entries c.args.session) c.args.reactor journal _ _
    c.in-Ok.ensures stuck

pub returns-in-Ok-commit-clause-step : goal.returns-in-Ok-commit-clause-step
returns-in-Ok-commit-clause-step c = λ entries stands.
    let settled = c.in-Ok-settle.settled in
    let stamp = stamp_of entries c.args.session in
    let made = rw (c.stamp-stamp.ensures entries stands) at c.in-Ok-commit.ensures in
    let told = rw (c.stamp-stamp.ensures entries stands) at c.added_to.ensures in
    let added = commit_adds settled stamp c.in-Ok-commit.reactor made in
    let done = commit_accepted stamp settled.journal c.in-Ok-commit.reactor settled.outputs added.0 _ added.1 told in
    let taken = rw c.in-Ok-settle.ensures.0 at done in
    let step = step_settled entries c.args.slot c.args.session stamp c.in-Ok.opened settled.outputs _ _ _
    c.in-Ok-settle.ensures.1.1 taken in
    step_opened entries c.args.slot c.args.session stamp c.args.reactor c.in-Ok.opened _ _ c.in-Ok.ensures step

pub returns-in-Err-commit-clause-step : goal.returns-in-Err-commit-clause-step
returns-in-Err-commit-clause-step c = λ entries stands.
    let settled = c.in-Ok-settle.settled in
    let stamp = stamp_of entries c.args.session in
    let given = rw (c.stamp-stamp.ensures entries stands) at c.in-Err-commit.ensures in
    let done = commit_refused stamp settled (c.in-Err-commit.refusal, c.in-Err-commit.reactor) given in
    let taken = rw c.in-Ok-settle.ensures.0 at done in
    let step = step_settled entries c.args.slot c.args.session stamp c.in-Ok.opened settled.outputs _ _ _
    c.in-Ok-settle.ensures.1.1 taken in
    rw c.from-in-Err-commit.ensures
    (step_opened entries c.args.slot c.args.session stamp c.args.reactor c.in-Ok.opened _ _ c.in-Ok.ensures step)
