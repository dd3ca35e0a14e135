use Rattle.std.proofs.Common.{rules}
use Rattle.audit_report.proofs.Accepting.{gives, given_is, refuses}
use Rattle.audit_report.proofs.policy_audit.is_accepted.Goals as goal

pub returns-in-Ok : goal.returns-in-Ok
returns-in-Ok c =
    let before = c.args.before.now in
    let step = c.in-Ok.ensures before c.requires in (
      λ same. gives before c.args.entry.now c.in_ok-asked.asked c.in_ok-asked.ensures.cases c.in-Ok.given step
          (c.has_room.ensures.0 (search (rules, c.if-not-has_room.false)))
          (c.is_same_session.ensures.0 same),
      λ accepted. c.is_same_session.ensures.1
          (given_is before c.args.entry.now c.in_ok-asked.asked c.in_ok-asked.ensures.cases c.in-Ok.given step
          accepted),
    )

pub returns-in-Err : goal.returns-in-Err
returns-in-Err c = (
  λ no. absurd (search (rules, no)),
  λ accepted. absurd
      (refuses c.args.before.now c.args.entry.now c.in_ok-asked.asked c.in_ok-asked.ensures.cases c.in-Err.field-0
      (c.in-Err.ensures c.args.before.now c.requires) accepted),
)
