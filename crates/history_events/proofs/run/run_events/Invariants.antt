use Rattle.std.proofs.Common.{take}
use Rattle.history_events.specs.Runs.{EndsIn}
use Rattle.history_events.proofs.run.run_events.Given as goal

-- the events so far are a run that ends in the desk
abbrev pub invariant-loop-event : goal.invariant-loop-event
invariant-loop-event l = EndsIn (take l.event-index l.events) l.replies.items l.desk
