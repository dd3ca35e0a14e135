use Rattle.std.proofs.Common.{◌≡◌, ◌∙◌, ◌+◌, ◌++◌, ◌∷◌, [], sym, ap, arith, take, get_or, false}
use Rattle.std.proofs.lemmas.List.{take_more}
use Rattle.history_events.specs.Runs.{EventStep, wants_memory}
use Rattle.history_events.proofs.Ending.{one_more}
use Rattle.history_events.proofs.run.run_events.Goals as goal

pub loop-event-preserved : goal.loop-event-preserved
loop-event-preserved c =
    let at = c.loop-event.event-index in
    let events = c.args.events.now in
    let step : EventStep c.event-item.result c.loop-event.desk c.in_ok-reply.reply c.answer_event.new.desk =
    c.in_ok-reply.ensures in
    let ample : wants_memory c.in_ok-reply.reply ≡ false = sym c.wants_memory.ensures ∙ c.if-wants_memory.false in
    let replies : c.push.new.self.items ≡ c.loop-event.replies.items ++ c.in_ok-reply.reply ∷ [] =
    c.in_ok-push.ensures.items in
    let is = c.event-item.is in
    let same : get_or events at c.event-item.result ≡ c.event-item.result = cc in
    let longer : take (at + 1) events ≡ take at events ++ c.event-item.result ∷ [] =
    take_more events at c.event-item.result (omega (arith, c.loop-event-test.true))
    ∙ ap (λ e. take at events ++ e ∷ []) same in
    rw (longer, replies)
    (one_more (take at events) c.loop-event.replies.items c.loop-event.desk c.event-item.result c.in_ok-reply.reply
    c.answer_event.new.desk c.loop-event.invariant step ample)
