use Rattle.std.proofs.Common.{rules, ◌≡◌, ◌∙◌, ◌++◌, ◌∷◌, ◌+◌, [], ap, sym, length}
use Rattle.server_threads.specs.Inner.Jobs.{jobs_of}
use Rattle.server_threads.proofs.BackLemmas.{jobs_long, jobs_push}
use Rattle.server_threads.proofs.workers.give_turns.Goals as goal

pub loop-seat-init : goal.loop-seat-init
loop-seat-init g c = record { jobs = c.requires.room.0; room = search rules }

pub loop-seat-preserved : goal.loop-seat-preserved
loop-seat-preserved g c =
    let seats = c.loop-seat.yielded in
    let seat = c.in-Some.seat in
    let turns = c.args.turns in
    let long : length c.loop-seat.jobs.items ≡ length seats
    = ap length c.loop-seat.invariant.jobs ∙ jobs_long 0 turns seats in
    let place : c.len.result ≡ 0 + length seats = search (rules, long) in
    record {
      jobs = c.push_reserved.ensures.items
          ∙ (ap (λ jobs. jobs ++ record { worker = c.len.result; seat = seat; turns = turns } ∷ [])
          c.loop-seat.invariant.jobs
          ∙ (ap (λ n. jobs_of 0 turns seats ++ record { worker = n; seat = seat; turns = turns } ∷ []) place
          ∙ sym (jobs_push 0 turns seats seat)));
      room = search rules;
    }
