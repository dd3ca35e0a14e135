use Rattle.std.proofs.Common.{rules, ◌≡◌, length, subst}
use Rattle.std.specs.List.{AllZip}
use Rattle.server_threads.specs.Inner.Jobs.{HasWorked}
use Rattle.server_threads.proofs.BackLemmas.{each_took, ended_long}
use Rattle.server_threads.proofs.workers.run_each.Goals as goal

pub take_back-requires : goal.take_back-requires
take_back-requires g c =
    let back = subst (λ jobs. AllZip (λ job done. HasWorked g.W.Work.turn job done) jobs c.in_ok-ended.ended.items)
    c.give_turns-jobs.ensures c.in_ok-ended.ensures in
    let long : length c.in_ok-ended.ended.items ≡ length c.args.seats.items = ended_long _ _ _ _ _ back in
    search (rules, long)

pub returns : goal.returns
returns g c = rw c.take_back.ensures.seats
    (each_took g.W.Work.turn c.args.turns c.take_back.result.all_taken 0 c.args.seats.items c.in_ok-ended.ended.items
    (subst (λ jobs. AllZip (λ job done. HasWorked g.W.Work.turn job done) jobs c.in_ok-ended.ended.items)
    c.give_turns-jobs.ensures c.in_ok-ended.ensures)
    c.take_back.ensures.all)
