use Rattle.std.proofs.Common.{refl}
use Rattle.reactor_core.proofs.Steps.{running, runs_here, offers}
use Rattle.reactor_core.proofs.AnswerLemmas.{offer_refused, offer_joins, entry_refused, entry_passes}
use Rattle.reactor_core.proofs.reactor.Reactor.offer.Goals as goal

pub returns-in-Err : goal.returns-in-Err
returns-in-Err c =
    let before = c.self.inside.parts in
    rw (← c.self.view_is)
    (offer_refused before.journal before.loaded (running before.loaded before.pending before.instants.items)
    (runs_here c.self.invariant.running) refl
    c.args.stamp c.args.name.now _ before.journal c.in-Err.ensures refl)

pub returns-in-Err-append : goal.returns-in-Err-append
returns-in-Err-append c =
    let before = c.self.inside.parts in
    rw (← c.self.view_is)
    (offer_joins before.journal before.loaded (running before.loaded before.pending before.instants.items)
    (runs_here c.self.invariant.running) refl
    c.args.stamp c.args.name.now c.in-Ok.pending _ c.append.new.self c.in-Ok.ensures
    (entry_refused before.journal _ c.in-Err-append.ensures.0 (refl, c.in-Err-append.ensures.1)))

pub invariant_of-self : goal.invariant_of-self
invariant_of-self c =
    record {
      running = rw c.in-Ok-append.ensures.1
          (offers c.self.invariant.running c.args.stamp c.args.name.now c.in-Ok.pending c.in-Ok.ensures);
      engine = c.self.invariant.engine;
    }

pub returns-in-Ok-append : goal.returns-in-Ok-append
returns-in-Ok-append c =
    let before = c.self.inside.parts in
    rw (← c.self.view_is)
    (offer_joins before.journal before.loaded (running before.loaded before.pending before.instants.items)
    (runs_here c.self.invariant.running) refl
    c.args.stamp c.args.name.now c.in-Ok.pending _ c.append.new.self c.in-Ok.ensures
    (entry_passes before.journal c.in-Ok-append.ensures.0 (refl, c.in-Ok-append.ensures.1)))
