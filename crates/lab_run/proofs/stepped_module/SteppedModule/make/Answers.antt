use Rattle.std.proofs.Common.{◌≡◌, map, rules}
use Rattle.lab_run.specs.Walking.{MayTake, SteppedState}
use Rattle.lab_run.proofs.Walks.{loaded_after}
use Rattle.lab_run.proofs.stepped_module.SteppedModule.make.Goals as goal

pub invariant_of-self-2 : goal.invariant_of-self-2
invariant_of-self-2 c =
    let m = c.self-2.inside.loaded in
    let states = c.self-2.inside.states.items in
    let there : SteppedState = record { loaded = m; states = states } in
    let same : c.args.self.now ≡ there = search rules in
    loaded_after c.args.self.now m c.self-2.inside.inside states c.advance.new.states.items c.in-Ok.signals
    c.in_ok-instant.instant _ same c.in_ok-instant.ensures.told c.self-2.invariant c.in_ok-advance.ensures.done

pub returns-clause-done : goal.returns-clause-done
returns-clause-done c =
    let taken : MayTake c.args.self.now.loaded (map (λ t. t.now) c.args.names.now) c.in-Ok.signals = search rules in (
      c.in_ok-instant.instant,
      record { inputs = c.in-Ok.signals; taken = taken; is = c.in_ok-instant.ensures.told },
      search rules,
    )
