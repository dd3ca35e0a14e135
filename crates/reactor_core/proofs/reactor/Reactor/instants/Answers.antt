use Rattle.std.proofs.Common.{◌≡◌, ap, length, arith}
use Rattle.reactor_core.specs.Meaning.{instants_of}
use Rattle.reactor_core.proofs.reactor.Reactor.instants.Goals as goal

pub returns : goal.returns
returns c =
    let past : length c.self.inside.parts.instants.items ≡ length (instants_of c.self.inside.parts.journal) =
    ap length c.self.invariant.running.past in
    rw (← c.self.view_is) (omega (arith, c.len.ensures, c.self.inside.parts.instants.ok.0, past))
