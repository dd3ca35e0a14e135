use Rattle.std.proofs.Common.{◌∙◌}
use Rattle.est_modules.specs.declared.interface.Declared.{Declared}
use Rattle.est_modules.proofs.Placing.{place_is}
use Rattle.est_modules.proofs.interface.Interface.place.Goals as goal

pub returns : goal.returns
returns c =
    let i = c.self.inside in
    rw (← c.self.view_is)
    (c.find.ensures ∙ place_is (λ (d : Declared). d.name) i.places i.declared.items c.args.name.now c.self.invariant)
