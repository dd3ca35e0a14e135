use Rattle.std.proofs.Common.{◌∙◌}
use Rattle.est_modules.specs.declared.library_modules.LibraryModule.{LibraryModule}
use Rattle.est_modules.proofs.Placing.{place_is}
use Rattle.est_modules.proofs.library_modules.LibraryModules.place.Goals as goal

pub returns : goal.returns
returns c =
    let hs = c.self.inside in
    rw (← c.self.view_is)
    (c.find.ensures ∙ place_is (λ (h : LibraryModule). h.name) hs.places hs.modules.items c.args.name.now
    c.self.invariant)
