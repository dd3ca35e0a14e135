use Rattle.std.proofs.Common.{◌∙◌, ◌≤◌, List, length, ap, subst, sym, map}
use Rattle.std.proofs.lemmas.List.{take_all}
use Rattle.std.proofs.lemmas.Simd.{map-map}
use Rattle.est_modules.specs.Modules.{program_of}
use Rattle.est_modules.specs.ModuleOrders.{places_run}
use Rattle.est_modules.specs.declared.library_modules.LibraryModule.{LibraryModule}
use Rattle.est_modules.proofs.module_order.run_rows.Goals as goal

pub returns : goal.returns
returns c =
    let ps = map program_of c.args.modules.now in
    c.loop-home.invariant ∙ ap (map (λ (h : LibraryModule). places_run ps (program_of h)))
    (take_all c.loop-home.home-index c.args.modules.now
    (subst (λ (hs : List LibraryModule). length hs ≤ c.loop-home.home-index) c.as_slice-home-items.ensures
    c.loop-home-test.false))
    ∙ sym (map-map (places_run ps) program_of c.args.modules.now)
