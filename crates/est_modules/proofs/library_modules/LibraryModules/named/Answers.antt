use Rattle.std.proofs.Common.{◌∙◌, List, sym, ap, option_map}
use Rattle.std.specs.List.{position, slice_get}
use Rattle.std.specs.Str.{bytes_eq}
use Rattle.est_modules.specs.Modules.{program_of}
use Rattle.est_modules.specs.declared.library_modules.LibraryModule.{LibraryModule}
use Rattle.est_modules.proofs.Lists.{program_found, same_none}
use Rattle.est_modules.proofs.Placing.{got_found, got_there, none_got}
use Rattle.est_modules.proofs.library_modules.LibraryModules.named.Goals as goal

pub returns-in-Some : goal.returns-in-Some
returns-in-Some c =
    let test = λ (h : LibraryModule). bytes_eq h.name c.args.name.now in
    let hs = c.self.inside.modules.items in
    rw (← c.self.view_is)
    (sym (same_none (λ h. h.now) program_of c.get.result)
    ∙ ap (option_map program_of)
    (got_there c.get.result c.deref.result.now c.in-Some.place c.get.ensures.lookup.3
    ∙ ap (λ (xs : List LibraryModule). slice_get xs c.in-Some.place) c.deref.ensures.value
    ∙ got_found test hs c.in-Some.place (ap (position test) c.self.view_is ∙ sym c.in-Some.ensures))
    ∙ sym (program_found hs c.args.name.now))

pub returns-in-None : goal.returns-in-None
returns-in-None c =
    let test = λ (h : LibraryModule). bytes_eq h.name c.args.name.now in
    let hs = c.args.self.now in
    ap (option_map program_of) (sym (none_got test hs (sym c.in-None.ensures)))
    ∙ sym (program_found hs c.args.name.now)
