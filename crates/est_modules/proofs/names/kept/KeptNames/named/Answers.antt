use Rattle.std.proofs.Common.{◌∙◌, List, sym, ap}
use Rattle.std.specs.List.{slice_get}
use Rattle.std.specs.Str.{bytes_eq}
use Rattle.est_modules.specs.declared.names.kept.Kept.{Kept}
use Rattle.est_modules.proofs.Placing.{got_found, got_there, none_got, place_is}
use Rattle.est_modules.proofs.names.kept.KeptNames.named.Goals as goal

pub returns-in-Some : goal.returns-in-Some
returns-in-Some c =
    let t = c.self.inside in
    let s = c.args.name.now in
    let xs = t.modules.items in
    rw (← c.self.view_is)
    (got_there c.get.result c.deref.result.now c.in-Some.place c.get.ensures.lookup.3
    ∙ ap (λ (ks : List Kept). slice_get ks c.in-Some.place) c.deref.ensures.value
    ∙ got_found (λ (x : Kept). bytes_eq x.module_name s) xs c.in-Some.place
    (sym (place_is (λ (x : Kept). x.module_name) t.places xs s c.self.invariant) ∙ sym c.in-Some.ensures))

pub returns-in-None : goal.returns-in-None
returns-in-None c =
    let t = c.self.inside in
    let s = c.args.name.now in
    let xs = t.modules.items in
    rw (← c.self.view_is)
    (sym (none_got (λ (x : Kept). bytes_eq x.module_name s) xs
    (sym (place_is (λ (x : Kept). x.module_name) t.places xs s c.self.invariant) ∙ sym c.in-None.ensures)))
