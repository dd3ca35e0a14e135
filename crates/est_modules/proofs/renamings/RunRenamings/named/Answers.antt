use Rattle.std.proofs.Common.{◌∙◌, sym}
use Rattle.std.specs.Str.{bytes_eq}
use Rattle.est_syntax.specs.declared.tree.Renaming.{Renaming}
use Rattle.est_modules.proofs.Placing.{got_found, got_there, none_got, place_is}
use Rattle.est_modules.proofs.renamings.RunRenamings.named.Goals as goal

pub returns-in-Some : goal.returns-in-Some
returns-in-Some c =
    let t = c.self.inside in
    let s = c.args.signal.now in
    let xs = t.renamings.now in
    rw (← c.self.view_is)
    (got_there c.get.result xs c.in-Some.place c.get.ensures.lookup.3
    ∙ got_found (λ (x : Renaming). bytes_eq x.inner s) xs c.in-Some.place
    (sym (place_is (λ (x : Renaming). x.inner) t.places xs s c.self.invariant) ∙ sym c.in-Some.ensures))

pub returns-in-None : goal.returns-in-None
returns-in-None c =
    let t = c.self.inside in
    let s = c.args.signal.now in
    let xs = t.renamings.now in
    rw (← c.self.view_is)
    (sym (none_got (λ (x : Renaming). bytes_eq x.inner s) xs
    (sym (place_is (λ (x : Renaming). x.inner) t.places xs s c.self.invariant) ∙ sym c.in-None.ensures)))
