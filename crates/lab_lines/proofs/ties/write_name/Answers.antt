use Rattle.std.proofs.Common.{◌≡◌, ◌∙◌, List, ◌∷◌, [], ap, length, refl, sym, codes}
use Rattle.std.specs.Prelude.{None, Some, slice_get}
use Rattle.std.proofs.lemmas.Option.{slice_get_past, slice_get_read}
use Rattle.json.specs.Token.{key, null, string}
use Rattle.est_kernel.specs.declared.interface.Declaration.{Declaration}
use Rattle.wire_lines.proofs.ReplyTokens.{last}
use Rattle.lab_lines.proofs.ties.write_name.Goals as goal

pub returns-in-None : goal.returns-in-None
returns-in-None c =
    let place = c.args.place in
    let past : slice_get c.declarations.result.now place ≡ None =
    slice_get_past c.declarations.result.now place c.in-None.ensures.lookup.3 in
    let none : slice_get c.args.interface.now place ≡ None =
    ap (λ (ds : List Declaration). slice_get ds place) (sym c.declarations.ensures.all) ∙ past in
    rw none
    (last c.null_value.result _ _ _ (key (codes "signal") ∷ []) (null ∷ []) c.in_ok-key.ensures c.null_value.ensures)

pub returns-in-Some : goal.returns-in-Some
returns-in-Some c =
    let all = c.declarations.result.now in
    let place = c.args.place in
    let declaration = c.in-Some.declaration.now in
    let there : slice_get all place ≡ Some declaration =
    slice_get_read all (length all) place declaration refl c.in-Some.ensures.lookup.3.0 c.in-Some.ensures.lookup.1 in
    let found : slice_get c.args.interface.now place ≡ Some declaration =
    ap (λ (ds : List Declaration). slice_get ds place) (sym c.declarations.ensures.all) ∙ there in
    rw found
    (last c.text_value.result _ _ _ (key (codes "signal") ∷ []) (string declaration.name ∷ []) c.in_ok-key.ensures
    (rw c.as_str.ensures.same at c.text_value.ensures))
