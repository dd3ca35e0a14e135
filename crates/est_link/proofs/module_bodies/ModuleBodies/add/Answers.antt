use Rattle.std.proofs.Common.{◌∙◌, Bor, List, ℕ, Some, ap, cond}
use Rattle.std.proofs.lemmas.Map.Text.{is_eq-slice_cmp}
use Rattle.std.specs.Str.{bytes_eq}
use Rattle.est_link.specs.Inner.Tables.{body_named}
use Rattle.est_link.proofs.module_bodies.ModuleBodies.add.Goals as goal

pub returns : goal.returns
returns c m =
    let key : Bor (List ℕ) = record c.as_bytes.result { now = m } in
    c.in_ok-insert.ensures.updates.0 key
    ∙ ap (λ b. cond b (Some c.args.body) (body_named c.args.self.now m))
    (is_eq-slice_cmp c.as_bytes.result.now m ∙ ap (λ x. bytes_eq x m) c.as_bytes.ensures)
