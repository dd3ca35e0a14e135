use Rattle.std.proofs.Common.{◌∙◌, Bor, List, ℕ, Some, ap, sym, cond, refl}
use Rattle.std.proofs.lemmas.Map.Text.{is_eq-slice_cmp}
use Rattle.std.specs.Prelude.{is_some}
use Rattle.std.specs.Str.{bytes_eq}
use Rattle.est_modules.specs.NameTables.{number_in}
use Rattle.est_modules.proofs.Numbering.{grown_table, numbered_cond, numbered_still}
use Rattle.est_modules.proofs.names.table.NameTable.add.Goals as goal

pub returns-in_ok-push-clause-table : goal.returns-in_ok-push-clause-table
returns-in_ok-push-clause-table c =
    let t = c.args.self.now in
    let s = c.args.name.now in
    grown_table t _ s c.requires (sym c.number.ensures ∙ c.in-None.is) c.in_ok-push.ensures.items (λ u.
    let key : Bor (List ℕ) = record c.as_bytes.result { now = u } in
    c.in_ok-insert.ensures.updates.0 key
    ∙ ap (λ b. cond b (Some c.len-number.result) (number_in t u))
    (is_eq-slice_cmp c.as_bytes.result.now u ∙ ap (λ x. bytes_eq x u) c.as_bytes.ensures)
    ∙ ap (λ n. cond (bytes_eq s u) (Some n) (number_in t u)) c.len-number.ensures)

pub returns-in_ok-push-clause-has : goal.returns-in_ok-push-clause-has
returns-in_ok-push-clause-has c = λ u.
    let t = c.args.self.now in
    let s = c.args.name.now in
    let key : Bor (List ℕ) = record c.as_bytes.result { now = u } in
    ap is_some
    (c.in_ok-insert.ensures.updates.0 key
    ∙ ap (λ b. cond b (Some c.len-number.result) (number_in t u))
    (is_eq-slice_cmp c.as_bytes.result.now u ∙ ap (λ x. bytes_eq x u) c.as_bytes.ensures))
    ∙ numbered_cond (bytes_eq s u) c.len-number.result (number_in t u)

pub returns-in_default-clause-has : goal.returns-in_default-clause-has
returns-in_default-clause-has c = λ u.
    let t = c.args.self.now in
    let s = c.args.name.now in
    numbered_still t s u _ (bytes_eq s u) refl (sym c.number.ensures ∙ c.in_default.is)
