use Rattle.std.proofs.Common.{◌≡◌, ◌∙◌, Bor, List, ℕ, Some, None, ap, sym, cond}
use Rattle.std.proofs.lemmas.Map.Text.{is_eq-slice_cmp}
use Rattle.std.specs.Str.{bytes_eq}
use Rattle.est_modules.specs.FirstPlaces.{first_place}
use Rattle.est_modules.proofs.Placing.{placed_back, placed_more}
use Rattle.est_modules.proofs.names.table.FirstPlaces.add.Goals as goal

pub returns-in_ok-insert : goal.returns-in_ok-insert
returns-in_ok-insert c = λ names are at u.
    let t = c.args.self.now in
    let first = c.in-Some.first in
    let key : Bor (List ℕ) = record c.as_bytes.result { now = u } in
    let key-in-Some : Bor (List ℕ) = record c.as_bytes-in-Some.result { now = u } in
    let has : first_place t c.args.name.now ≡ Some first =
    ap (first_place t) (sym c.as_bytes.ensures) ∙ sym c.in_ok-first.ensures.old ∙ c.in-Some.is in
    placed_back t names c.args.name.now first c.args.place are has u _
    (c.in_ok-insert.ensures.updates.0 key-in-Some
    ∙ ap (λ b. cond b (Some first) (first_place (record { places = c.insert.new.self }) u))
    (is_eq-slice_cmp c.as_bytes-in-Some.result.now u ∙ ap (λ x. bytes_eq x u) c.as_bytes-in-Some.ensures)
    ∙ ap (cond (bytes_eq c.args.name.now u) (Some first))
    (c.in_ok-first.ensures.updates.0 key
    ∙ ap (λ b. cond b (Some c.args.place) (first_place t u))
    (is_eq-slice_cmp c.as_bytes.result.now u ∙ ap (λ x. bytes_eq x u) c.as_bytes.ensures)))

pub returns-in_default : goal.returns-in_default
returns-in_default c = λ names are at u.
    let t = c.args.self.now in
    let key : Bor (List ℕ) = record c.as_bytes.result { now = u } in
    let none : first_place t c.args.name.now ≡ None =
    ap (first_place t) (sym c.as_bytes.ensures) ∙ sym c.in_ok-first.ensures.old ∙ c.in_default.is in
    placed_more t names c.args.name.now c.args.place are at none u _
    (c.in_ok-first.ensures.updates.0 key
    ∙ ap (λ b. cond b (Some c.args.place) (first_place t u))
    (is_eq-slice_cmp c.as_bytes.result.now u ∙ ap (λ x. bytes_eq x u) c.as_bytes.ensures))
