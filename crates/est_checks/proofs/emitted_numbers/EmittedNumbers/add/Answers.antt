use Rattle.std.proofs.Common.{◌∙◌, Bor, List, ℕ, Some, ap, cond}
use Rattle.std.proofs.lemmas.Map.Text.{is_eq-slice_cmp}
use Rattle.std.specs.BTreeMap.{get_by}
use Rattle.std.specs.Cmp.Lexicographic.{slice_cmp}
use Rattle.std.specs.Ordering.{nat_cmp}
use Rattle.std.specs.Str.{bytes_eq}
use Rattle.est_checks.specs.Inner.EmittedNumbers.{has_number}
use Rattle.est_checks.proofs.Emitting.{numbers_by}
use Rattle.est_checks.proofs.emitted_numbers.EmittedNumbers.add.Goals as goal

pub returns : goal.returns
returns c m i =
    let key : Bor (List ℕ) = record c.as_bytes.result { now = m } in
    let old = get_by (λ (k : Bor (List ℕ)). slice_cmp nat_cmp m k.now) c.args.self.now.modules in
    ap (λ o. has_number o i)
    (c.in_ok-insert.ensures.updates.0 key
    ∙ ap (λ b. cond b (Some c.args.numbers) old)
    (is_eq-slice_cmp c.as_bytes.result.now m ∙ ap (λ x. bytes_eq x m) c.as_bytes.ensures))
    ∙ numbers_by (bytes_eq c.args.name.now m) c.args.numbers old i
