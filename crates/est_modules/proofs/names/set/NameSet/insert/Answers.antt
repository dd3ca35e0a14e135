use Rattle.std.proofs.Common.{Bor, List, ℕ, ◌||◌, ◌∙◌, ap, cond, true}
use Rattle.std.proofs.lemmas.Map.Text.{is_eq-slice_cmp}
use Rattle.std.specs.Str.{bytes_eq}
use Rattle.est_modules.specs.NameSets.{has}
use Rattle.est_modules.proofs.NameSets.{put}
use Rattle.est_modules.proofs.names.set.NameSet.insert.Goals as goal

pub returns-clause-has : goal.returns-clause-has
returns-clause-has c = λ s.
    let q : Bor (List ℕ) = record c.as_bytes.result { now = s } in
    let old = has c.args.self.now s in
    c.in_ok-insert.ensures.updates.0 q
    ∙ ap (λ b. cond b true old) (is_eq-slice_cmp c.as_bytes.result.now s)
    ∙ put (bytes_eq c.as_bytes.result.now s) old
    ∙ ap (λ n. old || bytes_eq n s) c.as_bytes.ensures
