use Rattle.std.proofs.Common.{◌≡◌, ◌∙◌, arith, length, ◌-◌, ◌<◌, true, sym, inl, inr, ℕ}
use Rattle.std.specs.Prelude.{◌==◌}
use Rattle.std.proofs.lemmas.Bool.{cases_lt, false≢true}
use Rattle.std.proofs.lemmas.Bool.Decides.{Decides-eqb}
use Rattle.history_events.proofs.Versions.{last_is}
use Rattle.history_events.proofs.event_desk.last_version.Goals as goal

pub returns : goal.returns
returns c =
    let n : ℕ = length c.args.entries.now in
    let some : 0 < n = elim (cases_lt 0 n) [
      | inl low ↦ low
      | inr none ↦
          (let zero_is : (n == 0) ≡ true = (Decides-eqb n 0).1 (omega arith) in
          absurd (false≢true (sym c.if-is_empty.false ∙ (c.is_empty.ensures ∙ zero_is))))
    ] in
    last_is 0 c.args.entries.now (n - 1) c.index-entries-entries.result (omega arith)
