use Rattle.std.proofs.Common.{◌∙◌, ap, sym, Some, None, Bor, List, ℕ}
use Rattle.std.specs.List.{position}
use Rattle.std.specs.Map.{keys_of}
use Rattle.std.specs.Str.{bytes_eq}
use Rattle.est_link.proofs.SignalTables.{place_told}
use Rattle.est_link.proofs.signal_table.SignalTable.find.Goals as goal
use Rattle.est_link.proofs.signal_table.SignalTable.find.Goals.{in-Some, in-None}

pub returns : goal.returns
returns c =
    let es = c.self.inside.signals.entries in
    let told = c.get_index_of.ensures.index
    ∙ ap (λ (n : List ℕ). position (λ (k : Bor (List ℕ)). bytes_eq n k.now) (keys_of es)) c.as_bytes.ensures in
    rw (← c.self.view_is) (elim c.match-get_index_of.branch [
      | in-Some w ↦ ap (λ s. s.0) w.result-is
          ∙ place_told es c.args.name.now (Some w.in-Some.place) c.self.invariant.named (sym w.in-Some.is ∙ told)
      | in-None w ↦ ap (λ s. s.0) w.result-is
          ∙ place_told es c.args.name.now None c.self.invariant.named (sym w.in-None.is ∙ told)
    ])
