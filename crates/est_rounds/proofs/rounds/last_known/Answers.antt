use Rattle.std.proofs.Common.{◌≡◌, sym, ap, ◌∙◌, rules}
use Rattle.est_meaning.proofs.SettledLemmas.{settled}
use Rattle.est_meaning.specs.Views.{env_of}
use Rattle.est_rounds.proofs.rounds.last_known.Goals as goal

pub returns-then-eq : goal.returns-then-eq
returns-then-eq c =
    let same : c.next_known-next.result ≡ c.loop-i.env = search rules in
    let still = rw c.loop-i.invariant at (sym c.next_known-next.ensures ∙ ap env_of same) in
    let last = c.loop-i.invariant ∙ settled _ c.loop-i.i c.loop-i.auto.i-end _ _ _ still in
    rw c.judged_count-i-end.ensures at last
