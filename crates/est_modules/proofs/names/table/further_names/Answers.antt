use Rattle.std.proofs.Common.{◌≡◌, ℕ, List, [], true, codes, subst, sym}
use Rattle.est_modules.specs.Modules.{program_of}
use Rattle.est_modules.specs.Occurrences.{occurrences}
use Rattle.est_modules.specs.Visible.{stands_in}
use Rattle.est_modules.proofs.Binding.{still_bound}
use Rattle.est_modules.proofs.names.table.further_names.Goals as goal

pub loop-home-preserved : goal.loop-home-preserved
loop-home-preserved c =
    subst (λ (ns : List (List ℕ)). stands_in ns (codes "tick") ≡ true) (sym c.in_ok-walk_body.ensures)
    (still_bound (occurrences [] (program_of c.home-item.result).body) c.loop-home.names.items (codes "tick")
    c.loop-home.invariant)
