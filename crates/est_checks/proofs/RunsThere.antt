-- Modules that are run are there.
use Rattle.std.proofs.Common.{◌≡◌, ℕ, List, Option, Some, None, refl, ap, sym, ◌∙◌}
use Rattle.std.proofs.lemmas.Option.{none-some}
use Rattle.est_modules.specs.Modules.{Program, program_named, first_in_bodies}
use Rattle.est_modules.specs.Occurrences.{Act, emits, tests, exits, binds, runs}
use Rattle.est_checks.specs.MissingModules.{missing_at, missing_act, unless_there}
use Rattle.est_modules.proofs.Ordering.{IsRunOf}
use Rattle.std.proofs.Common.{◌≡◌, ℕ, List, Option, Some, None, refl, ap, sym, ◌∙◌}
use Rattle.std.proofs.lemmas.Option.{none-some}
use Rattle.est_checks.specs.MissingModules.{first_missing, missing_from, missing_at}

there_is : (m : List ℕ) (o : Option Program) → unless_there m o ≡ None → (q : Program) × (o ≡ Some q)
there_is m None h = absurd (none-some m (sym h))
there_is m (Some q) h = (q, refl)

pub run_is_there : (ps : List Program) (act : Act) (m : List ℕ) → IsRunOf act m → missing_act ps act ≡ None
    → (q : Program) × (program_named ps m ≡ Some q)
run_is_there ps (emits s) m r h = absurd r
run_is_there ps (tests s) m r h = absurd r
run_is_there ps (exits t) m r h = absurd r
run_is_there ps (binds ns) m r h = absurd r
run_is_there ps (runs n rs) m r h = there_is m (program_named ps m)
    (ap (λ k. unless_there k (program_named ps k)) (sym r) ∙ h)

-- where none is missing, each run's module is there
no_missing : (ps : List Program) (main : List ℕ) (o : Option Program) → missing_from ps main o ≡ None
    → first_in_bodies (missing_at ps) ps ≡ None
no_missing ps main None h = absurd (none-some main (sym h))
no_missing ps main (Some q) h = h

pub none_missing : (ps : List Program) (main : List ℕ) → first_missing ps main ≡ None
    → first_in_bodies (missing_at ps) ps ≡ None
none_missing ps main h = no_missing ps main (program_named ps main) h
