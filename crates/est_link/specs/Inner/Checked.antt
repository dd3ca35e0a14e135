-- What is known of a library of which no check has a fault (this project's own form).
use Rattle.std.specs.Prelude.{◌≡◌, ℕ, ◌≤◌, Bool, List, [], length, map, Some, None}
use Rattle.est_kernel.specs.declared.interface.TheConstants.{MOST_SIGNALS}
use Rattle.est_link.specs.Bodies.{HasSoundNames}
use Rattle.est_checks.specs.Duplicates.{first_duplicate, redeclared}
use Rattle.est_checks.specs.LawlessRelations.{first_over_outputs}
use Rattle.est_modules.specs.Modules.{Program, program_named}
use Rattle.est_checks.specs.MissingModules.{first_missing}
use Rattle.est_modules.specs.declared.interface.Declared.{Declared}
use Rattle.est_relations.specs.declared.relations.TheConstants.{MOST_RELATIONS}

-- a main module without a fault, within the limits of its signals and relations
pub record IsSoundMain (p : Program) : Type 0 where
  pub signals : length p.interface ≤ MOST_SIGNALS
  pub relations : length p.relations ≤ MOST_RELATIONS
  pub distinct : redeclared [] (map (λ (d : Declared). d.name) p.interface) ≡ None
  pub lawful : first_over_outputs p ≡ None

-- a library without a fault
pub record IsChecked (ps : List Program) (main : List ℕ) : Type 0 where
  pub distinct : first_duplicate ps ≡ None
  pub there : first_missing ps main ≡ None
  pub emitted : List ℕ → List ℕ → Bool
  pub names : HasSoundNames ps emitted
  pub home : (p : Program) → program_named ps main ≡ Some p → IsSoundMain p
