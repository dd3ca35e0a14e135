-- What is known of the sets of names for the check of inputs that are emitted (this project's own form).
use Rattle.std.specs.Prelude.{◌≡◌, ◌&&◌, ◌||◌, not, ℕ, List, map}
use Rattle.est_modules.specs.Modules.{is_declared, is_input, program_of}
use Rattle.est_modules.specs.NamedNumbers.{Tells}
use Rattle.est_modules.specs.NameSets.{has}
use Rattle.est_modules.specs.OpenNames.{AreKept}
use Rattle.est_modules.specs.Visible.{is_tick}
use Rattle.est_modules.specs.declared.names.kept.Kept.{Kept}
use Rattle.est_modules.specs.declared.names.table.NameTable.{NameTable}
use Rattle.est_checks.specs.Emissions.{emitted_of}
use Rattle.est_checks.specs.Inner.Emitted.{names_emitted_by}
use Rattle.est_checks.specs.declared.input_emissions.EmitInput.{EmitInput}

-- the kept names of each module are those that it emits, the inputs of the check are those of its module, and what it
-- allows are the names that this module declares and that are neither inputs nor `tick`
pub record Bars (c : EmitInput) (t : NameTable) (ks : List Kept) : Type 0 where
  pub inputs : (s : List ℕ) → has c.inputs.now s ≡ is_input (program_of c.home.now).interface s
  pub kept : AreKept t (names_emitted_by (map program_of c.modules.now) (emitted_of c.table.now)) ks
  pub allowed : Tells t (λ s. not (is_input (program_of c.home.now).interface s || is_tick s)
      && is_declared (program_of c.home.now).interface s) c.allowed.now
