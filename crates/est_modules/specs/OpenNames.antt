-- Names of modules that are run, as far as no `signal` around a place declares them (this project's own form).
use Rattle.std.specs.Prelude.{◌≡◌, ℕ, List}
use Rattle.std.specs.List.{AllByRecursion}
use Rattle.est_modules.specs.NamedNumbers.{AreNumbers, Tells}
use Rattle.est_modules.specs.NameTables.{IsTable}
use Rattle.est_modules.specs.Occurrences.{Binder}
use Rattle.est_modules.specs.Visible.{is_local}
use Rattle.est_modules.specs.declared.names.table.NameTable.{NameTable}
use Rattle.est_modules.specs.declared.names.kept.Kept.{Kept}
use Rattle.est_modules.specs.declared.names.open.OpenNames.{OpenNames}

-- the kept names of each module are these names of it
abbrev pub AreKept : NameTable → (List ℕ → List (List ℕ)) → List Kept → Type 0
AreKept t base ks = AllByRecursion (λ (k : Kept). AreNumbers t (base k.module_name) k.numbers) ks

-- the value has this table, and these kept names
pub record IsSame (o : OpenNames) (t : NameTable) (ks : List Kept) : Type 0 where
  pub table : o.table.now ≡ t
  pub modules : o.modules.now ≡ ks

-- the kept names fit, and those are hidden that a `signal` around the place declares
abbrev pub IsOpen : (NameTable → List Kept → Type 0) → List Binder → OpenNames → Type 0
IsOpen fits bs o = fits o.table.now o.modules.now × IsTable o.table.now × Tells o.table.now (is_local bs) o.hidden
