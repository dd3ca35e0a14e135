-- A table of signals by their names (this project's own form).
use Rattle.std.specs.Prelude.{◌≡◌, ◌≤◌, ℕ, List, length, map}
use Rattle.std.specs.Borrow.{Bor}
use Rattle.std.specs.Map.{keys_of, values_of}
use Rattle.est_kernel.specs.declared.interface.Declaration.{Declaration}
use Rattle.est_kernel.specs.declared.interface.TheConstants.{MOST_SIGNALS}

-- each signal stands at the text of its name
abbrev pub HasNamesAsKeys : List (Bor (List ℕ) × Declaration) → Type 0
HasNamesAsKeys es = map (λ (k : Bor (List ℕ)). k.now) (keys_of es) ≡ map (λ (d : Declaration). d.name) (values_of es)

-- each signal stands at the text of its name, and they are no more than an interface has
pub record IsTableOfSignals (es : List (Bor (List ℕ) × Declaration)) : Type 0 where
  pub named : HasNamesAsKeys es
  pub bound : length es ≤ MOST_SIGNALS
