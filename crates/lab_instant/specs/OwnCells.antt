-- The cells of statements, one after another (this project's own form).
use Rattle.std.specs.Prelude.{ℕ, ◌+◌, Bool, cond, List, Option, None, Some, length, slice_get}
use Rattle.est_net.specs.declared.owners.CellKind.{CellKind}
use Rattle.est_net.specs.declared.owners.CellKind.TheVariants.{Go, Code, Status as OfSignal}
use Rattle.est_net.specs.declared.owners.StatementCell.{StatementCell}
use Rattle.lab_instant.specs.Seen.{found_below}

-- how many a statement has of its own inside so many traps: one more if it declares a signal
abbrev pub own_count : (traps : ℕ) → (declares : Bool) → ℕ
own_count traps declares = cond declares (traps + 4) (traps + 3)

-- the place, if the cell there tells the status of a local signal
abbrev pub signal_by_kind : CellKind → ℕ → Option ℕ
signal_by_kind Go place = None
signal_by_kind (Code k) place = None
signal_by_kind OfSignal place = Some place

abbrev pub signal_at : Option StatementCell → ℕ → Option ℕ
signal_at None place = None
signal_at (Some o) place = signal_by_kind o.kind place

-- the places of those that do, among these cells
abbrev pub signal_places : List StatementCell → List ℕ
signal_places owners = found_below (λ x. signal_at (slice_get owners x) x) (length owners)
