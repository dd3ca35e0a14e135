-- Lists of cells, and how many of them are decided (this project's own form).
use Rattle.std.specs.Prelude.{◌≡◌, ◌≢◌, ◌≤◌, ◌<◌, ℕ, Bool, true, false, List, Option, Some, None, get_or, length}
use Rattle.std.specs.List.{sum_by}
use Rattle.est_meaning.specs.declared.status.Status.{Status}
use Rattle.est_meaning.specs.declared.status.Status.TheVariants.{Present, Absent, Unknown}
use Rattle.est_cells.specs.Tables.{is_sure}

-- 1 for a cell that is decided, 0 for one that is open
abbrev pub steps_of : Status → ℕ
steps_of Present = 1
steps_of Absent = 1
steps_of Unknown = 0

-- how many cells are decided
abbrev pub decided : List Status → ℕ
decided cells = sum_by steps_of cells

-- what a cell with this value knows
abbrev pub known_as : Bool → Status
known_as true = Present
known_as false = Absent

-- the value of a cell, if it is decided
abbrev pub value_of : Status → Option Bool
value_of Present = Some true
value_of Absent = Some false
value_of Unknown = None

-- the cell at a place; after the last one there is none that could be true
abbrev pub cell_at : List Status → ℕ → Status
cell_at cells i = get_or cells i Absent

-- whether the cell at a place is true
abbrev pub true_at : List Status → ℕ → Bool
true_at cells i = is_sure (cell_at cells i)

-- what a cell knows once it is told something: an open cell takes it over, a decided one stays as it is
abbrev pub learned : Status → Status → Status
learned Present w = Present
learned Absent w = Absent
learned Unknown w = w

-- one cell is told something, and no other changes: at most one step is made, and where none is made nothing changes
pub record Learns (cell : ℕ) (now : Status) (old new : List Status) : Type 0 where
  pub here : cell_at new cell ≡ learned (cell_at old cell) now
  pub others : (i : ℕ) → (i < cell) → cell_at new i ≡ cell_at old i
  pub later : (i : ℕ) → (cell < i) → cell_at new i ≡ cell_at old i
  pub size : length new ≡ length old
  pub more : decided old ≤ decided new
  pub quiet : decided new ≡ decided old → new ≡ old

-- no cell from place lo on and before place hi is true
unfoldable pub NoneTrue : (lo hi : ℕ) → List Status → Type 0
NoneTrue lo hi cells = (i : ℕ) → lo ≤ i → i < hi → cell_at cells i ≢ Present

-- whether a cell is decided
abbrev pub is_known : Status → Bool
is_known Present = true
is_known Absent = true
is_known Unknown = false

-- whether a cell is open
abbrev pub is_open : Status → Bool
is_open Present = false
is_open Absent = false
is_open Unknown = true

-- each cell from place lo on and before place hi is open
unfoldable pub AllOpen : (lo hi : ℕ) → List Status → Type 0
AllOpen lo hi cells = (i : ℕ) → lo ≤ i → i < hi → cell_at cells i ≡ Unknown

-- each cell from place lo on and before place hi is decided
unfoldable pub AllDecided : (lo hi : ℕ) → List Status → Type 0
AllDecided lo hi cells = (i : ℕ) → lo ≤ i → i < hi → cell_at cells i ≢ Unknown

-- the cells from place lo on and before place hi are false, and no others have changed
pub record AreFalse (lo hi : ℕ) (old new : List Status) : Type 0 where
  pub false_now : (i : ℕ) → lo ≤ i → i < hi → cell_at new i ≡ Absent
  pub before : (i : ℕ) → i < lo → cell_at new i ≡ cell_at old i
  pub after : (i : ℕ) → hi ≤ i → cell_at new i ≡ cell_at old i
  pub size : length new ≡ length old
  pub more : decided old ≤ decided new
  pub quiet : decided new ≡ decided old → new ≡ old
