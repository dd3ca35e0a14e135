-- Sets of cells as bits, and the first of a set (this project's own form).
use Rattle.std.specs.Prelude.{◌≡◌, ◌≤◌, ◌<◌, ◌/◌, ◌%◌, ℕ, Bool, true, false, List, get_or}
use mathlib.Core.Bool.{Bool-set}
use Rattle.est_kernel.specs.Bits.{bits}
use Rattle.est_meaning.specs.declared.status.Status.{Status}
use Rattle.est_net.specs.Cells.{true_at}

-- whether a cell's bit is set, 64 cells a word
unfoldable pub marked : List ℕ → ℕ → Bool
marked words cell = bits (get_or words (cell / 64) 0) (cell % 64)

-- the cells whose bits are set are those that are true
unfoldable pub AreTrueCells : (words : List ℕ) → (cells : List Status) → Type 0
AreTrueCells words cells = (i : ℕ) → marked words i ≡ true_at cells i

-- that has one proof, so a table can keep it
pub AreTrueCells-prop : (words : List ℕ) (cells : List Status) → IsProp (AreTrueCells words cells)
unfolding AreTrueCells
AreTrueCells-prop words cells = hlevel Bool-set

-- no number from lo on and before hi is in the set
unfoldable pub NoneIn : (ℕ → Bool) → (lo hi : ℕ) → Type 0
NoneIn set lo hi = (i : ℕ) → lo ≤ i → i < hi → set i ≡ false

-- the first number of a set from lo on and before hi
pub record IsFirstIn (set : ℕ → Bool) (lo hi first : ℕ) : Type 0 where
  pub after : lo ≤ first
  pub before : first < hi
  pub here : set first ≡ true
  pub none : NoneIn set lo first
