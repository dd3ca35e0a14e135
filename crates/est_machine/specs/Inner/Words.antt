-- The words of a state, seen as a set of pauses (this project's own form).
use Rattle.std.specs.Prelude.{◌≡◌, ◌≤◌, ◌<◌, ◌+◌, ◌/◌, ◌%◌, ℕ, List, Bool, false, slice_index}
use Rattle.est_kernel.specs.Bits.{bits}
use Rattle.est_kernel.specs.declared.state.State.{State}
use Rattle.est_machine.specs.Saved.{is_paused_at, kind_of}

-- whether pause i is set in the words of the pauses
abbrev pub has_bit : List ℕ → ℕ → Bool
has_bit words i = bits (slice_index words (33 + i / 64)) (i % 64)

-- the words are those of a state
pub record AreStateWords (x : State) (words : List ℕ) : Type 0 where
  pub kind : slice_index words 32 ≡ kind_of x
  pub pauses : (i : ℕ) → i < 2048 → has_bit words i ≡ is_paused_at x i
  pub beyond : (i : ℕ) → 2048 ≤ i → is_paused_at x i ≡ false
