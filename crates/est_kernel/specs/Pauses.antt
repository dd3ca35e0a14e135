-- A set of pauses as the set of its bits (this project's own form).
use Rattle.std.specs.Prelude.{ℕ, zero, suc, Bool, false, ◌+◌, ◌/◌, ◌%◌, ◌||◌, slice_index}
use Rattle.est_kernel.specs.Bits.{bits}
use Rattle.est_kernel.specs.declared.pause_set.PauseSet.{PauseSet}

-- whether pause n is in the set
unfoldable pub pauses_of : PauseSet → ℕ → Bool
pauses_of s n = bits (slice_index s.words (n / 64)) (n % 64)

-- whether one of n numbers from i on passes the test
abbrev pub some_from : (ℕ → Bool) → (i n : ℕ) → Bool
some_from f i zero = false
some_from f i (suc n) = f i || some_from f (i + 1) n
