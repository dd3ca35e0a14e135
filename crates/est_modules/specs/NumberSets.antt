-- Sets of numbers, by the bits of their words (this project's own form).
use Rattle.std.specs.Prelude.{ℕ, Bool, ◌/◌, ◌%◌, slice_index}
use Rattle.est_kernel.specs.Bits.{bits}
use Rattle.est_modules.specs.declared.names.set.NumberSet.{NumberSet}

-- whether the number is in the set
unfoldable pub numbers_of : NumberSet → ℕ → Bool
numbers_of s i = bits (slice_index s.words.items (i / 64)) (i % 64)
