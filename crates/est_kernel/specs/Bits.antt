-- A mask as the set of its bits (this project's own form).
use Rattle.std.specs.Prelude.{ℕ, Bool, nat_eq, ◌/◌, ◌%◌, ◌^◌}

-- whether bit n of the mask x is set
unfoldable pub bits : ℕ → ℕ → Bool
bits x n = nat_eq (x / 2 ^ n % 2) 1
