-- How many workers there may be (this project's own form).
use Rattle.std.specs.Prelude.{◌&&◌, ℕ, Bool, nat_le}
use Rattle.program_words.specs.declared.invocation.TheConstants.{MOST_WORKERS}

-- this number of workers is allowed
abbrev pub may_work : (count : ℕ) → Bool
may_work count = nat_le 1 count && nat_le count MOST_WORKERS
