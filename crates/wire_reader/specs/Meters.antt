-- What a metered read does (this project's own form).
use Rattle.std.specs.Prelude.{◌≡◌, ◌<◌, ◌||◌, ◌==◌, ℕ, List, length, take, Option, Some, None, Bool, true, ◌⊎◌, nat_lt}
use Rattle.std.specs.Io.KnownBytes.{Consumes, Keeps, IsAtEnd}
use Rattle.wire_reader.specs.declared.meter.TheConstants.{MOST_FAULTS}

-- a read took the front of what was left, and nothing only at the end, or gave up and took nothing
abbrev pub Reads : (before after : Option (List ℕ)) → (count : Option ℕ) → (room : List ℕ) → Type 0
Reads before after None room = Keeps before after
Reads before after (Some n) room = Consumes before after (take n room) × (n ≡ 0 → 0 < length room → IsAtEnd after)

-- a fault was counted meanwhile: the count is larger after than before, or was at its top, where it stays
abbrev pub has_failed : (before after : ℕ) → Bool
has_failed before after = nat_lt before after || before == MOST_FAULTS

-- the reader failed, or no read is left
abbrev pub IsStopped : (failed : Bool) → (left : ℕ) → Type 0
IsStopped failed left = (failed ≡ true) ⊎ (left ≡ 0)
