-- A line's JSON value, written anew.
use Rattle.std.specs.Prelude.{◌≡◌, ℕ, List, Some, String, string_bytes, Result, Ok, Err}
use Rattle.std.specs.declared.alloc.Global.{Global}
use Rattle.serde_json.specs.Data.{Data}
use Rattle.serde_json.specs.Read.{read}
use Rattle.serde_json.specs.Written.{IsInOrder}
use Rattle.access_core.specs.declared.refusal.Refusal.{Refusal}
use Rattle.access_core.specs.declared.refusal.Refusal.TheVariants as refusal
use Rattle.wire_lines.specs.Requests.{IsValue}

-- the text has the members of the line's value in the order of their keys, and reads as that value; NotJson where the
-- line has no value; Memory where memory was refused
abbrev pub IsOrdered : List ℕ → Result (String Global) Refusal → Type 0
IsOrdered line (Ok text) = (d : Data) × IsValue line d × IsInOrder (string_bytes text) d
    × (read (string_bytes text) ≡ Some d)
IsOrdered line (Err refusal.NotJson) = (d : Data) → IsValue line d → ⊥
IsOrdered line (Err refusal.Memory) = Unit {0}
IsOrdered line (Err _) = ⊥
