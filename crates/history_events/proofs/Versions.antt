-- The version of a journal's last entry.
use Rattle.std.proofs.Common.{◌≡◌, ℕ, zero, suc, ◌+◌, List, [], ◌∷◌, length, get_or, refl, arith}
use Rattle.reactor_core.specs.declared.entry.SlotEntry.{SlotEntry}
use Rattle.history_events.specs.Runs.{last_version}

-- the last entry bears the last version
pub last_is : (version : ℕ) (entries : List SlotEntry) (place : ℕ) (d : SlotEntry) → place + 1 ≡ length entries
    → (get_or entries place d).stamp.version ≡ last_version version entries
last_is version [] place d last = absurd (omega arith)
last_is version (e ∷ []) zero d last = refl
last_is version (e ∷ []) (suc place) d last = absurd (omega arith)
last_is version (e ∷ f ∷ later) zero d last = absurd (omega arith)
last_is version (e ∷ f ∷ later) (suc place) d last = last_is e.stamp.version (f ∷ later) place d (omega arith)
