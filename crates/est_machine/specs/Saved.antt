-- Where a machine stands, as words that can be kept outside of it (this project's own form).
use Rattle.std.specs.Prelude.{◌≡◌, ◌<◌, ◌+◌, ◌*◌, ℕ, List, Bool, false, slice_index}
use Rattle.est_kernel.specs.Bits.{bits}
use Rattle.est_kernel.specs.Pauses.{pauses_of}
use Rattle.est_kernel.specs.declared.state.State.{State}
use Rattle.est_kernel.specs.declared.state.State.TheVariants.{Fresh, Done, Paused}
use Rattle.est_machine.specs.Machines.{MachineState}

-- the number of a state's kind
abbrev pub kind_of : State → ℕ
kind_of Fresh = 0
kind_of Done = 1
kind_of (Paused pauses) = 2

-- the pauses of a state
abbrev pub is_paused_at : State → ℕ → Bool
is_paused_at Fresh i = false
is_paused_at Done i = false
is_paused_at (Paused pauses) i = pauses_of pauses i

-- the word of this place keeps its part of a digest and a state: first come a word for each byte of the digest, then
-- the
-- number of the state's kind, and then words with a bit for each pause
pub record IsSavedWord (digest : List ℕ) (x : State) (place word : ℕ) : Type 0 where
  pub digest_byte : place < 32 → word ≡ slice_index digest place
  pub kind : place ≡ 32 → word ≡ kind_of x
  pub pauses : (k : ℕ) → place ≡ 33 + k → (i : ℕ) → i < 64 → bits word i ≡ is_paused_at x (64 * k + i)

-- words keep where a machine stands
abbrev pub AreSaved : MachineState → List ℕ → Type 0
AreSaved m words = (n : ℕ) → n < 65 → IsSavedWord m.2 m.3 n (slice_index words n)
