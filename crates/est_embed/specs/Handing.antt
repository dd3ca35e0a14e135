-- What C is handed by a load (this project's own form).
use Rattle.std.specs.Prelude.{◌≢◌, ℕ, List, Option, Some, None}
use base.Fml.{Fml, ftrue}
use base.Fraction.{full_share}
use denote.RattleType.{RattleType}
use denote.RawPtr.{Ptr, lies_at}
use Rattle.est_host.specs.Faults.{IsStarted}
use Rattle.est_host.specs.declared.running.HostedMachine.{HostedMachine}

-- the value, if there is one, lies at the pointer, and all of it is the owner's
abbrev pub lies_there : (R : RattleType) → Option R.Denot → Ptr → Fml
lies_there R None at = ftrue
lies_there R (Some x) at = lies_at R full_share at x

-- with status 0 a load hands out a machine that has not begun, and with any other nothing
pub data IsHanded (main text : List ℕ) : (status : ℕ) → Option HostedMachine → Type 0 where
  handed : (r : HostedMachine) → IsStarted main text r → IsHanded main text 0 (Some r)
  refused : {status : ℕ} → status ≢ 0 → IsHanded main text status None
