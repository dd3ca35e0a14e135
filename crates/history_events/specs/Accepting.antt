-- What the laws of acceptance speak of (this project's own form).
use Rattle.std.specs.Prelude.{◌≡◌, ℕ, true, List, Some}
use Rattle.est_kernel.specs.Interfaces.{offerable}
use Rattle.est_kernel.specs.Term.{Term}
use Rattle.est_kernel.specs.declared.interface.Declaration.{Declaration}
use Rattle.est_relations.specs.Offers.{place_of, IsSignalName, IsOutputName, IsPendingName, IsFirstExcluded}
use Rattle.rbac_admin.specs.declared.refusal.PolicyRefusal.TheVariants as policy
use Rattle.reactor_core.specs.declared.entry.PastInstant.{PastInstant}
use Rattle.reactor_core.specs.declared.entry.SlotEntry.{SlotEntry}
use Rattle.reactor_core.specs.Answers.{IsInstant}
use Rattle.reactor_core.specs.Instants.{IsOutcome}
use Rattle.reactor_core.specs.Meaning.{Running, pending_of}
use Rattle.reactor_core.specs.declared.refusal.ModuleRefusal.TheVariants.{TooLarge}
use Rattle.access_core.specs.declared.refusal.Refusal.TheVariants.{Policy, Module, Behind, JournalFull, Memory}
use Rattle.access_core.specs.declared.reply.Reply.{Reply}
use Rattle.access_core.specs.declared.reply.Reply.TheVariants.{Refused}

-- the reply is none of Behind, SessionsExhausted, Full, JournalFull, TooLarge, Memory
abbrev pub MeetsNoLimit : Reply → Type 0
MeetsNoLimit (Refused (Behind found seen)) = ⊥
MeetsNoLimit (Refused (Policy policy.SessionsExhausted)) = ⊥
MeetsNoLimit (Refused (Policy (policy.Full table))) = ⊥
MeetsNoLimit (Refused JournalFull) = ⊥
MeetsNoLimit (Refused (Module (TooLarge limit))) = ⊥
MeetsNoLimit (Refused Memory) = ⊥
MeetsNoLimit _ = Unit {0}

-- the name is that of an input or inputoutput of the interface
pub record IsInputName (interface : List Declaration) (name : List ℕ) : Type 0 where
  pub place : ℕ
  pub there : place_of interface name ≡ Some place
  pub input : offerable interface place ≡ true

-- with the signal of this name some exclusion would be broken
abbrev pub IsExcluded : Running → (name : List ℕ) → Type 0
IsExcluded running name = (number : ℕ) × (signal : List ℕ) × IsFirstExcluded (pending_of running) name number signal

-- the name is that of a signal that is no output alone and isn't pending, and no exclusion would be broken with it
pub record CanOffer (running : Running) (name : List ℕ) : Type 0 where
  pub signal : IsSignalName running.interface name
  pub input : ¬ (IsOutputName running.interface name)
  pub new : ¬ (IsPendingName running.interface running.pending name)
  pub kept : ¬ (IsExcluded running name)

-- the n-th instant since the load is there
abbrev pub HasInstant : List SlotEntry → (n : ℕ) → Type 0
HasInstant journal n = (i : PastInstant) × IsInstant journal n i

-- the term that is left of the running module has a constructive reaction to the pending inputs
abbrev pub HasReaction : List SlotEntry → Type 0
HasReaction journal = (outputs : ℕ) × (next : Term) × IsOutcome journal outputs next
