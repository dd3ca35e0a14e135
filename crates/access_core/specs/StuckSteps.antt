-- When a step is answered Stuck (this project's own form).
use Rattle.std.specs.Prelude.{◌≡◌, ◌⊎◌, ℕ, List, true}
use Rattle.rbac_policy.specs.declared.commands.Entry.{Entry}
use Rattle.rbac_policy.specs.declared.objects.Operation.TheVariants.{Step as ToStep}
use Rattle.rbac_policy.specs.declared.objects.Object.TheVariants.{Slot}
use Rattle.rbac_policy.specs.Facts.{IsLive, May}
use Rattle.reactor_core.specs.declared.entry.Move.TheVariants.{Step}
use Rattle.reactor_core.specs.declared.entry.SlotEntry.{SlotEntry}
use Rattle.reactor_core.specs.Meaning.{is_loaded}
use Rattle.reactor_core.specs.Instants.{HasNoOutcome, KeepsRelations}
use Rattle.access_core.specs.declared.command.SlotCommand.{SlotCommand}
use Rattle.access_core.specs.declared.command.SlotCommand.TheVariants.{Move}
use Rattle.access_core.specs.declared.refusal.Refusal.TheVariants.{Stuck, Memory}
use Rattle.access_core.specs.declared.reply.Reply.{Reply}
use Rattle.access_core.specs.declared.reply.Reply.TheVariants.{Refused}
use Rattle.access_core.specs.SlotStep.{NamesUndecided}

-- the command is a step that reaches the reactor: the session lives and may step the slot, a module runs there, and
-- each of its relations holds of the pending inputs
pub record ReachesReactor (entries : List Entry) (slot session : ℕ) (command : SlotCommand)
    (journal : List SlotEntry) : Type 0 where
  pub steps : command ≡ Move (Step (record {}))
  pub lives : IsLive entries session
  pub may : May entries session ToStep (Slot slot)
  pub loaded : is_loaded journal ≡ true
  pub ready : KeepsRelations journal

-- the reply is Stuck exactly when the pending inputs have no constructive reaction, except that memory may be refused:
-- it is Stuck only where there is none, and names what NamesUndecided says; and where there is none it is Stuck, or
-- memory was refused
pub record IsStuckExactly (entries : List Entry) (slot session : ℕ) (journal : List SlotEntry)
    (reply : Reply) : Type 0 where
  pub only : (names : List (List ℕ)) → reply ≡ Refused (Stuck names)
      → NamesUndecided entries slot session journal (Stuck names)
  pub whenever : (undecided : ℕ) → HasNoOutcome journal undecided
      → ((names : List (List ℕ)) × (reply ≡ Refused (Stuck names))) ⊎ (reply ≡ Refused Memory)
