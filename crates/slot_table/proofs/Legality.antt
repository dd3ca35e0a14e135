-- A slot's journal goes on being legal under its lock.
use Rattle.std.proofs.Common.{◌≡◌, ℕ, List, sym, subst, inl, inr}
use Rattle.rbac_policy.specs.declared.commands.Entry.{Entry}
use Rattle.rbac_admin.specs.PolicyLists.{Begins}
use Rattle.policy_board.specs.SeatState.{SeatState}
use Rattle.policy_board.proofs.Beginnings.{begins_self, begins_push}
use Rattle.reactor_core.specs.declared.entry.SlotEntry.{SlotEntry}
use Rattle.reactor_core.specs.Meaning.{entry}
use Rattle.access_core.specs.declared.command.SlotCommand.{SlotCommand}
use Rattle.access_core.specs.declared.reply.Reply.{Reply}
use Rattle.access_core.specs.Journals.{IsLegal}
use Rattle.access_core.specs.SlotStep.{SlotStep, stamp_of}
use Rattle.access_core.proofs.Legality.{adds_one, still_legal, step_legal}
use Rattle.slot_table.specs.LockedState.{LockedState}
use Rattle.slot_table.specs.SlotCommands.{LockedCommand}

-- the slot step takes no entry away
step_begins : (list : List Entry) (slot session : ℕ) (journal : List SlotEntry) (command : SlotCommand) (reply : Reply)
    (after : List SlotEntry)
    → SlotStep list slot session command journal reply after → Begins journal after
step_begins list slot session journal command reply after step =
    elim (adds_one list slot session journal reply after command step) [
      | inl stays ↦ subst (Begins journal) (sym stays) (begins_self journal)
      | inr taken ↦ subst (Begins journal) (sym taken.added)
          (begins_push journal (entry (stamp_of list session) taken.done))
    ]

module _ (held before read left : List Entry) (slot : ℕ) (journal : List SlotEntry) where
  -- what was legal before a read is legal over the list that was read, and that the reader has seen when it is back
  pub read_legal : held ≡ before → left ≡ read → Begins held read → IsLegal before slot journal
      → IsLegal left slot journal
  read_legal same back later legal =
      subst (λ (l : List Entry). IsLegal l slot journal) (sym back)
      (still_legal before read slot journal (subst (λ (l : List Entry). Begins l read) same later) legal)

  -- what a slot step on the list that was read leaves is legal over it
  pub judged_legal : (number session : ℕ) (command : SlotCommand) (reply : Reply) (after : List SlotEntry)
      → held ≡ before → left ≡ read
      → Begins held read → IsLegal before slot journal → number ≡ slot
      → SlotStep read number session command journal reply after
      → IsLegal left slot after
  judged_legal number session command reply after same back later legal is step =
      subst (λ (l : List Entry). IsLegal l slot after) (sym back)
      (step_legal read slot journal
      (still_legal before read slot journal (subst (λ (l : List Entry). Begins l read) same later) legal)
      session command reply after (subst (λ n. SlotStep read n session command journal reply after) is step))

-- what is answered on a slot is answered on the same slot
pub command_on : (slot session : ℕ) (command : SlotCommand) (old same : LockedState) (seat : SeatState) (reply : Reply)
    (new : LockedState) (after : SeatState) → old ≡ same
    → LockedCommand slot session command old seat reply new after
    → LockedCommand slot session command same seat reply new after
command_on slot session command old same seat reply new after is h =
    subst (λ (s : LockedState). LockedCommand slot session command s seat reply new after) is h

-- a command under the lock takes nothing from journal and list, and leaves the journal legal
pub command_legal : (slot session : ℕ) (command : SlotCommand) (old : LockedState) (seat : SeatState) (reply : Reply)
    (new : LockedState) (after : SeatState)
    → LockedCommand slot session command old seat reply new after → IsLegal old.list slot old.journal
    → Begins old.journal new.journal × Begins old.list new.list × IsLegal new.list slot new.journal
command_legal slot session command old seat reply new after (inl judged) legal =
    let over = still_legal old.list new.list slot old.journal judged.later legal in (
      step_begins new.list slot session old.journal command reply new.journal judged.step,
      judged.later,
      step_legal new.list slot old.journal over session command reply new.journal judged.step,
    )
command_legal slot session command old seat reply new after (inr (inl behind)) legal = (
  subst (Begins old.journal) (sym behind.journal_stays) (begins_self old.journal),
  behind.later,
  subst (IsLegal new.list slot) (sym behind.journal_stays)
      (still_legal old.list new.list slot old.journal behind.later legal),
)
command_legal slot session command old seat reply new after (inr (inr none)) legal =
    subst (λ (n : LockedState). Begins old.journal n.journal × Begins old.list n.list × IsLegal n.list slot n.journal)
    (sym none.slot_stays)
    (begins_self old.journal, begins_self old.list, legal)
