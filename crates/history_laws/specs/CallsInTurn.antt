-- The calls of which receipts tell, one at a time: the run of one list of events (this project's own form).
use Rattle.std.specs.Prelude.{◌≡◌, ◌<◌, ℕ, List, ◌∷◌, [], ◌++◌, length, map}
use Rattle.std.specs.List.{AllZip}
use Rattle.rbac_policy.specs.declared.commands.Entry.{Entry}
use Rattle.reactor_core.specs.declared.entry.SlotEntry.{SlotEntry}
use Rattle.reactor_core.specs.Meaning.{PastMove, asked, word_of, signal_of}
use Rattle.access_core.specs.declared.command.SlotCommand.TheVariants.{Move}
use Rattle.access_core.specs.declared.reply.Reply.{Reply}
use Rattle.access_core.specs.Desk.{accepted_reply}
use Rattle.access_core.specs.Needs.{IsAccepted}
use Rattle.access_core.specs.SlotState.{SlotState}
use Rattle.access_core.specs.SlotStep.{tells_added}
use Rattle.history_events.specs.declared.event.TheConstants.{SEATS}
use Rattle.history_events.specs.declared.event.Event.TheVariants as event
use Rattle.history_events.specs.OneRun.{events_of}
use Rattle.history_events.specs.Runs.{WorldState, Moment, IsRun, EndsIn, world_after, opening_world, journal_at}
use Rattle.history_receipts.specs.declared.receipt.SlotReceipt.{SlotReceipt}
use Rattle.history_receipts.specs.declared.receipt.Kept.{Kept}
use Rattle.history_merge.specs.ToldCalls.{ToldCall, Publishes, Commands}
use Rattle.history_merge.specs.OneList.{HasParts}

-- the moment is the call of which this seat keeps the receipt of this entry: the entry's command, which the entry's
-- session gives through the seat, is accepted and adds the entry to the policy list, which then has this version; and
-- the reply tells so
pub record IsPolicyCall (seat version : ℕ) (entry : Entry) (m : Moment) : Type 0 where
  pub seated : seat < SEATS
  pub is : m.event ≡ event.Admin seat entry.session entry.command
  pub accepted : IsAccepted m.reply
  pub told : m.reply ≡ accepted_reply m.before.entries entry.command
  pub added : m.after.entries ≡ m.before.entries ++ entry ∷ []
  pub makes : length m.after.entries ≡ version

-- the moment is the call of which this seat keeps this receipt: through the seat, the receipt's session gave on its
-- slot, at its version, the command of a move of its word and its signal. The command was accepted, the slot's
-- journal then ends at the receipt's place, and the reply tells so
pub record IsSlotCall (seat : ℕ) (r : SlotReceipt) (m : Moment) : Type 0 where
  pub seated : seat < SEATS
  pub done : PastMove
  pub word : word_of done ≡ r.word
  pub signal : signal_of done ≡ r.signal
  pub is : m.event ≡ event.OnSlot seat r.version r.slot r.session (Move (asked done))
  pub accepted : IsAccepted m.reply
  pub told : m.reply ≡ tells_added r.word r.version (journal_at m.after r.slot)
  pub place : length (journal_at m.after r.slot) ≡ r.place

-- the moment is the call of which the event tells
abbrev pub IsCallOf : ToldCall → Moment → Type 0
IsCallOf (Publishes seat version entry) = IsPolicyCall seat version entry
IsCallOf (Commands seat r) = IsSlotCall seat r

-- policy list and journals are those of the world
pub record AreOfWorld (policy : List Entry) (journals : List (List SlotEntry)) (world : WorldState) : Type 0 where
  pub entries : world.entries ≡ policy
  pub slots : map (λ (slot : SlotState). slot.journal) world.slots ≡ journals

-- the run is that of the events, one call for each and in their order, and it leaves this policy list and these
-- journals
pub record IsRunOf (policy : List Entry) (journals : List (List SlotEntry)) (events : List ToldCall) (run : List Moment)
    : Type 0 where
  pub is : IsRun run
  pub calls : AllZip IsCallOf events run
  pub leaves : AreOfWorld policy journals (world_after opening_world run)

-- there is one list of events, of which the policy list, the journals and the seats' receipts are the parts, and a run
-- of the calls of which these events tell, which leaves this policy list and these journals. None is refused as Behind:
-- each is accepted
pub record AreOfOneRun (policy : List Entry) (journals : List (List SlotEntry))
    (seats : List (List Kept)) : Type 0 where
  pub events : List ToldCall
  pub parts : HasParts policy journals seats events
  pub run : List Moment
  pub ran : IsRunOf policy journals events run

-- if the calls of such a run are made one after another from the opening on, their replies are those of the run, and
-- they leave this policy list and these journals
abbrev pub CallsEndInJournals : Type 0
CallsEndInJournals =
    (policy : List Entry) (journals : List (List SlotEntry)) (seats : List (List Kept))
    (one : AreOfOneRun policy journals seats)
    (replies : List Reply) (world : WorldState) → EndsIn (events_of one.run) replies world
    → (replies ≡ map (λ (m : Moment). m.reply) one.run) × AreOfWorld policy journals world
