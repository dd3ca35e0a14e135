-- What serving the connections of a socket comes to (this project's own form).
use Rattle.std.specs.Prelude.{◌≡◌, ℕ, ◌-◌, ◌^◌, List, ◌⊎◌, Option, None, Result, Err, ⊤, true, replicate, unwrap_or}
use Rattle.std.specs.Io.KnownBytes.{Keeps}
use Rattle.std.specs.declared.net.unix.UnixStream.{UnixStream}
use Rattle.rbac_policy.specs.declared.commands.Entry.{Entry}
use Rattle.reactor_core.specs.declared.entry.SlotEntry.{SlotEntry}
use Rattle.history_receipts.specs.declared.mismatch.Mismatch.{Mismatch}
use Rattle.history_merge.specs.OneList.{AreOfOneList}
use Rattle.history_laws.specs.CallsInTurn.{AreOfOneRun}
use Rattle.policy_board.specs.SeatState.{SeatState, new_seat}
use Rattle.slot_table.specs.Closing.{AllRise, IsJustified, kept_of}
use Rattle.server_threads.specs.Turns.{AreBack}
use Rattle.client_loop.specs.Workers.{ServesNext}
use Rattle.audit_report.specs.Findings.{HaveNoFinding}
use Rattle.program_run.specs.declared.fault.Fault.{Fault}
use Rattle.program_run.specs.declared.fault.Fault.TheVariants as fault
use Rattle.program_run.specs.Reports.{Reports}

-- how many connections each worker is to serve: as many as are asked for, or as can be counted
abbrev pub quota_of : (connections : Option ℕ) → ℕ
quota_of connections = unwrap_or connections (2 ^ 64 - 1)

-- what one connection of a worker, by its number, does to the worker's seat
abbrev pub Turn : Type 1
Turn = (worker number : ℕ) → (before after : SeatState) → Type 0

-- a connection of a socket, over whatever bytes, since its streams tell none, and of whichever client
abbrev pub ServesOverSocket : Turn
ServesOverSocket worker number before after =
    ServesNext {I = UnixStream} {O = UnixStream} (λ r. None) (λ w. None) (λ w n c. ⊤) (λ w n s. ⊤) worker number before
    after

-- each of n workers served its connections to their ends, one after another, at a new seat of its own: exactly as many
-- as are asked for. These are the seats afterwards
abbrev pub ServesAll : Turn → (workers : ℕ) → (connections : Option ℕ) → (seats : List SeatState) → Type 0
ServesAll turn workers connections seats =
    AreBack turn (quota_of connections) true (replicate workers new_seat) seats

-- the journals of a server that is closed with these seats. They are those of one run of the calls whose receipts the
-- seats keep. One list of events has the journals, and what the seats keep, as its parts. What each seat keeps is in
-- the right order. An audit finds nothing
pub record AreHistories (seats : List SeatState) (policy : List Entry) (slots : List (List SlotEntry)) : Type 0 where
  pub run : AreOfOneRun policy slots (kept_of seats)
  pub one : AreOfOneList policy slots (kept_of seats)
  pub rises : AllRise (kept_of seats)
  pub sound : HaveNoFinding policy slots

-- the report on the journals is written, or memory was refused for it, or its writer failed
pub record ReportsHistories (seats : List SeatState) (answer : Result ⊤ Fault)
    (written after : Option (List ℕ)) : Type 0 where
  pub policy : List Entry
  pub slots : List (List SlotEntry)
  pub are : AreHistories seats policy slots
  pub reports : Reports policy slots written answer after

-- journals and receipts don't match, and nothing is written
pub record TellsMismatch (seats : List SeatState) (answer : Result ⊤ Fault)
    (written after : Option (List ℕ)) : Type 0 where
  pub mismatch : Mismatch
  pub justified : IsJustified (kept_of seats) mismatch
  pub told : answer ≡ Err fault.Mismatch
  pub silent : Keeps written after

-- what follows the last of all connections
abbrev pub ClosesServer : (seats : List SeatState) → Result ⊤ Fault → (written after : Option (List ℕ)) → Type 0
ClosesServer seats answer written after = ReportsHistories seats answer written after
    ⊎ TellsMismatch seats answer written after

-- all connections that are asked for are served to their ends, and the server is closed
pub record ServesAndCloses (turn : Turn) (workers : ℕ) (connections : Option ℕ) (answer : Result ⊤ Fault)
    (written after : Option (List ℕ)) : Type 0 where
  pub seats : List SeatState
  pub back : ServesAll turn workers connections seats
  pub closes : ClosesServer seats answer written after

-- a fault of memory or of the socket, and nothing is written
pub record FailsToServe (answer : Result ⊤ Fault) (written after : Option (List ℕ)) : Type 0 where
  pub given : Fault
  pub told : answer ≡ Err given
  pub named : given ≡ fault.Memory ⊎ given ≡ fault.Socket
  pub silent : Keeps written after

-- each worker serves as many connections as are asked for, and the server is closed; or memory was refused before, or
-- the source had no connection more
abbrev pub ServesSource : Turn → (workers : ℕ) → (connections : Option ℕ) → Result ⊤ Fault
    → (written after : Option (List ℕ)) → Type 0
ServesSource turn workers connections answer written after =
    ServesAndCloses turn workers connections answer written after ⊎ FailsToServe answer written after
