-- Threads may share a board, and a table of slots. A search of its own would walk through sixteen slots, and end at its
-- limit of steps.
use denote.RattleType.{RattleType}
use denote.Param.Send.{IsSend, IsSync, view_send, sendable}
use denote.Param.SendFields.{declared_send, declared_sync, as_row_send}
use Rattle.std.proofs.Crossing.{crosses}
use Rattle.std.proofs.MapsCrossing as maps
use Rattle.std.specs.contracts.option.Option as option
use Rattle.est_kernel.proofs.statement.Statement.TheLaws.TheKnot as statement
use Rattle.est_kernel.proofs.statement.Test.TheLaws.TheKnot as test
use Rattle.reactor_core.specs.contracts.journal.Journal as journal
use Rattle.reactor_core.specs.contracts.reactor.Reactor as reactor
use Rattle.access_core.specs.contracts.slot.Slot as slot
use Rattle.policy_board.specs.declared.board_name.BoardName.{Ghosts}
use Rattle.policy_board.proofs.SharedBoards.{option_sends}
use Rattle.policy_board.specs.contracts.reader.IdleReader as reader
use Rattle.slot_table.specs.contracts.slot.LockedSlot as locked
use Rattle.slot_table.specs.contracts.slot.LockedSlot.TheInside as inside
use Rattle.slot_table.specs.contracts.table.SlotTable as table

journal_sends : IsSend journal.the_row
journal_sends = search (sendable, crosses, maps.crosses) depth 60 fits 20000

reactor_sends : IsSend reactor.the_row
reactor_sends = search (journal_sends, statement.crosses, test.crosses, crosses, maps.crosses, sendable) depth 60
    fits 20000

slot_sends : IsSend slot.the_row
slot_sends = search (journal_sends, reactor_sends, statement.crosses, test.crosses, crosses, maps.crosses, sendable)
    depth 60 fits 20000

module _ (B : RattleType) (g : Ghosts B.Denot) (reader_sends : IsSend (reader.the_row B g)) where
  inside_sends : (N : RattleType) → IsSend (inside.the_row B N g)
  inside_sends N = declared_send (inside.the_type B N g) (
    slot_sends,
    (as_row_send (option.the_field (reader.the_row B g)) (option_sends (reader.the_row B g) reader_sends), tt),
  )

  locked_sends : (N : RattleType) → IsSend (locked.the_row B N g)
  locked_sends N = view_send (inside.the_row B N g) _ _ _ _ (inside_sends N)

  pub table_shares : IsSync (table.the_row B g)
  table_shares = declared_sync (table.the_type B g) (search (locked_sends, crosses, sendable) depth 60 fits 20000)
