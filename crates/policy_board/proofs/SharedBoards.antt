-- Threads may share a board, if its policy's writer may go from one to the other. A search of its own would walk
-- through all that lies under the lock, and end at its limit of steps.
use denote.RattleType.{RattleType}
use denote.Param.Send.{IsSend, IsSync, view_send, sendable}
use denote.Param.SendFields.{declared_send, declared_sync, as_row_send}
use Rattle.std.proofs.Crossing.{crosses}
use Rattle.std.proofs.MapsCrossing as maps
use Rattle.std.specs.contracts.option.Option as option
use Rattle.rbac_policy.specs.contracts.journal.PolicyJournal as journal
use Rattle.policy_board.specs.declared.board_name.BoardName.{Ghosts}
use Rattle.policy_board.specs.contracts.board.Board as board
use Rattle.policy_board.specs.contracts.locked_policy.LockedPolicy as locked
use Rattle.policy_board.specs.contracts.locked_policy.LockedPolicy.TheInside as inside
use Rattle.policy_board.specs.contracts.publisher.Publisher as publisher

journal_sends : IsSend journal.the_row
journal_sends = search (sendable, crosses, maps.crosses) depth 60 fits 20000

pub option_sends : (R : RattleType) → IsSend R → IsSend (option.the_field R).row
option_sends R sends = search sendable depth 12

module _ (B : RattleType) (g : Ghosts B.Denot) (sends : IsSend (publisher.the_row B g)) where
  inside_sends : IsSend (inside.the_row B g)
  inside_sends = declared_send (inside.the_type B g) (
    as_row_send (option.the_field (publisher.the_row B g)) (option_sends (publisher.the_row B g) sends),
    (journal_sends, tt),
  )

  locked_sends : IsSend (locked.the_row B g)
  locked_sends = view_send (inside.the_row B g) _ _ _ _ inside_sends

  pub board_shares : IsSync (board.the_row B g)
  board_shares = declared_sync (board.the_type B g) (
    search (locked_sends, crosses) depth 12,
    (search (crosses, sendable) depth 12, (search crosses depth 12, tt)),
  )
