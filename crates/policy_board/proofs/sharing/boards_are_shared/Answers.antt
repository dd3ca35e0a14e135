use denote.Param.{param}
use denote.Param.Send.{IsSend}
use Rattle.policy_board.specs.contracts.publisher.Publisher as publisher
use Rattle.policy_board.proofs.SharedBoards.{board_shares}
use Rattle.policy_board.proofs.sharing.boards_are_shared.Goals as goal

pub returns : goal.returns
returns g c =
    let sends : IsSend (publisher.the_row (param 0 g.row.B) g.B.BoardName) =
    record { owned = c.assert_send.ensures.owned; leaving = λ k d w. tt } in
    board_shares (param 0 g.row.B) g.B.BoardName sends
