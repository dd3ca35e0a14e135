use denote.Param.{param}
use denote.Param.Send.{IsSend}
use Rattle.policy_board.specs.contracts.reader.IdleReader as reader
use Rattle.client_loop.proofs.Sharing.{table_shares}
use Rattle.client_loop.proofs.workers.run_workers.Goals as goal

pub run_server-back-requires-sync-T : goal.run_server-back-requires-sync-T
run_server-back-requires-sync-T g c =
    let reads : IsSend (reader.the_row (param 0 g.row.B) g.B.BoardName) =
    record { owned = c.assert_send.ensures.owned; leaving = λ k d w. tt } in
    let shares = table_shares (param 0 g.row.B) g.B.BoardName reads in
    search shares

pub run_server-back-requires-sync-L : goal.run_server-back-requires-sync-L
run_server-back-requires-sync-L g c = search c.boards_are_shared.ensures
