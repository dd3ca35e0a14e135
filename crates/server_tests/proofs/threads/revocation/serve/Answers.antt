use denote.Param.{param}
use denote.Param.Send.{IsSend}
use Rattle.policy_board.specs.contracts.reader.IdleReader as reader
use Rattle.client_loop.proofs.Sharing.{table_shares}
use Rattle.server_tests.proofs.threads.revocation.serve.Goals as goal

pub play-giver-requires-sync-T : goal.play-giver-requires-sync-T
play-giver-requires-sync-T g c =
    let reads : IsSend (reader.the_row (param 0 g.row.B) g.B.BoardName) =
    record { owned = c.assert_send.ensures.owned; leaving = λ k d w. tt } in
    let shares = table_shares (param 0 g.row.B) g.B.BoardName reads in
    search shares
