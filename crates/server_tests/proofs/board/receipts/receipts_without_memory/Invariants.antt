use Rattle.server_tests.proofs.board.receipts.receipts_without_memory.Given as goal

-- the list that was just begun
abbrev pub ghosts-play : goal.ghosts-play
ghosts-play g a = record { book = a.fresh.seen.book }
