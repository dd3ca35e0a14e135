use Rattle.server_tests.proofs.board.receipts.slot_commands_are_counted.Given as goal

-- the list that was just begun
abbrev pub ghosts-play : goal.ghosts-play
ghosts-play g a = record { book = a.fresh.seen.book }
