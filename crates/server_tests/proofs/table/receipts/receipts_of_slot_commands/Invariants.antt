use Rattle.server_tests.proofs.table.receipts.receipts_of_slot_commands.Given as goal

-- the list that was just begun
abbrev pub ghosts-play : goal.ghosts-play
ghosts-play g a = record { book = a.fresh.seen.book }
