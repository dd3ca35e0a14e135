use Rattle.server_tests.proofs.table.closing.journals_of_a_closed_server.Given as goal

-- the list that was just begun
abbrev pub ghosts-play : goal.ghosts-play
ghosts-play g a = record { book = a.fresh.seen.book }
