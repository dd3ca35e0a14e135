use Rattle.server_tests.proofs.table.closing.a_seat_that_is_held_back.Given as goal

-- the list that was just begun
abbrev pub ghosts-play : goal.ghosts-play
ghosts-play g a = record { book = a.fresh.seen.book }
