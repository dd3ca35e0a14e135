use Rattle.server_tests.proofs.board.asking.refusals_leave_the_list.Given as goal

-- the list that was just begun
abbrev pub ghosts-play : goal.ghosts-play
ghosts-play g a = record { book = a.fresh.seen.book }
