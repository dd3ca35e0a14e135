use Rattle.server_tests.proofs.threads.workers.two_at_once.Given as goal

-- the list that was just begun
abbrev pub ghosts-serve_two : goal.ghosts-serve_two
ghosts-serve_two g a = record { book = a.fresh.seen.book }
