use Rattle.server_tests.proofs.threads.revocation.revoked_is_denied.Given as goal

-- the list that was just begun
abbrev pub ghosts-serve : goal.ghosts-serve
ghosts-serve g a = record { book = a.fresh.seen.book }
