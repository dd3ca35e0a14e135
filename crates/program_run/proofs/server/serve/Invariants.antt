use Rattle.program_run.proofs.server.serve.Given as goal

-- the list that was just begun
abbrev pub ghosts-serve_source : goal.ghosts-serve_source
ghosts-serve_source g a = record { book = a.fresh.seen.book }
