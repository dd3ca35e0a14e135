-- What answers the lines of a connection, beside the desk that it is lent, for private clauses.
use Rattle.client_loop.specs.declared.line_answerer.LineAnswerer.{LineAnswerer}
use Rattle.client_loop.specs.LineSteps.{DeskAndLogin, with_login}
use Rattle.client_loop.specs.Logins.{session_of}

-- the desk, and the session of the login that is held
abbrev pub seen_of : {D : Type 0} → (LineAnswerer × D) → DeskAndLogin D
seen_of both = with_login both.1 (session_of both.0.login)
