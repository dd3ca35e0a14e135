use Rattle.client_loop.proofs.LeavingLemmas.{left_none, left_some}
use Rattle.client_loop.specs.Logins.{none_held}
use Rattle.client_loop.proofs.serving.leave.Goals as goal

pub returns-in_default : goal.returns-in_default
returns-in_default g c = rw c.in_default.is (none_held _)

pub returns-in-Ok : goal.returns-in-Ok
returns-in-Ok g c = rw c.in-Some.is (left_none _ _ _ _ _ c.in-Ok.ensures)

pub returns : goal.returns
returns g c = rw (c.in-Some.is, c.in-Err.ensures.1) (left_some _ _ _ _ c.in-Err.ensures.2)
