-- What a worker has to do, and what it did (this project's own form).
use Rattle.std.specs.Prelude.{ℕ, ◌+◌, ◌≤◌, List, [], ◌∷◌}
use Rattle.server_threads.specs.declared.workers.Job.{Job}
use Rattle.server_threads.specs.declared.workers.FinishedJob.{FinishedJob}
use Rattle.server_threads.specs.Turns.{Turns}

-- the worker took no more turns than it was to take, and its seat is as they left it
pub record HasWorked {Seat : Type 0} (turn : (worker number : ℕ) → Seat → Seat → Type 0) (job : Job Seat)
    (done : FinishedJob Seat) : Type 0 where
  pub taken : Turns (turn job.worker) done.taken job.seat done.seat
  pub most : done.taken ≤ job.turns

-- the jobs of these seats, each of so many turns; workers are counted from this number on
abbrev pub jobs_of : {Seat : Type 0} → (worker turns : ℕ) → List Seat → List (Job Seat)
jobs_of worker turns [] = []
jobs_of worker turns (seat ∷ seats) =
    record { worker = worker; seat = seat; turns = turns } ∷ jobs_of (worker + 1) turns seats
