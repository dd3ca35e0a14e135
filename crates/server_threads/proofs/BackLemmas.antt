-- Seats that come back, of threads in their order, and how many turns their workers took.
use Rattle.std.proofs.Common.{◌≡◌, ◌∙◌, ◌+◌, ℕ, Bool, true, List, [], ◌∷◌, ◌++◌, map, length, refl, ap, All, suc}
use Rattle.std.proofs.Common.{arith}
use Rattle.std.specs.List.{AllZip}
use Rattle.server_threads.specs.declared.workers.Job.{Job}
use Rattle.server_threads.specs.declared.workers.FinishedJob.{FinishedJob}
use Rattle.server_threads.specs.Inner.Jobs.{HasWorked, jobs_of}
use Rattle.server_threads.specs.Turns.{AreBackFrom}

-- one thread more ends as its job asks
pub back_more : {Thread Work Worked : Type 0} (Ends : Work → Worked → Type 0) (began : Thread → Work)
    (threads : List Thread) (ended : List Worked) (thread : Thread) (last : Worked)
    → AllZip Ends (map began threads) ended → Ends (began thread) last
    → AllZip Ends (map began (threads ++ thread ∷ [])) (ended ++ last ∷ [])
back_more Ends began [] [] thread last back more = (more, tt)
back_more Ends began [] (one ∷ ended) thread last back more = absurd back
back_more Ends began (one ∷ threads) [] thread last back more = absurd back
back_more Ends began (one ∷ threads) (first ∷ ended) thread last back more =
    (back.0, back_more Ends began threads ended thread last back.1 more)

-- there are as many jobs as seats
pub jobs_long : {Seat : Type 0} (worker turns : ℕ) (seats : List Seat)
    → length (jobs_of worker turns seats) ≡ length seats
jobs_long worker turns [] = refl
jobs_long worker turns (seat ∷ seats) = ap suc (jobs_long (worker + 1) turns seats)

-- one seat more has the next worker's number
pub jobs_push : {Seat : Type 0} (worker turns : ℕ) (seats : List Seat) (seat : Seat)
    → jobs_of worker turns (seats ++ seat ∷ [])
    ≡ jobs_of worker turns seats
    ++ record { worker = worker + length seats; seat = seat; turns = turns } ∷ []
jobs_push {Seat} worker turns [] seat =
    let same : worker ≡ worker + length {A = Seat} [] = omega arith in
    ap (λ n. record { worker = n; seat = seat; turns = turns } ∷ []) same
jobs_push worker turns (one ∷ seats) seat =
    let same : (worker + 1) + length seats ≡ worker + suc (length seats) = omega arith in
    ap (λ jobs. record { worker = worker; seat = one; turns = turns } ∷ jobs)
    (jobs_push (worker + 1) turns seats seat
    ∙ ap (λ n. jobs_of (worker + 1) turns seats ++ record { worker = n; seat = seat; turns = turns } ∷ []) same)

-- as many end as there are seats
pub ended_long : {Seat Worked : Type 0} (Ends : Job Seat → Worked → Type 0) (worker turns : ℕ) (seats : List Seat)
    (ended : List Worked) → AllZip Ends (jobs_of worker turns seats) ended → length ended ≡ length seats
ended_long Ends worker turns [] [] back = refl
ended_long Ends worker turns [] (one ∷ ended) back = absurd back
ended_long Ends worker turns (seat ∷ seats) [] back = absurd back
ended_long Ends worker turns (seat ∷ seats) (one ∷ ended) back =
    ap suc (ended_long Ends (worker + 1) turns seats ended back.1)

module _ {Seat : Type 0} (turn : (worker number : ℕ) → Seat → Seat → Type 0) where
  -- the seats of workers that ended, each of which was to take this number of turns
  pub each_took : (turns : ℕ) (all : Bool) (worker : ℕ) (seats : List Seat) (ended : List (FinishedJob Seat))
      → AllZip (λ job done. HasWorked turn job done) (jobs_of worker turns seats) ended
      → (all ≡ true → All (λ done. done.taken ≡ turns) ended)
      → AreBackFrom turn turns all worker seats (map (λ done. done.seat) ended)
  each_took turns all worker [] [] back whole = tt
  each_took turns all worker [] (done ∷ ended) back whole = absurd back
  each_took turns all worker (seat ∷ seats) [] back whole = absurd back
  each_took turns all worker (seat ∷ seats) (done ∷ ended) back whole = (
    record {
      count = done.taken;
      taken = back.0.taken;
      most = back.0.most;
      exactly = λ is. whole is 0 done (omega arith);
    },
    each_took turns all (worker + 1) seats ended back.1 (λ is k d below. whole is (suc k) d (omega arith)),
  )
