-- What becomes of the seats of workers that take turns (this project's own form).
use Rattle.std.specs.Prelude.{◌≡◌, ℕ, ◌+◌, ◌≤◌, List, [], ◌∷◌, Bool, true, ⊤}
use Rattle.server_threads.specs.declared.workers.Turn.{Turn}
use Rattle.server_threads.specs.declared.workers.Turn.TheVariants.{Taken, Over}

-- a turn was taken, and left the seat so; or there was none to take, and the seat is as it was
abbrev pub IsTurn : {Seat : Type 0} → (turn : Seat → Seat → Type 0) → (before : Seat) → Turn Seat → Type 0
IsTurn turn before (Taken after) = turn before after
IsTurn turn before (Over after) = after ≡ before

-- the turns with the numbers 0, 1, .. up to this count, each from where the one before it left the seat
pub data Turns {Seat : Type 0} (turn : (number : ℕ) → Seat → Seat → Type 0) : (count : ℕ) → (before after : Seat)
    → Type 0 where
  none_yet : (seat : Seat) → Turns turn 0 seat seat
  one_more : (count : ℕ) (before now after : Seat) → Turns turn count before now → turn count now after
      → Turns turn (count + 1) before after

-- a worker took no more turns than it was to take; and exactly as many, where all were taken
pub record TakesTurns {Seat : Type 0} (turn : (number : ℕ) → Seat → Seat → Type 0) (turns : ℕ) (all : Bool)
    (before after : Seat) : Type 0 where
  pub count : ℕ
  pub taken : Turns turn count before after
  pub most : count ≤ turns
  pub exactly : all ≡ true → count ≡ turns

-- every seat comes back, in order, after the turns that its worker took; workers are counted from this number on
abbrev pub AreBackFrom : {Seat : Type 0} → (turn : (worker number : ℕ) → Seat → Seat → Type 0) → (turns : ℕ)
    → (all : Bool) → (worker : ℕ) → (before after : List Seat) → Type 0
AreBackFrom turn turns all worker [] [] = ⊤
AreBackFrom turn turns all worker (old ∷ olds) (new ∷ news) =
    TakesTurns (turn worker) turns all old new × AreBackFrom turn turns all (worker + 1) olds news
AreBackFrom turn turns all worker _ _ = ⊥

-- every seat comes back, in order, after the turns that its worker took
abbrev pub AreBack : {Seat : Type 0} → (turn : (worker number : ℕ) → Seat → Seat → Type 0) → (turns : ℕ) → (all : Bool)
    → (before after : List Seat) → Type 0
AreBack turn turns all before after = AreBackFrom turn turns all 0 before after
