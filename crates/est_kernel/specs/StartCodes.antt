-- The completion codes that a term can give where it begins, and loops whose bodies take time. (Berry, The Constructive
-- Semantics of Pure Esterel, instantaneous loops; the codes by cases are this project's own form)
use Rattle.std.specs.Prelude.{◌≡◌, ◌+◌, false, cond}
use Rattle.est_kernel.specs.Codes.{Codes, code, either_code, but_zero, max_codes, codes_out_of_trap}
use Rattle.est_kernel.specs.Term.{Term, nothing, pause, emit, present, suspend, held, seq, loop, par, trap, exit}
use Rattle.est_kernel.specs.Term.{signal}

-- the codes that a term can give in the instant in which it begins, both branches of each `present` taken
abbrev pub start_codes : Term → Codes
start_codes nothing = code 0
start_codes pause = code 1
start_codes (emit s) = code 0
start_codes (present s p q) = either_code (start_codes p) (start_codes q)
start_codes (suspend s p) = start_codes p
start_codes (held s p) = either_code (start_codes p) (code 1)
start_codes (seq p q) = cond (start_codes p 0) (either_code (but_zero (start_codes p)) (start_codes q)) (start_codes p)
start_codes (loop p) = start_codes p
start_codes (par p q) = max_codes (start_codes p) (start_codes q)
start_codes (trap p) = codes_out_of_trap (start_codes p)
start_codes (exit k) = code (k + 2)
start_codes (signal s p) = start_codes p

-- no loop's body can end in the instant in which it begins
abbrev pub IsLoopSafe : Term → Type 0
IsLoopSafe nothing = Unit {0}
IsLoopSafe pause = Unit {0}
IsLoopSafe (emit s) = Unit {0}
IsLoopSafe (present s p q) = IsLoopSafe p × IsLoopSafe q
IsLoopSafe (suspend s p) = IsLoopSafe p
IsLoopSafe (held s p) = IsLoopSafe p
IsLoopSafe (seq p q) = IsLoopSafe p × IsLoopSafe q
IsLoopSafe (loop p) = IsLoopSafe p × (start_codes p 0 ≡ false)
IsLoopSafe (par p q) = IsLoopSafe p × IsLoopSafe q
IsLoopSafe (trap p) = IsLoopSafe p
IsLoopSafe (exit k) = Unit {0}
IsLoopSafe (signal s p) = IsLoopSafe p
