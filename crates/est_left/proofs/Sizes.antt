-- How large a term is: what lies in it is smaller.
use Rattle.std.proofs.Common.{ℕ, ◌+◌}
use Rattle.est_kernel.specs.Term.{Term, nothing, pause, emit, present, suspend, held, seq, loop, par, trap, exit}
use Rattle.est_kernel.specs.Term.{signal}

abbrev pub term_size : Term → ℕ
term_size nothing = 1
term_size pause = 1
term_size (emit s) = 1
term_size (present t p q) = term_size p + term_size q + 1
term_size (suspend t p) = term_size p + 1
term_size (held t p) = term_size p + 1
term_size (seq p q) = term_size p + term_size q + 1
term_size (loop p) = term_size p + 1
term_size (par p q) = term_size p + term_size q + 1
term_size (trap p) = term_size p + 1
term_size (exit k) = 1
term_size (signal s p) = term_size p + 1
