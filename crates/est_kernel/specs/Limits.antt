-- How large a term is, and the limit that it passes (this project's own limits).
use Rattle.std.specs.Prelude.{ℕ, ◌+◌, max, nat_lt, Option, Some, None, if◌then◌else◌}
use Rattle.est_kernel.specs.Term.{Query, tick, of, negated, joined, Queries, last, more, Joint, Term, nothing, pause}
use Rattle.est_kernel.specs.Term.{emit, present, suspend, held, seq, loop, par, trap, exit, signal}
use Rattle.est_kernel.specs.declared.limits.Limit.{Limit}
use Rattle.est_kernel.specs.declared.limits.Limit.TheVariants.{Statements, Loops, Traps, Locals}
use Rattle.est_kernel.specs.declared.limits.TheConstants.{MOST_STATEMENTS, MOST_LOOPS, MOST_TRAPS, MOST_LOCALS}

abbrev mutual
  -- how many `not`, `and` and `or` a test has: n operands have n - 1 words between them
  pub word_count : Query → ℕ
  word_count tick = 0
  word_count (of s) = 0
  word_count (negated t) = word_count t + 1
  word_count (joined c t ts) = word_count t + later_word_count ts

  -- the same for further operands, each with the word before it
  pub later_word_count : Queries → ℕ
  later_word_count (last t) = word_count t + 1
  later_word_count (more t ts) = word_count t + 1 + later_word_count ts

-- the same for operands
abbrev pub joint_word_count : Joint → ℕ
joint_word_count o = word_count o.first + later_word_count o.later

-- how many statements a term has, itself included; each `not`, `and` and `or` of a test is one
abbrev pub statement_count : Term → ℕ
statement_count nothing = 1
statement_count pause = 1
statement_count (emit s) = 1
statement_count (present s p q) = word_count s + statement_count p + statement_count q + 1
statement_count (suspend s p) = word_count s + statement_count p + 1
statement_count (held s p) = word_count s + statement_count p + 1
statement_count (seq p q) = statement_count p + statement_count q + 1
statement_count (loop p) = statement_count p + 1
statement_count (par p q) = statement_count p + statement_count q + 1
statement_count (trap p) = statement_count p + 1
statement_count (exit k) = 1
statement_count (signal s p) = statement_count p + 1

-- how deep loops are nested
abbrev pub loop_depth : Term → ℕ
loop_depth nothing = 0
loop_depth pause = 0
loop_depth (emit s) = 0
loop_depth (present s p q) = max (loop_depth p) (loop_depth q)
loop_depth (suspend s p) = loop_depth p
loop_depth (held s p) = loop_depth p
loop_depth (seq p q) = max (loop_depth p) (loop_depth q)
loop_depth (loop p) = loop_depth p + 1
loop_depth (par p q) = max (loop_depth p) (loop_depth q)
loop_depth (trap p) = loop_depth p
loop_depth (exit k) = 0
loop_depth (signal s p) = loop_depth p

-- how deep traps are nested
abbrev pub trap_depth : Term → ℕ
trap_depth nothing = 0
trap_depth pause = 0
trap_depth (emit s) = 0
trap_depth (present s p q) = max (trap_depth p) (trap_depth q)
trap_depth (suspend s p) = trap_depth p
trap_depth (held s p) = trap_depth p
trap_depth (seq p q) = max (trap_depth p) (trap_depth q)
trap_depth (loop p) = trap_depth p
trap_depth (par p q) = max (trap_depth p) (trap_depth q)
trap_depth (trap p) = trap_depth p + 1
trap_depth (exit k) = 0
trap_depth (signal s p) = trap_depth p

-- how deep local signals are nested
abbrev pub local_depth : Term → ℕ
local_depth nothing = 0
local_depth pause = 0
local_depth (emit s) = 0
local_depth (present s p q) = max (local_depth p) (local_depth q)
local_depth (suspend s p) = local_depth p
local_depth (held s p) = local_depth p
local_depth (seq p q) = max (local_depth p) (local_depth q)
local_depth (loop p) = local_depth p
local_depth (par p q) = max (local_depth p) (local_depth q)
local_depth (trap p) = local_depth p
local_depth (exit k) = 0
local_depth (signal s p) = local_depth p + 1

-- the first limit that a term passes, in the order in which they are answered
abbrev pub limit_passed : Term → Option Limit
limit_passed t =
    if nat_lt MOST_STATEMENTS (statement_count t) then Some Statements else (
    if nat_lt MOST_LOOPS (loop_depth t) then Some Loops else (
    if nat_lt MOST_TRAPS (trap_depth t) then Some Traps else (
    if nat_lt MOST_LOCALS (local_depth t) then Some Locals else None)))
