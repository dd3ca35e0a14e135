-- How many statements a reduction has, and kernel terms whose numbers fit their types (this project's own form).
use Rattle.std.specs.Prelude.{ℕ, ◌+◌, ◌<◌, Bool, true, false}
use Rattle.est_kernel.specs.Term as kernel
use Rattle.est_kernel.specs.Limits.{word_count}
use Rattle.est_kernel.specs.Scope.{EachSignal, EachSignalOfAll}
use Rattle.est_kernel.specs.Term.{Name, outer, inner, Query, Joint, Term}
use Rattle.est_reduce.specs.Bodies.{Body, nothing, pause, halt, emit, sustain, exit, await, present, suspend, abort}
use Rattle.est_reduce.specs.Bodies.{weak_abort, repeat, repeat_each, every, trap, signal, seq, par}

-- what `suspend` takes beyond its body
abbrev pub suspend_statements : (now : Bool) → Query → ℕ
suspend_statements false s = word_count s + 1
suspend_statements true s = word_count s + word_count s + 5

-- what `abort` takes beyond its body
abbrev pub abort_statements : (now : Bool) → Query → ℕ
abort_statements false s = word_count s + word_count s + 11
abort_statements true s = word_count s + word_count s + word_count s + 13

-- how many statements the reduction has: those of its shape, and the words of the test each time that it occurs in it
abbrev pub reduced_statements : Body → ℕ
reduced_statements nothing = 1
reduced_statements pause = 1
reduced_statements halt = 2
reduced_statements (emit s) = 1
reduced_statements (sustain s) = 4
reduced_statements (exit k) = 1
reduced_statements (await now s) = 7 + word_count s
reduced_statements (present s p q) = word_count s + reduced_statements p + reduced_statements q + 1
reduced_statements (suspend now s p) = suspend_statements now s + reduced_statements p
reduced_statements (abort now s p) = abort_statements now s + reduced_statements p
reduced_statements (weak_abort now s p) = word_count s + reduced_statements p + 10
reduced_statements (repeat p) = reduced_statements p + 1
reduced_statements (repeat_each s p) = word_count s + word_count s + reduced_statements p + 15
reduced_statements (every now s p) = word_count s + word_count s + word_count s + reduced_statements p + 23
reduced_statements (trap p) = reduced_statements p + 1
reduced_statements (signal n p) = reduced_statements p + n
reduced_statements (seq p q) = reduced_statements p + reduced_statements q + 1
reduced_statements (par p q) = reduced_statements p + reduced_statements q + 1

-- the signal's number fits its type
abbrev pub IsSmallName : Name → Type 0
IsSmallName (outer n) = n < 64
IsSmallName (inner n) = n < 65536

-- so does that of each signal of a test
abbrev pub IsSmallQuery : Query → Type 0
IsSmallQuery t = EachSignal IsSmallName t

-- and of operands
abbrev pub IsSmallJoint : Joint → Type 0
IsSmallJoint o = EachSignal IsSmallName o.first × EachSignalOfAll IsSmallName o.later

-- each number of the term fits its type
abbrev pub IsSmall : Term → Type 0
IsSmall kernel.nothing = Unit {0}
IsSmall kernel.pause = Unit {0}
IsSmall (kernel.emit s) = IsSmallName s
IsSmall (kernel.present s p q) = IsSmallQuery s × IsSmall p × IsSmall q
IsSmall (kernel.suspend s p) = IsSmallQuery s × IsSmall p
IsSmall (kernel.held s p) = IsSmallQuery s × IsSmall p
IsSmall (kernel.seq p q) = IsSmall p × IsSmall q
IsSmall (kernel.loop p) = IsSmall p
IsSmall (kernel.par p q) = IsSmall p × IsSmall q
IsSmall (kernel.trap p) = IsSmall p
IsSmall (kernel.exit k) = k < 65536
IsSmall (kernel.signal s p) = (s < 65536) × IsSmall p
