-- Terms in which each name has its binder (this project's own form of closed terms).
use Rattle.std.specs.Prelude.{◌≡◌, ℕ, ◌+◌, ◌<◌, List, length, true}
use Rattle.est_kernel.specs.Term.{Name, outer, inner, Query, tick, of, negated, joined, Queries, last, more, Term}
use Rattle.est_kernel.specs.Term.{nothing, pause, emit, present, suspend, held, seq, loop, par, trap, exit, signal}
use Rattle.est_kernel.specs.Interfaces.{emittable}
use Rattle.est_kernel.specs.declared.interface.Declaration.{Declaration}

-- a signal of the interface, or one of the `locals` local signals around it, which are numbered from the outermost
abbrev pub IsVisible : List Declaration → ℕ → Name → Type 0
IsVisible interface locals (outer n) = n < length interface
IsVisible interface locals (inner n) = n < locals

abbrev mutual
  -- each signal of a test has this property
  pub EachSignal : (Name → Type 0) → Query → Type 0
  EachSignal P tick = Unit {0}
  EachSignal P (of s) = P s
  EachSignal P (negated t) = EachSignal P t
  EachSignal P (joined c t ts) = EachSignal P t × EachSignalOfAll P ts

  -- each signal of these tests has it
  pub EachSignalOfAll : (Name → Type 0) → Queries → Type 0
  EachSignalOfAll P (last t) = EachSignal P t
  EachSignalOfAll P (more t ts) = EachSignal P t × EachSignalOfAll P ts

-- the test may be asked: each signal of it is visible
abbrev pub IsAsked : List Declaration → ℕ → Query → Type 0
IsAsked interface locals t = EachSignal (IsVisible interface locals) t

-- the signal may be emitted: it is an output or an inputoutput, or a local signal
abbrev pub IsEmitted : List Declaration → ℕ → Name → Type 0
IsEmitted interface locals (outer n) = emittable interface n ≡ true
IsEmitted interface locals (inner n) = n < locals

-- Every name is bound: each signal by the interface or by a `signal` around it, each `exit` by a trap around it. No
-- signal that is an input alone is emitted. A local signal's number is the number of local signals around its binder.
abbrev pub IsClosed : List Declaration → (traps locals : ℕ) → Term → Type 0
IsClosed i traps locals nothing = Unit {0}
IsClosed i traps locals pause = Unit {0}
IsClosed i traps locals (emit s) = IsEmitted i locals s
IsClosed i traps locals (present s p q) = IsAsked i locals s × IsClosed i traps locals p × IsClosed i traps locals q
IsClosed i traps locals (suspend s p) = IsAsked i locals s × IsClosed i traps locals p
IsClosed i traps locals (held s p) = IsAsked i locals s × IsClosed i traps locals p
IsClosed i traps locals (seq p q) = IsClosed i traps locals p × IsClosed i traps locals q
IsClosed i traps locals (loop p) = IsClosed i traps locals p
IsClosed i traps locals (par p q) = IsClosed i traps locals p × IsClosed i traps locals q
IsClosed i traps locals (trap p) = IsClosed i (traps + 1) locals p
IsClosed i traps locals (exit k) = k < traps
IsClosed i traps locals (signal s p) = (s ≡ locals) × IsClosed i traps (locals + 1) p
