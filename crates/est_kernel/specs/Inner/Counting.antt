-- Counts that stop at the largest number of their type (this project's own form).
use Rattle.std.specs.Prelude.{◌≡◌, ◌↔◌, ◌&&◌, ℕ, Bool, true, nat_lt, IsTrue, List, length, min}
use Rattle.est_kernel.specs.Scope.{IsClosed}
use Rattle.est_kernel.specs.Term.{Name, outer, inner, Query, tick, of, negated, joined, Queries, last, more, Joint}
use Rattle.est_kernel.specs.Term.{Term}
use Rattle.est_kernel.specs.declared.interface.Declaration.{Declaration}

-- `counted` is n, or the largest number of 32 bits where n is larger
abbrev pub Counts : ℕ → ℕ → Type 0
Counts n counted = min n 4294967295 ≡ counted

-- the answer says whether a term is closed inside m traps and n local signals, for the m and n that were counted
abbrev pub TellsClosed : Bool → List Declaration → (traps locals : ℕ) → Term → Type 0
TellsClosed answer i traps locals t =
    (m n : ℕ) → Counts m traps → Counts n locals → IsTrue answer ↔ IsClosed i m n t

-- whether a signal is of the interface, or one of `locals` local signals
abbrev pub is_seen : List Declaration → ℕ → Name → Bool
is_seen i locals (outer n) = nat_lt n (length i)
is_seen i locals (inner n) = nat_lt n locals

abbrev mutual
  -- whether each signal of a test passes
  pub each_signal : (Name → Bool) → Query → Bool
  each_signal f tick = true
  each_signal f (of s) = f s
  each_signal f (negated t) = each_signal f t
  each_signal f (joined c t ts) = each_signal f t && each_signal_of_all f ts

  -- whether each signal of these tests passes
  pub each_signal_of_all : (Name → Bool) → Queries → Bool
  each_signal_of_all f (last t) = each_signal f t
  each_signal_of_all f (more t ts) = each_signal f t && each_signal_of_all f ts

-- whether each signal of operands passes
abbrev pub each_signal_of_joint : (Name → Bool) → Joint → Bool
each_signal_of_joint f o = each_signal f o.first && each_signal_of_all f o.later
