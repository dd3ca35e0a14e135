-- What it means that each name of a body is bound (this project's own form).
use Rattle.std.specs.Prelude.{◌≡◌, ℕ, ◌+◌, ◌<◌, Bool, true, List, [], get_or, Some, None, false}
use Rattle.std.specs.List.{slice_get}
use Rattle.est_kernel.specs.Scope.{EachSignal}
use Rattle.est_kernel.specs.Term.{Name, outer, inner, Query, tick}
use Rattle.est_modules.specs.Modules.{Program, program_named, is_input_kind}
use Rattle.est_checks.specs.Emissions.{AreEmissions, refused_at}
use Rattle.est_link.specs.Linking.{emitted}
use Rattle.est_modules.specs.Occurrences.{occurrences, first_of}
use Rattle.est_checks.specs.UnknownNames.{unknown_at}
use Rattle.est_modules.specs.declared.interface.Declared.{Declared}
use Rattle.est_reduce.specs.Bodies.{Body, nothing, pause, halt, emit, sustain, exit, await, present, suspend, abort}
use Rattle.est_reduce.specs.Bodies.{weak_abort, repeat, repeat_each, every, trap, signal, seq, par}

-- what may be emitted in a module of n interface signals, inside l local signals: of the interface those of a set, and
-- the local signals
abbrev pub MayEmit : (n : ℕ) → (may : ℕ → Type 0) → (l : ℕ) → Name → Type 0
MayEmit n may l (outer i) = (i < n) × may i
MayEmit n may l (inner k) = k < l

-- a signal that is there
abbrev pub IsThere : (n l : ℕ) → Name → Type 0
IsThere n l (outer i) = i < n
IsThere n l (inner k) = k < l

-- what may be asked there: a test of signals that are there
abbrev pub MayAsk : (n l : ℕ) → Query → Type 0
MayAsk n l q = EachSignal (IsThere n l) q

-- each name is bound in a module of n interface signals, of which those of the set may be emitted, with t traps and l
-- local signals around the whole
abbrev pub IsBody : (n : ℕ) → (may : ℕ → Type 0) → (t l : ℕ) → Body → Type 0
IsBody n may t l nothing = Unit {0}
IsBody n may t l pause = Unit {0}
IsBody n may t l halt = Unit {0}
IsBody n may t l (emit s) = MayEmit n may l s
IsBody n may t l (sustain s) = MayEmit n may l s
IsBody n may t l (exit k) = k < t
IsBody n may t l (await now s) = MayAsk n l s
IsBody n may t l (present s p q) = MayAsk n l s × IsBody n may t l p × IsBody n may t l q
IsBody n may t l (suspend now s p) = MayAsk n l s × IsBody n may t l p
IsBody n may t l (abort now s p) = MayAsk n l s × IsBody n may t l p
IsBody n may t l (weak_abort now s p) = MayAsk n l s × IsBody n may t l p
IsBody n may t l (repeat p) = IsBody n may t l p
IsBody n may t l (repeat_each s p) = MayAsk n l s × IsBody n may t l p
IsBody n may t l (every now s p) = MayAsk n l s × IsBody n may t l p
IsBody n may t l (trap p) = IsBody n may (t + 1) l p
IsBody n may t l (signal m p) = IsBody n may t (l + m) p
IsBody n may t l (seq p q) = IsBody n may t l p × IsBody n may t l q
IsBody n may t l (par p q) = IsBody n may t l p × IsBody n may t l q

-- the signal at a place of a module's interface is one that the module emits, and no input
abbrev pub IsSent : (List ℕ → List ℕ → Bool) → Program → ℕ → Type 0
IsSent emitted p i =
    (d : Declared) → slice_get p.interface i ≡ Some d → (emitted p.name d.name ≡ true) × (is_input_kind d.kind ≡ false)

-- a library has no fault that a name in one of its bodies can have: each is visible, no input or `tick` is emitted, by
-- what each module emits
pub record HasSoundNames (ps : List Program) (emitted : List ℕ → List ℕ → Bool) : Type 0 where
  pub emissions : AreEmissions ps emitted
  pub known : (m : List ℕ) (p : Program) → program_named ps m ≡ Some p
      → first_of (unknown_at ps p) (occurrences [] p.body) ≡ None
  pub accepted : (m : List ℕ) (p : Program) → program_named ps m ≡ Some p
      → first_of (refused_at ps emitted p) (occurrences [] p.body) ≡ None

-- what the n interface signals of a module that is run stand for: each may be asked by the caller, which has m, and
-- emitted where the module may emit it
pub record AreBindings (n : ℕ) (may : ℕ → Type 0) (m : ℕ) (callers : ℕ → Type 0) (locals : ℕ)
    (qs : List Query) : Type 0 where
  pub asked : (i : ℕ) → i < n → MayAsk m locals (get_or qs i tick)
  pub sent : (i : ℕ) → i < n → may i → MayEmit m callers locals (emitted (get_or qs i tick))
