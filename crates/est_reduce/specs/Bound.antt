-- Bodies in which every name is bound (Berry, The Esterel v5 Language Primer, scopes of signals and traps; the numbers
-- are this project's own form).
use Rattle.std.specs.Prelude.{ℕ, ◌+◌, ◌<◌, List}
use Rattle.est_kernel.specs.Scope.{IsAsked, IsEmitted}
use Rattle.est_kernel.specs.declared.interface.Declaration.{Declaration}
use Rattle.est_reduce.specs.Bodies.{Body, nothing, pause, halt, emit, sustain, exit, await, present, suspend, abort}
use Rattle.est_reduce.specs.Bodies.{weak_abort, repeat, repeat_each, every, trap, signal, seq, par}

-- Every name is bound, with these many traps and local signals around the whole: each signal by the interface or by a
-- `signal` around it, each `exit` by a trap around it. No signal that is an input alone is emitted.
abbrev pub IsBound : List Declaration → (traps locals : ℕ) → Body → Type 0
IsBound i traps locals nothing = Unit {0}
IsBound i traps locals pause = Unit {0}
IsBound i traps locals halt = Unit {0}
IsBound i traps locals (emit s) = IsEmitted i locals s
IsBound i traps locals (sustain s) = IsEmitted i locals s
IsBound i traps locals (exit k) = k < traps
IsBound i traps locals (await now s) = IsAsked i locals s
IsBound i traps locals (present s p q) = IsAsked i locals s × IsBound i traps locals p × IsBound i traps locals q
IsBound i traps locals (suspend now s p) = IsAsked i locals s × IsBound i traps locals p
IsBound i traps locals (abort now s p) = IsAsked i locals s × IsBound i traps locals p
IsBound i traps locals (weak_abort now s p) = IsAsked i locals s × IsBound i traps locals p
IsBound i traps locals (repeat p) = IsBound i traps locals p
IsBound i traps locals (repeat_each s p) = IsAsked i locals s × IsBound i traps locals p
IsBound i traps locals (every now s p) = IsAsked i locals s × IsBound i traps locals p
IsBound i traps locals (trap p) = IsBound i (traps + 1) locals p
IsBound i traps locals (signal n p) = IsBound i traps (locals + n) p
IsBound i traps locals (seq p q) = IsBound i traps locals p × IsBound i traps locals q
IsBound i traps locals (par p q) = IsBound i traps locals p × IsBound i traps locals q
