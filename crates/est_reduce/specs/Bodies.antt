-- The statements of Pure Esterel whose names are bound: signals by the numbers of their binders, traps by how many lie
-- between (Berry, The Esterel v5 Language Primer, the statements of Pure Esterel; the numbers are this project's own
-- form).
use Rattle.std.specs.Prelude.{ℕ, Bool}
use Rattle.est_kernel.specs.Term.{Name, Query}

-- a statement; `now` says that `immediate` is written, and `signal n p` declares n signals around p
pub data Body : Type 0 where
  nothing : Body
  pause : Body
  halt : Body
  emit : (s : Name) → Body
  sustain : (s : Name) → Body
  exit : (k : ℕ) → Body
  await : (now : Bool) → (s : Query) → Body
  present : (s : Query) → (p q : Body) → Body
  suspend : (now : Bool) → (s : Query) → (p : Body) → Body
  abort : (now : Bool) → (s : Query) → (p : Body) → Body
  weak_abort : (now : Bool) → (s : Query) → (p : Body) → Body
  repeat : (p : Body) → Body
  repeat_each : (s : Query) → (p : Body) → Body
  every : (now : Bool) → (s : Query) → (p : Body) → Body
  trap : (p : Body) → Body
  signal : (n : ℕ) → (p : Body) → Body
  seq : (p q : Body) → Body
  par : (p q : Body) → Body
