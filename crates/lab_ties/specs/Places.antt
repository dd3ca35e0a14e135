-- Statements in their incarnations (this project's own form).
use Rattle.std.specs.Prelude.{ℕ}
use Rattle.lab_instant.specs.declared.seen.Incarnation.{Incarnation}

-- a statement in an incarnation
abbrev pub incarnation : (number statement : ℕ) → Incarnation
incarnation i n = record { statement = n; number = i }
