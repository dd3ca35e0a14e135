-- When it is settled whether a fact holds (this project's own form).
use Rattle.std.specs.Prelude.{◌⊎◌}

-- the fact holds, or it doesn't
abbrev pub Decided : Type 0 → Type 0
Decided P = P ⊎ (P → ⊥)
