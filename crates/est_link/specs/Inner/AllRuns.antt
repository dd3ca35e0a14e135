-- What holds of each module that a statement runs, by the cases of the statement (this project's own form).
use Rattle.std.specs.Prelude.{ℕ, List}
use Rattle.est_modules.specs.Derived as derived
use Rattle.est_modules.specs.Derived.{Derived}

-- each module that a statement runs has the property
abbrev pub AllRuns : (List ℕ → Type 0) → Derived → Type 0
AllRuns P derived.missing = Unit {0}
AllRuns P derived.nothing = Unit {0}
AllRuns P derived.pause = Unit {0}
AllRuns P derived.halt = Unit {0}
AllRuns P (derived.emit s) = Unit {0}
AllRuns P (derived.sustain s) = Unit {0}
AllRuns P (derived.exit t) = Unit {0}
AllRuns P (derived.await d) = Unit {0}
AllRuns P (derived.present s p q) = AllRuns P p × AllRuns P q
AllRuns P (derived.suspend p d) = AllRuns P p
AllRuns P (derived.abort p d) = AllRuns P p
AllRuns P (derived.weak_abort p d) = AllRuns P p
AllRuns P (derived.repeat p) = AllRuns P p
AllRuns P (derived.repeat_each p s) = AllRuns P p
AllRuns P (derived.every d p) = AllRuns P p
AllRuns P (derived.trap t p) = AllRuns P p
AllRuns P (derived.signal ns p) = AllRuns P p
AllRuns P (derived.run m rs) = P m
AllRuns P (derived.seq p q) = AllRuns P p × AllRuns P q
AllRuns P (derived.par p q) = AllRuns P p × AllRuns P q
