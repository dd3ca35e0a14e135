-- Statements whose numbers have their bits in masks of 64 (this project's own form).
use Rattle.std.specs.Prelude.{◌+◌, ◌<◌}
use Rattle.est_kernel.specs.Term.{Name, outer, inner}
use Rattle.est_kernel.specs.View.{name_of}
use Rattle.est_kernel.specs.declared.statement.Signal.{Signal}
use Rattle.est_kernel.specs.declared.statement.Statement.{Statement}
use Rattle.est_kernel.specs.declared.statement.Statement.TheVariants.{Nothing, Pause, Emit, Present', Suspend', Seq'}
use Rattle.est_kernel.specs.declared.statement.Statement.TheVariants.{Loop', Par', Trap', Exit, Local' as Binder'}

-- a local signal's number has a bit; a signal of the interface has it by its type
abbrev pub HasNameBit : Name → Type 0
HasNameBit (outer n) = Unit {0}
HasNameBit (inner n) = n < 64

-- a signal's number has a bit
abbrev pub HasSignalBit : Signal → Type 0
HasSignalBit s = HasNameBit (name_of s)

-- the number of each local signal that is bound or emitted, and the code of each exit, has a bit
abbrev pub FitsMasks : Statement → Type 0
FitsMasks Nothing = Unit {0}
FitsMasks (Pause n) = Unit {0}
FitsMasks (Emit s) = HasSignalBit s
FitsMasks (Present' t a p b q) = FitsMasks p × FitsMasks q
FitsMasks (Suspend' t a p) = FitsMasks p
FitsMasks (Seq' a p b q) = FitsMasks p × FitsMasks q
FitsMasks (Loop' a p) = FitsMasks p
FitsMasks (Par' a p b q) = FitsMasks p × FitsMasks q
FitsMasks (Trap' a p) = FitsMasks p
FitsMasks (Exit k) = k.index + 2 < 64
FitsMasks (Binder' s a p) = (s.index < 64) × FitsMasks p
