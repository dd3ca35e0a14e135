-- The binders and acts that the code's values stand for (this project's own form).
use Rattle.std.specs.Prelude.{List, [], ◌∷◌, map}
use Rattle.est_syntax.specs.Views.{names_view, renaming_view}
use Rattle.est_modules.specs.Occurrences.{Binder, signals, a_trap, Act, emits, tests, exits, binds, runs}
use Rattle.est_modules.specs.declared.scope.Scope.{Scope}
use Rattle.est_modules.specs.declared.scope.Scope.TheVariants.{Module, Signals', Trap'}
use Rattle.est_modules.specs.declared.scope.Act.{Act as ActValue}
use Rattle.est_modules.specs.declared.scope.Act.TheVariants.{Emits, Tests, Exits, Binds, Runs}

-- the binders around a place, innermost first
abbrev pub binders_of : Scope → List Binder
binders_of Module = []
binders_of (Signals' ns a rest) = signals (names_view ns.now) ∷ binders_of rest
binders_of (Trap' t a rest) = a_trap t ∷ binders_of rest

-- what is done with a name
abbrev pub act_of : ActValue → Act
act_of (Emits s) = emits s
act_of (Tests s) = tests s
act_of (Exits t) = exits t
act_of (Binds ns) = binds (names_view ns.now)
act_of (Runs m rs) = runs m (map renaming_view rs.now)
