-- The binders that a scope of the code stands for (this project's own form).
use Rattle.std.specs.Prelude.{List, [], ◌∷◌}
use Rattle.est_modules.specs.Occurrences.{Binder, signals, a_trap}
use Rattle.est_link.specs.declared.scope.NamedScope.{NamedScope}
use Rattle.est_link.specs.declared.scope.NamedScope.TheVariants.{Module, Signals', Trap'}

-- the binders around a place, innermost first
abbrev pub binders_of : NamedScope → List Binder
binders_of Module = []
binders_of (Signals' ns a rest) = signals ns ∷ binders_of rest
binders_of (Trap' t a rest) = a_trap t ∷ binders_of rest
