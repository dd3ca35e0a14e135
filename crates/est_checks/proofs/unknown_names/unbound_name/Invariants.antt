use Rattle.std.proofs.Common.{◌≡◌, drop, map}
use Rattle.std.specs.List.{find}
use Rattle.est_syntax.specs.Views.{renaming_view}
use Rattle.est_modules.specs.Modules.{program_of}
use Rattle.est_modules.specs.Scopes.{binders_of}
use Rattle.est_modules.specs.declared.interface.Declared.{Declared}
use Rattle.est_checks.specs.UnknownNames.{is_unbound}
use Rattle.est_checks.proofs.unknown_names.unbound_name.Given as goal

abbrev pub invariant-loop-declared : goal.invariant-loop-declared
invariant-loop-declared l =
    let first = find (λ (d : Declared). is_unbound (program_of l.check.home.now) (binders_of l.scope)
    (map renaming_view l.renamings) d.name) in
    first l.interface ≡ first (drop l.declared-index l.interface)
