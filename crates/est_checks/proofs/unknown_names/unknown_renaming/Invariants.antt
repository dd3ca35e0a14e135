use Rattle.std.proofs.Common.{◌≡◌, drop, not}
use Rattle.std.specs.List.{find}
use Rattle.est_syntax.specs.declared.tree.Renaming.{Renaming}
use Rattle.est_modules.specs.Modules.{program_of}
use Rattle.est_modules.specs.Scopes.{binders_of}
use Rattle.est_modules.specs.Visible.{is_visible}
use Rattle.est_checks.proofs.unknown_names.unknown_renaming.Given as goal

abbrev pub invariant-loop-renaming : goal.invariant-loop-renaming
invariant-loop-renaming l =
    let first = find (λ (r : Renaming). not (is_visible (program_of l.check.home.now) (binders_of l.scope) r.outer)) in
    first l.renamings ≡ first (drop l.renaming-index l.renamings)
