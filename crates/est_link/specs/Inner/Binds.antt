-- The signals that the interface of a module that is run stands for (this project's own form).
use Rattle.std.specs.Prelude.{List, map}
use Rattle.est_syntax.specs.Views.{renaming_view}
use Rattle.est_kernel.specs.Term.{Query}
use Rattle.est_link.specs.Linking.{interface_bound}
use Rattle.est_modules.specs.Modules.{program_of}
use Rattle.est_link.specs.Inner.Scopes.{binders_of}
use Rattle.est_link.specs.declared.bindings.Binding.{Binding}

-- those of a value of the code
abbrev pub binding_of : Binding → List Query
binding_of b = interface_bound (program_of b.home.now) (binders_of b.scope.now)
    (map renaming_view b.renamings.now) b.interface.now
