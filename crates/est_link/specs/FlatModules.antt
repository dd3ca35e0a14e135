-- What a library is linked to: the flat main module, or the first fault (this project's own form).
use Rattle.std.specs.Prelude.{◌≡◌, ℕ, List, Some, Result, IfOk}
use Rattle.est_kernel.specs.declared.interface.Declaration.{Declaration}
use Rattle.est_link.specs.Linking.{IsLinked}
use Rattle.est_link.specs.MainModule.{declarations_of, AreRelations}
use Rattle.est_modules.specs.Modules.{Program, program_named, programs_of}
use Rattle.est_checks.specs.declared.fault.LinkFault.{LinkFault}
use Rattle.est_reduce.specs.Bodies.{Body}
use Rattle.est_reduce.specs.Views.{body_of}
use Rattle.est_reduce.specs.declared.flat.Flat.{Flat}
use Rattle.est_relations.specs.declared.relations.Relation.{Relation}
use Rattle.est_syntax.specs.Tree.{LibraryTree}
use Rattle.est_checks.specs.FirstFaults.{Finds, IsFirstFault}

-- a flat module: its interface and its relations, each in the order of the text, and its body
pub record FlatModule : Type 0 where
  pub interface : List Declaration
  pub relations : List Relation
  pub body : Body

-- the main module, its runs replaced
pub record IsFlatOf (ps : List Program) (main : List ℕ) (flat : FlatModule) : Type 0 where
  pub home : Program
  pub there : program_named ps main ≡ Some home
  pub interface : flat.interface ≡ declarations_of home
  pub relations : AreRelations (declarations_of home) home.relations flat.relations
  pub body : IsLinked ps main flat.body

-- the flat module that a value of the code is
abbrev pub flat_of : Flat → FlatModule
flat_of f = record { interface = f.interface; relations = f.relations; body = body_of f.body }

-- what linking answers: the flat main module exactly when no check has a fault, and else the first fault
pub record IsLinkOf (library : LibraryTree) (main : List ℕ) (answer : Result Flat LinkFault) : Type 0 where
  pub first : Finds (IsFirstFault (programs_of library) main) answer
  pub flat : IfOk answer (λ f. IsFlatOf (programs_of library) main (flat_of f))
