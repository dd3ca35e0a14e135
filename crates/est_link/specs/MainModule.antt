-- The interface and the relations of the main module, as the kernel has them: signals by their places in the interface
-- (this project's own form).
use Rattle.std.specs.Prelude.{◌≡◌, ℕ, List, [], ◌∷◌, map, unwrap_or, ⊤}
use Rattle.est_syntax.specs.Tree.{RelationTree, excludes, implies}
use Rattle.est_kernel.specs.declared.interface.Declaration.{Declaration}
use Rattle.est_kernel.specs.declared.interface.Kind as kernel
use Rattle.est_kernel.specs.declared.interface.Kind.TheVariants as variants
use Rattle.est_modules.specs.Modules.{Program}
use Rattle.est_modules.specs.declared.interface.Declared.{Declared}
use Rattle.est_modules.specs.declared.interface.Kind.{Kind}
use Rattle.est_modules.specs.declared.interface.Kind.TheVariants.{Input, Output, InputOutput}
use Rattle.est_relations.specs.Offers.{place_of}
use Rattle.est_relations.specs.declared.relations.Relation.{Relation}
use Rattle.est_relations.specs.declared.relations.Relation.TheVariants.{Exclusion, Implication}

-- input, output or both
abbrev pub kernel_kind : Kind → kernel.Kind
kernel_kind Input = variants.Input
kernel_kind Output = variants.Output
kernel_kind InputOutput = variants.InputOutput

-- a signal of an interface
abbrev pub declaration_of : Declared → Declaration
declaration_of d = record { name = d.name; kind = kernel_kind d.kind }

-- the interface of a module
abbrev pub declarations_of : Program → List Declaration
declarations_of p = map declaration_of p.interface

-- the place of a member of a relation in the interface; each has one where no relation is at fault, and else this is 0
abbrev pub member_place : List Declaration → List ℕ → ℕ
member_place ds s = unwrap_or (place_of ds s) 0

-- the relation is the one that is written, its members by their places
abbrev pub IsRelation : List Declaration → RelationTree → Relation → Type 0
IsRelation ds (excludes a b ns) (Exclusion members) = members ≡ map (member_place ds) (a ∷ b ∷ ns)
IsRelation ds (implies a b) (Implication condition implied) =
    (condition.index ≡ member_place ds a) × (implied.index ≡ member_place ds b)
IsRelation ds _ _ = ⊥

-- the relations are those that are written
abbrev pub AreRelations : List Declaration → List RelationTree → List Relation → Type 0
AreRelations ds [] [] = ⊤
AreRelations ds (t ∷ ts) (r ∷ rs) = IsRelation ds t r × AreRelations ds ts rs
AreRelations ds _ _ = ⊥
