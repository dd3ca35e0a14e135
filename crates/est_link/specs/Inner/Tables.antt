-- The flat bodies that a table of the code has (this project's own form).
use Rattle.std.specs.Prelude.{◌≡◌, ℕ, ◌<◌, List, [], length, slice_index, Bool, true, ◌||◌, if◌then◌else◌}
use Rattle.std.specs.Prelude.{Option, Some, None, is_some}
use Rattle.std.specs.Borrow.{Bor}
use Rattle.std.specs.BTreeMap.{get_by}
use Rattle.std.specs.Cmp.Lexicographic.{slice_cmp}
use Rattle.std.specs.List.{slice_get}
use Rattle.std.specs.Ordering.{nat_cmp}
use Rattle.std.specs.Str.{bytes_eq}
use Rattle.est_reduce.specs.Bodies.{Body, nothing}
use Rattle.est_link.specs.Bodies.{HasSoundNames, IsBody, IsSent}
use Rattle.est_link.specs.Linking.{body_meant}
use Rattle.est_order.specs.PlaceSets.{IsIn}
use Rattle.est_link.specs.Inner.OpenBodies.{closed_of, meant_by}
use Rattle.est_link.specs.Linking.{IsLinked, linked}
use Rattle.est_link.specs.declared.module_bodies.ModuleBodies.{ModuleBodies}
use Rattle.est_link.specs.declared.module_bodies.ModuleBody.{ModuleBody}
use Rattle.est_modules.specs.Modules.{Program, program_named}

-- the value that the table has for a name
abbrev pub body_named : ModuleBodies → List ℕ → Option ModuleBody
body_named t m = get_by (λ (k : Bor (List ℕ)). slice_cmp nat_cmp m k.now) t.bodies

-- whether the table has a body for a name
abbrev pub has_body : ModuleBodies → List ℕ → Bool
has_body t m = is_some (body_named t m)

-- the flat body that a value is
abbrev pub module_body_of : ModuleBody → Body
module_body_of b = body_meant (meant_by b.meanings) (closed_of b.body.value)

-- the body of a value that was looked for
abbrev pub body_found : Option ModuleBody → Body
body_found None = nothing
body_found (Some b) = module_body_of b

-- the body that the table has for a name; without one, `nothing`
abbrev pub bodies_of : ModuleBodies → List ℕ → Body
bodies_of t m = body_found (body_named t m)

-- the body is that of the module p of the name m; where no name of the library is at fault, each name in it is bound
pub record IsBodyOf (ps : List Program) (m : List ℕ) (p : Program) (f : Body) : Type 0 where
  pub flat : IsLinked ps m f
  pub bound : (emitted : List ℕ → List ℕ → Bool) → HasSoundNames ps emitted
      → IsBody (length p.interface) (IsSent emitted p) 0 0 f

-- each body of the table is that of its module
abbrev pub AreBodiesOf : List Program → ModuleBodies → Type 0
AreBodiesOf ps t = (m : List ℕ) (p : Program) → program_named ps m ≡ Some p → has_body t m ≡ true
    → IsBodyOf ps m p (bodies_of t m)

-- the new table has also the body that the text of the module p gives by the bodies of the old one
pub record IsGrown (ps : List Program) (old : ModuleBodies) (p : Program) (new : ModuleBodies) : Type 0 where
  pub has : (m : List ℕ) → has_body new m ≡ (bytes_eq p.name m || has_body old m)
  pub bodies : (m : List ℕ) → bodies_of new m
      ≡ (if bytes_eq p.name m then linked ps (bodies_of old) p [] p.body else bodies_of old m)

-- the table has the bodies of those modules of the set that stand among the first n of an order
abbrev pub HasFront : List Program → List Bool → (order : List ℕ) → ℕ → ModuleBodies → Type 0
HasFront ps set order n t = (i : ℕ) → i < n → IsIn set (slice_index order i) → (p : Program)
    → slice_get ps (slice_index order i) ≡ Some p → has_body t p.name ≡ true

-- the table has the bodies of the modules of the set
abbrev pub HasBodies : List Program → List Bool → ModuleBodies → Type 0
HasBodies ps set t = (place : ℕ) → IsIn set place → (p : Program) → slice_get ps place ≡ Some p
    → has_body t p.name ≡ true
