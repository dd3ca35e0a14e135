-- The main module's body in a table.
use Rattle.std.proofs.Common.{◌≡◌, ℕ, List, [], ◌∷◌, Bool, Option, Some, None, ap, sym, ◌∙◌}
use Rattle.std.proofs.lemmas.Option.{none-some}
use Rattle.std.proofs.lemmas.List.Quantifiers.{position-Some}
use Rattle.std.specs.List.{slice_get}
use Rattle.std.specs.Str.{bytes_eq}
use Rattle.est_order.specs.PlaceSets.{IsIn}
use Rattle.est_link.specs.Inner.Tables.{has_body, bodies_of, IsBodyOf, AreBodiesOf, HasBodies}
use Rattle.est_link.specs.declared.module_bodies.ModuleBodies.{ModuleBodies}
use Rattle.est_modules.specs.Modules.{Program, program_named}
use Rattle.est_modules.specs.ModuleOrders.{place_named}
use Rattle.est_checks.specs.MissingModules.{first_missing, missing_from}
use Rattle.est_modules.proofs.Standing.{program_at}
use Rattle.est_modules.proofs.Placing.{got_found, none_got}
use Rattle.est_modules.proofs.Testing.{place_passes, same_bytes}

-- the module of a name that has a place
pub record IsPlaced (ps : List Program) (main : List ℕ) (place : ℕ) : Type 0 where
  pub home : Program
  pub at : slice_get ps place ≡ Some home
  pub found : program_named ps main ≡ Some home

pub placed : (ps : List Program) (main : List ℕ) (place : ℕ) → Some place ≡ place_named ps main
    → IsPlaced ps main place
placed [] main place at = absurd (none-some place (sym at))
placed (q ∷ qs) main place at =
    let is = λ (p : Program). bytes_eq p.name main in
    let here = program_at (q ∷ qs) place (position-Some is (q ∷ qs) place q (sym at)).0 in
    record { home = here.0; at = here.1; found = sym (got_found is (q ∷ qs) place (sym at)) ∙ here.1 }

-- the table has main's body
pub main_body : (ps : List Program) (set : List Bool) (t : ModuleBodies) (main : List ℕ) (place : ℕ)
    → AreBodiesOf ps t → HasBodies ps set t → IsIn set place → Some place ≡ place_named ps main → (p : Program)
    → program_named ps main ≡ Some p → IsBodyOf ps main p (bodies_of t main)
main_body ps set t main place right each has at p found =
    let here = placed ps main place at in
    let is = λ (p : Program). bytes_eq p.name main in
    right main p found
    (ap (has_body t) (sym (same_bytes here.home.name main (place_passes is ps place here.home (sym at) here.at)))
    ∙ each place has here.home here.at)

pub no_main : (ps : List Program) (main : List ℕ) (o : Option Program) → missing_from ps main o ≡ None → o ≡ None → ⊥
no_main ps main None h e = none-some main (sym h)
no_main ps main (Some q) h e = none-some q (sym e)

-- and it has a place
pub main_there : (ps : List Program) (main : List ℕ) → first_missing ps main ≡ None → None ≡ place_named ps main → ⊥
main_there ps main h none = no_main ps main (program_named ps main) h
    (none_got (λ (p : Program). bytes_eq p.name main) ps (sym none))
