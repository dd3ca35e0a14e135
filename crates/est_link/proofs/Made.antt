-- Tables of bodies that are made one after another.
use Rattle.std.proofs.Common.{◌≡◌, ℕ, ◌+◌, ◌<◌, ◌≤◌, ◌||◌, inl, inr, List, [], length, slice_index, slice_index_or}
use Rattle.std.proofs.Common.{Bool, true, false, if◌then◌else◌, Option, Some, None, refl, ap, sym, subst, ◌∙◌, arith}
use Rattle.std.proofs.lemmas.Bool.{cases_lt, false≢true, or_right, or_left}
use Rattle.std.proofs.lemmas.List.{length-map}
use Rattle.std.proofs.lemmas.Option.{slice_get_within}
use Rattle.std.specs.List.{slice_get}
use Rattle.std.specs.Prelude.{is_some}
use Rattle.std.specs.Str.{bytes_eq}
use Rattle.est_modules.specs.Modules.{Program, program_named, first_in_bodies}
use Rattle.est_modules.specs.ModuleOrders.{IsOrderOf, run_rows, places_run}
use Rattle.est_modules.proofs.Testing.{equal_bytes, same_bytes, some_same}
use Rattle.est_checks.specs.MissingModules.{missing_at}
use Rattle.est_checks.specs.RecursiveRuns.{HasRun}
use Rattle.est_order.proofs.OrderPlaces.{each_stands}
use Rattle.est_order.specs.PlaceSets.{IsIn}
use Rattle.est_link.specs.Inner.Tables.{body_named, has_body, body_found, module_body_of, bodies_of, IsBodyOf}
use Rattle.est_link.specs.Inner.Tables.{AreBodiesOf, IsGrown, HasFront, HasBodies}
use Rattle.est_link.specs.Linking.{links, linked}
use Rattle.est_link.specs.declared.module_bodies.ModuleBodies.{ModuleBodies}
use Rattle.est_link.specs.declared.module_bodies.ModuleBody.{ModuleBody}
use Rattle.est_link.proofs.Bounding.{IsSound, body_bound}
use Rattle.est_link.proofs.RunModules.{run_there}
use Rattle.est_reduce.specs.Bodies.{Body}

-- ---- one body more

has_either : (b : Bool) (f : ModuleBody) (o : Option ModuleBody) → is_some (if b then Some f else o) ≡ (b || is_some o)
has_either true f o = refl
has_either false f o = refl

found_either : (b : Bool) (f : ModuleBody) (o : Option ModuleBody)
    → body_found (if b then Some f else o) ≡ (if b then module_body_of f else body_found o)
found_either true f o = refl
found_either false f o = refl

-- a table to which a module's body is added
pub grown : (ps : List Program) (old : ModuleBodies) (p : Program) (f : ModuleBody) (new : ModuleBodies)
    → module_body_of f ≡ linked ps (bodies_of old) p [] p.body
    → ((m : List ℕ) → body_named new m ≡ (if bytes_eq p.name m then Some f else body_named old m))
    → IsGrown ps old p new
grown ps old p f new is said = record {
  has = λ m. ap is_some (said m) ∙ has_either (bytes_eq p.name m) f (body_named old m);
  bodies = λ m. ap body_found (said m) ∙ found_either (bytes_eq p.name m) f (body_named old m)
      ∙ ap (λ (x : Body). if bytes_eq p.name m then x else bodies_of old m) is;
}

-- ---- each body is that of its module

-- the body that a module's text gives by a table which has those of the modules that it runs
made : (ps : List Program) → first_in_bodies (missing_at ps) ps ≡ None → (t : ModuleBodies) (m : List ℕ) (p : Program)
    → AreBodiesOf ps t → program_named ps m ≡ Some p → ((n : List ℕ) → HasRun ps m n → has_body t n ≡ true)
    → IsBodyOf ps m p (linked ps (bodies_of t) p [] p.body)
made ps there t m p are found ready =
    let below : (n : List ℕ) → HasRun ps m n
    → (q : Program) × (program_named ps n ≡ Some q) × IsBodyOf ps n q (bodies_of t n) =
    λ n run. let its = run_there ps there m n run in (its.0, its.1, are n its.0 its.1 (ready n run)) in
    record {
      flat = links p (bodies_of t) found (λ n run. let its = below n run in its.2.flat) refl;
      bound = λ em names. body_bound ps em m p (bodies_of t) found names
          (λ n run. let its = below n run in subst (λ o. IsSound em o (bodies_of t n)) (sym its.1)
          (its.2.bound em names));
    }

one_of : (ps : List Program) (m : List ℕ) (p q : Program) (f g : Body) (b c : Bool) → bytes_eq p.name m ≡ b
    → program_named ps p.name ≡ Some p → program_named ps m ≡ Some q → IsBodyOf ps p.name p f
    → (c ≡ true → IsBodyOf ps m q g) → (b || c) ≡ true → IsBodyOf ps m q (if b then f else g)
one_of ps m p q f g true c e named found new old has =
    let same : p.name ≡ m = same_bytes p.name m e in
    let module_of : p ≡ q = some_same p q (sym named ∙ ap (program_named ps) same ∙ found) in
    subst (λ r. IsBodyOf ps m r f) module_of (subst (λ n. IsBodyOf ps n p f) same new)
one_of ps m p q f g false c e named found new old has = old has

pub bodies_more : (ps : List Program) → first_in_bodies (missing_at ps) ps ≡ None → (old : ModuleBodies) (p : Program)
    (new : ModuleBodies) → IsGrown ps old p new → program_named ps p.name ≡ Some p
    → ((n : List ℕ) → HasRun ps p.name n → has_body old n ≡ true) → AreBodiesOf ps old → AreBodiesOf ps new
bodies_more ps there old p new more named ready are m q found has =
    subst (IsBodyOf ps m q) (sym (more.bodies m))
    (one_of ps m p q (linked ps (bodies_of old) p [] p.body) (bodies_of old m) (bytes_eq p.name m) (has_body old m) refl
    named found (made ps there old p.name p are named ready) (are m q found) (sym (more.has m) ∙ has))

-- ---- along an order

pub front_more : (ps : List Program) (order : List ℕ) (set : List Bool) (old : ModuleBodies) (p : Program)
    (new : ModuleBodies) (k : ℕ) → IsGrown ps old p new → slice_get ps (slice_index order k) ≡ Some p
    → HasFront ps set order k old → HasFront ps set order (k + 1) new
front_more ps order set old p new k more at front i lt has q here = elim (cases_lt i k) [
  | inl before ↦ more.has q.name
      ∙ or_right (bytes_eq p.name q.name) (has_body old q.name) (front i before has q here)
  | inr past ↦
      let last : k ≡ i = omega (arith, past, lt) in
      let same : p ≡ q = some_same p q (sym at ∙ ap (λ j. slice_get ps (slice_index order j)) last ∙ here) in
      more.has q.name
      ∙ or_left (bytes_eq p.name q.name) (has_body old q.name)
      (ap (λ (r : Program). bytes_eq r.name q.name) same ∙ equal_bytes q.name)
]

pub front_past : (ps : List Program) (order : List ℕ) (set : List Bool) (t : ModuleBodies) (k : ℕ)
    → slice_index_or set (slice_index order k) false ≡ false → HasFront ps set order k t
    → HasFront ps set order (k + 1) t
front_past ps order set t k absent front i lt has q here = elim (cases_lt i k) [
  | inl before ↦ front i before has q here
  | inr past ↦
      let last : i ≡ k = omega (arith, past, lt) in
      absurd (false≢true (sym absent ∙ subst (λ j. IsIn set (slice_index order j)) last has))
]

pub front_whole : (ps : List Program) (order : List ℕ) (set : List Bool) (t : ModuleBodies) (n : ℕ)
    → IsOrderOf ps order → length order ≤ n → HasFront ps set order n t → HasBodies ps set t
front_whole ps order set t n up whole front place has p at =
    let there : place < length (run_rows ps) =
    omega (arith, slice_get_within ps place p at, length-map ps (places_run ps)) in
    let stood = each_stands (run_rows ps) order up place there in
    front stood.0 (omega (arith, stood.1, whole)) (subst (IsIn set) (sym stood.2) has) p
    (ap (slice_get ps) stood.2 ∙ at)
