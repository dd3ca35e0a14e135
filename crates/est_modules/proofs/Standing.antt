-- What stands at a place of a list, and in an order of modules.
use Rattle.std.proofs.Common.{◌≡◌, ℕ, zero, suc, ◌+◌, ◌<◌, List, [], ◌∷◌, length, slice_index, Bool, true, false, cond}
use Rattle.std.proofs.Common.{Option, Some, None, option_map, refl, ap, sym, ◌∙◌, arith}
use Rattle.std.proofs.lemmas.Option.{none-some}
use Rattle.std.proofs.lemmas.List.{length-map}
use Rattle.std.specs.List.{find, position, slice_get}
use Rattle.est_modules.specs.Modules.{Program}
use Rattle.est_modules.specs.Occurrences.{first_of}
use Rattle.est_modules.specs.ModuleOrders.{IsOrderOf, run_rows, places_run}
use Rattle.est_modules.proofs.Positions.{position_cons}
use Rattle.est_modules.proofs.Testing.{or_none_parts, some_same}
use Rattle.est_order.proofs.OrderPlaces.{places_are_there}

pub first_none : {X A : Type 0} (f : X → Option A) (xs : List X) (i : ℕ) (x : X) → first_of f xs ≡ None
    → slice_get xs i ≡ Some x → f x ≡ None
first_none f [] i x h at = absurd (none-some x at)
first_none f (y ∷ ys) zero x h at = ap f (sym (some_same y x at)) ∙ (or_none_parts (f y) (first_of f ys) h).0
first_none f (y ∷ ys) (suc i) x h at = first_none f ys i x (or_none_parts (f y) (first_of f ys) h).1 at

place_here : {X : Type 0} (p : X → Bool) (y : X) (ys : List X) (x : X) (b : Bool) → p y ≡ b
    → cond b (Some y) (find p ys) ≡ Some x
    → (find p ys ≡ Some x → (j : ℕ) × (position p ys ≡ Some j) × (slice_get ys j ≡ Some x))
    → (j : ℕ) × (position p (y ∷ ys) ≡ Some j) × (slice_get (y ∷ ys) j ≡ Some x)
place_here p y ys x true t e rest =
    (0, position_cons p y ys ∙ ap (λ b. cond b (Some 0) (option_map (λ i. i + 1) (position p ys))) t, e)
place_here p y ys x false t e rest =
    let later = rest e in (
      suc later.0,
      position_cons p y ys ∙ ap (λ b. cond b (Some 0) (option_map (λ i. i + 1) (position p ys))) t
          ∙ ap (option_map (λ i. i + 1)) later.1 ∙ ap Some (omega arith),
      later.2,
    )

-- the place of what is found
pub found_place : {X : Type 0} (p : X → Bool) (xs : List X) (x : X) → find p xs ≡ Some x
    → (j : ℕ) × (position p xs ≡ Some j) × (slice_get xs j ≡ Some x)
found_place p [] x e = absurd (none-some x e)
found_place p (y ∷ ys) x e = place_here p y ys x (p y) refl e (found_place p ys x)

-- what stands in an order is there
pub order_within : (ps : List Program) (order : List ℕ) (k : ℕ) → IsOrderOf ps order → k < length order
    → slice_index order k < length ps
order_within ps order k up lt =
    omega (arith, places_are_there (run_rows ps) order up k lt, length-map ps (places_run ps))

-- the module there
pub program_at : (ps : List Program) (i : ℕ) → i < length ps → (p : Program) × (slice_get ps i ≡ Some p)
program_at [] i lt = absurd (omega (arith, lt))
program_at (p ∷ ps) zero lt = (p, refl)
program_at (p ∷ ps) (suc i) lt = program_at ps i (omega (arith, lt))
