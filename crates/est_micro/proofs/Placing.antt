-- What a sweep asks of a part, its parts have.
use Rattle.std.specs.Prelude.{◌≡◌, ◌<◌, ◌≤◌, ◌+◌, ◌||◌, ℕ, Bool, true, false, List, IfSome, Some}
use Rattle.std.proofs.Common.{Bor, Option, arith, length, subst, sym, ◌∙◌}
use Rattle.est_kernel.specs.Limits.{trap_depth}
use Rattle.est_kernel.specs.Masks.{FitsMasks}
use Rattle.est_kernel.specs.Pauses.{pauses_of}
use Rattle.est_kernel.specs.View.{term_of}
use Rattle.est_kernel.specs.declared.kernel.Kernel.{Kernel}
use Rattle.est_kernel.specs.declared.pause_set.PauseSet.{PauseSet}
use Rattle.est_kernel.specs.declared.statement.Statement.{Statement}
use Rattle.est_kernel.specs.declared.statement.Test.{Test}
use Rattle.est_kernel.specs.declared.statement.Statement.TheVariants.{Seq'}
use Rattle.est_kernel.specs.declared.statement.Statement.TheVariants.{Suspend'}
use Rattle.est_meaning.specs.States.{is_live}
use Rattle.est_cells.specs.Tables.{sheet_size}
use Rattle.est_net.specs.Extents.{HasExtents}
use Rattle.est_net.specs.Kept.{Kept, kept}
use Rattle.est_net.specs.Owners.{statements}
use Rattle.est_net.specs.declared.net.Net.{Net}
use Rattle.est_net.specs.declared.extents.Extent.{Extent}
use Rattle.est_micro.specs.Inner.Parts.{AreTwo, GoesOn, IsOnMain, IsPlaced}
use Rattle.est_micro.specs.Engine.{IsNetOf}
use Rattle.est_micro.specs.Inner.Parts.{second_part, side_part}
use Rattle.est_micro.specs.Inner.Sides.{IsOneOf}
use Rattle.est_micro.specs.declared.cells.StatementPlace.{StatementPlace}
use Rattle.est_micro.specs.declared.part.Part.{Part}
use Rattle.est_micro.specs.declared.sides.Side.{Side}

-- R holds where the statement s has at this place what a sweep asks
abbrev Placed : List Extent → (size : ℕ) → StatementPlace → Statement → Type 0 → Type 0
Placed xs size at s R = FitsMasks s → HasExtents xs at.number at.traps s → at.traps + trap_depth (term_of s) ≤ 62
    → at.cell + sheet_size at.main s at.traps ≤ size → R

by_name : (xs : List Extent) (size : ℕ) (f : Part) (s : Statement) (R : Type 0) → f.statement.now ≡ s
    → Placed xs size f.place s R → IsPlaced xs size f → R
by_name xs size f s R z h placed =
    subst (λ (y : Statement). Placed xs size f.place y R) (sym z) h placed.fits placed.extents placed.traps
    placed.within

pub two_in_seq : (xs : List Extent) (size : ℕ) (f : Part) (a : _) (p : Statement) (b : _) (q : Statement)
    → f.statement.now ≡ Seq' a p b q → IsPlaced xs size f → AreTwo xs size f.place p q
two_in_seq xs size f a p b q z placed =
    by_name xs size f (Seq' a p b q) _ z (λ m x t w. record {
      first_fits = m.0;
      second_fits = m.1;
      first = x.parts.0;
      second = x.parts.1;
      first_traps = omega arith;
      second_traps = omega arith;
      within = omega arith;
    }) placed

pub placed_second : (xs : List Extent) (size : ℕ) (f : Part) (p q : Bor Statement)
    → AreTwo xs size f.place p.now q.now → IsOnMain f → IsPlaced xs size (second_part f p q)
placed_second xs size f p q two main =
    let w = two.within in
    record {
      fits = two.second_fits;
      extents = two.second;
      traps = two.second_traps;
      within = omega arith;
      main = main;
    }

-- a statement by names for its parts
pub named_seq : (s : Statement) (a : _) (b : _) (p q x y : Statement) → p ≡ x → q ≡ y → s ≡ Seq' a x b y
    → s ≡ Seq' a p b q
named_seq s a b p q x y i j z = rw (i, j) z

pub named_suspend : (s : Statement) (u : Test) (a : _) (p x : Statement) → p ≡ x → s ≡ Suspend' u a x
    → s ≡ Suspend' u a p
named_suspend s u a p x j z = rw j z

-- parts are smaller
pub second_smaller : (s : Statement) (a : _) (p : Statement) (b : _) (q : Statement) → s ≡ Seq' a p b q
    → statements q < statements s
second_smaller s a p b q z =
    subst (λ (y : Statement). statements q < statements y) (sym z) (smaller a p b q)
  where
    smaller : (a : _) (p : Statement) (b : _) (q : Statement) → statements q < statements (Seq' a p b q)
    smaller a p b q = omega arith

-- a side
pub side_placed : (xs : List Extent) (size : ℕ) (f : Part) (s : Statement) (side : Side) → f.statement.now ≡ s
    → IsOneOf xs f.place s side → IsPlaced xs size f → IsPlaced xs size (side_part f side)
side_placed xs size f s side z one placed =
    let w = one.within in
    let v = subst (λ (y : Statement). f.place.cell + sheet_size f.place.main y f.place.traps ≤ size) z placed.within in
    record {
      fits = one.fits;
      extents = one.extents;
      traps = one.traps;
      within = omega arith;
      main = placed.main;
    }

-- in a table that was not laid out anew
pub still_placed : (f : Part) (k : Kernel) (old new : Net) → kept new ≡ kept old → IsNetOf old k → IsNetOf new k
    → IsPlaced old.extents.items (length old.cells.items) f → IsPlaced new.extents.items (length new.cells.items) f
still_placed f k old new same was is placed =
    subst (λ (n : ℕ). IsPlaced new.extents.items n f) (was.size ∙ sym is.size)
    (subst (λ (x : Kept). IsPlaced x.extents (length old.cells.items) f) (sym same) placed)

-- where the first of two is over, the second goes on
pub second_goes_on : (f : Part) (a : _) (p : Statement) (b : _) (q : Statement) (ps : Bor PauseSet)
    → f.statement.now ≡ Seq' a p b q → f.pauses ≡ Some ps → is_live p (pauses_of ps.now) ≡ false → GoesOn f
    → IfSome f.pauses (λ x. is_live q (pauses_of x.now) ≡ true)
second_goes_on f a p b q ps z some over live =
    subst (λ (o : Option (Bor PauseSet)). IfSome o (λ x. is_live q (pauses_of x.now) ≡ true)) (sym some)
    (subst (λ (v : Bool). (v || is_live q (pauses_of ps.now)) ≡ true) over
    (subst (λ (o : Option (Bor PauseSet)). IfSome o (λ x. is_live (Seq' a p b q) (pauses_of x.now) ≡ true)) some
    (subst (λ (y : Statement). IfSome f.pauses (λ x. is_live y (pauses_of x.now) ≡ true)) z live)))
