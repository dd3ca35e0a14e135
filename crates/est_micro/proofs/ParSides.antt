-- The parts of a `||` are its sides, and so are the sides of its second part.
use Rattle.std.specs.Prelude.{◌≡◌, ◌<◌, ◌+◌, ℕ, Bool, true, false, List}
use Rattle.std.proofs.Common.{refl, sym, arith, subst}
use Rattle.std.proofs.lemmas.Bool.{or_left, or_right}
use Rattle.est_kernel.specs.declared.statement.Statement.{Statement}
use Rattle.est_kernel.specs.declared.statement.Statement.TheVariants.{Par'}
use Rattle.est_meaning.specs.Environments.{Env}
use Rattle.est_meaning.specs.States.{is_live}
use Rattle.est_meaning.specs.declared.status.Status.{Status}
use Rattle.est_meaning.specs.declared.status.Status.TheVariants.{Absent}
use Rattle.est_cells.specs.Meaning.{begun, resumed}
use Rattle.est_cells.specs.Tables.{sheet_size}
use Rattle.est_net.specs.Owners.{statements}
use Rattle.est_net.specs.declared.extents.Extent.{Extent}
use Rattle.est_micro.specs.Inner.Parts.{AreTwo}
use Rattle.est_micro.specs.Inner.Sides.{AreSidesOf, IsPart, IsSideOf, IsSideOn}
use Rattle.est_micro.specs.declared.cells.StatementPlace.{StatementPlace}
use Rattle.est_micro.specs.declared.sides.Side.{Side}
use Rattle.est_micro.proofs.StatementParts.{par_first_on, par_first_over, par_first_part}
use Rattle.est_micro.proofs.StatementParts.{par_second_on, par_second_over, par_second_part, part_then}

first_on : (bits : ℕ → Bool) (a : _) (p : Statement) (b : _) (q : Statement) (c t : ℕ)
    → IsSideOn bits (Par' a p b q) c p (c + t + 3) t
first_on bits a p b q c t = record {
  part = λ r e z. par_first_on bits a p b q c t r e z;
  over = λ r e z. par_first_over bits a p b q c t r e z;
}

second_on : (bits : ℕ → Bool) (a : _) (p : Statement) (b : _) (q : Statement) (c t : ℕ)
    → IsSideOn bits (Par' a p b q) c q (c + t + 3 + sheet_size true p t) t
second_on bits a p b q c t = record {
  part = λ r e z. par_second_on bits a p b q c t r e z;
  over = λ r e z. par_second_over bits a p b q c t r e z;
}

-- a side of a side
side_then : (bits : ℕ → Bool) (s : Statement) (c : ℕ) (p : Statement) (d t : ℕ) (q : Statement) (x : ℕ)
    → (is_live q bits ≡ true → is_live p bits ≡ true)
    → ((e : Env) → IsPart true p d t (begun true p Absent e) true q x t (begun true q Absent e))
    → IsSideOn bits s c p d t → IsSideOn bits p d q x t → IsSideOn bits s c q x t
side_then bits s c p d t q x up idle h g = record {
  part = λ r e z. part_then true s c t (resumed s bits r e) true p d t (resumed p bits r e) true q x t
      (resumed q bits r e) (h.part r e (up z)) (g.part r e z);
  over = λ r e z. go r e z (is_live p bits) refl;
}
  where
    go : (r : Status) (e : Env) → is_live q bits ≡ false → (b : Bool) → is_live p bits ≡ b
        → IsPart true s c t (resumed s bits r e) true q x t (begun true q Absent e)
    go r e z true i =
        part_then true s c t (resumed s bits r e) true p d t (resumed p bits r e) true q x t
        (begun true q Absent e) (h.part r e i) (g.over r e z)
    go r e z false i =
        part_then true s c t (resumed s bits r e) true p d t (begun true p Absent e) true q x t
        (begun true q Absent e) (h.over r e i) (idle e)

-- with what a sweep asks
pub first_side : (xs : List Extent) (size : ℕ) (at : StatementPlace) (a : _) (p : Statement) (b : _) (q : Statement)
    → AreTwo xs size at p q → IsSideOf xs at (Par' a p b q) p (at.number + 1) (at.cell + at.traps + 3)
first_side xs size at a p b q h = record {
  smaller = omega arith;
  fits = h.first_fits;
  extents = h.first;
  traps = h.first_traps;
  from = omega arith;
  within = omega arith;
  begun = λ r e. par_first_part at.main a p b q at.cell at.traps r e;
  on = λ bits z. first_on bits a p b q at.cell at.traps;
}

second_side : (xs : List Extent) (size : ℕ) (at : StatementPlace) (a : _) (p : Statement) (b : _) (q : Statement)
    → AreTwo xs size at p q → IsSideOf xs at (Par' a p b q) q (at.number + 1 + statements p)
    (at.cell + at.traps + 3 + sheet_size at.main p at.traps)
second_side xs size at a p b q h = record {
  smaller = omega arith;
  fits = h.second_fits;
  extents = h.second;
  traps = h.second_traps;
  from = omega arith;
  within = omega arith;
  begun = λ r e. par_second_part at.main a p b q at.cell at.traps r e;
  on = λ bits z. subst
      (λ (m : Bool). IsSideOn bits (Par' a p b q) at.cell q (at.cell + at.traps + 3 + sheet_size m p at.traps) at.traps)
      (sym z) (second_on bits a p b q at.cell at.traps);
}

pub second_side_at : (xs : List Extent) (size : ℕ) (at : StatementPlace) (a : _) (p : Statement) (b : _)
    (q : Statement) (n d : ℕ) → n ≡ at.number + 1 + statements p
    → d ≡ at.cell + at.traps + 3 + sheet_size at.main p at.traps → AreTwo xs size at p q
    → IsSideOf xs at (Par' a p b q) q n d
second_side_at xs size at a p b q n d x y h =
    subst (λ (i : ℕ). IsSideOf xs at (Par' a p b q) q i d) (sym x)
    (subst (λ (i : ℕ). IsSideOf xs at (Par' a p b q) q (at.number + 1 + statements p) i) (sym y)
    (second_side xs size at a p b q h))

pub first_of : (xs : List Extent) (at : StatementPlace) (s : Statement) (a : _) (p : Statement) (b : _) (q : Statement)
    (n d : ℕ) → IsSideOf xs at s (Par' a p b q) n d → IsSideOf xs at s p (n + 1) (d + at.traps + 3)
first_of xs at s a p b q n d h =
    let v = h.smaller in
    let w = h.traps in
    let x = h.from in
    let y = h.within in
    record {
      smaller = omega arith;
      fits = h.fits.0;
      extents = h.extents.parts.0;
      traps = omega arith;
      from = omega arith;
      within = omega arith;
      begun = λ r e. part_then at.main s at.cell at.traps (begun at.main s r e) at.main (Par' a p b q) d at.traps
          (begun at.main (Par' a p b q) r e) at.main p (d + at.traps + 3) at.traps (begun at.main p r e) (h.begun r e)
          (par_first_part at.main a p b q d at.traps r e);
      on = λ bits z. side_then bits s at.cell (Par' a p b q) d at.traps p (d + at.traps + 3)
          (or_left (is_live p bits) (is_live q bits)) (λ e. par_first_part true a p b q d at.traps Absent e)
          (h.on bits z) (first_on bits a p b q d at.traps);
    }

pub second_of : (xs : List Extent) (at : StatementPlace) (s : Statement) (a : _) (p : Statement) (b : _) (q : Statement)
    (n d : ℕ) → IsSideOf xs at s (Par' a p b q) n d
    → IsSideOf xs at s q (n + 1 + statements p) (d + at.traps + 3 + sheet_size at.main p at.traps)
second_of xs at s a p b q n d h =
    let v = h.smaller in
    let w = h.traps in
    let x = h.from in
    let y = h.within in
    record {
      smaller = omega arith;
      fits = h.fits.1;
      extents = h.extents.parts.1;
      traps = omega arith;
      from = omega arith;
      within = omega arith;
      begun = λ r e. part_then at.main s at.cell at.traps (begun at.main s r e) at.main (Par' a p b q) d at.traps
          (begun at.main (Par' a p b q) r e) at.main q (d + at.traps + 3 + sheet_size at.main p at.traps) at.traps
          (begun at.main q r e) (h.begun r e) (par_second_part at.main a p b q d at.traps r e);
      on = λ bits z. subst
          (λ (m : Bool). IsSideOn bits s at.cell q (d + at.traps + 3 + sheet_size m p at.traps) at.traps)
          (sym z) (side_then bits s at.cell (Par' a p b q) d at.traps q (d + at.traps + 3 + sheet_size true p at.traps)
          (or_right (is_live p bits) (is_live q bits)) (λ e. par_second_part true a p b q d at.traps Absent e)
          (h.on bits z) (second_on bits a p b q d at.traps));
    }

pub second_at : (xs : List Extent) (at : StatementPlace) (s : Statement) (a : _) (p : Statement) (b : _) (q : Statement)
    (n d t m e : ℕ) (main : Bool) → at.traps ≡ t → at.main ≡ main → m ≡ n + 1 + statements p
    → e ≡ d + t + 3 + sheet_size main p t → IsSideOf xs at s (Par' a p b q) n d → IsSideOf xs at s q m e
second_at xs at s a p b q n d t m e main x y u v h =
    subst (λ (i : ℕ). IsSideOf xs at s q m i) (sym v)
    (subst (λ (i : ℕ). IsSideOf xs at s q i (d + t + 3 + sheet_size main p t)) (sym u)
    (subst (λ (i : Bool). IsSideOf xs at s q (n + 1 + statements p) (d + t + 3 + sheet_size i p t)) y
    (subst (λ (i : ℕ). IsSideOf xs at s q (n + 1 + statements p) (d + i + 3 + sheet_size at.main p i)) x
    (second_of xs at s a p b q n d h))))

-- no side is a side
pub none_at : (xs : List Extent) (at : StatementPlace) (s : Statement) (list : List Side) (count : ℕ) → count ≡ 0
    → AreSidesOf xs at s list count
none_at xs at s list count z = λ n k. let w : n < 0 = subst (λ (i : ℕ). n < i) z k in absurd (omega (arith, w))
