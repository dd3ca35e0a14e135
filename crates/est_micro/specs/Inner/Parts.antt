-- The parts of a kernel's statement that a walk comes to, and what lies where in a statement (this project's own form).
use Rattle.std.specs.Prelude.{◌≡◌, ◌≤◌, ◌+◌, ℕ, Bool, true, false, List, IfNone, IfSome, None}
use Rattle.std.specs.Borrow.{Bor}
use Rattle.std.specs.Global.{Box}
use Rattle.est_kernel.specs.Limits.{trap_depth}
use Rattle.est_kernel.specs.Masks.{FitsMasks}
use Rattle.est_kernel.specs.Pauses.{pauses_of}
use Rattle.est_kernel.specs.Term.{outer}
use Rattle.est_kernel.specs.View.{query_of, term_of}
use Rattle.est_kernel.specs.declared.statement.LocalSignal.{LocalSignal}
use Rattle.est_kernel.specs.declared.statement.Statement.{Statement}
use Rattle.est_kernel.specs.declared.statement.Statement.TheVariants.{Local' as Binder', Loop', Par', Present', Seq'}
use Rattle.est_kernel.specs.declared.statement.Test.{Test}
use Rattle.est_meaning.specs.Environments.{Env, and_status, opposite, status_of}
use Rattle.est_meaning.specs.Knowledge.{IsBelow, KnowsLess}
use Rattle.est_meaning.specs.States.{is_live}
use Rattle.est_meaning.specs.declared.status.Status.{Status}
use Rattle.est_cells.specs.Gates.{ends}
use Rattle.est_cells.specs.Meaning.{begun, cells_at, resumed}
use Rattle.est_cells.specs.Tables.{Below, Sheet, emits, is_sure, sheet_size}
use Rattle.est_net.specs.Cells.{cell_at}
use Rattle.est_net.specs.Extents.{HasExtents}
use Rattle.est_net.specs.Layout.{sheet_in}
use Rattle.est_net.specs.Owners.{statements}
use Rattle.est_net.specs.declared.extents.Extent.{Extent}
use Rattle.est_micro.specs.Inner.Hearing.{Heard}
use Rattle.est_micro.specs.Inner.Passes.{EndsBy}
use Rattle.est_micro.specs.Inner.Sides.{IsWithin}
use Rattle.est_micro.specs.declared.cells.StatementPlace.{StatementPlace}
use Rattle.est_micro.specs.declared.part.Part.{Part}
use Rattle.est_micro.specs.declared.sides.Side.{Side}

-- a statement by names for its parts
pub record IsPar (s p q : Statement) : Type 0 where
  pub left : Box (Unit {0})
  pub right : Box (Unit {0})
  pub is : s ≡ Par' left p right q

pub record IsSeq (s p q : Statement) : Type 0 where
  pub left : Box (Unit {0})
  pub right : Box (Unit {0})
  pub is : s ≡ Seq' left p right q

pub record IsPresent (s : Statement) (t : Test) (p q : Statement) : Type 0 where
  pub left : Box (Unit {0})
  pub right : Box (Unit {0})
  pub is : s ≡ Present' t left p right q

pub record IsLoop (s p : Statement) : Type 0 where
  pub box : Box (Unit {0})
  pub is : s ≡ Loop' box p

pub record IsScope (s : Statement) (signal : LocalSignal) (p : Statement) : Type 0 where
  pub box : Box (Unit {0})
  pub is : s ≡ Binder' signal box p

-- the part by another gate
abbrev pub gated : Part → Status → Part
gated f g = record { statement = f.statement; place = f.place; gate = g; pauses = f.pauses }

-- where it is begun, if at all, by this gate
abbrev pub begun_by : Part → Status → Part
begun_by f g = record { statement = f.statement; place = f.place; gate = g; pauses = None }

-- a side of it
abbrev pub side_part : Part → Side → Part
side_part f side = record {
  statement = side.statement;
  place = record {
    number = side.number;
    main = f.place.main;
    direction = f.place.direction;
    cell = side.cell;
    traps = f.place.traps;
  };
  gate = f.gate;
  pauses = f.pauses;
}

-- its body, inside this many traps, after own cells of its own, and one for each trap around it
abbrev pub body_part : Part → Bor Statement → (own traps : ℕ) → Part
body_part f p own traps = record {
  statement = p;
  place = record {
    number = f.place.number + 1;
    main = f.place.main;
    direction = f.place.direction;
    cell = f.place.cell + f.place.traps + own;
    traps = traps;
  };
  gate = f.gate;
  pauses = f.pauses;
}

-- its first part, and its second
abbrev pub first_part : Part → Bor Statement → Part
first_part f p = body_part f p 3 f.place.traps

abbrev pub second_part : Part → (p q : Bor Statement) → Part
second_part f p q = record {
  statement = q;
  place = record {
    number = f.place.number + 1 + statements p.now;
    main = f.place.main;
    direction = f.place.direction;
    cell = f.place.cell + f.place.traps + 3 + sheet_size f.place.main p.now f.place.traps;
    traps = f.place.traps;
  };
  gate = f.gate;
  pauses = f.pauses;
}

-- the restart of a loop with this body, by this gate
abbrev pub again_part : Part → Bor Statement → Status → Part
again_part f p g = record {
  statement = p;
  place = record {
    number = f.place.number + 1;
    main = false;
    direction = f.place.direction;
    cell = f.place.cell + f.place.traps + 3 + sheet_size f.place.main p.now f.place.traps;
    traps = f.place.traps;
  };
  gate = g;
  pauses = None;
}

-- only the incarnation with pauses goes on
abbrev pub IsOnMain : Part → Type 0
IsOnMain f = IfSome f.pauses (λ p. f.place.main ≡ true)

-- one of its pauses is set, if it goes on from pauses
abbrev pub GoesOn : Part → Type 0
GoesOn f = IfSome f.pauses (λ p. is_live f.statement.now (pauses_of p.now) ≡ true)

-- a part has what a sweep asks of a statement, in a table of this size
pub record IsPlaced (xs : List Extent) (size : ℕ) (f : Part) : Type 0 where
  pub fits : FitsMasks f.statement.now
  pub extents : HasExtents xs f.place.number f.place.traps f.statement.now
  pub traps : f.place.traps + trap_depth (term_of f.statement.now) ≤ 62
  pub within : f.place.cell + sheet_size f.place.main f.statement.now f.place.traps ≤ size
  pub main : IsOnMain f

-- the two parts of the statement at this place have it
pub record AreTwo (xs : List Extent) (size : ℕ) (at : StatementPlace) (p q : Statement) : Type 0 where
  pub first_fits : FitsMasks p
  pub second_fits : FitsMasks q
  pub first : HasExtents xs (at.number + 1) at.traps p
  pub second : HasExtents xs (at.number + 1 + statements p) at.traps q
  pub first_traps : at.traps + trap_depth (term_of p) ≤ 62
  pub second_traps : at.traps + trap_depth (term_of q) ≤ 62
  pub within : at.cell + at.traps + 3 + sheet_size at.main p at.traps + sheet_size at.main q at.traps ≤ size

-- the body of f has it, inside u traps, after own cells of f's own
pub record IsBody (xs : List Extent) (size : ℕ) (f : Part) (p : Statement) (own u : ℕ) : Type 0 where
  pub fits : FitsMasks p
  pub extents : HasExtents xs (f.place.number + 1) u p
  pub traps : u + trap_depth (term_of p) ≤ 62
  pub within : f.place.cell + f.place.traps + own + sheet_size f.place.main p u ≤ size
  pub main : IsOnMain f
  pub live : IfSome f.pauses (λ x. is_live p (pauses_of x.now) ≡ true)

-- the gate of the body of a suspend with this test: where it goes on, the body is run unless the test holds
pub record IsGateInside (f : Part) (t : Test) (l : Env) (g : Status) : Type 0 where
  pub begun : IfNone f.pauses (g ≡ f.gate)
  pub on : IfSome f.pauses (λ x. g ≡ and_status f.gate (opposite (status_of l (query_of t))))

-- what f surely emits, where it is begun, if at all, or run, as r tells, is heard
pub record PartHeard (f : Part) (r : Status) (e l : Env) : Type 0 where
  pub begun : IfNone f.pauses
      (Heard (emits is_sure f.place.main f.statement.now (begun f.place.main f.statement.now r e)) e l)
  pub on : IfSome f.pauses
      (λ p. Heard (emits is_sure true f.statement.now (resumed f.statement.now (pauses_of p.now) r e)) e l)

-- f lies in the sheet M: it is begun, if at all, or goes on from its pauses, if it is run, as a status tells of which
-- no more than its gate is known. Inside the binders around it signals of the interface are as e has them
pub record IsReached (main : Bool) (s : Statement) (c t : ℕ) (M : Sheet main s) (e : Env) (f : Part) : Type 0 where
  pub reach : Status
  pub below : IsBelow f.gate reach
  pub inside : Env
  pub outer : (n : ℕ) → inside (outer n) ≡ e (outer n)
  pub begun : IfNone f.pauses (IsWithin main s c t M f.place.main f.statement.now f.place.cell f.place.traps
      (begun f.place.main f.statement.now reach inside))
  pub on : IfSome f.pauses (λ p. IsWithin main s c t M true f.statement.now f.place.cell f.place.traps
      (resumed f.statement.now (pauses_of p.now) reach inside))

-- with f, g is reached, inside the same binders, and emits no more than f
pub record IsReachedIn (main : Bool) (s : Statement) (c t : ℕ) (M : Sheet main s) (e : Env) (f : Part)
    (at : IsReached main s c t M e f) (g : Part) : Type 0 where
  pub to : IsReached main s c t M e g
  pub same : to.inside ≡ at.inside
  pub heard : (l : Env) → PartHeard f at.reach at.inside l → PartHeard g to.reach to.inside l

-- g is a part of f: wherever f is reached, so is g, where no more is decided than is meant, and l knows no more than
-- there is
pub record IsPartOf (f g : Part) (l : Env) (cells : List Status) : Type 0 where
  pub from : f.place.cell ≤ g.place.cell
  pub within : g.place.cell + sheet_size g.place.main g.statement.now g.place.traps
      ≤ f.place.cell + sheet_size f.place.main f.statement.now f.place.traps
  pub step : (main : Bool) (s : Statement) (c t : ℕ) (M : Sheet main s) (e : Env) (at : IsReached main s c t M e f)
      → Below main s (sheet_in (cell_at cells) main s c t) M → KnowsLess l at.inside
      → IsReachedIn main s c t M e f at g

-- what is known of whether a statement ends: h, where no more of its cells is decided than is meant, whether it is
-- begun or goes on
pub record EndsAs (main : Bool) (s : Statement) (c t : ℕ) (cells : List Status) (h : Status) : Type 0 where
  pub begun : (r : Status) (e : Env) → Below main s (sheet_in (cell_at cells) main s c t) (begun main s r e)
      → IsBelow h (ends (cells_at r r (term_of s) e))
  pub on : main ≡ true → (bits : ℕ → Bool) → EndsBy s bits c t cells h

abbrev pub PartEnds : Part → (cells : List Status) → Status → Type 0
PartEnds f cells h = EndsAs f.place.main f.statement.now f.place.cell f.place.traps cells h
