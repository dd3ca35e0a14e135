-- One sweep over a sheet: each cell that is open is told what its gate says then. It goes in program order, and a part
-- is told what the part that was swept before it surely emits; a sweep that goes backwards visits the second side of a
-- `||` before the first (this project's own form).
use Rattle.std.specs.Prelude.{ℕ, Bool, true, false, cond}
use Rattle.est_kernel.specs.Codes.{Codes}
use Rattle.est_kernel.specs.View.{query_of}
use Rattle.est_kernel.specs.declared.statement.Statement.{Statement}
use Rattle.est_kernel.specs.declared.statement.Statement.TheVariants.{Nothing, Pause, Emit, Present', Suspend', Seq'}
use Rattle.est_kernel.specs.declared.statement.Statement.TheVariants.{Loop', Par', Trap', Exit, Local' as Binder'}
use Rattle.est_meaning.specs.States.{is_live}
use Rattle.est_meaning.specs.Signals.{Signals}
use Rattle.est_meaning.specs.Environments.{Env, opposite, and_status, status_of, with_local, verdict}
use Rattle.est_meaning.specs.declared.status.Status.{Status}
use Rattle.est_meaning.specs.declared.status.Status.TheVariants.{Present, Absent}
use Rattle.est_cells.specs.Gates.{ends, emitted_status, gates, live_gates}
use Rattle.est_cells.specs.Tables.{Cells, Node, Parts, Sheet, emits, map_again, is_sure, is_possible}
use Rattle.est_net.specs.Cells.{learned}
use Rattle.est_micro.specs.declared.direction.Direction.{Direction}
use Rattle.est_micro.specs.declared.direction.Direction.TheVariants.{Forwards, Backwards}

-- Code cells are told what is judged of their codes. m: those that are true; n: those that aren't false; a: the codes
-- that are surely given; b: those that are possibly given. `sure_told`: the cells that are then true; `may_told`: those
-- that are then not false
unfoldable pub sure_told : (m n a b : Codes) → Codes
sure_told m n a b k = is_sure (learned (verdict (m k) (n k)) (verdict (a k) (b k)))

unfoldable pub may_told : (m n a b : Codes) → Codes
may_told m n a b k = is_possible (learned (verdict (m k) (n k)) (verdict (a k) (b k)))

-- the node with this in its go cell, and with these parts
abbrev pub entered : {P : Type 0} → Status → Node P → P → Node P
entered h T x = record { cells = record { go = h; must = T.cells.must; may = T.cells.may }; parts = x }

-- the node with its code cells told
abbrev pub left : {P : Type 0} → Node P → Cells → Node P
left U y = record {
  cells = record {
    go = U.cells.go;
    must = sure_told U.cells.must U.cells.may y.must y.may;
    may = may_told U.cells.must U.cells.may y.must y.may;
  };
  parts = U.parts;
}

-- what is known of the signals where those of a set are surely emitted: one that was in doubt is present
unfoldable pub told : Env → Signals → Env
told e x n = cond (x n) (learned (e n) Present) (e n)

-- what comes of a sweep forwards, or of one that goes backwards
abbrev pub one_way : {A : Type 0} → Direction → A → A → A
one_way Forwards x y = x
one_way Backwards x y = y

-- the sheet of a statement that is begun, if at all, by the gate g, after a sweep; f sweeps the parts, by what is in
-- the go cell
abbrev pub sweep_by : (main : Bool) (s : Statement) → (Status → Parts main s → Parts main s) → Env → Status
    → Sheet main s
    → Sheet main s
sweep_by main s f e g T =
    let h = learned T.cells.go g in
    let U = entered h T (f h T.parts) in
    left U (gates main s g e U).cells

-- the parts of a statement that is begun, if at all, after a sweep; h is in its go cell
abbrev pub swept_parts : Direction → (main : Bool) (s : Statement) → Env → Status → Parts main s → Parts main s
swept_parts d main Nothing e h x = tt
swept_parts d main (Pause n) e h x = tt
swept_parts d main (Emit s) e h x = tt
swept_parts d main (Exit k) e h x = tt
swept_parts d main (Present' t a p b q) e h x =
    let v = status_of e (query_of t) in
    record {
      first = sweep_by main p (swept_parts d main p e) e (and_status h v) x.first;
      second = sweep_by main q (swept_parts d main q e) e (and_status h (opposite v)) x.second;
    }
swept_parts d main (Suspend' t a p) e h x = sweep_by main p (swept_parts d main p e) e h x
swept_parts d main (Seq' a p b q) e h x =
    let y = sweep_by main p (swept_parts d main p e) e h x.first in
    let f = told e (emits is_sure main p y) in
    record { first = y; second = sweep_by main q (swept_parts d main q f) f (ends y.cells) x.second }
swept_parts d main (Loop' a p) e h x = record {
  first = sweep_by main p (swept_parts d main p e) e h x.first;
  second = map_again main (sweep_by false p (swept_parts d false p e) e Absent) x.second;
}
swept_parts d main (Par' a p b q) e h x =
    let y = sweep_by main p (swept_parts d main p e) e h x.first in
    let f = told e (emits is_sure main p y) in
    let z = sweep_by main q (swept_parts d main q e) e h x.second in
    let g = told e (emits is_sure main q z) in
    one_way d (record { first = y; second = sweep_by main q (swept_parts d main q f) f h x.second })
    (record { first = sweep_by main p (swept_parts d main p g) g h x.first; second = z })
swept_parts d main (Trap' a p) e h x = sweep_by main p (swept_parts d main p e) e h x
swept_parts d main (Binder' s a p) e h x =
    let f = with_local e s.index x.status in
    let y = sweep_by main p (swept_parts d main p f) f h x.body in
    record { status = learned x.status (emitted_status main p s.index y); body = y }

-- the sheet of a statement that is begun, if at all, by the gate g, after a sweep
abbrev pub swept : Direction → (main : Bool) (s : Statement) → Env → Status → Sheet main s → Sheet main s
swept d main s e g T = sweep_by main s (swept_parts d main s e) e g T

-- the sheet of a statement that goes on, if it is run, by r, after a sweep
abbrev pub live_sweep_by : (s : Statement) → (Status → Parts true s → Parts true s) → (ℕ → Bool) → Status → Env
    → Sheet true s
    → Sheet true s
live_sweep_by s f bits r e T =
    let h = learned T.cells.go Absent in
    let U = entered h T (f h T.parts) in
    left U (live_gates s bits r e U).cells

-- the parts of a statement that goes on, if it is run, by r, after a sweep; h is in its go cell
abbrev pub live_swept_parts : Direction → (s : Statement) → (ℕ → Bool) → Status → Env → Status → Parts true s
    → Parts true s
live_swept_parts d Nothing bits r e h x = tt
live_swept_parts d (Pause n) bits r e h x = tt
live_swept_parts d (Emit s) bits r e h x = tt
live_swept_parts d (Exit k) bits r e h x = tt
live_swept_parts d (Present' t a p b q) bits r e h x =
    let v = status_of e (query_of t) in
    record {
      first = cond (is_live p bits) (live_sweep_by p (live_swept_parts d p bits r e) bits r e x.first)
          (sweep_by true p (swept_parts d true p e) e (and_status h v) x.first);
      second = cond (is_live p bits) (sweep_by true q (swept_parts d true q e) e (and_status h (opposite v)) x.second)
          (live_sweep_by q (live_swept_parts d q bits r e) bits r e x.second);
    }
live_swept_parts d (Suspend' t a p) bits r e h x =
    let inside = and_status r (opposite (status_of e (query_of t))) in
    live_sweep_by p (live_swept_parts d p bits inside e) bits inside e x
live_swept_parts d (Seq' a p b q) bits r e h x =
    let y = cond (is_live p bits) (live_sweep_by p (live_swept_parts d p bits r e) bits r e x.first)
    (sweep_by true p (swept_parts d true p e) e h x.first) in
    let f = told e (emits is_sure true p y) in
    record {
      first = y;
      second = cond (is_live p bits) (sweep_by true q (swept_parts d true q f) f (ends y.cells) x.second)
          (live_sweep_by q (live_swept_parts d q bits r f) bits r f x.second);
    }
live_swept_parts d (Loop' a p) bits r e h x =
    let y = live_sweep_by p (live_swept_parts d p bits r e) bits r e x.first in
    let f = told e (emits is_sure true p y) in
    record { first = y; second = sweep_by false p (swept_parts d false p f) f (ends y.cells) x.second }
live_swept_parts d (Par' a p b q) bits r e h x =
    let y = cond (is_live p bits) (live_sweep_by p (live_swept_parts d p bits r e) bits r e x.first)
    (sweep_by true p (swept_parts d true p e) e h x.first) in
    let f = told e (emits is_sure true p y) in
    let z = cond (is_live q bits) (live_sweep_by q (live_swept_parts d q bits r e) bits r e x.second)
    (sweep_by true q (swept_parts d true q e) e h x.second) in
    let g = told e (emits is_sure true q z) in
    one_way d
    (record {
      first = y;
      second = cond (is_live q bits) (live_sweep_by q (live_swept_parts d q bits r f) bits r f x.second)
          (sweep_by true q (swept_parts d true q f) f h x.second);
    })
    (record {
      first = cond (is_live p bits) (live_sweep_by p (live_swept_parts d p bits r g) bits r g x.first)
          (sweep_by true p (swept_parts d true p g) g h x.first);
      second = z;
    })
live_swept_parts d (Trap' a p) bits r e h x = live_sweep_by p (live_swept_parts d p bits r e) bits r e x
live_swept_parts d (Binder' s a p) bits r e h x =
    let f = with_local e s.index x.status in
    let y = live_sweep_by p (live_swept_parts d p bits r f) bits r f x.body in
    record { status = learned x.status (emitted_status true p s.index y); body = y }

-- the sheet of a statement that goes on from its pauses, if it is run, by r, after a sweep
abbrev pub live_swept : Direction → (s : Statement) → (ℕ → Bool) → Status → Env → Sheet true s → Sheet true s
live_swept d s bits r e T = live_sweep_by s (live_swept_parts d s bits r e) bits r e T
