-- Which of the inputs that are not asked an open test waits for (this project's own form).
use Rattle.std.specs.Prelude.{◌≡◌, ◌+◌, ◌&&◌, ℕ, Bool, true, false, cond, List}
use Rattle.std.specs.Prelude.{Option, None, Some}
use Rattle.std.specs.Option.{option_or}
use Rattle.est_kernel.specs.Pauses.{pauses_of}
use Rattle.est_kernel.specs.Term.{Name, outer, inner, Query, tick, of, negated, joined, Queries, last, more, Joint}
use Rattle.est_kernel.specs.View.{query_of}
use Rattle.est_kernel.specs.declared.interface.Declaration.{Declaration}
use Rattle.est_kernel.specs.declared.state.State.{State}
use Rattle.est_kernel.specs.declared.state.State.TheVariants.{Fresh, Done, Paused}
use Rattle.est_kernel.specs.declared.statement.Statement.{Statement}
use Rattle.est_kernel.specs.declared.statement.Statement.TheVariants.{Nothing, Pause, Emit, Present', Suspend', Seq'}
use Rattle.est_kernel.specs.declared.statement.Statement.TheVariants.{Loop', Par', Trap', Exit, Local' as Binder'}
use Rattle.est_meaning.specs.Environments.{Env, and_status, is_unknown, opposite, status_of, with_local}
use Rattle.est_meaning.specs.States.{is_live}
use Rattle.est_meaning.specs.declared.status.Status.{Status}
use Rattle.est_meaning.specs.declared.status.Status.TheVariants.{Present, Absent}
use Rattle.est_cells.specs.Tables.{Sheet, is_possible, of_again, sheet_size}
use Rattle.est_cells.specs.Whole.{Table}
use Rattle.est_net.specs.Cells.{cell_at}
use Rattle.est_net.specs.Layout.{sheet_in}
use Rattle.est_micro.specs.Parts.{known_but}
use Rattle.est_micro.specs.declared.waiting.Waited.{Waited}

-- the signal, if it is one of the interface that is not asked
abbrev pub if_unasked : (ℕ → Bool) → Name → Option ℕ
if_unasked unasked (outer n) = cond (unasked n) (Some n) None
if_unasked unasked (inner n) = None

abbrev mutual
  -- the first signal in a test that is not asked
  pub first_read : (ℕ → Bool) → Query → Option ℕ
  first_read unasked tick = None
  first_read unasked (of s) = if_unasked unasked s
  first_read unasked (negated t) = first_read unasked t
  first_read unasked (joined c t ts) = option_or (first_read unasked t) (first_read_of_all unasked ts)

  -- the first one in these tests
  pub first_read_of_all : (ℕ → Bool) → Queries → Option ℕ
  first_read_of_all unasked (last t) = first_read unasked t
  first_read_of_all unasked (more t ts) = option_or (first_read unasked t) (first_read_of_all unasked ts)

-- the same for operands
abbrev pub first_read_of_joint : (ℕ → Bool) → Joint → Option ℕ
first_read_of_joint unasked o = option_or (first_read unasked o.first) (first_read_of_all unasked o.later)

-- what a test of this status waits for: nothing, if it is not asked in this instant or its status is known
abbrev pub waits_at : (ℕ → Bool) → (asked status : Status) → Query → Option ℕ
waits_at unasked asked v t = cond (is_possible asked && is_unknown v) (first_read unasked t) None

-- The first input in the text that is not asked and that stands in an open test: one whose status is unknown and that
-- may be asked in this instant. The test of a `present` may be asked if its go cell is not false, that of a `suspend`
-- if it goes on from one of these pauses and may be run; r tells whether the statement is run, if it goes on
abbrev pub waits_for : (ℕ → Bool) → (main : Bool) (s : Statement) (from : ℕ → Bool) (r : Status) → Env → Sheet main s
    → Option ℕ
waits_for unasked main Nothing from r e T = None
waits_for unasked main (Pause n) from r e T = None
waits_for unasked main (Emit s) from r e T = None
waits_for unasked main (Exit k) from r e T = None
waits_for unasked main (Present' t a p b q) from r e T =
    option_or (waits_at unasked T.cells.go (status_of e (query_of t)) (query_of t))
    (option_or (waits_for unasked main p from r e T.parts.first) (waits_for unasked main q from r e T.parts.second))
waits_for unasked main (Suspend' t a p) from r e T =
    let v = status_of e (query_of t) in
    option_or (waits_at unasked (cond (main && is_live p from) r Absent) v (query_of t))
    (waits_for unasked main p from (and_status r (opposite v)) e T.parts)
waits_for unasked main (Seq' a p b q) from r e T =
    option_or (waits_for unasked main p from r e T.parts.first) (waits_for unasked main q from r e T.parts.second)
waits_for unasked main (Loop' a p) from r e T =
    option_or (waits_for unasked main p from r e T.parts.first)
    (of_again main None (waits_for unasked false p from r e) T.parts.second)
waits_for unasked main (Par' a p b q) from r e T =
    option_or (waits_for unasked main p from r e T.parts.first) (waits_for unasked main q from r e T.parts.second)
waits_for unasked main (Trap' a p) from r e T = waits_for unasked main p from r e T.parts
waits_for unasked main (Binder' s a p) from r e T =
    waits_for unasked main p from r (with_local e s.index T.parts.status) T.parts.body

-- the pauses from which a state goes on
abbrev pub pauses_from : State → ℕ → Bool
pauses_from Fresh n = false
pauses_from Done n = false
pauses_from (Paused p) n = pauses_of p n

-- the same in a kernel's table, by what is known there
abbrev pub table_waits_for : (ℕ → Bool) → List Declaration → (ℕ → Bool) → (s : Statement) → State → Table s → Option ℕ
table_waits_for unasked i inputs s x T =
    waits_for unasked true s (pauses_from x) Present (known_but unasked i inputs T.outputs) T.sheet

-- what the cells of a statement from place c on say of it
pub record IsWaiting (unasked : ℕ → Bool) (main : Bool) (s : Statement) (c traps : ℕ) (cells : List Status)
    (from : ℕ → Bool) (r : Status) (e : Env) (w : Waited) : Type 0 where
  pub input : w.input ≡ waits_for unasked main s from r e (sheet_in (cell_at cells) main s c traps)
  pub past : w.past ≡ c + sheet_size main s traps

-- of two statements, the second after the first
pub record AreWaiting (unasked : ℕ → Bool) (main : Bool) (p q : Statement) (c traps : ℕ) (cells : List Status)
    (from : ℕ → Bool) (r : Status) (e : Env) (w : Waited) : Type 0 where
  pub input : w.input ≡ option_or (waits_for unasked main p from r e (sheet_in (cell_at cells) main p c traps))
      (waits_for unasked main q from r e (sheet_in (cell_at cells) main q (c + sheet_size main p traps) traps))
  pub past : w.past ≡ c + sheet_size main p traps + sheet_size main q traps
