-- In the first sweep of an instant the cells to which it hasn't come yet are open.
use Rattle.std.specs.Prelude.{◌≡◌, ◌<◌, ◌≤◌, ◌+◌, ℕ, Bool, true, false, List, Some, length, slice_get}
use Rattle.std.proofs.Common.{refl, ap, sym, ◌∙◌, arith, subst}
use Rattle.std.proofs.lemmas.Option.{slice_get-get_or}
use Rattle.est_kernel.specs.declared.pause_set.PauseSet.{PauseSet}
use Rattle.est_kernel.specs.declared.statement.Statement.{Statement}
use Rattle.est_kernel.specs.Codes.{no_codes}
use Rattle.est_meaning.specs.Signals.{no_signals}
use Rattle.est_meaning.specs.declared.status.Status.{Status}
use Rattle.est_meaning.specs.declared.status.Status.TheVariants.{Present, Absent, Unknown}
use Rattle.est_meaning.specs.declared.signal_set.Env.{Env as Known}
use Rattle.est_cells.specs.Tables.{sheet_size}
use Rattle.est_net.specs.Cells.{AllOpen, AreFalse, Learns, NoneTrue, cell_at, is_known, learned}
use Rattle.est_micro.specs.Inner.Views.{Changes, IsBegun, IsFresh, IsIdle, IsJudged, IsResumed}
use Rattle.est_micro.specs.declared.cells.StatementPlace.{StatementPlace}
use Rattle.est_micro.specs.declared.cells.Swept.{Swept}
use Rattle.est_micro.proofs.Frames.{size_least}
use Rattle.est_micro.proofs.IdleSheets.{idle_begun}

-- in a narrower range
pub fresh_part : (first : Bool) (lo hi a b : ℕ) (cells : List Status) → lo ≤ a → b ≤ hi → IsFresh first lo hi cells
    → IsFresh first a b cells
unfolding IsFresh AllOpen
fresh_part first lo hi a b cells l u h e i m n = h e i (omega arith) (omega arith)

-- after one cell was told, and after those of a part are swept: before the part, and after it
pub fresh_told : (first : Bool) (cell lo hi a b : ℕ) (now : Status) (old new : List Status)
    → Learns cell now old new → cell < a → lo ≤ a → b ≤ hi → IsFresh first lo hi old → IsFresh first a b new
unfolding IsFresh AllOpen
fresh_told first cell lo hi a b now old new x c l u h e i m n =
    x.later i (omega arith) ∙ h e i (omega arith) (omega arith)

pub fresh_untold : (first : Bool) (cell lo hi : ℕ) (now : Status) (old new : List Status) → Learns cell now old new
    → hi ≤ cell → IsFresh first lo hi old → IsFresh first lo hi new
unfolding IsFresh AllOpen
fresh_untold first cell lo hi now old new x c h e i m n = x.others i (omega arith) ∙ h e i m n

pub fresh_before : (first : Bool) (lo hi a b : ℕ) (old new : List Status) → Changes a b old new → hi ≤ a
    → IsFresh first lo hi old → IsFresh first lo hi new
unfolding IsFresh AllOpen
fresh_before first lo hi a b old new x c h e i m n = x.before i (omega arith) ∙ h e i m n

pub fresh_after : (first : Bool) (lo hi a b : ℕ) (old new : List Status) → Changes a b old new → b ≤ lo
    → IsFresh first lo hi old → IsFresh first lo hi new
unfolding IsFresh AllOpen
fresh_after first lo hi a b old new x c h e i m n = x.after i (omega arith) ∙ h e i m n

-- what a sweep of a part changes, and where it ends
pub changes_begun : (s : Statement) (at : StatementPlace) (gate : Status) (e : Known) (old new : List Status)
    (r : Swept) → IsBegun s at gate e old new r → Changes at.cell (at.cell + sheet_size at.main s at.traps) old new
unfolding IsBegun
changes_begun s at gate e old new r h = h.changes

pub past_begun : (s : Statement) (at : StatementPlace) (gate : Status) (e : Known) (old new : List Status) (r : Swept)
    → IsBegun s at gate e old new r → r.past ≡ at.cell + sheet_size at.main s at.traps
unfolding IsBegun
past_begun s at gate e old new r h = h.past

pub changes_resumed : (s : Statement) (at : StatementPlace) (pauses : PauseSet) (run : Status) (e : Known)
    (old new : List Status)
    (r : Swept)
    → IsResumed s at pauses run e old new r → Changes at.cell (at.cell + sheet_size true s at.traps) old new
unfolding IsResumed
changes_resumed s at pauses run e old new r h = h.changes

pub past_resumed : (s : Statement) (at : StatementPlace) (pauses : PauseSet) (run : Status) (e : Known)
    (old new : List Status)
    (r : Swept)
    → IsResumed s at pauses run e old new r → r.past ≡ at.cell + sheet_size true s at.traps
unfolding IsResumed
past_resumed s at pauses run e old new r h = h.past

-- the cells of the second of two parts
pub fresh_next : (first : Bool) (cell lo n m past : ℕ) (gate : Status) (old m0 m1 : List Status)
    → Learns cell gate old m0 → Changes lo (lo + n) m0 m1 → past ≡ lo + n → cell < lo
    → IsFresh first cell (lo + n + m) old → IsFresh first past (past + m) m1
fresh_next first cell lo n m past gate old m0 m1 x y e c h =
    subst (λ (z : ℕ). IsFresh first z (z + m) m1) (sym e)
    (fresh_after first (lo + n) (lo + n + m) lo (lo + n) m0 m1 y (omega arith)
    (fresh_told first cell cell (lo + n + m) (lo + n) (lo + n + m) gate old m0 x (omega arith) (omega arith)
    (omega arith)
    h))

-- so too where the second is swept before the first
pub fresh_back : (first : Bool) (cell lo n m past : ℕ) (gate : Status) (old m0 : List Status)
    → Learns cell gate old m0 → past ≡ lo + n → cell < lo → IsFresh first cell (lo + n + m) old
    → IsFresh first past (past + m) m0
fresh_back first cell lo n m past gate old m0 x e c h = subst (λ (z : ℕ). IsFresh first z (z + m) m0) (sym e)
    (fresh_told first cell cell (lo + n + m) (lo + n) (lo + n + m) gate old m0 x (omega arith) (omega arith)
    (omega arith)
    h)

-- the cells of codes, after those of the parts
pub fresh_codes : (first : Bool) (cell lo n past end : ℕ) (gate : Status) (old m0 m1 : List Status)
    → Learns cell gate old m0 → Changes lo past m0 m1 → n ≤ lo → n ≤ end
    → IsFresh first cell end old → IsFresh first (cell + 1) n m1
fresh_codes first cell lo n past end gate old m0 m1 x y c d h =
    fresh_before first (cell + 1) n lo past m0 m1 y c
    (fresh_told first cell cell end (cell + 1) n gate old m0 x (omega arith) (omega arith) d h)

pub fresh_codes_two : (first : Bool) (cell lo low n past end after : ℕ) (gate : Status) (old m0 m1 m2 : List Status)
    → Learns cell gate old m0 → Changes lo past m0 m1 → Changes low after m1 m2 → n ≤ lo → n ≤ low → n ≤ end
    → IsFresh first cell end old → IsFresh first (cell + 1) n m2
fresh_codes_two first cell lo low n past end after gate old m0 m1 m2 x y z c b d h =
    fresh_before first (cell + 1) n low after m1 m2 z b
    (fresh_codes first cell lo n past end gate old m0 m1 x y c d h)

-- the place after a cell that is told, before the cells of a part
pub fresh_kept : (first : Bool) (cell lo hi low past end : ℕ) (gate : Status) (old m0 m1 : List Status)
    → Learns cell gate old m0 → Changes low past m0 m1 → cell < lo → hi ≤ low → hi ≤ end
    → IsFresh first cell end old → IsFresh first lo hi m1
fresh_kept first cell lo hi low past end gate old m0 m1 x y a b c h =
    fresh_before first lo hi low past m0 m1 y b
    (fresh_told first cell cell end lo hi gate old m0 x a (omega arith) c h)

-- a cell that is open
pub open_in_first : (first : Bool) (cell : ℕ) (cells : List Status) → first ≡ true → cell < length cells
    → IsFresh first cell (cell + 1) cells → slice_get cells cell ≡ Some Unknown
unfolding IsFresh AllOpen
open_in_first first cell cells e l h =
    slice_get-get_or cells cell Absent l ∙ ap Some (h e cell (omega arith) (omega arith))

pub open_undecided : (cell : ℕ) (cells : List Status) → cell < length cells → false ≡ is_known (cell_at cells cell)
    → slice_get cells cell ≡ Some Unknown
open_undecided cell cells l e = slice_get-get_or cells cell Absent l ∙ ap Some (unknown (cell_at cells cell) e)
  where
    unknown : (v : Status) → false ≡ is_known v → v ≡ Unknown
    unknown Unknown e = refl
    unknown Present e = cc
    unknown Absent e = cc

-- nothing is asked of cells in a later sweep
pub fresh_not : (lo hi : ℕ) (cells : List Status) → IsFresh false lo hi cells
unfolding IsFresh
fresh_not lo hi cells e = cc

-- a statement that is not begun, of which nothing is known
pub fresh_idle : (s : Statement) (at : StatementPlace) (gate : Status) (cells : List Status) (past : ℕ) → gate ≡ Absent
    → past ≡ at.cell + sheet_size at.main s at.traps → AllOpen at.cell past cells → IsIdle s at gate cells past
unfolding AllOpen NoneTrue
fresh_idle s at gate cells past e p h =
    let o = size_least at.main s at.traps in
    record {
      off = ap (λ (v : Status). learned v gate) (h at.cell (omega arith) (omega arith)) ∙ e;
      none = λ i l u d. (let z : Unknown ≡ Present = sym (h i l u) ∙ d in cc);
      past_is = p;
    }

-- what is open is fresh
pub fresh_of_open : (first : Bool) (lo hi : ℕ) (cells : List Status) → AllOpen lo hi cells → IsFresh first lo hi cells
unfolding IsFresh
fresh_of_open first lo hi cells h e = h

pub open_of_fresh : (first : Bool) (lo hi : ℕ) (cells : List Status) → first ≡ true → IsFresh first lo hi cells
    → AllOpen lo hi cells
unfolding IsFresh
open_of_fresh first lo hi cells e h = h e

-- a cell that is told that it is false
pub absent_told : (first : Bool) (cell hi : ℕ) (old new : List Status) → first ≡ true → IsFresh first cell hi old
    → cell < hi → Learns cell Absent old new → Absent ≡ cell_at new cell
unfolding IsFresh AllOpen
absent_told first cell hi old new e h l x =
    sym (x.here ∙ ap (λ (v : Status). learned v Absent) (h e cell (omega arith) l))

-- a part that is over
pub over_begun : (first : Bool) (s : Statement) (at : StatementPlace) (e : Known) (old new : List Status) (past : ℕ)
    (r : Swept)
    → first ≡ true → IsFresh first at.cell (at.cell + sheet_size at.main s at.traps) old
    → past ≡ at.cell + sheet_size at.main s at.traps → AreFalse at.cell past old new
    → IsJudged no_codes no_codes no_signals no_signals r.judged → r.past ≡ past → IsBegun s at Absent e old new r
over_begun first s at e old new past r f h p a j q =
    idle_begun s at Absent e old new past r
    (fresh_idle s at Absent old past refl p
    (subst (λ (z : ℕ). AllOpen at.cell z old) (sym p) (open_of_fresh first _ _ old f h))) a j q
