-- The law that nothing is missed, as the function of the module of laws promises it (this project's own form, after
-- Berry, The Constructive Semantics of Pure Esterel).
use Rattle.std.specs.Prelude.{ℕ, Bool, true}
use Rattle.est_kernel.specs.View.{term_of}
use Rattle.est_kernel.specs.declared.statement.Statement.{Statement}
use Rattle.est_meaning.specs.Environments.{Env}
use Rattle.est_meaning.specs.Knowledge.{IsBelow, IsIn, KnowsLess}
use Rattle.est_meaning.specs.MustCan.{Acts}
use Rattle.est_meaning.specs.States.{term_at}
use Rattle.est_meaning.specs.declared.status.Status.{Status}
use Rattle.est_cells.specs.Gates.{gates, live_gates}
use Rattle.est_cells.specs.Meaning.{must_at, can_at}
use Rattle.est_cells.specs.Tables.{Sheet, Below, emits, is_sure, is_possible}

-- what must be done is decided to be done, and what can't be done is decided not to be done: of codes and of signals
pub record AreDecided (main : Bool) (s : Statement) (musts cans : Acts) (T : Sheet main s) : Type 0 where
  pub given : IsIn musts.codes T.cells.must
  pub not_given : IsIn T.cells.may cans.codes
  pub emitted : IsIn musts.signals (emits is_sure main s T)
  pub not_emitted : IsIn (emits is_possible main s T) cans.signals

-- Where the gates decide nothing more under what the cells of the signals know (f), all that Must and Can decide under
-- an environment that knows no more (e) is decided in the cells. How the statement is reached is told by r: present if
-- surely (its go cell is true, or it goes on and each test that could hold it is absent), unknown if in doubt (its go
-- cell is open, or it goes on, no test holds it, and one is unknown), and absent if not at all. By g the cells know as
-- much of that, or more
pub record NothingIsMissed : Type 0 where
  pub begun : (main : Bool) (s : Statement) (r g : Status) (e f : Env) (T : Sheet main s) → IsBelow r g → KnowsLess e f
      → Below main s (gates main s g f T) T
      → AreDecided main s (must_at r (term_of s) e) (can_at r (term_of s) e) T
  pub resumed : (s : Statement) (bits : ℕ → Bool) (r g : Status) (e f : Env) (T : Sheet true s) → IsBelow r g
      → KnowsLess e f → Below true s (live_gates s bits g f T) T
      → AreDecided true s (must_at r (term_at s bits) e) (can_at r (term_at s bits) e) T
