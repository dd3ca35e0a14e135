-- What holds in a walk over a kernel's statement (this project's own form).
use Rattle.std.specs.Prelude.{◌≡◌, ◌+◌, ℕ, Bool, true, false, List, IfSome}
use Rattle.est_kernel.specs.Bits.{bits}
use Rattle.est_kernel.specs.Pauses.{pauses_of}
use Rattle.est_kernel.specs.Term.{Name}
use Rattle.est_kernel.specs.declared.kernel.Kernel.{Kernel}
use Rattle.est_kernel.specs.declared.state.State.{State}
use Rattle.est_meaning.specs.Environments.{Env}
use Rattle.est_meaning.specs.Knowledge.{KnowsLess}
use Rattle.est_meaning.specs.Rounds.{judged_signals, last_env}
use Rattle.est_meaning.specs.States.{is_live, state_term}
use Rattle.est_meaning.specs.declared.status.Status.{Status}
use Rattle.est_meaning.specs.declared.status.Status.TheVariants.{Absent, Unknown}
use Rattle.est_cells.specs.Tables.{sheet_size}
use Rattle.est_cells.specs.Whole.{TableBelow, sheet_meaning, table_meaning}
use Rattle.est_net.specs.Layout.{output_count}
use Rattle.est_micro.specs.Inner.Parts.{IsReached, PartHeard, begun_by}
use Rattle.est_micro.specs.Inner.Views.{Changes}
use Rattle.est_micro.specs.Parts.{AgreeBut}
use Rattle.est_micro.specs.Runs.{table_of}
use Rattle.est_micro.specs.declared.part.Part.{Part}
use Rattle.est_micro.specs.declared.question.Question.{Question}

-- all that is known at the end of the reaction
abbrev pub last_of : Kernel → State → (inputs : ℕ → Bool) → Env
last_of k x inputs = last_env (judged_signals k.interface inputs) inputs (state_term k.root x)

-- f lies in what the kernel's statement means in the reaction
abbrev pub IsReachedBy : Kernel → State → (inputs : ℕ → Bool) → Part → Type 0
IsReachedBy k x inputs f =
    IsReached true k.root (output_count k.interface) 0 (sheet_meaning k.root x (last_of k x inputs))
    (last_of k x inputs) f

-- no more cells of a kernel are decided than the meaning says; l is no more than is known at the end inside the binders
-- around f, and what f surely emits is heard
pub record Leads (k : Kernel) (x : State) (inputs : ℕ → Bool) (f : Part) (at : IsReachedBy k x inputs f)
    (cells : List Status) (l : Env) : Type 0 where
  pub sound : TableBelow (judged_signals k.interface inputs) k.root (table_of k.interface k.root cells)
      (table_meaning (judged_signals k.interface inputs) inputs k.root x)
  pub less : KnowsLess l at.inside
  pub heard : PartHeard f at.reach at.inside l

-- f is walked over by what is known, l, and then m is known: only its cells have changed, and what was in no doubt
-- still isn't. No more is decided or known than there is, if so it was
pub record IsWalked (k : Kernel) (x : State) (unasked inputs : ℕ → Bool) (f : Part) (l m : Env) (old new : List Status)
    : Type 0 where
  pub changes : Changes f.place.cell (f.place.cell + sheet_size f.place.main f.statement.now f.place.traps) old new
  pub doubt : (n : Name) → m n ≡ Unknown → l n ≡ Unknown
  pub leads : (others : ℕ → Bool) → AgreeBut unasked inputs others → (at : IsReachedBy k x others f)
      → Leads k x others f at old l → Leads k x others f at new m

-- the same of what a run is asked
abbrev pub Walks : Question → Part → (l m : Env) → (old new : List Status) → Type 0
Walks q f l m old new = IsWalked q.kernel.now q.state.now (bits q.unasked) (bits q.inputs) f l m old new

-- a side is walked over, where it goes on or is begun; one that is over is not begun
pub record SideWalks (q : Question) (f : Part) (l m : Env) (old new : List Status) : Type 0 where
  pub on : IfSome f.pauses (λ p. is_live f.statement.now (pauses_of p.now) ≡ true) → Walks q f l m old new
  pub off : IfSome f.pauses (λ p. is_live f.statement.now (pauses_of p.now) ≡ false
      → Walks q (begun_by f Absent) l m old new)
