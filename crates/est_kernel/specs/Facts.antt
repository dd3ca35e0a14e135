-- That facts of a kernel have one proof each, at most (this project's own form). The logic keeps a fact in a value by
-- its proof. If a fact had two proofs, two kernels of the same interface and statement could still be different values;
-- so the kit asks for this of each fact that a type keeps. Of an equation it finds it by itself, as of `within_limits`;
-- of a fact that goes by cases or by recursion it is shown here. `IsProp X` says it of X; `hlevel` finds it of a
-- product from the same of the parts.
use Rattle.std.specs.Prelude.{ℕ, List, ◌+◌}
use mathlib.Core.Bool.{Bool-set}
use Rattle.std.proofs.Math.Nat.{ℕ_set}
use Rattle.std.specs.Coded.{Unit-prop, le_prop, ×_prop}
use Rattle.est_kernel.specs.Term.{Name, outer, inner, Query, tick, of, negated, joined, Queries, last, more, Term}
use Rattle.est_kernel.specs.Term.{nothing, pause, emit, present, suspend, held, seq, loop, par, trap, exit, signal}
use Rattle.est_kernel.specs.Scope.{IsVisible, EachSignal, EachSignalOfAll, IsEmitted, IsClosed}
use Rattle.est_kernel.specs.StartCodes.{IsLoopSafe}
use Rattle.est_kernel.specs.PauseNumbers.{HasDistinctPauses}
use Rattle.est_kernel.specs.declared.interface.Declaration.{Declaration}
use Rattle.est_kernel.specs.declared.statement.Statement.{Statement}
use Rattle.est_kernel.specs.declared.statement.Statement.TheVariants.{Nothing, Pause, Emit, Present', Suspend', Seq'}
use Rattle.est_kernel.specs.declared.statement.Statement.TheVariants.{Loop', Par', Trap', Exit, Local' as Binder'}

-- that no two pauses have one number
pub HasDistinctPauses-prop : (s : Statement) → IsProp (HasDistinctPauses s)
HasDistinctPauses-prop Nothing = Unit-prop
HasDistinctPauses-prop (Pause n) = Unit-prop
HasDistinctPauses-prop (Emit s) = Unit-prop
HasDistinctPauses-prop (Present' t x p y q) = hlevel (Bool-set, HasDistinctPauses-prop p, HasDistinctPauses-prop q)
HasDistinctPauses-prop (Suspend' t x p) = HasDistinctPauses-prop p
HasDistinctPauses-prop (Seq' x p y q) = hlevel (Bool-set, HasDistinctPauses-prop p, HasDistinctPauses-prop q)
HasDistinctPauses-prop (Loop' x p) = HasDistinctPauses-prop p
HasDistinctPauses-prop (Par' x p y q) = hlevel (Bool-set, HasDistinctPauses-prop p, HasDistinctPauses-prop q)
HasDistinctPauses-prop (Trap' x p) = HasDistinctPauses-prop p
HasDistinctPauses-prop (Exit k) = Unit-prop
HasDistinctPauses-prop (Binder' s x p) = HasDistinctPauses-prop p

-- that loops' bodies take time
pub IsLoopSafe-prop : (t : Term) → IsProp (IsLoopSafe t)
IsLoopSafe-prop nothing = Unit-prop
IsLoopSafe-prop pause = Unit-prop
IsLoopSafe-prop (emit s) = Unit-prop
IsLoopSafe-prop (present s p q) = hlevel (IsLoopSafe-prop p, IsLoopSafe-prop q)
IsLoopSafe-prop (suspend s p) = IsLoopSafe-prop p
IsLoopSafe-prop (held s p) = IsLoopSafe-prop p
IsLoopSafe-prop (seq p q) = hlevel (IsLoopSafe-prop p, IsLoopSafe-prop q)
IsLoopSafe-prop (loop p) = hlevel (Bool-set, IsLoopSafe-prop p)
IsLoopSafe-prop (par p q) = hlevel (IsLoopSafe-prop p, IsLoopSafe-prop q)
IsLoopSafe-prop (trap p) = IsLoopSafe-prop p
IsLoopSafe-prop (exit k) = Unit-prop
IsLoopSafe-prop (signal s p) = IsLoopSafe-prop p

-- that a signal is there
pub IsVisible-prop : (i : List Declaration) (n : ℕ) (s : Name) → IsProp (IsVisible i n s)
IsVisible-prop i n (outer m) = le_prop
IsVisible-prop i n (inner m) = le_prop

mutual
  -- that each signal of a test has a property that has one proof
  pub EachSignal-prop : (P : Name → Type 0) → ((s : Name) → IsProp (P s)) → (t : Query) → IsProp (EachSignal P t)
  EachSignal-prop P one tick = Unit-prop
  EachSignal-prop P one (of s) = one s
  EachSignal-prop P one (negated t) = EachSignal-prop P one t
  EachSignal-prop P one (joined c t ts) = hlevel (EachSignal-prop P one t, EachSignalOfAll-prop P one ts)

  EachSignalOfAll-prop : (P : Name → Type 0) → ((s : Name) → IsProp (P s)) → (ts : Queries)
      → IsProp (EachSignalOfAll P ts)
  EachSignalOfAll-prop P one (last t) = EachSignal-prop P one t
  EachSignalOfAll-prop P one (more t ts) = hlevel (EachSignal-prop P one t, EachSignalOfAll-prop P one ts)

-- that a signal may be emitted
pub IsEmitted-prop : (i : List Declaration) (n : ℕ) (s : Name) → IsProp (IsEmitted i n s)
IsEmitted-prop i n (outer m) = hlevel Bool-set
IsEmitted-prop i n (inner m) = le_prop

-- that each name has its binder
pub IsClosed-prop : (i : List Declaration) (m n : ℕ) (t : Term) → IsProp (IsClosed i m n t)
IsClosed-prop i m n nothing = Unit-prop
IsClosed-prop i m n pause = Unit-prop
IsClosed-prop i m n (emit s) = IsEmitted-prop i n s
IsClosed-prop i m n (present s p q) =
    hlevel (EachSignal-prop (IsVisible i n) (IsVisible-prop i n) s, IsClosed-prop i m n p, IsClosed-prop i m n q)
IsClosed-prop i m n (suspend s p) =
    hlevel (EachSignal-prop (IsVisible i n) (IsVisible-prop i n) s, IsClosed-prop i m n p)
IsClosed-prop i m n (held s p) = hlevel (EachSignal-prop (IsVisible i n) (IsVisible-prop i n) s, IsClosed-prop i m n p)
IsClosed-prop i m n (seq p q) = hlevel (IsClosed-prop i m n p, IsClosed-prop i m n q)
IsClosed-prop i m n (loop p) = IsClosed-prop i m n p
IsClosed-prop i m n (par p q) = hlevel (IsClosed-prop i m n p, IsClosed-prop i m n q)
IsClosed-prop i m n (trap p) = IsClosed-prop i (m + 1) n p
IsClosed-prop i m n (exit k) = le_prop
IsClosed-prop i m n (signal s p) = ×_prop (ℕ_set _ _) (IsClosed-prop i m (n + 1) p)
