-- That a body's names are bound has one proof at most, so that a flat module can keep it; est_kernel specs/Facts says
-- why that is asked. What else a flat module keeps, `over_inputs`, is an equation and needs no such proof (this
-- project's own form).
use Rattle.std.specs.Prelude.{ℕ, List, ◌+◌}
use Rattle.std.specs.Coded.{Unit-prop, le_prop}
use Rattle.est_kernel.specs.Facts.{EachSignal-prop, IsEmitted-prop, IsVisible-prop}
use Rattle.est_kernel.specs.Scope.{IsVisible}
use Rattle.est_kernel.specs.declared.interface.Declaration.{Declaration}
use Rattle.est_reduce.specs.Bodies.{Body, nothing, pause, halt, emit, sustain, exit, await, present, suspend, abort}
use Rattle.est_reduce.specs.Bodies.{weak_abort, repeat, repeat_each, every, trap, signal, seq, par}
use Rattle.est_reduce.specs.Bound.{IsBound}

-- that every name is bound
pub IsBound-prop : (i : List Declaration) (m n : ℕ) (p : Body) → IsProp (IsBound i m n p)
IsBound-prop i m n nothing = Unit-prop
IsBound-prop i m n pause = Unit-prop
IsBound-prop i m n halt = Unit-prop
IsBound-prop i m n (emit s) = IsEmitted-prop i n s
IsBound-prop i m n (sustain s) = IsEmitted-prop i n s
IsBound-prop i m n (exit k) = le_prop
IsBound-prop i m n (await now s) = EachSignal-prop (IsVisible i n) (IsVisible-prop i n) s
IsBound-prop i m n (present s p q) =
    hlevel (EachSignal-prop (IsVisible i n) (IsVisible-prop i n) s, IsBound-prop i m n p, IsBound-prop i m n q)
IsBound-prop i m n (suspend now s p) =
    hlevel (EachSignal-prop (IsVisible i n) (IsVisible-prop i n) s, IsBound-prop i m n p)
IsBound-prop i m n (abort now s p) =
    hlevel (EachSignal-prop (IsVisible i n) (IsVisible-prop i n) s, IsBound-prop i m n p)
IsBound-prop i m n (weak_abort now s p) =
    hlevel (EachSignal-prop (IsVisible i n) (IsVisible-prop i n) s, IsBound-prop i m n p)
IsBound-prop i m n (repeat p) = IsBound-prop i m n p
IsBound-prop i m n (repeat_each s p) =
    hlevel (EachSignal-prop (IsVisible i n) (IsVisible-prop i n) s, IsBound-prop i m n p)
IsBound-prop i m n (every now s p) =
    hlevel (EachSignal-prop (IsVisible i n) (IsVisible-prop i n) s, IsBound-prop i m n p)
IsBound-prop i m n (trap p) = IsBound-prop i (m + 1) n p
IsBound-prop i m n (signal k p) = IsBound-prop i m (n + k) p
IsBound-prop i m n (seq p q) = hlevel (IsBound-prop i m n p, IsBound-prop i m n q)
IsBound-prop i m n (par p q) = hlevel (IsBound-prop i m n p, IsBound-prop i m n q)
