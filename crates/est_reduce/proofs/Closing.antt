-- The reduction of a statement whose names are bound is closed, and small within the limits.
use Rattle.std.proofs.Common.{◌≡◌, ℕ, zero, suc, ◌+◌, ◌<◌, List, Bool, true, false, refl, subst, arith}
use Rattle.est_kernel.specs.Term as kernel
use Rattle.est_kernel.specs.Term.{Term, Query, tick, of, Name, outer, inner}
use Rattle.est_kernel.specs.Scope.{IsAsked, IsClosed}
use Rattle.est_kernel.specs.declared.interface.Declaration.{Declaration}
use Rattle.est_reduce.specs.Bodies.{Body, nothing, pause, halt, emit, sustain, exit, await, present, suspend, abort}
use Rattle.est_reduce.specs.Bodies.{weak_abort, repeat, repeat_each, every, trap, signal, seq, par}
use Rattle.est_reduce.specs.Reductions.{reduced, binders, past_named, past_fresh, watching, awaiting, aborting}
use Rattle.est_reduce.specs.Reductions.{weakly_aborting, looping_each, doing_every, halting}
use Rattle.est_reduce.specs.Bound.{IsBound}

-- exits of t traps lead to u traps of the kernel
abbrev Leads : (ℕ → ℕ) → (traps kernel_traps : ℕ) → Type 0
Leads r t u = (k : ℕ) → k < t → r k < u

fresh_leads : (r : ℕ → ℕ) (t u : ℕ) → Leads r t u → Leads (past_fresh r) t (u + 1)
fresh_leads r t u h k lt = let e : r k < u = h k lt in omega arith

named_leads : (r : ℕ → ℕ) (t u : ℕ) → Leads r t u → Leads (past_named r) (t + 1) (u + 1)
named_leads r t u h zero lt = omega arith
named_leads r t u h (suc k) lt = let e : r k < u = h k (omega arith) in omega arith

first_trap : (u : ℕ) → 0 < u + 1
first_trap u = omega arith

closed_watching : (i : List Declaration) (u l : ℕ) (now : Bool) (s : Query) → IsAsked i l s
    → IsClosed i (u + 1) l (watching now s)
closed_watching i u l false s a = (tt, (a, first_trap u, tt))
closed_watching i u l true s a = ((a, first_trap u, tt), tt)

closed_aborting : (i : List Declaration) (u l : ℕ) (s : Query) (p : Term) → IsAsked i l s → IsClosed i (u + 1) l p
    → IsClosed i u l (aborting false s p)
closed_aborting i u l s p a h = (((a, h), first_trap u), closed_watching i u l false s a)

closed_awaiting : (i : List Declaration) (u l : ℕ) (now : Bool) (s : Query) → IsAsked i l s
    → IsClosed i u l (awaiting now s)
closed_awaiting i u l false s a = closed_watching i u l false s a
closed_awaiting i u l true s a = closed_watching i u l true s a

closed_weakly_aborting : (i : List Declaration) (u l : ℕ) (now : Bool) (s : Query) (p : Term) → IsAsked i l s
    → IsClosed i (u + 1) l p → IsClosed i u l (weakly_aborting now s p)
closed_weakly_aborting i u l false s p a h = ((h, first_trap u), closed_watching i u l false s a)
closed_weakly_aborting i u l true s p a h = ((h, first_trap u), closed_watching i u l true s a)

closed_each : (i : List Declaration) (u l : ℕ) (s : Query) (p : Term) → IsAsked i l s → IsClosed i (u + 1) l p
    → IsClosed i u l (looping_each s p)
closed_each i u l s p a h = closed_aborting i u l s (kernel.seq p halting) a (h, tt)

closed_doing_every : (i : List Declaration) (u l : ℕ) (now : Bool) (s : Query) (p : Term) → IsAsked i l s
    → IsClosed i (u + 1) l p → IsClosed i u l (doing_every now s p)
closed_doing_every i u l false s p a h = (closed_awaiting i u l false s a, closed_each i u l s p a h)
closed_doing_every i u l true s p a h = (closed_awaiting i u l true s a, closed_each i u l s p a h)

closed_binders : (i : List Declaration) (u l n : ℕ) (p : Term) → IsClosed i u (l + n) p → IsClosed i u l (binders l n p)
closed_binders i u l zero p h = let P : ℕ → Type 0 = λ m. IsClosed i u m p in let e : l + 0 ≡ l = omega arith in
    subst P e h
closed_binders i u l (suc n) p h =
    let P : ℕ → Type 0 = λ m. IsClosed i u m p in
    let e : l + suc n ≡ (l + 1) + n = omega arith in
    (refl, closed_binders i u (l + 1) n p (subst P e h))

-- a statement whose names are bound has a closed reduction
pub reduced_closed : (i : List Declaration) (r : ℕ → ℕ) (t u l : ℕ) → Leads r t u → (f : Body) → IsBound i t l f
    → IsClosed i u l (reduced r l f)
reduced_closed i r t u l h nothing b = tt
reduced_closed i r t u l h pause b = tt
reduced_closed i r t u l h halt b = tt
reduced_closed i r t u l h (emit s) b = b
reduced_closed i r t u l h (sustain s) b = (b, tt)
reduced_closed i r t u l h (exit k) b = h k b
reduced_closed i r t u l h (await now s) b = closed_awaiting i u l now s b
reduced_closed i r t u l h (present s p q) b = (b.0, reduced_closed i r t u l h p b.1, reduced_closed i r t u l h q b.2)
reduced_closed i r t u l h (suspend false s p) b = (b.0, reduced_closed i r t u l h p b.1)
reduced_closed i r t u l h (suspend true s p) b = (b.0, ((b.0, tt, tt), reduced_closed i r t u l h p b.1))
reduced_closed i r t u l h (abort false s p) b = closed_aborting i u l s (reduced (past_fresh r) l p) b.0
    (reduced_closed i (past_fresh r) t (u + 1) l (fresh_leads r t u h) p b.1)
reduced_closed i r t u l h (abort true s p) b = (
  b.0,
  tt,
  closed_aborting i u l s (reduced (past_fresh r) l p) b.0
      (reduced_closed i (past_fresh r) t (u + 1) l (fresh_leads r t u h) p b.1),
)
reduced_closed i r t u l h (weak_abort now s p) b = closed_weakly_aborting i u l now s
    (reduced (past_fresh r) l p) b.0 (reduced_closed i (past_fresh r) t (u + 1) l (fresh_leads r t u h) p b.1)
reduced_closed i r t u l h (repeat p) b = reduced_closed i r t u l h p b
reduced_closed i r t u l h (repeat_each s p) b = closed_each i u l s (reduced (past_fresh r) l p) b.0
    (reduced_closed i (past_fresh r) t (u + 1) l (fresh_leads r t u h) p b.1)
reduced_closed i r t u l h (every now s p) b = closed_doing_every i u l now s (reduced (past_fresh r) l p) b.0
    (reduced_closed i (past_fresh r) t (u + 1) l (fresh_leads r t u h) p b.1)
reduced_closed i r t u l h (trap p) b = reduced_closed i (past_named r) (t + 1) (u + 1) l (named_leads r t u h) p b
reduced_closed i r t u l h (signal n p) b = closed_binders i u l n (reduced r (l + n) p)
    (reduced_closed i r t u (l + n) h p b)
reduced_closed i r t u l h (seq p q) b = (reduced_closed i r t u l h p b.0, reduced_closed i r t u l h q b.1)
reduced_closed i r t u l h (par p q) b = (reduced_closed i r t u l h p b.0, reduced_closed i r t u l h q b.1)
