-- A body whose names are bound stays so where it is run.
use Rattle.std.proofs.Common.{◌≡◌, ℕ, ◌+◌, List, get_or, subst, arith}
use Rattle.est_kernel.specs.Scope.{EachSignalOfAll}
use Rattle.est_kernel.specs.Term.{Name, outer, inner, Query, tick, of, negated, joined, Queries, last, more}
use Rattle.est_kernel.proofs.Tests.{each_implies}
use Rattle.est_reduce.specs.Bodies.{Body, nothing, pause, halt, emit, sustain, exit, await, present, suspend, abort}
use Rattle.est_reduce.specs.Bodies.{weak_abort, repeat, repeat_each, every, trap, signal, seq, par}
use Rattle.est_link.specs.Linking.{body_in_run, in_run, signal_in_run, query_meant, queries_meant, emitted}
use Rattle.est_link.specs.Bodies.{MayEmit, MayAsk, IsThere, IsBody, AreBindings}

more_there : (m l k : ℕ) (s : Name) → IsThere m l s → IsThere m (l + k) s
more_there m l k (outer i) a = a
more_there m l k (inner j) a = omega (arith, a)

pub more_asked : (m l k : ℕ) (q : Query) → MayAsk m l q → MayAsk m (l + k) q
more_asked m l k q a = each_implies (IsThere m l) (IsThere m (l + k)) (more_there m l k) q a

pub more_sent : (m : ℕ) (may : ℕ → Type 0) (l k : ℕ) (s : Name) → MayEmit m may l s → MayEmit m may (l + k) s
more_sent m may l k (outer i) a = a
more_sent m may l k (inner j) a = omega (arith, a)

name_bound : (n : ℕ) (may : ℕ → Type 0) (m : ℕ) (callers : ℕ → Type 0) (k : ℕ) (qs : List Query)
    → AreBindings n may m callers k qs → (l : ℕ) (s : Name) → IsThere n l s → MayAsk m (k + l) (signal_in_run qs k s)
name_bound n may m callers k qs b l (outer i) a = more_asked m k l (get_or qs i tick) (b.asked i a)
name_bound n may m callers k qs b l (inner j) a = omega (arith, a)

mutual
  asked_bound : (n : ℕ) (may : ℕ → Type 0) (m : ℕ) (callers : ℕ → Type 0) (k : ℕ) (qs : List Query)
      → AreBindings n may m callers k qs → (l : ℕ) (q : Query) → MayAsk n l q
      → MayAsk m (k + l) (query_meant (in_run qs k) q)
  asked_bound n may m callers k qs b l tick a = tt
  asked_bound n may m callers k qs b l (of s) a = name_bound n may m callers k qs b l s a
  asked_bound n may m callers k qs b l (negated t) a = asked_bound n may m callers k qs b l t a
  asked_bound n may m callers k qs b l (joined c t ts) a =
      (asked_bound n may m callers k qs b l t a.0, all_asked_bound n may m callers k qs b l ts a.1)

  all_asked_bound : (n : ℕ) (may : ℕ → Type 0) (m : ℕ) (callers : ℕ → Type 0) (k : ℕ) (qs : List Query)
      → AreBindings n may m callers k qs → (l : ℕ) (ts : Queries) → EachSignalOfAll (IsThere n l) ts
      → EachSignalOfAll (IsThere m (k + l)) (queries_meant (in_run qs k) ts)
  all_asked_bound n may m callers k qs b l (last t) a = asked_bound n may m callers k qs b l t a
  all_asked_bound n may m callers k qs b l (more t ts) a =
      (asked_bound n may m callers k qs b l t a.0, all_asked_bound n may m callers k qs b l ts a.1)

sent_bound : (n : ℕ) (may : ℕ → Type 0) (m : ℕ) (callers : ℕ → Type 0) (k : ℕ) (qs : List Query)
    → AreBindings n may m callers k qs → (l : ℕ) (s : Name) → MayEmit n may l s
    → MayEmit m callers (k + l) (emitted (signal_in_run qs k s))
sent_bound n may m callers k qs b l (outer i) a = more_sent m callers k l (emitted (get_or qs i tick))
    (b.sent i a.0 a.1)
sent_bound n may m callers k qs b l (inner j) a = omega (arith, a)

pub bound_body : (n : ℕ) (may : ℕ → Type 0) (m : ℕ) (callers : ℕ → Type 0) (k : ℕ) (qs : List Query)
    → AreBindings n may m callers k qs → (t l : ℕ) (f : Body) → IsBody n may t l f
    → IsBody m callers t (k + l) (body_in_run qs k f)
bound_body n may m callers k qs b t l nothing h = tt
bound_body n may m callers k qs b t l pause h = tt
bound_body n may m callers k qs b t l halt h = tt
bound_body n may m callers k qs b t l (emit s) h = sent_bound n may m callers k qs b l s h
bound_body n may m callers k qs b t l (sustain s) h = sent_bound n may m callers k qs b l s h
bound_body n may m callers k qs b t l (exit j) h = h
bound_body n may m callers k qs b t l (await now s) h = asked_bound n may m callers k qs b l s h
bound_body n may m callers k qs b t l (present s p q) h = (
  asked_bound n may m callers k qs b l s h.0,
  bound_body n may m callers k qs b t l p h.1,
  bound_body n may m callers k qs b t l q h.2,
)
bound_body n may m callers k qs b t l (suspend now s p) h =
    (asked_bound n may m callers k qs b l s h.0, bound_body n may m callers k qs b t l p h.1)
bound_body n may m callers k qs b t l (abort now s p) h =
    (asked_bound n may m callers k qs b l s h.0, bound_body n may m callers k qs b t l p h.1)
bound_body n may m callers k qs b t l (weak_abort now s p) h =
    (asked_bound n may m callers k qs b l s h.0, bound_body n may m callers k qs b t l p h.1)
bound_body n may m callers k qs b t l (repeat p) h = bound_body n may m callers k qs b t l p h
bound_body n may m callers k qs b t l (repeat_each s p) h =
    (asked_bound n may m callers k qs b l s h.0, bound_body n may m callers k qs b t l p h.1)
bound_body n may m callers k qs b t l (every now s p) h =
    (asked_bound n may m callers k qs b l s h.0, bound_body n may m callers k qs b t l p h.1)
bound_body n may m callers k qs b t l (trap p) h = bound_body n may m callers k qs b (t + 1) l p h
bound_body n may m callers k qs b t l (signal j p) h =
    let P : ℕ → Type 0 = λ x. IsBody m callers t x (body_in_run qs k p) in
    let e : k + (l + j) ≡ k + l + j = omega arith in
    subst P e (bound_body n may m callers k qs b t (l + j) p h)
bound_body n may m callers k qs b t l (seq p q) h =
    (bound_body n may m callers k qs b t l p h.0, bound_body n may m callers k qs b t l q h.1)
bound_body n may m callers k qs b t l (par p q) h =
    (bound_body n may m callers k qs b t l p h.0, bound_body n may m callers k qs b t l q h.1)
