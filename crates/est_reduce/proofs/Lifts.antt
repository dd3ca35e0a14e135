-- Reductions inside a fresh trap.
use Rattle.std.proofs.Common.{◌≡◌, ◌∙◌, ℕ, zero, suc, ◌+◌, true, false, refl, sym, ap, arith}
use Rattle.est_kernel.specs.Term as kernel
use Rattle.est_kernel.specs.Term.{Term, Query}
use Rattle.est_reduce.specs.Bodies.{Body, nothing, pause, halt, emit, sustain, exit, await, present, suspend, abort}
use Rattle.est_reduce.specs.Bodies.{weak_abort, repeat, repeat_each, every, trap, signal, seq, par}
use Rattle.est_reduce.specs.Lifting.{past, lifted}
use Rattle.est_reduce.specs.Reductions.{reduced, binders, past_named, past_fresh, aborting, weakly_aborting}
use Rattle.est_reduce.specs.Reductions.{looping_each, doing_every}

past_suc : (d k : ℕ) → past (suc d) (k + 1) ≡ past d k + 1
past_suc d k = let e : k + 1 ≡ suc k = omega arith in ap (past (suc d)) e ∙ more (past d k) where
  more : (n : ℕ) → suc n ≡ n + 1
  more n = omega arith

fresh : (r r' : ℕ → ℕ) (d : ℕ) → ((k : ℕ) → r' k ≡ past d (r k)) → (k : ℕ)
    → past_fresh r' k ≡ past (suc d) (past_fresh r k)
fresh r r' d h k = ap (λ n. n + 1) (h k) ∙ sym (past_suc d (r k))

named : (r r' : ℕ → ℕ) (d : ℕ) → ((k : ℕ) → r' k ≡ past d (r k)) → (k : ℕ)
    → past_named r' k ≡ past (suc d) (past_named r k)
named r r' d h zero = refl
named r r' d h (suc k) = ap (λ n. n + 1) (h k) ∙ sym (past_suc d (r k))

lifted_binders : (d l n : ℕ) (p : Term) → lifted d (binders l n p) ≡ binders l n (lifted d p)
lifted_binders d l zero p = refl
lifted_binders d l (suc n) p = ap (kernel.signal l) (lifted_binders d (l + 1) n p)

both : (f : Term → Term → Term) (p q p' q' : Term) → p ≡ p' → q ≡ q' → f p q ≡ f p' q'
both f p q p' q' e g = ap (λ x. f x q) e ∙ ap (f p') g

-- where exits lead one trap further out of d traps, the term is lifted
lift_reduced : (r r' : ℕ → ℕ) (d l : ℕ) (p : Body) → ((k : ℕ) → r' k ≡ past d (r k))
    → reduced r' l p ≡ lifted d (reduced r l p)
lift_reduced r r' d l nothing h = refl
lift_reduced r r' d l pause h = refl
lift_reduced r r' d l halt h = refl
lift_reduced r r' d l (emit s) h = refl
lift_reduced r r' d l (sustain s) h = refl
lift_reduced r r' d l (exit k) h = ap kernel.exit (h k)
lift_reduced r r' d l (await false s) h = refl
lift_reduced r r' d l (await true s) h = refl
lift_reduced r r' d l (present s p q) h = both (kernel.present s) _ _ _ _ (lift_reduced r r' d l p h)
    (lift_reduced r r' d l q h)
lift_reduced r r' d l (suspend false s p) h = ap (kernel.suspend s) (lift_reduced r r' d l p h)
lift_reduced r r' d l (suspend true s p) h =
    ap (λ x. kernel.suspend s (kernel.seq (kernel.present s kernel.pause kernel.nothing) x)) (lift_reduced r r' d l p h)
lift_reduced r r' d l (abort false s p) h =
    ap (aborting false s) (lift_reduced (past_fresh r) (past_fresh r') (suc d) l p (fresh r r' d h))
lift_reduced r r' d l (abort true s p) h =
    ap (aborting true s) (lift_reduced (past_fresh r) (past_fresh r') (suc d) l p (fresh r r' d h))
lift_reduced r r' d l (weak_abort false s p) h =
    ap (weakly_aborting false s) (lift_reduced (past_fresh r) (past_fresh r') (suc d) l p (fresh r r' d h))
lift_reduced r r' d l (weak_abort true s p) h =
    ap (weakly_aborting true s) (lift_reduced (past_fresh r) (past_fresh r') (suc d) l p (fresh r r' d h))
lift_reduced r r' d l (repeat p) h = ap kernel.loop (lift_reduced r r' d l p h)
lift_reduced r r' d l (repeat_each s p) h =
    ap (looping_each s) (lift_reduced (past_fresh r) (past_fresh r') (suc d) l p (fresh r r' d h))
lift_reduced r r' d l (every false s p) h =
    ap (doing_every false s) (lift_reduced (past_fresh r) (past_fresh r') (suc d) l p (fresh r r' d h))
lift_reduced r r' d l (every true s p) h =
    ap (doing_every true s) (lift_reduced (past_fresh r) (past_fresh r') (suc d) l p (fresh r r' d h))
lift_reduced r r' d l (trap p) h =
    ap kernel.trap (lift_reduced (past_named r) (past_named r') (suc d) l p (named r r' d h))
lift_reduced r r' d l (signal n p) h =
    ap (binders l n) (lift_reduced r r' d (l + n) p h) ∙ sym (lifted_binders d l n (reduced r (l + n) p))
lift_reduced r r' d l (seq p q) h = both kernel.seq _ _ _ _ (lift_reduced r r' d l p h) (lift_reduced r r' d l q h)
lift_reduced r r' d l (par p q) h = both kernel.par _ _ _ _ (lift_reduced r r' d l p h) (lift_reduced r r' d l q h)

-- inside a fresh trap a part is lifted
pub fresh_lifts : (leads : ℕ → ℕ) (l : ℕ) (p : Body) → reduced (past_fresh leads) l p ≡ lifted 0 (reduced leads l p)
fresh_lifts leads l p = lift_reduced leads (past_fresh leads) 0 l p (λ k. omega arith)
