-- Binders of several signals.
use Rattle.std.proofs.Common.{◌≡◌, ℕ, zero, suc, ◌+◌, ◌-◌, ◌<◌, ◌≤◌, ap, arith}
use Rattle.est_kernel.specs.Term as kernel
use Rattle.est_kernel.specs.Term.{Term}
use Rattle.est_reduce.specs.Inner.Sizes.{IsSmall}
use Rattle.est_reduce.specs.Reductions.{binders}

pub binders_step : (l n : ℕ) (p : Term) → (0 < n) → binders l n p ≡ kernel.signal l (binders (l + 1) (n - 1) p)
binders_step l zero p h = absurd (omega (arith, h))
binders_step l (suc n) p h = let e : n ≡ suc n - 1 = omega arith in ap (λ m. kernel.signal l (binders (l + 1) m p)) e

pub small_binders : (l n : ℕ) (p : Term) → l ≤ 65536 → IsSmall (binders l n p) → (l + n ≤ 65536) × IsSmall p
small_binders l zero p h s = (omega arith, s)
small_binders l (suc n) p h s =
    let next = small_binders (l + 1) n p (omega (arith, s.0)) s.1 in
    (omega (arith, next.0), next.1)
