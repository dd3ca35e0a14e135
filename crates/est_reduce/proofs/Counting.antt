-- The sizes of reductions, and what the limits bound.
use Rattle.std.proofs.Common.{◌≡◌, ℕ, zero, suc, ◌+◌, ◌≤◌, ◌<◌, length, List, true, false, refl, sym, ◌∙◌, arith}
use Rattle.std.proofs.lemmas.Bool.{cases_lt, false≢true}
use Rattle.std.proofs.Common.{◌⊎◌, inl, inr}
use Rattle.est_kernel.specs.Term as kernel
use Rattle.est_kernel.specs.Term.{Term, Query, Name, outer, inner}
use Rattle.est_kernel.specs.Limits.{statement_count, trap_depth, local_depth}
use Rattle.est_kernel.specs.Interfaces.{can_be_emitted, emittable}
use Rattle.est_kernel.proofs.Interfaces.{declares_beyond}
use Rattle.est_kernel.specs.Scope.{IsAsked, IsEmitted, IsClosed, IsVisible}
use Rattle.est_kernel.proofs.Tests.{each_implies}
use Rattle.est_kernel.specs.declared.interface.Declaration.{Declaration}
use Rattle.est_reduce.specs.Bodies.{Body, nothing, pause, halt, emit, sustain, exit, await, present, suspend, abort}
use Rattle.est_reduce.specs.Bodies.{weak_abort, repeat, repeat_each, every, trap, signal, seq, par}
use Rattle.est_reduce.specs.Inner.Sizes.{reduced_statements, IsSmall, IsSmallName, IsSmallQuery}
use Rattle.est_reduce.specs.Reductions.{reduced, binders, past_named, past_fresh}

binders_count : (l n : ℕ) (p : Term) → statement_count (binders l n p) ≡ statement_count p + n
binders_count l zero p = omega arith
binders_count l (suc n) p = omega (arith, binders_count (l + 1) n p)

pub count_reduced : (r : ℕ → ℕ) (l : ℕ) (f : Body) → statement_count (reduced r l f) ≡ reduced_statements f
count_reduced r l nothing = refl
count_reduced r l pause = refl
count_reduced r l halt = refl
count_reduced r l (emit s) = refl
count_reduced r l (sustain s) = refl
count_reduced r l (exit k) = refl
count_reduced r l (await false s) = omega arith
count_reduced r l (await true s) = omega arith
count_reduced r l (present s p q) = omega (arith, count_reduced r l p, count_reduced r l q)
count_reduced r l (suspend false s p) = omega (arith, count_reduced r l p)
count_reduced r l (suspend true s p) = omega (arith, count_reduced r l p)
count_reduced r l (abort false s p) = omega (arith, count_reduced (past_fresh r) l p)
count_reduced r l (abort true s p) = omega (arith, count_reduced (past_fresh r) l p)
count_reduced r l (weak_abort false s p) = omega (arith, count_reduced (past_fresh r) l p)
count_reduced r l (weak_abort true s p) = omega (arith, count_reduced (past_fresh r) l p)
count_reduced r l (repeat p) = omega (arith, count_reduced r l p)
count_reduced r l (repeat_each s p) = omega (arith, count_reduced (past_fresh r) l p)
count_reduced r l (every false s p) = omega (arith, count_reduced (past_fresh r) l p)
count_reduced r l (every true s p) = omega (arith, count_reduced (past_fresh r) l p)
count_reduced r l (trap p) = omega (arith, count_reduced (past_named r) l p)
count_reduced r l (signal n p) = omega (arith, binders_count l n (reduced r (l + n) p), count_reduced r (l + n) p)
count_reduced r l (seq p q) = omega (arith, count_reduced r l p, count_reduced r l q)
count_reduced r l (par p q) = omega (arith, count_reduced r l p, count_reduced r l q)

-- ---- within the limits each number is small

output_within : (i : List Declaration) (n : ℕ) → emittable i n ≡ true → (n < length i) ⊎ (length i ≤ n) → n < length i
output_within i n h (inl lt) = lt
output_within i n h (inr le) = absurd (false≢true (sym (declares_beyond can_be_emitted i n le) ∙ h))

small_emitted : (i : List Declaration) (l : ℕ) → length i ≤ 64 → l ≤ 65536 → (s : Name) → IsEmitted i l s
    → IsSmallName s
small_emitted i l h k (outer n) e = let lt = output_within i n e (cases_lt n (length i)) in omega (arith, lt)
small_emitted i l h k (inner n) e = omega (arith, e)

small_visible : (i : List Declaration) (l : ℕ) → length i ≤ 64 → l ≤ 65536 → (s : Name) → IsVisible i l s
    → IsSmallName s
small_visible i l h k (outer n) a = omega (arith, a)
small_visible i l h k (inner n) a = omega (arith, a)

small_asked : (i : List Declaration) (l : ℕ) → length i ≤ 64 → l ≤ 65536 → (t : Query) → IsAsked i l t → IsSmallQuery t
small_asked i l h k t a = each_implies (IsVisible i l) IsSmallName (small_visible i l h k) t a

pub closed_small : (i : List Declaration) (u l : ℕ) (p : Term) → length i ≤ 64 → u + trap_depth p ≤ 65536
    → l + local_depth p ≤ 65536 → IsClosed i u l p → IsSmall p
closed_small i u l kernel.nothing a b c d = tt
closed_small i u l kernel.pause a b c d = tt
closed_small i u l (kernel.emit s) a b c d = small_emitted i l a (omega arith) s d
closed_small i u l (kernel.present s p q) a b c d = (
  small_asked i l a (omega arith) s d.0,
  closed_small i u l p a (omega arith) (omega arith) d.1,
  closed_small i u l q a (omega arith) (omega arith) d.2,
)
closed_small i u l (kernel.suspend s p) a b c d =
    (small_asked i l a (omega arith) s d.0, closed_small i u l p a b c d.1)
closed_small i u l (kernel.held s p) a b c d = (small_asked i l a (omega arith) s d.0, closed_small i u l p a b c d.1)
closed_small i u l (kernel.seq p q) a b c d =
    (closed_small i u l p a (omega arith) (omega arith) d.0, closed_small i u l q a (omega arith) (omega arith) d.1)
closed_small i u l (kernel.loop p) a b c d = closed_small i u l p a b c d
closed_small i u l (kernel.par p q) a b c d =
    (closed_small i u l p a (omega arith) (omega arith) d.0, closed_small i u l q a (omega arith) (omega arith) d.1)
closed_small i u l (kernel.trap p) a b c d = closed_small i (u + 1) l p a (omega arith) c d
closed_small i u l (kernel.exit k) a b c d = omega (arith, d)
closed_small i u l (kernel.signal s p) a b c d = (omega (arith, d.0), closed_small i u (l + 1) p a b (omega arith) d.1)
