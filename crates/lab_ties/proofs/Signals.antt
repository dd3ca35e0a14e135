-- The signals of the interface, one after another.
use Rattle.std.specs.Prelude.{◌≡◌, ◌+◌, ℕ, suc, List, ◌++◌}
use Rattle.std.proofs.Common.{refl, sym, subst, arith, append-nil, append_assoc}
use Rattle.est_kernel.specs.declared.kernel.Kernel.{Kernel}
use Rattle.est_meaning.specs.declared.status.Status.{Status}
use Rattle.lab_ties.specs.Stuck.{signal_ties, ties_if}
use Rattle.lab_ties.specs.declared.tie.Tie.{Tie}

-- nothing is tied to those before the first
pub none_before : (k : Kernel) (u : ℕ) (cells : List Status) (xs : List Tie) → xs ≡ xs ++ signal_ties k u cells 0
unfolding signal_ties
none_before k u cells xs = sym (append-nil xs)

-- one more
pub one_more : (k : Kernel) (u : ℕ) (cells : List Status) (n : ℕ) (xs ys zs : List Tie)
    → ys ≡ xs ++ ties_if k u cells n → xs ≡ zs ++ signal_ties k u cells n → ys ≡ zs ++ signal_ties k u cells (n + 1)
unfolding signal_ties
one_more k u cells n xs ys zs grown so =
    let next : suc n ≡ n + 1 = omega arith in
    subst (λ (m : ℕ). ys ≡ zs ++ signal_ties k u cells m) next
    (rw (grown, so, append_assoc zs (signal_ties k u cells n) (ties_if k u cells n)) refl)
