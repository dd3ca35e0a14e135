-- What is known of a statement before any instant stays as it is while cells are decided.
use Rattle.std.proofs.Common.{◌≡◌, ap, sym, subst, ℕ, List}
use Rattle.est_kernel.specs.declared.statement.Statement.{Statement}
use Rattle.est_net.specs.Extents.{HasExtents}
use Rattle.est_net.specs.Kept.{Kept}
use Rattle.est_net.specs.declared.extents.Extent.{Extent}

pub still : (a b : Kept) (n t : ℕ) (s : Statement) → a ≡ b → HasExtents b.extents n t s → HasExtents a.extents n t s
still a b n t s e h = subst (λ (z : List Extent). HasExtents z n t s) (sym (ap (λ (k : Kept). k.extents) e)) h

-- at a number that was looked up
pub still_at : (a b : Kept) (n m t : ℕ) (s : Statement) → n ≡ m → a ≡ b → HasExtents b.extents m t s
    → HasExtents a.extents n t s
still_at a b n m t s l e h = subst (λ (k : ℕ). HasExtents a.extents k t s) (sym l) (still a b m t s e h)
