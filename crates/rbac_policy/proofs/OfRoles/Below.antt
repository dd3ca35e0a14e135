-- What lies below a set of roles is what chains of edges lead to.
use Rattle.std.proofs.Common.{◌≡◌, ◌↔◌, ℕ, List}
use Rattle.rbac_closure.specs.Sets.{Has}
use Rattle.rbac_closure.specs.Edges.{IsBelowSome}
use Rattle.rbac_closure.proofs.Finding.{all_below}
use Rattle.rbac_closure.proofs.SetLemmas.{same_set}
use Rattle.rbac_policy.specs.Order.{below}

pub below_sound : (edges : List ℕ) (set p : ℕ) → Has (below edges set) p → IsBelowSome edges set p
unfolding below
below_sound edges set p h = ((all_below edges set).is p).0 h

pub below_all : (edges : List ℕ) (set p : ℕ) → IsBelowSome edges set p → Has (below edges set) p
unfolding below
below_all edges set p b = ((all_below edges set).is p).1 b

-- no other set has just that
pub found_below : (edges : List ℕ) (set found : ℕ) → ((p : ℕ) → Has found p ↔ IsBelowSome edges set p)
    → found ≡ below edges set
found_below edges set found is = same_set found (below edges set) (λ p. (
  λ h. below_all edges set p ((is p).0 h),
  λ h. (is p).1 (below_sound edges set p h),
))
