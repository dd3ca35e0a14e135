-- Interfaces, a declaration at a time.
use Rattle.std.proofs.Common.{◌≡◌, ◌≢◌, ◌<◌, ◌≤◌, ◌+◌, ℕ, zero, suc, Bool, true, false, ◌&&◌, ◌||◌, nat_lt, List, []}
use Rattle.std.proofs.Common.{◌∷◌, ◌++◌, length, refl, inl, inr, arith, get_or}
use Rattle.std.proofs.lemmas.Bool.{cases_eq, cases_lt, or_parts}
use Rattle.std.proofs.lemmas.Bool.Decides.{nat_tests}
use Rattle.std.specs.List.{IsDistinct, AllByRecursion, list_any}
use Rattle.est_kernel.specs.Interfaces.{declares}
use Rattle.est_kernel.specs.declared.interface.Kind.{Kind}
use Rattle.est_kernel.specs.declared.interface.Declaration.{Declaration}

-- nothing is declared past the end
pub declares_beyond : (passes : Kind → Bool) (ds : List Declaration) (n : ℕ) → length ds ≤ n
    → declares passes ds n ≡ false
declares_beyond passes [] n h = refl
declares_beyond passes (d ∷ ds) zero h = absurd (omega arith)
declares_beyond passes (d ∷ ds) (suc n) h = declares_beyond passes ds n (omega arith)

-- whether a place passes a test of kinds is told by its declaration
pub declares_at : (passes : Kind → Bool) (ds : List Declaration) (n : ℕ) (d : Declaration) → n < length ds
    → declares passes ds n ≡ passes (get_or ds n d).kind
declares_at passes [] n d h = absurd (omega arith)
declares_at passes (e ∷ ds) zero d h = refl
declares_at passes (e ∷ ds) (suc n) d h = declares_at passes ds n d (omega arith)

-- one more place is looked at, and put in
pub with_next : (f g all : ℕ → Bool) (i : ℕ) → g i ≡ true → ((n : ℕ) → n ≢ i → g n ≡ f n) → all i ≡ true
    → ((n : ℕ) → f n ≡ (nat_lt n i && all n)) → (n : ℕ) → g n ≡ (nat_lt n (i + 1) && all n)
with_next f g all i same other is before n = elim (cases_eq n i) [
  | inl e ↦ rw (e, same, is) (grind (arith, nat_tests))
  | inr d ↦ rw (other n d, before n) (grind (arith, nat_tests))
]

-- one more place is looked at, and left out
pub without_next : (f all : ℕ → Bool) (i : ℕ) → all i ≡ false
    → ((n : ℕ) → f n ≡ (nat_lt n i && all n)) → (n : ℕ) → f n ≡ (nat_lt n (i + 1) && all n)
without_next f all i is before n = elim (cases_eq n i) [
  | inl e ↦ rw (before n, e, is) (grind (arith, nat_tests))
  | inr d ↦ rw (before n) (grind (arith, nat_tests))
]

-- no place is looked at
pub none_looked_at : (x b : Bool) (n : ℕ) → x ≡ false → x ≡ (nat_lt n 0 && b)
none_looked_at x b n h = grind (arith, nat_tests)

-- the places that were looked at are all there are
pub all_looked_at : (passes : Kind → Bool) (ds : List Declaration) (f : ℕ → Bool) (i : ℕ) → length ds ≤ i
    → ((n : ℕ) → f n ≡ (nat_lt n i && declares passes ds n)) → (n : ℕ) → f n ≡ declares passes ds n
all_looked_at passes ds f i h before n = elim (cases_lt n i) [
  | inl l ↦ rw (before n) (grind (arith, nat_tests))
  | inr g ↦ rw (before n, declares_beyond passes ds n (omega arith)) (grind (arith, nat_tests))
]

apart_push : {K : Type 0} (eq : K → K → Bool) (x : K) (xs : List K) (y : K) → AllByRecursion (λ z. eq x z ≡ false) xs
    → eq x y ≡ false → AllByRecursion (λ z. eq x z ≡ false) (xs ++ y ∷ [])
apart_push eq x [] y a n = (n, tt)
apart_push eq x (z ∷ zs) y a n = (a.0, apart_push eq x zs y a.1 n)

-- one more, equal to none of them, at the end
pub distinct_push : {K : Type 0} (eq : K → K → Bool) (xs : List K) (y : K) → IsDistinct eq xs
    → list_any (λ x. eq x y) xs ≡ false → IsDistinct eq (xs ++ y ∷ [])
unfolding IsDistinct
distinct_push eq [] y d n = (tt, tt)
distinct_push eq (x ∷ xs) y d n =
    let p = or_parts (eq x y) (list_any (λ z. eq z y) xs) n in
    (apart_push eq x xs y d.0 p.0, distinct_push eq xs y d.1 p.1)
