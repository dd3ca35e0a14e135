-- A set of signals of an interface has a mask.
use Rattle.std.proofs.Common.{◌≡◌, ◌∙◌, ℕ, zero, suc, ◌≤◌, ◌^◌, true, false, ◌&&◌, ◌||◌, nat_eq, nat_lt}
use Rattle.std.proofs.Common.{List, length, sym, ap, arith, inl, inr}
use mathlib.Core.Path.{fun_ext}
use Rattle.std.proofs.lemmas.Bool.{cases_eq, cases_lt, cases_Bool, false≢true}
use Rattle.std.proofs.lemmas.Bool.Decides.{nat_tests}
use Rattle.est_kernel.specs.Bits.{bits}
use Rattle.est_kernel.specs.Interfaces.{can_be_offered, offerable}
use Rattle.est_kernel.specs.declared.interface.Declaration.{Declaration}
use Rattle.est_kernel.proofs.Interfaces.{declares_beyond}
use Rattle.est_kernel.proofs.Masks.{bits_or, bits_pow, bits_zero}
use Rattle.est_meaning.specs.Knowledge.{IsIn}
use Rattle.est_relations.specs.Offers.{with_place}
use Rattle.est_relations.proofs.FirstBroken.{with_bits}
use Rattle.est_cover.specs.InputSets.{InputSet}

-- the mask has those of the set whose places are below p
abbrev IsBelow : ℕ → InputSet → ℕ → Type 0
IsBelow p set m = (n : ℕ) → bits m n ≡ (nat_lt n p && set n)

record Below (p : ℕ) (set : InputSet) : Type 0 where
  mask : ℕ
  is : IsBelow p set mask

-- one more place
same_below : (p : ℕ) (set : InputSet) (m : ℕ) → set p ≡ false → IsBelow p set m → IsBelow (suc p) set m
same_below p set m out is n = elim (cases_eq n p) [
  | inl e ↦ rw (is n) (rw e (rw out (grind (arith, nat_tests))))
  | inr d ↦ rw (is n) (grind (arith, nat_tests))
]

more_below : (p : ℕ) (set : InputSet) (m : ℕ) → set p ≡ true → IsBelow p set m → IsBelow (suc p) set (with_place m p)
more_below p set m is_in is n = rw (with_bits m p n, is n) (elim (cases_eq n p) [
  | inl e ↦ rw e (rw is_in (grind (arith, nat_tests)))
  | inr d ↦ grind (arith, nat_tests)
])

below : (p : ℕ) (set : InputSet) → Below p set
below zero set = record { mask = 0; is = λ n. bits_zero n ∙ grind (arith, nat_tests) }
below (suc p) set = elim (cases_Bool (set p)) [
  | inl t ↦ record {
    mask = with_place (below p set).mask p;
    is = more_below p set (below p set).mask t (below p set).is;
  }
  | inr f ↦ record { mask = (below p set).mask; is = same_below p set (below p set).mask f (below p set).is }
]

-- the mask is of this set
pub record IsMaskOf (set : InputSet) : Type 0 where
  pub mask : ℕ
  pub is : bits mask ≡ set

pub mask_of : (ds : List Declaration) (set : InputSet) → IsIn set (offerable ds) → IsMaskOf set
mask_of ds set offered = record {
  mask = (below (length ds) set).mask;
  is = fun_ext (λ n. (below (length ds) set).is n ∙ elim (cases_lt n (length ds)) [
    | inl l ↦ grind (arith, nat_tests)
    | inr g ↦ rw (out n g) (grind (arith, nat_tests))
  ]);
} where
  out : (n : ℕ) → length ds ≤ n → set n ≡ false
  out n g = elim (cases_Bool (set n)) [
    | inl t ↦ absurd (false≢true (sym (declares_beyond can_be_offered ds n g) ∙ offered n t))
    | inr f ↦ f
  ]
