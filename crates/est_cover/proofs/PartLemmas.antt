-- Parts of the inputs, a signal at a time.
use Rattle.std.proofs.Common.{◌≡◌, ◌≢◌, ◌∙◌, ℕ, zero, suc, ◌<◌, ◌≤◌, ◌+◌, ◌/◌, ◌%◌, ◌^◌, Bool, true, false, nat_eq}
use Rattle.std.proofs.Common.{sym, ap, arith, inl, inr}
use Rattle.std.proofs.lemmas.Bool.{cases_eq, cases_lt, false≢true}
use Rattle.est_kernel.specs.Bits.{bits}
use Rattle.est_kernel.proofs.Masks.{bits_above, bits_zero, bits-suc}
use Rattle.est_relations.proofs.Members.{nat_same}
use Rattle.est_cover.specs.InputSets.{InputSet}
use Rattle.est_cover.specs.Inner.Parts.{HasPart, IsPart, IsNarrower}
use Rattle.est_cover.specs.declared.part.Part.{Part}

-- a bit of a mask is below its width
pub is_below : (x n : ℕ) → x < 2 ^ 64 → bits x n ≡ true → n < 64
is_below x n w h = elim (cases_lt n 64) [
  | inl l ↦ l
  | inr g ↦ absurd (false≢true (sym (bits_above x n w g) ∙ h))
]

-- the lowest bits
low_bit : (x y : ℕ) → (bits y 0 ≡ true → bits x 0 ≡ true) → y % 2 ≤ x % 2
unfolding bits
low_bit x y h = elim (cases_eq (y % 2) 1) [
  | inl e ↦
      let a : y / 2 ^ 0 % 2 ≡ 1 = omega arith in
      let b : x / 2 ^ 0 % 2 ≡ 1 = nat_same (x / 2 ^ 0 % 2) 1 (h (ap (λ z. nat_eq z 1) a)) in
      omega arith
  | inr d ↦ omega arith
]

-- a mask with no other bits is not more
no_more : (k x y : ℕ) → x ≤ k → y ≤ k → ((n : ℕ) → bits y n ≡ true → bits x n ≡ true) → y ≤ x
no_more zero x y a b h = omega arith
no_more (suc k) x y a b h =
    let half : y / 2 ≤ x / 2 =
    no_more k (x / 2) (y / 2) (omega arith) (omega arith)
    (λ n t. sym (bits-suc x n) ∙ h (suc n) (bits-suc y n ∙ t)) in
    let low : y % 2 ≤ x % 2 = low_bit x y (h 0) in
    omega arith

-- a mask without one of its bits is less
pub is_fewer : (x y p : ℕ) → bits x p ≡ true → bits y p ≡ false → ((k : ℕ) → k ≢ p → bits y k ≡ bits x k) → y < x
is_fewer x y p h k other =
    let l : y ≤ x = no_more (x + y) x y (omega arith) (omega arith) within in
    elim (cases_eq y x) [
      | inl e ↦ absurd (false≢true (sym k ∙ rw e h))
      | inr d ↦ omega arith
    ] where
      within : (n : ℕ) → bits y n ≡ true → bits x n ≡ true
      within n t = elim (cases_eq n p) [
        | inl e ↦ absurd (false≢true (sym k ∙ rw e at t))
        | inr d ↦ sym (other n d) ∙ t
      ]

-- a set that has the part has the narrower one if it agrees on the signal
pub has_narrower : (p : ℕ) (b : Bool) (old new : Part) → IsNarrower p b old new → (set : InputSet)
    → HasPart old.unasked old.inputs set → set p ≡ b → HasPart new.unasked new.inputs set
has_narrower p b old new n set has is k h = elim (cases_eq k p) [
  | inl e ↦ rw e (is ∙ sym n.offered)
  | inr d ↦ has k (sym (n.unasked k d) ∙ h) ∙ sym (n.inputs k d)
]

-- and it has the part, if it has the narrower one
pub has_wider : (p : ℕ) (b : Bool) (old new : Part) → IsNarrower p b old new → bits old.unasked p ≡ true
    → (set : InputSet) → HasPart new.unasked new.inputs set → HasPart old.unasked old.inputs set
has_wider p b old new n here set has k h = elim (cases_eq k p) [
  | inl e ↦ absurd (false≢true (sym (rw e at h) ∙ here))
  | inr d ↦ has k (n.unasked k d ∙ h) ∙ n.inputs k d
]

-- what it says of the signal
pub narrower_is : (p : ℕ) (b : Bool) (old new : Part) → IsNarrower p b old new → (set : InputSet)
    → HasPart new.unasked new.inputs set → set p ≡ b
narrower_is p b old new n set has = has p n.known ∙ n.offered

-- nothing is known yet of any signal
pub part_begins : (may : ℕ → Bool) (unasked : ℕ) → bits unasked ≡ may → IsPart may unasked 0
part_begins may unasked e = record {
  unasked_offered = λ n h. rw (← e) h;
  offered = λ n h. absurd (false≢true (sym (bits_zero n) ∙ h));
  apart = λ n h. bits_zero n;
}
