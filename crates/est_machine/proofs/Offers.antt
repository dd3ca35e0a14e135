-- What is taken, where no signal is left over and no relation is broken.
use Rattle.std.proofs.Common.{◌≡◌, ◌∙◌, ◌+◌, ℕ, suc, Bool, true, false, not, ◌&&◌, nat_lt, cond, List, [], ◌∷◌}
use Rattle.std.proofs.Common.{length, None}
use Rattle.std.proofs.Common.{refl, sym, ap, arith}
use Rattle.std.specs.Prelude.{Some, position}
use Rattle.std.specs.List.{list_all, position_or_len}
use Rattle.std.proofs.lemmas.Bool.{false≢true}
use Rattle.std.proofs.lemmas.Bool.Decides.{nat_tests}
use Rattle.est_kernel.proofs.Masks.{bits_zero}
use Rattle.est_kernel.specs.Bits.{bits}
use Rattle.est_meaning.specs.Knowledge.{IsIn}

in_other : (a b : Bool) → a ≡ true → (a && not b) ≡ false → b ≡ true
in_other true true h e = refl
in_other true false h e = absurd (false≢true (sym e))
in_other false b h e = absurd (false≢true h)

-- where none is left over, each may be offered
pub are_inputs : (mask others : ℕ) (can : ℕ → Bool)
    → ((n : ℕ) → bits others n ≡ (bits mask n && not (can n))) → others ≡ 0 → IsIn (bits mask) can
are_inputs mask others can are none n h =
    in_other (bits mask n) (can n) h (sym (are n) ∙ (ap (λ k. bits k n) none ∙ bits_zero n))

none_is : (c : Bool) (n : ℕ) → cond c (Some n) None ≡ None → c ≡ false
none_is true n h = cc
none_is false n h = refl

next : (b rest : Bool) (at l : ℕ) → nat_lt (cond (not (not b)) (1 + at) 0) (suc l) ≡ false
    → (nat_lt at l ≡ false → rest ≡ true) → (b && rest) ≡ true
next true rest at l h go = go (grind (arith, nat_tests))
next false rest at l h go = grind (arith, nat_tests)

all_keep : {X : Type 0} (keep : X → Bool) (xs : List X)
    → nat_lt (position_or_len (λ x. not (keep x)) xs) (length xs) ≡ false → list_all keep xs ≡ true
all_keep keep [] h = refl
all_keep keep (y ∷ ys) h =
    next (keep y) (list_all keep ys) (position_or_len (λ x. not (keep x)) ys) (length ys) h (all_keep keep ys)

-- where there is no first that is broken, all are kept
pub all_kept : {X : Type 0} (keep : X → Bool) (xs : List X) → position (λ x. not (keep x)) xs ≡ None
    → list_all keep xs ≡ true
all_kept keep xs h = all_keep keep xs (none_is _ _ h)

-- what is left over without the signals of a mask is left over without those that it stands for
pub left_over : (mask may more : ℕ) (can : ℕ → Bool) → bits may ≡ can
    → ((n : ℕ) → bits more n ≡ (bits mask n && not (bits may n)))
    → (n : ℕ) → bits more n ≡ (bits mask n && not (can n))
left_over mask may more can is are n = are n ∙ ap (λ (f : ℕ → Bool). bits mask n && not (f n)) is
