-- Receipts that rise, one by one.
use Rattle.std.proofs.Common.{◌≡◌, ℕ, zero, suc, ◌+◌, ◌<◌, get_or, List, [], ◌∷◌, ◌++◌, length, take, refl, sym, ap}
use Rattle.std.proofs.Common.{◌∙◌, subst, Some, None, arith, append-nil, append_assoc}
use Rattle.std.specs.Prelude.{Option, slice_get}
use Rattle.std.proofs.lemmas.Option.{slice_get_within}
use Rattle.history_receipts.specs.declared.receipt.Kept.{Kept}
use Rattle.history_merge.specs.Order.{Rises}
use Rattle.history_merge.specs.Mismatches.{Breaks}

pub get_is : {A : Type 0} (xs : List A) (n : ℕ) (x : A) → n < length xs → x ≡ get_or xs n x → slice_get xs n ≡ Some x
get_is [] n x h e = absurd (omega arith)
get_is (y ∷ xs) zero x h e = ap Some (sym e)
get_is (y ∷ xs) (suc n) x h e = get_is xs n x (omega arith) e

-- after the first n receipts the version and the number are these
pub record Risen (ks : List Kept) (n version : ℕ) (number : Option ℕ) : Type 0 where
  pub goes : (xs : List Kept) → Rises version number xs → Rises 0 None (take n ks ++ xs)
  pub comes : (xs : List Kept) → Rises 0 None (take n ks ++ xs) → Rises version number xs

pub take_one : {A : Type 0} (k : ℕ) (xs : List A) (x : A) → slice_get xs k ≡ Some x
    → take (k + 1) xs ≡ take k xs ++ x ∷ []
take_one k [] x h = absurd cc
take_one zero (y ∷ xs) x h = ap (λ z. z ∷ []) (cc (h))
take_one (suc k) (y ∷ xs) x h =
    let n : suc k + 1 ≡ suc (k + 1) = omega arith in
    rw n (ap (λ z. y ∷ z) (take_one k xs x h))

take_whole : {A : Type 0} (xs : List A) → take (length xs) xs ≡ xs
take_whole [] = refl
take_whole (x ∷ xs) = ap (λ zs. x ∷ zs) (take_whole xs)

pub risen_all : (ks : List Kept) (version : ℕ) (number : Option ℕ) → Risen ks (length ks) version number
    → Rises 0 None ks
risen_all ks version number r = subst (Rises 0 None) (append-nil (take (length ks) ks) ∙ take_whole ks) (r.goes [] tt)

pub risen_breaks : (ks : List Kept) (n version : ℕ) (number : Option ℕ) (k : Kept) → slice_get ks n ≡ Some k
    → (Rises version number (k ∷ []) → ⊥) → Risen ks n version number → Breaks ks n
risen_breaks ks n version number k here not r = record {
  below = slice_get_within ks n k here;
  before = subst (Rises 0 None) (append-nil (take n ks)) (r.goes [] tt);
  not = λ h. not (r.comes (k ∷ []) (subst (Rises 0 None) (take_one n ks k here) h));
}
