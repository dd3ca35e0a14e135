-- What is found at places, one after another.
use Rattle.std.specs.Prelude.{◌≡◌, ◌<◌, ◌+◌, ℕ, zero, suc, List, [], ◌++◌, Option, None}
use Rattle.std.proofs.Common.{◌∙◌, refl, sym, ap, add-one, append-nil, append_assoc, arith}
use Rattle.lab_instant.specs.Seen.{found_below, listed}

-- nothing is found below 0
pub none_found : {A : Type 0} (f : ℕ → Option A) → found_below f 0 ≡ []
unfolding found_below
none_found f = refl

-- what is found at one more place
pub one_found : {A : Type 0} (f : ℕ → Option A) (n : ℕ) → found_below f (suc n) ≡ found_below f n ++ listed (f n)
unfolding found_below
one_found f n = refl

pub more_found : {A : Type 0} (f : ℕ → Option A) (n : ℕ) (xs ys zs : List A) (o : Option A) → o ≡ f n
    → ys ≡ xs ++ listed o → xs ≡ zs ++ found_below f n → ys ≡ zs ++ found_below f (n + 1)
unfolding found_below
more_found f n xs ys zs o is grown so =
    rw (grown, so, is, add-one, found_below) (append_assoc zs (found_below f n) (listed (f n)))

-- what is found at m places and at n more
pub found_later : {A : Type 0} (f : ℕ → Option A) (m n : ℕ)
    → found_below f (m + n) ≡ found_below f m ++ found_below (λ x. f (m + x)) n
found_later f m zero =
    ap (found_below f) (omega arith) ∙ (sym (append-nil (found_below f m))
    ∙ ap (λ (l : List _). found_below f m ++ l) (sym (none_found (λ x. f (m + x)))))
found_later f m (suc n) =
    let all = found_below f m in
    let later = found_below (λ x. f (m + x)) n in
    let next : m + suc n ≡ suc (m + n) = omega arith in
    ap (found_below f) next ∙ (one_found f (m + n)
    ∙ (ap (λ (l : List _). l ++ listed (f (m + n))) (found_later f m n)
    ∙ (append_assoc all later (listed (f (m + n)))
    ∙ ap (λ (l : List _). all ++ l) (sym (one_found (λ x. f (m + x)) n)))))

-- nothing is found where nothing is
pub nothing_found : {A : Type 0} (f : ℕ → Option A) (n : ℕ) → ((x : ℕ) → x < n → f x ≡ None) → found_below f n ≡ []
nothing_found f zero h = none_found f
nothing_found f (suc n) h =
    one_found f n ∙ (ap (λ (l : List _). l ++ listed (f n)) (nothing_found f n (λ x l. h x (omega arith)))
    ∙ ap (λ (o : Option _). listed o) (h n (omega arith)))
