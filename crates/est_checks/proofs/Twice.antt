-- Names that renamings have on the right, and those that more than one has there.
use Rattle.std.proofs.Common.{◌≡◌, ◌||◌, ℕ, ◌+◌, ◌<◌, List, length, filter, take, get_or, nat_lt, Bool, true, false}
use Rattle.std.proofs.Common.{cond, refl, ap, sym, ◌∙◌, arith}
use Rattle.std.proofs.lemmas.Bool.Decides.{nat_tests}
use Rattle.std.proofs.lemmas.List.Filters.{length-filter_more}
use Rattle.std.specs.Str.{bytes_eq}
use Rattle.est_syntax.specs.declared.tree.Renaming.{Renaming}
use Rattle.est_modules.proofs.Testing.{same_bytes}

-- how many of the first renamings have the name on the right
abbrev pub right_names : List Renaming → ℕ → List ℕ → ℕ
right_names rs k s = length (filter (λ (r : Renaming). bytes_eq r.inner s) (take k rs))

one_more : (rs : List Renaming) (k : ℕ) (r : Renaming) (s : List ℕ) → r ≡ get_or rs k r → k < length rs
    → right_names rs (k + 1) s ≡ right_names rs k s + cond (bytes_eq r.inner s) 1 0
one_more rs k r s at room =
    length-filter_more (λ (r : Renaming). bytes_eq r.inner s) rs k r room
    ∙ ap (λ (q : Renaming). right_names rs k s + cond (bytes_eq q.inner s) 1 0) (sym at)

first_so : (n : ℕ) (b : Bool) → (nat_lt 0 n || b) ≡ nat_lt 0 (n + cond b 1 0)
first_so n true = grind (arith, nat_tests)
first_so n false = grind (arith, nat_tests)

-- one more renaming has the name
pub named_once : (rs : List Renaming) (k : ℕ) (r : Renaming) (s : List ℕ) → r ≡ get_or rs k r → k < length rs
    → (nat_lt 0 (right_names rs k s) || bytes_eq r.inner s) ≡ nat_lt 0 (right_names rs (k + 1) s)
named_once rs k r s at room =
    first_so (right_names rs k s) (bytes_eq r.inner s) ∙ ap (nat_lt 0) (sym (one_more rs k r s at room))

new_so : (n : ℕ) (b : Bool) → (b ≡ true → nat_lt 0 n ≡ false) → nat_lt 1 n ≡ nat_lt 1 (n + cond b 1 0)
new_so n true none = let z = none refl in grind (arith, nat_tests)
new_so n false none = grind (arith, nat_tests)

-- a name that no renaming had
pub named_new : (rs : List Renaming) (k : ℕ) (r : Renaming) (s : List ℕ) → r ≡ get_or rs k r → k < length rs
    → nat_lt 0 (right_names rs k r.inner) ≡ false
    → nat_lt 1 (right_names rs k s) ≡ nat_lt 1 (right_names rs (k + 1) s)
named_new rs k r s at room none =
    new_so (right_names rs k s) (bytes_eq r.inner s)
    (λ same. ap (λ n. nat_lt 0 (right_names rs k n)) (sym (same_bytes r.inner s same)) ∙ none)
    ∙ ap (nat_lt 1) (sym (one_more rs k r s at room))

again_so : (n : ℕ) (b : Bool) → (b ≡ true → nat_lt 0 n ≡ true) → (nat_lt 1 n || b) ≡ nat_lt 1 (n + cond b 1 0)
again_so n true some = let z = some refl in grind (arith, nat_tests)
again_so n false some = grind (arith, nat_tests)

-- a name that a renaming had
pub named_again : (rs : List Renaming) (k : ℕ) (r : Renaming) (s : List ℕ) → r ≡ get_or rs k r → k < length rs
    → nat_lt 0 (right_names rs k r.inner) ≡ true
    → (nat_lt 1 (right_names rs k s) || bytes_eq r.inner s) ≡ nat_lt 1 (right_names rs (k + 1) s)
named_again rs k r s at room some =
    again_so (right_names rs k s) (bytes_eq r.inner s)
    (λ same. ap (λ n. nat_lt 0 (right_names rs k n)) (sym (same_bytes r.inner s same)) ∙ some)
    ∙ ap (nat_lt 1) (sym (one_more rs k r s at room))
