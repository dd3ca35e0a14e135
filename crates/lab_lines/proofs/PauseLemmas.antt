-- Walking the numbers of pauses in order.
use Rattle.std.proofs.Common.{◌≡◌, ◌∙◌, ℕ, zero, suc, ◌+◌, ◌||◌, Bool, true, false, List, [], ◌∷◌, ◌++◌, refl, ap, sym}
use Rattle.std.proofs.Common.{add-one, append-nil, arith}
use Rattle.est_kernel.specs.Pauses.{pauses_of, some_from}
use Rattle.est_kernel.specs.declared.pause_set.PauseSet.{PauseSet}
use Rattle.lab_lines.specs.TableJson.{pauses_below}

-- no pause has a number below 0
pub none_below : (s : PauseSet) → pauses_below s 0 ≡ []
unfolding pauses_below
none_below s = refl

-- a pause that is in the set is told after those before it
one_pause : (s : PauseSet) (n : ℕ) → pauses_of s n ≡ true → pauses_below s n ++ n ∷ [] ≡ pauses_below s (n + 1)
unfolding pauses_below
one_pause s n on = rw (add-one, pauses_below, on) refl

-- one that is not is passed over
no_pause : (s : PauseSet) (n : ℕ) → pauses_of s n ≡ false → pauses_below s n ≡ pauses_below s (n + 1)
unfolding pauses_below
no_pause s n off = rw (add-one, pauses_below, off, append-nil (pauses_below s n)) refl

first_is_not : (a b : Bool) → a || b ≡ false → a ≡ false
first_is_not true b h = h
first_is_not false b h = refl

later_is_not : (a b : Bool) → a || b ≡ false → b ≡ false
later_is_not true b h = cc
later_is_not false b h = h

-- where none of some pauses is in the set, they are passed over
pub none_between : (s : PauseSet) (i n : ℕ) → some_from (pauses_of s) i n ≡ false
    → pauses_below s i ≡ pauses_below s (i + n)
none_between s i zero h = ap (pauses_below s) (omega arith)
none_between s i (suc n) h =
    let here = first_is_not (pauses_of s i) (some_from (pauses_of s) (i + 1) n) h in
    let later = later_is_not (pauses_of s i) (some_from (pauses_of s) (i + 1) n) h in
    no_pause s i here ∙ (none_between s (i + 1) n later ∙ ap (pauses_below s) (omega arith))

one_is : (a : Bool) → a || false ≡ true → a ≡ true
one_is true h = refl
one_is false h = h

-- where the one pause that is left is in the set, it is told
pub one_between : (s : PauseSet) (i n : ℕ) (xs ys : List ℕ) → n ≡ 1 → some_from (pauses_of s) i n ≡ true
    → xs ≡ pauses_below s i → ys ≡ xs ++ i ∷ [] → ys ≡ pauses_below s (i + n)
one_between s i n xs ys one h so grown =
    let some : some_from (pauses_of s) i 1 ≡ true = sym (ap (some_from (pauses_of s) i) one) ∙ h in
    grown ∙ (ap (λ (l : List ℕ). l ++ i ∷ []) so
    ∙ (one_pause s i (one_is (pauses_of s i) some) ∙ ap (λ (m : ℕ). pauses_below s (i + m)) (sym one)))
