-- Places of elements in lists.
use Rattle.std.proofs.Common.{◌≡◌, ℕ, suc, ◌+◌, List, [], ◌∷◌, length, map, Bool, true, false, not, cond, nat_lt}
use Rattle.std.proofs.Common.{Option, Some, None, option_map, refl, ap, sym, ◌∙◌, arith}
use Rattle.std.specs.List.{position, position_or_len}
use Rattle.std.proofs.lemmas.Bool.Decides.{nat_tests}

moved : (n m : ℕ) (a b : Bool) → nat_lt n m ≡ a → nat_lt (1 + n) (suc m) ≡ b
    → cond {A = Option ℕ} b (Some (1 + n)) None ≡ option_map (λ i. i + 1) (cond a (Some n) None)
moved n m true true d e = ap Some (omega arith)
moved n m false false d e = refl
moved n m true false d e = absurd (grind (arith, nat_tests))
moved n m false true d e = absurd (grind (arith, nat_tests))

first_place : (m : ℕ) (b : Bool) → nat_lt 0 (suc m) ≡ b → cond {A = Option ℕ} b (Some 0) None ≡ Some 0
first_place m true e = refl
first_place m false e = absurd (grind (arith, nat_tests))

here_or_later : (b : Bool) (n m : ℕ) → cond (nat_lt (cond {A = ℕ} (not b) (1 + n) 0) (suc m))
    (Some (cond {A = ℕ} (not b) (1 + n) 0)) None ≡ cond {A = Option ℕ} b (Some 0)
    (option_map (λ i. i + 1) (cond (nat_lt n m) (Some n) None))
here_or_later true n m = first_place m (nat_lt 0 (suc m)) refl
here_or_later false n m = moved n m (nat_lt n m) (nat_lt (1 + n) (suc m)) refl refl

pub position_cons : {X : Type 0} (p : X → Bool) (x : X) (xs : List X)
    → position p (x ∷ xs) ≡ cond (p x) (Some 0) (option_map (λ i. i + 1) (position p xs))
position_cons p x xs = here_or_later (p x) (position_or_len p xs) (length xs)

pub position_map : {X Y : Type 0} (p : Y → Bool) (f : X → Y) (xs : List X)
    → position p (map f xs) ≡ position (λ x. p (f x)) xs
position_map p f [] = refl
position_map p f (x ∷ xs) =
    position_cons p (f x) (map f xs) ∙ ap (λ (o : Option ℕ). cond (p (f x)) (Some 0) (option_map (λ i. i + 1) o))
    (position_map p f xs) ∙ sym (position_cons (λ x. p (f x)) x xs)
