-- Elements of lists that pass a test, or don't.
use Rattle.std.proofs.Common.{◌≡◌, ℕ, zero, suc, ◌+◌, List, [], ◌∷◌, ◌++◌, Bool, true, false, not, ◌||◌, ◌&&◌, cond}
use Rattle.std.proofs.Common.{Option, Some, None, option_map, refl, ap, sym, ◌∙◌}
use Rattle.std.proofs.lemmas.Bool.{false≢true, true≢false, or_right, or_left, or_parts}
use Rattle.std.proofs.lemmas.Option.{none-some, get_or_from_slice_get}
use Rattle.std.proofs.lemmas.List.Quantifiers.{position-Some}
use Rattle.std.specs.List.{find, list_any, position, slice_get, AllByRecursion}
use Rattle.std.specs.Option.{option_or}
use Rattle.std.specs.Str.{bytes_eq}
use Rattle.std.proofs.lemmas.Slice.Eq.{bytes_eq-Decides}
use Rattle.est_modules.proofs.Positions.{position_cons}
use Rattle.est_kernel.proofs.Masks.{or_true}

-- ---- tests

pub same_or : (b : Bool) → b ≡ (b || false)
same_or true = refl
same_or false = refl

pub or_turned : (a b : Bool) → (a || b) ≡ (b || a)
or_turned true true = refl
or_turned true false = refl
or_turned false true = refl
or_turned false false = refl

pub or_assoc : (a b c : Bool) → ((a || b) || c) ≡ (a || (b || c))
or_assoc true b c = refl
or_assoc false b c = refl

-- the second holds where the first doesn't
pub or_other : (b c : Bool) → b ≡ false → (b || c) ≡ true → c ≡ true
or_other true c h e = absurd (true≢false h)
or_other false c h e = e

-- the first holds where the second doesn't
pub or_first : (b c : Bool) → c ≡ false → (b || c) ≡ true → b ≡ true
or_first true c h e = refl
or_first false c h e = absurd (true≢false (sym e ∙ h))

-- the second doesn't hold where the first does
pub and_other : (b c : Bool) → b ≡ true → (b && c) ≡ false → c ≡ false
and_other true c h e = e
and_other false c h e = absurd (false≢true h)

-- each holds where the other does
pub same_tests : (a b : Bool) → (a ≡ true → b ≡ true) → (b ≡ true → a ≡ true) → a ≡ b
same_tests true b f g = sym (f refl)
same_tests false true f g = g refl
same_tests false false f g = refl

pub same_bytes : (xs ys : List ℕ) → bytes_eq xs ys ≡ true → xs ≡ ys
same_bytes xs ys h = (bytes_eq-Decides xs ys).0 h

pub equal_bytes : (xs : List ℕ) → bytes_eq xs xs ≡ true
equal_bytes xs = (bytes_eq-Decides xs xs).1 refl

-- ---- along lists

abbrev element : {A : Type 0} → A → Option A → A
element d None = d
element d (Some x) = x

pub some_same : {A : Type 0} (x y : A) → Some x ≡ Some y → x ≡ y
some_same x y e = ap (element x) e

pub none_at : {X : Type 0} (p : X → Bool) (xs : List X) (i : ℕ) (x : X) → list_any p xs ≡ false
    → slice_get xs i ≡ Some x → p x ≡ false
none_at p [] i x h e = absurd (none-some x e)
none_at p (y ∷ ys) zero x h e = ap p (sym (some_same y x e)) ∙ (or_parts (p y) (list_any p ys) h).0
none_at p (y ∷ ys) (suc i) x h e = none_at p ys i x (or_parts (p y) (list_any p ys) h).1 e

-- the element that is found passes
found_here : {X : Type 0} (p : X → Bool) (y x : X) (b : Bool) (o : Option X) → p y ≡ b → (o ≡ Some x → p x ≡ true)
    → cond b (Some y) o ≡ Some x → p x ≡ true
found_here p y x true o t rest e = ap p (sym (some_same y x e)) ∙ t
found_here p y x false o t rest e = rest e

pub found_passes : {X : Type 0} (p : X → Bool) (xs : List X) (x : X) → find p xs ≡ Some x → p x ≡ true
found_passes p [] x e = absurd (none-some x e)
found_passes p (y ∷ ys) x e = found_here p y x (p y) (find p ys) refl (found_passes p ys x) e

-- an element that one test finds fails a test that none passes
other_here : {X : Type 0} (q : X → Bool) (y x : X) (b : Bool) (o : Option X) → q y ≡ false → (o ≡ Some x → q x ≡ false)
    → cond b (Some y) o ≡ Some x → q x ≡ false
other_here q y x true o f rest e = ap q (sym (some_same y x e)) ∙ f
other_here q y x false o f rest e = rest e

pub other_fails : {X : Type 0} (p q : X → Bool) (xs : List X) (x : X) → list_any q xs ≡ false → find p xs ≡ Some x
    → q x ≡ false
other_fails p q [] x h e = absurd (none-some x e)
other_fails p q (y ∷ ys) x h e =
    let parts = or_parts (q y) (list_any q ys) h in
    other_here q y x (p y) (find p ys) parts.0 (other_fails p q ys x parts.1) e

-- where none is found, none passes
none_here : {X : Type 0} (y : X) (b : Bool) (o : Option X) (c : Bool) → (o ≡ None → c ≡ false)
    → cond b (Some y) o ≡ None → (b || c) ≡ false
none_here y true o c rest e = absurd (none-some y (sym e))
none_here y false o c rest e = rest e

pub none_found : {X : Type 0} (p : X → Bool) (xs : List X) → find p xs ≡ None → list_any p xs ≡ false
none_found p [] e = refl
none_found p (y ∷ ys) e = none_here y (p y) (find p ys) (list_any p ys) (none_found p ys) e

no_place_here : (b c : Bool) (o : Option ℕ) → (o ≡ None → c ≡ false)
    → cond b (Some 0) (option_map (λ i. i + 1) o) ≡ None → (b || c) ≡ false
no_place_here true c o rest e = absurd (none-some 0 (sym e))
no_place_here false c None rest e = rest refl
no_place_here false c (Some i) rest e = absurd (none-some (i + 1) (sym e))

-- where there is no place, none passes, and conversely
pub no_place : {X : Type 0} (p : X → Bool) (xs : List X) → position p xs ≡ None → list_any p xs ≡ false
no_place p [] e = refl
no_place p (y ∷ ys) e = no_place_here (p y) (list_any p ys) (position p ys) (no_place p ys)
    (sym (position_cons p y ys) ∙ e)

pub none_has_place : {X : Type 0} (p : X → Bool) (xs : List X) → list_any p xs ≡ false → position p xs ≡ None
none_has_place p [] h = refl
none_has_place p (y ∷ ys) h =
    let parts = or_parts (p y) (list_any p ys) h in
    position_cons p y ys ∙ ap (λ b. cond b (Some 0) (option_map (λ i. i + 1) (position p ys))) parts.0
    ∙ ap (option_map (λ i. i + 1)) (none_has_place p ys parts.1)

-- the element at the place passes
pub place_passes : {X : Type 0} (p : X → Bool) (xs : List X) (i : ℕ) (x : X) → position p xs ≡ Some i
    → slice_get xs i ≡ Some x → p x ≡ true
place_passes p xs i x at_i e = ap p (sym (get_or_from_slice_get xs i x x e)) ∙ (position-Some p xs i x at_i).1

-- ---- options

pub or_none_parts : {A : Type 0} (a b : Option A) → option_or a b ≡ None → (a ≡ None) × (b ≡ None)
or_none_parts None b h = (refl, h)
or_none_parts (Some x) b h = absurd (none-some x (sym h))

pub map_none : {A B : Type 0} (f : A → B) (o : Option A) → option_map f o ≡ None → o ≡ None
map_none f None h = refl
map_none f (Some x) h = absurd (none-some (f x) (sym h))

-- ---- properties of all elements

pub all_parts : {X : Type 0} (P : X → Type 0) (xs ys : List X) → AllByRecursion P (xs ++ ys)
    → AllByRecursion P xs × AllByRecursion P ys
all_parts P [] ys h = (tt, h)
all_parts P (x ∷ xs) ys h =
    let parts = all_parts P xs ys h.1 in
    ((h.0, parts.0), parts.1)
