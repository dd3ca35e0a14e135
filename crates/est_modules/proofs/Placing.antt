-- First places of names in lists.
use Rattle.std.proofs.Common.{◌≡◌, ℕ, suc, ◌+◌, List, [], ◌∷◌, ◌++◌, length, map, Bool, true, false, cond, Option, Some}
use Rattle.std.proofs.Common.{None, option_map, ◌||◌, ◌<◌, ◌≤◌, Bor, refl, ap, sym, ◌∙◌, arith}
use Rattle.std.proofs.lemmas.Option.{none-some, slice_get_past, slice_get_read}
use Rattle.std.specs.List.{find, list_any, position, slice_get, HoldsAt}
use Rattle.std.specs.Prelude.{is_some}
use Rattle.std.specs.Option.{option_or, MatchOption}
use Rattle.std.specs.Str.{bytes_eq}
use Rattle.est_modules.specs.FirstPlaces.{first_place, AreFirstPlaces}
use Rattle.est_modules.specs.declared.names.table.FirstPlaces.{FirstPlaces}
use Rattle.est_modules.proofs.Positions.{position_cons, position_map}
use Rattle.est_modules.proofs.Testing.{same_bytes, some_same}

-- ---- the place of an element that passes, in a list with one more

place_or : (b : Bool) (o : Option ℕ) (c : Bool) (n : ℕ)
    → cond b (Some 0) (option_map (λ i. i + 1) (option_or o (cond c (Some n) None)))
    ≡ option_or (cond b (Some 0) (option_map (λ i. i + 1) o)) (cond c (Some (suc n)) None)
place_or true o c n = refl
place_or false (Some i) c n = refl
place_or false None true n = ap Some (omega arith)
place_or false None false n = refl

place_more : {X : Type 0} (p : X → Bool) (xs : List X) (x : X)
    → position p (xs ++ x ∷ []) ≡ option_or (position p xs) (cond (p x) (Some (length xs)) None)
place_more p [] x = position_cons p x []
place_more p (y ∷ ys) x =
    position_cons p y (ys ++ x ∷ [])
    ∙ ap (λ (o : Option ℕ). cond (p y) (Some 0) (option_map (λ i. i + 1) o)) (place_more p ys x)
    ∙ place_or (p y) (position p ys) (p x) (length ys)
    ∙ sym (ap (λ (o : Option ℕ). option_or o (cond (p x) (Some (suc (length ys))) None)) (position_cons p y ys))

-- ---- one more name

or_none : (o : Option ℕ) → option_or o None ≡ o
or_none None = refl
or_none (Some i) = refl

placed_new : (t : FirstPlaces) (names : List (List ℕ)) (n u : List ℕ) (b : Bool) → bytes_eq n u ≡ b
    → AreFirstPlaces t names → first_place t n ≡ None
    → cond b (Some (length names)) (first_place t u)
    ≡ option_or (position (λ m. bytes_eq m u) names) (cond b (Some (length names)) None)
placed_new t names n u true same are none =
    sym (ap (λ (o : Option ℕ). option_or o (Some (length names)))
    (sym (are u) ∙ ap (first_place t) (sym (same_bytes n u same)) ∙ none))
placed_new t names n u false other are none = are u ∙ sym (or_none (position (λ m. bytes_eq m u) names))

-- a name that had no place, in a table that has it now
pub placed_more : (t : FirstPlaces) (names : List (List ℕ)) (n : List ℕ) (place : ℕ) → AreFirstPlaces t names
    → place ≡ length names → first_place t n ≡ None → (u : List ℕ) (o : Option ℕ)
    → o ≡ cond (bytes_eq n u) (Some place) (first_place t u) → o ≡ position (λ m. bytes_eq m u) (names ++ n ∷ [])
placed_more t names n place are at none u o updates =
    updates
    ∙ ap (λ (i : ℕ). cond (bytes_eq n u) (Some i) (first_place t u)) at
    ∙ placed_new t names n u (bytes_eq n u) refl are none
    ∙ sym (place_more (λ m. bytes_eq m u) names n)

placed_old : (t : FirstPlaces) (names : List (List ℕ)) (n u : List ℕ) (i : ℕ) (b : Bool) → bytes_eq n u ≡ b
    → AreFirstPlaces t names → first_place t n ≡ Some i
    → first_place t u ≡ option_or (position (λ m. bytes_eq m u) names) (cond b (Some (length names)) None)
placed_old t names n u i true same are has =
    let at : first_place t u ≡ Some i = ap (first_place t) (sym (same_bytes n u same)) ∙ has in
    at ∙ sym (ap (λ (o : Option ℕ). option_or o (Some (length names))) (sym (are u) ∙ at))
placed_old t names n u i false other are has = are u ∙ sym (or_none (position (λ m. bytes_eq m u) names))

-- a name that had one
placed_again : (t : FirstPlaces) (names : List (List ℕ)) (n : List ℕ) (i : ℕ) → AreFirstPlaces t names
    → first_place t n ≡ Some i → AreFirstPlaces t (names ++ n ∷ [])
placed_again t names n i are has u =
    placed_old t names n u i (bytes_eq n u) refl are has ∙ sym (place_more (λ m. bytes_eq m u) names n)

put_back : (t : FirstPlaces) (n u : List ℕ) (i place : ℕ) (b : Bool) → bytes_eq n u ≡ b → first_place t n ≡ Some i
    → cond b (Some i) (cond b (Some place) (first_place t u)) ≡ first_place t u
put_back t n u i place true same has = sym (ap (first_place t) (sym (same_bytes n u same)) ∙ has)
put_back t n u i place false other has = refl

-- a name that is there, whose place was changed and put back
pub placed_back : (t : FirstPlaces) (names : List (List ℕ)) (n : List ℕ) (i place : ℕ) → AreFirstPlaces t names
    → first_place t n ≡ Some i → (u : List ℕ) (o : Option ℕ)
    → o ≡ cond (bytes_eq n u) (Some i) (cond (bytes_eq n u) (Some place) (first_place t u))
    → o ≡ position (λ m. bytes_eq m u) (names ++ n ∷ [])
placed_back t names n i place are has u o updates =
    updates ∙ put_back t n u i place (bytes_eq n u) refl has ∙ placed_again t names n i are has u

-- ---- elements of these names

-- the place of a name is that of the element of this name
pub place_is : {X : Type 0} (name : X → List ℕ) (t : FirstPlaces) (xs : List X) (s : List ℕ)
    → AreFirstPlaces t (map name xs) → first_place t s ≡ position (λ (x : X). bytes_eq (name x) s) xs
place_is name t xs s are = are s ∙ position_map (λ n. bytes_eq n s) name xs

get_next : {X : Type 0} (x : X) (xs : List X) (i j : ℕ) → j ≡ suc i → slice_get (x ∷ xs) j ≡ slice_get xs i
get_next x xs i j e = ap (slice_get (x ∷ xs)) e

got_here : {X : Type 0} (p : X → Bool) (y : X) (ys : List X) (b : Bool) (o : Option ℕ)
    → ((i : ℕ) → o ≡ Some i → slice_get ys i ≡ find p ys) → (i : ℕ)
    → cond b (Some 0) (option_map (λ i. i + 1) o) ≡ Some i → slice_get (y ∷ ys) i ≡ cond b (Some y) (find p ys)
got_here p y ys true o rest i e = ap (slice_get (y ∷ ys)) (sym (some_same 0 i e))
got_here p y ys false None rest i e = absurd (none-some i e)
got_here p y ys false (Some j) rest i e =
    let next : i ≡ suc j = omega (arith, some_same (j + 1) i e) in
    get_next y ys j i next ∙ rest j refl

-- what a slice answers for a place
pub got_there : {X : Type 0} (o : Option (Bor X)) (xs : List X) (i : ℕ)
    → MatchOption o (length xs ≤ i) (λ x. (i < length xs) × HoldsAt (λ y. x.now ≡ y) xs i)
    → option_map (λ x. x.now) o ≡ slice_get xs i
got_there None xs i past = sym (slice_get_past xs i past)
got_there (Some x) xs i there = sym (slice_get_read xs (length xs) i x.now refl there.0 (there.1 x.now))

-- what stands at the first place is what is found
pub got_found : {X : Type 0} (p : X → Bool) (xs : List X) (i : ℕ) → position p xs ≡ Some i
    → slice_get xs i ≡ find p xs
got_found p [] i e = absurd (none-some i e)
got_found p (y ∷ ys) i e =
    got_here p y ys (p y) (position p ys) (got_found p ys) i (sym (position_cons p y ys) ∙ e)

none_here : {X : Type 0} (y : X) (b : Bool) (o : Option ℕ) (f : Option X) → (o ≡ None → f ≡ None)
    → cond b (Some 0) (option_map (λ i. i + 1) o) ≡ None → cond b (Some y) f ≡ None
none_here y true o f rest e = absurd (none-some 0 (sym e))
none_here y false None f rest e = rest refl
none_here y false (Some i) f rest e = absurd (none-some (i + 1) (sym e))

-- where there is no place, nothing is found
pub none_got : {X : Type 0} (p : X → Bool) (xs : List X) → position p xs ≡ None → find p xs ≡ None
none_got p [] e = refl
none_got p (y ∷ ys) e =
    none_here y (p y) (position p ys) (find p ys) (none_got p ys) (sym (position_cons p y ys) ∙ e)

some_here : (b : Bool) (o : Option ℕ) → is_some (cond b (Some 0) (option_map (λ i. i + 1) o)) ≡ (b || is_some o)
some_here true o = refl
some_here false None = refl
some_here false (Some i) = refl

-- there is a place where an element passes
pub some_place : {X : Type 0} (p : X → Bool) (xs : List X) → is_some (position p xs) ≡ list_any p xs
some_place p [] = refl
some_place p (y ∷ ys) =
    ap is_some (position_cons p y ys) ∙ some_here (p y) (position p ys) ∙ ap (λ b. p y || b) (some_place p ys)
