-- One step of a loop over a list: what it has looked at so far, and what is left.
use Rattle.std.proofs.Common.{◌≡◌, ◌||◌, ℕ, ◌+◌, ◌<◌, List, [], ◌∷◌, ◌++◌, length, get_or, map, take, drop, filter}
use Rattle.std.proofs.Common.{Option, Some, None, option_map, Bool, true, false, cond, refl, ap, sym, ◌∙◌, arith}
use Rattle.std.proofs.lemmas.List.{append-nil, at_drop_more, map_more}
use Rattle.std.proofs.lemmas.List.Elements.{filter-append}
use Rattle.std.specs.List.{find, list_any, position}
use Rattle.est_modules.proofs.Positions.{position_cons}

-- ---- the first element that passes

find_next : {X : Type 0} (p : X → Bool) (xs : List X) (i : ℕ) (x : X) → i < length xs → x ≡ get_or xs i x
    → (b : Bool) → p x ≡ b → find p (drop i xs) ≡ cond b (Some x) (find p (drop (i + 1) xs))
find_next p xs i x room is b e =
    let behind = find p (drop (i + 1) xs) in
    at_drop_more (find p) xs i x room ∙ ap (λ y. cond (p y) (Some y) behind) (sym is)
    ∙ ap (λ c. cond c (Some x) behind) e

-- the next element passes
pub found_next : {X : Type 0} (p : X → Bool) (xs : List X) (i : ℕ) (x : X) → i < length xs → x ≡ get_or xs i x
    → p x ≡ true → find p (drop i xs) ≡ Some x
found_next p xs i x room is = find_next p xs i x room is true

-- it doesn't
pub found_later : {X : Type 0} (p : X → Bool) (xs : List X) (i : ℕ) (x : X) → i < length xs → x ≡ get_or xs i x
    → p x ≡ false → find p (drop i xs) ≡ find p (drop (i + 1) xs)
found_later p xs i x room is = find_next p xs i x room is false

-- ---- whether an element passes

pub any_from : {X : Type 0} (p : X → Bool) (xs : List X) (i : ℕ) (x : X) → i < length xs → x ≡ get_or xs i x
    → (b : Bool) → p x ≡ b → list_any p (drop i xs) ≡ (b || list_any p (drop (i + 1) xs))
any_from p xs i x room is b e =
    let behind = list_any p (drop (i + 1) xs) in
    at_drop_more (list_any p) xs i x room ∙ ap (λ y. p y || behind) (sym is) ∙ ap (λ c. c || behind) e

-- ---- the place of the first element that passes

-- a place among the rest of a list, in the whole list
abbrev pub place_from : ℕ → Option ℕ → Option ℕ
place_from i = option_map (λ k. k + i)

pub place_in_all : (o : Option ℕ) → place_from 0 o ≡ o
place_in_all None = refl
place_in_all (Some k) = ap Some (omega arith)

here_or_behind : (b : Bool) (i : ℕ) (o : Option ℕ)
    → place_from i (cond b (Some 0) (option_map (λ k. k + 1) o)) ≡ cond b (Some i) (place_from (i + 1) o)
here_or_behind true i o = ap Some (omega arith)
here_or_behind false i None = refl
here_or_behind false i (Some k) = ap Some (omega arith)

pub place_next : {X : Type 0} (p : X → Bool) (xs : List X) (i : ℕ) (x : X) → i < length xs → x ≡ get_or xs i x
    → (b : Bool) → p x ≡ b
    → place_from i (position p (drop i xs)) ≡ cond b (Some i) (place_from (i + 1) (position p (drop (i + 1) xs)))
place_next p xs i x room is b e =
    let behind = option_map (λ (k : ℕ). k + 1) (position p (drop (i + 1) xs)) in
    ap (place_from i)
    (at_drop_more (position p) xs i x room ∙ position_cons p (get_or xs i x) (drop (i + 1) xs)
    ∙ ap (λ y. cond (p y) (Some 0) behind) (sym is) ∙ ap (λ c. cond c (Some 0) behind) e)
    ∙ here_or_behind b i (position p (drop (i + 1) xs))

-- ---- names that are put into a list

-- each of them
pub mapped_next : {X Y : Type 0} (f : X → Y) (xs : List X) (i : ℕ) (x : X) → i < length xs → x ≡ get_or xs i x
    → map f (take i xs) ++ f x ∷ [] ≡ map f (take (i + 1) xs)
mapped_next f xs i x room is = ap (λ y. map f (take i xs) ++ f y ∷ []) is ∙ sym (map_more f xs i x room)

-- those that pass
filtered_next : {X Y : Type 0} (p : Y → Bool) (f : X → Y) (xs : List X) (i : ℕ) (x : X) → i < length xs
    → x ≡ get_or xs i x → (b : Bool) → p (f x) ≡ b
    → filter p (map f (take i xs)) ++ cond b (f x ∷ []) [] ≡ filter p (map f (take (i + 1) xs))
filtered_next p f xs i x room is b e =
    let before = map f (take i xs) in
    ap (λ c. filter p before ++ cond c (f x ∷ []) []) (sym e)
    ∙ sym (filter-append p before (f x ∷ []))
    ∙ ap (filter p) (mapped_next f xs i x room is)

pub filtered_in : {X Y : Type 0} (p : Y → Bool) (f : X → Y) (xs : List X) (i : ℕ) (x : X) → i < length xs
    → x ≡ get_or xs i x → p (f x) ≡ true
    → filter p (map f (take i xs)) ++ f x ∷ [] ≡ filter p (map f (take (i + 1) xs))
filtered_in p f xs i x room is = filtered_next p f xs i x room is true

pub filtered_out : {X Y : Type 0} (p : Y → Bool) (f : X → Y) (xs : List X) (i : ℕ) (x : X) → i < length xs
    → x ≡ get_or xs i x → p (f x) ≡ false
    → filter p (map f (take i xs)) ≡ filter p (map f (take (i + 1) xs))
filtered_out p f xs i x room is e =
    sym (append-nil (filter p (map f (take i xs)))) ∙ filtered_next p f xs i x room is false e
