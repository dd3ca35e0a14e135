-- Members by their places, and exclusions of them.
use Rattle.std.proofs.Common.{◌≡◌, ◌∙◌, ◌⊎◌, inl, inr, ℕ, Bool, true, false, not, ◌&&◌, ◌||◌, nat_eq, cond, List, []}
use Rattle.std.proofs.Common.{◌∷◌, map, Option, None, refl, sym, ap, option_map}
use Rattle.std.specs.Prelude.{Some}
use Rattle.std.specs.List.{find, list_any, list_all}
use Rattle.std.proofs.lemmas.Bool.{cases_eq, cases_Bool, eq-eqb, ne_eqb, false≢true, or_right, or_left}
use Rattle.est_kernel.specs.declared.statement.InterfaceSignal.{InterfaceSignal}
use Rattle.est_relations.specs.Keeping.{has_one_at_most}

-- the first place for which the test is true is that of the first signal for whose place it is
pub find_place : (p : ℕ → Bool) (xs : List InterfaceSignal)
    → option_map {T = InterfaceSignal} {U = ℕ} (λ s. s.index) (find (λ s. p s.index) xs)
    ≡ find p (map (λ s. s.index) xs)
find_place p [] = refl
find_place p (x ∷ xs) = at_head (p x.index) _ _ (find_place p xs) where
  at_head : (b : Bool) (o : Option InterfaceSignal) (q : Option ℕ)
      → option_map {T = InterfaceSignal} {U = ℕ} (λ s. s.index) o ≡ q
      → option_map {T = InterfaceSignal} {U = ℕ} (λ s. s.index) (cond b (Some x) o) ≡ cond b (Some x.index) q
  at_head true o q e = refl
  at_head false o q e = e

pub place_found : (p : ℕ → Bool) (xs : List InterfaceSignal) (o : Option InterfaceSignal) → o ≡ find (λ s. p s.index) xs
    → option_map {T = InterfaceSignal} {U = ℕ} (λ s. s.index) o ≡ find p (map (λ s. s.index) xs)
place_found p xs o h = rw h (find_place p xs)

-- a place is among the places of the signals where some signal has it
pub any_place : (p : ℕ → Bool) (xs : List InterfaceSignal)
    → list_any (λ s. p s.index) xs ≡ list_any p (map (λ s. s.index) xs)
any_place p [] = refl
any_place p (x ∷ xs) = ap (λ b. p x.index || b) (any_place p xs)

-- so for all
pub all_places : (p : ℕ → Bool) (xs : List InterfaceSignal)
    → list_all (λ s. p s.index) xs ≡ list_all p (map (λ s. s.index) xs)
all_places p [] = refl
all_places p (x ∷ xs) = ap (λ b. p x.index && b) (all_places p xs)

-- ---- all and any, by members

pub or_true : (a b : Bool) → (a || b) ≡ true → (a ≡ true) ⊎ (b ≡ true)
or_true true b h = inl refl
or_true false b h = inr h

pub nat_same : (m n : ℕ) → nat_eq m n ≡ true → m ≡ n
nat_same m n h = elim (cases_eq m n) [
  | inl e ↦ e
  | inr d ↦ absurd (false≢true (sym (ne_eqb m n d) ∙ h))
]

-- what holds of all holds of a member
pub all_at : (p : ℕ → Bool) (xs : List ℕ) (x : ℕ) → list_all p xs ≡ true → list_any (nat_eq x) xs ≡ true → p x ≡ true
all_at p [] x a h = absurd (false≢true h)
all_at p (y ∷ ys) x a h = elim (or_true (nat_eq x y) (list_any (nat_eq x) ys) h) [
  | inl e ↦ rw (nat_same x y e) (both_first (p y) (list_all p ys) a)
  | inr t ↦ all_at p ys x (both_second (p y) (list_all p ys) a) t
] where
  both_first : (a b : Bool) → (a && b) ≡ true → a ≡ true
  both_first true b h = refl
  both_first false b h = h

  both_second : (a b : Bool) → (a && b) ≡ true → b ≡ true
  both_second true b h = h
  both_second false b h = absurd (false≢true h)

-- what holds of each member holds of all
pub all_of : (p : ℕ → Bool) (xs : List ℕ) → ((x : ℕ) → list_any (nat_eq x) xs ≡ true → p x ≡ true)
    → list_all p xs ≡ true
all_of p [] h = refl
all_of p (y ∷ ys) h = both (p y) (list_all p ys)
    (h y (or_left (nat_eq y y) (list_any (nat_eq y) ys) (eq-eqb y y refl)))
    (all_of p ys (λ x m. h x (or_right (nat_eq x y) (list_any (nat_eq x) ys) m))) where
      both : (a b : Bool) → a ≡ true → b ≡ true → (a && b) ≡ true
      both true b e f = f
      both false b e f = e

-- ---- at most one is offered

pair : (x y e : Bool) → (x ≡ true → y ≡ true → e ≡ true) → (not (x && y) || e) ≡ true
pair true true e h = h refl refl
pair true false e h = refl
pair false y e h = refl

unpair : (x y e : Bool) → (not (x && y) || e) ≡ true → x ≡ true → y ≡ true → e ≡ true
unpair true true e h p q = h
unpair true false e h p q = absurd (false≢true q)
unpair false y e h p q = absurd (false≢true p)

-- any two members that are offered are one
pub one_means : (present : ℕ → Bool) (ms : List ℕ) → has_one_at_most present ms ≡ true
    → (a b : ℕ) → list_any (nat_eq a) ms ≡ true → list_any (nat_eq b) ms ≡ true → present a ≡ true → present b ≡ true
    → a ≡ b
unfolding has_one_at_most
one_means present ms h a b p q x y =
    nat_same a b (unpair (present a) (present b) (nat_eq a b) (all_at _ ms b (all_at _ ms a h p) q) x y)

pub one_where : (present : ℕ → Bool) (ms : List ℕ)
    → ((a b : ℕ) → list_any (nat_eq a) ms ≡ true → list_any (nat_eq b) ms ≡ true → present a ≡ true → present b ≡ true
    → a ≡ b)
    → has_one_at_most present ms ≡ true
unfolding has_one_at_most
one_where present ms h =
    all_of _ ms
    (λ a p. all_of _ ms (λ b q. pair (present a) (present b) (nat_eq a b) (λ x y. eq-eqb a b (h a b p q x y))))

-- ---- one more is offered

-- the first that is found is a member, and passes
pub found_is : (p : ℕ → Bool) (ms : List ℕ) (m : ℕ) → find p ms ≡ Some m
    → (list_any (nat_eq m) ms ≡ true) × (p m ≡ true)
found_is p [] m h = cc
found_is p (x ∷ xs) m h = at_head (p x) refl h (found_is p xs m) where
  at_head : (b : Bool) → p x ≡ b → cond b (Some x) (find p xs) ≡ Some m
      → (find p xs ≡ Some m → (list_any (nat_eq m) xs ≡ true) × (p m ≡ true))
      → ((nat_eq m x || list_any (nat_eq m) xs) ≡ true) × (p m ≡ true)
  at_head true e h later = let same : x ≡ m = cc in
      (rw (← same) (or_left (nat_eq x x) (list_any (nat_eq x) xs) (eq-eqb x x refl)), rw (← same) e)
  at_head false e h later = let rest = later h in (or_right (nat_eq m x) (list_any (nat_eq m) xs) rest.0, rest.1)

-- where none is found, no member passes
pub none_found : (p : ℕ → Bool) (ms : List ℕ) (m : ℕ) → find p ms ≡ None → list_any (nat_eq m) ms ≡ true → p m ≡ false
none_found p [] m h k = absurd (false≢true k)
none_found p (x ∷ xs) m h k = at_head (p x) refl h (none_found p xs m) where
  at_head : (b : Bool) → p x ≡ b → cond b (Some x) (find p xs) ≡ None
      → (find p xs ≡ None → list_any (nat_eq m) xs ≡ true → p m ≡ false) → p m ≡ false
  at_head true e h later = cc
  at_head false e h later = elim (or_true (nat_eq m x) (list_any (nat_eq m) xs) k) [
    | inl s ↦ rw (nat_same m x s) e
    | inr t ↦ later h t
  ]

-- a signal that is no member leaves an exclusion as it is
pub one_beside : (before after : ℕ → Bool) (ms : List ℕ) (s : ℕ) → ((n : ℕ) → after n ≡ (before n || nat_eq s n))
    → list_any (nat_eq s) ms ≡ false
    → has_one_at_most before ms ≡ true → has_one_at_most after ms ≡ true
one_beside before after ms s is out h = one_where after ms (λ a b p q x y.
    one_means before ms h a b p q (stays a p x) (stays b q y)) where
      stays : (n : ℕ) → list_any (nat_eq n) ms ≡ true → after n ≡ true → before n ≡ true
      stays n p x = elim (or_true (before n) (nat_eq s n) (sym (is n) ∙ x)) [
        | inl b ↦ b
        | inr e ↦ absurd (false≢true (sym out ∙ rw (nat_same s n e) p))
      ]

-- where no member is offered, one may come
pub one_alone : (before after : ℕ → Bool) (ms : List ℕ) (s : ℕ) → ((n : ℕ) → after n ≡ (before n || nat_eq s n))
    → find before ms ≡ None
    → has_one_at_most after ms ≡ true
one_alone before after ms s is none = one_where after ms (λ a b p q x y. sym (is_it a p x) ∙ is_it b q y) where
  is_it : (n : ℕ) → list_any (nat_eq n) ms ≡ true → after n ≡ true → s ≡ n
  is_it n p x = elim (or_true (before n) (nat_eq s n) (sym (is n) ∙ x)) [
    | inl b ↦ absurd (false≢true (sym (none_found before ms n none p) ∙ b))
    | inr e ↦ nat_same s n e
  ]

-- where a member is offered, another may not come
pub not_two : (before after : ℕ → Bool) (ms : List ℕ) (s m : ℕ) → ((n : ℕ) → after n ≡ (before n || nat_eq s n))
    → before s ≡ false
    → list_any (nat_eq s) ms ≡ true → find before ms ≡ Some m → has_one_at_most after ms ≡ false
not_two before after ms s m is new in_it found = elim (cases_Bool (has_one_at_most after ms)) [
  | inl t ↦
      let other = found_is before ms m found in
      let same : s ≡ m = one_means after ms t s m in_it other.0
      (is s ∙ or_right (before s) (nat_eq s s) (eq-eqb s s refl)) (is m ∙ or_left (before m) (nat_eq s m) other.1) in
      absurd (false≢true (sym new ∙ rw same other.1))
  | inr f ↦ f
]
