-- Walking the places of an interface in order.
use Rattle.std.proofs.Common.{◌≡◌, ◌≢◌, ◌↔◌, ⊎_elim, ℕ, zero, suc, ◌+◌, ◌<◌, Bool, true, false, cond, IsTrue, List, []}
use Rattle.std.proofs.Common.{◌∷◌, ◌++◌, length, map, filter, Some, slice_get, option_map, get_or, sym, ap, ◌∙◌, subst}
use Rattle.std.proofs.Common.{refl, arith, append-nil}
use Rattle.std.specs.List.{range_with_len}
use Rattle.std.proofs.lemmas.List.{map-id, map-append}
use Rattle.std.proofs.lemmas.List.FromFn.{filter_of_map_range_with_len_more}
use Rattle.std.proofs.lemmas.Option.{get_or_from_slice_get, slice_get-map, slice_get-get_or}
use Rattle.std.proofs.lemmas.Bool.{cases_eq}
use Rattle.est_kernel.specs.declared.interface.Declaration.{Declaration}
use Rattle.est_kernel.specs.Bits.{bits}
use Rattle.access_core.specs.declared.reply.ShownSignal.{ShownSignal}
use Rattle.access_core.specs.Shown.{name_at, present_at}

-- the places below n + 1 for which the test holds
filter_more : (p : ℕ → Bool) (n : ℕ) → filter p (range_with_len 0 (n + 1)) ≡ filter p (range_with_len 0 n)
    ++ cond (p n) (n ∷ []) []
filter_more p n =
    ap (filter p) (sym (map-id (range_with_len 0 (n + 1))))
    ∙ filter_of_map_range_with_len_more p (λ x. x) 0 n n (omega arith)
    ∙ ap (λ xs. filter p xs ++ cond (p n) (n ∷ []) []) (map-id (range_with_len 0 n))

-- a place that is kept
pub kept_place : {X : Type 0} (f : ℕ → X) (p : ℕ → Bool) (n : ℕ) → p n ≡ true
    → map f (filter p (range_with_len 0 (n + 1))) ≡ map f (filter p (range_with_len 0 n)) ++ f n ∷ []
kept_place f p n on =
    ap (map f) (filter_more p n ∙ ap (λ b. filter p (range_with_len 0 n) ++ cond b (n ∷ []) []) on)
    ∙ map-append f (filter p (range_with_len 0 n)) (n ∷ [])

-- a place that is passed over
pub passed_place : {X : Type 0} (f : ℕ → X) (p : ℕ → Bool) (n : ℕ) → p n ≡ false
    → map f (filter p (range_with_len 0 (n + 1))) ≡ map f (filter p (range_with_len 0 n))
passed_place f p n off =
    ap (map f) (filter_more p n ∙ (ap (λ b. filter p (range_with_len 0 n) ++ cond b (n ∷ []) []) off ∙ append-nil _))

-- the name at a place that the interface has
pub name_there : (ds : List Declaration) (place : ℕ) (d : Declaration) → slice_get ds place ≡ Some d
    → name_at ds place ≡ d.name
name_there ds place d there =
    get_or_from_slice_get (map (λ (d : Declaration). d.name) ds) place d.name []
    (slice_get-map (λ (d : Declaration). d.name) ds place ∙ ap (option_map (λ (d : Declaration). d.name)) there)

-- below this count, the test holds at exactly the places whose elements have the property
pub record Marks {D : Type 0} (P : D → Type 0) (xs : List D) (count : ℕ) (marked : ℕ → Bool) : Type 0 where
  pub exactly : (place : ℕ) (x : D) → place < count → slice_get xs place ≡ Some x → (IsTrue (marked place) ↔ P x)

pub marks_none : {D : Type 0} {P : D → Type 0} {xs : List D} {marked : ℕ → Bool} → Marks P xs 0 marked
marks_none = record { exactly = λ place x below there. absurd (omega arith) }

element_is : {D : Type 0} (xs : List D) (p q : ℕ) (x y : D) → p ≡ q → slice_get xs p ≡ Some x → slice_get xs q ≡ Some y
    → y ≡ x
element_is xs p q x y same there here = let e : slice_get xs p ≡ slice_get xs q = ap (slice_get xs) same in cc

-- the next place, whose element has the property, is marked, and no other mark is changed
pub marks_with : {D : Type 0} {P : D → Type 0} {xs : List D} {n : ℕ} {old new : ℕ → Bool} → Marks P xs n old
    → (x : D) → slice_get xs n ≡ Some x → P x → new n ≡ true → ((k : ℕ) → k ≢ n → new k ≡ old k)
    → Marks P xs (n + 1) new
marks_with {P = P} {xs = xs} {n = n} {old = old} {new = new} m x here has on others = record {
  exactly = λ place y below there. ⊎_elim
      (λ (e : place ≡ n). (
        λ _. subst P (sym (element_is xs n place x y (sym e) here there)) has,
        λ _. subst (λ k. IsTrue (new k)) (sym e) on,
      ))
      (λ (apart : place ≡ n → ⊥).
      let old_mark : IsTrue (old place) ↔ P y = m.exactly place y (omega arith) there in
      subst (λ b. IsTrue b ↔ P y) (sym (others place apart)) old_mark)
      (cases_eq place n);
}

-- the next place, whose element lacks the property, is not marked
pub marks_without : {D : Type 0} {P : D → Type 0} {xs : List D} {n : ℕ} {marked : ℕ → Bool} → Marks P xs n marked
    → (x : D) → slice_get xs n ≡ Some x → (P x → ⊥) → marked n ≡ false → Marks P xs (n + 1) marked
marks_without {P = P} {xs = xs} {n = n} {marked = marked} m x here lacks off = record {
  exactly = λ place y below there. ⊎_elim
      (λ (e : place ≡ n).
      let same : y ≡ x = element_is xs n place x y (sym e) here there in
      let unmarked : marked place ≡ false = ap marked e ∙ off in
      (λ (h : marked place ≡ true). absurd (cc), λ (h : P y). absurd (lacks (subst P same h))))
      (λ (apart : place ≡ n → ⊥). m.exactly place y (omega arith) there)
      (cases_eq place n);
}

-- a signal that is seen is added to what is shown
pub shown_more : (ds : List Declaration) (present seen n : ℕ) (d : Declaration) (b : Bool)
    (before after : List ShownSignal)
    → slice_get ds n ≡ Some d → bits seen n ≡ true → b ≡ bits present n
    → before ≡ map (present_at ds present) (filter (bits seen) (range_with_len 0 n))
    → after ≡ before ++ record { name = d.name; present = b } ∷ []
    → after ≡ map (present_at ds present) (filter (bits seen) (range_with_len 0 (n + 1)))
shown_more ds present seen n d b before after there on status so_far added =
    let name : name_at ds n ≡ d.name = name_there ds n d there in
    let signal : record { name = d.name; present = b } ≡ present_at ds present n = cc in
    added ∙ ap (λ xs. xs ++ record { name = d.name; present = b } ∷ []) so_far
    ∙ ap (λ s. map (present_at ds present) (filter (bits seen) (range_with_len 0 n)) ++ s ∷ []) signal
    ∙ sym (kept_place (present_at ds present) (bits seen) n on)

-- a name that is seen is added to the names
pub names_more : (ds : List Declaration) (p : ℕ → Bool) (n : ℕ) (d : Declaration) (before after : List (List ℕ))
    → slice_get ds n ≡ Some d → p n ≡ true
    → before ≡ map (name_at ds) (filter p (range_with_len 0 n))
    → after ≡ before ++ d.name ∷ []
    → after ≡ map (name_at ds) (filter p (range_with_len 0 (n + 1)))
names_more ds p n d before after there on so_far added =
    added ∙ ap (λ xs. xs ++ d.name ∷ []) so_far
    ∙ ap (λ s. map (name_at ds) (filter p (range_with_len 0 n)) ++ s ∷ []) (sym (name_there ds n d there))
    ∙ sym (kept_place (name_at ds) p n on)

-- a signal that isn't seen is passed over
pub same_more : {X : Type 0} (f : ℕ → X) (p : ℕ → Bool) (n : ℕ) (before after : List X) → p n ≡ false
    → before ≡ map f (filter p (range_with_len 0 n)) → after ≡ before
    → after ≡ map f (filter p (range_with_len 0 (n + 1)))
same_more f p n before after off so_far same = same ∙ so_far ∙ sym (passed_place f p n off)

-- an element that is read stands at its place
pub read_there : (ds all : List Declaration) (place : ℕ) (d : Declaration) → ds ≡ all → place < length ds
    → slice_get all place ≡ Some (get_or ds place d)
read_there ds all place d same below = ap (λ xs. slice_get xs place) (sym same) ∙ slice_get-get_or ds place d below

pub marks_of : {D : Type 0} {P : D → Type 0} {xs : List D} {n a b : ℕ} → a ≡ b → Marks P xs n (bits b)
    → Marks P xs n (bits a)
marks_of {P = P} {xs = xs} {n = n} e m = subst (λ s. Marks P xs n (bits s)) (sym e) m

-- a list is what a function gives at each of its places in turn
pub by_places : {A : Type 0} (f : ℕ → A) (xs : List A) (from n : ℕ) → length xs ≡ n
    → ((i : ℕ) (other : A) → i < n → get_or xs i other ≡ f (from + i)) → xs ≡ map f (range_with_len from n)
by_places f [] from zero long each = refl
by_places f [] from (suc n) long each = absurd (omega arith)
by_places f (x ∷ xs) from zero long each = absurd (omega arith)
by_places {A = A} f (x ∷ xs) from (suc n) long each =
    let here : from + 0 ≡ from = omega arith in
    ap (λ (y : A). y ∷ xs) (each 0 x (omega arith) ∙ ap f here)
    ∙ ap (λ (ys : List A). f from ∷ ys)
    (by_places f xs (from + 1) n (omega arith) (λ i other below.
    let next : from + suc i ≡ (from + 1) + i = omega arith in
    each (suc i) other (omega arith) ∙ ap f next))
