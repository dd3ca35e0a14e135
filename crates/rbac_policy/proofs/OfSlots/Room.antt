-- A table has no free slot exactly when as many values as it has slots have the property that it keeps.
use Rattle.std.proofs.Common.{◌≡◌, ◌≢◌, ℕ, zero, suc, ◌+◌, ◌≤◌, List, [], ◌∷◌, length, cond, arith, sym, ◌∙◌, ap, refl}
use Rattle.std.proofs.Common.{subst}
use Rattle.std.specs.Prelude.{slice_get, Option, Some, None, position, is_none}
use Rattle.std.specs.List.{AllPairs, position_or_len}
use Rattle.std.proofs.lemmas.Option.{same_Some, slice_get_within, slice_get-get_or, get_or_from_slice_get}
use Rattle.std.proofs.lemmas.Bool.Decides.{Decides-ltb}
use Rattle.rbac_policy.specs.declared.objects.Operation.{Operation}
use Rattle.rbac_policy.specs.declared.objects.Object.{Object}
use Rattle.rbac_policy.specs.declared.commands.Entry.{Entry}
use Rattle.rbac_policy.specs.declared.rows.User.{User}
use Rattle.rbac_policy.specs.declared.rows.Grant.{Grant}
use Rattle.rbac_policy.specs.declared.rows.Session.{Session}
use Rattle.rbac_policy.specs.declared.rows.DsdSet.{DsdSet}
use Rattle.rbac_policy.specs.Names.{NameText}
use Rattle.rbac_policy.specs.Facts.{IsUser, IsRole, IsSetName, IsPairGranted, IsLive}
use Rattle.rbac_policy.specs.Counting.{HasAtLeast}
use Rattle.rbac_policy.specs.Tables.{At}
use Rattle.rbac_policy.specs.StandsFor.{Holds, IsKeyed, UsersStand, RolesStand, GrantsStand, SessionsStand, SetsStand}
use Rattle.rbac_policy.proofs.OfRoles.Listed.{position_within}
use Rattle.rbac_policy.proofs.OfSlots.Slots.{free}

-- the list without the element at this place
without : {A : Type 0} → List A → ℕ → List A
without [] k = []
without (x ∷ xs) zero = xs
without (x ∷ xs) (suc k) = x ∷ without xs k

length-without : {A : Type 0} (xs : List A) (k : ℕ) (x : A) → slice_get xs k ≡ Some x
    → length (without xs k) + 1 ≡ length xs
unfolding without
length-without [] k x there = cc
length-without (y ∷ ys) zero x there = omega arith
length-without (y ∷ ys) (suc k) x there = omega (arith, length-without ys k x there)

still_in : {A : Type 0} (xs : List A) (k j : ℕ) (y : A) → (j ≡ k → ⊥) → slice_get xs j ≡ Some y
    → (q : ℕ) × (slice_get (without xs k) q ≡ Some y)
unfolding without
still_in [] k j y ne there = cc
still_in (x ∷ xs) zero zero y ne there = absurd (ne refl)
still_in (x ∷ xs) zero (suc j) y ne there = (j, there)
still_in (x ∷ xs) (suc k) zero y ne there = (0, there)
still_in (x ∷ xs) (suc k) (suc j) y ne there = let r = still_in xs k j y (λ e. ne (ap suc e)) there in (suc r.0, r.1)

-- where the value is kept
pub record Kept {A B : Type 0} (R : A → B → Type 0) (ys : List B) (x : A) : Type 0 where
  pub at : ℕ
  pub value : B
  pub there : slice_get ys at ≡ Some value
  pub by : R x value

-- distinct values, each kept in a place of its own, are no more than the places
pub pigeons : {A B : Type 0} (R : A → B → Type 0) → ((x y : A) (b : B) → R x b → R y b → x ≡ y)
    → (xs : List A) (ys : List B) → AllPairs (λ x y. x ≢ y) xs
    → ((p : ℕ) (x : A) → slice_get xs p ≡ Some x → Kept R ys x) → length xs ≤ length ys
pigeons R one [] ys distinct kept = omega arith
pigeons {A = A} {B = B} R one (x ∷ xs) ys distinct kept =
    let h = kept 0 x refl in
    let rest = pigeons R one xs (without ys h.at)
    (λ p q d low within. distinct (suc p) (suc q) d (omega arith) (omega arith))
    (λ p y there. elsewhere h p y there (kept (suc p) y there)) in
    omega (arith, rest, length-without ys h.at h.value h.there) where
      elsewhere : (h : Kept R ys x) (p : ℕ) (y : A) → slice_get xs p ≡ Some y → Kept R ys y → Kept R (without ys h.at) y
      elsewhere h p y there k =
          let apart : k.at ≡ h.at → ⊥ = λ e.
          let same : k.value ≡ h.value = same_Some k.value h.value
          (sym k.there ∙ subst (λ i. slice_get ys i ≡ Some h.value) (sym e) h.there) in
          let one_value : y ≡ x = one y x h.value (subst (R y) same k.by) h.by in
          let within = slice_get_within xs p y there in
          distinct 0 (suc p) y (omega arith) (omega arith)
          (sym one_value ∙ sym (get_or_from_slice_get xs p y y there)) in
          let q = still_in ys h.at k.at k.value apart k.there in
          record { at = q.0; value = k.value; there = q.1; by = k.by }

-- the slots keep the property: each value that has it stands in one slot, under its key
pub record Keeps {X A : Type 0} (key : X → A) (slots : List (Option X)) (P : A → Type 0) : Type 0 where
  pub unique : IsKeyed key slots
  pub stands : (a : A) → P a → Holds (λ x. key x ≡ a) slots
  pub fact : (at : ℕ) (x : X) → At slots at x → P (key x)

-- the keys of the filled slots
keys : {X A : Type 0} → (X → A) → List (Option X) → List A
keys key [] = []
keys key (None ∷ slots) = keys key slots
keys key (Some x ∷ slots) = key x ∷ keys key slots

abbrev IsFull : {X : Type 0} → List (Option X) → Type 0
IsFull slots = (at : ℕ) → slice_get slots at ≡ Some None → ⊥

keys_many : {X A : Type 0} (key : X → A) (slots : List (Option X)) → IsFull slots
    → length (keys key slots) ≡ length slots
unfolding keys
keys_many key [] full = refl
keys_many key (None ∷ slots) full = absurd (full 0 refl)
keys_many key (Some x ∷ slots) full = ap suc (keys_many key slots (λ at. full (suc at)))

keys_at : {X A : Type 0} (key : X → A) (slots : List (Option X)) → IsFull slots → (at : ℕ) (a : A)
    → slice_get (keys key slots) at ≡ Some a → (x : X) × At slots at x × (key x ≡ a)
unfolding keys
keys_at key [] full at a there = cc
keys_at key (None ∷ slots) full at a there = absurd (full 0 refl)
keys_at key (Some x ∷ slots) full zero a there = (x, refl, same_Some (key x) a there)
keys_at key (Some x ∷ slots) full (suc at) a there = keys_at key slots (λ k. full (suc k)) at a there

no_gap : {X : Type 0} (slots : List (Option X)) → position is_none slots ≡ None → IsFull slots
no_gap slots none at there =
    let within = position_within is_none slots at None there refl in
    let found : position is_none slots ≡ Some (position_or_len is_none slots) =
    ap (λ b. cond b (Some (position_or_len is_none slots)) None)
    ((Decides-ltb (position_or_len is_none slots) (length slots)).1 within) in
    cc

pub full_without_room : {X A : Type 0} (key : X → A) (slots : List (Option X)) (P : A → Type 0) (n : ℕ)
    → Keeps key slots P → length slots ≡ n → position is_none slots ≡ None → HasAtLeast n P
full_without_room key slots P n k many none =
    let full = no_gap slots none in
    record {
      values = keys key slots;
      distinct = λ p q d low within same.
          let x = keys_at key slots full p _ (slice_get-get_or (keys key slots) p d (omega arith)) in
          let y = keys_at key slots full q _ (slice_get-get_or (keys key slots) q d within) in
          absurd (omega (arith, k.unique p q x.0 y.0 x.1 y.1 (x.2 ∙ same ∙ sym y.2)));
      have = λ p d within. let x = keys_at key slots full p _ (slice_get-get_or (keys key slots) p d within) in
          subst P x.2 (k.fact p x.0 x.1);
      enough = keys_many key slots full ∙ many;
    }

-- the slot has a value with this key
record Stored {X A : Type 0} (key : X → A) (a : A) (slot : Option X) : Type 0 where
  value : X
  is : slot ≡ Some value
  named : key value ≡ a

one_key : {X A : Type 0} (key : X → A) (a b : A) (slot : Option X) → Stored key a slot → Stored key b slot → a ≡ b
one_key key a b slot r s = sym r.named ∙ ap key (same_Some r.value s.value (sym r.is ∙ s.is)) ∙ s.named

elsewhere : {X A : Type 0} (key : X → A) (slots : List (Option X)) (i : ℕ) → slice_get slots i ≡ Some None → (a : A)
    → Holds (λ x. key x ≡ a) slots → Kept (Stored key) (without slots i) a
elsewhere key slots i empty a h =
    let q = still_in slots i h.at (Some h.value)
    (λ e. cc (empty, subst (λ j. slice_get slots j ≡ Some (Some h.value)) e h.there)) h.there in
    record { at = q.0; value = Some h.value; there = q.1; by = record { value = h.value; is = refl; named = h.fact } }

pub not_full_with_room : {X A : Type 0} (key : X → A) (slots : List (Option X)) (P : A → Type 0) (n : ℕ)
    → Keeps key slots P → length slots ≡ n → (i : ℕ) → position is_none slots ≡ Some i → HasAtLeast n P → ⊥
not_full_with_room key slots P n k many i room h =
    let fr = free slots i room in
    let few = pigeons (Stored key) (one_key key) h.values (without slots i) h.distinct
    (λ p a there. elsewhere key slots i fr.empty a
    (k.stands a
    (subst P (get_or_from_slice_get h.values p a a there) (h.have p a (slice_get_within h.values p a there))))) in
    absurd (omega (arith, few, h.enough, length-without slots i None fr.empty, many))

-- no more values have the property than there are slots
pub few : {X A : Type 0} (key : X → A) (slots : List (Option X)) (P : A → Type 0) (n k : ℕ) → Keeps key slots P
    → length slots ≡ n → HasAtLeast k P → k ≤ n
few {A = A} key slots P n k keeps many h =
    let low = pigeons (Stored key) (one_key key) h.values slots h.distinct
    (λ p a there. held a
    (keeps.stands a
    (subst P (get_or_from_slice_get h.values p a a there) (h.have p a (slice_get_within h.values p a there))))) in
    omega (arith, low, h.enough, many) where
      held : (a : A) → Holds (λ x. key x ≡ a) slots → Kept (Stored key) slots a
      held a h =
          record {
            at = h.at;
            value = Some h.value;
            there = h.there;
            by = record { value = h.value; is = refl; named = h.fact };
          }

-- where the property hasn't been reached so often, there is room
pub room : {X A : Type 0} (key : X → A) (slots : List (Option X)) (P : A → Type 0) (n : ℕ) → Keeps key slots P
    → length slots ≡ n → (HasAtLeast n P → ⊥) → (i : ℕ) × (position is_none slots ≡ Some i)
room key slots P n k many few = by_position (position is_none slots) refl where
  by_position : (o : Option ℕ) → position is_none slots ≡ o → (i : ℕ) × (position is_none slots ≡ Some i)
  by_position None e = absurd (few (full_without_room key slots P n k many e))
  by_position (Some i) e = (i, e)

-- the five tables
pub keeps_users : (roles : List (Option NameText)) (users : List (Option User)) (L : List Entry)
    → UsersStand roles users L → Keeps (λ (x : User). x.name) users (IsUser L)
keeps_users roles users L s = record {
  unique = s.unique;
  stands = λ u h. (s.exist u).0 h;
  fact = λ at x there. (s.exist x.name).1 (record { at = at; value = x; there = there; fact = refl });
}

pub keeps_roles : (roles : List (Option NameText)) (juniors : List ℕ) (L : List Entry) → RolesStand roles juniors L
    → Keeps (λ (x : NameText). x) roles (IsRole L)
keeps_roles roles juniors L s = record {
  unique = λ p q x y a b same. s.unique p q y (subst (At roles p) same a) b;
  stands = λ r h. (s.exist r).0 h;
  fact = λ at x there. (s.exist x).1 (record { at = at; value = x; there = there; fact = refl });
}

-- the operation and the object of a row
abbrev pub pair_of : Grant → Operation × Object
pair_of x = (x.operation, x.object)

pub keeps_grants : (roles : List (Option NameText)) (grants : List (Option Grant)) (L : List Entry)
    → GrantsStand roles grants L → Keeps pair_of grants (λ pair. IsPairGranted L pair.0 pair.1)
keeps_grants roles grants L s = record {
  unique = λ p q x y a b same. s.unique p q x y a b (ap (λ (z : Operation × Object). z.0) same)
      (ap (λ (z : Operation × Object). z.1) same);
  stands = λ pair h.
      let k = s.only_pairs h.0 pair.0 pair.1 h.1 in
      record {
        at = k.at;
        value = k.value;
        there = k.there;
        fact = ap (λ (o : Operation). let z : Operation × Object = (o, k.value.object) in z) k.fact.0
            ∙ ap (λ (o : Object). let z : Operation × Object = (pair.0, o) in z) k.fact.1;
      };
  fact = λ at x there.
      let u = s.used at x there in
      let r = s.named at x there u.0 u.1 in
      (r.0, (s.granted at x there r.0).1 (record { place = u.0; there = r.1; bit = u.1 }));
}

pub keeps_sessions : (roles : List (Option NameText)) (sessions : List (Option Session)) (L : List Entry)
    → SessionsStand roles sessions L → Keeps (λ (x : Session). x.number) sessions (IsLive L)
keeps_sessions roles sessions L s = record {
  unique = s.unique;
  stands = λ n h. let k = (s.exist n h.0).0 h.1 in record
      { at = k.at; value = k.value; there = k.there; fact = k.fact.0 };
  fact = λ at x there. (
    x.user,
    (s.exist x.number x.user).1
        (record { at = at; value = x; there = there; fact = (refl, refl) }),
  );
}

pub keeps_sets : (roles : List (Option NameText)) (sets : List (Option DsdSet)) (L : List Entry)
    → SetsStand roles sets L → Keeps (λ (x : DsdSet). x.name) sets (IsSetName L)
keeps_sets roles sets L s = record {
  unique = s.unique;
  stands = λ name h. let k = s.listed h.place name h.count h.roles h.is_set in
      record { at = k.at; value = k.value; there = k.there; fact = k.fact.name };
  fact = λ at x there. let m = s.made at x there in record
      { place = x.place; count = x.count; roles = m.0; is_set = m.1 };
}
