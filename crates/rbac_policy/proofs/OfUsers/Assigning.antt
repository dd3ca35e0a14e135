-- The table of users after an assignment.
use Rattle.std.proofs.Common.{◌≡◌, ℕ, ◌<◌, ◌⊎◌, ◌↔◌, List, [], ◌∷◌, ◌++◌, map, cond, inl, inr, sym, ◌∙◌, ap, refl}
use Rattle.std.proofs.Common.{subst, true, false, Bool}
use Rattle.std.specs.Prelude.{Option, Some}
use Rattle.std.specs.Str.{bytes_eq}
use Rattle.std.proofs.lemmas.Slice.Eq.{bytes_eq-Decides}
use Rattle.std.proofs.lemmas.Bool.{false≢true}
use Rattle.std.proofs.lemmas.Option.{same_Some}
use Rattle.std.proofs.lemmas.List.{length-map}
use Rattle.rbac_policy.specs.declared.sizes.TheConstants.{ROLES}
use Rattle.rbac_policy.specs.declared.commands.AdminCommand.TheVariants.{AddUser, DeleteUser, DeleteRole, AssignUser}
use Rattle.rbac_policy.specs.declared.commands.AdminCommand.TheVariants.{DeassignUser}
use Rattle.rbac_policy.specs.declared.commands.Entry.{Entry}
use Rattle.rbac_policy.specs.declared.rows.User.{User}
use Rattle.rbac_policy.specs.Names.{NameText}
use Rattle.rbac_policy.specs.Facts.{IsUser, IsAssigned}
use Rattle.rbac_closure.specs.Sets.{with_place}
use Rattle.rbac_policy.specs.Tables.{At, user_assigned}
use Rattle.rbac_policy.specs.StandsFor.{InMask, IsNamed, UsersStand}
use Rattle.rbac_policy.proofs.Steps.{in_force_push}
use Rattle.rbac_policy.proofs.Untouched.{through, untouched}
use Rattle.rbac_policy.proofs.OfGrants.Granting.{flip, sums}
use Rattle.rbac_policy.proofs.OfSlots.Slots.{mapped, map_at, in_with_place, named_with_place}

module _ (roles : List (Option NameText)) (unique : (p q : ℕ) (r : NameText) → At roles p r → At roles q r → p ≡ q)
    (p0 : ℕ) (r0 : NameText) (there0 : At roles p0 r0) (low : p0 < ROLES)
    (users : List (Option User)) (L : List Entry) (s : Option ℕ) (u0 : NameText) (us : UsersStand roles users L)
    (exists : IsUser L u0) where
  abbrev pub the_assignment : Entry
  the_assignment = record { session = s; command = AssignUser u0 r0 }

  user_same : (u : NameText) → IsUser (L ++ the_assignment ∷ []) u ↔ IsUser L u
  user_same u = untouched (λ before x. x.command ≡ AddUser u) (λ x. x.command ≡ DeleteUser u) L the_assignment (λ h. cc)
      (λ h. cc)

  given_push : (u r : NameText) → IsAssigned (L ++ the_assignment ∷ []) u r ↔ (((u0 ≡ u) × (r0 ≡ r)) ⊎ IsAssigned L u r)
  given_push u r =
      let M : List Entry → Entry → Type 0 = λ before x. x.command ≡ AssignUser u r in
      let U : Entry → Type 0 = λ x. (x.command ≡ DeassignUser u r) ⊎ (x.command ≡ DeleteUser u)
      ⊎ (x.command ≡ DeleteRole r) in (
        λ h. elim ((in_force_push M U L the_assignment).0 h) [ inl m ↦ inl (cc, cc) | inr k ↦ inr k.0 ],
        λ h. (in_force_push M U L the_assignment).1 (elim h [
          | inl e ↦ let a : u0 ≡ u = e.0 in let b : r0 ≡ r = e.1 in inl cc
          | inr k ↦ inr (k, λ x. elim x [ inl y ↦ cc | inr z ↦ elim z [ inl y ↦ cc | inr w ↦ cc ] ])
        ]),
      )

  record Given (x y : User) : Type 0 where
    name : x.name ≡ y.name
    assigned : (r : NameText) → IsAssigned (L ++ the_assignment ∷ []) y.name r ↔ InMask roles y.roles r
    named : IsNamed roles y.roles

  slot : (at : ℕ) (x y : User) → At users at x → user_assigned u0 p0 (Some x) ≡ Some y → Given x y
  slot at x y there gives = by_test (bytes_eq x.name u0) refl where
    new : User
    new = record { name = x.name; roles = with_place x.roles p0 }

    by_test : (b : Bool) → bytes_eq x.name u0 ≡ b → Given x y
    by_test true e =
        let is : new ≡ y = same_Some new y (sym (ap (λ b. cond b (Some new) (Some x)) e) ∙ gives) in
        let same = (bytes_eq-Decides x.name u0).0 e in
        subst (Given x) is (record {
          name = refl;
          assigned = λ r. through (given_push x.name r) (through
              (sums {A = (u0 ≡ x.name) × (r0 ≡ r)} {C = r0 ≡ r} (λ p. p.1, λ q. (sym same, q))
              (us.assigned at x there r))
              (flip (in_with_place roles unique p0 r0 there0 low x.roles r)));
          named = named_with_place roles unique p0 r0 there0 low x.roles (us.named at x there);
        })
    by_test false e =
        let is : x ≡ y = same_Some x y (sym (ap (λ b. cond b (Some new) (Some x)) e) ∙ gives) in
        subst (Given x) is (record {
          name = refl;
          assigned = λ r. through (given_push x.name r) (
            λ h. elim h [
              | inl p ↦ absurd (false≢true (sym e ∙ (bytes_eq-Decides x.name u0).1 (sym p.0)))
              | inr k ↦
                  (us.assigned at x there r).0 k
            ],
            λ m. inr ((us.assigned at x there r).1 m),
          );
          named = us.named at x there;
        })

  given_value : (x : User) → (y : User) × (user_assigned u0 p0 (Some x) ≡ Some y)
  given_value x = by_test (bytes_eq x.name u0) refl where
    new : User
    new = record { name = x.name; roles = with_place x.roles p0 }

    by_test : (b : Bool) → bytes_eq x.name u0 ≡ b → (y : User) × (user_assigned u0 p0 (Some x) ≡ Some y)
    by_test true e = (new, ap (λ b. cond b (Some new) (Some x)) e)
    by_test false e = (x, ap (λ b. cond b (Some new) (Some x)) e)

  pub assigning : UsersStand roles (map (user_assigned u0 p0) users) (L ++ the_assignment ∷ [])
  assigning = record {
    exist = λ u. through (user_same u) (through (us.exist u) (
      λ h. let y = given_value h.value in
          record {
            at = h.at;
            value = y.0;
            there = map_at (user_assigned u0 p0) users h.at h.value y.0 h.there y.1;
            fact = sym (slot h.at h.value y.0 h.there y.1).name ∙ h.fact;
          },
      λ h. let m = mapped (user_assigned u0 p0) users h.at h.value refl h.there in
          record {
            at = h.at;
            value = m.value;
            there = m.there;
            fact = (slot h.at m.value h.value m.there m.gives).name ∙ h.fact;
          },
    ));
    assigned = λ at y there r. let m = mapped (user_assigned u0 p0) users at y refl there in
        (slot at m.value y m.there m.gives).assigned r;
    only_users =
        λ u r a. (user_same u).1
        (elim ((given_push u r).0 a) [ inl p ↦ subst (IsUser L) p.0 exists | inr k ↦ us.only_users u r k ]);
    named = λ at y there. let m = mapped (user_assigned u0 p0) users at y refl there in
        (slot at m.value y m.there m.gives).named;
    unique = λ p q y z a b same.
        let m = mapped (user_assigned u0 p0) users p y refl a in
        let n = mapped (user_assigned u0 p0) users q z refl b in
        us.unique p q m.value n.value m.there n.there
        ((slot p m.value y m.there m.gives).name ∙ same ∙ sym (slot q n.value z n.there n.gives).name);
    places = length-map users (user_assigned u0 p0) ∙ us.places;
  }
