-- The table of users after a user was added.
use Rattle.std.proofs.Common.{◌≡◌, ℕ, ◌⊎◌, ◌↔◌, List, [], ◌∷◌, ◌++◌, set, inl, inr, sym, ◌∙◌, ap, subst}
use Rattle.std.specs.Prelude.{slice_get, Option, Some}
use Rattle.std.proofs.lemmas.List.{length-set}
use Rattle.rbac_policy.specs.declared.commands.AdminCommand.TheVariants.{AddUser, DeleteUser, DeleteRole, AssignUser}
use Rattle.rbac_policy.specs.declared.commands.AdminCommand.TheVariants.{DeassignUser}
use Rattle.rbac_policy.specs.declared.commands.Entry.{Entry}
use Rattle.rbac_policy.specs.declared.rows.User.{User}
use Rattle.rbac_policy.specs.Names.{NameText}
use Rattle.rbac_policy.specs.Facts.{IsUser, IsAssigned}
use Rattle.rbac_policy.specs.StandsFor.{InMask, IsNamed, UsersStand}
use Rattle.rbac_policy.proofs.Steps.{in_force_push}
use Rattle.rbac_policy.proofs.Untouched.{through, untouched}
use Rattle.rbac_policy.proofs.OfSlots.Slots.{get_set_same, get_set_other, written, Free, none_in_zero, zero_named}

module _ (roles : List (Option NameText)) (users : List (Option User)) (L : List Entry) (s : Option ℕ) (u0 : NameText)
    (us : UsersStand roles users L) (fresh : IsUser L u0 → ⊥) (i : ℕ) (fr : Free users i) where
  abbrev pub the_adding : Entry
  the_adding = record { session = s; command = AddUser u0 }

  abbrev pub the_user : User
  the_user = record { name = u0; roles = 0 }

  user_push : (u : NameText) → IsUser (L ++ the_adding ∷ []) u ↔ ((u0 ≡ u) ⊎ IsUser L u)
  user_push u =
      let M : List Entry → Entry → Type 0 = λ before x. x.command ≡ AddUser u in
      let U : Entry → Type 0 = λ x. x.command ≡ DeleteUser u in (
        λ h. elim ((in_force_push M U L the_adding).0 h) [ inl m ↦ inl cc | inr k ↦ inr k.0 ],
        λ h. (in_force_push M U L the_adding).1 (elim h [ inl same ↦ inl cc | inr k ↦ inr (k, λ x. cc) ]),
      )

  given : (u r : NameText) → IsAssigned (L ++ the_adding ∷ []) u r ↔ IsAssigned L u r
  given u r = untouched (λ before x. x.command ≡ AssignUser u r)
      (λ x. (x.command ≡ DeassignUser u r) ⊎ (x.command ≡ DeleteUser u) ⊎ (x.command ≡ DeleteRole r)) L the_adding
      (λ h. cc) (λ h. elim h [ inl a ↦ cc | inr b ↦ elim b [ inl x ↦ cc | inr y ↦ cc ] ])

  pub adding : UsersStand roles (set users i (Some the_user)) (L ++ the_adding ∷ [])
  adding = record {
    exist = λ u. through (user_push u) (
      λ h. elim h [
        | inl same ↦
            record { at = i; value = the_user; there = get_set_same users i (Some the_user) fr.within; fact = same }
        | inr k ↦
            let h = (us.exist u).0 k in
            record {
              at = h.at;
              value = h.value;
              there = get_set_other users i h.at (Some the_user)
                  (λ e. cc (fr.empty, subst (λ k. slice_get users k ≡ Some (Some h.value)) e h.there)) ∙ h.there;
              fact =
                  h.fact;
            }
      ],
      λ h. elim (written users i h.at the_user h.value fr.within h.there) [
        | inl q ↦ inl (ap (λ (z : User). z.name) q.1 ∙ h.fact)
        | inr old ↦ inr ((us.exist u).1 (record { at = h.at; value = h.value; there = old; fact = h.fact }))
      ],
    );
    assigned = λ at x there r. elim (written users i at the_user x fr.within there) [
      | inl q ↦ subst (λ (z : User). IsAssigned (L ++ the_adding ∷ []) z.name r ↔ InMask roles z.roles r) q.1 (
        λ a. absurd (fresh (us.only_users u0 r ((given u0 r).0 a))),
        λ m. absurd (none_in_zero roles r m),
      )
      | inr old ↦ through (given x.name r) (us.assigned at x old r)
    ];
    only_users = λ u r a. (user_push u).1 (inr (us.only_users u r ((given u r).0 a)));
    named = λ at x there. elim (written users i at the_user x fr.within there) [
      | inl q ↦ subst (λ (z : User). IsNamed roles z.roles) q.1 (zero_named roles)
      | inr old ↦ us.named at x old
    ];
    unique = λ p q x y a b same. elim (written users i p the_user x fr.within a) [
      | inl s ↦ elim (written users i q the_user y fr.within b) [
        | inl t ↦ s.0 ∙ sym t.0
        | inr old ↦
            absurd (fresh
            ((us.exist u0).1
            (record { at = q; value = y; there = old; fact = sym (ap (λ (z : User). z.name) s.1 ∙ same) })))
      ]
      | inr mine ↦ elim (written users i q the_user y fr.within b) [
        | inl t ↦
            absurd (fresh
            ((us.exist u0).1
            (record { at = p; value = x; there = mine; fact = same ∙ sym (ap (λ (z : User). z.name) t.1) })))
        | inr old ↦ us.unique p q x y mine old same
      ]
    ];
    places = length-set users i (Some the_user) ∙ us.places;
  }
