-- A new role at a free place.
use Rattle.std.proofs.Common.{◌≡◌, ℕ, ◌⊎◌, ◌↔◌, List, [], ◌∷◌, ◌++◌, length, set, inl, inr, sym, ◌∙◌, refl, subst}
use Rattle.std.specs.Prelude.{slice_get, slice_index, Option, Some, None}
use Rattle.std.proofs.lemmas.Bool.{cases_eq}
use Rattle.std.proofs.lemmas.List.{length-set}
use Rattle.rbac_policy.specs.declared.sizes.TheConstants.{ROLES}
use Rattle.rbac_policy.specs.declared.commands.AdminCommand.TheVariants.{AddRole, DeleteRole, AddInheritance}
use Rattle.rbac_policy.specs.declared.commands.AdminCommand.TheVariants.{DeleteInheritance}
use Rattle.rbac_policy.specs.declared.commands.Entry.{Entry}
use Rattle.rbac_policy.specs.declared.rows.User.{User}
use Rattle.rbac_policy.specs.declared.rows.Grant.{Grant}
use Rattle.rbac_policy.specs.declared.rows.Session.{Session}
use Rattle.rbac_policy.specs.Names.{NameText}
use Rattle.rbac_policy.specs.Facts.{IsRole, IsEdge}
use Rattle.rbac_policy.specs.Tables.{At}
use Rattle.rbac_policy.specs.StandsFor.{InMask, IsNamed, UsersStand, RolesStand, GrantsStand}
use Rattle.rbac_policy.proofs.Steps.{in_force_push}
use Rattle.rbac_policy.proofs.OfSlots.Slots.{get_set_same, get_set_other}
use Rattle.rbac_policy.proofs.OfSessions.Ended.{Unswept}
use Rattle.rbac_policy.proofs.Untouched.{through, untouched}
use Rattle.rbac_policy.proofs.OfSlots.Slots.{Free, written}

-- the masks say the same by the names of another table
module _ (before after : List (Option NameText)) where
  pub renamed_users : (users : List (Option User)) (L : List Entry)
      → ((m : ℕ) → IsNamed before m → (r : NameText) → InMask before m r ↔ InMask after m r)
      → ((m : ℕ) → IsNamed before m → IsNamed after m) → UsersStand before users L → UsersStand after users L
  renamed_users users L same named s = record {
    exist = s.exist;
    assigned = λ at x there r. through (s.assigned at x there r) (same x.roles (s.named at x there) r);
    only_users = s.only_users;
    named = λ at x there. named x.roles (s.named at x there);
    unique = s.unique;
    places = s.places;
  }

  pub renamed_grants : (grants : List (Option Grant)) (L : List Entry)
      → ((m : ℕ) → IsNamed before m → (r : NameText) → InMask before m r ↔ InMask after m r)
      → ((m : ℕ) → IsNamed before m → IsNamed after m) → GrantsStand before grants L → GrantsStand after grants L
  renamed_grants grants L same named s = record {
    granted = λ at x there r. through (s.granted at x there r) (same x.roles (s.named at x there) r);
    only_pairs = s.only_pairs;
    named = λ at x there. named x.roles (s.named at x there);
    used = s.used;
    unique = s.unique;
    places = s.places;
  }

  pub renamed_sessions : (sessions : List (Option Session)) (L : List Entry) (e : Entry)
      → ((m : ℕ) → IsNamed before m → (r : NameText) → InMask before m r ↔ InMask after m r)
      → ((m : ℕ) → IsNamed before m → IsNamed after m)
      → ((p q : ℕ) (r : NameText) → At after p r → At after q r → p ≡ q) → length after ≡ ROLES
      → Unswept before sessions L e → Unswept after sessions L e
  renamed_sessions sessions L e same named unique many s = record {
    exist = s.exist;
    active = λ at x there r. through (s.active at x there r) (same x.active (s.named at x there) r);
    named = λ at x there. named x.active (s.named at x there);
    numbers = s.numbers;
    made = s.made;
    unique = unique;
    many = many;
    once = s.once;
    places = s.places;
  }

module _ (roles : List (Option NameText)) (r0 : NameText) (i : ℕ) (fr : Free roles i) where
  old_role : (p : ℕ) (r : NameText) → At roles p r → At (set roles i (Some r0)) p r
  old_role p r there = get_set_other roles i p (Some r0)
      (λ e. cc (fr.empty, subst (λ k. slice_get roles k ≡ Some (Some r)) e there)) ∙ there

  -- a place of a mask is not the free one
  pub added_mask : (m : ℕ) → IsNamed roles m → (r : NameText) → InMask roles m r ↔ InMask (set roles i (Some r0)) m r
  added_mask m named r = (
    λ k. record { place = k.place; there = old_role k.place r k.there; bit = k.bit },
    λ k. elim (written roles i k.place r0 r fr.within k.there) [
      | inl q ↦ let n = named k.place k.bit in
          absurd (cc (fr.empty, subst (λ z. slice_get roles z ≡ Some (Some n.0)) q.0 n.1))
      | inr old ↦ record { place = k.place; there = old; bit = k.bit }
    ],
  )

  pub added_named : (m : ℕ) → IsNamed roles m → IsNamed (set roles i (Some r0)) m
  added_named m named = λ p bit. let n = named p bit in (n.0, old_role p n.0 n.1)

module _ (roles : List (Option NameText)) (juniors : List ℕ) (L : List Entry) (s : Option ℕ) (r0 : NameText)
    (rs : RolesStand roles juniors L) (fresh : IsRole L r0 → ⊥) (i : ℕ) (fr : Free roles i) where
  abbrev pub the_role : Entry
  the_role = record { session = s; command = AddRole r0 }

  not_here : (p : ℕ) → At roles p r0 → ⊥
  not_here p there = fresh ((rs.exist r0).1 (record { at = p; value = r0; there = there; fact = refl }))

  role_push : (r : NameText) → IsRole (L ++ the_role ∷ []) r ↔ ((r0 ≡ r) ⊎ IsRole L r)
  role_push r =
      let M : List Entry → Entry → Type 0 = λ before x. x.command ≡ AddRole r in
      let U : Entry → Type 0 = λ x. x.command ≡ DeleteRole r in (
        λ h. elim ((in_force_push M U L the_role).0 h) [ inl m ↦ inl cc | inr k ↦ inr k.0 ],
        λ h. (in_force_push M U L the_role).1 (elim h [ inl same ↦ inl cc | inr k ↦ inr (k, λ x. cc) ]),
      )

  edge_same : (a b : NameText) → IsEdge (L ++ the_role ∷ []) a b ↔ IsEdge L a b
  edge_same a b = untouched (λ before x. x.command ≡ AddInheritance a b)
      (λ x. (x.command ≡ DeleteInheritance a b) ⊎ (x.command ≡ DeleteRole a) ⊎ (x.command ≡ DeleteRole b)) L the_role
      (λ h. cc) (λ h. elim h [ inl x ↦ cc | inr y ↦ elim y [ inl x ↦ cc | inr z ↦ cc ] ])

  pub unique_added : (p q : ℕ) (r : NameText) → At (set roles i (Some r0)) p r → At (set roles i (Some r0)) q r → p ≡ q
  unique_added p q r a b = elim (written roles i p r0 r fr.within a) [
    | inl x ↦ elim (written roles i q r0 r fr.within b) [
      | inl y ↦ x.0 ∙ sym y.0
      | inr old ↦ absurd (not_here q (subst (At roles q) (sym x.1) old))
    ]
    | inr o ↦ elim (written roles i q r0 r fr.within b) [
      | inl y ↦ absurd (not_here p (subst (At roles p) (sym y.1) o))
      | inr old ↦ rs.unique p q r o old
    ]
  ]

  pub added_role : RolesStand (set roles i (Some r0)) juniors (L ++ the_role ∷ [])
  added_role = record {
    exist = λ r. through (role_push r) (
      λ h. elim h [
        | inl same ↦ record { at = i; value = r0; there = get_set_same roles i (Some r0) fr.within; fact = same }
        | inr k ↦ let h = (rs.exist r).0 k in
            record { at = h.at; value = h.value; there = old_role roles r0 i fr h.at h.value h.there; fact = h.fact }
      ],
      λ h. elim (written roles i h.at r0 h.value fr.within h.there) [
        | inl q ↦ inl (q.1 ∙ h.fact)
        | inr old ↦ inr ((rs.exist r).1 (record { at = h.at; value = h.value; there = old; fact = h.fact }))
      ],
    );
    unique = unique_added;
    edges = λ p r there j. elim (written roles i p r0 r fr.within there) [
      | inl q ↦ (
        λ e. absurd (fresh (subst (IsRole L) (sym q.1) (rs.only_roles r j ((edge_same r j).0 e)))),
        λ m. absurd (rs.empty p (subst (λ k. slice_get roles k ≡ Some None) (sym q.0) fr.empty) m.place m.bit),
      )
      | inr old ↦
          through (edge_same r j)
          (through (rs.edges p r old j) (added_mask roles r0 i fr (slice_index juniors p) (rs.named p) j))
    ];
    only_roles = λ a b e. (role_push a).1 (inr (rs.only_roles a b ((edge_same a b).0 e)));
    named = λ p. added_named roles r0 i fr (slice_index juniors p) (rs.named p);
    empty = λ p none. elim (cases_eq p i) [
      | inl e ↦
          absurd (cc (
            get_set_same roles i (Some r0) fr.within,
            subst (λ k. slice_get (set roles i (Some r0)) k ≡ Some None) e none,
          ))
      | inr ne ↦ rs.empty p (sym (get_set_other roles i p (Some r0) ne) ∙ none)
    ];
    places = length-set roles i (Some r0) ∙ rs.places;
    rows = rs.rows;
  }
