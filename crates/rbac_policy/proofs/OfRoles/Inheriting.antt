-- The rows of the roles after an edge was added or taken away.
use Rattle.std.proofs.Common.{◌≡◌, ℕ, ◌<◌, ◌⊎◌, ◌↔◌, List, [], ◌∷◌, ◌++◌, length, inl, inr, arith, sym, ◌∙◌, refl}
use Rattle.std.proofs.Common.{subst}
use Rattle.std.specs.Prelude.{slice_get, slice_index, Option, Some, None}
use Rattle.std.proofs.lemmas.Option.{slice_get_within}
use Rattle.std.proofs.lemmas.List.{length-set}
use Rattle.rbac_closure.specs.Sets.{with_place, without_place}
use Rattle.rbac_closure.specs.Edges.{edge_added, edge_removed}
use Rattle.rbac_closure.proofs.EdgeLemmas.{added_edges, removed_edges}
use Rattle.rbac_policy.specs.declared.commands.AdminCommand.TheVariants.{AddRole, DeleteRole, AddInheritance}
use Rattle.rbac_policy.specs.declared.commands.AdminCommand.TheVariants.{DeleteInheritance}
use Rattle.rbac_policy.specs.declared.commands.Entry.{Entry}
use Rattle.rbac_policy.specs.Names.{NameText}
use Rattle.rbac_policy.specs.Facts.{IsRole, IsEdge}
use Rattle.rbac_policy.specs.Tables.{At}
use Rattle.rbac_policy.specs.StandsFor.{RolesStand}
use Rattle.rbac_policy.proofs.Steps.{in_force_push}
use Rattle.rbac_policy.proofs.OfRoles.Order.{one_role}
use Rattle.rbac_policy.proofs.Untouched.{untouched, through}

module _ (roles : List (Option NameText)) (juniors : List ℕ) (L : List Entry) (s : Option ℕ) (p0 : ℕ) (a0 : NameText)
    (senior_there : At roles p0 a0) (q0 : ℕ) (b0 : NameText) (junior_there : At roles q0 b0)
    (rs : RolesStand roles juniors L) where
  within : p0 < length juniors
  within = omega (arith, slice_get_within roles p0 (Some a0) senior_there, rs.places, rs.rows)

  abbrev pub the_inheritance : Entry
  the_inheritance = record { session = s; command = AddInheritance a0 b0 }

  role_same : (r : NameText) → IsRole (L ++ the_inheritance ∷ []) r ↔ IsRole L r
  role_same r = untouched (λ before x. x.command ≡ AddRole r) (λ x. x.command ≡ DeleteRole r) L the_inheritance
      (λ h. cc) (λ h. cc)

  edge_push : (a b : NameText) → IsEdge (L ++ the_inheritance ∷ []) a b ↔ (((a0 ≡ a) × (b0 ≡ b)) ⊎ IsEdge L a b)
  edge_push a b =
      let M : List Entry → Entry → Type 0 = λ before x. x.command ≡ AddInheritance a b in
      let U : Entry → Type 0 = λ x. (x.command ≡ DeleteInheritance a b) ⊎ (x.command ≡ DeleteRole a)
      ⊎ (x.command ≡ DeleteRole b) in (
        λ h. elim ((in_force_push M U L the_inheritance).0 h) [ inl m ↦ inl (cc, cc) | inr k ↦ inr k.0 ],
        λ h. (in_force_push M U L the_inheritance).1 (elim h [
          | inl x ↦ let u : a0 ≡ a = x.0 in let v : b0 ≡ b = x.1 in inl cc
          | inr k ↦ inr (k, λ x. elim x [ inl y ↦ cc | inr z ↦ elim z [ inl y ↦ cc | inr w ↦ cc ] ])
        ]),
      )

  pub inheriting : RolesStand roles (edge_added p0 q0 juniors) (L ++ the_inheritance ∷ [])
  inheriting = record {
    exist = λ r. through (role_same r) (rs.exist r);
    unique = rs.unique;
    edges = λ p r there j. (
      λ e. elim ((edge_push r j).0 e) [
        | inl x ↦ record {
          place = q0;
          there = subst (At roles q0) x.1 junior_there;
          bit = (added_edges p0 q0 juniors within p q0).1
              (inr (rs.unique p p0 r there (subst (At roles p0) x.0 senior_there), refl));
        }
        | inr k ↦ let m = (rs.edges p r there j).0 k in record
            { place = m.place; there = m.there; bit = (added_edges p0 q0 juniors within p m.place).1 (inl m.bit) }
      ],
      λ m. (edge_push r j).1 (elim ((added_edges p0 q0 juniors within p m.place).0 m.bit) [
        | inl x ↦ inr ((rs.edges p r there j).1 (record { place = m.place; there = m.there; bit = x }))
        | inr x ↦
            inl (
              one_role roles p0 a0 r senior_there (subst (λ k. At roles k r) x.0 there),
              one_role roles q0 b0 j junior_there (subst (λ k. At roles k j) x.1 m.there),
            )
      ]),
    );
    only_roles = λ a b e. (role_same a).1 (elim ((edge_push a b).0 e) [
      | inl x ↦
          subst (IsRole L) x.0 ((rs.exist a0).1 (record { at = p0; value = a0; there = senior_there; fact = refl }))
      | inr k ↦ rs.only_roles a b k
    ]);
    named = λ p place bit. elim ((added_edges p0 q0 juniors within p place).0 bit) [
      | inl x ↦ rs.named p place x
      | inr x ↦ (b0, subst (λ k. At roles k b0) (sym x.1) junior_there)
    ];
    empty = λ p none j bit. elim ((added_edges p0 q0 juniors within p j).0 bit) [
      | inl x ↦ rs.empty p none j x
      | inr x ↦ cc (senior_there, subst (λ k. slice_get roles k ≡ Some None) x.0 none)
    ];
    places = rs.places;
    rows = length-set juniors p0 (with_place (slice_index juniors p0) q0) ∙ rs.rows;
  }

  abbrev pub the_disinheritance : Entry
  the_disinheritance = record { session = s; command = DeleteInheritance a0 b0 }

  role_still : (r : NameText) → IsRole (L ++ the_disinheritance ∷ []) r ↔ IsRole L r
  role_still r = untouched (λ before x. x.command ≡ AddRole r) (λ x. x.command ≡ DeleteRole r) L the_disinheritance
      (λ h. cc) (λ h. cc)

  edge_gone : (a b : NameText) → IsEdge (L ++ the_disinheritance ∷ []) a b ↔ (IsEdge L a b × ((a0 ≡ a) × (b0 ≡ b) → ⊥))
  edge_gone a b =
      let M : List Entry → Entry → Type 0 = λ before x. x.command ≡ AddInheritance a b in
      let U : Entry → Type 0 = λ x. (x.command ≡ DeleteInheritance a b) ⊎ (x.command ≡ DeleteRole a)
      ⊎ (x.command ≡ DeleteRole b) in (
        λ h. elim ((in_force_push M U L the_disinheritance).0 h) [
          | inl m ↦ cc
          | inr k ↦ (k.0, λ x. k.1 (inl (let u : a0 ≡ a = x.0 in let v : b0 ≡ b = x.1 in cc)))
        ],
        λ h. (in_force_push M U L the_disinheritance).1
            (inr (h.0, λ x. elim x [ inl y ↦ h.1 (cc, cc) | inr z ↦ elim z [ inl y ↦ cc | inr w ↦ cc ] ])),
      )

  pub disinheriting : RolesStand roles (edge_removed p0 q0 juniors) (L ++ the_disinheritance ∷ [])
  disinheriting = record {
    exist = λ r. through (role_still r) (rs.exist r);
    unique = rs.unique;
    edges = λ p r there j. (
      λ e.
          let k = (edge_gone r j).0 e in
          let m = (rs.edges p r there j).0 k.0 in
          record {
            place = m.place;
            there = m.there;
            bit = (removed_edges p0 q0 juniors within p m.place).1 (
              m.bit,
              λ it.
                  k.1 (
                    one_role roles p0 a0 r senior_there (subst (λ i. At roles i r) it.0 there),
                    one_role roles q0 b0 j junior_there (subst (λ i. At roles i j) it.1 m.there),
                  ),
            );
          },
      λ m.
          let x = (removed_edges p0 q0 juniors within p m.place).0 m.bit in
          (edge_gone r j).1 (
            (rs.edges p r there j).1 (record { place = m.place; there = m.there; bit = x.0 }),
            λ it. x.1 (
              rs.unique p p0 r there (subst (At roles p0) it.0 senior_there),
              rs.unique m.place q0 j m.there (subst (At roles q0) it.1 junior_there),
            ),
          ),
    );
    only_roles = λ a b e. (role_still a).1 (rs.only_roles a b ((edge_gone a b).0 e).0);
    named = λ p place bit. rs.named p place ((removed_edges p0 q0 juniors within p place).0 bit).0;
    empty = λ p none j bit. rs.empty p none j ((removed_edges p0 q0 juniors within p j).0 bit).0;
    places = rs.places;
    rows = length-set juniors p0 (without_place (slice_index juniors p0) q0) ∙ rs.rows;
  }
