-- The tables after a role was deleted: its place is free, and nothing has it.
use Rattle.std.proofs.Common.{◌≡◌, ℕ, ◌<◌, ◌⊎◌, ◌↔◌, List, [], ◌∷◌, ◌++◌, length, map, set, inl, inr, arith, sym, ◌∙◌}
use Rattle.std.proofs.Common.{ap, refl, subst}
use Rattle.std.specs.Prelude.{slice_get, Option, Some, None, Contains}
use Rattle.std.proofs.lemmas.Bool.{cases_eq}
use Rattle.std.proofs.lemmas.Option.{slice_get_within}
use Rattle.std.proofs.lemmas.List.{length-set, length-map}
use Rattle.rbac_closure.specs.Sets.{Has, without_place}
use Rattle.rbac_closure.specs.Edges.{role_cleared}
use Rattle.rbac_closure.proofs.SetLemmas.{has_without}
use Rattle.rbac_closure.proofs.EdgeLemmas.{cleared_edges}
use Rattle.rbac_policy.specs.declared.objects.Operation.{Operation}
use Rattle.rbac_policy.specs.declared.objects.Object.{Object}
use Rattle.rbac_policy.specs.declared.commands.AdminCommand.TheVariants.{AddUser, DeleteUser, AddRole, DeleteRole}
use Rattle.rbac_policy.specs.declared.commands.AdminCommand.TheVariants.{AssignUser, DeassignUser, GrantPermission}
use Rattle.rbac_policy.specs.declared.commands.AdminCommand.TheVariants.{RevokePermission, AddInheritance}
use Rattle.rbac_policy.specs.declared.commands.AdminCommand.TheVariants.{DeleteInheritance}
use Rattle.rbac_policy.specs.declared.commands.Entry.{Entry}
use Rattle.rbac_policy.specs.declared.rows.User.{User}
use Rattle.rbac_policy.specs.declared.rows.Grant.{Grant}
use Rattle.rbac_policy.specs.declared.rows.DsdSet.{DsdSet}
use Rattle.rbac_policy.specs.Names.{NameText}
use Rattle.rbac_policy.specs.Facts.{IsUser, IsRole, IsSet, IsAssigned, IsGranted, IsEdge}
use Rattle.rbac_policy.specs.Tables.{At, user_cleared, grant_cleared}
use Rattle.rbac_policy.specs.StandsFor.{InMask, IsNamed, UsersStand, RolesStand, GrantsStand, SetsStand}
use Rattle.rbac_policy.proofs.Steps.{in_force_push}
use Rattle.rbac_policy.proofs.OfRoles.Order.{one_role}
use Rattle.rbac_policy.proofs.Untouched.{untouched, through, untouched_sets}
use Rattle.rbac_policy.proofs.OfSeparation.Separating.{renamed_sets}
use Rattle.rbac_policy.proofs.OfSlots.Slots.{get_set_same, get_set_other}
use Rattle.rbac_policy.proofs.OfSlots.Mapping.{UserSlot, users_mapped, GrantSlot, grants_mapped}
use Rattle.rbac_policy.proofs.OfGrants.Revoking.{narrowed}

module _ (roles : List (Option NameText)) (juniors : List ℕ) (L : List Entry) (s : Option ℕ) (p0 : ℕ) (r0 : NameText)
    (there0 : At roles p0 r0) (rs : RolesStand roles juniors L) where
  abbrev pub the_deletion : Entry
  the_deletion = record { session = s; command = DeleteRole r0 }

  abbrev after : List (Option NameText)
  after = set roles p0 None

  inside : p0 < length roles
  inside = slice_get_within roles p0 (Some r0) there0

  within : p0 < length juniors
  within = omega (arith, inside, rs.places, rs.rows)

  -- the other roles keep their places
  pub before_deletion : (q : ℕ) (r : NameText) → At after q r → At roles q r × (q ≡ p0 → ⊥)
  before_deletion q r there = elim (cases_eq q p0) [
    | inl e ↦ absurd (cc (get_set_same roles p0 None inside, subst (λ k. slice_get after k ≡ Some (Some r)) e there))
    | inr d ↦ (sym (get_set_other roles p0 q None d) ∙ there, d)
  ]

  stays_there : (q : ℕ) (r : NameText) → At roles q r → (q ≡ p0 → ⊥) → At after q r
  stays_there q r there d = get_set_other roles p0 q None d ∙ there

  another : (q : ℕ) (r : NameText) → At roles q r → (r0 ≡ r → ⊥) → q ≡ p0 → ⊥
  another q r there d e = d (one_role roles p0 r0 r there0 (subst (λ k. At roles k r) e there))

  elsewhere : (q : ℕ) (r : NameText) → At roles q r → (q ≡ p0 → ⊥) → r0 ≡ r → ⊥
  elsewhere q r there d same = d (rs.unique q p0 r there (subst (At roles p0) same there0))

  -- the masks without the place have the other roles
  cleared_mask : (m : ℕ) (r : NameText) → (InMask roles m r × (r0 ≡ r → ⊥)) ↔ InMask after (without_place m p0) r
  cleared_mask m r = (
    λ h.
        let d = another h.0.place r h.0.there h.1 in
        record {
          place = h.0.place;
          there = stays_there h.0.place r h.0.there d;
          bit = (has_without m p0 h.0.place).1 (h.0.bit, d);
        },
    λ i.
        let old = before_deletion i.place r i.there in (
          record { place = i.place; there = old.0; bit = ((has_without m p0 i.place).0 i.bit).0 },
          elsewhere i.place r old.0 old.1,
        ),
  )

  cleared_named : (m : ℕ) → IsNamed roles m → IsNamed after (without_place m p0)
  cleared_named m named = λ p bit.
      let h = (has_without m p0 p).0 bit in
      let n = named p h.0 in
      (n.0, stays_there p n.0 n.1 h.1)

  user_same : (u : NameText) → IsUser (L ++ the_deletion ∷ []) u ↔ IsUser L u
  user_same u = untouched (λ before x. x.command ≡ AddUser u) (λ x. x.command ≡ DeleteUser u) L the_deletion (λ h. cc)
      (λ h. cc)

  assigned_push : (u r : NameText) → IsAssigned (L ++ the_deletion ∷ []) u r ↔ (IsAssigned L u r × (r0 ≡ r → ⊥))
  assigned_push u r =
      let M : List Entry → Entry → Type 0 = λ before x. x.command ≡ AssignUser u r in
      let U : Entry → Type 0 = λ x. (x.command ≡ DeassignUser u r) ⊎ (x.command ≡ DeleteUser u)
      ⊎ (x.command ≡ DeleteRole r) in (
        λ h. elim ((in_force_push M U L the_deletion).0 h) [
          | inl m ↦ cc
          | inr k ↦
              (k.0, λ same. k.1 (inr (inr (ap DeleteRole same))))
        ],
        λ h. (in_force_push M U L the_deletion).1
            (inr (h.0, λ x. elim x [ inl y ↦ cc | inr z ↦ elim z [ inl y ↦ cc | inr w ↦ h.1 cc ] ])),
      )

  granted_push : (r : NameText) (op : Operation) (ob : Object)
      → IsGranted (L ++ the_deletion ∷ []) r op ob ↔ (IsGranted L r op ob × (r0 ≡ r → ⊥))
  granted_push r op ob =
      let M : List Entry → Entry → Type 0 = λ before x. x.command ≡ GrantPermission r op ob in
      let U : Entry → Type 0 = λ x. (x.command ≡ RevokePermission r op ob) ⊎ (x.command ≡ DeleteRole r) in (
        λ h. elim ((in_force_push M U L the_deletion).0 h) [
          | inl m ↦ cc
          | inr k ↦
              (k.0, λ same. k.1 (inr (ap DeleteRole same)))
        ],
        λ h. (in_force_push M U L the_deletion).1 (inr (h.0, λ x. elim x [ inl y ↦ cc | inr w ↦ h.1 cc ])),
      )

  role_push : (r : NameText) → IsRole (L ++ the_deletion ∷ []) r ↔ (IsRole L r × (r0 ≡ r → ⊥))
  role_push r =
      let M : List Entry → Entry → Type 0 = λ before x. x.command ≡ AddRole r in
      let U : Entry → Type 0 = λ x. x.command ≡ DeleteRole r in (
        λ h. elim ((in_force_push M U L the_deletion).0 h) [
          | inl m ↦ cc
          | inr k ↦
              (k.0, λ same. k.1 (ap DeleteRole same))
        ],
        λ h. (in_force_push M U L the_deletion).1 (inr (h.0, λ x. h.1 cc)),
      )

  edge_push : (a b : NameText) → IsEdge (L ++ the_deletion ∷ []) a b ↔ (IsEdge L a b × (r0 ≡ a → ⊥) × (r0 ≡ b → ⊥))
  edge_push a b =
      let M : List Entry → Entry → Type 0 = λ before x. x.command ≡ AddInheritance a b in
      let U : Entry → Type 0 = λ x. (x.command ≡ DeleteInheritance a b) ⊎ (x.command ≡ DeleteRole a)
      ⊎ (x.command ≡ DeleteRole b) in (
        λ h. elim ((in_force_push M U L the_deletion).0 h) [
          | inl m ↦ cc
          | inr k ↦ (k.0, λ same. k.1 (inr (inl (ap DeleteRole same))), λ same. k.1 (inr (inr (ap DeleteRole same))))
        ],
        λ h. (in_force_push M U L the_deletion).1
            (inr (h.0, λ x. elim x [ inl y ↦ cc | inr z ↦ elim z [ inl y ↦ h.1 cc | inr w ↦ h.2 cc ] ])),
      )

  pub roles_deleted : RolesStand after (role_cleared p0 juniors) (L ++ the_deletion ∷ [])
  roles_deleted = record {
    exist = λ r. through (role_push r) (
      λ h.
          let k = (rs.exist r).0 h.0 in
          let there : At roles k.at r = subst (At roles k.at) k.fact k.there in
          record { at = k.at; value = r; there = stays_there k.at r there (another k.at r there h.1); fact = refl },
      λ h.
          let old = before_deletion h.at h.value h.there in
          let there : At roles h.at r = subst (At roles h.at) h.fact old.0 in
          ((rs.exist r).1 (record { at = h.at; value = r; there = there; fact = refl }), elsewhere h.at r there old.1),
    );
    unique = λ p q r a b. rs.unique p q r (before_deletion p r a).0 (before_deletion q r b).0;
    edges = λ p r there j.
        let old = before_deletion p r there in
        through (edge_push r j) (
          λ h.
              let m = (rs.edges p r old.0 j).0 h.0 in
              let d = another m.place j m.there h.2 in
              record {
                place = m.place;
                there = stays_there m.place j m.there d;
                bit = (cleared_edges p0 juniors within p m.place).1 (m.bit, old.1, d);
              },
          λ m.
              let x = (cleared_edges p0 juniors within p m.place).0 m.bit in
              let mine = before_deletion m.place j m.there in (
                (rs.edges p r old.0 j).1 (record { place = m.place; there = mine.0; bit = x.0 }),
                elsewhere p r old.0 old.1,
                elsewhere m.place j mine.0 mine.1,
              ),
        );
    only_roles = λ a b e. let h = (edge_push a b).0 e in (role_push a).1 (rs.only_roles a b h.0, h.1);
    named = λ p place bit.
        let x = (cleared_edges p0 juniors within p place).0 bit in
        let n = rs.named p place x.0 in
        (n.0, stays_there place n.0 n.1 x.2);
    empty = λ p none j bit.
        let x = (cleared_edges p0 juniors within p j).0 bit in
        rs.empty p (sym (get_set_other roles p0 p None x.1) ∙ none) j x.0;
    places = length-set roles p0 None ∙ rs.places;
    rows = length-set (map (λ (row : ℕ). without_place row p0) juniors) p0 0
        ∙ length-map juniors (λ (row : ℕ). without_place row p0) ∙ rs.rows;
  }

  module _ (users : List (Option User)) (us : UsersStand roles users L) where
    user_slot : (at : ℕ) (x : User) → At users at x → UserSlot after (L ++ the_deletion ∷ []) (user_cleared p0) x
    user_slot at x there = inr (
      record { name = x.name; roles = without_place x.roles p0 },
      refl,
      record {
        name = refl;
        stays = (user_same x.name).1 ((us.exist x.name).1 (record { at = at; value = x; there = there; fact = refl }));
        assigned = λ r. through (assigned_push x.name r) (through {B = InMask roles x.roles r × (r0 ≡ r → ⊥)} (
          λ h. ((us.assigned at x there r).0 h.0, h.1),
          λ h. ((us.assigned at x there r).1 h.0, h.1),
        ) (cleared_mask x.roles r));
        named = cleared_named x.roles (us.named at x there);
      },
    )

    pub users_deleted : UsersStand after (map (user_cleared p0) users) (L ++ the_deletion ∷ [])
    users_deleted = users_mapped roles after users L (L ++ the_deletion ∷ []) (user_cleared p0) refl us user_slot
        (λ u h. (user_same u).0 h)
        (λ u r a. (user_same u).1 (us.only_users u r ((assigned_push u r).0 a).0))

  module _ (grants : List (Option Grant)) (gs : GrantsStand roles grants L) where
    grant_slot : (at : ℕ) (x : Grant) → At grants at x → GrantSlot after (L ++ the_deletion ∷ []) (grant_cleared p0) x
    grant_slot at x there = narrowed after (L ++ the_deletion ∷ []) x (without_place x.roles p0)
        (λ r. through (granted_push r x.operation x.object) (through {B = InMask roles x.roles r × (r0 ≡ r → ⊥)} (
          λ h. ((gs.granted at x there r).0 h.0, h.1),
          λ h. ((gs.granted at x there r).1 h.0, h.1),
        ) (cleared_mask x.roles r)))
        (cleared_named x.roles (gs.named at x there)) (grant_cleared p0 (Some x)) refl

    pub grants_deleted : GrantsStand after (map (grant_cleared p0) grants) (L ++ the_deletion ∷ [])
    grants_deleted = grants_mapped roles after grants L (L ++ the_deletion ∷ []) (grant_cleared p0) refl gs grant_slot
        (λ r op ob h. ((granted_push r op ob).0 h).0)

  -- a set that doesn't have the role keeps its mask
  module _ (sets : List (Option DsdSet)) (ss : SetsStand roles sets L)
      (in_no_set : (place : ℕ) (name : NameText) (count : ℕ) (members : List NameText)
      → IsSet L place name count members → Contains members r0 → ⊥) where
    not_its : (at : ℕ) (x : DsdSet) → At sets at x → InMask roles x.roles r0 → ⊥
    not_its at x there mine = let m = ss.made at x there in
        in_no_set x.place x.name x.count m.0 m.1 ((m.2.members r0).1 mine)

    other_place : (at : ℕ) (x : DsdSet) → At sets at x → (p : ℕ) → Has x.roles p → p ≡ p0 → ⊥
    other_place at x there p bit same = not_its at x there
        (record { place = p0; there = there0; bit = subst (Has x.roles) same bit })

    pub sets_deleted : SetsStand after sets (L ++ the_deletion ∷ [])
    sets_deleted = renamed_sets roles after sets (L ++ the_deletion ∷ []) (λ at x there r. (
      λ i. record {
        place = i.place;
        there = stays_there i.place r i.there (other_place at x there i.place i.bit);
        bit = i.bit;
      },
      λ i. record { place = i.place; there = (before_deletion i.place r i.there).0; bit = i.bit },
    )) (λ at x there p bit. let n = ss.named at x there p bit in
        (n.0, stays_there p n.0 n.1 (other_place at x there p bit)))
        (untouched_sets roles sets L the_deletion refl ss)
