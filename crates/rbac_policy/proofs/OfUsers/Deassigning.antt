-- The table of users after a role was taken from a user, and after a user was removed; the sessions after the latter,
-- before the sweep.
use Rattle.std.proofs.Common.{◌≡◌, ℕ, ◌<◌, ◌⊎◌, ◌↔◌, List, [], ◌∷◌, ◌++◌, length, map, cond, inl, inr, sym, ◌∙◌, ap}
use Rattle.std.proofs.Common.{refl, true, false, Bool}
use Rattle.std.specs.Prelude.{Option, Some, None}
use Rattle.std.specs.Str.{bytes_eq}
use Rattle.std.proofs.lemmas.Slice.Eq.{bytes_eq-Decides}
use Rattle.std.proofs.lemmas.Bool.{false≢true}
use Rattle.rbac_closure.specs.Sets.{without_place}
use Rattle.rbac_policy.specs.declared.sizes.TheConstants.{ROLES}
use Rattle.rbac_policy.specs.declared.commands.AdminCommand.TheVariants.{AddUser, DeleteUser, DeleteRole, AssignUser}
use Rattle.rbac_policy.specs.declared.commands.AdminCommand.TheVariants.{DeassignUser}
use Rattle.rbac_policy.specs.declared.commands.Entry.{Entry}
use Rattle.rbac_policy.specs.declared.rows.User.{User}
use Rattle.rbac_policy.specs.declared.rows.Session.{Session}
use Rattle.rbac_policy.specs.Names.{NameText}
use Rattle.rbac_policy.specs.Facts.{IsUser, IsAssigned, IsActive, CreatesWith, Activates, Drops}
use Rattle.rbac_policy.specs.Tables.{At, user_deassigned, user_without, session_of_other}
use Rattle.rbac_policy.specs.StandsFor.{InMask, UsersStand, SessionsStand}
use Rattle.rbac_policy.proofs.Steps.{in_force_push}
use Rattle.rbac_policy.proofs.OfSessions.Ended.{Unswept}
use Rattle.rbac_policy.proofs.Untouched.{through, untouched}
use Rattle.rbac_policy.proofs.OfGrants.Granting.{flip}
use Rattle.rbac_policy.proofs.OfSlots.Mapping.{UserSlot, users_mapped, SessionSlot, sessions_mapped}
use Rattle.rbac_policy.proofs.OfSlots.Slots.{in_without_place, named_without_place}

module _ (roles : List (Option NameText)) (unique : (p q : ℕ) (r : NameText) → At roles p r → At roles q r → p ≡ q)
    (p0 : ℕ) (r0 : NameText) (there0 : At roles p0 r0) (low : p0 < ROLES)
    (users : List (Option User)) (L : List Entry) (s : Option ℕ) (u0 : NameText) (us : UsersStand roles users L) where
  abbrev pub the_deassignment : Entry
  the_deassignment = record { session = s; command = DeassignUser u0 r0 }

  user_same : (u : NameText) → IsUser (L ++ the_deassignment ∷ []) u ↔ IsUser L u
  user_same u = untouched (λ before x. x.command ≡ AddUser u) (λ x. x.command ≡ DeleteUser u) L the_deassignment
      (λ h. cc) (λ h. cc)

  taken_push : (u r : NameText) → IsAssigned (L ++ the_deassignment ∷ []) u r
      ↔ (IsAssigned L u r × ((u0 ≡ u) × (r0 ≡ r) → ⊥))
  taken_push u r =
      let M : List Entry → Entry → Type 0 = λ before x. x.command ≡ AssignUser u r in
      let U : Entry → Type 0 = λ x. (x.command ≡ DeassignUser u r) ⊎ (x.command ≡ DeleteUser u)
      ⊎ (x.command ≡ DeleteRole r) in (
        λ h. elim ((in_force_push M U L the_deassignment).0 h) [
          | inl m ↦ cc
          | inr k ↦ (k.0, λ x. k.1 (inl (let a : u0 ≡ u = x.0 in let b : r0 ≡ r = x.1 in cc)))
        ],
        λ h. (in_force_push M U L the_deassignment).1
            (inr (h.0, λ x. elim x [ inl y ↦ h.1 (cc, cc) | inr z ↦ elim z [ inl y ↦ cc | inr w ↦ cc ] ])),
      )

  slot : (at : ℕ) (x : User) → At users at x → UserSlot roles (L ++ the_deassignment ∷ []) (user_deassigned u0 p0) x
  slot at x there = by_test (bytes_eq x.name u0) refl where
    new : User
    new = record { name = x.name; roles = without_place x.roles p0 }

    still : IsUser (L ++ the_deassignment ∷ []) x.name
    still = (user_same x.name).1 ((us.exist x.name).1 (record { at = at; value = x; there = there; fact = refl }))

    by_test : (b : Bool) → bytes_eq x.name u0 ≡ b → UserSlot roles (L ++ the_deassignment ∷ [])
        (user_deassigned u0 p0) x
    by_test true e =
        let same = (bytes_eq-Decides x.name u0).0 e in
        inr (
          new,
          ap (λ b. cond b (Some new) (Some x)) e,
          record {
            name = refl;
            stays = still;
            assigned = λ r. through (taken_push x.name r) (through {B = InMask roles x.roles r × (r0 ≡ r → ⊥)} (
              λ h. ((us.assigned at x there r).0 h.0, λ q. h.1 (sym same, q)),
              λ h. ((us.assigned at x there r).1 h.0, λ q. h.1 q.1),
            ) (flip (in_without_place roles unique p0 r0 there0 low x.roles r)));
            named = named_without_place roles unique p0 r0 there0 low x.roles (us.named at x there);
          },
        )
    by_test false e = inr (
      x,
      ap (λ b. cond b (Some new) (Some x)) e,
      record {
        name = refl;
        stays = still;
        assigned = λ r. through (taken_push x.name r) (
          λ h. (us.assigned at x there r).0 h.0,
          λ m. ((us.assigned at x there r).1 m, λ q. false≢true (sym e ∙ (bytes_eq-Decides x.name u0).1 (sym q.0))),
        );
        named = us.named at x there;
      },
    )

  pub deassigning : UsersStand roles (map (user_deassigned u0 p0) users) (L ++ the_deassignment ∷ [])
  deassigning = users_mapped roles roles users L (L ++ the_deassignment ∷ []) (user_deassigned u0 p0) refl us slot
      (λ u h. (user_same u).0 h)
      (λ u r a. (user_same u).1 (us.only_users u r ((taken_push u r).0 a).0))

module _ (roles : List (Option NameText)) (L : List Entry) (s : Option ℕ) (u0 : NameText) where
  abbrev pub the_removal : Entry
  the_removal = record { session = s; command = DeleteUser u0 }

  user_push : (u : NameText) → IsUser (L ++ the_removal ∷ []) u ↔ (IsUser L u × (u0 ≡ u → ⊥))
  user_push u =
      let M : List Entry → Entry → Type 0 = λ before x. x.command ≡ AddUser u in
      let U : Entry → Type 0 = λ x. x.command ≡ DeleteUser u in (
        λ h. elim ((in_force_push M U L the_removal).0 h) [
          | inl m ↦ cc
          | inr k ↦
              (k.0, λ same. k.1 (ap DeleteUser same))
        ],
        λ h. (in_force_push M U L the_removal).1 (inr (h.0, λ x. h.1 cc)),
      )

  assigned_push : (u r : NameText) → IsAssigned (L ++ the_removal ∷ []) u r ↔ (IsAssigned L u r × (u0 ≡ u → ⊥))
  assigned_push u r =
      let M : List Entry → Entry → Type 0 = λ before x. x.command ≡ AssignUser u r in
      let U : Entry → Type 0 = λ x. (x.command ≡ DeassignUser u r) ⊎ (x.command ≡ DeleteUser u)
      ⊎ (x.command ≡ DeleteRole r) in (
        λ h. elim ((in_force_push M U L the_removal).0 h) [
          | inl m ↦ cc
          | inr k ↦
              (k.0, λ same. k.1 (inr (inl (ap DeleteUser same))))
        ],
        λ h. (in_force_push M U L the_removal).1
            (inr (h.0, λ x. elim x [ inl y ↦ cc | inr z ↦ elim z [ inl y ↦ h.1 cc | inr w ↦ cc ] ])),
      )

  module _ (users : List (Option User)) (us : UsersStand roles users L) where
    gone_slot : (at : ℕ) (x : User) → At users at x → UserSlot roles (L ++ the_removal ∷ []) (user_without u0) x
    gone_slot at x there = by_test (bytes_eq x.name u0) refl where
      by_test : (b : Bool) → bytes_eq x.name u0 ≡ b → UserSlot roles (L ++ the_removal ∷ []) (user_without u0) x
      by_test true e =
          inl (
            ap (λ b. cond b None (Some x)) e,
            λ h. ((user_push x.name).0 h).1
                (sym ((bytes_eq-Decides x.name u0).0 e)),
          )
      by_test false e =
          let other : u0 ≡ x.name → ⊥ = λ q. false≢true (sym e ∙ (bytes_eq-Decides x.name u0).1 (sym q)) in
          inr (
            x,
            ap (λ b. cond b None (Some x)) e,
            record {
              name = refl;
              stays = (user_push x.name).1
                  ((us.exist x.name).1 (record { at = at; value = x; there = there; fact = refl }), other);
              assigned = λ r. through (assigned_push x.name r)
                  (λ h. (us.assigned at x there r).0 h.0, λ m. ((us.assigned at x there r).1 m, other));
              named = us.named at x there;
            },
          )

    pub removing : UsersStand roles (map (user_without u0) users) (L ++ the_removal ∷ [])
    removing = users_mapped roles roles users L (L ++ the_removal ∷ []) (user_without u0) refl us gone_slot
        (λ u h. ((user_push u).0 h).0)
        (λ u r a. let h = (assigned_push u r).0 a in (user_push u).1 (us.only_users u r h.0, h.1))

  module _ (unique : (p q : ℕ) (r : NameText) → At roles p r → At roles q r → p ≡ q) (many : length roles ≡ ROLES)
      (sessions : List (Option Session)) (ss : SessionsStand roles sessions L) where
    still_active : (n : ℕ) (r : NameText) → IsActive (L ++ the_removal ∷ []) n r ↔ IsActive L n r
    still_active n r = untouched (λ before e. CreatesWith n r before e ⊎ Activates n r e) (Drops n r) L the_removal
        (λ m. elim m [ inl a ↦ (let h = a.creates.login in cc) | inr b ↦ (let h = b.1 in cc) ])
        (λ u. let h = u.1 in cc)

    ended_slot : (at : ℕ) (x : Session) → At sessions at x → SessionSlot roles L the_removal (session_of_other u0) x
    ended_slot at x there = by_test (bytes_eq x.user u0) refl where
      by_test : (b : Bool) → bytes_eq x.user u0 ≡ b → SessionSlot roles L the_removal (session_of_other u0) x
      by_test true e =
          inl (ap (λ b. cond b None (Some x)) e, inr (ap DeleteUser (sym ((bytes_eq-Decides x.user u0).0 e))))
      by_test false e = inr (
        x,
        ap (λ b. cond b None (Some x)) e,
        record {
          number = refl;
          user = refl;
          stays = λ ends. elim ends [
            | inl a ↦ (let h = a.1 in cc)
            | inr b ↦
                false≢true (sym e ∙ (bytes_eq-Decides x.user u0).1 cc)
          ];
          active = λ r. through (still_active x.number r) (ss.active at x there r);
          named = ss.named at x there;
        },
      )

    pub ended_unswept : Unswept roles (map (session_of_other u0) sessions) L the_removal
    ended_unswept = sessions_mapped roles sessions L the_removal
        (session_of_other u0) refl ss ended_slot refl unique many (λ n r a. ss.made n r ((still_active n r).0 a))
