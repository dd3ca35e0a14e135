-- Tables whose slots were changed one by one.
use Rattle.std.proofs.Common.{◌≡◌, ℕ, ◌≤◌, ◌⊎◌, ◌↔◌, List, [], ◌∷◌, ◌++◌, length, map, inl, inr, sym, ◌∙◌, subst, false}
use Rattle.std.specs.Prelude.{Option, Some, None}
use Rattle.std.proofs.lemmas.Option.{same_Some}
use Rattle.std.proofs.lemmas.List.{length-map}
use Rattle.rbac_closure.specs.Sets.{Has}
use Rattle.rbac_policy.specs.declared.sizes.TheConstants.{ROLES}
use Rattle.rbac_policy.specs.declared.objects.Operation.{Operation}
use Rattle.rbac_policy.specs.declared.objects.Object.{Object}
use Rattle.rbac_policy.specs.declared.commands.Entry.{Entry}
use Rattle.rbac_policy.specs.declared.rows.User.{User}
use Rattle.rbac_policy.specs.declared.rows.Grant.{Grant}
use Rattle.rbac_policy.specs.declared.rows.Session.{Session}
use Rattle.rbac_policy.specs.Entries.{logins, is_login}
use Rattle.rbac_policy.specs.Names.{NameText}
use Rattle.rbac_policy.specs.Facts.{IsUser, IsAssigned, IsGranted, IsActive, Ends}
use Rattle.rbac_policy.specs.Tables.{At}
use Rattle.rbac_policy.specs.StandsFor.{InMask, IsNamed, UsersStand, GrantsStand, SessionsStand}
use Rattle.rbac_policy.proofs.OfSessions.Ended.{Unswept}
use Rattle.rbac_policy.proofs.OfSlots.Slots.{mapped, map_at}
use Rattle.rbac_policy.proofs.Untouched.{logins_other, not_by_login}

-- the user in a slot after the change of the slots
pub record UserBecomes (after : List (Option NameText)) (new : List Entry) (x y : User) : Type 0 where
  pub name : x.name ≡ y.name
  pub stays : IsUser new x.name
  pub assigned : (r : NameText) → IsAssigned new y.name r ↔ InMask after y.roles r
  pub named : IsNamed after y.roles

-- a slot of a user after the change: the user is none any more, or has other roles
abbrev pub UserSlot : List (Option NameText) → List Entry → (Option User → Option User) → User → Type 0
UserSlot after new f x = ((f (Some x) ≡ None) × (IsUser new x.name → ⊥))
    ⊎ ((y : User) × (f (Some x) ≡ Some y) × UserBecomes after new x y)

module _ (before after : List (Option NameText)) (users : List (Option User)) (old new : List Entry)
    (f : Option User → Option User) (none : f None ≡ None) (us : UsersStand before users old)
    (slots : (at : ℕ) (x : User) → At users at x → UserSlot after new f x) where
  user_before : (at : ℕ) (y : User) → At (map f users) at y → (x : User) × At users at x × UserBecomes after new x y
  user_before at y there =
      let m = mapped f users at y none there in
      elim (slots at m.value m.there) [
        | inl gone ↦ (let e = gone.0 in let g = m.gives in cc)
        | inr k ↦ (m.value, m.there, subst (UserBecomes after new m.value) (same_Some k.0 y (sym k.1 ∙ m.gives)) k.2)
      ]

  pub users_mapped : ((u : NameText) → IsUser new u → IsUser old u)
      → ((u r : NameText) → IsAssigned new u r → IsUser new u) → UsersStand after (map f users) new
  users_mapped no_more only = record {
    exist = λ u. (
      λ h.
          let k = (us.exist u).0 (no_more u h) in
          elim (slots k.at k.value k.there) [
            | inl gone ↦ absurd (gone.1 (subst (IsUser new) (sym k.fact) h))
            | inr y ↦
                record {
                  at = k.at;
                  value = y.0;
                  there = map_at f users k.at k.value y.0 k.there y.1;
                  fact = sym y.2.name ∙ k.fact;
                }
          ],
      λ h. let x = user_before h.at h.value h.there in subst (IsUser new) (x.2.name ∙ h.fact) x.2.stays,
    );
    assigned = λ at y there r. (user_before at y there).2.assigned r;
    only_users = only;
    named = λ at y there. (user_before at y there).2.named;
    unique = λ p q y z a b same.
        let m = user_before p y a in
        let n = user_before q z b in
        us.unique p q m.0 n.0 m.1 n.1 (m.2.name ∙ same ∙ sym n.2.name);
    places = length-map users f ∙ us.places;
  }

-- the pair in a slot after the change of the slots
pub record GrantBecomes (after : List (Option NameText)) (new : List Entry) (x y : Grant) : Type 0 where
  pub operation : x.operation ≡ y.operation
  pub object : x.object ≡ y.object
  pub granted : (r : NameText) → IsGranted new r y.operation y.object ↔ InMask after y.roles r
  pub named : IsNamed after y.roles
  pub used : (place : ℕ) × Has y.roles place

-- a slot of a pair after the change: no role has it any more, or others have it
abbrev pub GrantSlot : List (Option NameText) → List Entry → (Option Grant → Option Grant) → Grant → Type 0
GrantSlot after new f x = ((f (Some x) ≡ None) × ((r : NameText) → IsGranted new r x.operation x.object → ⊥))
    ⊎ ((y : Grant) × (f (Some x) ≡ Some y) × GrantBecomes after new x y)

module _ (before after : List (Option NameText)) (grants : List (Option Grant)) (old new : List Entry)
    (f : Option Grant → Option Grant) (none : f None ≡ None) (gs : GrantsStand before grants old)
    (slots : (at : ℕ) (x : Grant) → At grants at x → GrantSlot after new f x) where
  grant_before : (at : ℕ) (y : Grant) → At (map f grants) at y
      → (x : Grant) × At grants at x × GrantBecomes after new x y
  grant_before at y there =
      let m = mapped f grants at y none there in
      elim (slots at m.value m.there) [
        | inl gone ↦ (let e = gone.0 in let g = m.gives in cc)
        | inr k ↦ (m.value, m.there, subst (GrantBecomes after new m.value) (same_Some k.0 y (sym k.1 ∙ m.gives)) k.2)
      ]

  pub grants_mapped : ((r : NameText) (op : Operation) (ob : Object) → IsGranted new r op ob → IsGranted old r op ob)
      → GrantsStand after (map f grants) new
  grants_mapped no_more = record {
    granted = λ at y there r. (grant_before at y there).2.granted r;
    only_pairs = λ r op ob h.
        let k = gs.only_pairs r op ob (no_more r op ob h) in
        elim (slots k.at k.value k.there) [
          | inl gone ↦
              absurd (gone.1 r
              (subst (λ o. IsGranted new r o k.value.object) (sym k.fact.0)
              (subst (IsGranted new r op) (sym k.fact.1) h)))
          | inr y ↦
              record {
                at = k.at;
                value = y.0;
                there = map_at f grants k.at k.value y.0 k.there y.1;
                fact = (sym y.2.operation ∙ k.fact.0, sym y.2.object ∙ k.fact.1);
              }
        ];
    named = λ at y there. (grant_before at y there).2.named;
    used = λ at y there. (grant_before at y there).2.used;
    unique = λ p q y z a b same_op same_ob.
        let m = grant_before p y a in
        let n = grant_before q z b in
        gs.unique p q m.0 n.0 m.1 n.1 (m.2.operation ∙ same_op ∙ sym n.2.operation)
        (m.2.object ∙ same_ob ∙ sym n.2.object);
    places = length-map grants f ∙ gs.places;
  }

-- the session in a slot after the change of the slots
pub record SessionBecomes (roles : List (Option NameText)) (L : List Entry) (e : Entry) (x y : Session) : Type 0 where
  pub number : x.number ≡ y.number
  pub user : x.user ≡ y.user
  pub stays : Ends x.number x.user e → ⊥
  pub active : (r : NameText) → IsActive (L ++ e ∷ []) y.number r ↔ InMask roles y.active r
  pub named : IsNamed roles y.active

-- a slot of a session after the change: the entry ends it, or other roles are active in it
abbrev pub SessionSlot : List (Option NameText) → List Entry → Entry → (Option Session → Option Session) → Session
    → Type 0
SessionSlot roles L e f x = ((f (Some x) ≡ None) × Ends x.number x.user e)
    ⊎ ((y : Session) × (f (Some x) ≡ Some y) × SessionBecomes roles L e x y)

module _ (roles : List (Option NameText)) (sessions : List (Option Session)) (L : List Entry) (e : Entry)
    (f : Option Session → Option Session) (none : f None ≡ None) (ss : SessionsStand roles sessions L)
    (slots : (at : ℕ) (x : Session) → At sessions at x → SessionSlot roles L e f x) where
  session_before : (at : ℕ) (y : Session) → At (map f sessions) at y
      → (x : Session) × At sessions at x × SessionBecomes roles L e x y
  session_before at y there =
      let m = mapped f sessions at y none there in
      elim (slots at m.value m.there) [
        | inl gone ↦ (let e = gone.0 in let g = m.gives in cc)
        | inr k ↦ (m.value, m.there, subst (SessionBecomes roles L e m.value) (same_Some k.0 y (sym k.1 ∙ m.gives)) k.2)
      ]

  pub sessions_mapped : is_login e ≡ false → ((p q : ℕ) (r : NameText) → At roles p r → At roles q r → p ≡ q)
      → length roles ≡ ROLES
      → ((n : ℕ) (r : NameText) → IsActive (L ++ e ∷ []) n r → n ≤ logins L) → Unswept roles (map f sessions) L e
  sessions_mapped quiet unique many made = record {
    exist = λ n u. (
      λ h. elim h [
        | inl m ↦ absurd (not_by_login e u m.roles quiet m.creates.login)
        | inr l ↦
            let k = (ss.exist n u).0 l.0 in
            elim (slots k.at k.value k.there) [
              | inl gone ↦
                  absurd (l.1 (subst (λ v. Ends n v e) k.fact.1 (subst (λ i. Ends i k.value.user e) k.fact.0 gone.1)))
              | inr y ↦
                  record {
                    at = k.at;
                    value = y.0;
                    there = map_at f sessions k.at k.value y.0 k.there y.1;
                    fact = (sym y.2.number ∙ k.fact.0, sym y.2.user ∙ k.fact.1);
                  }
            ]
      ],
      λ h.
          let x = session_before h.at h.value h.there in
          let number : x.0.number ≡ n = x.2.number ∙ h.fact.0 in
          let user : x.0.user ≡ u = x.2.user ∙ h.fact.1 in
          inr (
            (ss.exist n u).1 (record { at = h.at; value = x.0; there = x.1; fact = (number, user) }),
            λ ends. x.2.stays (subst (λ i. Ends i x.0.user e) (sym number) (subst (λ v. Ends n v e) (sym user) ends)),
          ),
    );
    active = λ at y there r. (session_before at y there).2.active r;
    named = λ at y there. (session_before at y there).2.named;
    numbers = λ at y there.
        let x = session_before at y there in
        subst (λ k. y.number ≤ k) (sym (logins_other L e quiet))
        (subst (λ i. i ≤ logins L) x.2.number (ss.numbers at x.0 x.1));
    made = λ n r a. subst (λ k. n ≤ k) (sym (logins_other L e quiet)) (made n r a);
    unique = unique;
    many = many;
    once = λ p q y z a b same.
        let m = session_before p y a in
        let n = session_before q z b in
        ss.unique p q m.0 n.0 m.1 n.1 (m.2.number ∙ same ∙ sym n.2.number);
    places = length-map sessions f ∙ ss.places;
  }
