-- The sweep leaves the sessions that live.
use Rattle.std.proofs.Common.{◌≡◌, ℕ, ◌≤◌, ◌↔◌, List, [], ◌∷◌, ◌++◌, length, map, sym, ◌∙◌, subst}
use Rattle.std.specs.Prelude.{Option}
use Rattle.rbac_policy.specs.declared.sizes.TheConstants.{ROLES, SESSIONS}
use Rattle.rbac_closure.specs.Sets.{Has}
use Rattle.rbac_closure.specs.Edges.{IsBelowSome}
use Rattle.rbac_policy.specs.declared.commands.Entry.{Entry}
use Rattle.rbac_policy.specs.declared.rows.User.{User}
use Rattle.rbac_policy.specs.declared.rows.Session.{Session}
use Rattle.rbac_policy.specs.Entries.{logins}
use Rattle.rbac_policy.specs.Facts.{IsActive, IsAuthorized}
use Rattle.rbac_policy.specs.Names.{NameText}
use Rattle.rbac_policy.specs.Tables.{At, roles_of, session_kept}
use Rattle.rbac_policy.specs.StandsFor.{Holds, InMask, IsNamed, IsKeyed, UsersStand, RolesStand, SessionsStand}
use Rattle.rbac_policy.proofs.OfRoles.Order.{one_role, authorized_below, below_authorized, below_named}
use Rattle.rbac_policy.proofs.OfSessions.Lives.{Remains, lives_after, lives_before}
use Rattle.rbac_policy.proofs.OfSessions.Sweep.{IsSwept, HasOnlyBelow, swept_sessions}

-- before the sweep the slots have the sessions that remain, with the roles that are active in them by the names of
-- `before`
pub record Unswept (before : List (Option NameText)) (sessions : List (Option Session)) (L : List Entry)
    (e : Entry) : Type 0 where
  pub exist : (number : ℕ) (user : NameText) → Remains L e number user
      ↔ Holds (λ x. (x.number ≡ number) × (x.user ≡ user)) sessions
  pub active : (at : ℕ) (x : Session) → At sessions at x → (role : NameText)
      → IsActive (L ++ e ∷ []) x.number role ↔ InMask before x.active role
  pub named : (at : ℕ) (x : Session) → At sessions at x → IsNamed before x.active
  pub numbers : (at : ℕ) (x : Session) → At sessions at x → x.number ≤ logins (L ++ e ∷ [])
  pub made : (number : ℕ) (role : NameText) → IsActive (L ++ e ∷ []) number role → number ≤ logins (L ++ e ∷ [])
  pub unique : (p q : ℕ) (role : NameText) → At before p role → At before q role → p ≡ q
  pub many : length before ≡ ROLES
  pub once : IsKeyed (λ (x : Session). x.number) sessions
  pub places : length sessions ≡ SESSIONS

module _ (before roles : List (Option NameText)) (keeps : (p : ℕ) (r : NameText) → At roles p r → At before p r)
    (juniors : List ℕ) (users : List (Option User)) (mid : List (Option Session)) (L : List Entry) (e : Entry)
    (rs : RolesStand roles juniors (L ++ e ∷ [])) (us : UsersStand roles users (L ++ e ∷ []))
    (un : Unswept before mid L e) where
  abbrev new : List (Option Session)
  new = map (session_kept users juniors) mid

  sw : IsSwept users juniors mid new
  sw = swept_sessions users juniors mid

  -- a role that is active in a slot that was left has its place still
  still : (at : ℕ) (x : Session) → At new at x → (p : ℕ) → Has x.active p → (r : NameText) × At roles p r
  still at x there p bit = below_named roles juniors users (L ++ e ∷ []) rs us x.user p ((sw.left at x there).1 p bit)

  all : SessionsStand roles new (L ++ e ∷ [])
  all = record {
    exist = λ s u. (
      λ lives.
          let after = lives_after L e s u lives in
          let h = (un.exist s u).0 after.0 in
          let x = h.value in
          let only : HasOnlyBelow users juniors x = λ p bit.
          let named = un.named h.at x h.there p bit in
          let r = named.0 in
          let active = (un.active h.at x h.there r).1 (record { place = p; there = named.1; bit = bit }) in
          let a = after.1 r (subst (λ n. IsActive (L ++ e ∷ []) n r) h.fact.0 active) in
          let b = authorized_below roles juniors users (L ++ e ∷ []) rs us u r a in
          let same : b.0 ≡ p = un.unique b.0 p r (keeps b.0 r b.1) named.1 in
          subst (λ n. IsBelowSome juniors (roles_of n users) p) (sym h.fact.1)
          (subst (IsBelowSome juniors (roles_of u users)) same b.2)
          in record { at = h.at; value = x; there = sw.stays h.at x h.there only; fact = h.fact },
      λ h.
          let x = h.value in
          let l = sw.left h.at x h.there in
          let remains = (un.exist s u).1 (record { at = h.at; value = x; there = l.0; fact = h.fact }) in
          lives_before L e s u remains (λ r active.
          let m = (un.active h.at x l.0 r).0 (subst (λ n. IsActive (L ++ e ∷ []) n r) (sym h.fact.0) active) in
          let named = still h.at x h.there m.place m.bit in
          let same = one_role before m.place named.0 r (keeps m.place named.0 named.1) m.there in
          let a = below_authorized roles juniors users (L ++ e ∷ []) rs us x.user named.0 m.place named.1
          (l.1 m.place m.bit) in
          subst (λ n. IsAuthorized (L ++ e ∷ []) n r) h.fact.1 (subst (IsAuthorized (L ++ e ∷ []) x.user) same a)),
    );
    active = λ at x there r.
        let l = sw.left at x there in (
          λ active.
              let m = (un.active at x l.0 r).0 active in
              let named = still at x there m.place m.bit in
              let same = one_role before m.place named.0 r (keeps m.place named.0 named.1) m.there in
              record { place = m.place; there = subst (At roles m.place) same named.1; bit = m.bit },
          λ m. (un.active at x l.0 r).1 (record { place = m.place; there = keeps m.place r m.there; bit = m.bit }),
        );
    named = still;
    numbers = λ at x there. un.numbers at x (sw.left at x there).0;
    made = un.made;
    unique = λ p q x y a b same. un.once p q x y (sw.left p x a).0 (sw.left q y b).0 same;
    places = sw.same ∙ un.places;
  }

  pub swept_stand : SessionsStand roles (map (session_kept users juniors) mid) (L ++ e ∷ [])
  swept_stand = all
