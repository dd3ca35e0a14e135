-- What the readers of assignments and active roles say of the list of entries.
use Rattle.std.proofs.Common.{inl, inr, ◌≡◌, ℕ, ◌↔◌, List, sym, ◌∙◌, ap, refl, subst, Bool, IsTrue, arith}
use Rattle.std.specs.Prelude.{Some, None, ◌==◌}
use Rattle.std.proofs.lemmas.Bool.Decides.{Decides-eqb}
use Rattle.std.proofs.lemmas.Nat.Bits.{bit_at-zero}
use Rattle.std.proofs.lemmas.Option.{same_Some}
use Rattle.rbac_policy.specs.declared.commands.Entry.{Entry}
use Rattle.rbac_policy.specs.declared.rows.Session.{Session}
use Rattle.rbac_policy.specs.declared.policy.Policy.{Policy}
use Rattle.rbac_policy.specs.Names.{NameText}
use Rattle.rbac_closure.specs.Sets.{Has}
use Rattle.rbac_policy.specs.Facts.{IsRole, IsAssigned, IsActive, IsLive, Lives}
use Rattle.rbac_policy.specs.Tables.{At, roles_of, place_of, session_of}
use Rattle.rbac_policy.specs.StandsFor.{InMask, StandsFor}
use Rattle.rbac_policy.proofs.OfRoles.Order.{find_user}
use Rattle.rbac_policy.proofs.Asking.{first_cases, role_at}

module _ (p : Policy) (L : List Entry) (st : StandsFor p L) where
  -- the bit of a role's place is that of the role
  pub in_mask : (r : NameText) (mask place : ℕ) → place_of r p.roles ≡ Some place
      → InMask p.roles mask r ↔ Has mask place
  in_mask r mask place found =
      let there = role_at p L st r place found in (
        λ m. subst (Has mask) (st.roles.unique m.place place r m.there there) m.bit,
        λ bit. record { place = place; there = there; bit = bit },
      )

  -- a role in a mask is there
  pub mask_role : (r : NameText) (mask : ℕ) → InMask p.roles mask r → IsRole L r
  mask_role r mask m = (st.roles.exist r).1 (record { at = m.place; value = r; there = m.there; fact = refl })

  pub role_is_there : (r : NameText) (place : ℕ) → place_of r p.roles ≡ Some place → IsRole L r
  role_is_there r place found =
      (st.roles.exist r).1 (record { at = place; value = r; there = role_at p L st r place found; fact = refl })

  -- a role that is assigned to a user is there
  pub assigned_role : (u r : NameText) → IsAssigned L u r → IsRole L r
  assigned_role u r a =
      let h = (st.users.exist u).0 (st.users.only_users u r a) in
      mask_role r h.value.roles
      ((st.users.assigned h.at h.value h.there r).0 (subst (λ n. IsAssigned L n r) (sym h.fact) a))

  pub assigned_test : (u r : NameText) (mask place : ℕ) (b : Bool) → place_of r p.roles ≡ Some place
      → mask ≡ roles_of u p.users
      → IsTrue b ↔ Has mask place → IsTrue b ↔ IsAssigned L u r
  assigned_test u r mask place b found is test = elim (find_user u p.users) [
    | inl f ↦
        let same : mask ≡ f.user.roles = is ∙ f.mask in
        let slot = st.users.assigned f.at f.user f.there r in
        let bit = in_mask r f.user.roles place found in (
          λ t. subst (λ n. IsAssigned L n r) f.name (slot.1 (bit.1 (subst (λ m. Has m place) same (test.0 t)))),
          λ a. test.1
              (subst (λ m. Has m place) (sym same) (bit.0 (slot.0 (subst (λ n. IsAssigned L n r) (sym f.name) a)))),
        )
    | inr n ↦ (
      λ t. absurd (omega (arith, subst (λ m. Has m place) (is ∙ n.mask) (test.0 t), bit_at-zero place)),
      λ a. let h = (st.users.exist u).0 (st.users.only_users u r a) in absurd (n.absent h.at h.value h.there h.fact),
    )
  ]

  -- the slot of a living session
  pub record LiveSlot (n : ℕ) (x : Session) : Type 0 where
    pub at : ℕ
    pub there : At p.sessions at x
    pub number : x.number ≡ n

  pub live_slot : (n : ℕ) (x : Session) → session_of n p.sessions ≡ Some x → LiveSlot n x
  live_slot n x is = elim (first_cases (λ (z : Session). z.number == n) p.sessions) [
    | inl f ↦ subst (LiveSlot n) (same_Some f.value x (sym f.is ∙ is))
        (record { at = f.at; there = f.there; number = (Decides-eqb f.value.number n).0 f.passes })
    | inr a ↦ (let e = a.is in cc)
  ]

  -- its user
  pub live_user : (n : ℕ) (x : Session) → session_of n p.sessions ≡ Some x → Lives L n x.user
  live_user n x is = let s = live_slot n x is in (st.sessions.exist n x.user).1
      (record { at = s.at; value = x; there = s.there; fact = (s.number, refl) })

  -- it has one user
  pub one_user : (n : ℕ) (u v : NameText) → Lives L n u → Lives L n v → u ≡ v
  one_user n u v lives also =
      let a = (st.sessions.exist n u).0 lives in
      let b = (st.sessions.exist n v).0 also in
      let place = st.sessions.unique a.at b.at a.value b.value a.there b.there (a.fact.0 ∙ sym b.fact.0) in
      let row : a.value ≡ b.value = same_Some a.value b.value
      (same_Some (Some a.value) (Some b.value)
      (sym (subst (λ at. At p.sessions at a.value) place a.there) ∙ b.there)) in
      sym a.fact.1 ∙ ap (λ (z : Session). z.user) row ∙ b.fact.1

  -- no slot, no living session
  pub no_live : (n : ℕ) → session_of n p.sessions ≡ None → IsLive L n → ⊥
  no_live n none h =
      let k = (st.sessions.exist n h.0).0 h.1 in
      elim (first_cases (λ (z : Session). z.number == n) p.sessions) [
        | inl f ↦ (let m = f.is in cc)
        | inr a ↦ a.nowhere k.at k.value k.there ((Decides-eqb k.value.number n).1 k.fact.0)
      ]

  -- the roles that are active in it
  pub active_mask : (n : ℕ) (x : Session) (r : NameText) → session_of n p.sessions ≡ Some x
      → IsActive L n r ↔ InMask p.roles x.active r
  active_mask n x r is =
      let s = live_slot n x is in
      subst (λ k. IsActive L k r ↔ InMask p.roles x.active r) s.number (st.sessions.active s.at x s.there r)

  pub active_test : (n : ℕ) (x : Session) (r : NameText) (place : ℕ) (b : Bool) → session_of n p.sessions ≡ Some x
      → place_of r p.roles ≡ Some place
      → IsTrue b ↔ Has x.active place → IsTrue b ↔ (IsLive L n × IsActive L n r)
  active_test n x r place b is found test =
      let slot = active_mask n x r is in
      let bit = in_mask r x.active place found in (
        λ t. ((x.user, live_user n x is), slot.1 (bit.1 (test.0 t))),
        λ h. test.1 (bit.0 (slot.0 h.1)),
      )
