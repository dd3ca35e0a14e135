-- The first violation after one role more is active in a session.
use Rattle.std.proofs.Common.{◌≡◌, ℕ, ◌<◌, ◌⊎◌, ◌↔◌, List, [], ◌∷◌, ◌++◌, length, arith, sym, ◌∙◌, refl, subst, inl}
use Rattle.std.proofs.Common.{inr}
use Rattle.std.specs.Prelude.{Option, Some}
use Rattle.std.proofs.Math.Seq.{take-length}
use Rattle.std.proofs.lemmas.Bool.{cases_eq}
use Rattle.std.proofs.lemmas.Option.{slice_get_within, same_Some}
use Rattle.rbac_policy.specs.declared.policy.Policy.{Policy}
use Rattle.rbac_policy.specs.declared.sizes.TheConstants.{ROLES}
use Rattle.rbac_policy.specs.declared.commands.AdminCommand.TheVariants.{AddActiveRole}
use Rattle.rbac_policy.specs.declared.commands.Entry.{Entry}
use Rattle.rbac_policy.specs.declared.rows.Session.{Session}
use Rattle.rbac_policy.specs.declared.separation.Violation.{Violation}
use Rattle.rbac_policy.specs.Names.{NameText}
use Rattle.rbac_policy.specs.Facts.{IsActive, IsAuthorized, IsLive, Lives, HasOnlyAuthorized, Ends}
use Rattle.rbac_policy.specs.Inner.Violations.{first_violation}
use Rattle.rbac_closure.specs.Sets.{with_place}
use Rattle.rbac_policy.specs.Tables.{At, place_of, session_of}
use Rattle.rbac_policy.specs.StandsFor.{InMask, IsNamed, StandsFor}
use Rattle.rbac_policy.proofs.Steps.{get_push, get_last}
use Rattle.rbac_policy.proofs.OfSessions.Lives.{lives_after, lives_before}
use Rattle.rbac_policy.proofs.Asking.{role_at}
use Rattle.rbac_policy.proofs.OfReaders.ReadingRoles.{LiveSlot, live_slot, one_user}
use Rattle.rbac_policy.proofs.OfSlots.Mapping.{SessionBecomes}
use Rattle.rbac_policy.proofs.OfSessions.Activating as activating
use Rattle.rbac_policy.proofs.Untouched.{untouched_roles, untouched_sets}
use Rattle.rbac_policy.proofs.OfSeparation.Violating.{SessionParts}
use Rattle.rbac_policy.proofs.OfSeparation.Separated.{front_slot, shown_in_parts}
use Rattle.rbac_policy.proofs.OfSeparation.Prospects.{Tells, Lossless, still_authorized, sets_of}

module _ (p : Policy) (L : List Entry) (st : StandsFor p L) (k : ℕ) (role user : NameText) (lives : Lives L k user)
    (authorized : IsAuthorized L user role)
    (x : Session) (row : session_of k p.sessions ≡ Some x) (place : ℕ)
    (found : place_of role p.roles ≡ Some place) where
  abbrev e : Entry
  e = record { session = Some k; command = AddActiveRole role }

  abbrev coming : Session
  coming = record { number = x.number; user = x.user; active = with_place x.active place }

  there : At p.roles place role
  there = role_at p L st role place found

  low : place < ROLES
  low = omega (arith, slice_get_within p.roles place (Some role) there, st.roles.places)

  slot : LiveSlot p L st k x
  slot = live_slot p L st k x row

  becomes : SessionBecomes p.roles L e x coming
  becomes = activating.taken_here p.roles st.roles.unique st.roles.places place role there low p.sessions L k
      st.sessions slot.at x slot.there slot.number

  taken : (n : ℕ) (r : NameText) → IsActive (L ++ e ∷ []) n r ↔ (((k ≡ n) × (role ≡ r)) ⊎ IsActive L n r)
  taken = activating.taken p.roles st.roles.unique st.roles.places place role there low p.sessions L k st.sessions

  stays : (n : ℕ) (u : NameText) → Ends n u e → ⊥
  stays = activating.take_stays p.roles st.roles.unique st.roles.places place role there low p.sessions L k st.sessions

  keeps : Lossless p L st e
  keeps = record {
    no_loss = λ r h. cc;
    no_unassign = λ u r h. elim h [ inl a ↦ cc | inr b ↦ elim b [ inl a ↦ cc | inr c ↦ cc ] ];
    no_disinherit = λ a b h. elim h [ inl c ↦ cc | inr d ↦ elim d [ inl c ↦ cc | inr f ↦ cc ] ];
  }

  -- the user of the session is authorized for the role
  allowed : (n : ℕ) (u r : NameText) → Lives L n u → k ≡ n → role ≡ r → IsAuthorized L u r
  allowed n u r l number is =
      let same : user ≡ u = one_user p L st n user u (subst (λ i. Lives L i user) number lives) l in
      subst (IsAuthorized L u) is (subst (λ v. IsAuthorized L v role) same authorized)

  still_lives : (n : ℕ) (u : NameText) → Lives L n u → Lives (L ++ e ∷ []) n u
  still_lives n u l = lives_before L e n u (inr (l, stays n u)) (λ r a.
      let whole : HasOnlyAuthorized L n u = subst (λ xs. HasOnlyAuthorized xs n u) (take-length L)
      (l.authorized (length L) (slice_get_within L l.at l.entry l.there) (omega arith)) in
      still_authorized p L st e keeps u r
      (elim ((taken n r).0 a) [ inl new ↦ allowed n u r l new.0 new.1 | inr old ↦ whole r old ]))

  -- the old row of the session has a part of its roles, and the coming one has all
  parts_after : SessionParts p.roles (p.sessions ++ Some coming ∷ []) (L ++ e ∷ [])
  parts_after = record {
    whole = λ n live. elim (lives_after L e n live.0 live.1).0 [
      | inl m ↦ (let h = m.creates.login in cc)
      | inr l ↦ elim (cases_eq n k) [
        | inl same ↦ record {
          at = length p.sessions;
          value = coming;
          there = get_last p.sessions (Some coming);
          fact = (
            slot.number ∙ sym same,
            λ r a. (becomes.active r).0
                (subst (λ i. IsActive (L ++ e ∷ []) i r) (same ∙ sym slot.number) a),
          );
        }
        | inr other ↦
            let h = (st.sessions.exist n live.0).0 l.0 in
            record {
              at = h.at;
              value = h.value;
              there = front_slot p.sessions (Some coming) h.at h.value h.there;
              fact = (
                h.fact.0,
                λ r a. (st.sessions.active h.at h.value h.there r).0 (subst (λ i. IsActive L i r) (sym h.fact.0)
                    (elim ((taken n r).0 a) [ inl new ↦ absurd (other (sym new.0)) | inr old ↦ old ])),
              );
            }
      ]
    ];
    lives = λ at y there. elim (get_push p.sessions (Some coming) (Some y) at there) [
      | inl old ↦ (
        y.user,
        still_lives y.number y.user
            ((st.sessions.exist y.number y.user).1 (record { at = at; value = y; there = old.1; fact = (refl, refl) })),
      )
      | inr new ↦ subst (λ (z : Session). IsLive (L ++ e ∷ []) z.number) (same_Some coming y new.1) (
        x.user,
        still_lives x.number x.user
            ((st.sessions.exist x.number x.user).1
            (record { at = slot.at; value = x; there = slot.there; fact = (refl, refl) })),
      )
    ];
    active = λ at y there r. elim (get_push p.sessions (Some coming) (Some y) at there) [
      | inl old ↦ λ m. (taken y.number r).1 (inr ((st.sessions.active at y old.1 r).1 m))
      | inr new ↦ subst (λ (z : Session). InMask p.roles z.active r → IsActive (L ++ e ∷ []) z.number r)
          (same_Some coming y new.1) (becomes.active r).1
    ];
    named = λ at y there. elim (get_push p.sessions (Some coming) (Some y) at there) [
      | inl old ↦ st.sessions.named at y old.1
      | inr new ↦ subst (λ (z : Session). IsNamed p.roles z.active) (same_Some coming y new.1) becomes.named
    ];
  }

  pub after_role : (o : Option Violation) → o ≡ first_violation p.juniors (p.sessions ++ Some coming ∷ []) p.sets
      → Tells (L ++ e ∷ []) o
  after_role o is = shown_in_parts p.roles p.juniors p.sets (p.sessions ++ Some coming ∷ []) (L ++ e ∷ [])
      (untouched_roles p.roles p.juniors L e refl st.roles) parts_after
      (sets_of p.roles p.sets (L ++ e ∷ []) (untouched_sets p.roles p.sets L e refl st.sets)) o is
