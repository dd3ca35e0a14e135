-- The table of sessions after a role was activated or dropped, before the sweep.
use Rattle.std.proofs.Common.{◌≡◌, ℕ, ◌<◌, ◌≤◌, ◌⊎◌, ◌↔◌, List, [], ◌∷◌, ◌++◌, length, map, cond, inl, inr, sym, ◌∙◌}
use Rattle.std.proofs.Common.{ap, refl, subst, true, false, Bool}
use Rattle.std.specs.Prelude.{Option, Some, ◌==◌}
use Rattle.std.proofs.lemmas.Bool.{false≢true}
use Rattle.std.proofs.lemmas.Bool.Decides.{Decides-eqb}
use Rattle.std.proofs.lemmas.Option.{same_Some}
use Rattle.rbac_closure.specs.Sets.{with_place, without_place}
use Rattle.rbac_policy.specs.declared.sizes.TheConstants.{ROLES}
use Rattle.rbac_policy.specs.declared.commands.AdminCommand.TheVariants.{AddActiveRole, DropActiveRole}
use Rattle.rbac_policy.specs.declared.commands.Entry.{Entry}
use Rattle.rbac_policy.specs.declared.rows.Session.{Session}
use Rattle.rbac_policy.specs.Entries.{logins}
use Rattle.rbac_policy.specs.Names.{NameText}
use Rattle.rbac_policy.specs.Facts.{IsActive, CreatesWith, Activates, Drops, Ends}
use Rattle.rbac_policy.specs.Tables.{At, session_activated, session_dropped}
use Rattle.rbac_policy.specs.StandsFor.{InMask, SessionsStand}
use Rattle.rbac_policy.proofs.Steps.{in_force_push}
use Rattle.rbac_policy.proofs.OfSessions.Ended.{Unswept}
use Rattle.rbac_policy.proofs.Untouched.{through}
use Rattle.rbac_policy.proofs.OfGrants.Granting.{flip, sums}
use Rattle.rbac_policy.proofs.OfSlots.Mapping.{SessionSlot, SessionBecomes, sessions_mapped}
use Rattle.rbac_policy.proofs.OfSlots.Slots.{in_with_place, named_with_place, in_without_place, named_without_place}

module _ (roles : List (Option NameText)) (unique : (p q : ℕ) (r : NameText) → At roles p r → At roles q r → p ≡ q)
    (many : length roles ≡ ROLES)
    (p0 : ℕ) (r0 : NameText) (there0 : At roles p0 r0) (low : p0 < ROLES) (sessions : List (Option Session))
    (L : List Entry) (k : ℕ) (ss : SessionsStand roles sessions L) where
  abbrev pub the_drop : Entry
  the_drop = record { session = Some k; command = DropActiveRole r0 }

  dropped : (n : ℕ) (r : NameText) → IsActive (L ++ the_drop ∷ []) n r ↔ (IsActive L n r × ((k ≡ n) × (r0 ≡ r) → ⊥))
  dropped n r =
      let M : List Entry → Entry → Type 0 = λ before e. CreatesWith n r before e ⊎ Activates n r e in
      let U : Entry → Type 0 = Drops n r in (
        λ s. elim ((in_force_push M U L the_drop).0 s) [
          | inl m ↦ elim m [ inl a ↦ (let h = a.creates.login in cc) | inr b ↦ (let h = b.1 in cc) ]
          | inr h ↦ (h.0, λ x. h.1 (ap Some x.0, ap DropActiveRole x.1))
        ],
        λ h. (in_force_push M U L the_drop).1 (inr (h.0, λ u. h.1 (same_Some k n u.0, (let x = u.1 in cc)))),
      )

  drop_stays : (n : ℕ) (u : NameText) → Ends n u the_drop → ⊥
  drop_stays n u ends = elim ends [ inl a ↦ (let h = a.1 in cc) | inr b ↦ cc ]

  drop_slot : (at : ℕ) (x : Session) → At sessions at x → SessionSlot roles L the_drop (session_dropped k p0) x
  drop_slot at x there = by_test (x.number == k) refl where
    new : Session
    new = record { number = x.number; user = x.user; active = without_place x.active p0 }

    by_test : (b : Bool) → (x.number == k) ≡ b → SessionSlot roles L the_drop (session_dropped k p0) x
    by_test true e =
        let same = (Decides-eqb x.number k).0 e in
        inr (
          new,
          ap (λ b. cond b (Some new) (Some x)) e,
          record {
            number = refl;
            user = refl;
            stays = drop_stays x.number x.user;
            active = λ r. through (dropped x.number r) (through {B = InMask roles x.active r × (r0 ≡ r → ⊥)} (
              λ h. ((ss.active at x there r).0 h.0, λ s. h.1 (sym same, s)),
              λ h. ((ss.active at x there r).1 h.0, λ s. h.1 s.1),
            ) (flip (in_without_place roles unique p0 r0 there0 low x.active r)));
            named = named_without_place roles unique p0 r0 there0 low x.active (ss.named at x there);
          },
        )
    by_test false e = inr (
      x,
      ap (λ b. cond b (Some new) (Some x)) e,
      record {
        number = refl;
        user = refl;
        stays = drop_stays x.number x.user;
        active = λ r. through (dropped x.number r) (
          λ h. (ss.active at x there r).0 h.0,
          λ m. ((ss.active at x there r).1 m, λ s. false≢true (sym e ∙ (Decides-eqb x.number k).1 (sym s.0))),
        );
        named = ss.named at x there;
      },
    )

  pub drop_unswept : Unswept roles (map (session_dropped k p0) sessions) L the_drop
  drop_unswept = sessions_mapped roles sessions L the_drop (session_dropped k p0) refl ss drop_slot refl unique many
      (λ n r a. ss.made n r ((dropped n r).0 a).0)

  abbrev pub the_take : Entry
  the_take = record { session = Some k; command = AddActiveRole r0 }

  pub taken : (n : ℕ) (r : NameText) → IsActive (L ++ the_take ∷ []) n r ↔ (((k ≡ n) × (r0 ≡ r)) ⊎ IsActive L n r)
  taken n r =
      let M : List Entry → Entry → Type 0 = λ before e. CreatesWith n r before e ⊎ Activates n r e in
      let U : Entry → Type 0 = Drops n r in (
        λ s. elim ((in_force_push M U L the_take).0 s) [
          | inl m ↦
              elim m [ inl a ↦ (let h = a.creates.login in cc) | inr b ↦ inl (same_Some k n b.0, (let x = b.1 in cc)) ]
          | inr h ↦ inr h.0
        ],
        λ h. (in_force_push M U L the_take).1 (elim h [
          | inl a ↦ inl (inr (ap Some a.0, ap AddActiveRole a.1))
          | inr x ↦ inr (x, λ u. let h = u.1 in cc)
        ]),
      )

  pub take_stays : (n : ℕ) (u : NameText) → Ends n u the_take → ⊥
  take_stays n u ends = elim ends [ inl a ↦ (let h = a.1 in cc) | inr b ↦ cc ]

  -- the row of the session that activates the role
  abbrev pub with_role : Session → Session
  with_role x = record { number = x.number; user = x.user; active = with_place x.active p0 }

  pub taken_here : (at : ℕ) (x : Session) → At sessions at x → x.number ≡ k
      → SessionBecomes roles L the_take x (with_role x)
  taken_here at x there same = record {
    number = refl;
    user = refl;
    stays = take_stays x.number x.user;
    active = λ r. through (taken x.number r) (through
        (sums {A = (k ≡ x.number) × (r0 ≡ r)} {C = r0 ≡ r} (λ p. p.1, λ q. (sym same, q)) (ss.active at x there r))
        (flip (in_with_place roles unique p0 r0 there0 low x.active r)));
    named = named_with_place roles unique p0 r0 there0 low x.active (ss.named at x there);
  }

  take_slot : (at : ℕ) (x : Session) → At sessions at x → SessionSlot roles L the_take (session_activated k p0) x
  take_slot at x there = by_test (x.number == k) refl where
    by_test : (b : Bool) → (x.number == k) ≡ b → SessionSlot roles L the_take (session_activated k p0) x
    by_test true e =
        inr (
          with_role x,
          ap (λ b. cond b (Some (with_role x)) (Some x)) e,
          taken_here at x there ((Decides-eqb x.number k).0 e),
        )
    by_test false e = inr (
      x,
      ap (λ b. cond b (Some (with_role x)) (Some x)) e,
      record {
        number = refl;
        user = refl;
        stays = take_stays x.number x.user;
        active = λ r. through (taken x.number r) (
          λ h. elim h [
            | inl s ↦ absurd (false≢true (sym e ∙ (Decides-eqb x.number k).1 (sym s.0)))
            | inr a ↦
                (ss.active at x there r).0 a
          ],
          λ m. inr ((ss.active at x there r).1 m),
        );
        named = ss.named at x there;
      },
    )

  -- the session that activates the role was made
  pub take_unswept : k ≤ logins L → Unswept roles (map (session_activated k p0) sessions) L the_take
  take_unswept known = sessions_mapped roles sessions L the_take
      (session_activated k p0) refl ss take_slot refl unique many
      (λ n r a. elim ((taken n r).0 a) [ inl s ↦ subst (λ i. i ≤ logins L) s.0 known | inr h ↦ ss.made n r h ])
