-- The table of sessions after a login and a logout, before the sweep.
use Rattle.std.proofs.Common.{◌≡◌, ℕ, ◌+◌, ◌⊎◌, ◌↔◌, List, [], ◌∷◌, ◌++◌, length, map, set, cond, inl, inr, arith, sym}
use Rattle.std.proofs.Common.{◌∙◌, ap, refl, subst, true, false, Bool, add-zero}
use Rattle.std.specs.Prelude.{slice_get, Option, Some, None, Contains, ◌==◌}
use Rattle.std.proofs.lemmas.Bool.{false≢true}
use Rattle.std.proofs.lemmas.Bool.Decides.{Decides-eqb}
use Rattle.std.proofs.lemmas.Option.{same_Some}
use Rattle.std.proofs.lemmas.List.{length-map, length-set}
use Rattle.rbac_policy.specs.declared.sizes.TheConstants.{ROLES}
use Rattle.rbac_policy.specs.declared.commands.AdminCommand.TheVariants.{CreateSession, DeleteSession}
use Rattle.rbac_policy.specs.declared.commands.Entry.{Entry}
use Rattle.rbac_policy.specs.declared.rows.Session.{Session}
use Rattle.rbac_policy.specs.Entries.{logins}
use Rattle.rbac_policy.specs.Names.{NameText}
use Rattle.rbac_policy.specs.Facts.{IsActive, CreatesWith, Activates, Drops}
use Rattle.rbac_policy.specs.Tables.{At, mask_of, session_without}
use Rattle.rbac_policy.specs.StandsFor.{InMask, IsNamed, SessionsStand}
use Rattle.rbac_policy.proofs.Steps.{in_force_push}
use Rattle.rbac_policy.proofs.OfSessions.Ended.{Unswept}
use Rattle.rbac_policy.proofs.OfSlots.Slots.{get_set_same, get_set_other}
use Rattle.rbac_policy.proofs.Untouched.{through, untouched, logins_push}
use Rattle.rbac_policy.proofs.OfSlots.Slots.{mapped, map_at, written, Free}
use Rattle.rbac_policy.proofs.OfRoles.Listed.{in_mask_of, named_mask_of}

module _ (roles : List (Option NameText)) (unique : (p q : ℕ) (r : NameText) → At roles p r → At roles q r → p ≡ q)
    (many : length roles ≡ ROLES) (sessions : List (Option Session)) (L : List Entry)
    (ss : SessionsStand roles sessions L) where
  module _ (user : NameText) (listed : List NameText) (known : (r : NameText) → Contains listed r
      → (p : ℕ) × At roles p r) (i : ℕ) (fr : Free sessions i) where
    abbrev pub the_login : Entry
    the_login = record { session = None; command = CreateSession user listed }

    abbrev pub the_session : Session
    the_session = record { number = logins L + 1; user = user; active = mask_of roles listed }

    count : logins (L ++ the_login ∷ []) ≡ logins L + 1
    count = logins_push L the_login

    active_push : (n : ℕ) (r : NameText) → IsActive (L ++ the_login ∷ []) n r
        ↔ (((n ≡ logins L + 1) × Contains listed r) ⊎ IsActive L n r)
    active_push n r =
        let M : List Entry → Entry → Type 0 = λ before e. CreatesWith n r before e ⊎ Activates n r e in
        let U : Entry → Type 0 = Drops n r in (
          λ s. elim ((in_force_push M U L the_login).0 s) [
            | inl m ↦ elim m [
              | inl a ↦
                  let c = a.creates in
                  let same : listed ≡ a.roles = let h = c.login in cc in
                  inl (c.number, subst (λ xs. Contains xs r) (sym same) a.listed)
              | inr b ↦ (let h = b.1 in cc)
            ]
            | inr k ↦ inr k.0
          ],
          λ h. (in_force_push M U L the_login).1 (elim h [
            | inl a ↦
                inl (inl
                (record { user = user; roles = listed; creates = record { login = refl; number = a.0 }; listed = a.1 }))
            | inr k ↦ inr (k, λ u. let h = u.1 in cc)
          ]),
        )

    pub login_unswept : Unswept roles (set sessions i (Some the_session)) L the_login
    login_unswept =
        let old_place : (at : ℕ) (x : Session) → At sessions at x
        → At (set sessions i (Some the_session)) at x = λ at x there.
        get_set_other sessions i at (Some the_session)
        (λ e. cc (fr.empty, subst (λ k. slice_get sessions k ≡ Some (Some x)) e there)) ∙ there in
        record {
          exist = λ n u. (
            λ h. elim h [
              | inl m ↦
                  let c = m.creates in
                  let same : user ≡ u = let h = c.login in cc in
                  record {
                    at = i;
                    value = the_session;
                    there = get_set_same sessions i (Some the_session) fr.within;
                    fact = (sym c.number, same);
                  }
              | inr l ↦ let h = (ss.exist n u).0 l.0 in record
                  { at = h.at; value = h.value; there = old_place h.at h.value h.there; fact = h.fact }
            ],
            λ h. elim (written sessions i h.at the_session h.value fr.within h.there) [
              | inl q ↦
                  let number : logins L + 1 ≡ n = ap (λ (z : Session). z.number) q.1 ∙ h.fact.0 in
                  let same : user ≡ u = ap (λ (z : Session). z.user) q.1 ∙ h.fact.1 in
                  inl (record {
                    roles = listed;
                    creates = record { login = ap (λ v. CreateSession v listed) same; number = sym number };
                  })
              | inr old ↦ inr (
                (ss.exist n u).1 (record { at = h.at; value = h.value; there = old; fact = h.fact }),
                λ ends. elim ends [ inl a ↦ (let h = a.1 in cc) | inr b ↦ cc ],
              )
            ],
          );
          active = λ at x there r. elim (written sessions i at the_session x fr.within there) [
            | inl q ↦ subst (λ (z : Session). IsActive (L ++ the_login ∷ []) z.number r ↔ InMask roles z.active r) q.1 (
              λ a. (in_mask_of roles unique many listed known r).1 (elim ((active_push (logins L + 1) r).0 a) [
                | inl p ↦ p.1
                | inr k ↦ absurd (omega (arith, ss.made (logins L + 1) r k))
              ]),
              λ m. (active_push (logins L + 1) r).1 (inl (refl, (in_mask_of roles unique many listed known r).0 m)),
            )
            | inr old ↦ through (active_push x.number r) (
              λ h. (ss.active at x old r).0
                  (elim h [ inl p ↦ absurd (omega (arith, p.0, ss.numbers at x old)) | inr k ↦ k ]),
              λ m. inr ((ss.active at x old r).1 m),
            )
          ];
          named = λ at x there. elim (written sessions i at the_session x fr.within there) [
            | inl q ↦ subst (λ (z : Session). IsNamed roles z.active) q.1 (named_mask_of roles unique many listed known)
            | inr old ↦ ss.named at x old
          ];
          numbers = λ at x there. elim (written sessions i at the_session x fr.within there) [
            | inl q ↦ omega (arith, ap (λ (z : Session). z.number) q.1, count)
            | inr old ↦ omega (arith, ss.numbers at x old, count)
          ];
          made = λ n r a. elim ((active_push n r).0 a) [
            | inl p ↦ omega (arith, p.0, count)
            | inr k ↦
                omega (arith, ss.made n r k, count)
          ];
          unique = unique;
          many = many;
          once = λ p q x y a b same. elim (written sessions i p the_session x fr.within a) [
            | inl s ↦ elim (written sessions i q the_session y fr.within b) [
              | inl t ↦ s.0 ∙ sym t.0
              | inr old ↦ absurd (omega (arith, ss.numbers q y old, ap (λ (z : Session). z.number) s.1, same))
            ]
            | inr mine ↦ elim (written sessions i q the_session y fr.within b) [
              | inl t ↦ absurd (omega (arith, ss.numbers p x mine, ap (λ (z : Session). z.number) t.1, same))
              | inr old ↦ ss.unique p q x y mine old same
            ]
          ];
          places = length-set sessions i (Some the_session) ∙ ss.places;
        }

  module _ (k : ℕ) where
    abbrev pub the_logout : Entry
    the_logout = record { session = Some k; command = DeleteSession }

    gone : logins (L ++ the_logout ∷ []) ≡ logins L
    gone = logins_push L the_logout ∙ add-zero (logins L)

    still_active : (n : ℕ) (r : NameText) → IsActive (L ++ the_logout ∷ []) n r ↔ IsActive L n r
    still_active n r = untouched (λ before e. CreatesWith n r before e ⊎ Activates n r e) (Drops n r) L the_logout
        (λ m. elim m [ inl a ↦ (let h = a.creates.login in cc) | inr b ↦ (let h = b.1 in cc) ])
        (λ u. let h = u.1 in cc)

    kept : (x y : Session) → session_without k (Some x) ≡ Some y → (x ≡ y) × (x.number ≡ k → ⊥)
    kept x y gives = by_test (x.number == k) refl where
      by_test : (b : Bool) → (x.number == k) ≡ b → (x ≡ y) × (x.number ≡ k → ⊥)
      by_test true e = cc (ap (λ b. cond b None (Some x)) e, gives)
      by_test false e = (
        same_Some x y (sym (ap (λ b. cond b None (Some x)) e) ∙ gives),
        λ same. false≢true (sym e ∙ (Decides-eqb x.number k).1 same),
      )

    other : (x : Session) → (x.number ≡ k → ⊥) → session_without k (Some x) ≡ Some x
    other x differs = by_test (x.number == k) refl where
      by_test : (b : Bool) → (x.number == k) ≡ b → session_without k (Some x) ≡ Some x
      by_test true e = absurd (differs ((Decides-eqb x.number k).0 e))
      by_test false e = ap (λ b. cond b None (Some x)) e

    pub logout_unswept : Unswept roles (map (session_without k) sessions) L the_logout
    logout_unswept = record {
      exist = λ n u. (
        λ h. elim h [
          | inl m ↦ (let h = m.creates.login in cc)
          | inr l ↦
              let h = (ss.exist n u).0 l.0 in
              record {
                at = h.at;
                value = h.value;
                there = map_at (session_without k) sessions h.at h.value h.value h.there
                    (other h.value (λ same. l.1 (inl (ap Some (sym same ∙ h.fact.0), refl))));
                fact = h.fact;
              }
        ],
        λ h.
            let m = mapped (session_without k) sessions h.at h.value refl h.there in
            let q = kept m.value h.value m.gives in
            inr (
              (ss.exist n u).1
                  (record { at = h.at; value = h.value; there = subst (At sessions h.at) q.0 m.there; fact = h.fact }),
              λ ends. elim ends [
                | inl a ↦ q.1 (ap (λ (z : Session). z.number) q.0 ∙ h.fact.0 ∙ sym (same_Some k n a.0))
                | inr b ↦
                    cc
              ],
            ),
      );
      active = λ at x there r.
          let m = mapped (session_without k) sessions at x refl there in
          let q = kept m.value x m.gives in
          through (still_active x.number r) (ss.active at x (subst (At sessions at) q.0 m.there) r);
      named = λ at x there.
          let m = mapped (session_without k) sessions at x refl there in
          let q = kept m.value x m.gives in
          ss.named at x (subst (At sessions at) q.0 m.there);
      numbers = λ at x there.
          let m = mapped (session_without k) sessions at x refl there in
          let q = kept m.value x m.gives in
          omega (arith, ss.numbers at x (subst (At sessions at) q.0 m.there), gone);
      made = λ n r a. omega (arith, ss.made n r ((still_active n r).0 a), gone);
      unique = unique;
      many = many;
      once = λ p q x y a b same.
          let m = mapped (session_without k) sessions p x refl a in
          let n = mapped (session_without k) sessions q y refl b in
          ss.unique p q x y (subst (At sessions p) (kept m.value x m.gives).0 m.there)
          (subst (At sessions q) (kept n.value y n.gives).0 n.there) same;
      places = length-map sessions (session_without k) ∙ ss.places;
    }
