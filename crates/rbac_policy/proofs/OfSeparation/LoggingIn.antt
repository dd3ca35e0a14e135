-- The first violation after a login.
use Rattle.std.proofs.Common.{◌≡◌, ℕ, ◌+◌, ◌%◌, ◌<◌, ◌≤◌, ◌⊎◌, ◌↔◌, List, [], ◌∷◌, ◌++◌, length, arith, sym, ◌∙◌, ap}
use Rattle.std.proofs.Common.{subst, refl, inl, inr}
use Rattle.std.specs.Prelude.{Option, Some, MatchOption, Contains}
use Rattle.std.proofs.Math.Seq.{take-length}
use Rattle.std.proofs.lemmas.Bool.{cases_lt}
use Rattle.std.proofs.lemmas.Option.{slice_get_within, same_Some}
use Rattle.rbac_closure.specs.Sets.{Has}
use Rattle.rbac_closure.proofs.ChainLemmas.{widened}
use Rattle.rbac_policy.specs.declared.policy.Policy.{Policy}
use Rattle.rbac_policy.specs.declared.commands.Entry.{Entry}
use Rattle.rbac_policy.specs.declared.rows.Session.{Session}
use Rattle.rbac_policy.specs.declared.separation.Violation.{Violation}
use Rattle.rbac_policy.specs.declared.sizes.TheConstants.{LAST_SESSION}
use Rattle.rbac_policy.specs.Names.{NameText}
use Rattle.rbac_policy.specs.Entries.{logins}
use Rattle.rbac_policy.specs.Facts.{IsActive, IsAuthorized, IsLive, Lives, HasOnlyAuthorized, CreatesWith, Activates}
use Rattle.rbac_policy.specs.Facts.{Drops}
use Rattle.rbac_policy.specs.Fits.{NumbersExhausted}
use Rattle.rbac_policy.specs.Separation.{IsFirstViolated, login_entry}
use Rattle.rbac_policy.specs.Inner.Violations.{first_violation}
use Rattle.rbac_policy.specs.Tables.{At, mask_of}
use Rattle.rbac_policy.specs.StandsFor.{InMask, StandsFor}
use Rattle.rbac_policy.proofs.Steps.{in_force_push, get_push, get_last}
use Rattle.rbac_policy.proofs.OfSessions.Lives.{lives_after, lives_before}
use Rattle.rbac_policy.proofs.Untouched.{untouched_roles, untouched_sets, through}
use Rattle.rbac_policy.proofs.OfRoles.Listed.{in_mask_of, named_mask_of}
use Rattle.rbac_policy.proofs.OfSeparation.Violating.{SessionRows, SetRows}
use Rattle.rbac_policy.proofs.OfSeparation.Separated.{front_slot, shown_violation}

module _ (p : Policy) (L : List Entry) (st : StandsFor p L) (user : NameText) (listed : List NameText)
    (authorized : (r : NameText) → Contains listed r → IsAuthorized L user r) where
  abbrev e : Entry
  e = login_entry user listed

  abbrev coming : Session
  coming = record { number = logins L + 1; user = user; active = mask_of p.roles listed }

  active_push : (n : ℕ) (r : NameText) → IsActive (L ++ e ∷ []) n r
      ↔ (((n ≡ logins L + 1) × Contains listed r) ⊎ IsActive L n r)
  active_push n r =
      let M : List Entry → Entry → Type 0 = λ before x. CreatesWith n r before x ⊎ Activates n r x in
      let U : Entry → Type 0 = Drops n r in (
        λ s. elim ((in_force_push M U L e).0 s) [
          | inl m ↦ elim m [
            | inl a ↦
                let c = a.creates in
                let same : listed ≡ a.roles = let h = c.login in cc in
                inl (c.number, subst (λ xs. Contains xs r) (sym same) a.listed)
            | inr b ↦ (let h = b.1 in cc)
          ]
          | inr k ↦ inr k.0
        ],
        λ h. (in_force_push M U L e).1 (elim h [
          | inl a ↦
              inl (inl
              (record { user = user; roles = listed; creates = record { login = refl; number = a.0 }; listed = a.1 }))
          | inr k ↦ inr (k, λ u. let h = u.1 in cc)
        ]),
      )

  -- who was authorized is so after the login
  still_authorized : (u r : NameText) → IsAuthorized L u r → IsAuthorized (L ++ e ∷ []) u r
  still_authorized u r a = record {
    exists = (in_force_push _ _ L e).1 (inr (a.exists, λ h. cc));
    by = a.by;
    assigned =
        (in_force_push _ _ L e).1
        (inr (a.assigned, λ h. elim h [ inl x ↦ cc | inr y ↦ elim y [ inl x ↦ cc | inr z ↦ cc ] ]));
    order = widened
        (λ x y edge. (in_force_push _ _ L e).1
        (inr (edge, λ h. elim h [ inl x ↦ cc | inr y ↦ elim y [ inl x ↦ cc | inr z ↦ cc ] ]))) a.order;
  }

  known : (r : NameText) → Contains listed r → (q : ℕ) × At p.roles q r
  known r c = let h = (st.roles.exist r).0 (authorized r c).exists in (h.at, subst (At p.roles h.at) h.fact h.there)

  old_lives : (n : ℕ) (u : NameText) → n ≤ logins L → Lives L n u → Lives (L ++ e ∷ []) n u
  old_lives n u low l = lives_before L e n u (inr (l, λ ends. elim ends [ inl a ↦ (let h = a.1 in cc) | inr b ↦ cc ]))
      (λ r a.
      let whole : HasOnlyAuthorized L n u = subst (λ xs. HasOnlyAuthorized xs n u) (take-length L)
      (l.authorized (length L) (slice_get_within L l.at l.entry l.there) (omega arith)) in
      still_authorized u r
      (whole r (elim ((active_push n r).0 a) [ inl new ↦ absurd (omega (arith, new.0, low)) | inr old ↦ old ])))

  new_lives : Lives (L ++ e ∷ []) (logins L + 1) user
  new_lives =
      lives_before L e (logins L + 1) user
      (inl (record { roles = listed; creates = record { login = refl; number = refl } })) (λ r a.
      still_authorized user r (authorized r (elim ((active_push (logins L + 1) r).0 a) [
        | inl new ↦ new.1
        | inr old ↦ absurd (omega (arith, st.sessions.made (logins L + 1) r old))
      ])))

  rows_after : SessionRows p.roles (p.sessions ++ Some coming ∷ []) (L ++ e ∷ [])
  rows_after = record {
    stands = λ n live. elim (lives_after L e n live.0 live.1).0 [
      | inl m ↦
          record {
            at = length p.sessions;
            value = coming;
            there = get_last p.sessions (Some coming);
            fact = sym m.creates.number;
          }
      | inr l ↦ let h = (st.sessions.exist n live.0).0 l.0 in
          record {
            at = h.at;
            value = h.value;
            there = front_slot p.sessions (Some coming) h.at h.value h.there;
            fact = h.fact.0;
          }
    ];
    lives = λ at x there. elim (get_push p.sessions (Some coming) (Some x) at there) [
      | inl old ↦ (
        x.user,
        old_lives x.number x.user (st.sessions.numbers at x old.1)
            ((st.sessions.exist x.number x.user).1 (record { at = at; value = x; there = old.1; fact = (refl, refl) })),
      )
      | inr new ↦ subst (λ (z : Session). IsLive (L ++ e ∷ []) z.number) (same_Some coming x new.1) (user, new_lives)
    ];
    active = λ at x there r. elim (get_push p.sessions (Some coming) (Some x) at there) [
      | inl old ↦ through (active_push x.number r) (
        λ h. (st.sessions.active at x old.1 r).0
            (elim h [ inl new ↦ absurd (omega (arith, new.0, st.sessions.numbers at x old.1)) | inr k ↦ k ]),
        λ m. inr ((st.sessions.active at x old.1 r).1 m),
      )
      | inr new ↦ subst (λ (z : Session). IsActive (L ++ e ∷ []) z.number r ↔ InMask p.roles z.active r)
          (same_Some coming x new.1) (
            λ a. (in_mask_of p.roles st.roles.unique st.roles.places listed known r).1
                (elim ((active_push (logins L + 1) r).0 a) [
                  | inl k ↦ k.1
                  | inr k ↦ absurd (omega (arith, st.sessions.made (logins L + 1) r k))
                ]),
            λ m. (active_push (logins L + 1) r).1
                (inl (refl, (in_mask_of p.roles st.roles.unique st.roles.places listed known r).0 m)),
          )
    ];
    named = λ at x there. elim (get_push p.sessions (Some coming) (Some x) at there) [
      | inl old ↦ st.sessions.named at x old.1
      | inr new ↦ subst (λ (z : Session). (q : ℕ) → Has z.active q → (r : NameText) × At p.roles q r)
          (same_Some coming x new.1) (named_mask_of p.roles st.roles.unique st.roles.places listed known)
    ];
  }

  sets_after : SetRows p.roles p.sets (L ++ e ∷ [])
  sets_after = let s = untouched_sets p.roles p.sets L e refl st.sets in record { listed = s.listed; made = s.made }

  pub after_login : (o : Option Violation) → o ≡ first_violation p.juniors (p.sessions ++ Some coming ∷ []) p.sets
      → MatchOption o ((set : NameText) (session : ℕ) → IsFirstViolated (L ++ e ∷ []) set session → ⊥)
      (λ v. IsFirstViolated (L ++ e ∷ []) v.set v.session)
  after_login o is = shown_violation p.roles p.juniors p.sets (p.sessions ++ Some coming ∷ []) (L ++ e ∷ [])
      (untouched_roles p.roles p.juniors L e refl st.roles) rows_after sets_after o is

-- the next number is one more than the last, where it is not exhausted
pub login_violation : (p : Policy) (L : List Entry) → StandsFor p L → (user : NameText) (listed : List NameText)
    → (NumbersExhausted L → ⊥) → ((r : NameText) → Contains listed r → IsAuthorized L user r)
    → (o : Option Violation) → o ≡ first_violation p.juniors
    (p.sessions
    ++ Some (record { number = (p.logins + 1) % (LAST_SESSION + 1); user = user; active = mask_of p.roles listed })
    ∷ []) p.sets
    → MatchOption o ((set : NameText) (session : ℕ) → IsFirstViolated (L ++ login_entry user listed ∷ []) set session
    → ⊥) (λ v. IsFirstViolated (L ++ login_entry user listed ∷ []) v.set v.session)
login_violation p L st user listed numbers authorized o is =
    let low : logins L < LAST_SESSION = elim (cases_lt (logins L) LAST_SESSION)
    [ inl l ↦ l | inr g ↦ absurd (numbers g) ] in
    let number : (p.logins + 1) % (LAST_SESSION + 1) ≡ logins L + 1 = omega (arith, st.logins, low) in
    let row = λ (n : ℕ). let z : Session = record { number = n; user = user; active = mask_of p.roles listed } in z in
    after_login p L st user listed authorized o
    (is ∙ ap (λ n. first_violation p.juniors (p.sessions ++ Some (row n) ∷ []) p.sets) number)
