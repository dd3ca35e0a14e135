-- What the tables answer to a question is what the entries say.
use Rattle.std.proofs.Common.{◌≡◌, ℕ, zero, suc, ◌⊎◌, ◌↔◌, List, [], ◌∷◌, cond, inl, inr, sym, ◌∙◌, ap, refl, subst}
use Rattle.std.proofs.Common.{true, false, Bool}
use Rattle.std.specs.Prelude.{slice_get, Option, Some, None}
use Rattle.std.proofs.lemmas.Bool.{false≢true}
use Rattle.std.proofs.lemmas.Option.{same_Some}
use Rattle.std.specs.Prelude.{◌&&◌, ◌==◌}
use Rattle.std.proofs.lemmas.Bool.Decides.{Decides-eqb}
use Rattle.rbac_policy.specs.declared.objects.Operation.{Operation}
use Rattle.rbac_policy.specs.declared.objects.Object.{Object}
use Rattle.rbac_policy.specs.Objects.{same_operation, same_object}
use Rattle.rbac_closure.specs.Sets.{Has, Meets}
use Rattle.rbac_closure.specs.Edges.{IsBelowSome}
use Rattle.rbac_policy.specs.Order.{below}
use Rattle.rbac_policy.specs.declared.commands.Entry.{Entry}
use Rattle.rbac_policy.specs.declared.rows.Session.{Session}
use Rattle.rbac_policy.specs.declared.rows.Grant.{Grant}
use Rattle.rbac_policy.specs.declared.policy.Policy.{Policy}
use Rattle.rbac_policy.specs.Names.{NameText}
use Rattle.rbac_policy.specs.Facts.{IsUser, IsRole, IsActive, IsGranted, IsLive, May}
use Rattle.rbac_policy.specs.StandsFor.{Holds, InMask, StandsFor}
use Rattle.rbac_policy.proofs.OfRoles.Below.{below_sound, below_all}
use Rattle.rbac_policy.proofs.OfRoles.Order.{chain_up, chain_down}
use Rattle.rbac_policy.proofs.OfNames.Equality.{operations}
use Rattle.rbac_policy.specs.Inner.ObjectLaws.{objects, both}
use Rattle.rbac_policy.specs.Tables.{At, first_of, session_of, grant_of, user_is, role_is, place_of}
use Rattle.std.proofs.Common.{IsTrue, rules}
use Rattle.std.specs.Prelude.{is_some}
use Rattle.std.specs.List.{list_any}
use Rattle.std.proofs.lemmas.Slice.Eq.{bytes_eq-Decides}
use Rattle.std.proofs.lemmas.Option.{slice_get-get_or}
use Rattle.std.proofs.lemmas.List.Quantifiers.{position-Some}
use Rattle.std.proofs.lemmas.Map.Keys.{any_passes_from_place}
use Rattle.rbac_policy.specs.declared.rows.User.{User}
use Rattle.rbac_policy.proofs.OfGrants.Granting.{some_passes}
use Rattle.rbac_policy.proofs.OfRoles.Listed.{placed}

-- the first value that passes, with its place
pub record Found {X : Type 0} (test : X → Bool) (slots : List (Option X)) (o : Option X) : Type 0 where
  pub at : ℕ
  pub value : X
  pub there : At slots at value
  pub passes : test value ≡ true
  pub is : o ≡ Some value

pub record Absent {X : Type 0} (test : X → Bool) (slots : List (Option X)) (o : Option X) : Type 0 where
  pub nowhere : (at : ℕ) (x : X) → At slots at x → test x ≡ true → ⊥
  pub is : o ≡ None

pub first_cases : {X : Type 0} (test : X → Bool) (slots : List (Option X))
    → Found test slots (first_of test slots) ⊎ Absent test slots (first_of test slots)
first_cases test [] = inr (record { nowhere = λ at x there. cc; is = refl })
first_cases {X = X} test (None ∷ slots) = elim (first_cases test slots) [
  | inl f ↦ inl (record { at = suc f.at; value = f.value; there = f.there; passes = f.passes; is = f.is })
  | inr a ↦ inr (record { nowhere = nowhere a.nowhere; is = a.is })
] where
  nowhere : ((at : ℕ) (x : X) → At slots at x → test x ≡ true → ⊥) → (at : ℕ) (x : X) → At (None ∷ slots) at x
      → test x ≡ true → ⊥
  nowhere rest zero x there = cc
  nowhere rest (suc at) x there = rest at x there
first_cases {X = X} test (Some y ∷ slots) = here (first_cases test slots) (test y) refl where
  nowhere : (test y ≡ false) → ((at : ℕ) (x : X) → At slots at x → test x ≡ true → ⊥) → (at : ℕ) (x : X)
      → At (Some y ∷ slots) at x → test x ≡ true → ⊥
  nowhere e rest zero x there t = false≢true (sym e ∙ ap test (same_Some y x (same_Some (Some y) (Some x) there)) ∙ t)
  nowhere e rest (suc at) x there t = rest at x there t

  here : Found test slots (first_of test slots) ⊎ Absent test slots (first_of test slots) → (b : Bool) → test y ≡ b
      → Found test (Some y ∷ slots) (first_of test (Some y ∷ slots))
      ⊎ Absent test (Some y ∷ slots) (first_of test (Some y ∷ slots))
  here rest true e =
      inl (record {
        at = 0;
        value = y;
        there = refl;
        passes = e;
        is = ap (λ b. cond b (Some y) (first_of test slots)) e;
      })
  here rest false e =
      let skip = ap (λ b. cond b (Some y) (first_of test slots)) e in
      elim rest [
        | inl f ↦ inl (record { at = suc f.at; value = f.value; there = f.there; passes = f.passes; is = skip ∙ f.is })
        | inr a ↦ inr (record { nowhere = nowhere e a.nowhere; is = skip ∙ a.is })
      ]

module _ (p : Policy) (L : List Entry) (st : StandsFor p L) (n : ℕ) (op : Operation) (ob : Object) where
  -- no slot has the session, or no slot has the pair
  pub may_no_session : session_of n p.sessions ≡ None → May L n op ob → ⊥
  may_no_session none m =
      let h = (st.sessions.exist n m.user).0 m.lives in
      elim (first_cases (λ (x : Session). x.number == n) p.sessions) [
        | inl f ↦ (let e = f.is in cc)
        | inr a ↦ a.nowhere h.at h.value h.there ((Decides-eqb h.value.number n).1 h.fact.0)
      ]

  pub may_no_grant : grant_of op ob p.grants ≡ None → May L n op ob → ⊥
  may_no_grant none m =
      let h = st.grants.only_pairs m.role op ob m.granted in
      elim (first_cases (λ (x : Grant). same_operation x.operation op && same_object x.object ob) p.grants) [
        | inl f ↦ (let e = f.is in cc)
        | inr a ↦
            a.nowhere h.at h.value h.there
            ((both _ _ _ _ (operations h.value.operation op) (objects h.value.object ob)).1 h.fact)
      ]

  record SessionSlot (x : Session) : Type 0 where
    at : ℕ
    there : At p.sessions at x
    number : x.number ≡ n

  record GrantSlot (g : Grant) : Type 0 where
    at : ℕ
    there : At p.grants at g
    pair : (g.operation ≡ op) × (g.object ≡ ob)

  session_slot : (x : Session) → session_of n p.sessions ≡ Some x → SessionSlot x
  session_slot x is = elim (first_cases (λ (z : Session). z.number == n) p.sessions) [
    | inl f ↦
        let same : f.value ≡ x = same_Some f.value x (sym f.is ∙ is) in
        subst SessionSlot same
        (record { at = f.at; there = f.there; number = (Decides-eqb f.value.number n).0 f.passes })
    | inr a ↦ (let e = a.is in cc)
  ]

  grant_slot : (g : Grant) → grant_of op ob p.grants ≡ Some g → GrantSlot g
  grant_slot g is =
      elim (first_cases (λ (z : Grant). same_operation z.operation op && same_object z.object ob) p.grants) [
        | inl f ↦
            let same : f.value ≡ g = same_Some f.value g (sym f.is ∙ is) in
            subst GrantSlot same
            (record {
              at = f.at;
              there = f.there;
              pair = (both _ _ _ _ (operations f.value.operation op) (objects f.value.object ob)).0 f.passes;
            })
        | inr a ↦ (let e = a.is in cc)
      ]

  walked : (x : Session) (g : Grant) → session_of n p.sessions ≡ Some x → grant_of op ob p.grants ≡ Some g
      → ((q : ℕ) × IsBelowSome p.juniors x.active q × Has g.roles q) ↔ May L n op ob
  walked x g sx sg =
      let a = session_slot x sx in
      let b = grant_slot g sg in (
        λ h.
            let named = st.sessions.named a.at x a.there h.1.top h.1.within in
            let up = chain_up p.roles p.juniors L st.roles h.1.chain named.0 named.1 in
            record {
              user = x.user;
              lives = (st.sessions.exist n x.user).1
                  (record { at = a.at; value = x; there = a.there; fact = (a.number, refl) });
              active = named.0;
              is_active = subst (λ k. IsActive L k named.0) a.number
                  ((st.sessions.active a.at x a.there named.0).1
                  (record { place = h.1.top; there = named.1; bit = h.1.within }));
              role = up.0;
              below = up.2;
              granted = subst (IsGranted L up.0 op) b.pair.1 (subst (λ o. IsGranted L up.0 o g.object) b.pair.0
                  ((st.grants.granted b.at g b.there up.0).1 (record { place = h.0; there = up.1; bit = h.2 })));
            },
        λ m.
            let top = (st.sessions.active a.at x a.there m.active).0
            (subst (λ k. IsActive L k m.active) (sym a.number) m.is_active) in
            let down = chain_down p.roles p.juniors L st.roles m.below top.place top.there in
            let held = (st.grants.granted b.at g b.there m.role).0
            (subst (λ o. IsGranted L m.role o g.object) (sym b.pair.0)
            (subst (IsGranted L m.role op) (sym b.pair.1) m.granted)) in
            let same = st.roles.unique held.place down.0 m.role held.there down.1 in
            (down.0, record { top = top.place; within = top.bit; chain = down.2 }, subst (Has g.roles) same held.bit),
      )

  -- a place that the walk finds is that of a role
  pub may_found : (x : Session) (g : Grant) → session_of n p.sessions ≡ Some x → grant_of op ob p.grants ≡ Some g
      → Meets (below p.juniors x.active) g.roles ↔ May L n op ob
  may_found x g sx sg =
      let w = walked x g sx sg in (
        λ m. w.0 (m.0, below_sound p.juniors x.active m.0 m.1, m.2),
        λ may. let h = w.1 may in (h.0, below_all p.juniors x.active h.0 h.1, h.2),
      )

-- a test that says yes exactly when the fact holds
pub reflects : (b : Bool) (P : Type 0) → (b ≡ true → P) → (b ≡ false → P → ⊥) → IsTrue b ↔ P
reflects true P yields denies = (λ t. yields refl, λ h. search rules)
reflects false P yields denies = (λ t. absurd (search (rules, t)), λ h. absurd (denies refl h))

by_option : {X : Type 0} (o : Option X) (P : Type 0) → ((x : X) → o ≡ Some x → P) → (o ≡ None → P → ⊥)
    → (is_some o ≡ true → P) × (is_some o ≡ false → P → ⊥)
by_option None P some none = (λ t. absurd (false≢true t), λ e h. none refl h)
by_option (Some x) P some none = (λ t. some x refl, λ e h. absurd (false≢true (sym e)))

module _ (p : Policy) (L : List Entry) (st : StandsFor p L) where
  pub user_test : (u : NameText) (b : Bool) → b ≡ list_any (user_is u) p.users → IsTrue b ↔ IsUser L u
  user_test u b is = reflects b (IsUser L u)
      (λ t. let f = some_passes (user_is u) p.users (sym is ∙ t) in
      (st.users.exist u).1 (held f.at f.value f.there f.test))
      (λ t h. let k = (st.users.exist u).0 h in
      false≢true
      (sym t ∙ is ∙ any_passes_from_place (user_is u) p.users k.at (Some k.value) k.there
      ((bytes_eq-Decides k.value.name u).1 k.fact))) where
        held : (at : ℕ) (o : Option User) → slice_get p.users at ≡ Some o → user_is u o ≡ true
            → Holds (λ (x : User). x.name ≡ u) p.users
        held at None there t = absurd (false≢true t)
        held at (Some x) there t = record { at = at; value = x; there = there; fact = (bytes_eq-Decides x.name u).0 t }

  pub role_at : (r : NameText) (q : ℕ) → place_of r p.roles ≡ Some q → At p.roles q r
  role_at r q found =
      let passes = position-Some (role_is r) p.roles q None found in
      slice_get-get_or p.roles q None passes.0 ∙ ap Some (named_r _ passes.1) where
        named_r : (o : Option NameText) → role_is r o ≡ true → o ≡ Some r
        named_r None t = absurd (false≢true t)
        named_r (Some x) t = ap Some ((bytes_eq-Decides x r).0 t)

  pub no_role : (r : NameText) → place_of r p.roles ≡ None → IsRole L r → ⊥
  no_role r none h =
      let k = (st.roles.exist r).0 h in
      let q = placed p.roles k.at r (subst (At p.roles k.at) k.fact k.there) in
      (let e = q.found in cc)

  pub role_test : (r : NameText) (b : Bool) → b ≡ is_some (place_of r p.roles) → IsTrue b ↔ IsRole L r
  role_test r b is =
      let c = by_option (place_of r p.roles) (IsRole L r)
      (λ q e. (st.roles.exist r).1 (record { at = q; value = r; there = role_at r q e; fact = refl }))
      (no_role r) in
      reflects b (IsRole L r) (λ t. c.0 (sym is ∙ t)) (λ t h. c.1 (sym is ∙ t) h)

  pub session_test : (n : ℕ) (b : Bool) → b ≡ is_some (session_of n p.sessions) → IsTrue b ↔ IsLive L n
  session_test n b is =
      let c = by_option (session_of n p.sessions) (IsLive L n)
      (λ x e. elim (first_cases (λ (z : Session). z.number == n) p.sessions) [
        | inl f ↦ (
          f.value.user,
          (st.sessions.exist n f.value.user).1
              (record {
                at = f.at;
                value = f.value;
                there = f.there;
                fact = ((Decides-eqb f.value.number n).0 f.passes, refl);
              }),
        )
        | inr a ↦ (let k = a.is in cc)
      ])
      (λ e h.
      let k = (st.sessions.exist n h.0).0 h.1 in
      elim (first_cases (λ (z : Session). z.number == n) p.sessions) [
        | inl f ↦ (let m = f.is in cc)
        | inr a ↦ a.nowhere k.at k.value k.there ((Decides-eqb k.value.number n).1 k.fact.0)
      ]) in
      reflects b (IsLive L n) (λ t. c.0 (sym is ∙ t)) (λ t h. c.1 (sym is ∙ t) h)

  pub not_granted_pair : (r : NameText) (op : Operation) (ob : Object) → grant_of op ob p.grants ≡ None
      → IsGranted L r op ob → ⊥
  not_granted_pair r op ob none g =
      let h = st.grants.only_pairs r op ob g in
      elim (first_cases (λ (x : Grant). same_operation x.operation op && same_object x.object ob) p.grants) [
        | inl f ↦ (let e = f.is in cc)
        | inr a ↦
            a.nowhere h.at h.value h.there
            ((both _ _ _ _ (operations h.value.operation op) (objects h.value.object ob)).1 h.fact)
      ]

  pub granted_slot : (r : NameText) (op : Operation) (ob : Object) (g : Grant) → grant_of op ob p.grants ≡ Some g
      → IsGranted L r op ob ↔ InMask p.roles g.roles r
  granted_slot r op ob g is =
      elim (first_cases (λ (x : Grant). same_operation x.operation op && same_object x.object ob) p.grants) [
        | inl f ↦
            let same : f.value ≡ g = same_Some f.value g (sym f.is ∙ is) in
            let pair = (both _ _ _ _ (operations f.value.operation op) (objects f.value.object ob)).0 f.passes in
            subst (λ (z : Grant). IsGranted L r op ob ↔ InMask p.roles z.roles r) same
            (subst (λ o. IsGranted L r op o ↔ InMask p.roles f.value.roles r) pair.1
            (subst (λ o. IsGranted L r o f.value.object ↔ InMask p.roles f.value.roles r) pair.0
            (st.grants.granted f.at f.value f.there r)))
        | inr a ↦ (let e = a.is in cc)
      ]
