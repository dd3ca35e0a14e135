-- What the tests of the readers say of the list of entries.
use Rattle.std.proofs.Common.{inl, inr, ◌≡◌, ℕ, ◌↔◌, List, length, sym, ◌∙◌, ap, refl, subst, true, false, Bool, IsTrue}
use Rattle.std.specs.Prelude.{Option, Some, None, is_some, is_none, position, not, ◌&&◌}
use Rattle.std.proofs.lemmas.Bool.{false≢true}
use Rattle.rbac_policy.specs.declared.objects.Operation.{Operation}
use Rattle.rbac_policy.specs.declared.objects.Object.{Object}
use Rattle.rbac_policy.specs.declared.commands.Entry.{Entry}
use Rattle.rbac_policy.specs.declared.rows.Grant.{Grant}
use Rattle.rbac_policy.specs.declared.policy.Policy.{Policy}
use Rattle.rbac_policy.specs.Names.{NameText}
use Rattle.rbac_policy.specs.Objects.{same_operation, same_object}
use Rattle.rbac_closure.specs.Sets.{Has}
use Rattle.rbac_policy.specs.Order.{below}
use Rattle.rbac_policy.specs.Facts.{IsGranted, IsPairGranted, IsAuthorized}
use Rattle.rbac_policy.specs.Counting.{HasAtLeast}
use Rattle.rbac_policy.specs.Tables.{roles_of, place_of, grant_of}
use Rattle.rbac_policy.specs.StandsFor.{StandsFor}
use Rattle.rbac_policy.proofs.OfNames.Equality.{operations}
use Rattle.rbac_policy.specs.Inner.ObjectLaws.{objects, both}
use Rattle.rbac_policy.proofs.OfRoles.Below.{below_sound, below_all}
use Rattle.rbac_policy.proofs.OfRoles.Order.{authorized_below, below_authorized}
use Rattle.rbac_policy.proofs.Asking.{reflects, first_cases, role_at, granted_slot, not_granted_pair}
use Rattle.rbac_policy.proofs.OfSlots.Room.{Keeps, full_without_room, not_full_with_room}

module _ (p : Policy) (L : List Entry) (st : StandsFor p L) where
  pub authorized_test : (u r : NameText) (place all : ℕ) (b : Bool) → place_of r p.roles ≡ Some place
      → all ≡ below p.juniors (roles_of u p.users)
      → IsTrue b ↔ Has all place → IsTrue b ↔ IsAuthorized L u r
  authorized_test u r place all b found walked test =
      let there = role_at p L st r place found in (
        λ t. below_authorized p.roles p.juniors p.users L st.roles st.users u r place there
            (below_sound p.juniors (roles_of u p.users) place (subst (λ m. Has m place) walked (test.0 t))),
        λ a.
            let h = authorized_below p.roles p.juniors p.users L st.roles st.users u r a in
            let same = st.roles.unique h.0 place r h.1 there in
            test.1 (subst (λ m. Has m place) (sym walked) (subst (Has (below p.juniors (roles_of u p.users))) same
            (below_all p.juniors (roles_of u p.users) h.0 h.2))),
      )

  pub granted_test : (r : NameText) (op : Operation) (ob : Object) (g : Grant) (place : ℕ) (b : Bool)
      → grant_of op ob p.grants ≡ Some g → place_of r p.roles ≡ Some place
      → IsTrue b ↔ Has g.roles place → IsTrue b ↔ IsGranted L r op ob
  granted_test r op ob g place b row found test =
      let there = role_at p L st r place found in
      let slot = granted_slot p L st r op ob g row in (
        λ t. slot.1 (record { place = place; there = there; bit = test.0 t }),
        λ h. let m = slot.0 h in test.1 (subst (Has g.roles) (st.roles.unique m.place place r m.there there) m.bit),
      )

  -- a row is there for pairs that are granted alone
  row_granted : (op : Operation) (ob : Object) → is_some (grant_of op ob p.grants) ≡ true → IsPairGranted L op ob
  row_granted op ob some =
      elim (first_cases (λ (x : Grant). same_operation x.operation op && same_object x.object ob) p.grants) [
        | inl f ↦
            let pair = (both _ _ _ _ (operations f.value.operation op) (objects f.value.object ob)).0 f.passes in
            let used = st.grants.used f.at f.value f.there in
            let named = st.grants.named f.at f.value f.there used.0 used.1 in
            let held = (st.grants.granted f.at f.value f.there named.0).1
            (record { place = used.0; there = named.1; bit = used.1 }) in (
              named.0,
              subst (IsGranted L named.0 op) pair.1 (subst (λ o. IsGranted L named.0 o f.value.object) pair.0 held),
            )
        | inr a ↦ absurd (false≢true (sym (ap is_some a.is) ∙ some))
      ]

  pub pair_test : (op : Operation) (ob : Object) (b : Bool) → b ≡ is_some (grant_of op ob p.grants)
      → IsTrue b ↔ IsPairGranted L op ob
  pair_test op ob b is = reflects b (IsPairGranted L op ob)
      (λ t. row_granted op ob (sym is ∙ t))
      (λ f h. not_granted_pair p L st h.0 op ob (no_row (grant_of op ob p.grants) (sym is ∙ f)) h.1) where
        no_row : (o : Option Grant) → is_some o ≡ false → o ≡ None
        no_row None e = refl
        no_row (Some g) e = absurd (false≢true (sym e))

-- no free slot as a test
pub full_test : {X A : Type 0} (key : X → A) (slots : List (Option X)) (P : A → Type 0) (n : ℕ) (b : Bool)
    → Keeps key slots P → length slots ≡ n → is_some (position is_none slots) ≡ not b → IsTrue b ↔ HasAtLeast n P
full_test key slots P n b keeps many is = by_position (position is_none slots) refl b (sym is) where
  by_position : (o : Option ℕ) → position is_none slots ≡ o → (b : Bool) → not b ≡ is_some (position is_none slots)
      → IsTrue b ↔ HasAtLeast n P
  by_position None e true is = reflects true (HasAtLeast n P) (λ t. full_without_room key slots P n keeps many e)
      (λ f h. false≢true (sym f))
  by_position None e false is = absurd (false≢true (sym (is ∙ ap is_some e)))
  by_position (Some i) e true is = absurd (false≢true (is ∙ ap is_some e))
  by_position (Some i) e false is = reflects false (HasAtLeast n P) (λ t. absurd (false≢true t))
      (λ f h. not_full_with_room key slots P n keeps many i e h)
