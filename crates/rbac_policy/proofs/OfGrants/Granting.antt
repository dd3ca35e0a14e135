-- The table of permissions after a grant.
use Rattle.std.proofs.Common.{◌≡◌, ℕ, zero, suc, ◌<◌, ◌⊎◌, ◌↔◌, List, [], ◌∷◌, ◌++◌, map, set, cond, inl, inr, sym, ◌∙◌}
use Rattle.std.proofs.Common.{ap, refl, subst, true, false, Bool, ◌&&◌, ◌||◌}
use Rattle.std.specs.Prelude.{slice_get, Option, Some, None, position, is_none}
use Rattle.std.specs.List.{list_any}
use Rattle.std.proofs.lemmas.Bool.{false≢true}
use Rattle.std.proofs.lemmas.Option.{same_Some}
use Rattle.std.proofs.lemmas.List.{length-map, length-set}
use Rattle.std.proofs.lemmas.Map.Keys.{any_passes_from_place}
use Rattle.rbac_closure.proofs.SetLemmas.{with_same}
use Rattle.rbac_policy.specs.declared.sizes.TheConstants.{ROLES}
use Rattle.rbac_closure.specs.Sets.{Has, with_place}
use Rattle.rbac_policy.specs.declared.objects.Operation.{Operation}
use Rattle.rbac_policy.specs.declared.objects.Object.{Object}
use Rattle.rbac_policy.specs.Objects.{same_operation, same_object}
use Rattle.rbac_policy.specs.declared.commands.AdminCommand.TheVariants.{GrantPermission, RevokePermission, DeleteRole}
use Rattle.rbac_policy.specs.declared.commands.Entry.{Entry}
use Rattle.rbac_policy.specs.declared.rows.Grant.{Grant}
use Rattle.rbac_policy.specs.Names.{NameText}
use Rattle.rbac_policy.specs.Facts.{IsGranted}
use Rattle.rbac_policy.specs.Tables.{At, grant_is, grant_given, grants_given, put_free, put_at}
use Rattle.rbac_policy.specs.StandsFor.{Holds, InMask, IsNamed, GrantsStand}
use Rattle.rbac_policy.proofs.Steps.{in_force_push}
use Rattle.rbac_policy.proofs.Untouched.{through}
use Rattle.rbac_policy.proofs.OfSlots.Slots.{get_set_same, get_set_other}
use Rattle.rbac_policy.proofs.OfNames.Equality.{operations}
use Rattle.rbac_policy.specs.Inner.ObjectLaws.{objects, both}
use Rattle.rbac_policy.proofs.OfSlots.Slots.{mapped, map_at, written, Free, free, in_with_place, named_with_place}
use Rattle.rbac_policy.proofs.OfSlots.Slots.{none_in_zero, zero_named}

pub flip : {A B : Type 0} → A ↔ B → B ↔ A
flip f = (f.1, f.0)

pub sums : {A B C D : Type 0} → A ↔ C → B ↔ D → (A ⊎ B) ↔ (C ⊎ D)
sums f g = (
  λ s. elim s [ inl a ↦ inl (f.0 a) | inr b ↦ inr (g.0 b) ],
  λ s. elim s [ inl a ↦ inl (f.1 a) | inr b ↦ inr (g.1 b) ],
)

-- an element that passes, with its place
pub record Passes {X : Type 0} (p : X → Bool) (xs : List X) : Type 0 where
  pub at : ℕ
  pub value : X
  pub there : slice_get xs at ≡ Some value
  pub test : p value ≡ true

pub some_passes : {X : Type 0} (p : X → Bool) (xs : List X) → list_any p xs ≡ true → Passes p xs
some_passes p [] h = absurd (false≢true h)
some_passes {X = X} p (x ∷ xs) h = here (λ k. some_passes p xs k) (p x) refl where
  here : (list_any p xs ≡ true → Passes p xs) → (b : Bool) → p x ≡ b → Passes p (x ∷ xs)
  here rest true e = record { at = 0; value = x; there = refl; test = e }
  here rest false e = let r = rest (sym (ap (λ b. b || list_any p xs) e) ∙ h) in
      record { at = suc r.at; value = r.value; there = r.there; test = r.test }

module _ (roles : List (Option NameText)) (unique : (p q : ℕ) (r : NameText) → At roles p r → At roles q r → p ≡ q)
    (p0 : ℕ) (r0 : NameText) (role_there : At roles p0 r0) (low : p0 < ROLES)
    (grants : List (Option Grant)) (L : List Entry) (s : Option ℕ) (op : Operation) (ob : Object)
    (gs : GrantsStand roles grants L) where
  abbrev pub the_grant : Entry
  the_grant = record { session = s; command = GrantPermission r0 op ob }

  abbrev Pair : NameText → Operation → Object → Type 0
  Pair r op' ob' = (r0 ≡ r) × (op ≡ op') × (ob ≡ ob')

  granted_push : (r : NameText) (op' : Operation) (ob' : Object)
      → IsGranted (L ++ the_grant ∷ []) r op' ob' ↔ (Pair r op' ob' ⊎ IsGranted L r op' ob')
  granted_push r op' ob' =
      let M : List Entry → Entry → Type 0 = λ before x. x.command ≡ GrantPermission r op' ob' in
      let U : Entry → Type 0 = λ x. (x.command ≡ RevokePermission r op' ob') ⊎ (x.command ≡ DeleteRole r) in (
        λ h. elim ((in_force_push M U L the_grant).0 h) [ inl m ↦ inl (cc, cc, cc) | inr k ↦ inr k.0 ],
        λ h. (in_force_push M U L the_grant).1 (elim h [
          | inl e ↦ let a : r0 ≡ r = e.0 in let b : op ≡ op' = e.1 in let c : ob ≡ ob' = e.2 in inl cc
          | inr k ↦ inr (k, λ u. elim u [ inl x ↦ cc | inr y ↦ cc ])
        ]),
      )

  -- a slot of another pair stays as it was
  other_pair : (at : ℕ) (x : Grant) → At grants at x → (x.operation ≡ op → x.object ≡ ob → ⊥) → (r : NameText)
      → IsGranted (L ++ the_grant ∷ []) r x.operation x.object ↔ InMask roles x.roles r
  other_pair at x there other r = (
    λ h. elim ((granted_push r x.operation x.object).0 h)
        [ inl p ↦ absurd (other (sym p.1) (sym p.2)) | inr k ↦ (gs.granted at x there r).0 k ],
    λ m. (granted_push r x.operation x.object).1 (inr ((gs.granted at x there r).1 m)),
  )

  -- one slot, after the slots of the pair were widened
  record Widened (x y : Grant) : Type 0 where
    operation : x.operation ≡ y.operation
    object : x.object ≡ y.object
    granted : (r : NameText) → IsGranted (L ++ the_grant ∷ []) r y.operation y.object ↔ InMask roles y.roles r
    named : IsNamed roles y.roles
    used : (place : ℕ) × Has y.roles place

  slot : (at : ℕ) (x y : Grant) → At grants at x → grant_given op ob p0 (Some x) ≡ Some y → Widened x y
  slot at x y there gives = by_test (same_operation x.operation op && same_object x.object ob) refl where
    by_test : (b : Bool) → (same_operation x.operation op && same_object x.object ob) ≡ b → Widened x y
    by_test true e =
        let new : Grant = record { operation = x.operation; object = x.object; roles = with_place x.roles p0 } in
        let is : new ≡ y = same_Some new y (sym (ap (λ b. cond b (Some new) (Some x)) e) ∙ gives) in
        let eq = (both _ _ _ _ (operations x.operation op) (objects x.object ob)).0 e in
        subst (Widened x) is (record {
          operation = refl;
          object = refl;
          granted = λ r. through (granted_push r x.operation x.object) (through
              (sums {A = Pair r x.operation x.object} (λ p. p.0, λ same. (same, sym eq.0, sym eq.1))
              (gs.granted at x there r))
              (flip (in_with_place roles unique p0 r0 role_there low x.roles r)));
          named = named_with_place roles unique p0 r0 role_there low x.roles (gs.named at x there);
          used = (p0, with_same x.roles p0);
        })
    by_test false e =
        let is : x ≡ y =
        same_Some x y
        (sym (ap
        (λ b. cond b (Some (record { operation = x.operation; object = x.object; roles = with_place x.roles p0 }))
        (Some x)) e) ∙ gives) in
        subst (Widened x) is (record {
          operation = refl;
          object = refl;
          granted =
              λ r. other_pair at x there
              (λ a b. false≢true (sym e ∙ (both _ _ _ _ (operations x.operation op) (objects x.object ob)).1 (a, b))) r;
          named = gs.named at x there;
          used = gs.used at x there;
        })

  given_value : (x : Grant) → (y : Grant) × (grant_given op ob p0 (Some x) ≡ Some y)
  given_value x = by_test (same_operation x.operation op && same_object x.object ob) refl where
    by_test : (b : Bool) → (same_operation x.operation op && same_object x.object ob) ≡ b
        → (y : Grant) × (grant_given op ob p0 (Some x) ≡ Some y)
    by_test true e = (
      record { operation = x.operation; object = x.object; roles = with_place x.roles p0 },
      ap (λ b. cond b (Some (record { operation = x.operation; object = x.object; roles = with_place x.roles p0 }))
          (Some x)) e,
    )
    by_test false e = (
      x,
      ap (λ b. cond b (Some (record { operation = x.operation; object = x.object; roles = with_place x.roles p0 }))
          (Some x)) e,
    )

  abbrev HasPair : Operation → Object → List (Option Grant) → Type 0
  HasPair op' ob' slots = Holds (λ x. (x.operation ≡ op') × (x.object ≡ ob')) slots

  pair_slot : (at : ℕ) (o : Option Grant) → slice_get grants at ≡ Some o → grant_is op ob o ≡ true
      → HasPair op ob grants
  pair_slot at None there t = absurd (false≢true t)
  pair_slot at (Some x) there t =
      record {
        at = at;
        value = x;
        there = there;
        fact = (both _ _ _ _ (operations x.operation op) (objects x.object ob)).0 t;
      }

  widened_stand : list_any (grant_is op ob) grants ≡ true
      → GrantsStand roles (map (grant_given op ob p0) grants) (L ++ the_grant ∷ [])
  widened_stand any =
      let moved : (op' : Operation) (ob' : Object) → HasPair op' ob' grants
      → HasPair op' ob' (map (grant_given op ob p0) grants) = λ op' ob' h.
      let y = given_value h.value in
      let w = slot h.at h.value y.0 h.there y.1 in
      record {
        at = h.at;
        value = y.0;
        there = map_at (grant_given op ob p0) grants h.at h.value y.0 h.there y.1;
        fact = (sym w.operation ∙ h.fact.0, sym w.object ∙ h.fact.1);
      } in
      record {
        granted = λ at y there r. let m = mapped (grant_given op ob p0) grants at y refl there in
            (slot at m.value y m.there m.gives).granted r;
        only_pairs = λ r op' ob' h. moved op' ob' (elim ((granted_push r op' ob').0 h) [
          | inl p ↦ let found = some_passes (grant_is op ob) grants any in
              let held = pair_slot found.at found.value found.there found.test in
              record {
                at = held.at;
                value = held.value;
                there = held.there;
                fact = (held.fact.0 ∙ p.1, held.fact.1 ∙ p.2);
              }
          | inr k ↦ gs.only_pairs r op' ob' k
        ]);
        named = λ at y there. let m = mapped (grant_given op ob p0) grants at y refl there in
            (slot at m.value y m.there m.gives).named;
        used = λ at y there. let m = mapped (grant_given op ob p0) grants at y refl there in
            (slot at m.value y m.there m.gives).used;
        unique = λ p q y z a b same_op same_ob.
            let m = mapped (grant_given op ob p0) grants p y refl a in
            let n = mapped (grant_given op ob p0) grants q z refl b in
            let v = slot p m.value y m.there m.gives in
            let w = slot q n.value z n.there n.gives in
            gs.unique p q m.value n.value m.there n.there (v.operation ∙ same_op ∙ sym w.operation)
            (v.object ∙ same_ob ∙ sym w.object);
        places = length-map grants (grant_given op ob p0) ∙ gs.places;
      }

  added_stand : (i : ℕ) → Free grants i → list_any (grant_is op ob) grants ≡ false
      → GrantsStand roles (set grants i (Some (record { operation = op; object = ob; roles = with_place 0 p0 })))
      (L ++ the_grant ∷ [])
  added_stand i fr none =
      let new : Grant = record { operation = op; object = ob; roles = with_place 0 p0 } in
      let no_pair : (at : ℕ) (x : Grant) → At grants at x → x.operation ≡ op → x.object ≡ ob → ⊥ = λ at x there a b.
      false≢true
      (sym none ∙ any_passes_from_place (grant_is op ob) grants at (Some x) there
      ((both _ _ _ _ (operations x.operation op) (objects x.object ob)).1 (a, b))) in
      let fresh : (r : NameText) → IsGranted (L ++ the_grant ∷ []) r op ob ↔ InMask roles (with_place 0 p0) r =
      λ r. through (granted_push r op ob) (through
      (sums {A = Pair r op ob} {C = r0 ≡ r} {D = InMask roles 0 r} (λ p. p.0, λ same. (same, refl, refl)) (
        λ k. (let h = gs.only_pairs r op ob k in absurd (no_pair h.at h.value h.there h.fact.0 h.fact.1)),
        λ z. absurd (none_in_zero roles r z),
      ))
      (flip (in_with_place roles unique p0 r0 role_there low 0 r))) in
      let still : (op' : Operation) (ob' : Object) → HasPair op' ob' grants
      → HasPair op' ob' (set grants i (Some new)) = λ op' ob' h.
      record {
        at = h.at;
        value = h.value;
        there = get_set_other grants i h.at (Some new)
            (λ e. cc (fr.empty, subst (λ k. slice_get grants k ≡ Some (Some h.value)) e h.there)) ∙ h.there;
        fact =
            h.fact;
      } in
      record {
        granted = λ at y there r. elim (written grants i at new y fr.within there) [
          | inl q ↦ subst (λ z. IsGranted (L ++ the_grant ∷ []) r z.operation z.object ↔ InMask roles z.roles r) q.1
              (fresh r)
          | inr old ↦ other_pair at y old (no_pair at y old) r
        ];
        only_pairs = λ r op' ob' h. elim ((granted_push r op' ob').0 h) [
          | inl p ↦
              record { at = i; value = new; there = get_set_same grants i (Some new) fr.within; fact = (p.1, p.2) }
          | inr k ↦ still op' ob' (gs.only_pairs r op' ob' k)
        ];
        named = λ at y there. elim (written grants i at new y fr.within there) [
          | inl q ↦ subst (λ (z : Grant). IsNamed roles z.roles) q.1
              (named_with_place roles unique p0 r0 role_there low 0 (zero_named roles))
          | inr old ↦ gs.named at y old
        ];
        used = λ at y there. elim (written grants i at new y fr.within there) [
          | inl q ↦ subst (λ (z : Grant). (place : ℕ) × Has z.roles place) q.1 (p0, with_same 0 p0)
          | inr old ↦ gs.used at y old
        ];
        unique = λ p q y z a b same_op same_ob. elim (written grants i p new y fr.within a) [
          | inl s ↦ elim (written grants i q new z fr.within b) [
            | inl t ↦ s.0 ∙ sym t.0
            | inr old ↦
                absurd (no_pair q z old (sym same_op ∙ sym (ap (λ (v : Grant). v.operation) s.1))
                (sym same_ob ∙ sym (ap (λ (v : Grant). v.object) s.1)))
          ]
          | inr mine ↦ elim (written grants i q new z fr.within b) [
            | inl t ↦
                absurd (no_pair p y mine (same_op ∙ sym (ap (λ (v : Grant). v.operation) t.1))
                (same_ob ∙ sym (ap (λ (v : Grant). v.object) t.1)))
            | inr old ↦ gs.unique p q y z mine old same_op same_ob
          ]
        ];
        places = length-set grants i (Some new) ∙ gs.places;
      }

  pub granting : (room : (list_any (grant_is op ob) grants ≡ true) ⊎ ((i : ℕ) × (position is_none grants ≡ Some i)))
      → GrantsStand roles (grants_given op ob p0 grants) (L ++ the_grant ∷ [])
  granting room = by_test (list_any (grant_is op ob) grants) refl where
    new : Grant
    new = record { operation = op; object = ob; roles = with_place 0 p0 }

    by_test : (b : Bool) → list_any (grant_is op ob) grants ≡ b
        → GrantsStand roles (grants_given op ob p0 grants) (L ++ the_grant ∷ [])
    by_test true e = subst (λ g. GrantsStand roles g (L ++ the_grant ∷ []))
        (sym (ap (λ b. cond b (map (grant_given op ob p0) grants) (put_free new grants)) e)) (widened_stand e)
    by_test false e = elim room [
      | inl t ↦ absurd (false≢true (sym e ∙ t))
      | inr i ↦ subst (λ g. GrantsStand roles g (L ++ the_grant ∷ []))
          (sym (ap (λ b. cond b (map (grant_given op ob p0) grants) (put_free new grants)) e
          ∙ ap (put_at new grants) i.1)) (added_stand i.0 (free grants i.0 i.1) e)
    ]
