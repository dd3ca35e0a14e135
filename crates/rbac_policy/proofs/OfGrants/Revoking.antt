-- The table of permissions after a revocation.
use Rattle.std.proofs.Common.{◌≡◌, ℕ, ◌<◌, ◌⊎◌, ◌↔◌, List, [], ◌∷◌, ◌++◌, map, cond, inl, inr, arith, sym, ◌∙◌, ap}
use Rattle.std.proofs.Common.{refl, subst, true, false, Bool, ◌&&◌}
use Rattle.std.specs.Prelude.{Option, Some, None, ◌==◌}
use Rattle.std.proofs.lemmas.Bool.{false≢true}
use Rattle.std.proofs.lemmas.Bool.Decides.{Decides-eqb}
use Rattle.rbac_closure.specs.Sets.{without_place}
use Rattle.rbac_closure.proofs.SetLemmas.{some_place}
use Rattle.rbac_policy.specs.declared.sizes.TheConstants.{ROLES}
use Rattle.rbac_policy.specs.declared.objects.Operation.{Operation}
use Rattle.rbac_policy.specs.declared.objects.Object.{Object}
use Rattle.rbac_policy.specs.Objects.{same_operation, same_object}
use Rattle.rbac_policy.specs.declared.commands.AdminCommand.TheVariants.{GrantPermission, RevokePermission, DeleteRole}
use Rattle.rbac_policy.specs.declared.commands.Entry.{Entry}
use Rattle.rbac_policy.specs.declared.rows.Grant.{Grant}
use Rattle.rbac_policy.specs.Names.{NameText}
use Rattle.rbac_policy.specs.Facts.{IsGranted}
use Rattle.rbac_policy.specs.Tables.{At, grant_with, grant_revoked}
use Rattle.rbac_policy.specs.StandsFor.{InMask, IsNamed, GrantsStand}
use Rattle.rbac_policy.proofs.Steps.{in_force_push}
use Rattle.rbac_policy.proofs.Untouched.{through}
use Rattle.rbac_policy.proofs.OfGrants.Granting.{flip}
use Rattle.rbac_policy.proofs.OfNames.Equality.{operations}
use Rattle.rbac_policy.specs.Inner.ObjectLaws.{objects, both}
use Rattle.rbac_policy.proofs.OfSlots.Mapping.{GrantBecomes, GrantSlot, grants_mapped}
use Rattle.rbac_policy.proofs.OfSlots.Slots.{in_without_place, named_without_place, none_in_zero}

-- a row with fewer roles: it goes where none is left
pub narrowed : (after : List (Option NameText)) (new : List Entry) (x : Grant) (left : ℕ)
    → ((r : NameText) → IsGranted new r x.operation x.object ↔ InMask after left r) → IsNamed after left
    → (o : Option Grant) → grant_with x left ≡ o
    → ((o ≡ None) × ((r : NameText) → IsGranted new r x.operation x.object → ⊥))
    ⊎ ((y : Grant) × (o ≡ Some y) × GrantBecomes after new x y)
narrowed after new x left granted named o is = by_test (left == 0) refl where
  row : Grant
  row = record { operation = x.operation; object = x.object; roles = left }

  by_test : (b : Bool) → (left == 0) ≡ b → ((o ≡ None) × ((r : NameText) → IsGranted new r x.operation x.object → ⊥))
      ⊎ ((y : Grant) × (o ≡ Some y) × GrantBecomes after new x y)
  by_test true e = inl (
    sym is ∙ ap (λ b. cond b None (Some row)) e,
    λ r h. none_in_zero after r (subst (λ m. InMask after m r) ((Decides-eqb left 0).0 e) ((granted r).0 h)),
  )
  by_test false e = inr (
    row,
    sym is ∙ ap (λ b. cond b None (Some row)) e,
    record {
      operation = refl;
      object = refl;
      granted = granted;
      named = named;
      used = some_place left left (omega arith) (λ zero. false≢true (sym e ∙ (Decides-eqb left 0).1 zero));
    },
  )

module _ (roles : List (Option NameText)) (unique : (p q : ℕ) (r : NameText) → At roles p r → At roles q r → p ≡ q)
    (p0 : ℕ) (r0 : NameText) (there0 : At roles p0 r0) (low : p0 < ROLES)
    (grants : List (Option Grant)) (L : List Entry) (s : Option ℕ) (op : Operation) (ob : Object)
    (gs : GrantsStand roles grants L) where
  abbrev pub the_revocation : Entry
  the_revocation = record { session = s; command = RevokePermission r0 op ob }

  revoked_push : (r : NameText) (op' : Operation) (ob' : Object)
      → IsGranted (L ++ the_revocation ∷ []) r op' ob'
      ↔ (IsGranted L r op' ob' × ((r0 ≡ r) × (op ≡ op') × (ob ≡ ob') → ⊥))
  revoked_push r op' ob' =
      let M : List Entry → Entry → Type 0 = λ before x. x.command ≡ GrantPermission r op' ob' in
      let U : Entry → Type 0 = λ x. (x.command ≡ RevokePermission r op' ob') ⊎ (x.command ≡ DeleteRole r) in (
        λ h. elim ((in_force_push M U L the_revocation).0 h) [
          | inl m ↦ cc
          | inr k ↦
              (k.0, λ x. k.1 (inl (let a : r0 ≡ r = x.0 in let b : op ≡ op' = x.1 in let c : ob ≡ ob' = x.2 in cc)))
        ],
        λ h. (in_force_push M U L the_revocation).1 (inr (h.0, λ u. elim u [ inl x ↦ h.1 (cc, cc, cc) | inr y ↦ cc ])),
      )

  slot : (at : ℕ) (x : Grant) → At grants at x → GrantSlot roles (L ++ the_revocation ∷ []) (grant_revoked op ob p0) x
  slot at x there = by_test (same_operation x.operation op && same_object x.object ob) refl where
    left : ℕ
    left = without_place x.roles p0

    by_test : (b : Bool) → (same_operation x.operation op && same_object x.object ob) ≡ b
        → GrantSlot roles (L ++ the_revocation ∷ []) (grant_revoked op ob p0) x
    by_test true e =
        let eq = (both _ _ _ _ (operations x.operation op) (objects x.object ob)).0 e in
        narrowed roles (L ++ the_revocation ∷ []) x left
        (λ r. through (revoked_push r x.operation x.object) (through {B = InMask roles x.roles r × (r0 ≡ r → ⊥)} (
          λ h. ((gs.granted at x there r).0 h.0, λ same. h.1 (same, sym eq.0, sym eq.1)),
          λ h. ((gs.granted at x there r).1 h.0, λ same. h.1 same.0),
        ) (flip (in_without_place roles unique p0 r0 there0 low x.roles r))))
        (named_without_place roles unique p0 r0 there0 low x.roles (gs.named at x there))
        (grant_revoked op ob p0 (Some x)) (sym (ap (λ b. cond b (grant_with x left) (Some x)) e))
    by_test false e = inr (
      x,
      ap (λ b. cond b (grant_with x left) (Some x)) e,
      record {
        operation = refl;
        object = refl;
        granted = λ r. through (revoked_push r x.operation x.object) (
          λ h. (gs.granted at x there r).0 h.0,
          λ m. (
            (gs.granted at x there r).1 m,
            λ same. false≢true
                (sym e ∙ (both _ _ _ _ (operations x.operation op) (objects x.object ob)).1 (sym same.1, sym same.2)),
          ),
        );
        named = gs.named at x there;
        used = gs.used at x there;
      },
    )

  pub revoking : GrantsStand roles (map (grant_revoked op ob p0) grants) (L ++ the_revocation ∷ [])
  revoking = grants_mapped roles roles grants L (L ++ the_revocation ∷ []) (grant_revoked op ob p0) refl gs slot
      (λ r op' ob' h. ((revoked_push r op' ob').0 h).0)
