-- An entry that the policy step accepts is one that the policy can take in.
use Rattle.std.proofs.Common.{ℕ, zero, suc, ◌<◌, ◌↔◌, List, [], ◌∷◌, ◌++◌, length, true, false, Bool, IsTrue, rules}
use Rattle.std.proofs.Common.{inl, inr, arith, sym, ◌∙◌, ap, refl, subst}
use Rattle.std.specs.Prelude.{Option, Some, Ok, is_some, Contains}
use Rattle.std.proofs.lemmas.Bool.{cases_lt}
use Rattle.std.proofs.lemmas.Option.{slice_get-get_or}
use Rattle.rbac_policy.specs.declared.policy.Policy.{Policy}
use Rattle.rbac_policy.specs.declared.commands.AdminCommand.{AdminCommand}
use Rattle.rbac_policy.specs.declared.commands.AdminCommand.TheVariants.{AddUser, DeleteUser, AddRole, DeleteRole}
use Rattle.rbac_policy.specs.declared.commands.AdminCommand.TheVariants.{AssignUser, DeassignUser, GrantPermission}
use Rattle.rbac_policy.specs.declared.commands.AdminCommand.TheVariants.{RevokePermission, AddInheritance}
use Rattle.rbac_policy.specs.declared.commands.AdminCommand.TheVariants.{DeleteInheritance, CreateDsdSet, DeleteDsdSet}
use Rattle.rbac_policy.specs.declared.commands.AdminCommand.TheVariants.{CreateSession, DeleteSession, AddActiveRole}
use Rattle.rbac_policy.specs.declared.commands.AdminCommand.TheVariants.{DropActiveRole}
use Rattle.rbac_policy.specs.declared.commands.Entry.{Entry}
use Rattle.rbac_policy.specs.declared.sizes.TheConstants.{LAST_SESSION, LAST_VERSION}
use Rattle.rbac_policy.specs.Names.{NameText}
use Rattle.rbac_policy.specs.Entries.{logins}
use Rattle.rbac_policy.specs.Facts.{IsRole, IsSet}
use Rattle.rbac_policy.specs.Tables.{place_of}
use Rattle.rbac_policy.specs.Fits.{Fits, FitsCommand}
use Rattle.rbac_policy.specs.StandsFor.{StandsFor}
use Rattle.rbac_policy.specs.Change.{absorbed}
use Rattle.rbac_policy.proofs.Asking.{role_test}
use Rattle.rbac_policy.proofs.Absorbing.{stands_after}
use Rattle.rbac_policy.specs.Separation.{IsFirstSetOf}
use Rattle.rbac_admin.specs.PolicyStep.{PolicyStep, entry_of}
use Rattle.rbac_admin.proofs.Accepted.{passed, accepted_entry}
use Rattle.rbac_admin.proofs.Listing.{none_anywhere}

-- the test of a role decides it
pub role_unless : (p : Policy) (L : List Entry) → StandsFor p L → (r : NameText) → ((IsRole L r → ⊥) → ⊥) → IsRole L r
role_unless p L st r not_not = by_test (is_some (place_of r p.roles))
    (role_test p L st r (is_some (place_of r p.roles)) refl) where
      by_test : (b : Bool) → (IsTrue b ↔ IsRole L r) → IsRole L r
      by_test true test = test.0 (search rules)
      by_test false test = absurd (not_not (λ h. absurd (search (rules, test.1 h))))

-- where no set is the first that has the role, none has it
in_no_set : (L : List Entry) (role : NameText) → ((set : NameText) → IsFirstSetOf L role set → ⊥)
    → (n place : ℕ) → place < n → (set : NameText) (count : ℕ) (members : List NameText)
    → IsSet L place set count members → Contains members role → ⊥
in_no_set L role none zero place low set count members is_set member = absurd (omega (arith, low))
in_no_set L role none (suc n) place low set count members is_set member = none set (record {
  place = place;
  count = count;
  roles = members;
  is_set = is_set;
  member = member;
  first = λ earlier other number others before is_other. in_no_set L role none n earlier
      (omega (arith, low, before)) other number others is_other;
})

module _ (p : Policy) (L : List Entry) (st : StandsFor p L) where
  fits_command : (session : Option ℕ) (command : AdminCommand) (e : Entry) → PolicyStep L session command (Ok e)
      → FitsCommand (entry_of session command).command (entry_of session command).session L
  fits_command session (GrantPermission role operation object) e h =
      let all = passed L session (GrantPermission role operation object) e h in
      record { is_role = all.1.1.0; room = λ new full. all.1.1.1.1.0 (record { new = new; full = full }) }
  fits_command session (CreateSession user roles) e h =
      let all = passed L session (CreateSession user roles) e h in
      let unknown = none_anywhere (λ before role. IsRole L role → ⊥) roles all.1.1.0 in
      record {
        by_none = refl;
        are_roles = λ role listed. role_unless p L st role
            ((unknown (suc listed.0)).none listed.0 role (omega arith)
            (slice_get-get_or roles listed.0 role listed.1 ∙ ap Some listed.2));
        room = all.1.1.1.1.1.1.0;
        numbers = elim (cases_lt (logins L) LAST_SESSION) [ inl low ↦ low | inr high ↦ absurd (all.0 high) ];
      }
  fits_command session DeleteSession e h =
      let session_is = (passed L session DeleteSession e h).0 in
      record { number = session_is.0; given = session_is.1.given }
  fits_command session (AddUser user) e h =
      let all = passed L session (AddUser user) e h in
      record { absent = all.1.1.0; room = all.1.1.1.0 }
  fits_command session (DeleteUser user) e h = (passed L session (DeleteUser user) e h).1.1.0
  fits_command session (AddRole role) e h =
      let all = passed L session (AddRole role) e h in
      record { absent = all.1.1.0; room = all.1.1.1.0 }
  fits_command session (DeleteRole role) e h =
      let all = passed L session (DeleteRole role) e h in
      record { is_role = all.1.1.0; in_no_set = λ place. in_no_set L role all.1.1.1.0 (suc place) place (omega arith) }
  fits_command session (AssignUser user role) e h =
      let all = passed L session (AssignUser user role) e h in
      record { is_user = all.1.1.0; is_role = all.1.1.1.0 }
  fits_command session (DeassignUser user role) e h = (passed L session (DeassignUser user role) e h).1.1.1.0
  fits_command session (RevokePermission role operation object) e h =
      (passed L session (RevokePermission role operation object) e h).1.1.0
  fits_command session (AddInheritance senior junior) e h =
      let all = passed L session (AddInheritance senior junior) e h in
      record { is_senior = all.1.1.0; is_junior = all.1.1.1.0 }
  fits_command session (DeleteInheritance senior junior) e h =
      let all = passed L session (DeleteInheritance senior junior) e h in
      record { is_senior = all.1.1.0; is_junior = all.1.1.1.0 }
  fits_command session (CreateDsdSet set count roles) e h =
      let all = passed L session (CreateDsdSet set count roles) e h in
      let unknown = none_anywhere (λ before role. IsRole L role → ⊥) roles all.1.1.1.0 in
      record {
        absent = all.1.1.0;
        are_roles = λ role listed. role_unless p L st role
            ((unknown (suc listed.0)).none listed.0 role (omega arith)
            (slice_get-get_or roles listed.0 role listed.1 ∙ ap Some listed.2));
        room = all.1.1.1.1.1.1.0;
      }
  fits_command session (DeleteDsdSet set) e h = (passed L session (DeleteDsdSet set) e h).1.1.0
  fits_command session (AddActiveRole role) e h =
      let all = passed L session (AddActiveRole role) e h in
      let by = all.0.1 in
      record { number = all.0.0; given = by.given; lives = (by.user, by.lives); is_role = all.1.0 }
  fits_command session (DropActiveRole role) e h =
      let all = passed L session (DropActiveRole role) e h in
      record { number = all.0.0; given = all.0.1.given; is_role = all.1.0 }

  -- an accepted entry fits
  pub step_fits : (session : Option ℕ) (command : AdminCommand) (e : Entry) → length L < LAST_VERSION
      → PolicyStep L session command (Ok e) → Fits L e
  step_fits session command e few h =
      let is = accepted_entry L session command e h in
      let Fitting : Entry → Type 0 = λ x. FitsCommand x.command x.session L in
      record { few = few; command = subst Fitting (sym is) (fits_command session command e h) }

  -- the policy that has taken it in stands for the longer list
  pub accepted_stands : (session : Option ℕ) (command : AdminCommand) (e : Entry) → length L < LAST_VERSION
      → PolicyStep L session command (Ok e)
      → StandsFor (absorbed p e) (L ++ e ∷ [])
  accepted_stands session command e few h = stands_after p L e st (step_fits session command e few h)
