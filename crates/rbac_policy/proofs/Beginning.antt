-- Empty tables stand for no entries, and each opening entry fits those before it.
use Rattle.std.proofs.Common.{◌≡◌, ℕ, zero, suc, List, [], ◌∷◌, length, inl, inr, arith, refl, ◌∙◌}
use Rattle.std.specs.List.{All}
use Rattle.std.specs.Prelude.{slice_index, replicate, Option, None}
use Rattle.std.proofs.lemmas.Option.{slice_get_within}
use Rattle.std.proofs.lemmas.List.{length-replicate}
use Rattle.std.proofs.lemmas.Nat.Bits.{bit_at-zero}
use Rattle.rbac_policy.specs.declared.commands.Entry.{Entry}
use Rattle.rbac_policy.specs.declared.rows.User.{User}
use Rattle.rbac_policy.specs.declared.rows.Grant.{Grant}
use Rattle.rbac_policy.specs.declared.rows.Session.{Session}
use Rattle.rbac_policy.specs.declared.rows.DsdSet.{DsdSet}
use Rattle.rbac_policy.specs.declared.policy.Policy as tables
use Rattle.rbac_policy.specs.declared.sizes.TheConstants.{USERS, ROLES, GRANTS, SESSIONS, SETS}
use Rattle.rbac_policy.specs.Names.{NameText}
use Rattle.rbac_policy.specs.Counting.{HasAtLeast}
use Rattle.rbac_policy.specs.Opening.{root}
use Rattle.rbac_policy.specs.Fits.{Fits}
use Rattle.rbac_policy.specs.declared.objects.Operation.{Operation}
use Rattle.rbac_policy.specs.declared.objects.Operation.TheVariants.{Administer}
use Rattle.rbac_policy.specs.declared.objects.Object.{Object}
use Rattle.rbac_policy.specs.declared.objects.Object.TheVariants.{Policy}
use Rattle.rbac_policy.specs.declared.commands.AdminCommand.TheVariants.{AddUser, DeleteUser, AddRole, DeleteRole}
use Rattle.rbac_policy.specs.declared.commands.AdminCommand.TheVariants.{AssignUser, GrantPermission}
use Rattle.rbac_policy.specs.Facts.{IsUser, IsRole, IsGranted, IsPairGranted, Revokes}
use Rattle.rbac_policy.specs.Tables.{At}
use Rattle.rbac_policy.specs.StandsFor.{StandsFor}
use Rattle.rbac_policy.proofs.Steps.{none_in_force, in_force_push}

none_at : {X : Type 0} (n at : ℕ) (x : X) → At (replicate n None) at x → ⊥
none_at zero at x there = cc
none_at (suc n) zero x there = cc
none_at (suc n) (suc at) x there = none_at n at x there

zeros : (n at : ℕ) → slice_index (replicate n 0) at ≡ 0
zeros zero at = refl
zeros (suc n) zero = refl
zeros (suc n) (suc at) = zeros n at

abbrev pub blank : (u r j g s d : ℕ) → tables.Policy
blank u r j g s d =
    record {
      version = 0;
      logins = 0;
      users = replicate u None;
      roles = replicate r None;
      juniors = replicate j 0;
      grants = replicate g None;
      sessions = replicate s None;
      sets = replicate d None;
    }

pub blank_stands : (u r j g s d : ℕ) → u ≡ USERS → r ≡ ROLES → j ≡ ROLES → g ≡ GRANTS → s ≡ SESSIONS → d ≡ SETS
    → StandsFor (blank u r j g s d) []
blank_stands u r j g s d many_users many_roles many_rows many_grants many_sessions many_sets = record {
  version = refl;
  logins = refl;
  users = record {
    exist = λ name. (λ h. absurd (none_in_force _ _ h), λ h. absurd (none_at u h.at h.value h.there));
    assigned = λ at x there. absurd (none_at u at x there);
    only_users = λ name role h. absurd (none_in_force _ _ h);
    named = λ at x there. absurd (none_at u at x there);
    unique = λ p q x y there. absurd (none_at u p x there);
    places = length-replicate {A = Option User} u None ∙ many_users;
  };
  roles = record {
    exist = λ name. (λ h. absurd (none_in_force _ _ h), λ h. absurd (none_at r h.at h.value h.there));
    unique = λ p q name there. absurd (none_at r p name there);
    edges = λ p name there. absurd (none_at r p name there);
    only_roles = λ a b h. absurd (none_in_force _ _ h);
    named = λ p place bit. absurd (omega (arith, rw (zeros j p) at bit, bit_at-zero place));
    empty = λ p none place bit. omega (arith, rw (zeros j p) at bit, bit_at-zero place);
    places = length-replicate {A = Option (List ℕ)} r None ∙ many_roles;
    rows = length-replicate {A = ℕ} j 0 ∙ many_rows;
  };
  grants = record {
    granted = λ at x there. absurd (none_at g at x there);
    only_pairs = λ role op object h. absurd (none_in_force _ _ h);
    named = λ at x there. absurd (none_at g at x there);
    used = λ at x there. absurd (none_at g at x there);
    unique = λ p q x y there. absurd (none_at g p x there);
    places = length-replicate {A = Option Grant} g None ∙ many_grants;
  };
  sessions = record {
    exist = λ n u'. (
      λ h. absurd (omega (arith, slice_get_within [] h.at h.entry h.there)),
      λ h. absurd (none_at s h.at h.value h.there),
    );
    active = λ at x there. absurd (none_at s at x there);
    named = λ at x there. absurd (none_at s at x there);
    numbers = λ at x there. absurd (none_at s at x there);
    made = λ n role h. absurd (none_in_force _ _ h);
    unique = λ p q x y there. absurd (none_at s p x there);
    places = length-replicate {A = Option Session} s None ∙ many_sessions;
  };
  sets = record {
    listed = λ place name count members h. absurd (none_in_force _ _ h);
    made = λ at x there. absurd (none_at d at x there);
    named = λ at x there. absurd (none_at d at x there);
    unique = λ p q x y there. absurd (none_at d p x there);
    places = length-replicate {A = Option DsdSet} d None ∙ many_sets;
  };
}

-- the opening entries, one by one
abbrev pub adds_user : Entry
adds_user = record { session = None; command = AddUser root }

abbrev pub adds_role : Entry
adds_role = record { session = None; command = AddRole root }

abbrev pub assigns : Entry
assigns = record { session = None; command = AssignUser root root }

abbrev pub permits : Entry
permits = record { session = None; command = GrantPermission root Administer Policy }

-- what nothing has isn't had by many
few : {A : Type 0} (n : ℕ) (P : A → Type 0) → ((x : A) → P x → ⊥) → HasAtLeast (suc n) P → ⊥
few {A = A} n P none h = by_values h.values h.have h.enough where
  by_values : (xs : List A) → All P xs → length xs ≡ suc n → ⊥
  by_values [] have e = cc
  by_values (x ∷ xs) have e = none x (have 0 x (omega arith))

no_role : (r : NameText) → IsRole (adds_user ∷ []) r → ⊥
no_role r h =
    elim ((in_force_push (λ before e. e.command ≡ AddRole r) (λ e. e.command ≡ DeleteRole r) [] adds_user).0 h) [
      | inl m ↦ cc
      | inr k ↦ none_in_force _ _ k.0
    ]

is_user : IsUser (adds_user ∷ adds_role ∷ []) root
is_user =
    let M : List Entry → Entry → Type 0 = λ before e. e.command ≡ AddUser root in
    let U : Entry → Type 0 = λ e. e.command ≡ DeleteUser root in
    (in_force_push M U (adds_user ∷ []) adds_role).1 (inr ((in_force_push M U [] adds_user).1 (inl refl), λ u. cc))

is_role : IsRole (adds_user ∷ adds_role ∷ []) root
is_role =
    let M : List Entry → Entry → Type 0 = λ before e. e.command ≡ AddRole root in
    let U : Entry → Type 0 = λ e. e.command ≡ DeleteRole root in
    (in_force_push M U (adds_user ∷ []) adds_role).1 (inl refl)

is_role_still : IsRole (adds_user ∷ adds_role ∷ assigns ∷ []) root
is_role_still =
    let M : List Entry → Entry → Type 0 = λ before e. e.command ≡ AddRole root in
    let U : Entry → Type 0 = λ e. e.command ≡ DeleteRole root in
    (in_force_push M U (adds_user ∷ adds_role ∷ []) assigns).1 (inr (is_role, λ u. cc))

none_granted : (r : NameText) (op : Operation) (ob : Object) → IsGranted (adds_user ∷ adds_role ∷ assigns ∷ []) r op ob
    → ⊥
none_granted r op ob h =
    let M : List Entry → Entry → Type 0 = λ before e. e.command ≡ GrantPermission r op ob in
    let U : Entry → Type 0 = Revokes r op ob in
    elim ((in_force_push M U (adds_user ∷ adds_role ∷ []) assigns).0 h) [
      | inl m ↦ cc
      | inr k ↦ elim ((in_force_push M U (adds_user ∷ []) adds_role).0 k.0) [
        | inl m ↦ cc
        | inr j ↦ elim ((in_force_push M U [] adds_user).0 j.0) [ inl m ↦ cc | inr i ↦ none_in_force _ _ i.0 ]
      ]
    ]

-- each fits those before it
pub fits_user : Fits [] adds_user
fits_user = record {
  few = omega arith;
  command = record { absent = λ h. none_in_force _ _ h; room = few 63 (IsUser []) (λ u h. none_in_force _ _ h) };
}

pub fits_role : Fits (adds_user ∷ []) adds_role
fits_role = record {
  few = omega arith;
  command = record { absent = no_role root; room = few 63 (IsRole (adds_user ∷ [])) no_role };
}

pub fits_assignment : Fits (adds_user ∷ adds_role ∷ []) assigns
fits_assignment = record { few = omega arith; command = record { is_user = is_user; is_role = is_role } }

pub fits_permission : Fits (adds_user ∷ adds_role ∷ assigns ∷ []) permits
fits_permission = record {
  few = omega arith;
  command = record {
    is_role = is_role_still;
    room = λ _. few {A = Operation × Object} 255
        (λ pair. IsPairGranted (adds_user ∷ adds_role ∷ assigns ∷ []) pair.0 pair.1)
        (λ pair h. none_granted h.0 pair.0 pair.1 h.1);
  };
}
