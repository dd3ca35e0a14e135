-- The test of opening commands is that of the opening entries.
use Rattle.std.proofs.Common.{◌≡◌, ◌∙◌, ℕ, zero, suc, true, Decides, ◌<◌, refl, sym, ap, subst, arith}
use Rattle.std.specs.Prelude.{Some, None, slice_get}
use Rattle.std.proofs.lemmas.Bool.{false≢true}
use Rattle.std.proofs.lemmas.Bool.Decides.{Decides-eqb}
use Rattle.std.proofs.lemmas.Option.{same_Some}
use Rattle.std.proofs.lemmas.Slice.Eq.{bytes_eq-Decides}
use Rattle.rbac_policy.specs.declared.commands.AdminCommand.{AdminCommand}
use Rattle.rbac_policy.specs.declared.commands.AdminCommand.TheVariants.{AddUser, AddRole, AssignUser, GrantPermission}
use Rattle.rbac_policy.specs.declared.commands.Entry.{Entry}
use Rattle.rbac_policy.specs.declared.objects.Object.{Object}
use Rattle.rbac_policy.specs.declared.objects.Object.TheVariants.{Policy}
use Rattle.rbac_policy.specs.declared.objects.Operation.{Operation}
use Rattle.rbac_policy.specs.declared.objects.Operation.TheVariants.{Administer}
use Rattle.rbac_policy.specs.Inner.ObjectLaws.{both}
use Rattle.rbac_policy.specs.Opening.{root, opening_entries}
use Rattle.audit_report.specs.Inner.Openings.{is_administer, is_policy, is_opening}

-- the command is the opening one of this place
abbrev Opens : (place : ℕ) → AdminCommand → Type 0
Opens place (AddUser user) = (place ≡ 0) × (user ≡ root)
Opens place (AddRole role) = (place ≡ 1) × (role ≡ root)
Opens place (AssignUser user role) = (place ≡ 2) × ((user ≡ root) × (role ≡ root))
Opens place (GrantPermission role operation object) = (place ≡ 3)
    × ((role ≡ root) × ((operation ≡ Administer) × (object ≡ Policy)))
Opens place _ = ⊥

administers : (operation : Operation) → Decides (is_administer operation) (operation ≡ Administer)
administers Administer = (λ _. refl, λ _. refl)
administers operation = (λ t. absurd (false≢true t), λ e. absurd cc)

on_policy : (object : Object) → Decides (is_policy object) (object ≡ Policy)
on_policy Policy = (λ _. refl, λ _. refl)
on_policy object = (λ t. absurd (false≢true t), λ e. absurd cc)

tested : (place : ℕ) (command : AdminCommand) → Decides (is_opening place command) (Opens place command)
tested place (AddUser user) = both _ _ _ _ (Decides-eqb place 0) (bytes_eq-Decides user root)
tested place (AddRole role) = both _ _ _ _ (Decides-eqb place 1) (bytes_eq-Decides role root)
tested place (AssignUser user role) =
    both _ _ _ _ (Decides-eqb place 2) (both _ _ _ _ (bytes_eq-Decides user root) (bytes_eq-Decides role root))
tested place (GrantPermission role operation object) =
    both _ _ _ _ (Decides-eqb place 3)
    (both _ _ _ _ (bytes_eq-Decides role root) (both _ _ _ _ (administers operation) (on_policy object)))
tested place command = (λ t. absurd (false≢true t), λ no. absurd no)

-- the entry that no session gives
abbrev by_none : AdminCommand → Entry
by_none command = record { session = None; command = command }

command_in : (a b : Entry) → Some a ≡ Some b → a.command ≡ b.command
command_in a b e = ap (λ (x : Entry). x.command) (same_Some a b e)

opened : (place : ℕ) (entry : Entry) → slice_get opening_entries place ≡ Some entry → Opens place entry.command
opened zero entry e = subst (Opens 0) (command_in _ entry e) (refl, refl)
opened (suc zero) entry e = subst (Opens 1) (command_in _ entry e) (refl, refl)
opened (suc (suc zero)) entry e = subst (Opens 2) (command_in _ entry e) (refl, (refl, refl))
opened (suc (suc (suc zero))) entry e = subst (Opens 3) (command_in _ entry e) (refl, (refl, (refl, refl)))
opened (suc (suc (suc (suc n)))) entry e = absurd cc

by_none_opened : (place : ℕ) (entry : Entry) → slice_get opening_entries place ≡ Some entry → entry.session ≡ None
by_none_opened zero entry e = sym (ap (λ (x : Entry). x.session) (same_Some _ entry e))
by_none_opened (suc zero) entry e = sym (ap (λ (x : Entry). x.session) (same_Some _ entry e))
by_none_opened (suc (suc zero)) entry e = sym (ap (λ (x : Entry). x.session) (same_Some _ entry e))
by_none_opened (suc (suc (suc zero))) entry e = sym (ap (λ (x : Entry). x.session) (same_Some _ entry e))
by_none_opened (suc (suc (suc (suc n)))) entry e = absurd cc

opens : (place : ℕ) (command : AdminCommand) → Opens place command
    → slice_get opening_entries place ≡ Some (by_none command)
opens place (AddUser user) h =
    ap (slice_get opening_entries) h.0 ∙ ap (λ u. Some (by_none (AddUser u))) (sym h.1)
opens place (AddRole role) h =
    ap (slice_get opening_entries) h.0 ∙ ap (λ r. Some (by_none (AddRole r))) (sym h.1)
opens place (AssignUser user role) h =
    ap (slice_get opening_entries) h.0 ∙ ap (λ u. Some (by_none (AssignUser u root))) (sym h.1.0)
    ∙ ap (λ r. Some (by_none (AssignUser user r))) (sym h.1.1)
opens place (GrantPermission role operation object) h =
    ap (slice_get opening_entries) h.0 ∙ ap (λ r. Some (by_none (GrantPermission r Administer Policy))) (sym h.1.0)
    ∙ ap (λ o. Some (by_none (GrantPermission role o Policy))) (sym h.1.1.0)
    ∙ ap (λ o. Some (by_none (GrantPermission role operation o))) (sym h.1.1.1)
opens place command h = absurd h

-- an entry of no session with the opening command of its place is the opening entry
pub is_opening_entry : (place : ℕ) (entry : Entry) → entry.session ≡ None → is_opening place entry.command ≡ true
    → slice_get opening_entries place ≡ Some entry
is_opening_entry place entry none test =
    opens place entry.command ((tested place entry.command).0 test)
    ∙ ap (λ s. let x : Entry = record { session = s; command = entry.command } in Some x) (sym none)

-- the opening entry of a place has no session, and the opening command
pub opening_entry_is : (place : ℕ) (entry : Entry) → slice_get opening_entries place ≡ Some entry
    → (entry.session ≡ None) × (is_opening place entry.command ≡ true)
opening_entry_is place entry there =
    (by_none_opened place entry there, (tested place entry.command).1 (opened place entry there))

-- there is an opening entry at each of the four places
pub never_none : (place : ℕ) → place < 4 → slice_get opening_entries place ≡ None → ⊥
never_none zero low none = absurd cc
never_none (suc zero) low none = absurd cc
never_none (suc (suc zero)) low none = absurd cc
never_none (suc (suc (suc zero))) low none = absurd cc
never_none (suc (suc (suc (suc n)))) low none = absurd (omega (arith, low))
