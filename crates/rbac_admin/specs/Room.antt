-- The room of a policy list (this project's own form).
use Rattle.std.specs.Prelude.{◌≡◌, ℕ, ◌+◌, ◌<◌, ◌⊎◌, List, length}
use Rattle.refusal_rules.specs.Rules.{Rule, RefuseUnless}
use Rattle.rbac_policy.specs.declared.commands.AdminCommand.{AdminCommand}
use Rattle.rbac_policy.specs.declared.commands.AdminCommand.TheVariants.{DeleteSession}
use Rattle.rbac_policy.specs.declared.commands.Entry.{Entry}
use Rattle.rbac_policy.specs.declared.sizes.TheConstants.{POLICY_ENTRIES, ENDING_ENTRIES}

-- the policy list has room for the command: a logout always has, since a place is kept for that of each session that
-- may live
abbrev pub HasRoomFor : AdminCommand → List Entry → Type 0
HasRoomFor command entries = (command ≡ DeleteSession) ⊎ (length entries < POLICY_ENTRIES)

-- refuses with this where the policy list has no room for the entry's command
abbrev pub list_full : {R : Type 0} → R → List Entry → Entry → Rule R
list_full refusal entries entry = RefuseUnless (HasRoomFor entry.command entries) refusal

-- the most entries of the policy list, the places that are kept for logouts among them
abbrev pub most_entries : ℕ
most_entries = POLICY_ENTRIES + ENDING_ENTRIES
