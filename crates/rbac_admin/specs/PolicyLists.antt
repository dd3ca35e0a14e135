-- Which lists of entries are policy lists: what a server opens with, and then accepted commands alone (this project's
-- own form).
use Rattle.std.specs.Prelude.{◌≡◌, ℕ, ◌≤◌, List, ◌++◌, Some, Ok, length, slice_get, take}
use Rattle.rbac_policy.specs.declared.commands.Entry.{Entry}
use Rattle.rbac_policy.specs.Opening.{opening_entries}
use Rattle.rbac_admin.specs.PolicyStep.{PolicyStep}
use Rattle.rbac_admin.specs.Room.{HasRoomFor}

-- `beginning` is a prefix of `whole`
pub record Begins {A : Type 0} (beginning whole : List A) : Type 0 where
  pub rest : List A
  pub is : beginning ++ rest ≡ whole

-- after these entries the policy step accepts the entry's command from the entry's session with this very entry, and
-- there is room for it
pub record IsAccepted (before : List Entry) (entry : Entry) : Type 0 where
  pub step : PolicyStep before entry.session entry.command (Ok entry)
  pub room : HasRoomFor entry.command before

-- the list begins with the opening entries, and each later entry is one that is accepted after those before it
pub record IsPolicyList (entries : List Entry) : Type 0 where
  pub opens : Begins opening_entries entries
  pub accepted : (at : ℕ) (entry : Entry) → length opening_entries ≤ at → slice_get entries at ≡ Some entry
      → IsAccepted (take at entries) entry
