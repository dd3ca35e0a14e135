-- When the entries of the policy list are as they have to be, place by place (this project's own form).
use Rattle.std.specs.Prelude.{◌≡◌, ℕ, ◌<◌, ◌≤◌, List, Some, length, take, slice_get}
use Rattle.rbac_policy.specs.declared.commands.Entry.{Entry}
use Rattle.rbac_policy.specs.Opening.{opening_entries}
use Rattle.rbac_admin.specs.PolicyLists.{IsAccepted}

-- at this place of the policy list, counted from 0, stands what has to: first the opening entries, in their order, and
-- after them entries that the policy step gives for their own session and command after those before them, where the
-- list has room
pub record IsRightAt (entries : List Entry) (at : ℕ) : Type 0 where
  pub opens : at < length opening_entries → slice_get entries at ≡ slice_get opening_entries at
  pub accepted : (entry : Entry) → length opening_entries ≤ at → slice_get entries at ≡ Some entry
      → IsAccepted (take at entries) entry
