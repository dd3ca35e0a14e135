-- That each living session finds a place in the policy list for its logout (this project's own form).
use Rattle.std.specs.Prelude.{ℕ, ◌+◌, ◌≤◌, List, length}
use Rattle.rbac_policy.specs.declared.commands.Entry.{Entry}
use Rattle.rbac_policy.specs.Facts.{IsLive}
use Rattle.rbac_policy.specs.Counting.{HasAtLeast}

-- entries and living sessions together are no more than this
pub record LeavesRoom (most : ℕ) (entries : List Entry) : Type 0 where
  pub each : (count : ℕ) → HasAtLeast count (IsLive entries) → length entries + count ≤ most
