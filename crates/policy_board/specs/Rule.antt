-- The rule of the published policy: what holds, between any two steps of any threads, of the policy that readers are
-- shown and of what each reader, and the writer, has seen (this project's own form). Its kinds of step are
--
--   open      all views begin, with the opening entries; a later reader's view is put beside them
--   publish   the shown policy takes in one entry, once, and the writer's view is the list with it
--   enter     one reader's view becomes the list that is shown; what is shown stays
--   leave     ends that reader's read; nothing that the rule speaks of changes
--   tell      an acceptance has a prefix: the writer's view
--   learn     a seat takes over such a prefix, where it is longer than what the seat knows
--
-- Besides, three locks are taken and released: the admin lock (its holder has writer and journal), the tally's lock
-- (its holder has the number of the last slot command that was counted), and a slot's lock, which belongs to a crate
-- above.
use Rattle.std.specs.Prelude.{◌≡◌, ℕ, List}
use mathlib.Core.Option.{some}
use lib.ListN.{get_elem?}
use Rattle.rbac_policy.specs.declared.commands.Entry.{Entry}
use Rattle.rbac_policy.specs.declared.policy.Policy.{Policy}
use Rattle.rbac_policy.specs.StandsFor.{StandsFor}
use Rattle.rbac_admin.specs.PolicyLists.{Begins, IsPolicyList}

-- what is shown is the policy of a policy list, and each view is a beginning of that list
pub record IsKept (policy : Policy) (list : List Entry) (views : List (List Entry)) : Type 0 where
  pub is_list : IsPolicyList list
  pub stands : StandsFor policy list
  pub begins : (place : ℕ) (view : List Entry) → get_elem? views place ≡ some view → Begins view list

-- what a step tells of the view before it, of what is then shown and of the view after it: all that is shown is seen,
-- and it begins with what was seen before
pub record IsSeen (before : List Entry) (policy : Policy) (list after : List Entry) : Type 0 where
  pub all : after ≡ list
  pub later : Begins before list
  pub stands : StandsFor policy list
