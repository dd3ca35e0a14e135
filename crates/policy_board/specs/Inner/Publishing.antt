-- What the writer's state has to be between two calls (this project's own form).
use Rattle.std.specs.Prelude.{◌≡◌, List}
use Rattle.logbook.specs.Pages.{Book}
use Rattle.rbac_policy.specs.declared.policy.Policy.{Policy}
use Rattle.rbac_policy.specs.Leaving.{LeavesRoom}
use Rattle.rbac_policy.specs.StandsFor.{StandsFor}
use Rattle.rbac_admin.specs.PolicyLists.{IsPolicyList}
use Rattle.rbac_admin.specs.Room.{most_entries}
use Rattle.policy_board.specs.BookPrefixes.{PrefixInBook}
use Rattle.policy_board.specs.declared.published.Publication.{Publication}
use Rattle.policy_board.specs.Inner.Steps.{IsResting}

-- it shows the policy of a policy list of this board, in which each living session has room for its logout, and nothing
-- waits
pub record IsPublishing (book : Book) (policy : Policy) (book_prefix : PrefixInBook)
    (pending : List Publication) : Type 0 where
  pub own : book_prefix.book ≡ book
  pub is_list : IsPolicyList book_prefix.list
  pub stands : StandsFor policy book_prefix.list
  pub leaves : LeavesRoom most_entries book_prefix.list
  pub resting : IsResting (policy, book_prefix) pending
