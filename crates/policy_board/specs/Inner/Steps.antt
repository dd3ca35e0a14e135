-- What a publication makes of the policy that is shown (this project's own form).
use Rattle.std.specs.Prelude.{◌≡◌, List, fold}
use Rattle.rbac_policy.specs.declared.policy.Policy.{Policy}
use Rattle.rbac_policy.specs.Change.{absorbed}
use Rattle.policy_board.specs.BookPrefixes.{PrefixInBook}
use Rattle.policy_board.specs.declared.published.Publication.{Publication}
use Rattle.policy_board.specs.declared.published.Publication.TheVariants.{Room, Add}

-- a policy with its list, after the publication
abbrev pub after_publication : Policy × PrefixInBook → Publication → Policy × PrefixInBook
after_publication s Room = s
after_publication s (Add entry book_prefix) = (absorbed s.0 entry, book_prefix)

-- what waits to be published changes nothing
abbrev pub IsResting : Policy × PrefixInBook → List Publication → Type 0
IsResting s pending = fold after_publication s pending ≡ s
