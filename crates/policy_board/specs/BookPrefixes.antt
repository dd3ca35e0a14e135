-- What a contract sees of a prefix of the policy list (this project's own form).
use Rattle.std.specs.Prelude.{List}
use Rattle.logbook.specs.Pages.{Book}
use Rattle.rbac_policy.specs.declared.commands.Entry.{Entry}

-- the entries that were seen, and of which board's list they are the beginning
pub record PrefixInBook : Type 0 where
  pub book : Book
  pub list : List Entry

-- these entries, of the list of this board
abbrev pub prefix_in_book : Book → List Entry → PrefixInBook
prefix_in_book book list = record { book = book; list = list }
