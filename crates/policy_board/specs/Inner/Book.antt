-- The rule of the one list of accepted entries, which exists in the proofs alone, and what its steps tell (this
-- project's own form).
use Rattle.std.specs.Prelude.{ℕ, ◌≡◌, ◌==◌, true, List, [], ◌∷◌, ◌++◌, length, None, MatchBool}
use Rattle.logbook.specs.Pages.{Cell, Step, View, Book, Named}
use Rattle.rbac_policy.specs.declared.commands.AdminCommand.TheVariants.{DeleteSession}
use Rattle.rbac_policy.specs.declared.commands.Entry.{Entry}
use Rattle.rbac_admin.specs.PolicyLists.{IsPolicyList}

-- the first word is the length of the list, which is a policy list. A book has two words, of which this one leaves the
-- second at 0
pub record IsBook (cells : List Cell) (log : List Entry) : Type 0 where
  pub words : cells ≡ (length log, true) ∷ (0, true) ∷ []
  pub list : IsPolicyList log

-- the word that holds the length of the book's list
abbrev pub head_of : Book → Named
head_of b = record { tracked = true; key = 0; book = b }

-- the entry was added to all that had been seen, where the number found is the one expected
abbrev pub Adds : Step Entry → View Entry ℕ → ℕ → View Entry ℕ → Type 0
Adds s before found after = MatchBool (found == s.old) (after.0 ≡ before.0 ++ s.ask ∷ []) (Unit {0})
    × IsPolicyList after.0

-- the whole list was seen, and its length found
abbrev pub Looks : Step Entry → View Entry ℕ → ℕ → View Entry ℕ → Type 0
Looks s before found after = length after.0 ≡ found

-- an entry for a step that adds none
abbrev pub no_entry : Entry
no_entry = record { session = None; command = DeleteSession }
