-- The parts of lists: journals by the number of their slot, and what is left of a list.
use Rattle.std.proofs.Common.{◌≡◌, ℕ, zero, suc, ◌<◌, ◌≤◌, List, [], ◌∷◌, ◌++◌, length, map, set, get_or, refl, ap}
use Rattle.std.proofs.Common.{arith, Some}
use Rattle.std.specs.Prelude.{slice_get, unwrap_or}
use Rattle.std.proofs.lemmas.Option.{slice_get_past}
use Rattle.reactor_core.specs.declared.entry.SlotEntry.{SlotEntry}
use Rattle.access_core.specs.SlotState.{SlotState}
use Rattle.history_events.proofs.Placing.{journal_of}
use Rattle.history_merge.specs.Order.{part_at}
use Rattle.history_merge.proofs.Going.{at_past}

-- an item stands at each place inside
pub record StandsAt {A : Type 0} (xs : List A) (place : ℕ) : Type 0 where
  pub item : A
  pub there : slice_get xs place ≡ Some item

pub stands_at : {A : Type 0} (xs : List A) (place : ℕ) → place < length xs → StandsAt xs place
stands_at [] place inside = absurd (omega arith)
stands_at (x ∷ xs) zero inside = record { item = x; there = refl }
stands_at (x ∷ xs) (suc place) inside =
    let found = stands_at xs place (omega arith) in
    record { item = found.item; there = found.there }

-- the item after a beginning
pub behind : {A : Type 0} (beginning : List A) (x : A) (rest : List A)
    → slice_get (beginning ++ x ∷ rest) (length beginning) ≡ Some x
behind [] x rest = refl
behind (b ∷ beginning) x rest = behind beginning x rest

-- slots whose journals are these, one by one
pub same_journals : (slots : List SlotState) (journals : List (List SlotEntry)) → length slots ≡ length journals
    → ((number : ℕ) → journal_of slots number ≡ part_at journals number)
    → map (λ (slot : SlotState). slot.journal) slots ≡ journals
same_journals [] [] long each = refl
same_journals [] (j ∷ journals) long each = absurd (omega arith)
same_journals (s ∷ slots) [] long each = absurd (omega arith)
same_journals (s ∷ slots) (j ∷ journals) long each =
    let first : s.journal ≡ j = each 0 in
    let rest : map (λ (slot : SlotState). slot.journal) slots ≡ journals =
    same_journals slots journals (omega arith) (λ number. each (suc number)) in
    cc

-- numbers that are all within a limit, and still where one is replaced
pub set_within : (xs : List ℕ) (place new limit : ℕ) → ((at : ℕ) → get_or xs at 0 ≤ limit) → new ≤ limit
    → (at : ℕ) → get_or (set xs place new) at 0 ≤ limit
set_within [] place new limit within low at = within at
set_within (x ∷ xs) zero new limit within low zero = low
set_within (x ∷ xs) zero new limit within low (suc at) = within (suc at)
set_within (x ∷ xs) (suc place) new limit within low zero = within zero
set_within (x ∷ xs) (suc place) new limit within low (suc at) =
    set_within xs place new limit (λ k. within (suc k)) low at

-- zeros are all zero
abbrev pub zero_of : {A : Type 0} → A → ℕ
zero_of x = 0

pub all_zero : {A : Type 0} (xs : List A) (at : ℕ) → get_or (map zero_of xs) at 0 ≡ 0
all_zero [] at = refl
all_zero (x ∷ xs) zero = refl
all_zero (x ∷ xs) (suc at) = all_zero xs at
