-- The order of receipts: in one seat's list, and in the list of all (this project's own form).
use Rattle.std.specs.Prelude.{◌≡◌, ◌⊎◌, ℕ, ◌+◌, ◌<◌, ◌≤◌, List, [], ◌∷◌, Option, Some, None, slice_get, unwrap_or}
use Rattle.history_receipts.specs.declared.receipt.Kept.{Kept}
use Rattle.history_receipts.specs.declared.receipt.Kept.TheVariants.{Admin, Slot}
use Rattle.history_merge.specs.declared.order.Rank.{Rank}
use Rattle.history_merge.specs.declared.order.Rank.TheVariants as rank
use Rattle.history_merge.specs.ToldCalls.{ToldCall, kept_of}

module _ {A : Type 0} where
  -- the list of this number; a number that none has is that of an empty one
  abbrev pub part_at : List (List A) → (number : ℕ) → List A
  part_at lists number = unwrap_or (slice_get lists number) []

-- where the receipt stands in the order of all
abbrev pub rank_of : Kept → Rank
rank_of (Admin version entry) = rank.Entry version
rank_of (Slot r) = rank.Command r.version r.number r.slot

-- the version where it stands
abbrev pub version_at : Rank → ℕ
version_at (rank.Entry version) = version
version_at (rank.Command version number slot) = version

-- by version, first the policy entry that made it, then the slot commands by number, those of one number by slot
abbrev pub Precedes : Rank → Rank → Type 0
Precedes (rank.Entry v) (rank.Entry w) = v < w
Precedes (rank.Entry v) (rank.Command w m t) = v ≤ w
Precedes (rank.Command v n s) (rank.Entry w) = v < w
Precedes (rank.Command v n s) (rank.Command w m t) = (v < w) ⊎ ((v ≡ w) × ((n < m) ⊎ ((n ≡ m) × (s < t))))

-- the version of the receipt follows on this one: that of a policy entry is the next, that of a slot command the same
abbrev pub Continues : (version : ℕ) → Kept → Type 0
Continues version (Admin v entry) = v ≡ version + 1
Continues version (Slot r) = r.version ≡ version

-- from here on each event comes after the one before it, and its version follows on that one's
abbrev pub InOrder : Rank → List ToldCall → Type 0
InOrder last [] = Unit {0}
InOrder last (e ∷ es) =
    Continues (version_at last) (kept_of e) × Precedes last (rank_of (kept_of e)) × InOrder (rank_of (kept_of e)) es

-- the number is over the one before, if there is one
abbrev pub IsOver : Option ℕ → ℕ → Type 0
IsOver None number = Unit {0}
IsOver (Some before) number = before < number

-- along a seat's receipts versions never fall, they rise at a policy command, and the numbers of slot commands rise
abbrev pub Rises : (version : ℕ) → (number : Option ℕ) → List Kept → Type 0
Rises version number [] = Unit {0}
Rises version number (Admin v entry ∷ ks) = (version < v) × Rises v number ks
Rises version number (Slot r ∷ ks) = (version ≤ r.version) × IsOver number r.number × Rises r.version (Some r.number) ks
