-- The search for what a module leads to.
use Rattle.std.specs.Prelude.{◌≡◌, ℕ, ◌<◌, ◌⊎◌, ◌↔◌, ◌&&◌, Bool, true, false, not, List, [], ◌∷◌, ◌++◌, if◌then◌else◌}
use Rattle.std.specs.Prelude.{length, slice_index, slice_index_or, slice_set, nat_lt, ◌+◌, fold, count_by, Contains}
use Rattle.est_order.specs.PlaceSets.{IsIn}
use Rattle.est_order.specs.RunRows.{IsRun, Leads}

-- how many places are in the set
abbrev pub size : List Bool → ℕ
size set = count_by (λ b. b) set

-- the set is that of all places that the module leads to
pub record IsReach (rows : List (List ℕ)) (place : ℕ) (set : List Bool) : Type 0 where
  pub each : length set ≡ length rows
  pub exact : (to : ℕ) → IsIn set to ↔ Leads rows place to

-- what the search has: the places that it has seen, and of these (and of the first) those that wait for their runs to
-- be followed
pub record Search : Type 0 where
  pub seen : List Bool
  pub waiting : List ℕ

-- a place is there, and not seen
abbrev pub is_new : List Bool → ℕ → Bool
is_new seen place = nat_lt place (length seen) && not (slice_index_or seen place false)

-- the search after one run
abbrev pub visited : Search → ℕ → Search
visited s place =
    if is_new s.seen place then record { seen = slice_set s.seen place true; waiting = s.waiting ++ place ∷ [] } else s

-- the search after the runs of a row
abbrev pub followed : Search → List ℕ → Search
followed s row = fold visited s row

-- how much is left to do: places that are not seen, and places that wait
abbrev pub left_to_do : Search → ℕ
left_to_do s = count_by (λ seen. not seen) s.seen + length s.waiting

-- how many places the module leads to
pub record IsRankOf (rows : List (List ℕ)) (place rank : ℕ) : Type 0 where
  pub set : List Bool
  pub reach : IsReach rows place set
  pub counted : rank ≡ size set

-- the first place, and those that the search has seen
abbrev pub IsMet : ℕ → Search → ℕ → Type 0
IsMet first s place = (place ≡ first) ⊎ IsIn s.seen place

-- each run of the module is seen
abbrev pub IsFollowed : List (List ℕ) → List Bool → ℕ → Type 0
IsFollowed rows seen place = (run : ℕ) → IsRun rows place run → IsIn seen run

-- the search for what a module leads to, so far: only such places are seen; what is met either waits or is followed
pub record IsSearching (rows : List (List ℕ)) (first : ℕ) (s : Search) : Type 0 where
  pub each : length s.seen ≡ length rows
  pub there : (place : ℕ) → Contains s.waiting place → place < length rows
  pub met : (place : ℕ) → Contains s.waiting place → IsMet first s place
  pub sound : (place : ℕ) → IsIn s.seen place → Leads rows first place
  pub complete : (place : ℕ) → IsMet first s place → Contains s.waiting place ⊎ IsFollowed rows s.seen place

-- these are the ranks of the first `count` modules
pub record AreRanks (rows : List (List ℕ)) (count : ℕ) (ranks : List ℕ) : Type 0 where
  pub each : length ranks ≡ count
  pub ranked : (place : ℕ) → place < count → IsRankOf rows place (slice_index ranks place)
