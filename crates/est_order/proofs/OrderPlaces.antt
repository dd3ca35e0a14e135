-- Places of modules, and the places of an order in which each stands after those that it runs.
use Rattle.std.proofs.Common.{◌≡◌, ℕ, ◌<◌, List, length, slice_index, Contains, ◌∙◌, arith}
use Rattle.std.specs.List.{range_with_len}
use Rattle.std.proofs.lemmas.List.{get_or_default}
use Rattle.std.proofs.lemmas.List.FromFn.{length-range_with_len, get_or-range_with_len}
use Rattle.std.proofs.lemmas.List.Sorted.{Contains-permutation, All-permutation}
use Rattle.std.proofs.lemmas.List.Elements.{All-get_or, All-from_get_or}
use Rattle.est_order.specs.PlaceOrders.{IsBottomUp}

-- each place stands in the order
pub each_stands : (rows : List (List ℕ)) (order : List ℕ) → IsBottomUp rows order → (place : ℕ) → place < length rows
    → (k : ℕ) × (k < length order) × (slice_index order k ≡ place)
each_stands rows order h place l =
    let in_range : Contains (range_with_len 0 (length rows)) place = (
      place,
      omega (arith, l, length-range_with_len 0 (length rows)),
      omega (arith, get_or-range_with_len 0 (length rows) place place l),
    ) in
    let found = Contains-permutation (range_with_len 0 (length rows)) order place h.each_once in_range in
    (found.0, found.1, get_or_default order found.0 0 place found.1 ∙ found.2)

-- what stands in the order is a place
pub places_are_there : (rows : List (List ℕ)) (order : List ℕ) → IsBottomUp rows order → (i : ℕ) → i < length order
    → slice_index order i < length rows
places_are_there rows order h i l = All-get_or (λ p. p < length rows) order i 0 l
    (All-permutation (λ p. p < length rows) (range_with_len 0 (length rows)) order h.each_once
    (All-from_get_or (λ p. p < length rows) (range_with_len 0 (length rows)) 0 (λ k k_in.
    omega (
      arith,
      k_in,
      length-range_with_len 0 (length rows),
      get_or-range_with_len 0 (length rows) k 0 (omega (arith, k_in, length-range_with_len 0 (length rows))),
    ))))
