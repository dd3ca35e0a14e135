use Rattle.std.proofs.Common.{◌≡◌, ℕ, List, Ok, Global, IsPermutation, slice_index, subst, refl, arith, rules}
use Rattle.std.specs.declared.alloc.AllocError.{AllocError}
use Rattle.std.specs.List.{range_with_len}
use Rattle.std.proofs.lemmas.Iterator.{items_from_collect, YieldsList-from_range}
use Rattle.std.proofs.lemmas.List.Sorted.{IsNonDecreasingBy-from_sort_by_key}
use Rattle.est_order.proofs.place_order.places_by_level.Goals as goal

pub returns-clause-each_once : goal.returns-clause-each_once
returns-clause-each_once c =
    let places : c.in_ok-places.places.items ≡ range_with_len 0 c.args.count =
    items_from_collect {Z = Global} {E = AllocError} (Ok c.in_ok-places.places) c.in_ok-places.ensures.ran
    (YieldsList-from_range 0 c.args.count c.args.count refl (omega arith)) in
    subst (λ (ps : List ℕ). IsPermutation ps c.sort_by_key.new.self.items) places c.sort_by_key.ensures.permutation

pub returns-clause-sorted : goal.returns-clause-sorted
returns-clause-sorted c =
    IsNonDecreasingBy-from_sort_by_key (λ place. slice_index c.args.levels.now place) _
    c.in_ok-sort_by_key.ensures.sorted (λ a r q k. search rules)
