use Rattle.std.proofs.Common.{ℕ, List, IsPermutation, slice_index, subst, sym}
use Rattle.std.specs.List.{range_with_len}
use Rattle.std.specs.List.Sorted.{IsNonDecreasingBy}
use Rattle.est_order.specs.RunRows.{rows_of}
use Rattle.est_order.proofs.LevelLemmas.{rows_count, none_recursive, sorted_is_bottom_up}
use Rattle.est_order.proofs.place_order.order_modules.Goals as goal

pub returns-clause-bottom_up : goal.returns-clause-bottom_up
returns-clause-bottom_up c =
    let places = c.in_ok-places.places.items in
    sorted_is_bottom_up (rows_of c.args.runs.now) c.in_ok-levels.levels.items places c.in_ok-levels.ensures.falling
    (subst (λ n. IsPermutation (range_with_len 0 n) places) (sym (rows_count c.args.runs.now))
    c.in_ok-places.ensures.each_once)
    (subst (λ (levels : List ℕ). IsNonDecreasingBy (λ place. slice_index levels place) places) c.deref.ensures.value
    c.in_ok-places.ensures.sorted)

pub returns-clause-ok : goal.returns-clause-ok
returns-clause-ok c =
    none_recursive (rows_of c.args.runs.now) c.in_ok-levels.levels.items c.in_ok-levels.ensures.falling
