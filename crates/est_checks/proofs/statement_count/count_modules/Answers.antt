use Rattle.std.proofs.Common.{ℕ, List, min, length, slice_index, map, refl, ap, ◌∙◌, arith}
use Rattle.std.proofs.lemmas.List.{length-map}
use Rattle.est_order.proofs.OrderPlaces.{places_are_there}
use Rattle.est_modules.specs.Modules.{program_of}
use Rattle.est_checks.specs.Counting.{counted}
use Rattle.est_modules.specs.ModuleOrders.{run_rows, places_run}
use Rattle.est_checks.specs.Inner.Numbers.{number_of}
use Rattle.est_checks.specs.declared.statement_count.TheConstants.{TOO_MANY}
use Rattle.est_checks.proofs.Filling.{filling_goes_on}
use Rattle.est_checks.proofs.statement_count.count_modules.Goals as goal

pub count_body-number-requires : goal.count_body-number-requires
count_body-number-requires c =
    let there = places_are_there (run_rows (map program_of c.args.modules.now)) c.args.order.now c.requires
    c.loop-place.place-index c.loop-place-test.true in
    omega (
      arith,
      there,
      length-map (map program_of c.args.modules.now) (places_run (map program_of c.args.modules.now)),
      length-map c.args.modules.now program_of,
    )

pub index_mut-requires : goal.index_mut-requires
index_mut-requires c =
    let there = places_are_there (run_rows (map program_of c.args.modules.now)) c.args.order.now c.requires
    c.loop-place.place-index c.loop-place-test.true in
    let long = ap length c.loop-place.invariant.cut ∙ length-map c.loop-place.invariant.whole _
    ∙ c.loop-place.invariant.each in
    omega (
      arith,
      there,
      length-map (map program_of c.args.modules.now) (places_run (map program_of c.args.modules.now)),
      long,
      c.loop-place.numbers.ok.0,
    )

pub loop-place-preserved : goal.loop-place-preserved
loop-place-preserved c =
    let there = places_are_there (run_rows (map program_of c.args.modules.now)) c.args.order.now c.requires
    c.loop-place.place-index c.loop-place-test.true in
    filling_goes_on (map program_of c.args.modules.now) c.args.order.now c.loop-place.numbers.items
    c.loop-place.place-index (slice_index c.args.order.now c.loop-place.place-index) c.count_body-number.result
    c.requires c.loop-place-test.true refl
    (omega (
      arith,
      there,
      length-map (map program_of c.args.modules.now)
          (places_run (map program_of c.args.modules.now)),
    ))
    (λ p e. c.count_body-number.ensures p e
    ∙ ap (λ (t : List ℕ). min TOO_MANY (counted (number_of (map program_of c.args.modules.now) t) p.body))
    c.deref.ensures.value) c.loop-place.invariant
