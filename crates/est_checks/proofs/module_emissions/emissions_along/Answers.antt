use Rattle.std.proofs.Common.{map, slice_index, arith}
use Rattle.std.proofs.lemmas.List.{length-map}
use Rattle.est_checks.specs.Emissions.{emitted_of}
use Rattle.est_modules.specs.Modules.{program_of}
use Rattle.est_modules.proofs.Standing.{order_within, program_at}
use Rattle.est_checks.proofs.Emitting.{none_emitted}
use Rattle.est_checks.proofs.EmittingAlong.{emitting_begins, emitting_goes_on, emitting_ends}
use Rattle.est_checks.proofs.module_emissions.emissions_along.Goals as goal

pub add_module-requires-clause-place : goal.add_module-requires-clause-place
add_module-requires-clause-place c =
    omega (
      arith,
      order_within (map program_of c.args.modules.now) c.args.order.now c.loop-place.place-index
          c.requires.order c.loop-place-test.true,
      length-map c.args.modules.now program_of,
    )

pub loop-place-init : goal.loop-place-init
loop-place-init c =
    let ps = map program_of c.args.modules.now in
    let f = emitted_of c.new-table.result in
    record {
      emitted = emitting_begins ps c.args.order.now f c.new-table.ensures;
      numbers = none_emitted c.args.names.now ps f c.new-numbers.result c.new-table.ensures c.new-numbers.ensures;
    }

pub loop-place-preserved : goal.loop-place-preserved
loop-place-preserved c =
    let ps = map program_of c.args.modules.now in
    let order = c.args.order.now in
    let k = c.loop-place.place-index in
    let at = program_at ps (slice_index order k) (order_within ps order k c.requires.order c.loop-place-test.true) in
    record {
      emitted = emitting_goes_on ps order (emitted_of c.loop-place.table) _ k at.0 c.requires.order c.requires.distinct
          c.loop-place-test.true at.1 (c.in_ok-add_module.ensures.emitted at.0 at.1) c.loop-place.invariant.emitted;
      numbers = c.in_ok-add_module.ensures.numbers;
    }

pub returns : goal.returns
returns c =
    emitting_ends (map program_of c.args.modules.now) c.args.order.now (emitted_of c.loop-place.table)
    c.loop-place.place-index c.requires.order (omega (arith, c.loop-place-test.false)) c.loop-place.invariant.emitted
