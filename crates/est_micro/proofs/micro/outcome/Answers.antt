use Rattle.std.proofs.Common.{sym, ◌∙◌}
use Rattle.est_kernel.specs.Bits.{bits}
use Rattle.est_kernel.specs.Pauses.{pauses_of}
use Rattle.est_micro.proofs.Collecting.{all_collected}
use Rattle.est_micro.proofs.KernelNets.{root_within}
use Rattle.est_micro.proofs.Outcomes.{reaction_paused, reaction_ended, values_by_code}
use Rattle.est_micro.proofs.micro.outcome.Goals as goal

pub collect_pauses-requires-clause-within : goal.collect_pauses-requires-clause-within
collect_pauses-requires-clause-within c =
    root_within c.args.net.now c.args.kernel.now _ _ c.requires.net c.root.ensures c.output_count-cell.ensures

pub collect_pauses-requires-clause-extents : goal.collect_pauses-requires-clause-extents
collect_pauses-requires-clause-extents c = rw c.root.ensures c.requires.net.extents

pub returns-then-has-clause-some : goal.returns-then-has-clause-some
returns-then-has-clause-some c =
    let k = c.args.kernel.now in
    let one = sym c.has.ensures ∙ c.if-has.true in
    record {
      reaction = λ i h.
          reaction_paused k c.args.state.now i _ c.args.swept.now
          (pauses_of c.args.from.now) _ k.distinct k.loop_safe
          c.requires.state c.requires.lives c.requires.from h one
          (all_collected k _ _ _ c.args.from.now _ _ c.root.ensures
          (c.output_count-cell.ensures ∙ c.requires.net.outputs) c.new-next.ensures c.collect_pauses.ensures);
      values = λ i h. values_by_code k c.args.state.now (bits i.signals) _ c.args.swept.now k.loop_safe
          c.requires.state h 1 one;
    }

pub returns-then-has-2-clause-some : goal.returns-then-has-2-clause-some
returns-then-has-2-clause-some c =
    let k = c.args.kernel.now in
    let zero = sym c.has-2.ensures ∙ c.if-has-2.true in
    record {
      reaction = λ i h.
          reaction_ended k c.args.state.now i _ c.args.swept.now
          (pauses_of c.args.from.now) k.distinct k.loop_safe
          c.requires.state c.requires.lives c.requires.from h zero;
      values = λ i h. values_by_code k c.args.state.now (bits i.signals) _ c.args.swept.now k.loop_safe
          c.requires.state h 0 zero;
    }

pub returns-clause-none : goal.returns-clause-none
returns-clause-none c = record {
  lives = c.requires.lives;
  ends = sym c.has-2.ensures ∙ c.if-has-2.false;
  pauses = sym c.has.ensures ∙ c.if-has.false;
}
