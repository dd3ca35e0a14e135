use Rattle.std.proofs.Common.{◌≡◌, ◌⊎◌, ◌∙◌, ℕ, List, length, ap, refl, subst, sym, arith}
use Rattle.std.proofs.lemmas.List.{length-replicate}
use Rattle.est_kernel.specs.Bits.{bits}
use Rattle.est_meaning.specs.declared.status.Status.{Status}
use Rattle.est_meaning.specs.declared.status.Status.TheVariants.{Unknown}
use Rattle.est_net.specs.Reach.{HasEmissions}
use Rattle.est_micro.specs.Runs.{AreSignalsUpdated}
use Rattle.est_net.proofs.Ranges.{decided_within}
use Rattle.est_micro.proofs.FreshCells.{fresh_not}
use Rattle.est_micro.proofs.KernelNets.{still_net}
use Rattle.est_micro.proofs.Unasked.{update_by, round_by}
use Rattle.est_micro.proofs.Settles.{open_after, start_ready, round_made, settled}
use Rattle.est_micro.proofs.settling.decide_cells.Goals as goal

pub update_signals-env-requires : goal.update_signals-env-requires
update_signals-env-requires c =
    let n = length c.args.net.now.cells.items in
    record {
      net = still_net c.args.question.now.kernel.now _ c.args.net.now c.clear.new.self c.requires.net
          (ap length c.clear.ensures.cells ∙ length-replicate n Unknown) c.clear.ensures.kept;
    }

pub sweep_first-started-requires-clause-open : goal.sweep_first-started-requires-clause-open
sweep_first-started-requires-clause-open c =
    let i = c.args.question.now.kernel.now.interface in
    open_after i (bits c.args.question.now.unasked) (bits c.args.question.now.inputs) _ _
    (length c.args.net.now.cells.items) _ _
    (subst
    (λ (z : List Status). AreSignalsUpdated i (bits c.args.question.now.unasked) (bits c.args.question.now.inputs)
    (bits c.in_doubt.result.must.signals.interface) (bits c.in_doubt.result.can.signals.interface) z
    c.update_signals-env.new.net.cells.items c.update_signals-env.result)
    c.clear.ensures.cells c.update_signals-env.ensures.updated)

pub loop-swept-init : goal.loop-swept-init
loop-swept-init c =
    let k = c.args.question.now.kernel.now in
    let x = c.args.question.now.state.now in
    let i = k.interface in
    let unasked = bits c.args.question.now.unasked in
    let inputs = bits c.args.question.now.inputs in
    let n = length c.args.net.now.cells.items in
    let possible = c.from_state-possible.ensures.emissions k.root (rw c.reach.ensures c.requires.net.reach)
    c.requires.state in
    let h = subst
    (λ (z : List Status). AreSignalsUpdated i unasked inputs (bits c.in_doubt.result.must.signals.interface)
    (bits c.in_doubt.result.can.signals.interface) z c.update_signals-env.new.net.cells.items
    c.update_signals-env.result)
    c.clear.ensures.cells
    c.update_signals-env.ensures.updated in
    record {
      settling = λ others a. round_made unasked _ k x others _ _ _ _ _ _ _ c.requires.apart
          (c.sweep_first-started.ensures.swept.ready others a
          (start_ready unasked k x others _ _ n _ _ k.closed c.requires.net.size c.in_doubt.ensures.sure
          (subst (λ (z : ℕ). HasEmissions k.root x (bits z)) (sym c.in_doubt.ensures.possible) possible)
          (update_by i unasked inputs _ _ _ _ _ c.requires.apart h others a) (length-replicate n Unknown)))
          (round_by _ i unasked inputs _ _ _ _ _ _ _ c.requires.apart
          (record {
            mid = _;
            sweep = c.sweep_first-started.ensures.swept.sweep;
            updated = c.update_signals-env-2.ensures.updated;
          })
          others a)
          (omega arith) c.steps-decided.ensures.count;
      net = c.update_signals-env-2.ensures.net;
      once = c.update_signals-env-2.ensures.kept
          ∙ (c.sweep_first-started.ensures.kept ∙ (c.update_signals-env.ensures.kept ∙ c.clear.ensures.kept));
    }

pub sweep-swept-requires-clause-fresh : goal.sweep-swept-requires-clause-fresh
sweep-swept-requires-clause-fresh c = fresh_not _ _ _

pub loop-swept-preserved : goal.loop-swept-preserved
loop-swept-preserved c =
    let k = c.args.question.now.kernel.now in
    let unasked = bits c.args.question.now.unasked in
    let inputs = bits c.args.question.now.inputs in
    record {
      settling = λ others a.
          let was = c.loop-swept.invariant.settling others a in
          round_made unasked _ k c.args.question.now.state.now others _ _ _ _ _ _ _ c.requires.apart
          (c.catch_up.ensures.ready others a was.ready)
          (round_by _ k.interface unasked inputs _ _ _ _ _ _ _ c.requires.apart
          (record {
            mid = _;
            sweep = c.sweep-swept.ensures.swept;
            updated = c.update_signals-env-in-loop-swept.ensures.updated;
          }) others a)
          (let count = c.steps-decided_before.ensures.count in omega arith)
          c.steps-decided-in-loop-swept.ensures.count;
      net = c.update_signals-env-in-loop-swept.ensures.net;
      once = c.update_signals-env-in-loop-swept.ensures.kept
          ∙ (c.sweep-swept.ensures.kept ∙ (c.catch_up.ensures.kept ∙ c.loop-swept.invariant.once));
    }

pub loop-swept-smaller : goal.loop-swept-smaller
loop-swept-smaller c =
    let inputs = bits c.args.question.now.inputs in
    let was = c.loop-swept.invariant.settling inputs (λ n h. refl) in
    let a = c.update_signals-env-in-loop-swept.ensures.net.size in
    let b = was.ready.size in
    let d = was.rising in
    let e = was.counted in
    let p = c.catch_up.ensures.net.size in
    let f = decided_within c.catch_up.new.net.cells.items in
    let more = c.catch_up.ensures.more in
    let count = c.steps-decided_before.ensures.count in
    let g = c.goes_on.ensures.more c.loop-swept-test.true in
    omega arith

pub returns-clause-settled : goal.returns-clause-settled
returns-clause-settled c = λ others a.
    let now = c.loop-swept.decided in
    let settling = c.loop-swept.invariant.settling others a in
    let count : c.cells-cell_count.result ≡ length c.loop-swept.net.cells.items
    = c.cells-cell_count.ensures ∙ (c.requires.net.size ∙ sym settling.ready.size) in
    settled (bits c.args.question.now.unasked) c.args.question.now.kernel.now c.args.question.now.state.now others _ _ _
    _ settling (subst (λ (z : ℕ). (now ≡ c.loop-swept.decided_before) ⊎ (now ≡ z)) count
    (c.goes_on.ensures.rest c.loop-swept-test.false))
