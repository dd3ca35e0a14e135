use Rattle.std.proofs.Common.{◌∙◌}
use Rattle.est_kernel.specs.declared.state.State.TheVariants.{Fresh, Done, Paused}
use Rattle.est_micro.proofs.KernelNets.{root_fits, root_within, still_net}
use Rattle.est_micro.proofs.PassRounds.{passes_at}
use Rattle.est_micro.proofs.passes.pass_sheet.Goals as goal

pub pass_begun-requires-clause-fits : goal.pass_begun-requires-clause-fits
pass_begun-requires-clause-fits c = root_fits c.args.question.now.kernel.now _ c.root-root.ensures

pub pass_begun-requires-clause-within : goal.pass_begun-requires-clause-within
pass_begun-requires-clause-within c =
    root_within c.args.net.now c.args.question.now.kernel.now _ _ c.requires.net c.root-root.ensures
    c.output_count.ensures

pub returns-in-Fresh-clause-passes : goal.returns-in-Fresh-clause-passes
returns-in-Fresh-clause-passes c =
    rw c.in-Fresh.is (passes_at c.args.question.now.kernel.now Fresh _ _ _ _ _ c.root-root.ensures
    (c.output_count.ensures ∙ c.requires.net.outputs) c.pass_begun.ensures.passes)

pub returns-in-Fresh-clause-net : goal.returns-in-Fresh-clause-net
returns-in-Fresh-clause-net c =
    still_net c.args.question.now.kernel.now _ c.args.net.now _ c.requires.net c.pass_begun.ensures.passes.changes.size
    c.pass_begun.ensures.kept

pub pass_begun-requires-in-Done-clause-fits : goal.pass_begun-requires-in-Done-clause-fits
pass_begun-requires-in-Done-clause-fits c = root_fits c.args.question.now.kernel.now _ c.root-root.ensures

pub pass_begun-requires-in-Done-clause-within : goal.pass_begun-requires-in-Done-clause-within
pass_begun-requires-in-Done-clause-within c =
    root_within c.args.net.now c.args.question.now.kernel.now _ _ c.requires.net c.root-root.ensures
    c.output_count.ensures

pub returns-in-Done-clause-passes : goal.returns-in-Done-clause-passes
returns-in-Done-clause-passes c =
    rw c.in-Done.is (passes_at c.args.question.now.kernel.now Done _ _ _ _ _ c.root-root.ensures
    (c.output_count.ensures ∙ c.requires.net.outputs) c.pass_begun-in-Done.ensures.passes)

pub returns-in-Done-clause-net : goal.returns-in-Done-clause-net
returns-in-Done-clause-net c =
    still_net c.args.question.now.kernel.now _ c.args.net.now _ c.requires.net
    c.pass_begun-in-Done.ensures.passes.changes.size
    c.pass_begun-in-Done.ensures.kept

pub pass_resumed-requires-clause-fits : goal.pass_resumed-requires-clause-fits
pass_resumed-requires-clause-fits c = root_fits c.args.question.now.kernel.now _ c.root-root.ensures

pub pass_resumed-requires-clause-within : goal.pass_resumed-requires-clause-within
pass_resumed-requires-clause-within c =
    root_within c.args.net.now c.args.question.now.kernel.now _ _ c.requires.net c.root-root.ensures
    c.output_count.ensures

pub returns-in-Paused-clause-passes : goal.returns-in-Paused-clause-passes
returns-in-Paused-clause-passes c =
    rw c.in-Paused.is (passes_at c.args.question.now.kernel.now (Paused _) _ _ _ _ _ c.root-root.ensures
    (c.output_count.ensures ∙ c.requires.net.outputs) c.pass_resumed.ensures.passes)

pub returns-in-Paused-clause-net : goal.returns-in-Paused-clause-net
returns-in-Paused-clause-net c =
    still_net c.args.question.now.kernel.now _ c.args.net.now _ c.requires.net
    c.pass_resumed.ensures.passes.changes.size
    c.pass_resumed.ensures.kept

pub pass_resumed-requires-clause-live : goal.pass_resumed-requires-clause-live
pass_resumed-requires-clause-live c = rw c.root-root.ensures (rw c.in-Paused.is at c.requires.state).live
