use Rattle.std.proofs.Common.{◌≡◌, ◌∙◌, ℕ, true, List, arith, subst}
use Rattle.est_kernel.specs.declared.kernel.Kernel.{Kernel}
use Rattle.est_kernel.specs.declared.state.State.{State}
use Rattle.est_kernel.specs.declared.state.State.TheVariants.{Fresh, Done, Paused}
use Rattle.est_kernel.specs.declared.statement.Statement.{Statement}
use Rattle.est_meaning.specs.Environments.{Env}
use Rattle.est_meaning.specs.declared.status.Status.{Status}
use Rattle.est_net.specs.Layout.{output_count}
use Rattle.est_micro.specs.Runs.{sheet_swept}
use Rattle.est_micro.specs.Inner.Views.{IsBegun, IsResumed, IsSwept}
use Rattle.est_micro.specs.declared.direction.Direction.{Direction}
use Rattle.est_micro.specs.declared.cells.Swept.{Swept}
use Rattle.est_micro.proofs.FreshCells.{fresh_part}
use Rattle.est_micro.proofs.KernelNets.{root_fits, root_within, still_net}
use Rattle.est_micro.proofs.settling.sweep.Goals as goal

swept_at : (d : Direction) (k : Kernel) (x : State) (e : Env) (root : Statement) (c : ℕ) (old new : List Status)
    (r : Swept) → root ≡ k.root → c ≡ output_count k.interface
    → IsSwept true root c 0 (sheet_swept d root x e) old new r
    → IsSwept true k.root (output_count k.interface) 0 (sheet_swept d k.root x e) old new r
swept_at d k x e root c old new r a b h =
    subst (λ (n : ℕ). IsSwept true k.root n 0 (sheet_swept d k.root x e) old new r) b
    (subst (λ (z : Statement). IsSwept true z c 0 (sheet_swept d z x e) old new r) a h)

pub sweep_begun-requires-clause-fits : goal.sweep_begun-requires-clause-fits
sweep_begun-requires-clause-fits g c = root_fits c.args.question.now.kernel.now _ c.root-root.ensures

pub sweep_begun-requires-clause-within : goal.sweep_begun-requires-clause-within
sweep_begun-requires-clause-within g c =
    root_within c.args.net.now c.args.question.now.kernel.now _ _ c.requires.net c.root-root.ensures
    c.output_count.ensures

pub returns-in-Fresh-clause-swept : goal.returns-in-Fresh-clause-swept
unfolding IsBegun
returns-in-Fresh-clause-swept g c =
    rw c.in-Fresh.is (swept_at c.args.direction c.args.question.now.kernel.now Fresh _ _ _ _ _ _ c.root-root.ensures
    (c.output_count.ensures ∙ c.requires.net.outputs) c.sweep_begun.ensures.swept)

pub returns-in-Fresh-clause-net : goal.returns-in-Fresh-clause-net
unfolding IsBegun
returns-in-Fresh-clause-net g c =
    still_net c.args.question.now.kernel.now _ c.args.net.now _ c.requires.net c.sweep_begun.ensures.swept.changes.size
    c.sweep_begun.ensures.kept

pub sweep_begun-requires-in-Done-clause-fits : goal.sweep_begun-requires-in-Done-clause-fits
sweep_begun-requires-in-Done-clause-fits g c = root_fits c.args.question.now.kernel.now _ c.root-root.ensures

pub sweep_begun-requires-in-Done-clause-within : goal.sweep_begun-requires-in-Done-clause-within
sweep_begun-requires-in-Done-clause-within g c =
    root_within c.args.net.now c.args.question.now.kernel.now _ _ c.requires.net c.root-root.ensures
    c.output_count.ensures

pub returns-in-Done-clause-swept : goal.returns-in-Done-clause-swept
unfolding IsBegun
returns-in-Done-clause-swept g c =
    rw c.in-Done.is (swept_at c.args.direction c.args.question.now.kernel.now Done _ _ _ _ _ _ c.root-root.ensures
    (c.output_count.ensures ∙ c.requires.net.outputs) c.sweep_begun-in-Done.ensures.swept)

pub returns-in-Done-clause-net : goal.returns-in-Done-clause-net
unfolding IsBegun
returns-in-Done-clause-net g c =
    still_net c.args.question.now.kernel.now _ c.args.net.now _ c.requires.net
    c.sweep_begun-in-Done.ensures.swept.changes.size
    c.sweep_begun-in-Done.ensures.kept

pub sweep_resumed-requires-clause-fits : goal.sweep_resumed-requires-clause-fits
sweep_resumed-requires-clause-fits g c = root_fits c.args.question.now.kernel.now _ c.root-root.ensures

pub sweep_resumed-requires-clause-within : goal.sweep_resumed-requires-clause-within
sweep_resumed-requires-clause-within g c =
    root_within c.args.net.now c.args.question.now.kernel.now _ _ c.requires.net c.root-root.ensures
    c.output_count.ensures

pub returns-in-Paused-clause-swept : goal.returns-in-Paused-clause-swept
unfolding IsResumed
returns-in-Paused-clause-swept g c =
    rw c.in-Paused.is (swept_at c.args.direction c.args.question.now.kernel.now (Paused _) _ _ _ _ _ _
    c.root-root.ensures
    (c.output_count.ensures ∙ c.requires.net.outputs) c.sweep_resumed.ensures.swept)

pub returns-in-Paused-clause-net : goal.returns-in-Paused-clause-net
unfolding IsResumed
returns-in-Paused-clause-net g c =
    still_net c.args.question.now.kernel.now _ c.args.net.now _ c.requires.net
    c.sweep_resumed.ensures.swept.changes.size
    c.sweep_resumed.ensures.kept

pub sweep_resumed-requires-clause-live : goal.sweep_resumed-requires-clause-live
sweep_resumed-requires-clause-live g c = rw c.root-root.ensures (rw c.in-Paused.is at c.requires.state).live

pub sweep_begun-requires-clause-fresh : goal.sweep_begun-requires-clause-fresh
sweep_begun-requires-clause-fresh g c =
    let a = c.output_count.ensures in
    let b = c.requires.net.outputs in
    fresh_part _ _ _ _ _ _ (omega (arith, a, b))
    (root_within c.args.net.now c.args.question.now.kernel.now _ _ c.requires.net c.root-root.ensures a)
    c.requires.fresh

pub sweep_begun-requires-in-Done-clause-fresh : goal.sweep_begun-requires-in-Done-clause-fresh
sweep_begun-requires-in-Done-clause-fresh g c =
    let a = c.output_count.ensures in
    let b = c.requires.net.outputs in
    fresh_part _ _ _ _ _ _ (omega (arith, a, b))
    (root_within c.args.net.now c.args.question.now.kernel.now _ _ c.requires.net c.root-root.ensures a)
    c.requires.fresh

pub sweep_resumed-requires-clause-fresh : goal.sweep_resumed-requires-clause-fresh
sweep_resumed-requires-clause-fresh g c =
    let a = c.output_count.ensures in
    let b = c.requires.net.outputs in
    fresh_part _ _ _ _ _ _ (omega (arith, a, b))
    (root_within c.args.net.now c.args.question.now.kernel.now _ _ c.requires.net c.root-root.ensures a)
    c.requires.fresh
