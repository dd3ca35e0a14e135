use Rattle.std.proofs.Common.{Bor, Option, IfSome, refl, rules, subst, sym, true, ◌∙◌, ◌≡◌}
use Rattle.est_kernel.specs.Bits.{bits}
use Rattle.est_kernel.specs.declared.pause_set.PauseSet.{PauseSet}
use Rattle.est_kernel.specs.declared.statement.Statement.{Statement}
use Rattle.est_net.specs.Extents.{HasExtents}
use Rattle.est_micro.specs.declared.direction.Direction.TheVariants.{Forwards}
use Rattle.est_micro.proofs.KernelNets.{root_fits, root_within}
use Rattle.est_micro.proofs.WalkedRoots.{IsRoot, fresh_at, paused_at, root_part, root_ready}
use Rattle.est_micro.proofs.walk.lead_round.Goals.{in-Fresh, in-Paused}
use Rattle.est_micro.proofs.walk.lead_round.Goals as goal

pub walk-known-requires-clause-placed : goal.walk-known-requires-clause-placed
walk-known-requires-clause-placed c = record {
  fits = root_fits c.args.question.now.kernel.now _ c.root.ensures;
  extents = subst (λ (s : Statement). HasExtents c.args.net.now.extents.items 0 0 s) (sym c.root.ensures)
      c.requires.net.extents;
  traps = search rules;
  within = root_within c.args.net.now c.args.question.now.kernel.now _ _ c.requires.net c.root.ensures
      c.output_count.ensures;
  main = elim c.match-question.branch [
    | in-Fresh w ↦ subst (λ (o : Option (Bor PauseSet)). IfSome o (λ p. true ≡ true)) (sym w.pauses-is) tt
    | in-Paused w ↦ subst (λ (o : Option (Bor PauseSet)). IfSome o (λ p. true ≡ true)) (sym w.pauses-is) refl
  ];
}

pub returns-clause-ready : goal.returns-clause-ready
returns-clause-ready c =
    let q = c.args.question.now in
    let k = q.kernel.now in
    let x = q.state.now in
    let at = c.output_count.ensures ∙ c.requires.net.outputs in
    let root : IsRoot k x (root_part Forwards c.root.result c.output_count.result c.match-question.pauses)
    = elim c.match-question.branch [
      | in-Fresh w ↦
          fresh_at k x Forwards c.root.result c.output_count.result _ w.in-Fresh.is w.pauses-is c.root.ensures at
      | in-Paused w ↦
          paused_at k x Forwards c.root.result c.output_count.result _ _ w.in-Paused.is w.pauses-is c.root.ensures at
    ] in
    root_ready k x (bits q.unasked) (bits q.inputs) _ c.args.env.now _ _ _ root c.requires.apart
    c.walk-known.ensures.walked
