use Rattle.std.proofs.Common.{◌≡◌, ◌+◌, Bool, true, ◌∙◌, ap, subst, Bor, Option, IfSome}
use Rattle.est_kernel.specs.Bits.{bits}
use Rattle.est_kernel.specs.declared.pause_set.PauseSet.{PauseSet}
use Rattle.est_meaning.specs.Views.{env_of, set_of}
use Rattle.est_cells.specs.Tables.{sheet_size}
use Rattle.est_micro.specs.Inner.Views.{IsBegun, IsFresh, IsResumed}
use Rattle.est_micro.specs.Sweeps.{told}
use Rattle.est_micro.specs.declared.cells.Swept.{Swept}
use Rattle.est_micro.proofs.SweptParts.{walked_swept, walked_swept_on}
use Rattle.est_micro.proofs.lead.sweep_by.Goals.{in-None, in-Some}
use Rattle.est_micro.proofs.lead.sweep_by.Goals as goal

pub returns-clause-walked : goal.returns-clause-walked
unfolding IsBegun IsResumed
returns-clause-walked g c = λ q.
    let part = c.args.part.now in
    let known = env_of c.args.known.now in
    elim c.match-part.branch [
      | in-None w ↦
          rw w.net-is (walked_swept q.kernel.now q.state.now (bits q.unasked) (bits q.inputs) part known _ _ _ _
          w.in-None.is w.sweep_begun-swept.ensures.swept
          (c.with_emitted.ensures ∙ ap (λ (s : Swept). told known (set_of s.judged.must.signals)) w.swept-is))
      | in-Some w ↦
          rw w.net-is (walked_swept_on q.kernel.now q.state.now (bits q.unasked) (bits q.inputs) part _ known _ _ _ _
          w.in-Some.is
          (subst (λ (o : Option (Bor PauseSet)). IfSome o (λ p. part.place.main ≡ true)) w.in-Some.is
          c.requires.placed.main)
          w.sweep_resumed-swept.ensures.swept
          (c.with_emitted.ensures ∙ ap (λ (s : Swept). told known (set_of s.judged.must.signals)) w.swept-is))
    ]

pub sweep_resumed-swept-requires-clause-fresh : goal.sweep_resumed-swept-requires-clause-fresh
sweep_resumed-swept-requires-clause-fresh g c =
    let part = c.args.part.now in
    subst (λ (b : Bool). IsFresh g.K.SweepKind.first part.place.cell
    (part.place.cell + sheet_size b part.statement.now part.place.traps) c.args.net.now.cells.items)
    (subst (λ (o : Option (Bor PauseSet)). IfSome o (λ p. part.place.main ≡ true)) c.in-Some.is c.requires.placed.main)
    c.requires.fresh
