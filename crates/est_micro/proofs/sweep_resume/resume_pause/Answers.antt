use Rattle.std.proofs.Common.{arith}
use Rattle.est_micro.proofs.FreshCells.{fresh_part, fresh_told}
use Rattle.est_micro.proofs.ResumedNodes.{pause_resumed}
use Rattle.est_micro.proofs.sweep_resume.resume_pause.Goals as goal

pub returns-clause-swept : goal.returns-clause-swept
returns-clause-swept g c = λ e n pauses.
    pause_resumed n c.args.at.now pauses c.args.run e _ _ _ _ _ c.tell_cell.ensures.learns c.leaf-own.ensures
    c.finish_statement.ensures.finished

pub tell_cell-requires-clause-fresh : goal.tell_cell-requires-clause-fresh
tell_cell-requires-clause-fresh g c = fresh_part _ _ _ _ _ _ (omega arith) (omega arith) c.requires.fresh

pub finish_statement-requires-clause-fresh : goal.finish_statement-requires-clause-fresh
finish_statement-requires-clause-fresh g c =
    fresh_told _ c.args.at.now.cell _ _ _ _ _ _ _ c.tell_cell.ensures.learns (omega arith) (omega arith)
    (omega arith) c.requires.fresh
