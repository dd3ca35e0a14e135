use Rattle.std.proofs.Common.{refl, subst, arith}
use Rattle.est_kernel.specs.View.{name_of}
use Rattle.est_kernel.specs.declared.statement.Statement.TheVariants.{Emit}
use Rattle.est_meaning.specs.declared.status.Status.{Status}
use Rattle.est_cells.specs.Gates.{sure_code, may_code}
use Rattle.est_cells.specs.Tables.{if_run, is_sure, is_possible}
use Rattle.est_micro.specs.Inner.Views.{IsJudged}
use Rattle.est_micro.proofs.BegunNodes.{leaf_begun}
use Rattle.est_micro.proofs.FreshCells.{fresh_part, fresh_told}
use Rattle.est_micro.proofs.sweep_begin.begin_emit.Goals as goal

pub returns-clause-swept : goal.returns-clause-swept
returns-clause-swept g c = λ e.
    leaf_begun (Emit c.args.signal) c.args.at.now c.args.gate e _ _ _ _ _ refl refl
    (subst (λ (z : Status). IsJudged (sure_code z 0) (may_code z 0) (if_run (is_sure z) (name_of c.args.signal))
    (if_run (is_possible z) (name_of c.args.signal)) c.emission-own.result) c.tell_cell-go.ensures.known
    c.emission-own.ensures)
    c.tell_cell-go.ensures.learns c.finish_statement.ensures.finished

pub tell_cell-go-requires-clause-fresh : goal.tell_cell-go-requires-clause-fresh
tell_cell-go-requires-clause-fresh g c = fresh_part _ _ _ _ _ _ (omega arith) (omega arith) c.requires.fresh

pub finish_statement-requires-clause-fresh : goal.finish_statement-requires-clause-fresh
finish_statement-requires-clause-fresh g c =
    fresh_told _ c.args.at.now.cell _ _ _ _ _ _ _ c.tell_cell-go.ensures.learns (omega arith) (omega arith)
    (omega arith) c.requires.fresh
