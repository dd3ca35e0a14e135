use Rattle.std.proofs.Common.{◌≡◌, refl, ap, ◌∙◌, ℕ, arith}
use Rattle.est_kernel.specs.declared.statement.Statement.TheVariants.{Nothing, Pause, Exit}
use Rattle.est_meaning.specs.Signals.{no_signals}
use Rattle.est_meaning.specs.declared.status.Status.{Status}
use Rattle.est_cells.specs.Gates.{sure_code, may_code}
use Rattle.est_rounds.specs.declared.acts.MustCan.{MustCan}
use Rattle.est_micro.specs.Inner.Views.{IsJudged}
use Rattle.est_micro.proofs.BegunNodes.{leaf_begun}
use Rattle.est_micro.proofs.FreshCells.{fresh_part, fresh_told}
use Rattle.est_micro.proofs.sweep_begin.begin_leaf.Goals as goal

-- the codes of a leaf, by what is in the go cell
at_code : (go v : Status) (k n : ℕ) (j : MustCan) → k ≡ n → go ≡ v
    → IsJudged (sure_code go k) (may_code go k) no_signals no_signals j
    → IsJudged (sure_code v n) (may_code v n) no_signals no_signals j
at_code go v k n j e g h = record {
  must = h.must ∙ (ap (sure_code go) e ∙ ap (λ (z : Status). sure_code z n) g);
  can = h.can ∙ (ap (may_code go) e ∙ ap (λ (z : Status). may_code z n) g);
  emits = h.emits;
  may_emit = h.may_emit;
}

pub returns-clause-nothing : goal.returns-clause-nothing
returns-clause-nothing g c = λ e k.
    leaf_begun Nothing c.args.at.now c.args.gate e _ _ _ _ _ refl refl
    (at_code _ _ _ _ _ k c.tell_cell-go.ensures.known c.leaf-own.ensures) c.tell_cell-go.ensures.learns
    c.finish_statement.ensures.finished

pub returns-clause-pause : goal.returns-clause-pause
returns-clause-pause g c = λ e n k.
    leaf_begun (Pause n) c.args.at.now c.args.gate e _ _ _ _ _ refl refl
    (at_code _ _ _ _ _ k c.tell_cell-go.ensures.known c.leaf-own.ensures) c.tell_cell-go.ensures.learns
    c.finish_statement.ensures.finished

pub returns-clause-exit : goal.returns-clause-exit
returns-clause-exit g c = λ e n k.
    leaf_begun (Exit n) c.args.at.now c.args.gate e _ _ _ _ _ refl refl
    (at_code _ _ _ _ _ k c.tell_cell-go.ensures.known c.leaf-own.ensures) c.tell_cell-go.ensures.learns
    c.finish_statement.ensures.finished

pub tell_cell-go-requires-clause-fresh : goal.tell_cell-go-requires-clause-fresh
tell_cell-go-requires-clause-fresh g c = fresh_part _ _ _ _ _ _ (omega arith) (omega arith) c.requires.fresh

pub finish_statement-requires-clause-fresh : goal.finish_statement-requires-clause-fresh
finish_statement-requires-clause-fresh g c =
    fresh_told _ c.args.at.now.cell _ _ _ _ _ _ _ c.tell_cell-go.ensures.learns (omega arith) (omega arith)
    (omega arith) c.requires.fresh
