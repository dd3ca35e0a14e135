use Rattle.std.proofs.Common.{ap, sym, ◌∙◌, ◌||◌, Bool}
use Rattle.est_kernel.specs.CodeViews.{codes_of}
use Rattle.est_micro.proofs.Telling.{with_here, with_others}
use Rattle.est_micro.proofs.cells.with_code.Goals as goal

pub returns-then-is_in-clause-here : goal.returns-then-is_in-clause-here
returns-then-is_in-clause-here c =
    with_here (codes_of c.union.result) (codes_of c.args.codes)
    (codes_of c.single.result) c.args.code _ c.union.ensures
    c.single.ensures c.completion_of.ensures
    ∙ ap (λ (b : Bool). codes_of c.args.codes c.args.code || b) (sym c.if-is_in.true)

pub returns-then-is_in-clause-others : goal.returns-then-is_in-clause-others
returns-then-is_in-clause-others c =
    with_others (codes_of c.union.result) (codes_of c.args.codes)
    (codes_of c.single.result) c.args.code _ c.union.ensures
    c.single.ensures c.completion_of.ensures
