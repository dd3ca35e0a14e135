use Rattle.est_kernel.specs.Bits.{bits}
use Rattle.est_micro.proofs.PartSteps.{by_none}
use Rattle.est_micro.proofs.SweptParts.{walked_closed}
use Rattle.est_micro.proofs.lead.close_part.Goals as goal

pub returns-then-is_none-clause-walked : goal.returns-then-is_none-clause-walked
returns-then-is_none-clause-walked c = λ q l.
    by_none c.args.part.now _ c.if-is_none.ensures (λ none.
    walked_closed q.kernel.now q.state.now (bits q.unasked) (bits q.inputs) c.args.part.now l _ _ none
    c.close.ensures.closes)
