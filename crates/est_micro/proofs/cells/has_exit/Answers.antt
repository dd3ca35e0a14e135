use Rattle.std.proofs.Common.{◌≡◌, ◌∙◌, ap, arith, rules}
use Rattle.est_kernel.specs.CodeViews.{codes_of}
use Rattle.est_kernel.specs.declared.code_set.CodeSet.{CodeSet}
use Rattle.est_micro.proofs.Telling.{none_there}
use Rattle.est_micro.proofs.cells.has_exit.Goals as goal

pub returns : goal.returns
returns c = λ e k two.
    let same : c.args.codes ≡ c.with_code.result = search rules in
    ap (λ (z : CodeSet). codes_of z k) same
    ∙ (c.with_code.ensures.others k (λ z. absurd (omega (arith, z, two)))
    ∙ (c.with_code-ends.ensures.others k (λ z. absurd (omega (arith, z, two))) ∙ none_there _ c.empty.ensures k))
