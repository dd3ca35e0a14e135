use Rattle.std.proofs.Common.{◌∙◌, sym}
use Rattle.est_kernel.specs.Bits.{bits}
use Rattle.est_relations.proofs.FirstBroken.{not_asked}
use Rattle.est_machine.proofs.OneOffered.{first_there}
use Rattle.est_machine.proofs.input_checks.keeps.Goals as goal

pub returns-then-not-has : goal.returns-then-not-has
returns-then-not-has c = let there = c.in-Implication in
    rw there.is (rw c.if-not-has.true (sym (not_asked (bits c.args.inputs) there.condition.index there.implied.index
    (sym c.has.ensures ∙ c.if-not-has.true))))

pub returns-else-not-has : goal.returns-else-not-has
returns-else-not-has c = let there = c.in-Implication in
    rw there.is (c.has-else-not-has.ensures ∙ first_there (bits c.args.inputs) there.condition.index there.implied.index
    (sym c.has.ensures ∙ c.if-not-has.false))
