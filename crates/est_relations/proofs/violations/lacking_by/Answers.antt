use Rattle.std.proofs.Common.{◌∙◌, sym}
use Rattle.est_kernel.specs.Bits.{bits}
use Rattle.est_relations.proofs.FirstBroken.{implied_missing, implied_there, not_asked}
use Rattle.est_relations.proofs.violations.lacking_by.Goals.{else-has-via-then-has+else-not-has, else-has-via-else-has}
use Rattle.est_relations.proofs.violations.lacking_by.Goals as goal

pub returns-then-not-has : goal.returns-then-not-has
returns-then-not-has c = record {
  broken = rw c.in-Implication.is (implied_missing
      (bits c.args.inputs) c.in-Implication.condition.index c.in-Implication.implied.index
      (sym c.has.ensures ∙ c.if-has.true) (sym c.has-then-has.ensures ∙ c.if-not-has.true));
  condition = c.in-Implication.condition;
  is = c.in-Implication.is;
}

pub returns-else-has : goal.returns-else-has
returns-else-has c = rw c.in-Implication.is (elim c.else-has.branch [
  | else-has-via-then-has+else-not-has w ↦
      implied_there (bits c.args.inputs) c.in-Implication.condition.index c.in-Implication.implied.index
      (sym w.has-then-has.ensures ∙ w.if-not-has.false)
  | else-has-via-else-has w ↦
      not_asked (bits c.args.inputs) c.in-Implication.condition.index c.in-Implication.implied.index
      (sym c.has.ensures ∙ w.if-has.false)
])
