use Rattle.std.proofs.Common.{◌∙◌, sym}
use Rattle.est_relations.proofs.FirstBroken.{member, no_member}
use Rattle.est_relations.proofs.violations.excluded_by.Goals as goal

pub returns-then-has : goal.returns-then-has
returns-then-has c =
    rw c.in-Exclusion.is
    (member c.in-Exclusion.members c.args.inputs c.args.signal.index c.first_in.result
    (sym c.has.ensures ∙ c.if-has.true) c.requires.new c.first_in.ensures)

pub returns-else-has : goal.returns-else-has
returns-else-has c =
    rw c.in-Exclusion.is
    (no_member c.in-Exclusion.members c.args.inputs c.args.signal.index (sym c.has.ensures ∙ c.if-has.false)
    (rw c.in-Exclusion.is at c.requires.kept))
