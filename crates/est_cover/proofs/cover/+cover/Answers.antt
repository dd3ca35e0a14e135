use Rattle.std.proofs.Common.{true, false}
use Rattle.std.proofs.lemmas.Result.{IfOk-weaker}
use Rattle.est_cover.proofs.CoverLemmas.{covers_both, covers_narrower, covers_none, covers_one}
use Rattle.est_cover.proofs.cover.+cover.Goals as goal

pub returns-in-Some-Broken-clause-covered : goal.returns-in-Some-Broken-clause-covered
returns-in-Some-Broken-clause-covered g t c = covers_none _ _ _ _ _ _ _ _ _
    (rw c.in-Some-Broken.field-0-is at c.in-Some-Broken.ensures)

pub returns-in-Some-Present-clause-covered : goal.returns-in-Some-Present-clause-covered
returns-in-Some-Present-clause-covered g t c =
    let forced = rw c.in-Some-Present.field-0-is at c.in-Some-Present.ensures in
    IfOk-weaker c.cover.result _ _ (λ whole e.
    covers_narrower _ _ _ _ _ _ c.in-Some-Present.place true _ _ _ _ whole forced.0 forced.1
    c.with-part.ensures.narrower
    e) c.cover.ensures.covered

pub returns-in-Some-Absent-clause-covered : goal.returns-in-Some-Absent-clause-covered
returns-in-Some-Absent-clause-covered g t c =
    let forced = rw c.in-Some-Absent.field-0-is at c.in-Some-Absent.ensures in
    IfOk-weaker c.cover-in-Some-Absent.result _ _ (λ whole e.
    covers_narrower _ _ _ _ _ _ c.in-Some-Absent.place false _ _ _ _ whole forced.0 forced.1
    c.without-part.ensures.narrower e) c.cover-in-Some-Absent.ensures.covered

pub returns-in-Step-clause-covered : goal.returns-in-Step-clause-covered
returns-in-Step-clause-covered g t c =
    IfOk-weaker c.add_step.result _ _ (λ whole e.
    covers_one _ _ _ _ _ _ _ _ _ _ c.in-Step.step whole c.requires.part.apart c.in-Step.ensures.next e.0 e.1)
    c.add_step.ensures

pub returns-else-not-branch-clause-covered : goal.returns-else-not-branch-clause-covered
returns-else-not-branch-clause-covered g t c =
    IfOk-weaker c.cover-in-Split-2.result _ _ (λ whole e.
    covers_both _ _ _ _ _ _ c.in-Split.place _ _ _ _ _ _ whole c.in-Split.ensures.next c.without-low.ensures.narrower
    c.with-high.ensures.narrower (rw c.if-not-branch.false at c.in_ok-cover-in-Split.ensures.covered) e)
    c.cover-in-Split-2.ensures.covered
