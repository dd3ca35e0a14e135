use Rattle.std.proofs.Common.{◌∙◌, sym}
use Rattle.std.proofs.lemmas.Option.{same_Some}
use Rattle.wire_lines.proofs.CommandLemmas.{same_members, same_object}
use Rattle.wire_lines.proofs.reading.requests_are_told_apart.Goals as goal

pub returns-clause-line : goal.returns-clause-line
returns-clause-line c = λ line one other r q.
    same_members one other r.fits q.fits (same_object _ _ (same_Some _ _ (sym r.value.reads ∙ q.value.reads)))

pub returns-clause-members : goal.returns-clause-members
returns-clause-members c = same_members
