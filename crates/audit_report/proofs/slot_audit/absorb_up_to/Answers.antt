use Rattle.std.proofs.Common.{◌≡◌, ◌<◌, length, get_or, sym, ◌∙◌, ap, arith}
use Rattle.rbac_policy.specs.declared.commands.Entry.{Entry}
use Rattle.rbac_policy.specs.declared.policy.Policy.{Policy}
use Rattle.rbac_policy.specs.Change.{absorbed}
use Rattle.rbac_policy.proofs.Growing.{policy_of_more}
use Rattle.audit_report.proofs.slot_audit.absorb_up_to.Goals as goal

pub loop-at-preserved : goal.loop-at-preserved
loop-at-preserved c =
    let at = c.loop-at.at in
    let items = c.args.entries.now in
    let within : at < length items = omega arith in
    let entry = c.index-entries-at.result in
    let is = c.index-entries-at.is in
    let read : entry ≡ get_or items at entry = cc in
    c.absorb.ensures.exact
    ∙ ap (λ (e : Entry). absorbed c.loop-at.policy e) read
    ∙ ap (λ (p : Policy). absorbed p (get_or items at entry)) c.loop-at.invariant
    ∙ sym (policy_of_more items at entry within)
