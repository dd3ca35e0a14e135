use Rattle.std.proofs.Common.{◌≡◌, ◌<◌, List, length, take, get_or, sym, ◌∙◌, ap, arith}
use Rattle.rbac_policy.specs.declared.commands.Entry.{Entry}
use Rattle.rbac_policy.specs.declared.policy.Policy.{Policy}
use Rattle.rbac_policy.specs.Change.{absorbed}
use Rattle.rbac_policy.proofs.Growing.{policy_of_more}
use Rattle.access_core.proofs.single.policy_at.Goals as goal

pub loop-entry-preserved : goal.loop-entry-preserved
loop-entry-preserved c =
    let at = c.loop-entry.entry-index in
    let entry = c.entry-item.result in
    let items : List Entry = take c.args.version c.args.entries.now in
    let within : at < length items = omega (arith, c.loop-entry-test.true) in
    let is = c.entry-item.is in
    let read : entry ≡ get_or items at entry = cc in
    c.absorb.ensures.exact
    ∙ ap (λ (e : Entry). absorbed c.loop-entry.policy e) read
    ∙ ap (λ (p : Policy). absorbed p (get_or items at entry)) c.loop-entry.invariant
    ∙ sym (policy_of_more items at entry within)
