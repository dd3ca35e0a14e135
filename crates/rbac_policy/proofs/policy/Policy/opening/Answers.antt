use Rattle.std.proofs.Common.{rules, ◌≡◌, ◌<◌, List, length, take, get_or, sym, ◌∙◌, ap, subst, arith}
use Rattle.rbac_policy.specs.declared.commands.Entry.{Entry}
use Rattle.rbac_policy.specs.declared.policy.Policy.{Policy}
use Rattle.rbac_policy.specs.Change.{absorbed, policy_of}
use Rattle.rbac_policy.specs.Opening.{opening_entries}
use Rattle.rbac_policy.specs.StandsFor.{StandsFor}
use Rattle.rbac_policy.proofs.Growing.{opening_stands, policy_of_more}
use Rattle.rbac_policy.proofs.policy.Policy.opening.Goals as goal

pub loop-entry-preserved : goal.loop-entry-preserved
loop-entry-preserved c =
    let at = c.loop-entry.entry-index in
    let entry = c.entry-item.result in
    let same = c.opening_entries-entries.ensures in
    let within : at < length opening_entries = omega (arith, c.loop-entry-test.true, ap length same) in
    let read : List Entry → Entry = λ entries. get_or entries at entry in
    c.absorb.ensures.exact
    ∙ ap (λ (p : Policy). absorbed p (read c.opening_entries-entries.result)) c.loop-entry.invariant
    ∙ ap (λ entries. absorbed (policy_of (take at opening_entries)) (read entries)) same
    ∙ sym (policy_of_more opening_entries at entry within)

pub returns-clause-stands : goal.returns-clause-stands
returns-clause-stands c =
    let is : c.loop-entry.policy ≡ policy_of opening_entries = search rules in
    subst (λ (p : Policy). StandsFor p opening_entries) (sym is) opening_stands
