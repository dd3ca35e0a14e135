use Rattle.std.proofs.Common.{◌∙◌, ap, sym}
use Rattle.rbac_policy.specs.Change.{changed_by}
use Rattle.rbac_policy.proofs.policy.Policy.change_tables.Goals as goal

pub returns-in-AssignUser : goal.returns-in-AssignUser
returns-in-AssignUser c = c.assign.ensures ∙ ap (λ k. changed_by k c.args.entry.now.session c.args.self.now)
    (sym c.in-AssignUser.is)

pub returns-in-DeassignUser : goal.returns-in-DeassignUser
returns-in-DeassignUser c = c.deassign.ensures ∙ ap (λ k. changed_by k c.args.entry.now.session c.args.self.now)
    (sym c.in-DeassignUser.is)

pub returns-in-AddInheritance : goal.returns-in-AddInheritance
returns-in-AddInheritance c = c.inherit.ensures ∙ ap (λ k. changed_by k c.args.entry.now.session c.args.self.now)
    (sym c.in-AddInheritance.is)

pub returns-in-DeleteInheritance : goal.returns-in-DeleteInheritance
returns-in-DeleteInheritance c = c.disinherit.ensures ∙ ap (λ k. changed_by k c.args.entry.now.session c.args.self.now)
    (sym c.in-DeleteInheritance.is)
