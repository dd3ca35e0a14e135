use Rattle.std.proofs.Common.{◌∙◌, List, [], ap, sym, subst, refl}
use Rattle.std.specs.Prelude.{Option, unwrap_or}
use Rattle.rbac_policy.specs.declared.commands.Entry.{Entry}
use Rattle.access_core.specs.Journals.{IsLegal}
use Rattle.slot_table.specs.LockedState.{LockedState}
use Rattle.slot_table.proofs.Legality.{command_legal, command_on}
use Rattle.slot_table.proofs.slot.LockedSlot.answer.Goals as goal

pub invariant_of-self : goal.invariant_of-self
invariant_of-self g c = (
  refl,
  c.read_and_decide-reply.ensures.number,
  (command_legal _ _ _ _ _ _ _ _ c.read_and_decide-reply.ensures.command
      (subst (λ (held : Option (List Entry)). IsLegal (unwrap_or held []) g.row.NUMBER c.self.inside.core.journal)
      (sym c.take.ensures.value ∙ c.unwrap-reader.ensures) c.self.invariant.2)).2,
)

pub returns-clause-before : goal.returns-clause-before
returns-clause-before g c = subst (λ (s : LockedState). IsLegal s.list g.row.NUMBER s.journal) c.self.view_is
    c.self.invariant.2

pub returns-clause-after : goal.returns-clause-after
returns-clause-after g c =
    (command_legal _ _ _ _ _ _ _ _ c.read_and_decide-reply.ensures.command
    (subst (λ (held : Option (List Entry)). IsLegal (unwrap_or held []) g.row.NUMBER c.self.inside.core.journal)
    (sym c.take.ensures.value ∙ c.unwrap-reader.ensures) c.self.invariant.2)).2

pub returns-clause-command : goal.returns-clause-command
returns-clause-command g c =
    let held = sym c.take.ensures.value ∙ c.unwrap-reader.ensures in
    let seen = λ (reader : Option (List Entry)). let s : LockedState =
    record { list = unwrap_or reader []; journal = c.self.inside.core.journal } in s in
    command_on g.row.NUMBER c.args.session c.args.command _ _ _ _ _ _ (sym (ap seen held) ∙ c.self.view_is)
    c.read_and_decide-reply.ensures.command
