use Rattle.std.proofs.Common.{◌≡◌, List, length, sym, ◌∙◌, ap, subst}
use Rattle.rbac_policy.specs.declared.commands.Entry.{Entry}
use Rattle.access_core.specs.Desk.{DeskState, AdminStep}
use Rattle.history_events.specs.Runs.{desk_of, has_seen}
use Rattle.history_events.proofs.event_desk.EventDesk.admin.Goals as goal

pub returns : goal.returns
returns c =
    let after : DeskState = c.admin-reply.new.self in
    let same : desk_of c.note.new.self ≡ after =
    ap (λ (entries : List Entry). let d : DeskState = record { entries = entries; slots = c.note.new.self.slots } in d)
    c.note.ensures.entries
    ∙ ap (λ (slots : List _). let d : DeskState = record { entries = after.entries; slots = slots } in d)
    c.note.ensures.slots in
    rw (← c.self.view_is) (record {
      step = subst (AdminStep c.args.session c.args.command c.self.inside.desk c.admin-reply.result)
          (sym same) c.admin-reply.ensures;
      seen = c.note.ensures.seen
          ∙ ap (λ (entries : List Entry). has_seen c.args.seat (length entries) c.self.inside.seen)
          (c.entries.ensures ∙ sym c.note.ensures.entries);
    })
