-- What an event changes, and that it is allowed.
use Rattle.std.proofs.Common.{◌≡◌, ℕ, ◌≤◌, List, [], ◌∷◌, ◌++◌, length, take, refl, sym, ◌∙◌, ap, inl, inr}
use Rattle.std.proofs.Common.{subst, ⊎_elim}
use Rattle.std.specs.Prelude.{Option, Some, None, Result, Ok, Err, MatchResult, slice_set}
use Rattle.std.proofs.lemmas.List.{length-take-le}
use Rattle.refusal_rules.specs.Rules.{accept, ◌▸◌}
use Rattle.refusal_rules.proofs.RuleLemmas.{first_or_none}
use Rattle.rbac_policy.specs.declared.commands.AdminCommand.{AdminCommand}
use Rattle.rbac_policy.specs.declared.commands.AdminCommand.TheVariants.{AddUser, DeleteUser, AddRole, DeleteRole}
use Rattle.rbac_policy.specs.declared.commands.AdminCommand.TheVariants.{AssignUser, DeassignUser, GrantPermission}
use Rattle.rbac_policy.specs.declared.commands.AdminCommand.TheVariants.{RevokePermission, AddInheritance}
use Rattle.rbac_policy.specs.declared.commands.AdminCommand.TheVariants.{DeleteInheritance, CreateDsdSet, DeleteDsdSet}
use Rattle.rbac_policy.specs.declared.commands.AdminCommand.TheVariants.{CreateSession, DeleteSession, AddActiveRole}
use Rattle.rbac_policy.specs.declared.commands.AdminCommand.TheVariants.{DropActiveRole}
use Rattle.rbac_policy.specs.declared.commands.Entry.{Entry}
use Rattle.rbac_admin.specs.declared.refusal.PolicyRefusal.{PolicyRefusal}
use Rattle.rbac_admin.specs.PolicyStep.{PolicyStep, entry_of}
use Rattle.rbac_admin.specs.Room.{HasRoomFor}
use Rattle.rbac_admin.proofs.Accepted.{accepted_administers, accepted_entry}
use Rattle.reactor_core.specs.Meaning.{entry, word_of}
use Rattle.access_core.specs.declared.command.SlotCommand.{SlotCommand}
use Rattle.access_core.specs.declared.refusal.Refusal.{Refusal}
use Rattle.access_core.specs.declared.refusal.Refusal.TheVariants.{Policy}
use Rattle.access_core.specs.declared.reply.PolicyWord.{PolicyWord}
use Rattle.access_core.specs.Answering.{IsRefused, ByRules, no_memory}
use Rattle.access_core.specs.Needs.{IsAccepted}
use Rattle.access_core.specs.SlotStep.{no_session, tells_added}
use Rattle.access_core.specs.Desk.{DeskState, desk_at, AdminStep, InSlot, Appends, list_full, no_slot, accepted_reply}
use Rattle.access_core.specs.Desk.{reply_of_change, change_of}
use Rattle.access_core.proofs.Unchanged.{accepted_is_allowed, same_place}
use Rattle.history_events.specs.declared.event.Event.{Event}
use Rattle.history_events.specs.declared.event.Event.TheVariants.{Admin, OnSlot}
use Rattle.history_events.specs.EventChanges.{Changes}
use Rattle.history_events.specs.Runs.{WorldState, Moment, EventStep, Comes, desk_of, version_rules, Judged}
use Rattle.history_events.proofs.Following.{reached}
use Rattle.history_events.proofs.Moving.{moves, not_accepted}

-- the reply to an accepted policy command is no refusal
pub accepted_change : (change : Option PolicyWord) (entries : List Entry) → IsAccepted (reply_of_change change entries)
accepted_change None entries = tt
accepted_change (Some change) entries = tt

-- the entry of a command has this command
own_command : (session : Option ℕ) (command : AdminCommand) → (entry_of session command).command ≡ command
own_command session (CreateSession user roles) = refl
own_command session (AddUser user) = refl
own_command session (DeleteUser user) = refl
own_command session (AddRole role) = refl
own_command session (DeleteRole role) = refl
own_command session (AssignUser user role) = refl
own_command session (DeassignUser user role) = refl
own_command session (GrantPermission role operation object) = refl
own_command session (RevokePermission role operation object) = refl
own_command session (AddInheritance senior junior) = refl
own_command session (DeleteInheritance senior junior) = refl
own_command session (CreateDsdSet set count roles) = refl
own_command session (DeleteDsdSet set) = refl
own_command session DeleteSession = refl
own_command session (AddActiveRole role) = refl
own_command session (DropActiveRole role) = refl

module _ (m : Moment) where
  in_slot : (seat version slot session : ℕ) (command : SlotCommand) → version ≤ length m.before.entries
      → Judged seat version slot session command m.before m.reply m.after
      → InSlot slot session command (desk_at version (desk_of m.before)) m.reply (desk_at version (desk_of m.after))
      → Changes (OnSlot seat version slot session command) m
  in_slot seat version slot session command known h i =
      let long : length (take version m.before.entries) ≡ version = length-take-le version m.before.entries known in
      let slots : m.after.slots ≡ slice_set m.before.slots slot (record i.slot { journal = i.journal }) =
      ap (λ (d : DeskState). d.slots) i.stored in
      elim (moves (take version m.before.entries) slot session i.slot.journal m.reply i.journal command i.step) [
        | inl a ↦
            let added : i.journal ≡ i.slot.journal ++ entry (record { version = version; session = session }) a.does
            ∷ [] =
            a.added ∙ ap (λ v. i.slot.journal ++ entry (record { version = v; session = session }) a.does ∷ []) long in
            inl (
              a.accepted,
              record {
                known = known;
                allowed = accepted_is_allowed slot session command (desk_at version (desk_of m.before)) m.reply
                    (desk_at version (desk_of m.after)) h.step a.accepted;
                old = i.slot;
                there = i.there;
                does = a.does;
                is = a.is;
                room = a.room;
                added = slots ∙ ap (λ j. slice_set m.before.slots slot (record i.slot { journal = j })) added;
                told = a.told ∙ ap (λ v. tells_added (word_of a.does) v i.journal) long
                    ∙ ap (tells_added (word_of a.does) version) added;
                entries = h.entries;
              },
            )
        | inr n ↦ inr (
          n.no_more,
          record {
            entries = h.entries;
            slots = slots ∙ (ap (λ j. slice_set m.before.slots slot (record i.slot { journal = j })) n.stays
                ∙ same_place m.before.slots slot i.slot i.there);
          },
        )
      ]

  judged : (seat version slot session : ℕ) (command : SlotCommand) → version ≤ length m.before.entries
      → Judged seat version slot session command m.before m.reply m.after
      → Changes (OnSlot seat version slot session command) m
  judged seat version slot session command known h =
      ⊎_elim
      (λ first. inr (
        (λ is. not_accepted m.reply first.0 first.2.replied is),
        record { entries = h.entries; slots = ap (λ (d : DeskState). d.slots) first.2.stays },
      ))
      (λ passed. in_slot seat version slot session command known h passed.1)
      (first_or_none (no_session (take version m.before.entries) session ▸ no_slot slot ▸ accept)
      (λ refusal. IsRefused refusal (desk_at version (desk_of m.before)) m.reply (desk_at version (desk_of m.after)))
      (InSlot slot session command (desk_at version (desk_of m.before)) m.reply (desk_at version (desk_of m.after)))
      h.step)

  administered : (seat : ℕ) (session : Option ℕ) (command : AdminCommand)
      → AdminStep session command (desk_of m.before) m.reply (desk_of m.after)
      → Changes (Admin seat session command) m
  administered seat session command h = by_answer h.answer h.given h.replied where
    stays : (refusal : Refusal) → IsRefused refusal (desk_of m.before) m.reply (desk_of m.after)
        → Changes (Admin seat session command) m
    stays refusal h = inr (
      (λ is. not_accepted m.reply refusal h.replied is),
      record { entries = ap (λ (d : DeskState). d.entries) h.stays; slots = ap (λ (d : DeskState). d.slots) h.stays },
    )

    appends : (e : Entry) → PolicyStep m.before.entries session command (Ok e) → HasRoomFor e.command m.before.entries
        → Appends e (desk_of m.before) m.reply (desk_of m.after) → Changes (Admin seat session command) m
    appends e given room h =
        let is : e ≡ entry_of session command = accepted_entry m.before.entries session command e given in
        let gives : e.command ≡ command = ap (λ (x : Entry). x.command) is ∙ own_command session command in inl (
          subst IsAccepted (sym h.replied) (accepted_change (change_of e.command) m.before.entries),
          record {
            entry = e;
            is = is;
            accepted = given;
            allowed = λ administrative. accepted_administers m.before.entries session command e administrative given;
            room = subst (λ c. HasRoomFor c m.before.entries) gives room;
            added = ap (λ (d : DeskState). d.entries) h.appended;
            told = h.replied ∙ ap (accepted_reply m.before.entries) gives;
            slots = ap (λ (d : DeskState). d.slots) h.appended;
          },
        )

    by_answer : (answer : Result Entry PolicyRefusal) → PolicyStep m.before.entries session command answer
        → MatchResult answer
        (λ e. ByRules (list_full m.before.entries e ▸ no_memory ▸ accept) (Appends e) (desk_of m.before) m.reply
        (desk_of m.after))
        (λ refusal. IsRefused (Policy refusal) (desk_of m.before) m.reply (desk_of m.after))
        → Changes (Admin seat session command) m
    by_answer (Ok e) given replied =
        ⊎_elim
        (λ first. stays first.0 first.2)
        (λ passed. appends e given passed.0.0 passed.1)
        (first_or_none (list_full m.before.entries e ▸ no_memory ▸ accept)
        (λ refusal. IsRefused refusal (desk_of m.before) m.reply (desk_of m.after))
        (Appends e (desk_of m.before) m.reply (desk_of m.after)) replied)
    by_answer (Err refusal) given replied = stays (Policy refusal) replied

  pub by_event : (event : Event) → EventStep event m.before m.reply m.after → Changes event m
  by_event (Admin seat session command) h = administered seat session command h.step
  by_event (OnSlot seat version slot session command) h =
      ⊎_elim
      (λ first. inr (
        (λ is. not_accepted m.reply first.0 first.2.replied is),
        record {
          entries = ap (λ (w : WorldState). w.entries) first.2.stays;
          slots = ap (λ (w : WorldState). w.slots) first.2.stays;
        },
      ))
      (λ passed. judged seat version slot session command passed.0.1.0 passed.1)
      (first_or_none (version_rules m.before seat version slot) (λ refusal. IsRefused refusal m.before m.reply m.after)
      (Judged seat version slot session command m.before m.reply m.after) h)

-- each moment of a run changes what its event says, and no more
pub change_law : (past : List Moment) (m : Moment) → Comes past m → Changes m.event m
change_law past m comes =
    by_event m m.event (reached (λ past world. Unit {0}) (λ past m were step. tt) tt past m comes).step
