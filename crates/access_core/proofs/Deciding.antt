-- The rules of who may give a command to a slot, and those of what it asks of the slot.
use Rattle.std.proofs.Common.{ℕ, List, Option, Some, None, refl, subst}
use Rattle.refusal_rules.specs.Rules.{Rules, AllPass, FirstRefuses}
use Rattle.refusal_rules.proofs.RuleLemmas.{append, split, accepted, refused, all_passed}
use Rattle.rbac_policy.specs.declared.commands.Entry.{Entry}
use Rattle.rbac_policy.specs.declared.objects.Object.{Object}
use Rattle.rbac_policy.specs.declared.objects.Operation.{Operation}
use Rattle.reactor_core.specs.declared.entry.SlotEntry.{SlotEntry}
use Rattle.access_core.specs.declared.command.SlotCommand.{SlotCommand}
use Rattle.access_core.specs.declared.refusal.Refusal.{Refusal}
use Rattle.access_core.specs.declared.reply.Reply.{Reply}
use Rattle.access_core.specs.declared.reply.Reply.TheVariants.{Refused}
use Rattle.access_core.specs.Answering.{IsRefused, ByRules}
use Rattle.access_core.specs.SlotStep.{access_rules, journal_rules, Does, SlotStep}
use Rattle.access_core.specs.Needs.{permission_of, Has, Needs, IsAccepted}

-- a refusal that leaves the state as it is
pub refusing : {S : Type 0} {refusal : Refusal} {state : S} → IsRefused refusal state (Refused refusal) state
refusing = record { replied = refl; stays = refl }

-- a reply that is accepted is no refusal
pub not_refused : {S : Type 0} {before : S} {reply : Reply} {after : S} → IsAccepted reply → (refusal : Refusal)
    → IsRefused refusal before reply after → ⊥
not_refused is refusal h = subst IsAccepted h.replied is

module _ (entries : List Entry) (slot session : ℕ) (command : SlotCommand) where
  abbrev who : Rules Refusal
  who = access_rules entries session (permission_of slot command)

  -- a session that may give the command gets the answer that the slot gives to the command
  pub allowed_step : (before : List SlotEntry) (reply : Reply) (after : List SlotEntry)
      → AllPass (access_rules entries session (permission_of slot command))
      → ByRules (journal_rules entries slot session command before)
      (Does entries slot session command) before reply after
      → SlotStep entries slot session command before reply after
  allowed_step before reply after may h =
      append who (journal_rules entries slot session command before) (λ refusal. IsRefused refusal before reply after)
      (Does entries slot session command before reply after)
      (accepted who (λ refusal. IsRefused refusal before reply after)
      (ByRules (journal_rules entries slot session command before)
      (Does entries slot session command) before reply after) may h)

  -- a session that may not is refused by the first of the two rules that refuses
  pub denied_step : (before : List SlotEntry) (refusal : Refusal)
      → FirstRefuses (access_rules entries session (permission_of slot command)) refusal
      → SlotStep entries slot session command before (Refused refusal) before
  denied_step before refusal first =
      append who (journal_rules entries slot session command before)
      (λ given. IsRefused given before (Refused refusal) before)
      (Does entries slot session command before (Refused refusal) before)
      (refused who (λ given. IsRefused given before (Refused refusal) before)
      (ByRules (journal_rules entries slot session command before) (Does entries slot session command) before
      (Refused refusal) before)
      refusal first refusing)

  -- where the command is accepted, the rules of who may give it let it pass
  pub accepted_access : (before : List SlotEntry) (reply : Reply) (after : List SlotEntry) → IsAccepted reply
      → SlotStep entries slot session command before reply after
      → AllPass (access_rules entries session (permission_of slot command))
  accepted_access before reply after is h =
      (all_passed who (λ refusal. IsRefused refusal before reply after)
      (ByRules (journal_rules entries slot session command before)
      (Does entries slot session command) before reply after) (not_refused is)
      (split who (journal_rules entries slot session command before) (λ refusal. IsRefused refusal before reply after)
      (Does entries slot session command before reply after) h)).0

-- a session that they let pass has the permission, if one is needed, and lives
has_granted : (entries : List Entry) (session : ℕ) (needed : Option (Operation × Object))
    → AllPass (access_rules entries session needed) → Has entries session needed
has_granted entries session None may = may.0
has_granted entries session (Some permission) may = may.1.0

-- a session that they let pass has what the command needs
pub has_needed : (entries : List Entry) (slot session : ℕ) (command : SlotCommand)
    → AllPass (access_rules entries session (permission_of slot command)) → Needs entries slot session command
has_needed entries slot session command may = has_granted entries session (permission_of slot command) may
