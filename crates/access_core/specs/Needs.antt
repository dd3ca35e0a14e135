-- What a command on a slot needs of the session that gives it (this project's own form).
use Rattle.std.specs.Prelude.{ℕ, List, Option, Some, None}
use Rattle.rbac_policy.specs.declared.commands.Entry.{Entry}
use Rattle.rbac_policy.specs.declared.objects.Operation.TheVariants.{Offer as ToOffer, Step as ToStep, Load as ToLoad}
use Rattle.rbac_policy.specs.declared.objects.Operation.TheVariants.{Audit as ToAudit}
use Rattle.rbac_policy.specs.declared.objects.Operation.{Operation}
use Rattle.rbac_policy.specs.declared.objects.Object.{Object}
use Rattle.rbac_policy.specs.declared.objects.Object.TheVariants.{Policy, Slot, Signal}
use Rattle.rbac_policy.specs.Facts.{IsLive, May}
use Rattle.reactor_core.specs.declared.entry.Move.TheVariants.{Load, Offer, Discard, Step, Unload}
use Rattle.access_core.specs.declared.command.SlotCommand.{SlotCommand}
use Rattle.access_core.specs.declared.command.SlotCommand.TheVariants.{Move, Look, Audit}
use Rattle.access_core.specs.declared.reply.Reply.{Reply}
use Rattle.access_core.specs.declared.reply.Reply.TheVariants.{Refused, Login, Changed, Added, Look as Shown}
use Rattle.access_core.specs.declared.reply.Reply.TheVariants.{Audit as Audited, Check}

-- the permission that a command on the slot needs: `load` on the slot for a load and an unload, `step` on it for a step
-- and a discard, `offer` on the signal for an offer, `audit` on the policy for an audit, and none for a look (this
-- project's own form)
abbrev pub permission_of : (slot : ℕ) → SlotCommand → Option (Operation × Object)
permission_of slot (Move (Load l)) = Some (ToLoad, Slot slot)
permission_of slot (Move (Offer signal)) = Some (ToOffer, Signal slot signal)
permission_of slot (Move Discard) = Some (ToStep, Slot slot)
permission_of slot (Move (Step i)) = Some (ToStep, Slot slot)
permission_of slot (Move Unload) = Some (ToLoad, Slot slot)
permission_of slot (Look n) = None
permission_of slot Audit = Some (ToAudit, Policy)

-- the session has this permission, or, where none is needed, it lives
abbrev pub Has : List Entry → (session : ℕ) → Option (Operation × Object) → Type 0
Has entries session None = IsLive entries session
Has entries session (Some permission) = May entries session permission.0 permission.1

-- what a command on a slot needs: its permission, or, where it needs none, that the session lives
abbrev pub Needs : List Entry → (slot session : ℕ) → SlotCommand → Type 0
Needs entries slot session command = Has entries session (permission_of slot command)

-- the reply is no refusal
abbrev pub IsAccepted : Reply → Type 0
IsAccepted (Refused refusal) = ⊥
IsAccepted (Login session version) = Unit {0}
IsAccepted (Changed change version) = Unit {0}
IsAccepted (Added added) = Unit {0}
IsAccepted (Shown instant signals version) = Unit {0}
IsAccepted (Audited entries instants version) = Unit {0}
IsAccepted (Check allowed) = Unit {0}
