-- What is asked of a desk, and what the desk of one client answers (this project's own form).
use Rattle.std.specs.Prelude.{◌≡◌, ◌↔◌, ℕ, Option, Bool, IsTrue}
use Rattle.rbac_policy.specs.declared.commands.AdminCommand.{AdminCommand}
use Rattle.rbac_policy.specs.declared.objects.Operation.{Operation}
use Rattle.rbac_policy.specs.declared.objects.Object.{Object}
use Rattle.rbac_policy.specs.Facts.{May}
use Rattle.rbac_admin.specs.declared.refusal.PolicyRefusal.TheVariants as policy
use Rattle.access_core.specs.declared.command.SlotCommand.{SlotCommand}
use Rattle.access_core.specs.declared.refusal.Refusal.TheVariants.{Policy, Memory}
use Rattle.access_core.specs.declared.reply.PolicyWord.TheVariants.{DeleteSession as SessionDeleted}
use Rattle.access_core.specs.declared.reply.Reply.{Reply}
use Rattle.access_core.specs.declared.reply.Reply.TheVariants.{Refused, Changed, Check}
use Rattle.access_core.specs.Desk.{DeskState, AdminStep, DeskStep}

-- what is asked of a desk: a policy command, which a session gives (a login is given by none); a session's command on
-- the slot of this number; or whether a session may do the operation on the object
pub data Ask : Type 0 where
  to_policy : (session : Option ℕ) → AdminCommand → Ask
  to_slot : (session number : ℕ) → SlotCommand → Ask
  to_check : (session : ℕ) → Operation → Object → Ask

-- the reply to a check: whether the session may, as the policy list has it. Nothing is changed
pub record IsChecked (session : ℕ) (operation : Operation) (object : Object) (before : DeskState) (given : Reply)
    (after : DeskState) : Type 0 where
  pub allowed : Bool
  pub replied : given ≡ Check allowed
  pub may : IsTrue allowed ↔ May before.entries session operation object
  pub stays : after ≡ before

-- what the desk of one client answers to what it is asked, and the desk afterwards
abbrev pub DeskAnswers : (before : DeskState) → Ask → Reply → (after : DeskState) → Type 0
DeskAnswers before (to_policy session command) given after = AdminStep session command before given after
DeskAnswers before (to_slot session number command) given after = DeskStep number session command before given after
DeskAnswers before (to_check session operation object) given after =
    IsChecked session operation object before given after

-- a reply that a logout may be given: the session is ended now, had ended before, or memory was refused
abbrev pub IsLogoutReply : Reply → Type 0
IsLogoutReply (Changed SessionDeleted version) = Unit {0}
IsLogoutReply (Refused (Policy policy.NoSession)) = Unit {0}
IsLogoutReply (Refused Memory) = Unit {0}
IsLogoutReply _ = ⊥
