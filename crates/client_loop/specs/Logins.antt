-- Logins: when one is held, and what ends it (this project's own form).
use Rattle.std.specs.Prelude.{◌≡◌, ℕ, Option, Some, None}
use Rattle.rbac_policy.specs.declared.commands.AdminCommand.TheVariants.{DeleteSession}
use Rattle.rbac_admin.specs.declared.refusal.PolicyRefusal.TheVariants as policy
use Rattle.access_core.specs.declared.refusal.Refusal.TheVariants.{Policy, Memory}
use Rattle.access_core.specs.declared.reply.Reply.{Reply}
use Rattle.access_core.specs.declared.reply.Reply.TheVariants as reply
use Rattle.access_core.specs.Needs.{IsAccepted}
use Rattle.client_loop.specs.declared.login.Logout.{Logout}
use Rattle.client_loop.specs.declared.login.Logout.TheVariants.{Ended, WasEnded}
use Rattle.client_loop.specs.declared.login.Login.{Login}
use Rattle.client_loop.specs.Asking.{Ask, to_policy}

-- the session of the login that is held, if one is
abbrev pub session_of : Option Login → Option ℕ
session_of None = None
session_of (Some login) = Some login.session

-- the login after this reply to a login: an accepted one holds its session
abbrev pub after_login : Reply → (before : Option ℕ) → Option ℕ
after_login (reply.Login session version) before = Some session
after_login _ before = before

-- the login after this reply to a logout: none where it was accepted, or where its session had ended
abbrev pub after_logout : Reply → (before : Option ℕ) → Option ℕ
after_logout (reply.Changed done version) before = None
after_logout (reply.Refused (Policy policy.NoSession)) before = None
after_logout _ before = before

-- what this reply to a logout says
abbrev pub IsLogoutOutcome : Logout → Reply → Type 0
IsLogoutOutcome Ended given = IsAccepted given
IsLogoutOutcome WasEnded given = given ≡ reply.Refused (Policy policy.NoSession)

-- the desk was asked to end the session, and this was its reply
abbrev pub EndsSession : {D : Type 0} → (answers : D → Ask → Reply → D → Type 0) → (session : ℕ) → (before : D) → Reply
    → (after : D) → Type 0
EndsSession answers session before given after = answers before (to_policy (Some session) DeleteSession) given after

-- the desk was asked to end the session, and its reply says this
pub record LogsOut {D : Type 0} (answers : D → Ask → Reply → D → Type 0) (session : ℕ) (before : D) (done : Logout)
    (after : D) : Type 0 where
  pub given : Reply
  pub asked : EndsSession answers session before given after
  pub says : IsLogoutOutcome done given

-- the desk was asked to end the session any number of times, and each time memory was refused
pub data RefusesLogouts {D : Type 0} (answers : D → Ask → Reply → D → Type 0) (session : ℕ) : (before after : D)
    → Type 0 where
  none_yet : (desk : D) → RefusesLogouts answers session desk desk
  one_more : (before now after : D) → RefusesLogouts answers session before now
      → EndsSession answers session now (reply.Refused Memory) after
      → RefusesLogouts answers session before after

-- the session is logged out, after any number of refusals for want of memory
pub record LogsOutAtLast {D : Type 0} (answers : D → Ask → Reply → D → Type 0) (session : ℕ) (before : D)
    (done : Logout) (after : D) : Type 0 where
  pub now : D
  pub refused : RefusesLogouts answers session before now
  pub out : LogsOut answers session now done after

-- the login that is left by the reply to the logout at the end of a connection: none but where memory was refused
abbrev pub left_after : Reply → (session : ℕ) → Option ℕ
left_after (reply.Refused Memory) session = Some session
left_after _ session = None

-- the end of a connection with this login: where one is held, its logout is asked; the login is left over only if
-- memory was refused
pub data LogsOutHeld {D : Type 0} (answers : D → Ask → Reply → D → Type 0) : (held : Option ℕ) → (before after : D)
    → (left : Option ℕ) → Type 0 where
  none_held : (desk : D) → LogsOutHeld answers None desk desk None
  logs_out : (session : ℕ) → (before after : D) → (given : Reply) → EndsSession answers session before given after
      → LogsOutHeld answers (Some session) before after (left_after given session)
