-- What a logout leaves.
use Rattle.std.proofs.Common.{◌≡◌, ℕ, Option, Some, None, refl, ap, subst}
use Rattle.access_core.specs.declared.reply.Reply.{Reply}
use Rattle.access_core.specs.declared.reply.Reply.TheVariants as reply
use Rattle.access_core.specs.declared.refusal.Refusal.TheVariants.{Memory}
use Rattle.client_loop.specs.declared.login.Logout.{Logout}
use Rattle.client_loop.specs.declared.login.Logout.TheVariants.{Ended, WasEnded}
use Rattle.client_loop.specs.Asking.{Ask}
use Rattle.client_loop.specs.Logins.{IsLogoutOutcome, LogsOut, EndsSession, left_after, LogsOutHeld, logs_out}

-- a logout that was done leaves nothing
none_left : (done : Logout) (given : Reply) (session : ℕ) → IsLogoutOutcome done given → left_after given session ≡ None
none_left Ended (reply.Refused refusal) session says = absurd says
none_left Ended (reply.Login number version) session says = refl
none_left Ended (reply.Changed change version) session says = refl
none_left Ended (reply.Added added) session says = refl
none_left Ended (reply.Look instant signals version) session says = refl
none_left Ended (reply.Audit entries instants version) session says = refl
none_left Ended (reply.Check allowed) session says = refl
none_left WasEnded given session says = ap (λ (g : Reply). left_after g session) says

pub left_none : {D : Type 0} (answers : D → Ask → Reply → D → Type 0) (session : ℕ) (before : D) (done : Logout)
    (after : D)
    → LogsOut answers session before done after → LogsOutHeld answers (Some session) before after None
left_none answers session before done after out =
    subst (λ (left : Option ℕ). LogsOutHeld answers (Some session) before after left)
    (none_left done out.given session out.says) (logs_out session before after out.given out.asked)

pub left_some : {D : Type 0} (answers : D → Ask → Reply → D → Type 0) (session : ℕ) (before after : D)
    → EndsSession answers session before (reply.Refused Memory) after
    → LogsOutHeld answers (Some session) before after (Some session)
left_some answers session before after asked = logs_out session before after (reply.Refused Memory) asked
