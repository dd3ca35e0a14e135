-- One line of a connection: what it is answered, and the desk and the connection's login afterwards (this project's own
-- form).
use Rattle.std.specs.Prelude.{◌≡◌, ◌≢◌, ℕ, ◌<◌, ◌≤◌, ◌⊎◌, List, Option, Some, None, Err, length}
use Rattle.rbac_policy.specs.declared.commands.AdminCommand.TheVariants.{CreateSession, DeleteSession}
use Rattle.rbac_admin.specs.declared.refusal.PolicyRefusal.TheVariants as policy
use Rattle.access_core.specs.declared.refusal.Refusal.{Refusal}
use Rattle.access_core.specs.declared.refusal.Refusal.TheVariants as fault
use Rattle.access_core.specs.declared.reply.Reply.{Reply}
use Rattle.access_core.specs.declared.reply.Reply.TheVariants as reply
use Rattle.access_core.specs.Answering.{IsRefused}
use Rattle.wire_reader.specs.declared.lines.TheConstants.{LINE_BYTES}
use Rattle.wire_lines.specs.declared.request.Request.{Request}
use Rattle.wire_lines.specs.declared.request.Request.TheVariants.{Policy, Slot, Check}
use Rattle.wire_lines.specs.Requests.{IsReadAs, IsRequest}
use Rattle.wire_lines.specs.Replies.{line_of}
use Rattle.client_loop.specs.Asking.{Ask, to_policy, to_slot, to_check}
use Rattle.client_loop.specs.Logins.{after_login, after_logout}

-- what a request asks of the desk, by the session that gives it
abbrev pub ask_of : Request → (session : ℕ) → Ask
ask_of (Policy command) session = to_policy (Some session) command
ask_of (Slot number command) session = to_slot session number command
ask_of (Check operation object) session = to_check session operation object

-- a login is asked where none is held, and refused while one is
abbrev pub Unheld : {D : Type 0} → (answers : D → Ask → Reply → D → Type 0) → (login : Option ℕ) → Ask → (before : D)
    → Reply → (after : D) → Type 0
Unheld answers None ask before given after = answers before ask given after
Unheld answers (Some session) ask before given after = IsRefused fault.AlreadyLoggedIn before given after

-- any other request is asked by the session of the login, and refused where none is held
abbrev pub Held : {D : Type 0} → (answers : D → Ask → Reply → D → Type 0) → (login : Option ℕ) → (ℕ → Ask)
    → (before : D) → Reply → (after : D) → Type 0
Held answers None ask before given after = IsRefused (fault.Policy policy.NoSession) before given after
Held answers (Some session) ask before given after = answers before (ask session) given after

-- what is answered to a request on a connection with this login, and the desk afterwards
abbrev pub Asks : {D : Type 0} → (answers : D → Ask → Reply → D → Type 0) → Request → (login : Option ℕ) → (before : D)
    → Reply → (after : D) → Type 0
Asks answers (Policy (CreateSession user roles)) login before given after =
    Unheld answers login (to_policy None (CreateSession user roles)) before given after
Asks answers request login before given after = Held answers login (ask_of request) before given after

-- the login after this reply to the request
abbrev pub login_after : Request → Reply → (before : Option ℕ) → Option ℕ
login_after (Policy (CreateSession user roles)) given before = after_login given before
login_after (Policy DeleteSession) given before = after_logout given before
login_after _ given before = before

-- a desk, and the login that a connection to it holds: none, or the number of a session
pub record DeskAndLogin (D : Type 0) : Type 0 where
  pub desk : D
  pub login : Option ℕ

-- the desk with this login
abbrev pub with_login : {D : Type 0} → D → Option ℕ → DeskAndLogin D
with_login desk login = record { desk = desk; login = login }

-- the line asks for a request, which is answered
pub record AnswersRequest {D : Type 0} (answers : D → Ask → Reply → D → Type 0) (line : List ℕ)
    (before : DeskAndLogin D) (given : Reply) (after : DeskAndLogin D) : Type 0 where
  pub short : length line ≤ LINE_BYTES
  pub request : Request
  pub is : IsRequest line request
  pub asked : Asks answers request before.login before.desk given after.desk
  pub login : after.login ≡ login_after request given before.login

-- why a line is refused before anything is asked: it is over the limit, or it reads as no request
pub data IsNoRequest (line : List ℕ) (refusal : Refusal) : Type 0 where
  too_long : LINE_BYTES < length line → refusal ≡ fault.TooLong → IsNoRequest line refusal
  not_read : length line ≤ LINE_BYTES → IsReadAs line (Err refusal) → IsNoRequest line refusal

-- the line is refused before anything is asked, and nothing is changed
pub record RefusesLine {D : Type 0} (line : List ℕ) (before : DeskAndLogin D) (given : Reply)
    (after : DeskAndLogin D) : Type 0 where
  pub refusal : Refusal
  pub replied : given ≡ reply.Refused refusal
  pub why : IsNoRequest line refusal
  pub stays : after ≡ before

-- what one line does: the reply, and desk and login afterwards
abbrev pub LineStep : {D : Type 0} → (answers : D → Ask → Reply → D → Type 0) → List ℕ → (before : DeskAndLogin D)
    → Reply → (after : DeskAndLogin D) → Type 0
LineStep answers line before given after = RefusesLine line before given after
    ⊎ AnswersRequest answers line before given after

-- the text is that of the reply to the line
pub record Tells {D : Type 0} (answers : D → Ask → Reply → D → Type 0) (line : List ℕ) (before : DeskAndLogin D)
    (text : List ℕ) (after : DeskAndLogin D) : Type 0 where
  pub given : Reply
  pub step : LineStep answers line before given after
  pub written : text ≡ line_of given

-- the line was answered, and no memory was found for the text of the reply: what the line did stands. The reply that
-- tells want of memory is none of these, since its text is a constant
pub record TellsNothing {D : Type 0} (answers : D → Ask → Reply → D → Type 0) (line : List ℕ)
    (before after : DeskAndLogin D) : Type 0 where
  pub given : Reply
  pub step : LineStep answers line before given after
  pub other : given ≢ reply.Refused fault.Memory
