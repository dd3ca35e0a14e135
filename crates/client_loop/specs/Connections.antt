-- Connections that a worker serves over its desk, one after another (this project's own form).
use Rattle.std.specs.Prelude.{◌≡◌, ℕ, List, Option, Some, None, Bool}
use Rattle.wire_reader.specs.declared.serving.EndReason.{EndReason}
use Rattle.access_core.specs.declared.reply.Reply.{Reply}
use Rattle.client_loop.specs.declared.login.Logout.{Logout}
use Rattle.client_loop.specs.Asking.{Ask}
use Rattle.client_loop.specs.Logins.{LogsOutAtLast}
use Rattle.client_loop.specs.Serving.{ServesDesk}

-- where a connection left a login, that is logged out at last; and else the desk stays
abbrev pub LogsOutLeft : {D : Type 0} → (answers : D → Ask → Reply → D → Type 0) → (left : Option ℕ)
    → (before after : D) → Type 0
LogsOutLeft answers None before after = after ≡ before
LogsOutLeft answers (Some session) before after = (done : Logout) × LogsOutAtLast answers session before done after

-- a connection to this desk is served to its end, which comes for this reason, and no login of it is held any more
pub record ServesConnection {D : Type 0} (answers : D → Ask → Reply → D → Type 0) (refused : Bool)
    (ahead : Option (List ℕ)) (before : D) (why : EndReason) (after : D) (written wrote : Option (List ℕ)) : Type 0
  where
    pub desk : D
    pub left : Option ℕ
    pub served : ServesDesk answers refused ahead before why desk left written wrote
    pub logged_out : LogsOutLeft answers left desk after
