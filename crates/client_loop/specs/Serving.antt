-- A connection to a desk that is lent, to its end (this project's own form).
use Rattle.std.specs.Prelude.{◌≡◌, ℕ, List, [], ◌⊎◌, Option, None, Bool, true}
use Rattle.std.specs.Io.KnownBytes.{Keeps}
use Rattle.access_core.specs.declared.refusal.Refusal.TheVariants as refusal
use Rattle.access_core.specs.declared.reply.Reply.{Reply}
use Rattle.access_core.specs.declared.reply.Reply.TheVariants.{Refused}
use Rattle.wire_reader.specs.Serving.{between, Serves}
use Rattle.wire_reader.specs.declared.serving.EndReason.{EndReason}
use Rattle.wire_reader.specs.declared.serving.EndReason.TheVariants.{Memory}
use Rattle.wire_lines.specs.Replies.{line_of}
use Rattle.client_loop.specs.Asking.{Ask}
use Rattle.client_loop.specs.LineSteps.{DeskAndLogin, with_login, Tells, TellsNothing}
use Rattle.client_loop.specs.Logins.{LogsOutHeld}

-- what an over-long line is answered
abbrev pub too_long_text : List ℕ
too_long_text = line_of (Refused refusal.TooLong)

-- the allocator refused the buffers before anything was read, so nothing is changed
pub record NeverBegins {D : Type 0} (refused : Bool) (before : D) (why : EndReason) (last : DeskAndLogin D)
    (written after : Option (List ℕ)) : Type 0 where
  pub no_memory : why ≡ Memory
  pub noted : refused ≡ true
  pub same : last ≡ with_login before None
  pub silent : Keeps written after

-- lines are answered in turn, each by its line step, from no login on; and then the connection ends so
abbrev pub ServesLines : {D : Type 0} → (answers : D → Ask → Reply → D → Type 0) → (refused : Bool)
    → (ahead : Option (List ℕ)) → (before : D) → EndReason → (last : DeskAndLogin D) → (written after : Option (List ℕ))
    → Type 0
ServesLines answers refused ahead before why last written after =
    Serves (λ a line text b. Tells answers line a text b) (λ a line b. TellsNothing answers line a b) too_long_text
    (between ahead (with_login before None)) why last written after [] []
    ⊎ NeverBegins refused before why last written after

-- the lines of a connection are answered, and then the login that it holds is logged out, or left where memory was
-- refused for that
pub record ServesDesk {D : Type 0} (answers : D → Ask → Reply → D → Type 0) (refused : Bool) (ahead : Option (List ℕ))
    (before : D) (why : EndReason) (desk : D) (left : Option ℕ) (written after : Option (List ℕ)) : Type 0 where
  pub last : DeskAndLogin D
  pub lines : ServesLines answers refused ahead before why last written after
  pub leaves : LogsOutHeld answers last.login last.desk desk left
