-- What a sweep hears of the signals that are surely emitted (this project's own form).
use Rattle.std.specs.Prelude.{◌≡◌, ◌≢◌, true}
use Rattle.est_kernel.specs.Term.{Name}
use Rattle.est_meaning.specs.Environments.{Env}
use Rattle.est_meaning.specs.Signals.{Signals}
use Rattle.est_meaning.specs.declared.status.Status.TheVariants.{Present, Unknown}

-- where l leaves a surely emitted signal open, e has it present
abbrev pub Heard : Signals → Env → Env → Type 0
Heard x e l = (n : Name) → x n ≡ true → l n ≡ Unknown → e n ≡ Present

-- what is surely emitted is in no doubt
abbrev pub Seen : Signals → Env → Type 0
Seen x l = (n : Name) → x n ≡ true → l n ≢ Unknown
