-- What is told of claims on the module of a text (this project's own form).
use Rattle.std.specs.Prelude.{◌≡◌, ◌⊎◌, ◌==◌, ℕ, Bool, true, false, List, length, map, string_bytes}
use Rattle.serde_json.specs.View.{view}
use Rattle.est_kernel.specs.Bits.{bits}
use Rattle.est_kernel.specs.Interfaces.{offerable}
use Rattle.est_kernel.specs.declared.interface.Declaration.{Declaration}
use Rattle.reactor_core.specs.Loading.{Gives}
use Rattle.reactor_core.specs.Standing.{given_by}
use Rattle.reactor_core.specs.declared.kernel_module.Module.{Module}
use Rattle.access_core.specs.declared.refusal.Refusal.{Refusal}
use Rattle.lab_lines.specs.Offers.{AreNamed}
use Rattle.lab_run.specs.Answers.{IsNotLoaded, IsNotOffered, TellsAmong}
use Rattle.lab_run.specs.declared.lab.LabReply.{LabReply}
use Rattle.lab_run.specs.declared.lab.LabReply.TheVariants.{Refused, Json, Line}
use Rattle.lab_run.specs.declared.invocation.ProveOptions.{ProveOptions}

-- these signals may be offered: all that the interface lets be, where all may be, or those of these names
abbrev pub IsAmongIf : (all : Bool) → List Declaration → (names : List (List ℕ)) → (allowed : ℕ) → Type 0
IsAmongIf true interface names allowed = bits allowed ≡ offerable interface
IsAmongIf false interface names allowed = AreNamed interface names allowed

-- the same, where no name stands for all
abbrev pub IsAmong : List Declaration → (names : List (List ℕ)) → (allowed : ℕ) → Type 0
IsAmong interface names allowed = IsAmongIf (length names == 0) interface names allowed

-- what is told of the claims of the invocation on the module
abbrev pub TellsOfModule : Module → ProveOptions → LabReply → Type 0
TellsOfModule m p (Refused given) = IsNotOffered m.kernel.interface (map (λ t. t.now) p.inputs.items) given
TellsOfModule m p (Json v) = (allowed : ℕ) × IsAmong m.kernel.interface (map (λ t. t.now) p.inputs.items) allowed
    × TellsAmong m (map string_bytes p.claims.items) allowed p.most p.most (view v)
TellsOfModule m p (Line line) = ⊥

-- the text gives this module, and what is told of it
pub record IsOfModule (p : ProveOptions) (text : List ℕ) (told : LabReply) : Type 0 where
  pub given : Module
  pub gives : Gives p.main.now text (given_by given)
  pub right : TellsOfModule given p told

-- the text gives no module, and it is told why
pub record IsOfNone (p : ProveOptions) (text : List ℕ) (told : LabReply) : Type 0 where
  pub why : Refusal
  pub is : told ≡ Refused why
  pub right : IsNotLoaded p.main.now text why

-- what is told of the claims of the invocation on the module of a text
abbrev pub TellsOfText : ProveOptions → (text : List ℕ) → LabReply → Type 0
TellsOfText p text told = IsOfModule p text told ⊎ IsOfNone p text told
