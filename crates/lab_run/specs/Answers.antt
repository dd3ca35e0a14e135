-- What a lab answers to a request (this project's own form).
use Rattle.std.specs.Prelude.{◌≡◌, ◌≢◌, ◌⊎◌, ℕ, List, Option, Some, None, codes, map}
use Rattle.serde_json.specs.Data.{Data, number, unsigned, string, object, member, no_members}
use Rattle.serde_json.specs.View.{view}
use Rattle.est_kernel.specs.Interfaces.{offerable, emittable}
use Rattle.est_kernel.specs.declared.interface.Declaration.{Declaration}
use Rattle.est_kernel.specs.declared.statement.Test.{Test}
use Rattle.est_kernel.specs.Bits.{bits}
use Rattle.est_explore.specs.Views.{module_of}
use Rattle.est_relations.specs.declared.refusal.PendingRefusal.{PendingRefusal}
use Rattle.reactor_core.specs.Loading.{Gives, IsLoadFault}
use Rattle.reactor_core.specs.Standing.{given_by}
use Rattle.reactor_core.specs.declared.kernel_module.Module.{Module}
use Rattle.reactor_core.specs.declared.refusal.ReactorRefusal.{ReactorRefusal}
use Rattle.reactor_core.specs.declared.refusal.ModuleRefusal.TheVariants as of_module
use Rattle.access_core.specs.Refusals.{of_reactor}
use Rattle.access_core.specs.declared.refusal.Refusal.{Refusal}
use Rattle.access_core.specs.declared.refusal.Refusal.TheVariants as refusal
use Rattle.access_core.specs.declared.reply.Reply.TheVariants as reply
use Rattle.wire_lines.specs.Replies.{line_of}
use Rattle.wire_lines.specs.Requests.{IsValue}
use Rattle.lab_lines.specs.Comparing.{IsComparison}
use Rattle.lab_lines.specs.Exploring.{IsExploration}
use Rattle.lab_lines.specs.Offers.{AreNamed, FirstNotOfferable}
use Rattle.lab_lines.specs.Statements.{IsKernelTold}
use Rattle.lab_lines.specs.TableJson.{IsTableTold, IsTooLarge}
use Rattle.lab_lines.specs.FoundJson.{names_json}
use Rattle.lab_lines.specs.declared.request.Request.{Request}
use Rattle.lab_lines.specs.declared.request.Request.TheVariants.{Load, Kernel, Explore, Same, Table}
use Rattle.lab_lines.specs.declared.request.Request.TheVariants.{Instant, Try, Back}
use Rattle.lab_lines.specs.declared.request.SearchScope.{SearchScope}
use Rattle.lab_claims.specs.Claims.{AreClaimTexts}
use Rattle.lab_claims.specs.Refused.{IsFirstBad}
use Rattle.lab_claims.specs.declared.claims.BadClaim.{BadClaim}
use Rattle.lab_run.specs.declared.lab.LabReply.{LabReply}
use Rattle.lab_run.specs.declared.lab.LabReply.TheVariants.{Refused, Json, Line}
use Rattle.lab_run.specs.Walking.{SteppedState, at_start, GoesBackIf, MakesIf, TriesIf}

-- ---- what is loaded

-- what is told of a module that was loaded: the names of its inputs and outputs
pub record IsLoadedTold (m : Module) (d : Data) : Type 0 where
  pub inputs : ℕ
  pub offered : bits inputs ≡ offerable m.kernel.interface
  pub outputs : ℕ
  pub emitted : bits outputs ≡ emittable m.kernel.interface
  pub said : d ≡ object (member (codes "inputs") (names_json m.kernel.interface inputs)
      (member (codes "ok") (string (codes "load"))
      (member (codes "outputs") (names_json m.kernel.interface outputs) no_members)))

-- the text and the name of its main module give no module, for this reason: it is the server's
pub record IsNotLoaded (main text : List ℕ) (given : Refusal) : Type 0 where
  pub fault : ReactorRefusal
  pub told : given ≡ of_reactor fault
  pub right : IsLoadFault main text fault

-- the module that the text and the name of its main module give is loaded, and stands at its start
pub record IsLoaded (main text : List ℕ) (d : Data) (after : Option SteppedState) : Type 0 where
  pub loaded : Module
  pub is : after ≡ Some (at_start loaded)
  pub gives : Gives main text (given_by loaded)
  pub said : IsLoadedTold loaded d

-- a module is loaded; or it is told why there is none, and what was loaded stays
abbrev pub Loads : (main text : List ℕ) → (before : Option SteppedState) → LabReply → (after : Option SteppedState)
    → Type 0
Loads main text before (Refused given) after = IsNotLoaded main text given × (after ≡ before)
Loads main text before (Json v) after = IsLoaded main text (view v) after
Loads main text before (Line line) after = ⊥

-- ---- what is asked of it

-- why inputs of these names are refused: the server's refusal of the first that may not be offered
pub record IsNotOffered (interface : List Declaration) (names : List (List ℕ)) (given : Refusal) : Type 0 where
  pub fault : PendingRefusal
  pub told : given ≡ refusal.Module (of_module.Pending fault)
  pub first : FirstNotOfferable interface names fault

-- the same of what is looked at
abbrev pub IsNoScope : Module → SearchScope → (given : Refusal) → Type 0
IsNoScope m scope given = IsNotOffered m.kernel.interface (map (λ t. t.now) scope.inputs.items) given

-- what is told of a claim that can't be read: its number, and the server's refusal
pub record IsBadClaimTold (bad : BadClaim) (d : Data) : Type 0 where
  pub why : Data
  pub refused : IsValue (line_of (reply.Refused (of_reactor bad.why))) why
  pub said : d ≡ object (member (codes "claim") (number (unsigned bad.number))
      (member (codes "code") (number (unsigned 81))
      (member (codes "fault") (string (codes "Claim")) (member (codes "why") why no_members))))

-- one of the claims can't be read, and that is told of the first one
pub record IsBadClaim (interface : List Declaration) (claims : List (List ℕ)) (d : Data) : Type 0 where
  pub bad : BadClaim
  pub first : IsFirstBad interface claims bad
  pub told : IsBadClaimTold bad d

-- of the module it is answered to these claims that they are right or wrong in all runs in which only those inputs are
-- offered, or that there are too many states or reactions
pub record IsExplorationAmong (m : Module) (claims : List (List ℕ)) (allowed states steps : ℕ) (d : Data) : Type 0 where
  pub tests : List Test
  pub read : AreClaimTexts m.kernel.interface claims tests
  pub right : IsExploration (module_of m.kernel m.relations allowed) tests states steps d

-- the claims are judged, or one of them can't be read
abbrev pub TellsAmong : Module → (claims : List (List ℕ)) → (allowed states steps : ℕ) → Data → Type 0
TellsAmong m claims allowed states steps d =
    IsExplorationAmong m claims allowed states steps d ⊎ IsBadClaim m.kernel.interface claims d

-- the same, where only the inputs of these names are offered
pub record IsExplorationOf (m : Module) (claims : List (List ℕ)) (scope : SearchScope) (d : Data) : Type 0 where
  pub allowed : ℕ
  pub named : AreNamed m.kernel.interface (map (λ t. t.now) scope.inputs.items) allowed
  pub right : TellsAmong m claims allowed scope.most scope.most d

-- what is answered to claims of the module
abbrev pub TellsOfClaims : Module → (claims : List (List ℕ)) → SearchScope → LabReply → Type 0
TellsOfClaims m claims scope (Refused given) = IsNoScope m scope given
TellsOfClaims m claims scope (Json v) = IsExplorationOf m claims scope (view v)
TellsOfClaims m claims scope (Line line) = ⊥

-- the two have one interface, and it is told whether they do the same
pub record IsComparisonAmong (m other : Module) (allowed states steps : ℕ) (d : Data) : Type 0 where
  pub same : other.kernel.interface ≡ m.kernel.interface
  pub right : IsComparison (module_of m.kernel m.relations allowed) (module_of other.kernel m.relations allowed) states
      steps d

-- the other has another interface, and that is told
pub record IsOtherInterface (m other : Module) (d : Data) : Type 0 where
  pub differ : other.kernel.interface ≢ m.kernel.interface
  pub said : d ≡ object (member (codes "code") (number (unsigned 82))
      (member (codes "fault") (string (codes "Interface")) no_members))

-- the two are compared, or the other has another interface
abbrev pub TellsOfTwo : (m other : Module) → (allowed states steps : ℕ) → Data → Type 0
TellsOfTwo m other allowed states steps d = IsComparisonAmong m other allowed states steps d
    ⊎ IsOtherInterface m other d

-- the same of the module and that of a text, where only the inputs of these names are offered
pub record IsComparisonOf (m : Module) (main text : List ℕ) (scope : SearchScope) (d : Data) : Type 0 where
  pub other : Module
  pub gives : Gives main text (given_by other)
  pub allowed : ℕ
  pub named : AreNamed m.kernel.interface (map (λ t. t.now) scope.inputs.items) allowed
  pub right : TellsOfTwo m other allowed scope.most scope.most d

-- what is answered to the question whether the module and that of a text do the same
abbrev pub TellsOfBoth : Module → (main text : List ℕ) → SearchScope → LabReply → Type 0
TellsOfBoth m main text scope (Refused given) = IsNoScope m scope given ⊎ IsNotLoaded main text given
TellsOfBoth m main text scope (Json v) = IsComparisonOf m main text scope (view v)
TellsOfBoth m main text scope (Line line) = ⊥

-- the table of the module in which only those inputs are offered, or that it is too large
pub record IsTableOf (m : Module) (scope : SearchScope) (d : Data) : Type 0 where
  pub allowed : ℕ
  pub named : AreNamed m.kernel.interface (map (λ t. t.now) scope.inputs.items) allowed
  pub right : IsTableTold (module_of m.kernel m.relations allowed) d
      ⊎ IsTooLarge (module_of m.kernel m.relations allowed) scope.most scope.most d

-- what is answered to the question for the table
abbrev pub TellsOfTable : Module → SearchScope → LabReply → Type 0
TellsOfTable m scope (Refused given) = IsNoScope m scope given
TellsOfTable m scope (Json v) = IsTableOf m scope (view v)
TellsOfTable m scope (Line line) = ⊥

-- ---- what a request does

-- what is answered to the question for the statements
abbrev pub TellsOfKernel : Module → LabReply → Type 0
TellsOfKernel m (Refused given) = ⊥
TellsOfKernel m (Json v) = IsKernelTold m.kernel (view v)
TellsOfKernel m (Line line) = ⊥

-- what is told of the module that is loaded, where one is
abbrev pub TellsIf : Option SteppedState → (Module → LabReply → Type 0) → LabReply → Type 0
TellsIf None tells told = told ≡ Refused refusal.Empty
TellsIf (Some s) tells told = tells s.loaded told

-- a request is done: what is loaded before it, what is told, and what is loaded afterwards
abbrev pub Obeys : (before : Option SteppedState) → Request → LabReply → (after : Option SteppedState) → Type 0
Obeys before (Load main text) told after = Loads main.now text.now before told after
Obeys before Kernel told after = TellsIf before TellsOfKernel told × (after ≡ before)
Obeys before (Explore claims scope) told after =
    TellsIf before (λ m. TellsOfClaims m (map (λ t. t.now) claims.items) scope) told × (after ≡ before)
Obeys before (Same main text scope) told after =
    TellsIf before (λ m. TellsOfBoth m main.now text.now scope) told × (after ≡ before)
Obeys before (Table scope) told after = TellsIf before (λ m. TellsOfTable m scope) told × (after ≡ before)
Obeys before (Instant names) told after = MakesIf before (map (λ t. t.now) names.items) told after
Obeys before (Try names) told after = TriesIf before (map (λ t. t.now) names.items) told after
Obeys before (Back to) told after = GoesBackIf before to told after
