-- The refusals of a module: what each tells (this project's own table). Those of its pending inputs have their own.
use Rattle.std.specs.Prelude.{ℕ, List, [], ◌∷◌, codes}
use Rattle.refusal_rules.specs.Rows.{Row, tells, Number, Text}
use Rattle.est_relations.specs.Refusals.{row_of as pending_row}
use Rattle.reactor_core.specs.declared.refusal.LoadLimit.{LoadLimit}
use Rattle.reactor_core.specs.declared.refusal.LoadLimit.TheVariants.{Nesting, Signals, Relations, Statements, Loops}
use Rattle.reactor_core.specs.declared.refusal.LoadLimit.TheVariants.{Traps, Locals}
use Rattle.reactor_core.specs.declared.refusal.ModuleRefusal.{ModuleRefusal}
use Rattle.reactor_core.specs.declared.refusal.ModuleRefusal.TheVariants.{Pending, NoInstant, Lexical, Syntax}
use Rattle.reactor_core.specs.declared.refusal.ModuleRefusal.TheVariants.{MisnamedMain, UnknownModule, RecursiveRun}
use Rattle.reactor_core.specs.declared.refusal.ModuleRefusal.TheVariants.{UnknownName, DuplicateName, EmitInput}
use Rattle.reactor_core.specs.declared.refusal.ModuleRefusal.TheVariants.{BadRename, InstantLoop, TooLarge, Semantics}

-- the word for a limit of a module's size
abbrev pub limit_text : LoadLimit → List ℕ
limit_text Nesting = codes "nesting"
limit_text Signals = codes "signals"
limit_text Relations = codes "relations"
limit_text Statements = codes "statements"
limit_text Loops = codes "loops"
limit_text Traps = codes "traps"
limit_text Locals = codes "locals"

-- the number, the name and the fields of a refusal
abbrev pub row_of : ModuleRefusal → Row
row_of (Pending given) = pending_row given
row_of NoInstant = tells 66 (codes "NoInstant") []
row_of (Lexical place) =
    tells 70 (codes "Lexical") ((codes "column", Number place.column) ∷ (codes "line", Number place.line) ∷ [])
row_of (Syntax place) =
    tells 71 (codes "Syntax") ((codes "column", Number place.column) ∷ (codes "line", Number place.line) ∷ [])
row_of MisnamedMain = tells 72 (codes "UnknownModule") []
row_of (UnknownModule name) = tells 72 (codes "UnknownModule") ((codes "name", Text name) ∷ [])
row_of (RecursiveRun name) = tells 73 (codes "RecursiveRun") ((codes "name", Text name) ∷ [])
row_of (UnknownName name) = tells 74 (codes "UnknownName") ((codes "name", Text name) ∷ [])
row_of (DuplicateName name) = tells 75 (codes "DuplicateName") ((codes "name", Text name) ∷ [])
row_of (EmitInput name) = tells 76 (codes "EmitInput") ((codes "name", Text name) ∷ [])
row_of (BadRename name) = tells 77 (codes "BadRename") ((codes "name", Text name) ∷ [])
row_of InstantLoop = tells 78 (codes "InstantLoop") []
row_of (TooLarge limit) = tells 79 (codes "TooLarge") ((codes "limit", Text (limit_text limit)) ∷ [])
row_of (Semantics relation) = tells 80 (codes "Semantics") ((codes "relation", Number relation) ∷ [])

-- the number of a refusal
abbrev pub code_of : ModuleRefusal → ℕ
code_of given = (row_of given).code

-- the name of a refusal
abbrev pub name_of : ModuleRefusal → List ℕ
name_of given = (row_of given).name
