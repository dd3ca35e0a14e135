-- The modules of a library, without what only spells them (this project's own form).
use Rattle.std.specs.Prelude.{ℕ, List, [], ◌∷◌, map, Bool, true, false, Option}
use Rattle.std.specs.List.{list_any, find, flat_map}
use Rattle.std.specs.Str.{bytes_eq}
use Rattle.est_syntax.specs.Tree.{NamesTree, RelationTree, ModuleTree, LibraryTree}
use Rattle.est_syntax.specs.Tree.{DeclarationTree, input, output, inputoutput, relations}
use Rattle.est_syntax.specs.Views.{declaration_view, statement_view}
use Rattle.est_modules.specs.Derived.{Derived, statement_derived}
use Rattle.est_modules.specs.Occurrences.{Occurrence, occurrences, first_of}
use Rattle.est_modules.specs.declared.library_modules.LibraryModule.{LibraryModule}
use Rattle.est_modules.specs.declared.interface.Declared.{Declared}
use Rattle.est_modules.specs.declared.interface.Kind.{Kind}
use Rattle.est_modules.specs.declared.interface.Kind.TheVariants.{Input, Output, InputOutput}
use Rattle.std.specs.Prelude.{◌&&◌}

-- a module: its name; its interface signals and its relations, each in the order of the text; its body
pub record Program : Type 0 where
  pub name : List ℕ
  pub interface : List Declared
  pub relations : List RelationTree
  pub body : Derived

-- an input alone: it may not be emitted
abbrev pub is_input_kind : Kind → Bool
is_input_kind Input = true
is_input_kind Output = false
is_input_kind InputOutput = false

-- an input or an inputoutput: it may be offered
abbrev pub is_offered_kind : Kind → Bool
is_offered_kind Input = true
is_offered_kind Output = false
is_offered_kind InputOutput = true

-- the names of one declaration, all of one kind
abbrev pub with_kind : Kind → NamesTree → List Declared
with_kind k ns = map (λ n. record { name = n; kind = k }) (ns.first ∷ ns.later)

-- the interface signals of one declaration
abbrev pub declared_by : DeclarationTree → List Declared
declared_by (input ns) = with_kind Input ns
declared_by (output ns) = with_kind Output ns
declared_by (inputoutput ns) = with_kind InputOutput ns
declared_by (relations r rs) = []

-- the interface signals of declarations (The Esterel v5 Language Primer, interface declarations)
abbrev pub interface_of : List DeclarationTree → List Declared
interface_of ds = flat_map declared_by ds

-- the relations of one declaration, each part between commas by itself
abbrev pub related_by : DeclarationTree → List RelationTree
related_by (input ns) = []
related_by (output ns) = []
related_by (inputoutput ns) = []
related_by (relations r rs) = r ∷ rs

-- the relations of declarations
abbrev pub relations_of : List DeclarationTree → List RelationTree
relations_of ds = flat_map related_by ds

-- a module of a tree
abbrev pub module_program : ModuleTree → Program
module_program m =
    record {
      name = m.name;
      interface = interface_of m.declarations;
      relations = relations_of m.declarations;
      body = statement_derived m.body;
    }

-- the modules of a library, in the order of the text
abbrev pub programs_of : LibraryTree → List Program
programs_of l = map module_program (l.first ∷ l.later)

-- what a module of the code is
abbrev pub program_of : LibraryModule → Program
program_of h =
    record {
      name = h.name;
      interface = h.interface;
      relations = relations_of (map declaration_view h.declarations.now);
      body = statement_derived (statement_view h.body.now);
    }

-- the first module of a name, if one has it
abbrev pub program_named : List Program → List ℕ → Option Program
program_named ps m = find (λ (p : Program). bytes_eq p.name m) ps

-- whether the interface has a signal of this name
abbrev pub is_declared : List Declared → List ℕ → Bool
is_declared ds s = list_any (λ (d : Declared). bytes_eq d.name s) ds

-- the first answer that a test gives at the places in the bodies of modules, in the order of the text
abbrev pub first_in_bodies : {A : Type 0} → (Program → Occurrence → Option A) → List Program → Option A
first_in_bodies f ps = first_of (λ (p : Program). first_of (f p) (occurrences [] p.body)) ps

-- the interface has an input of this name, and no inputoutput
unfoldable pub is_input : List Declared → List ℕ → Bool
is_input ds s = list_any (λ (d : Declared). bytes_eq d.name s && is_input_kind d.kind) ds

-- the interface has a signal of this name that may be offered
unfoldable pub is_offerable : List Declared → List ℕ → Bool
is_offerable ds s = list_any (λ (d : Declared). bytes_eq d.name s && is_offered_kind d.kind) ds
