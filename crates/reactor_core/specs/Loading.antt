-- What a load reads: the module that a text and the name of its main module give, or the first fault of the stages of a
-- load, which are cutting, the grammar, linking and reduction (this project's own form).
use Rattle.std.specs.Prelude.{◌≡◌, ◌≤◌, ℕ, List, Some, None}
use Rattle.est_kernel.specs.Limits.{limit_passed}
use Rattle.est_kernel.specs.StartCodes.{IsLoopSafe}
use Rattle.est_kernel.specs.Term.{Term}
use Rattle.est_kernel.specs.declared.interface.Declaration.{Declaration}
use Rattle.est_checks.specs.FirstFaults.{IsFirstFault}
use Rattle.est_link.specs.FlatModules.{FlatModule, IsFlatOf}
use Rattle.est_modules.specs.Modules.{programs_of}
use Rattle.est_checks.specs.declared.fault.LinkFault.{LinkFault}
use Rattle.est_reduce.specs.Reducing.{IsFaultOf}
use Rattle.est_reduce.specs.Reductions.{kernel_term}
use Rattle.est_reduce.specs.declared.fault.ReduceFault.{ReduceFault}
use Rattle.est_relations.specs.declared.relations.Relation.{Relation}
use Rattle.est_syntax.specs.Grammar.{tokens_of, spelling, library_depth}
use Rattle.est_syntax.specs.ParseFaults.{IsParseFault}
use Rattle.est_syntax.specs.Tree.{LibraryTree}
use Rattle.est_syntax.specs.declared.parse.ParseFault.{ParseFault}
use Rattle.est_syntax.specs.declared.parse.TheConstants.{MOST_OPEN_UNITS}
use Rattle.est_text.specs.Lexing.{IsLexFault}
use Rattle.est_text.specs.Pieces.{AreTokens}
use Rattle.est_text.specs.TokenLists.{TokenList}
use Rattle.est_text.specs.declared.lex.LexFault.{LexFault}
use Rattle.reactor_core.specs.Faults.{refusal_of_lex, refusal_of_parse, refusal_of_link, refusal_of_reduce}
use Rattle.reactor_core.specs.declared.refusal.ReactorRefusal.{ReactorRefusal}

-- these are the text and the tokens that it is cut into
pub record IsCutOf (text : List ℕ) (tokens : TokenList) : Type 0 where
  pub source : tokens.source ≡ text
  pub cut : AreTokens text tokens.located

-- the text spells this library, which opens no unit too many
pub record Spells (text : List ℕ) (library : LibraryTree) : Type 0 where
  pub tokens : TokenList
  pub cut : IsCutOf text tokens
  pub spelt : tokens_of tokens.located ≡ spelling library
  pub shallow : library_depth library ≤ MOST_OPEN_UNITS

-- no check of the library with this main module has a fault
unfoldable pub HasNoFault : LibraryTree → (main : List ℕ) → Type 0
HasNoFault library main = IsFirstFault (programs_of library) main None

-- the text spells a library in which linking finds no fault, and this is its flat main module
pub record LinksTo (main text : List ℕ) (flat : FlatModule) : Type 0 where
  pub library : LibraryTree
  pub spells : Spells text library
  pub sound : HasNoFault library main
  pub is : IsFlatOf (programs_of library) main flat

-- a module that runs: its interface and its relations, each in the order of the text, and its kernel term
pub record GivenModule : Type 0 where
  pub interface : List Declaration
  pub relations : List Relation
  pub term : Term

-- the text and the name of its main module give this module: it links to the main module's interface and relations, the
-- main module's kernel term by the table of reductions is within the limits, and each of its loops takes time
pub record Gives (main text : List ℕ) (m : GivenModule) : Type 0 where
  pub flat : FlatModule
  pub links : LinksTo main text flat
  pub declares : m.interface ≡ flat.interface
  pub relates : m.relations ≡ flat.relations
  pub begins : m.term ≡ kernel_term flat.body
  pub within_limits : limit_passed m.term ≡ None
  pub loop_safe : IsLoopSafe m.term

-- why a text gives no module of this name: the first stage that has a fault has this one. Each stage asks what those
-- before it make of the text, so no two of them have one; want of memory is that of any stage.
pub data IsLoadFault (main text : List ℕ) : ReactorRefusal → Type 0 where
  in_cutting : (fault : LexFault) → IsLexFault text fault → IsLoadFault main text (refusal_of_lex fault)
  in_grammar : (tokens : TokenList) → IsCutOf text tokens
      → (fault : ParseFault) → IsParseFault MOST_OPEN_UNITS tokens fault
      → IsLoadFault main text (refusal_of_parse fault)
  in_linking : (library : LibraryTree) → Spells text library
      → (fault : LinkFault) → IsFirstFault (programs_of library) main (Some fault)
      → IsLoadFault main text (refusal_of_link fault)
  in_reduction : (flat : FlatModule) → LinksTo main text flat
      → (fault : ReduceFault) → IsFaultOf flat.body fault → IsLoadFault main text (refusal_of_reduce fault)
