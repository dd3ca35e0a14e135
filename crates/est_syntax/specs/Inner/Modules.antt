-- What was read of modules (this project's own form).
use Rattle.std.specs.Prelude.{◌≡◌, ◌≤◌, length, List, [], ◌∷◌}
use Rattle.est_text.specs.declared.token.Token.{Token}
use Rattle.est_text.specs.declared.token.Token.TheVariants.{Keyword}
use Rattle.est_text.specs.declared.keyword.Keyword.TheVariants as keyword
use Rattle.est_syntax.specs.declared.fault.ParserStop.{ParserStop}
use Rattle.est_syntax.specs.declared.fault.ParserStop.TheVariants.{Syntax, TooDeep, Memory}
use Rattle.est_syntax.specs.Tree.{ModuleTree, LibraryTree}
use Rattle.est_syntax.specs.Grammar.{statement_depth, module_onto, modules_onto, modules_depth, spelling, library_depth}
use Rattle.est_syntax.specs.Inner.Machine.{Want, run, wrong, deep, module_wants, modules}
use Rattle.est_syntax.specs.declared.parse.TheConstants.{MOST_OPEN_UNITS}

-- the tokens stop where these wants are all; n tokens are left there
abbrev pub Stops : List Want → List Token → ParserStop → Type 0
Stops ws bs (Syntax n) = (rest : List Token) × (n ≡ length rest) × (run MOST_OPEN_UNITS ws bs ≡ wrong rest)
Stops ws bs (TooDeep n) = (rest : List Token) × (n ≡ length rest) × (run MOST_OPEN_UNITS ws bs ≡ deep rest)
Stops ws bs Memory = Unit {0}

-- a module was read, after its first word
pub record IsModule (p : ModuleTree) (old new : List Token) : Type 0 where
  pub spelt : Keyword keyword.Module ∷ old ≡ module_onto p new
  pub fits : statement_depth p.body ≤ MOST_OPEN_UNITS
  pub passes : run MOST_OPEN_UNITS (module_wants []) old ≡ run MOST_OPEN_UNITS (modules ∷ []) new
  pub shorter : length new ≤ length old

-- these modules were read, and more may stand there
pub record AreModules (ps : List ModuleTree) (old new : List Token) : Type 0 where
  pub spelt : old ≡ modules_onto ps new
  pub fits : modules_depth ps ≤ MOST_OPEN_UNITS
  pub passes : run MOST_OPEN_UNITS (modules ∷ []) old ≡ run MOST_OPEN_UNITS (modules ∷ []) new
  pub shorter : length new ≤ length old

-- these modules were read, and no more stand there
pub record AreAllModules (ps : List ModuleTree) (old new : List Token) : Type 0 where
  pub spelt : old ≡ modules_onto ps new
  pub fits : modules_depth ps ≤ MOST_OPEN_UNITS
  pub passes : run MOST_OPEN_UNITS (modules ∷ []) old ≡ run MOST_OPEN_UNITS [] new

-- a whole library was read
pub record IsLibrary (l : LibraryTree) (tokens : List Token) : Type 0 where
  pub spelt : tokens ≡ spelling l
  pub fits : library_depth l ≤ MOST_OPEN_UNITS
