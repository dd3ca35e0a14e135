-- Modules from their parts: what the functions of the parser answer.
use Rattle.std.proofs.Common.{◌≡◌, ◌∙◌, ℕ, ◌-◌, ◌≤◌, List, [], ◌∷◌, ◌++◌, Bool, true, length, refl, sym, ap, subst}
use Rattle.std.proofs.Common.{arith}
use Rattle.std.specs.Prelude.{Option, Some}
use Rattle.std.proofs.lemmas.List.{length-append, length-map}
use Rattle.est_text.specs.declared.token.Token.{Token}
use Rattle.est_text.specs.declared.token.Located.{Located}
use Rattle.est_text.specs.declared.token.Token.TheVariants.{Keyword, Identifier, Symbol}
use Rattle.est_text.specs.declared.keyword.Keyword.TheVariants as keyword
use Rattle.est_text.specs.declared.token.Symbol.TheVariants as symbol
use Rattle.est_syntax.specs.declared.fault.ParserStop.{ParserStop}
use Rattle.est_syntax.specs.declared.fault.ParserStop.TheVariants.{Syntax, TooDeep, Memory}
use Rattle.est_syntax.specs.Tree.{DeclarationTree, StatementTree, ModuleTree, LibraryTree}
use Rattle.est_syntax.specs.Grammar as g
use Rattle.est_syntax.specs.Inner.Machine as m
use Rattle.est_syntax.specs.Inner.Machine.{Want, run, Skips, right, wrong, deep}
use Rattle.est_syntax.specs.Inner.Parsing.{Fails, FailsIn, Round, Reads, IsPart}
use Rattle.est_syntax.specs.declared.parse.TheConstants.{MOST_OPEN_UNITS}
use Rattle.est_syntax.specs.Inner.Modules.{Stops, IsModule, AreModules, AreAllModules}
use Rattle.est_syntax.proofs.Reading.{modules_push}
use Rattle.est_syntax.proofs.TestRuns.{either}
use Rattle.est_syntax.proofs.Runs.{run_library}
use Rattle.est_syntax.proofs.Stops.{run_wrong, run_deep, syntax_fault, too_deep}
use Rattle.est_syntax.specs.Faults.{IsSyntaxFault, IsTooDeep}

-- ---- what is wanted leads to something else that fails

pub stops_from : (ws vs s : List Want) (bs after : List Token) (e : ParserStop)
    → run MOST_OPEN_UNITS ws bs ≡ run MOST_OPEN_UNITS (vs ++ s) after → Fails vs after e → Stops ws bs e
stops_from ws vs s bs after (Syntax n) h k = (k.0, k.1, h ∙ k.2 s)
stops_from ws vs s bs after (TooDeep n) h k = (k.0, k.1, h ∙ k.2 s)
stops_from ws vs s bs after Memory h k = tt

pub stops_in : (room : ℕ) (ends : Option Bool) (ws vs s : List Want) (bs after : List Token) (e : ParserStop)
    → Round room ends s → run MOST_OPEN_UNITS ws bs ≡ run MOST_OPEN_UNITS (vs ++ s) after
    → FailsIn room ends vs after e → Stops ws bs e
stops_in room ends ws vs s bs after (Syntax n) r h k = (k.0, k.1, h ∙ k.2 s r)
stops_in room ends ws vs s bs after (TooDeep n) r h k = (k.0, k.1, h ∙ k.2 s r)
stops_in room ends ws vs s bs after Memory r h k = tt

pub stops_stops : (ws vs : List Want) (bs after : List Token) (e : ParserStop)
    → run MOST_OPEN_UNITS ws bs ≡ run MOST_OPEN_UNITS vs after → Stops vs after e → Stops ws bs e
stops_stops ws vs bs after (Syntax n) h k = (k.0, k.1, h ∙ k.2)
stops_stops ws vs bs after (TooDeep n) h k = (k.0, k.1, h ∙ k.2)
stops_stops ws vs bs after Memory h k = tt

-- ---- a module

abbrev pub wants : List Want
wants = m.module_wants []

abbrev pub behind : List Want
behind = m.one m.kw_end ∷ m.one (Keyword keyword.Module) ∷ m.modules ∷ []

pub round_module : Round MOST_OPEN_UNITS (Some true) behind
round_module = record { fits = refl; closing = (m.one (Keyword keyword.Module) ∷ m.modules ∷ [], refl, λ b. refl) }

-- a module up to its declarations
pub record IsHeading (n : List ℕ) (old new : List Token) : Type 0 where
  pub spelt : old ≡ Identifier n ∷ Symbol symbol.Colon ∷ new
  pub passes : run MOST_OPEN_UNITS wants old ≡ run MOST_OPEN_UNITS (m.declarations ∷ m.statement ∷ behind) new

pub heading : (n : List ℕ) (old mid new : List Token) → old ≡ Identifier n ∷ mid → mid ≡ Symbol symbol.Colon ∷ new
    → IsHeading n old new
heading n old mid new e f =
    let start : old ≡ Identifier n ∷ Symbol symbol.Colon ∷ new = e ∙ ap (λ (l : List Token). Identifier n ∷ l) f in
    record { spelt = start; passes = ap (run MOST_OPEN_UNITS wants) start }

-- up to its body
pub record IsHeaded (n : List ℕ) (ds : List DeclarationTree) (old new : List Token) : Type 0 where
  pub spelt : old ≡ Identifier n ∷ Symbol symbol.Colon ∷ g.declarations_onto ds new
  pub passes : run MOST_OPEN_UNITS wants old ≡ run MOST_OPEN_UNITS (m.statement ∷ behind) new
  pub shorter : length new ≤ length old

pub headed : (n : List ℕ) (ds : List DeclarationTree) (old mid new : List Token) → IsHeading n old mid
    → mid ≡ g.declarations_onto ds new → Reads (m.declarations ∷ []) mid new → IsHeaded n ds old new
headed n ds old mid new h e r = record {
  spelt = h.spelt ∙ ap (λ (l : List Token). Identifier n ∷ Symbol symbol.Colon ∷ l) e;
  passes = h.passes ∙ r.passes (m.statement ∷ behind);
  shorter = omega (arith, ap (length {A = Token}) h.spelt, r.shorter);
}

-- up to its end
pub record IsBodied (n : List ℕ) (ds : List DeclarationTree) (t : StatementTree) (old new : List Token) : Type 0 where
  pub spelt : old ≡ Identifier n ∷ Symbol symbol.Colon ∷ g.declarations_onto ds (g.statement_onto t new)
  pub fits : g.statement_depth t ≤ MOST_OPEN_UNITS
  pub passes : run MOST_OPEN_UNITS wants old ≡ run MOST_OPEN_UNITS behind new
  pub shorter : length new ≤ length old

pub bodied : (n : List ℕ) (ds : List DeclarationTree) (t : StatementTree) (old mid new : List Token)
    → IsHeaded n ds old mid → IsPart MOST_OPEN_UNITS (Some true) (m.statement ∷ []) (g.statement_onto t new)
    (g.statement_depth t) mid new → IsBodied n ds t old new
bodied n ds t old mid new h p = record {
  spelt = h.spelt ∙ ap (λ (l : List Token). Identifier n ∷ Symbol symbol.Colon ∷ g.declarations_onto ds l) p.spelt;
  fits = p.fits;
  passes = h.passes ∙ p.passes behind round_module;
  shorter = omega (arith, h.shorter, p.shorter);
}

pub module_part : (n : List ℕ) (ds : List DeclarationTree) (t : StatementTree) (old mid last new : List Token)
    → IsBodied n ds t old mid → mid ≡ m.kw_end ∷ last → last ≡ Keyword keyword.Module ∷ new
    → IsModule (record { name = n; declarations = ds; body = t }) old new
module_part n ds t old mid last new h e f =
    let end : mid ≡ m.kw_end ∷ Keyword keyword.Module ∷ new = e ∙ ap (λ (l : List Token). m.kw_end ∷ l) f in
    record {
      spelt = ap (λ (l : List Token). Keyword keyword.Module ∷ l)
          (h.spelt ∙ ap (λ (l : List Token). Identifier n ∷ Symbol symbol.Colon
          ∷ g.declarations_onto ds (g.statement_onto t l)) end);
      fits = h.fits;
      passes = h.passes ∙ ap (run MOST_OPEN_UNITS behind) end;
      shorter = omega (arith, h.shorter, ap (length {A = Token}) end);
    }

-- ---- modules

pub no_modules_yet : (ps : List ModuleTree) (old : List Token) → ps ≡ [] → AreModules ps old old
no_modules_yet ps old e = subst (λ (qs : List ModuleTree). AreModules qs old old) (sym e)
    (record { spelt = refl; fits = omega arith; passes = refl; shorter = omega arith })

modules_deeper : (ps : List ModuleTree) (p : ModuleTree) (room : ℕ) → g.modules_depth ps ≤ room
    → g.statement_depth p.body ≤ room → g.modules_depth (ps ++ p ∷ []) ≤ room
modules_deeper [] p room h k = omega (arith, h, k)
modules_deeper (q ∷ ps) p room h k = let d = modules_deeper ps p room (omega (arith, h)) k in omega (arith, d, h)

pub one_more_module : (ps : List ModuleTree) (p : ModuleTree) (old left mid new : List Token)
    → AreModules ps old left → left ≡ Keyword keyword.Module ∷ mid → IsModule p mid new
    → AreModules (ps ++ p ∷ []) old new
one_more_module ps p old left mid new h e k = record {
  spelt = h.spelt ∙ ap (g.modules_onto ps) (e ∙ k.spelt) ∙ sym (modules_push ps p new);
  fits = modules_deeper ps p MOST_OPEN_UNITS h.fits k.fits;
  passes = h.passes ∙ ap (run MOST_OPEN_UNITS (m.modules ∷ [])) e ∙ k.passes;
  shorter = omega (arith, h.shorter, ap (length {A = Token}) e, k.shorter);
}

pub more_modules_fail : (ps : List ModuleTree) (old left mid : List Token) (e : ParserStop) → AreModules ps old left
    → left ≡ Keyword keyword.Module ∷ mid → Stops wants mid e → Stops (m.modules ∷ []) old e
more_modules_fail ps old left mid e h f k =
    stops_stops (m.modules ∷ []) wants old mid e (h.passes ∙ ap (run MOST_OPEN_UNITS (m.modules ∷ [])) f) k

no_module : (s : List Want) (bs : List Token) → Skips (Keyword keyword.Module) bs
    → run MOST_OPEN_UNITS (m.modules ∷ s) bs ≡ run MOST_OPEN_UNITS s bs
no_module s [] h = refl
no_module s (b ∷ bs) h = ap (either MOST_OPEN_UNITS b bs (m.to (m.module_wants s)) (m.step s b)) h

pub modules_over : (ps : List ModuleTree) (old left new : List Token) → AreModules ps old left → new ≡ left
    → Skips (Keyword keyword.Module) left → AreAllModules ps old new
modules_over ps old left new h e k = record {
  spelt = h.spelt ∙ ap (g.modules_onto ps) (sym e);
  fits = h.fits;
  passes = h.passes ∙ no_module [] left k ∙ ap (run MOST_OPEN_UNITS []) (sym e);
}

-- ---- a library

abbrev pub start : List Want
start = m.library ∷ []

pub library_is : (bs : List Token) → run MOST_OPEN_UNITS start bs ≡ run MOST_OPEN_UNITS
    (m.one (Keyword keyword.Module) ∷ wants) bs
library_is [] = refl
library_is (b ∷ bs) = refl

pub library_goes : (old mid : List Token) → old ≡ Keyword keyword.Module ∷ mid
    → run MOST_OPEN_UNITS start old ≡ run MOST_OPEN_UNITS wants mid
library_goes old mid e = ap (run MOST_OPEN_UNITS start) e

pub library_more : (p : ModuleTree) (old mid last : List Token) → old ≡ Keyword keyword.Module ∷ mid
    → IsModule p mid last → run MOST_OPEN_UNITS start old ≡ run MOST_OPEN_UNITS (m.modules ∷ []) last
library_more p old mid last e h = library_goes old mid e ∙ h.passes

nothing_more : (bs : List Token) → ¬ (length bs ≡ 0) → run MOST_OPEN_UNITS [] bs ≡ wrong bs
nothing_more [] h = absurd (h refl)
nothing_more (b ∷ bs) h = refl

pub library_left : (p : ModuleTree) (ps : List ModuleTree) (left : ℕ) (old mid last new : List Token)
    → old ≡ Keyword keyword.Module ∷ mid → IsModule p mid last → AreAllModules ps last new → left ≡ length new
    → ¬ (left ≡ 0) → run MOST_OPEN_UNITS start old ≡ wrong new
library_left p ps left old mid last new e h k l n = library_more p old mid last e h ∙ k.passes
    ∙ nothing_more new (λ z. n (l ∙ z))

none_left : (bs : List Token) → length bs ≡ 0 → bs ≡ []
none_left [] h = refl
none_left (b ∷ bs) h = cc

-- ---- where a run stops, no more tokens are left than there were

pub wrong_within : (bs rest : List Token) → run MOST_OPEN_UNITS start bs ≡ wrong rest → length rest ≤ length bs
wrong_within bs rest h =
    let p = run_wrong MOST_OPEN_UNITS start bs rest (omega arith) h in
    omega (arith, ap (length {A = Token}) p.whole, length-append p.seen rest)

pub deep_within : (bs rest : List Token) → run MOST_OPEN_UNITS start bs ≡ deep rest → length rest ≤ length bs
deep_within bs rest h =
    let p = run_deep MOST_OPEN_UNITS start bs rest (omega arith) h in
    omega (arith, ap (length {A = Token}) p.whole, length-append p.seen rest)

-- ---- the token of a fault, by its number

bare_length : (located : List Located) → length (g.tokens_of located) ≡ length located
bare_length located = length-map located (λ (l : Located). l.token)

pub wrong_in : (located : List Located) (left : ℕ) → Stops start (g.tokens_of located) (Syntax left)
    → left ≤ length located
wrong_in located left h = omega (arith, h.1, wrong_within (g.tokens_of located) h.0 h.2, bare_length located)

pub deep_in : (located : List Located) (left : ℕ) → Stops start (g.tokens_of located) (TooDeep left)
    → left ≤ length located
deep_in located left h = omega (arith, h.1, deep_within (g.tokens_of located) h.0 h.2, bare_length located)

pub wrong_at : (located : List Located) (left : ℕ) → Stops start (g.tokens_of located) (Syntax left)
    → IsSyntaxFault MOST_OPEN_UNITS (g.tokens_of located) (length located - left)
wrong_at located left h = syntax_fault MOST_OPEN_UNITS (g.tokens_of located) h.0 (length located - left)
    (omega (arith, h.1, wrong_in located left h, bare_length located)) h.2

pub deep_at : (located : List Located) (left : ℕ) → Stops start (g.tokens_of located) (TooDeep left)
    → IsTooDeep MOST_OPEN_UNITS (g.tokens_of located) (length located - left)
deep_at located left h = too_deep MOST_OPEN_UNITS (g.tokens_of located) h.0 (length located - left)
    (omega (arith, h.1, deep_in located left h, bare_length located)) h.2

-- what spells a library that fits stops nowhere
pub never_wrong : (located : List Located) (left : ℕ) (l : LibraryTree)
    → Stops start (g.tokens_of located) (Syntax left) → g.tokens_of located ≡ g.spelling l
    → g.library_depth l ≤ MOST_OPEN_UNITS → ⊥
never_wrong located left l h e r =
    let taken : run MOST_OPEN_UNITS start (g.tokens_of located) ≡ right =
    ap (run MOST_OPEN_UNITS start) e ∙ run_library MOST_OPEN_UNITS l r in
    let stopped : run MOST_OPEN_UNITS start (g.tokens_of located) ≡ wrong h.0 = h.2 in
    cc

pub never_deep : (located : List Located) (left : ℕ) (l : LibraryTree)
    → Stops start (g.tokens_of located) (TooDeep left) → g.tokens_of located ≡ g.spelling l
    → g.library_depth l ≤ MOST_OPEN_UNITS → ⊥
never_deep located left l h e r =
    let taken : run MOST_OPEN_UNITS start (g.tokens_of located) ≡ right =
    ap (run MOST_OPEN_UNITS start) e ∙ run_library MOST_OPEN_UNITS l r in
    let stopped : run MOST_OPEN_UNITS start (g.tokens_of located) ≡ deep h.0 = h.2 in
    cc
