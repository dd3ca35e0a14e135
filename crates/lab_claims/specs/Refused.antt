-- Why a text is no test, or no claim (this project's own form).
use Rattle.std.specs.Prelude.{◌≡◌, ◌≢◌, ◌+◌, ◌-◌, ◌^◌, ◌==◌, min, ℕ, List, ◌∷◌, ◌++◌, Some, codes, length}
use Rattle.std.specs.Prelude.{if◌then◌else◌}
use Rattle.est_kernel.specs.declared.interface.Declaration.{Declaration}
use Rattle.est_kernel.specs.declared.statement.Test.{Test}
use Rattle.est_text.specs.Lexing.{IsLexFault}
use Rattle.est_text.specs.TokenLists.{TokenList, place_of}
use Rattle.est_text.specs.declared.lex.LexFault.{LexFault}
use Rattle.est_text.specs.declared.place.Place.{Place}
use Rattle.reactor_core.specs.Faults.{refusal_of_lex}
use Rattle.reactor_core.specs.Loading.{Gives, GivenModule, IsCutOf, IsLoadFault}
use Rattle.reactor_core.specs.declared.refusal.ModuleRefusal.TheVariants.{Lexical, Syntax}
use Rattle.reactor_core.specs.declared.refusal.ReactorRefusal.{ReactorRefusal}
use Rattle.reactor_core.specs.declared.refusal.ReactorRefusal.TheVariants.{Module, Memory}
use Rattle.lab_claims.specs.Claims.{AreClaimTexts, AsksOnly, HasTestTokens, IsTestText}
use Rattle.lab_claims.specs.Claims.{asking_text, denial_text, first_other}
use Rattle.lab_claims.specs.declared.claims.BadClaim.{BadClaim}

-- a fault of the grammar where a text begins
abbrev pub at_start : ReactorRefusal
at_start = Module (Syntax (record { line = 1; column = 1 }))

-- the refusal of a test, of that of the module that asks it, where the test begins in the second line
abbrev pub refusal_of_test : ReactorRefusal → ReactorRefusal
refusal_of_test (Module (Syntax place)) = Module (Syntax (record { line = place.line - 1; column = place.column }))
refusal_of_test refusal = refusal

-- why the text has not only tokens of tests: it can't be cut, or the first other token stands there
pub data HasNoTestTokens (text : List ℕ) (refusal : ReactorRefusal) : Type 0 where
  no_tokens : (fault : LexFault) → IsLexFault text fault → refusal ≡ refusal_of_lex fault
      → HasNoTestTokens text refusal
  other_token : (tokens : TokenList) → IsCutOf text tokens → (at : ℕ) → first_other tokens.located ≡ Some at
      → refusal ≡ Module (Syntax (place_of tokens at)) → HasNoTestTokens text refusal

-- why a text that asks a test gives no module
pub record IsAskingFault (text : List ℕ) (refusal : ReactorRefusal) : Type 0 where
  pub of_module : ReactorRefusal
  pub fault : IsLoadFault (codes "M") text of_module
  pub told : refusal ≡ refusal_of_test of_module

-- why the text is no test over these signals
pub data IsTestFault (interface : List Declaration) (text : List ℕ) (refusal : ReactorRefusal) : Type 0 where
  other_tokens : HasNoTestTokens text refusal → IsTestFault interface text refusal
  no_module : HasTestTokens text → IsAskingFault (asking_text interface text) refusal
      → IsTestFault interface text refusal
  other_signals : HasTestTokens text → (given : GivenModule) → Gives (codes "M") (asking_text interface text) given
      → given.interface ≢ interface → refusal ≡ at_start → IsTestFault interface text refusal
  more_than_asked : HasTestTokens text → (given : GivenModule) → Gives (codes "M") (asking_text interface text) given
      → ((test : Test) → AsksOnly given test → ⊥) → refusal ≡ at_start → IsTestFault interface text refusal
  no_memory : refusal ≡ Memory → IsTestFault interface text refusal

-- the place in a claim, of that in its test, before which so many bytes stand
abbrev pub moved : Place → (before : ℕ) → Place
moved place before = record {
  line = place.line;
  column = if place.line == 1 then min (place.column + before) (2 ^ 64 - 1) else place.column;
}

-- the refusal of a claim, of that of its test
abbrev pub refusal_of_claim : ReactorRefusal → (before : ℕ) → ReactorRefusal
refusal_of_claim (Module (Lexical place)) before = Module (Lexical (moved place before))
refusal_of_claim (Module (Syntax place)) before = Module (Syntax (moved place before))
refusal_of_claim refusal before = refusal

-- why what follows the word of a claim, of so many bytes, is no test
pub record IsPartFault (interface : List Declaration) (text : List ℕ) (before : ℕ) (refusal : ReactorRefusal) : Type
    0 where
  pub of_test : ReactorRefusal
  pub fault : IsTestFault interface text of_test
  pub told : refusal ≡ refusal_of_claim of_test before

-- why the text is no claim: it begins with no word of a claim; or what follows the word is no test; or what follows
-- `never ` is one, and its denial is none
pub data IsClaimFault (interface : List Declaration) (claim : List ℕ) (refusal : ReactorRefusal) : Type 0 where
  other_word : ((text : List ℕ) → claim ≢ codes "always " ++ text) → ((text : List ℕ) → claim ≢ codes "never " ++ text)
      → refusal ≡ at_start → IsClaimFault interface claim refusal
  in_always : (text : List ℕ) → claim ≡ codes "always " ++ text → IsPartFault interface text 7 refusal
      → IsClaimFault interface claim refusal
  in_never : (text : List ℕ) → claim ≡ codes "never " ++ text → IsPartFault interface text 6 refusal
      → IsClaimFault interface claim refusal
  in_denial : (text : List ℕ) (part : Test) → claim ≡ codes "never " ++ text → IsTestText interface text part
      → IsTestFault interface (denial_text text) refusal → IsClaimFault interface claim refusal
  no_memory_left : refusal ≡ Memory → IsClaimFault interface claim refusal

-- the first of the claims that is none, and why
pub record IsFirstBad (interface : List Declaration) (claims : List (List ℕ)) (bad : BadClaim) : Type 0 where
  pub earlier : List (List ℕ)
  pub claim : List ℕ
  pub later : List (List ℕ)
  pub cut : claims ≡ earlier ++ claim ∷ later
  pub tests : List Test
  pub read : AreClaimTexts interface earlier tests
  pub number : bad.number ≡ length earlier + 1
  pub fault : IsClaimFault interface claim bad.why
