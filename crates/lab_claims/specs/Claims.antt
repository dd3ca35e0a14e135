-- Claims as texts: a test is read by the grammar that modules have, as that of a `present` of a module with the same
-- signals, which does nothing else (this project's own form).
use Rattle.std.specs.Prelude.{◌≡◌, ℕ, List, [], ◌∷◌, ◌++◌, Bool, true, false, not, Option, None, codes, position}
use Rattle.std.specs.List.{flat_map}
use Rattle.est_kernel.specs.Term.{nothing, present}
use Rattle.est_kernel.specs.View.{query_of}
use Rattle.est_kernel.specs.declared.interface.Declaration.{Declaration}
use Rattle.est_kernel.specs.declared.interface.Kind.{Kind}
use Rattle.est_kernel.specs.declared.interface.Kind.TheVariants.{Input, Output, InputOutput}
use Rattle.est_kernel.specs.declared.statement.Test.{Test}
use Rattle.est_text.specs.TokenLists.{TokenList}
use Rattle.est_text.specs.declared.keyword.Keyword.TheVariants.{Not, And, Or}
use Rattle.est_text.specs.declared.token.Symbol.TheVariants.{OpenParenthesis, CloseParenthesis}
use Rattle.est_text.specs.declared.token.Located.{Located}
use Rattle.est_text.specs.declared.token.Token.{Token}
use Rattle.est_text.specs.declared.token.Token.TheVariants as token
use Rattle.reactor_core.specs.Loading.{Gives, GivenModule, IsCutOf}

-- a test may have this token: a name, `not`, `and`, `or`, and parentheses
abbrev pub is_of_tests : Token → Bool
is_of_tests (token.Identifier name) = true
is_of_tests (token.Keyword Not) = true
is_of_tests (token.Keyword And) = true
is_of_tests (token.Keyword Or) = true
is_of_tests (token.Keyword _) = false
is_of_tests (token.Symbol OpenParenthesis) = true
is_of_tests (token.Symbol CloseParenthesis) = true
is_of_tests (token.Symbol _) = false

-- the number, from 0, of the first token that no test may have
abbrev pub first_other : List Located → Option ℕ
first_other located = position (λ (l : Located). not (is_of_tests l.token)) located

-- the word with which a signal of this kind is declared
abbrev pub kind_word : Kind → List ℕ
kind_word Input = codes "input "
kind_word Output = codes "output "
kind_word InputOutput = codes "inputoutput "

-- a declaration, as it is written
abbrev pub declaration_text : Declaration → List ℕ
declaration_text d = kind_word d.kind ++ (d.name ++ codes "; ")

-- a module with these signals that asks the test and does nothing else; the test begins in the second line
abbrev pub asking_text : List Declaration → (test : List ℕ) → List ℕ
asking_text interface test = codes "module M: " ++ (flat_map declaration_text interface
    ++ (codes "present [\n" ++ (test ++ codes "\n] then nothing end end module")))

-- the text has no token but those of tests
pub record HasTestTokens (text : List ℕ) : Type 0 where
  pub tokens : TokenList
  pub cut : IsCutOf text tokens
  pub only : first_other tokens.located ≡ None

-- the module asks this test and does nothing else
abbrev pub AsksOnly : GivenModule → Test → Type 0
AsksOnly given test = given.term ≡ present (query_of test) nothing nothing

-- the text has no token but those of tests, and in the brackets of a `present` it is read as this test
pub record IsTestText (interface : List Declaration) (text : List ℕ) (test : Test) : Type 0 where
  pub only : HasTestTokens text
  pub given : GivenModule
  pub gives : Gives (codes "M") (asking_text interface text) given
  pub same : given.interface ≡ interface
  pub asks : AsksOnly given test

-- the denial of a test
abbrev pub denial_text : (test : List ℕ) → List ℕ
denial_text test = codes "not (" ++ (test ++ codes "\n)")

-- the text claims that this test always holds: it is `always T`, where T is the test; or `never T`, where T is a test
-- and `not (T)` is this one
pub data IsClaimText (interface : List Declaration) : List ℕ → Test → Type 0 where
  always : (text : List ℕ) (test : Test) → IsTestText interface text test
      → IsClaimText interface (codes "always " ++ text) test
  never : (text : List ℕ) (part test : Test) → IsTestText interface text part
      → IsTestText interface (denial_text text) test → IsClaimText interface (codes "never " ++ text) test

-- the same of each text in turn
abbrev pub AreClaimTexts : List Declaration → List (List ℕ) → List Test → Type 0
AreClaimTexts interface [] [] = Unit {0}
AreClaimTexts interface (text ∷ texts) (test ∷ tests) =
    IsClaimText interface text test × AreClaimTexts interface texts tests
AreClaimTexts interface _ _ = ⊥
