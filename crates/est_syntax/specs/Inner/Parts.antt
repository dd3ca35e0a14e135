-- Parts of a statement that the parser has read, and what is wanted at the ends of units (this
-- project's own form).
use Rattle.std.specs.Prelude.{◌≡◌, List, [], ◌∷◌, ◌++◌, Bool, Some, None, ℕ, map}
use Rattle.est_text.specs.declared.token.Token.{Token}
use Rattle.est_text.specs.declared.token.Token.TheVariants.{Keyword, Symbol}
use Rattle.est_text.specs.declared.keyword.Keyword.{Keyword as KeywordValue}
use Rattle.est_text.specs.declared.keyword.Keyword.TheVariants as keyword
use Rattle.est_text.specs.declared.token.Symbol.TheVariants as symbol
use Rattle.est_syntax.specs.Grammar.{literal_onto, literal_depth, literals_onto, literals_depth, conjunction_onto}
use Rattle.est_syntax.specs.Grammar.{conjunction_depth, conjunctions_onto, conjunctions_depth, expression_onto}
use Rattle.est_syntax.specs.Grammar.{expression_depth, test_onto, test_depth, token_if, end_if, delay_onto, delay_depth}
use Rattle.est_syntax.specs.Grammar.{unit_onto, unit_depth, branches_onto, branches_depth, units_onto, units_depth}
use Rattle.est_syntax.specs.Grammar.{sequence_onto, sequence_depth, sequences_onto, sequences_depth, statement_onto}
use Rattle.est_syntax.specs.Grammar.{statement_depth}
use Rattle.est_syntax.specs.Inner.Machine.{Want, run, one, may, may_end, name, kw_end, test, expression}
use Rattle.est_syntax.specs.Inner.Machine.{expression_tail, conjunction, conjunction_tail, literal, unit, branches}
use Rattle.est_syntax.specs.Inner.Machine.{sequence, sequence_tail, statement, statement_tail}
use Rattle.est_syntax.specs.Inner.Parsing.{IsPart}
use Rattle.est_syntax.specs.Views.{literal_view, literals_of, conjunction_view, conjunctions_of, expression_view}
use Rattle.est_syntax.specs.Views.{test_view, unit_view, branches_view, sequence_view, statement_view, units_of}
use Rattle.est_syntax.specs.Views.{sequences_of, delay_view}
use Rattle.est_syntax.specs.declared.parse.TheConstants.{MOST_OPEN_UNITS}
use Rattle.est_syntax.specs.declared.tree.Branches.{Branches}
use Rattle.est_syntax.specs.declared.tree.Conjunction.{Conjunction}
use Rattle.est_syntax.specs.declared.tree.Delay.{Delay}
use Rattle.est_syntax.specs.declared.tree.Expression.{Expression}
use Rattle.est_syntax.specs.declared.tree.Literal.{Literal}
use Rattle.est_syntax.specs.declared.tree.Test.{Test}
use Rattle.est_syntax.specs.declared.tree.Sequence.{Sequence}
use Rattle.est_syntax.specs.declared.tree.Statement.{Statement}
use Rattle.est_syntax.specs.declared.tree.Unit.{Unit as UnitValue}

-- a literal was read
abbrev pub IsLiteral : (room : ℕ) → Literal → (old new : List Token) → Type 0
IsLiteral room l old new =
    IsPart room None (literal ∷ []) (literal_onto (literal_view l) new) (literal_depth (literal_view l)) old new

-- the further literals of a conjunction were read
abbrev pub AreLaterLiterals : (room : ℕ) → List Literal → (old new : List Token) → Type 0
AreLaterLiterals room ls old new = IsPart room None (conjunction_tail ∷ [])
    (literals_onto (literals_of (map literal_view ls)) new) (literals_depth (literals_of (map literal_view ls))) old new

-- literals with `and` between them were read
abbrev pub IsConjunction : (room : ℕ) → Conjunction → (old new : List Token) → Type 0
IsConjunction room c old new = IsPart room None (conjunction ∷ [])
    (conjunction_onto (conjunction_view c) new) (conjunction_depth (conjunction_view c)) old new

-- the further conjunctions of an expression were read
abbrev pub AreLaterConjunctions : (room : ℕ) → List Conjunction → (old new : List Token) → Type 0
AreLaterConjunctions room cs old new = IsPart room None (expression_tail ∷ [])
    (conjunctions_onto (conjunctions_of (map conjunction_view cs)) new)
    (conjunctions_depth (conjunctions_of (map conjunction_view cs))) old new

-- an expression was read
abbrev pub IsExpression : (room : ℕ) → Expression → (old new : List Token) → Type 0
IsExpression room e old new = IsPart room None (expression ∷ [])
    (expression_onto (expression_view e) new) (expression_depth (expression_view e)) old new

-- a test was read
abbrev pub IsTest : (room : ℕ) → Test → (old new : List Token) → Type 0
IsTest room t old new = IsPart room None (test ∷ []) (test_onto (test_view t) new) (test_depth (test_view t)) old new

-- a unit was read
abbrev pub IsUnit : (room : ℕ) → (ends : Bool) → UnitValue → (old new : List Token) → Type 0
IsUnit room ends u old new =
    IsPart room (Some ends) (unit ∷ []) (unit_onto (unit_view u) new) (unit_depth (unit_view u)) old new

-- the branches of a `present` were read, and its end
abbrev pub IsBranches : (room : ℕ) → Branches → (old new : List Token) → Type 0
IsBranches room b old new =
    IsPart room None (branches ∷ []) (branches_onto (branches_view b) new) (branches_depth (branches_view b)) old new

-- the further units of a sequence were read, and the `;` that may close them
abbrev pub AreLaterUnits : (room : ℕ) → (ends : Bool) → List UnitValue → Bool → (old new : List Token) → Type 0
AreLaterUnits room ends us closed old new = IsPart room (Some ends) (sequence_tail ∷ [])
    (units_onto (units_of (map unit_view us)) (token_if closed (Symbol symbol.Semicolon) new))
    (units_depth (units_of (map unit_view us))) old new

-- a sequence was read
abbrev pub IsSequence : (room : ℕ) → (ends : Bool) → Sequence → (old new : List Token) → Type 0
IsSequence room ends q old new = IsPart room (Some ends) (sequence ∷ [])
    (sequence_onto (sequence_view q) new) (sequence_depth (sequence_view q)) old new

-- the further sequences of a statement were read
abbrev pub AreLaterSequences : (room : ℕ) → (ends : Bool) → List Sequence → (old new : List Token) → Type 0
AreLaterSequences room ends qs old new = IsPart room (Some ends) (statement_tail ∷ [])
    (sequences_onto (sequences_of (map sequence_view qs)) new)
    (sequences_depth (sequences_of (map sequence_view qs))) old new

-- a statement was read
abbrev pub IsStatement : (room : ℕ) → (ends : Bool) → Statement → (old new : List Token) → Type 0
IsStatement room ends t old new = IsPart room (Some ends) (statement ∷ [])
    (statement_onto (statement_view t) new) (statement_depth (statement_view t)) old new

-- the tokens lead from what is wanted there to what is wanted next
abbrev pub Leads : List Want → (old new : List Token) → Type 0
Leads ws old new = (s : List Want) → run MOST_OPEN_UNITS (ws ++ s) old ≡ run MOST_OPEN_UNITS s new

-- `end`, and the keyword where it stands again
abbrev pub end_again_wants : KeywordValue → List Want
end_again_wants k = one kw_end ∷ may (Keyword k) ∷ []

abbrev pub end_again_onto : Bool → KeywordValue → List Token → List Token
end_again_onto again k rest = kw_end ∷ token_if again (Keyword k) rest

-- `end` and the keyword, both or none
abbrev pub end_pair_wants : KeywordValue → List Want
end_pair_wants k = may_end (Keyword k) ∷ []

abbrev pub end_pair_onto : Bool → KeywordValue → List Token → List Token
end_pair_onto written k rest = end_if written (Keyword k) rest

-- `immediate` where it is written, and a test
abbrev pub delay_wants : List Want
delay_wants = may (Keyword keyword.Immediate) ∷ test ∷ []

-- `when` and what is waited for
abbrev pub when_wants : List Want
when_wants = one (Keyword keyword.When) ∷ delay_wants

abbrev pub when_onto : Delay → List Token → List Token
when_onto d rest = Keyword keyword.When ∷ delay_onto (delay_view d) rest

-- a test that is waited for was read
abbrev pub IsDelay : (room : ℕ) → Delay → (old new : List Token) → Type 0
IsDelay room d old new =
    IsPart room None delay_wants (delay_onto (delay_view d) new) (delay_depth (delay_view d)) old new

-- and the `when` before it
abbrev pub IsWhen : (room : ℕ) → Delay → (old new : List Token) → Type 0
IsWhen room d old new = IsPart room None when_wants (when_onto d new) (delay_depth (delay_view d)) old new

-- two names with a `/` between
abbrev pub renaming_wants : List Want
renaming_wants = name ∷ one (Symbol symbol.Slash) ∷ name ∷ []
