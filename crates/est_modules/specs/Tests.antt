-- The names of a test, in the order of the text, and how many words it has (this project's own form).
use Rattle.std.specs.Prelude.{ℕ, ◌+◌, List, [], ◌∷◌, ◌++◌}
use Rattle.est_syntax.specs.Tree.{LiteralTree, named, negated, enclosed, ConjunctionTree, conjunction, LiteralsTree}
use Rattle.est_syntax.specs.Tree.{no_literals, literals, ExpressionTree, expression, ConjunctionsTree, no_conjunctions}
use Rattle.est_syntax.specs.Tree.{conjunctions, TestTree, bare, bracketed}

abbrev mutual
  -- of a literal
  pub literal_names : LiteralTree → List (List ℕ)
  literal_names (named n) = n ∷ []
  literal_names (negated l) = literal_names l
  literal_names (enclosed e) = expression_names e

  -- of literals with `and` between them
  pub conjunction_names : ConjunctionTree → List (List ℕ)
  conjunction_names (conjunction l ls) = literal_names l ++ literals_names ls

  -- of further literals
  pub literals_names : LiteralsTree → List (List ℕ)
  literals_names no_literals = []
  literals_names (literals l ls) = literal_names l ++ literals_names ls

  -- of conjunctions with `or` between them
  pub expression_names : ExpressionTree → List (List ℕ)
  expression_names (expression c cs) = conjunction_names c ++ conjunctions_names cs

  -- of further conjunctions
  pub conjunctions_names : ConjunctionsTree → List (List ℕ)
  conjunctions_names no_conjunctions = []
  conjunctions_names (conjunctions c cs) = conjunction_names c ++ conjunctions_names cs

-- of a test
abbrev pub test_names : TestTree → List (List ℕ)
test_names (bare e) = expression_names e
test_names (bracketed e) = expression_names e

abbrev mutual
  -- how many `not`, `and` and `or` a literal has
  pub literal_words : LiteralTree → ℕ
  literal_words (named n) = 0
  literal_words (negated l) = literal_words l + 1
  literal_words (enclosed e) = expression_words e

  -- literals with `and` between them
  pub conjunction_words : ConjunctionTree → ℕ
  conjunction_words (conjunction l ls) = literal_words l + literals_words ls

  -- further literals, with the `and` before each
  pub literals_words : LiteralsTree → ℕ
  literals_words no_literals = 0
  literals_words (literals l ls) = literal_words l + 1 + literals_words ls

  -- conjunctions with `or` between them
  pub expression_words : ExpressionTree → ℕ
  expression_words (expression c cs) = conjunction_words c + conjunctions_words cs

  -- further conjunctions, with the `or` before each
  pub conjunctions_words : ConjunctionsTree → ℕ
  conjunctions_words no_conjunctions = 0
  conjunctions_words (conjunctions c cs) = conjunction_words c + 1 + conjunctions_words cs

-- a test
abbrev pub test_words : TestTree → ℕ
test_words (bare e) = expression_words e
test_words (bracketed e) = expression_words e
