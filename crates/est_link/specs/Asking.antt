-- What a test asks, by what its names mean: the operands of one connective are one list (this project's own form).
use Rattle.std.specs.Prelude.{ℕ, List}
use Rattle.est_kernel.specs.Term.{Query, negated, joined, Queries, last, more}
use Rattle.est_kernel.specs.declared.statement.Connective.TheVariants.{And, Or}
use Rattle.est_syntax.specs.Tree.{LiteralTree, named, enclosed, ConjunctionTree, conjunction, LiteralsTree, no_literals}
use Rattle.est_syntax.specs.Tree.{literals, ExpressionTree, expression, ConjunctionsTree, no_conjunctions, conjunctions}
use Rattle.est_syntax.specs.Tree.{TestTree, bare, bracketed, negated as not_so}

abbrev mutual
  -- what a literal asks, where f says what each of its names asks
  pub literal_asked : (List ℕ → Query) → LiteralTree → Query
  literal_asked f (named n) = f n
  literal_asked f (not_so l) = negated (literal_asked f l)
  literal_asked f (enclosed e) = expression_asked f e

  -- literals with `and` between them
  pub conjunction_asked : (List ℕ → Query) → ConjunctionTree → Query
  conjunction_asked f (conjunction l ls) = and_literals f (literal_asked f l) ls

  -- what is asked, and further literals
  pub and_literals : (List ℕ → Query) → Query → LiteralsTree → Query
  and_literals f q no_literals = q
  and_literals f q (literals l ls) = joined And q (all_literals f (literal_asked f l) ls)

  -- the same as a list
  pub all_literals : (List ℕ → Query) → Query → LiteralsTree → Queries
  all_literals f q no_literals = last q
  all_literals f q (literals l ls) = more q (all_literals f (literal_asked f l) ls)

  -- conjunctions with `or` between them
  pub expression_asked : (List ℕ → Query) → ExpressionTree → Query
  expression_asked f (expression c cs) = or_conjunctions f (conjunction_asked f c) cs

  -- what is asked, or further conjunctions
  pub or_conjunctions : (List ℕ → Query) → Query → ConjunctionsTree → Query
  or_conjunctions f q no_conjunctions = q
  or_conjunctions f q (conjunctions c cs) = joined Or q (all_conjunctions f (conjunction_asked f c) cs)

  -- the same as a list
  pub all_conjunctions : (List ℕ → Query) → Query → ConjunctionsTree → Queries
  all_conjunctions f q no_conjunctions = last q
  all_conjunctions f q (conjunctions c cs) = more q (all_conjunctions f (conjunction_asked f c) cs)

-- a test
abbrev pub test_asked : (List ℕ → Query) → TestTree → Query
test_asked f (bare e) = expression_asked f e
test_asked f (bracketed e) = expression_asked f e
