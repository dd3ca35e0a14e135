-- The grammar: the tokens that a tree is spelt with, before a rest (`x_onto tree rest`); and what begins a library.
-- (Berry, The Esterel v5 Language Primer; the optional closing words are this project's own form)
use Rattle.std.specs.Prelude.{ℕ, suc, max, List, [], ◌∷◌, map, Bool, true, false}
use Rattle.est_text.specs.declared.token.Located.{Located}
use Rattle.est_text.specs.declared.token.Token.{Token}
use Rattle.est_text.specs.declared.token.Token.TheVariants.{Keyword, Identifier, Symbol}
use Rattle.est_text.specs.declared.keyword.Keyword.TheVariants as keyword
use Rattle.est_text.specs.declared.token.Symbol.TheVariants as symbol
use Rattle.est_syntax.specs.Tree.{LiteralTree, named, negated, enclosed, ConjunctionTree, conjunction, LiteralsTree}
use Rattle.est_syntax.specs.Tree.{no_literals, literals, ExpressionTree, expression, ConjunctionsTree, no_conjunctions}
use Rattle.est_syntax.specs.Tree.{conjunctions, TestTree, bare, bracketed, DelayTree, NamesTree, RenamingTree}
use Rattle.est_syntax.specs.Tree.{WeakEndTree, left_out, end_abort, end_weak_abort, UnitTree, nothing, pause, halt}
use Rattle.est_syntax.specs.Tree.{emit, sustain, exit, await, present, suspend, abort, weak_abort, repeat, repeat_each}
use Rattle.est_syntax.specs.Tree.{every, trap, signal, run, group, BranchesTree, then_only, else_only, both}
use Rattle.est_syntax.specs.Tree.{SequenceTree, sequence, UnitsTree, no_units, units, StatementTree, statement}
use Rattle.est_syntax.specs.Tree.{SequencesTree, no_sequences, sequences, RelationTree, excludes, implies}
use Rattle.est_syntax.specs.Tree.{DeclarationTree, input, output, inputoutput, relations, ModuleTree, LibraryTree}

-- the tokens, without their places
abbrev pub tokens_of : List Located → List Token
tokens_of = map (λ (l : Located). l.token)

-- ---- words that may be left out

-- a token that may be left out
abbrev pub token_if : Bool → Token → List Token → List Token
token_if true t rest = t ∷ rest
token_if false t rest = rest

-- `end` and a keyword, both or none
abbrev pub end_if : Bool → Token → List Token → List Token
end_if true t rest = Keyword keyword.End ∷ t ∷ rest
end_if false t rest = rest

-- what may stand after a `weak abort`
abbrev pub weak_end_onto : WeakEndTree → List Token → List Token
weak_end_onto left_out rest = rest
weak_end_onto end_abort rest = Keyword keyword.End ∷ Keyword keyword.Abort ∷ rest
weak_end_onto end_weak_abort rest = Keyword keyword.End ∷ Keyword keyword.Weak ∷ Keyword keyword.Abort ∷ rest

-- ---- lists of names

-- (`,` ID)*
abbrev pub later_names_onto : List (List ℕ) → List Token → List Token
later_names_onto [] rest = rest
later_names_onto (n ∷ ns) rest = Symbol symbol.Comma ∷ Identifier n ∷ later_names_onto ns rest

-- ID (`,` ID)*
abbrev pub names_onto : NamesTree → List Token → List Token
names_onto ns rest = Identifier ns.first ∷ later_names_onto ns.later rest

-- ---- tests

abbrev mutual
  -- ID, or `not` literal, or `(` expression `)`
  pub literal_onto : LiteralTree → List Token → List Token
  literal_onto (named n) rest = Identifier n ∷ rest
  literal_onto (negated l) rest = Keyword keyword.Not ∷ literal_onto l rest
  literal_onto (enclosed e) rest =
      Symbol symbol.OpenParenthesis ∷ expression_onto e (Symbol symbol.CloseParenthesis ∷ rest)

  -- literal (`and` literal)*
  pub conjunction_onto : ConjunctionTree → List Token → List Token
  conjunction_onto (conjunction l ls) rest = literal_onto l (literals_onto ls rest)

  -- (`and` literal)*
  pub literals_onto : LiteralsTree → List Token → List Token
  literals_onto no_literals rest = rest
  literals_onto (literals l ls) rest = Keyword keyword.And ∷ literal_onto l (literals_onto ls rest)

  -- conjunction (`or` conjunction)*
  pub expression_onto : ExpressionTree → List Token → List Token
  expression_onto (expression c cs) rest = conjunction_onto c (conjunctions_onto cs rest)

  -- (`or` conjunction)*
  pub conjunctions_onto : ConjunctionsTree → List Token → List Token
  conjunctions_onto no_conjunctions rest = rest
  conjunctions_onto (conjunctions c cs) rest = Keyword keyword.Or ∷ conjunction_onto c (conjunctions_onto cs rest)

-- expression, or `[` expression `]`
abbrev pub test_onto : TestTree → List Token → List Token
test_onto (bare e) rest = expression_onto e rest
test_onto (bracketed e) rest = Symbol symbol.OpenBracket ∷ expression_onto e (Symbol symbol.CloseBracket ∷ rest)

-- `immediate`? test
abbrev pub delay_onto : DelayTree → List Token → List Token
delay_onto d rest = token_if d.immediate (Keyword keyword.Immediate) (test_onto d.test rest)

-- ID `/` ID
abbrev pub renaming_onto : RenamingTree → List Token → List Token
renaming_onto r rest = Identifier r.outer ∷ Symbol symbol.Slash ∷ Identifier r.inner ∷ rest

-- (`,` renaming)*
abbrev pub later_renamings_onto : List RenamingTree → List Token → List Token
later_renamings_onto [] rest = rest
later_renamings_onto (r ∷ rs) rest = Symbol symbol.Comma ∷ renaming_onto r (later_renamings_onto rs rest)

-- (`[` `signal` renaming (`,` renaming)* `]`)?
abbrev pub renamings_onto : List RenamingTree → List Token → List Token
renamings_onto [] rest = rest
renamings_onto (r ∷ rs) rest = Symbol symbol.OpenBracket ∷ Keyword keyword.Signal
    ∷ renaming_onto r (later_renamings_onto rs (Symbol symbol.CloseBracket ∷ rest))

-- ---- statements

abbrev mutual
  -- one case for each form of a unit
  pub unit_onto : UnitTree → List Token → List Token
  unit_onto nothing rest = Keyword keyword.Nothing ∷ rest
  unit_onto pause rest = Keyword keyword.Pause ∷ rest
  unit_onto halt rest = Keyword keyword.Halt ∷ rest
  unit_onto (emit n) rest = Keyword keyword.Emit ∷ Identifier n ∷ rest
  unit_onto (sustain n) rest = Keyword keyword.Sustain ∷ Identifier n ∷ rest
  unit_onto (exit n) rest = Keyword keyword.Exit ∷ Identifier n ∷ rest
  unit_onto (await d) rest = Keyword keyword.Await ∷ delay_onto d rest
  unit_onto (present n b) rest = Keyword keyword.Present ∷ test_onto n (branches_onto b rest)
  unit_onto (suspend t d c) rest = Keyword keyword.Suspend
      ∷ statement_onto t (Keyword keyword.When ∷ delay_onto d (end_if c (Keyword keyword.Suspend) rest))
  unit_onto (abort t d c) rest =
      Keyword keyword.Abort
      ∷ statement_onto t (Keyword keyword.When ∷ delay_onto d (end_if c (Keyword keyword.Abort) rest))
  unit_onto (weak_abort t d c) rest = Keyword keyword.Weak ∷ Keyword keyword.Abort
      ∷ statement_onto t (Keyword keyword.When ∷ delay_onto d (weak_end_onto c rest))
  unit_onto (repeat t c) rest =
      Keyword keyword.Loop ∷ statement_onto t (Keyword keyword.End ∷ token_if c (Keyword keyword.Loop) rest)
  unit_onto (repeat_each t n) rest = Keyword keyword.Loop ∷ statement_onto t (Keyword keyword.Each ∷ test_onto n rest)
  unit_onto (every d t c) rest = Keyword keyword.Every
      ∷ delay_onto d
      (Keyword keyword.Do ∷ statement_onto t (Keyword keyword.End ∷ token_if c (Keyword keyword.Every) rest))
  unit_onto (trap n t c) rest = Keyword keyword.Trap ∷ Identifier n ∷ Keyword keyword.In
      ∷ statement_onto t (Keyword keyword.End ∷ token_if c (Keyword keyword.Trap) rest)
  unit_onto (signal ns t c) rest = Keyword keyword.Signal
      ∷ names_onto ns
      (Keyword keyword.In ∷ statement_onto t (Keyword keyword.End ∷ token_if c (Keyword keyword.Signal) rest))
  unit_onto (run n rs) rest = Keyword keyword.Run ∷ Identifier n ∷ renamings_onto rs rest
  unit_onto (group t) rest = Symbol symbol.OpenBracket ∷ statement_onto t (Symbol symbol.CloseBracket ∷ rest)

  -- (`then` statement)? (`else` statement)? `end` `present`?, at least one of the two branches
  pub branches_onto : BranchesTree → List Token → List Token
  branches_onto (then_only t c) rest =
      Keyword keyword.Then ∷ statement_onto t (Keyword keyword.End ∷ token_if c (Keyword keyword.Present) rest)
  branches_onto (else_only t c) rest =
      Keyword keyword.Else ∷ statement_onto t (Keyword keyword.End ∷ token_if c (Keyword keyword.Present) rest)
  branches_onto (both t e c) rest = Keyword keyword.Then
      ∷ statement_onto t (Keyword keyword.Else
      ∷ statement_onto e (Keyword keyword.End ∷ token_if c (Keyword keyword.Present) rest))

  -- unit (`;` unit)* `;`?
  pub sequence_onto : SequenceTree → List Token → List Token
  sequence_onto (sequence u us c) rest = unit_onto u (units_onto us (token_if c (Symbol symbol.Semicolon) rest))

  -- (`;` unit)*
  pub units_onto : UnitsTree → List Token → List Token
  units_onto no_units rest = rest
  units_onto (units u us) rest = Symbol symbol.Semicolon ∷ unit_onto u (units_onto us rest)

  -- sequence (`||` sequence)*
  pub statement_onto : StatementTree → List Token → List Token
  statement_onto (statement q qs) rest = sequence_onto q (sequences_onto qs rest)

  -- (`||` sequence)*
  pub sequences_onto : SequencesTree → List Token → List Token
  sequences_onto no_sequences rest = rest
  sequences_onto (sequences q qs) rest = Symbol symbol.Parallel ∷ sequence_onto q (sequences_onto qs rest)

-- ---- modules

-- (`#` ID)*
abbrev pub later_members_onto : List (List ℕ) → List Token → List Token
later_members_onto [] rest = rest
later_members_onto (n ∷ ns) rest = Symbol symbol.Hash ∷ Identifier n ∷ later_members_onto ns rest

-- ID (`#` ID)+ or ID `=>` ID
abbrev pub relation_onto : RelationTree → List Token → List Token
relation_onto (excludes a b ns) rest = Identifier a ∷ Symbol symbol.Hash ∷ Identifier b ∷ later_members_onto ns rest
relation_onto (implies a b) rest = Identifier a ∷ Symbol symbol.Implies ∷ Identifier b ∷ rest

-- (`,` relation)*
abbrev pub later_relations_onto : List RelationTree → List Token → List Token
later_relations_onto [] rest = rest
later_relations_onto (r ∷ rs) rest = Symbol symbol.Comma ∷ relation_onto r (later_relations_onto rs rest)

-- `input` names `;` or `output` names `;` or `inputoutput` names `;` or `relation` relation (`,` relation)* `;`
abbrev pub declaration_onto : DeclarationTree → List Token → List Token
declaration_onto (input ns) rest = Keyword keyword.Input ∷ names_onto ns (Symbol symbol.Semicolon ∷ rest)
declaration_onto (output ns) rest = Keyword keyword.Output ∷ names_onto ns (Symbol symbol.Semicolon ∷ rest)
declaration_onto (inputoutput ns) rest = Keyword keyword.Inputoutput ∷ names_onto ns (Symbol symbol.Semicolon ∷ rest)
declaration_onto (relations r rs) rest =
    Keyword keyword.Relation ∷ relation_onto r (later_relations_onto rs (Symbol symbol.Semicolon ∷ rest))

-- declaration*
abbrev pub declarations_onto : List DeclarationTree → List Token → List Token
declarations_onto [] rest = rest
declarations_onto (d ∷ ds) rest = declaration_onto d (declarations_onto ds rest)

-- `module` ID `:` declaration* statement `end` `module`
abbrev pub module_onto : ModuleTree → List Token → List Token
module_onto m rest = Keyword keyword.Module ∷ Identifier m.name ∷ Symbol symbol.Colon
    ∷ declarations_onto m.declarations (statement_onto m.body (Keyword keyword.End ∷ Keyword keyword.Module ∷ rest))

-- module*
abbrev pub modules_onto : List ModuleTree → List Token → List Token
modules_onto [] rest = rest
modules_onto (m ∷ ms) rest = module_onto m (modules_onto ms rest)

-- the tokens that a library is spelt with: module+
abbrev pub spelling : LibraryTree → List Token
spelling l = module_onto l.first (modules_onto l.later [])

-- ---- how deep open units are nested

abbrev mutual
  -- the most that is open at once in a literal: `not` and `(` each count as a unit, up to the end of what they hold
  pub literal_depth : LiteralTree → ℕ
  literal_depth (named n) = 0
  literal_depth (negated l) = suc (literal_depth l)
  literal_depth (enclosed e) = suc (expression_depth e)

  -- the same for literals with `and` between them
  pub conjunction_depth : ConjunctionTree → ℕ
  conjunction_depth (conjunction l ls) = max (literal_depth l) (literals_depth ls)

  -- the same for further literals
  pub literals_depth : LiteralsTree → ℕ
  literals_depth no_literals = 0
  literals_depth (literals l ls) = max (literal_depth l) (literals_depth ls)

  -- the same for an expression
  pub expression_depth : ExpressionTree → ℕ
  expression_depth (expression c cs) = max (conjunction_depth c) (conjunctions_depth cs)

  -- the same for further conjunctions
  pub conjunctions_depth : ConjunctionsTree → ℕ
  conjunctions_depth no_conjunctions = 0
  conjunctions_depth (conjunctions c cs) = max (conjunction_depth c) (conjunctions_depth cs)

-- the same for a test, whose brackets do not count
abbrev pub test_depth : TestTree → ℕ
test_depth (bare e) = expression_depth e
test_depth (bracketed e) = expression_depth e

-- the same for a test that is waited for
abbrev pub delay_depth : DelayTree → ℕ
delay_depth d = test_depth d.test

abbrev mutual
  -- the most units that are open at once in a unit, itself counted if it holds a statement; it is open from its first
  -- token to its last, so also in its test
  pub unit_depth : UnitTree → ℕ
  unit_depth (await d) = delay_depth d
  unit_depth (present n b) = suc (max (test_depth n) (branches_depth b))
  unit_depth (suspend t d c) = suc (max (statement_depth t) (delay_depth d))
  unit_depth (abort t d c) = suc (max (statement_depth t) (delay_depth d))
  unit_depth (weak_abort t d c) = suc (max (statement_depth t) (delay_depth d))
  unit_depth (repeat t c) = suc (statement_depth t)
  unit_depth (repeat_each t n) = suc (max (statement_depth t) (test_depth n))
  unit_depth (every d t c) = suc (max (delay_depth d) (statement_depth t))
  unit_depth (trap n t c) = suc (statement_depth t)
  unit_depth (signal ns t c) = suc (statement_depth t)
  unit_depth (group t) = suc (statement_depth t)
  unit_depth _ = 0

  -- the same for the branches of a `present`
  pub branches_depth : BranchesTree → ℕ
  branches_depth (then_only t c) = statement_depth t
  branches_depth (else_only t c) = statement_depth t
  branches_depth (both t e c) = max (statement_depth t) (statement_depth e)

  -- the same for units one after another
  pub sequence_depth : SequenceTree → ℕ
  sequence_depth (sequence u us c) = max (unit_depth u) (units_depth us)

  -- the same for further units
  pub units_depth : UnitsTree → ℕ
  units_depth no_units = 0
  units_depth (units u us) = max (unit_depth u) (units_depth us)

  -- the same for sequences side by side
  pub statement_depth : StatementTree → ℕ
  statement_depth (statement q qs) = max (sequence_depth q) (sequences_depth qs)

  -- the same for further sequences
  pub sequences_depth : SequencesTree → ℕ
  sequences_depth no_sequences = 0
  sequences_depth (sequences q qs) = max (sequence_depth q) (sequences_depth qs)

-- the same for the bodies of modules
abbrev pub modules_depth : List ModuleTree → ℕ
modules_depth [] = 0
modules_depth (m ∷ ms) = max (statement_depth m.body) (modules_depth ms)

-- the most units that are open at once in a library
abbrev pub library_depth : LibraryTree → ℕ
library_depth l = max (statement_depth l.first.body) (modules_depth l.later)
