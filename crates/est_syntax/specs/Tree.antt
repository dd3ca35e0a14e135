-- The tree of a library, apart from where it lies in memory. Names are lists of bytes.
-- (Berry, The Esterel v5 Language Primer; which closing keywords may be left out is this project's own form)
use Rattle.std.specs.Prelude.{ℕ, Bool, List}

mutual
  -- a signal, the opposite of a literal, or an expression in parentheses
  pub data LiteralTree : Type 0 where
    named : List ℕ → LiteralTree
    negated : LiteralTree → LiteralTree
    enclosed : ExpressionTree → LiteralTree

  -- literals with `and` between them: all of them hold
  pub data ConjunctionTree : Type 0 where
    conjunction : LiteralTree → LiteralsTree → ConjunctionTree

  -- any number of further literals
  pub data LiteralsTree : Type 0 where
    no_literals : LiteralsTree
    literals : LiteralTree → LiteralsTree → LiteralsTree

  -- conjunctions with `or` between them: one of them holds
  pub data ExpressionTree : Type 0 where
    expression : ConjunctionTree → ConjunctionsTree → ExpressionTree

  -- any number of further conjunctions
  pub data ConjunctionsTree : Type 0 where
    no_conjunctions : ConjunctionsTree
    conjunctions : ConjunctionTree → ConjunctionsTree → ConjunctionsTree

-- what is asked: an expression over signals, bare or in brackets
pub data TestTree : Type 0 where
  bare : ExpressionTree → TestTree
  bracketed : ExpressionTree → TestTree

-- a test that is waited for; the flag: `immediate` is written
pub record DelayTree : Type 0 where
  pub immediate : Bool
  pub test : TestTree

-- one name or more
pub record NamesTree : Type 0 where
  pub first : List ℕ
  pub later : List (List ℕ)

-- a renaming, the caller's name first
pub record RenamingTree : Type 0 where
  pub outer : List ℕ
  pub inner : List ℕ

-- how the `end` of a `weak abort` is written: not at all, as `end abort`, or as `end weak abort`
pub data WeakEndTree : Type 0 where
  left_out : WeakEndTree
  end_abort : WeakEndTree
  end_weak_abort : WeakEndTree

mutual
  -- a flag tells whether the closing keywords that may be left out are written
  pub data UnitTree : Type 0 where
    nothing : UnitTree
    pause : UnitTree
    halt : UnitTree
    emit : List ℕ → UnitTree
    sustain : List ℕ → UnitTree
    exit : List ℕ → UnitTree
    await : DelayTree → UnitTree
    present : TestTree → BranchesTree → UnitTree
    suspend : StatementTree → DelayTree → Bool → UnitTree
    abort : StatementTree → DelayTree → Bool → UnitTree
    weak_abort : StatementTree → DelayTree → WeakEndTree → UnitTree
    repeat : StatementTree → Bool → UnitTree
    repeat_each : StatementTree → TestTree → UnitTree
    every : DelayTree → StatementTree → Bool → UnitTree
    trap : List ℕ → StatementTree → Bool → UnitTree
    signal : NamesTree → StatementTree → Bool → UnitTree
    run : List ℕ → List RenamingTree → UnitTree
    group : StatementTree → UnitTree

  -- the branches of a `present`: at least one; the flag: the word stands again after `end`
  pub data BranchesTree : Type 0 where
    then_only : StatementTree → Bool → BranchesTree
    else_only : StatementTree → Bool → BranchesTree
    both : StatementTree → StatementTree → Bool → BranchesTree

  -- units one after another; the flag: a `;` closes them
  pub data SequenceTree : Type 0 where
    sequence : UnitTree → UnitsTree → Bool → SequenceTree

  -- any number of further units
  pub data UnitsTree : Type 0 where
    no_units : UnitsTree
    units : UnitTree → UnitsTree → UnitsTree

  -- sequences side by side
  pub data StatementTree : Type 0 where
    statement : SequenceTree → SequencesTree → StatementTree

  -- any number of further sequences
  pub data SequencesTree : Type 0 where
    no_sequences : SequencesTree
    sequences : SequenceTree → SequencesTree → SequencesTree

-- a relation between signals that may be offered: two names or more of which at most one is offered, or a name that
-- implies another
pub data RelationTree : Type 0 where
  excludes : List ℕ → List ℕ → List (List ℕ) → RelationTree
  implies : List ℕ → List ℕ → RelationTree

-- a declaration: names, or one relation or more
pub data DeclarationTree : Type 0 where
  input : NamesTree → DeclarationTree
  output : NamesTree → DeclarationTree
  inputoutput : NamesTree → DeclarationTree
  relations : RelationTree → List RelationTree → DeclarationTree

-- a module: its name, its declarations in the order of the text, and its body
pub record ModuleTree : Type 0 where
  pub name : List ℕ
  pub declarations : List DeclarationTree
  pub body : StatementTree

-- one module or more
pub record LibraryTree : Type 0 where
  pub first : ModuleTree
  pub later : List ModuleTree
