-- The tree that each value of the parser is, part by part (this project's own form).
use Rattle.std.specs.Prelude.{List, [], ◌∷◌, map}
use Rattle.est_syntax.specs.Tree.{LiteralTree, named, negated, enclosed, ConjunctionTree, conjunction, LiteralsTree}
use Rattle.est_syntax.specs.Tree.{no_literals, literals, ExpressionTree, expression, ConjunctionsTree, no_conjunctions}
use Rattle.est_syntax.specs.Tree.{conjunctions, TestTree, bare, bracketed, DelayTree, NamesTree, RenamingTree}
use Rattle.est_syntax.specs.Tree.{WeakEndTree, left_out, end_abort, end_weak_abort, UnitTree, nothing, pause, halt}
use Rattle.est_syntax.specs.Tree.{emit, sustain, exit, await, present, suspend, abort, weak_abort, repeat, repeat_each}
use Rattle.est_syntax.specs.Tree.{every, trap, signal, run, group, BranchesTree, then_only, else_only, both}
use Rattle.est_syntax.specs.Tree.{SequenceTree, sequence, UnitsTree, no_units, units, StatementTree, statement}
use Rattle.est_syntax.specs.Tree.{SequencesTree, no_sequences, sequences, RelationTree, excludes, implies}
use Rattle.est_syntax.specs.Tree.{DeclarationTree, input, output, inputoutput, relations, ModuleTree, LibraryTree}
use Rattle.est_syntax.specs.declared.tree.Literal.{Literal, fold-Literal}
use Rattle.est_syntax.specs.declared.tree.Conjunction.{Conjunction, fold-Conjunction}
use Rattle.est_syntax.specs.declared.tree.Expression.{Expression, fold-Expression}
use Rattle.est_syntax.specs.declared.tree.Literal.TheOpen.{Literal-F, Conjunction-F, Expression-F}
use Rattle.est_syntax.specs.declared.tree.Test.{Test}
use Rattle.est_syntax.specs.declared.tree.Test.TheVariants.{Bare, Bracketed}
use Rattle.est_syntax.specs.declared.tree.Delay.{Delay}
use Rattle.est_syntax.specs.declared.tree.Names.{Names}
use Rattle.est_syntax.specs.declared.tree.Renaming.{Renaming}
use Rattle.est_syntax.specs.declared.tree.WeakEnd.{WeakEnd}
use Rattle.est_syntax.specs.declared.tree.WeakEnd.TheVariants.{LeftOut, EndAbort, EndWeakAbort}
use Rattle.est_syntax.specs.declared.tree.Unit.{Unit, fold-Unit}
use Rattle.est_syntax.specs.declared.tree.Branches.{Branches, fold-Branches}
use Rattle.est_syntax.specs.declared.tree.Sequence.{Sequence, fold-Sequence}
use Rattle.est_syntax.specs.declared.tree.Statement.{Statement, fold-Statement}
use Rattle.est_syntax.specs.declared.tree.Branches.TheOpen.{Unit-F, Branches-F, Sequence-F, Statement-F}
use Rattle.est_syntax.specs.declared.tree.Relation.{Relation}
use Rattle.est_syntax.specs.declared.tree.Relation.TheVariants.{Excludes, Implies}
use Rattle.est_syntax.specs.declared.tree.Declaration.{Declaration}
use Rattle.est_syntax.specs.declared.tree.Declaration.TheVariants.{Input, Output, InputOutput, Relations}
use Rattle.est_syntax.specs.declared.tree.Module.{Module}
use Rattle.est_syntax.specs.declared.tree.Library.{Library}

-- a list of literals, as a tree has it
abbrev pub literals_of : List LiteralTree → LiteralsTree
literals_of [] = no_literals
literals_of (l ∷ ls) = literals l (literals_of ls)

-- a list of conjunctions, as a tree has it
abbrev pub conjunctions_of : List ConjunctionTree → ConjunctionsTree
conjunctions_of [] = no_conjunctions
conjunctions_of (c ∷ cs) = conjunctions c (conjunctions_of cs)

-- the tree of a literal, from those of its parts
abbrev pub literal_step : Literal-F LiteralTree ConjunctionTree ExpressionTree → LiteralTree
literal_step (Literal-F.Signal n) = named n
literal_step (Literal-F.Not l) = negated l.value
literal_step (Literal-F.Group e) = enclosed e

-- the tree of a conjunction, from those of its literals
abbrev pub conjunction_step : Conjunction-F LiteralTree ConjunctionTree ExpressionTree → ConjunctionTree
conjunction_step c = conjunction c.first.value (literals_of c.later.items)

-- the tree of an expression, from those of its conjunctions
abbrev pub expression_step : Expression-F LiteralTree ConjunctionTree ExpressionTree → ExpressionTree
expression_step e = expression e.first.value (conjunctions_of e.later.items)

-- a literal
abbrev pub literal_view : Literal → LiteralTree
literal_view = fold-Literal LiteralTree ConjunctionTree ExpressionTree literal_step conjunction_step expression_step

-- literals with `and` between them
abbrev pub conjunction_view : Conjunction → ConjunctionTree
conjunction_view = fold-Conjunction LiteralTree ConjunctionTree ExpressionTree literal_step conjunction_step
    expression_step

-- conjunctions with `or` between them
abbrev pub expression_view : Expression → ExpressionTree
expression_view = fold-Expression LiteralTree ConjunctionTree ExpressionTree literal_step conjunction_step
    expression_step

-- what is asked
abbrev pub test_view : Test → TestTree
test_view (Bare e) = bare (expression_view e)
test_view (Bracketed e) = bracketed (expression_view e)

-- a test that is waited for
abbrev pub delay_view : Delay → DelayTree
delay_view d = record { immediate = d.immediate; test = test_view d.test }

-- one name or more
abbrev pub names_view : Names → NamesTree
names_view ns = record { first = ns.first; later = ns.later.items }

-- a renaming
abbrev pub renaming_view : Renaming → RenamingTree
renaming_view r = record { outer = r.outer; inner = r.inner }

-- how the `end` of a `weak abort` is written
abbrev pub weak_end_view : WeakEnd → WeakEndTree
weak_end_view LeftOut = left_out
weak_end_view EndAbort = end_abort
weak_end_view EndWeakAbort = end_weak_abort

-- a list of units, as a tree has it
abbrev pub units_of : List UnitTree → UnitsTree
units_of [] = no_units
units_of (u ∷ us) = units u (units_of us)

-- a list of sequences, as a tree has it
abbrev pub sequences_of : List SequenceTree → SequencesTree
sequences_of [] = no_sequences
sequences_of (q ∷ qs) = sequences q (sequences_of qs)

-- the tree of a unit, from those of its parts
abbrev pub unit_step : Unit-F BranchesTree UnitTree SequenceTree StatementTree → UnitTree
unit_step Unit-F.Nothing = nothing
unit_step Unit-F.Pause = pause
unit_step Unit-F.Halt = halt
unit_step (Unit-F.Emit n) = emit n
unit_step (Unit-F.Sustain n) = sustain n
unit_step (Unit-F.Exit n) = exit n
unit_step (Unit-F.Await d) = await (delay_view d)
unit_step (Unit-F.Present n b) = present (test_view n) b
unit_step (Unit-F.Suspend t d c) = suspend t (delay_view d) c
unit_step (Unit-F.Abort t d c) = abort t (delay_view d) c
unit_step (Unit-F.WeakAbort t d c) = weak_abort t (delay_view d) (weak_end_view c)
unit_step (Unit-F.Loop t c) = repeat t c
unit_step (Unit-F.LoopEach t n) = repeat_each t (test_view n)
unit_step (Unit-F.Every d t c) = every (delay_view d) t c
unit_step (Unit-F.Trap n t c) = trap n t c
unit_step (Unit-F.Signal ns t c) = signal (names_view ns) t c
unit_step (Unit-F.Run n rs) = run n (map renaming_view rs.items)
unit_step (Unit-F.Group t) = group t

-- the tree of branches, from those of their statements
abbrev pub branches_step : Branches-F BranchesTree UnitTree SequenceTree StatementTree → BranchesTree
branches_step (Branches-F.Then t c) = then_only t c
branches_step (Branches-F.Else t c) = else_only t c
branches_step (Branches-F.Both t e c) = both t e c

-- the tree of a sequence, from those of its units
abbrev pub sequence_step : Sequence-F BranchesTree UnitTree SequenceTree StatementTree → SequenceTree
sequence_step q = sequence q.first.value (units_of q.later.items) q.closed

-- the tree of a statement, from those of its sequences
abbrev pub statement_step : Statement-F BranchesTree UnitTree SequenceTree StatementTree → StatementTree
statement_step t = statement t.first.value (sequences_of t.later.items)

-- a unit
abbrev pub unit_view : Unit → UnitTree
unit_view = fold-Unit BranchesTree UnitTree SequenceTree StatementTree branches_step unit_step sequence_step
    statement_step

-- the branches of a `present`
abbrev pub branches_view : Branches → BranchesTree
branches_view =
    fold-Branches BranchesTree UnitTree SequenceTree StatementTree branches_step unit_step sequence_step statement_step

-- units one after another
abbrev pub sequence_view : Sequence → SequenceTree
sequence_view =
    fold-Sequence BranchesTree UnitTree SequenceTree StatementTree branches_step unit_step sequence_step statement_step

-- sequences side by side
abbrev pub statement_view : Statement → StatementTree
statement_view =
    fold-Statement BranchesTree UnitTree SequenceTree StatementTree branches_step unit_step sequence_step statement_step

-- a relation between inputs
abbrev pub relation_view : Relation → RelationTree
relation_view (Excludes a b ns) = excludes a b ns.items
relation_view (Implies a b) = implies a b

-- a declaration
abbrev pub declaration_view : Declaration → DeclarationTree
declaration_view (Input ns) = input (names_view ns)
declaration_view (Output ns) = output (names_view ns)
declaration_view (InputOutput ns) = inputoutput (names_view ns)
declaration_view (Relations r rs) = relations (relation_view r) (map relation_view rs.items)

-- a module
abbrev pub module_view : Module → ModuleTree
module_view m =
    record { name = m.name; declarations = map declaration_view m.declarations.items; body = statement_view m.body }

-- a library
abbrev pub library_view : Library → LibraryTree
library_view l = record { first = module_view l.first; later = map module_view l.later.items }
