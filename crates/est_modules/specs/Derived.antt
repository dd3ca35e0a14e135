-- Statements without what only spells them: brackets, closing words, lists (Berry, The Esterel v5 Language Primer).
use Rattle.std.specs.Prelude.{ℕ, List}
use Rattle.est_syntax.specs.Tree as tree
use Rattle.est_syntax.specs.Tree.{TestTree, DelayTree, NamesTree, RenamingTree, UnitTree, BranchesTree}
use Rattle.est_syntax.specs.Tree.{SequenceTree, UnitsTree, StatementTree, SequencesTree}

-- a statement; `missing` is a branch that is left out
pub data Derived : Type 0 where
  missing : Derived
  nothing : Derived
  pause : Derived
  halt : Derived
  emit : List ℕ → Derived
  sustain : List ℕ → Derived
  exit : List ℕ → Derived
  await : DelayTree → Derived
  present : TestTree → Derived → Derived → Derived
  suspend : Derived → DelayTree → Derived
  abort : Derived → DelayTree → Derived
  weak_abort : Derived → DelayTree → Derived
  repeat : Derived → Derived
  repeat_each : Derived → TestTree → Derived
  every : DelayTree → Derived → Derived
  trap : List ℕ → Derived → Derived
  signal : NamesTree → Derived → Derived
  run : List ℕ → List RenamingTree → Derived
  seq : Derived → Derived → Derived
  par : Derived → Derived → Derived

abbrev mutual
  -- a unit
  pub unit_derived : UnitTree → Derived
  unit_derived tree.nothing = nothing
  unit_derived tree.pause = pause
  unit_derived tree.halt = halt
  unit_derived (tree.emit s) = emit s
  unit_derived (tree.sustain s) = sustain s
  unit_derived (tree.exit t) = exit t
  unit_derived (tree.await d) = await d
  unit_derived (tree.present s b) = branches_derived s b
  unit_derived (tree.suspend p d c) = suspend (statement_derived p) d
  unit_derived (tree.abort p d c) = abort (statement_derived p) d
  unit_derived (tree.weak_abort p d c) = weak_abort (statement_derived p) d
  unit_derived (tree.repeat p c) = repeat (statement_derived p)
  unit_derived (tree.repeat_each p s) = repeat_each (statement_derived p) s
  unit_derived (tree.every d p c) = every d (statement_derived p)
  unit_derived (tree.trap t p c) = trap t (statement_derived p)
  unit_derived (tree.signal ns p c) = signal ns (statement_derived p)
  unit_derived (tree.run m rs) = run m rs
  unit_derived (tree.group p) = statement_derived p

  -- a `present`
  pub branches_derived : TestTree → BranchesTree → Derived
  branches_derived s (tree.then_only p c) = present s (statement_derived p) missing
  branches_derived s (tree.else_only q c) = present s missing (statement_derived q)
  branches_derived s (tree.both p q c) = present s (statement_derived p) (statement_derived q)

  -- units one after another: `;` groups to the right
  pub sequence_derived : SequenceTree → Derived
  sequence_derived (tree.sequence u us c) = then_units (unit_derived u) us

  -- a statement, and further units after it
  pub then_units : Derived → UnitsTree → Derived
  then_units p tree.no_units = p
  then_units p (tree.units u us) = seq p (then_units (unit_derived u) us)

  -- sequences side by side: `||` groups to the right
  pub statement_derived : StatementTree → Derived
  statement_derived (tree.statement q qs) = beside_sequences (sequence_derived q) qs

  -- a statement, and further sequences beside it
  pub beside_sequences : Derived → SequencesTree → Derived
  beside_sequences p tree.no_sequences = p
  beside_sequences p (tree.sequences q qs) = par p (beside_sequences (sequence_derived q) qs)
