-- What is known after a statement, from what was known before it, without the list of its occurrences; for private
-- clauses (this project's own form).
use Rattle.est_syntax.specs.Tree.{TestTree, BranchesTree, then_only, else_only, both}
use Rattle.std.specs.Prelude.{ℕ, List, [], ◌∷◌}
use Rattle.est_modules.specs.Derived.{Derived, missing, nothing, pause, halt, emit, sustain, exit, await, present}
use Rattle.est_modules.specs.Derived.{suspend, abort, weak_abort, repeat, repeat_each, every, trap, signal, run, seq}
use Rattle.est_modules.specs.Derived.{par, statement_derived}
use Rattle.est_modules.specs.Tests.{test_names}
use Rattle.est_modules.specs.Occurrences.{Binder, signals, a_trap, Act, emits, tests, exits, binds, runs, Occurrence}

-- what is known after one occurrence
abbrev pub past : {S : Type 0} → (S → Occurrence → S) → List Binder → Act → S → S
past f bs a s = f s (record { act = a; around = bs })

-- what is known after the names of tests
abbrev pub past_names : {S : Type 0} → (S → Occurrence → S) → List Binder → List (List ℕ) → S → S
past_names f bs [] k = k
past_names f bs (n ∷ ns) k = past_names f bs ns (past f bs (tests n) k)

-- what is known after a test
abbrev pub past_test : {S : Type 0} → (S → Occurrence → S) → List Binder → TestTree → S → S
past_test f bs t k = past_names f bs (test_names t) k

-- what is known after a statement
abbrev pub passed : {S : Type 0} → (S → Occurrence → S) → List Binder → Derived → S → S
passed f bs missing k = k
passed f bs nothing k = k
passed f bs pause k = k
passed f bs halt k = k
passed f bs (emit s) k = past f bs (emits s) k
passed f bs (sustain s) k = past f bs (emits s) k
passed f bs (exit t) k = past f bs (exits t) k
passed f bs (await d) k = past_test f bs d.test k
passed f bs (present t p q) k = passed f bs q (passed f bs p (past_test f bs t k))
passed f bs (suspend p d) k = past_test f bs d.test (passed f bs p k)
passed f bs (abort p d) k = past_test f bs d.test (passed f bs p k)
passed f bs (weak_abort p d) k = past_test f bs d.test (passed f bs p k)
passed f bs (repeat p) k = passed f bs p k
passed f bs (repeat_each p t) k = past_test f bs t (passed f bs p k)
passed f bs (every d p) k = passed f bs p (past_test f bs d.test k)
passed f bs (trap t p) k = passed f (a_trap t ∷ bs) p k
passed f bs (signal ns p) k = passed f (signals ns ∷ bs) p (past f bs (binds ns) k)
passed f bs (run m rs) k = past f bs (runs m rs) k
passed f bs (seq p q) k = passed f bs q (passed f bs p k)
passed f bs (par p q) k = passed f bs q (passed f bs p k)

-- the same of the branches of a `present`
abbrev pub passed_branches : {S : Type 0} → (S → Occurrence → S) → List Binder → BranchesTree → S → S
passed_branches f bs (then_only p c) k = passed f bs (statement_derived p) k
passed_branches f bs (else_only q c) k = passed f bs (statement_derived q) k
passed_branches f bs (both p q c) k = passed f bs (statement_derived q) (passed f bs (statement_derived p) k)
