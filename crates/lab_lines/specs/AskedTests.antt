-- Tests, as the kernels that ask them (this project's own form).
use Rattle.est_kernel.specs.View.{query_of}
use Rattle.std.specs.Prelude.{◌≡◌, Bool, true, false}
use Rattle.est_kernel.specs.Term.{nothing, present}
use Rattle.est_kernel.specs.View.{term_of}
use Rattle.est_kernel.specs.declared.statement.Statement.{Statement}
use Rattle.est_kernel.specs.declared.statement.Statement.TheVariants.{Present'}
use Rattle.est_kernel.specs.declared.statement.Test.{Test}
use Rattle.est_kernel.specs.declared.statement.Test.TheVariants.{Tick}

-- the test that a statement asks first
abbrev pub test_in : Statement → Test
test_in (Present' t a p b q) = t
test_in _ = Tick

-- the statement asks this test and does nothing else
abbrev pub Asks : Statement → Test → Type 0
Asks root test = term_of root ≡ present (query_of test) nothing nothing

-- the statement asks a test first
abbrev pub has_test : Statement → Bool
has_test (Present' t a p b q) = true
has_test _ = false
