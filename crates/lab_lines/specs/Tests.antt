-- What contracts see of a test that is kept (this project's own form).
use Rattle.est_kernel.specs.declared.statement.Test.{Test}
use Rattle.lab_lines.specs.AskedTests.{test_in}
use Rattle.lab_lines.specs.declared.asked_test.AskedTest.{AskedTest}

-- the test that is kept
abbrev pub test_of : AskedTest → Test
test_of a = test_in a.asking.root
