use Rattle.lab_instant.proofs.Meant.{signal_is_meant, statement_is_meant}
use Rattle.lab_instant.proofs.laws.cells_are_meant.Goals as goal

pub returns : goal.returns
returns c =
    let law = c.owners_are_read.ensures in
    record {
      statement = λ k x inputs cells h place o e. statement_is_meant law k x inputs cells h place o e;
      signal = λ k x inputs cells h place n e j. signal_is_meant law k x inputs cells h place n e j;
    }
