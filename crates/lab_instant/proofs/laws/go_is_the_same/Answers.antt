use Rattle.std.specs.Prelude.{true}
use Rattle.lab_instant.proofs.GoCells.{go_is_there}
use Rattle.lab_instant.proofs.laws.go_is_the_same.Goals as goal

pub returns : goal.returns
returns c = record { go = λ k place code o h e. go_is_there true k.root 0 0 0 place code o h e }
