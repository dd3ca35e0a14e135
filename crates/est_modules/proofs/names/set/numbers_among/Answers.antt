use Rattle.est_modules.specs.Visible.{stands_in}
use Rattle.est_modules.proofs.TellingNumbers.{tells_first}
use Rattle.est_modules.proofs.names.set.numbers_among.Goals as goal

pub returns : goal.returns
returns c =
    tells_first c.args.table.now (stands_in c.args.names.now) c.new-numbers.result c.put_names.new.numbers
    c.new-numbers.ensures c.in_ok-put_names.ensures
