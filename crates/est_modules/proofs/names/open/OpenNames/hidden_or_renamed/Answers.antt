use Rattle.std.proofs.Common.{map}
use Rattle.est_syntax.specs.Views.{renaming_view}
use Rattle.est_modules.specs.Renamings.{is_renamed}
use Rattle.est_modules.proofs.TellingNumbers.{tells_put}
use Rattle.est_modules.proofs.names.open.OpenNames.hidden_or_renamed.Goals as goal

pub returns : goal.returns
returns c f tells =
    let o = c.args.self.now in
    tells_put o.table.now f (is_renamed (map renaming_view c.args.renamings.now)) o.hidden c.in_ok-numbers.numbers
    c.put_renamed.new.numbers c.in_ok-numbers.ensures c.in_ok-put_renamed.ensures tells
