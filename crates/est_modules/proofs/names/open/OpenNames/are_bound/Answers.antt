use Rattle.std.proofs.Common.{◌||◌, map}
use Rattle.est_syntax.specs.Views.{renaming_view}
use Rattle.est_modules.specs.Renamings.{is_renamed}
use Rattle.est_modules.proofs.TellingNumbers.{names_covered}
use Rattle.est_modules.proofs.names.open.OpenNames.are_bound.Goals as goal

pub returns : goal.returns
returns c so names f g are tells_f tells_g s here =
    let o = c.args.self.now in
    let rs = map renaming_view c.args.renamings.now in
    names_covered o.table.now names c.args.kept.now.numbers c.in_ok-passed.passed c.args.others.now
    (λ n. f n || is_renamed rs n) g c.requires are (c.in_ok-passed.ensures f tells_f) tells_g
    (c.is_covered.ensures.0 so) s here
