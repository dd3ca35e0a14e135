use Rattle.std.proofs.Common.{◌∙◌, ap, sym}
use Rattle.std.specs.Prelude.{is_some}
use Rattle.std.specs.Str.{bytes_eq}
use Rattle.est_syntax.specs.Tree.{RenamingTree}
use Rattle.est_syntax.specs.Views.{renaming_view}
use Rattle.est_syntax.specs.declared.tree.Renaming.{Renaming}
use Rattle.est_modules.proofs.Lists.{any_map, some_found, some_map}
use Rattle.est_modules.proofs.renamings.RunRenamings.is_renamed.Goals as goal

pub returns : goal.returns
returns c =
    let rs = c.args.self.now in
    let s = c.args.signal.now in
    c.is_some.ensures
    ∙ sym (some_map (λ r. r.now) c.named.result)
    ∙ ap is_some c.named.ensures
    ∙ some_found (λ (r : Renaming). bytes_eq r.inner s) rs
    ∙ sym (any_map (λ (r : RenamingTree). bytes_eq r.inner s) renaming_view rs)
