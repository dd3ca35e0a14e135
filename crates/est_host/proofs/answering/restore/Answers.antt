use Rattle.std.proofs.Common.{sym}
use mathlib.Core.Path.{subst}
use Rattle.est_host.proofs.answering.restore.Goals as goal
use Rattle.est_host.specs.Answers.{RestoresAs, restores, stays}
use Rattle.est_machine.specs.Saved.{AreSaved}

pub returns-then-restore : goal.returns-then-restore
returns-then-restore c =
    let words = c.args.words.now in
    let saved = c.restore.ensures.done c.if-restore.true in
    subst (λ k. RestoresAs c.args.machine.now words 0 k) (sym c.restore.ensures.same_module)
    (restores c.restore.new.self.3 (subst (λ k. AreSaved k words) c.restore.ensures.same_module saved))

pub returns-else-restore : goal.returns-else-restore
returns-else-restore c =
    let none = c.restore.ensures.refused c.if-restore.false in rw none.0 (stays none.1)
