use Rattle.std.proofs.Common.{◌≡◌, ◌∙◌, IfOk, ap, sym, subst}
use Rattle.est_link.specs.Linking.{body_meant}
use Rattle.est_link.specs.Inner.OpenBodies.{closed_of, meant_by}
use Rattle.est_link.specs.declared.open_body.OpenBody.{OpenBody}
use Rattle.est_link.proofs.closing.+close.Goals as goal
use Rattle.est_reduce.specs.Bodies.{Body as FlatTerm}
use Rattle.est_reduce.specs.Views.{body_of}

pub close-returns-in-Run : goal.close-returns-in-Run
close-returns-in-Run t c =
    let run = c.in-Run.run' in
    let g = meant_by c.args.at.now.meanings.now in
    let is : body_meant (meant_by run) (closed_of c.deref-in-Run.result.now) ≡ closed_of c.args.body.now =
    ap (λ (p : OpenBody). body_meant (meant_by run) (closed_of p)) c.deref-in-Run.ensures
    ∙ ap closed_of (sym c.in-Run.is) in
    let P : FlatTerm → Type 0 = λ x. IfOk c.close_run.result (λ b. body_of b ≡ body_meant g x) in
    subst P is c.close_run.ensures
