use Rattle.std.proofs.Common.{◌∙◌, map, ap}
use Rattle.est_link.specs.Inner.Meant.{again}
use Rattle.est_link.specs.Inner.OpenBodies.{meaning_of}
use Rattle.est_link.specs.declared.meaning.Meaning.{Meaning}
use Rattle.est_link.proofs.Meanings.{run_again}
use Rattle.est_link.proofs.run_meanings.inside.Goals as goal

pub returns : goal.returns
returns g c =
    let means = g.M.Meanings.means c.args.outside.now in
    run_again means c.locals.result c.locals.ensures c.args.meanings.now (record {
      numbers = c.in_ok-clone.field-0;
      meanings = c.in_ok-all_again.field-0;
      other = c.in_ok-again.field-0;
      locals = c.in_ok-sum.field-0;
    })
    (ap (λ v. v.items) c.in_ok-clone.ensures.cases)
    (c.in_ok-all_again.ensures ∙ ap (map (λ (m : Meaning). again means (meaning_of m))) c.deref.ensures.value)
    c.in_ok-again.ensures c.in_ok-sum.ensures
