use Rattle.std.proofs.Common.{inr, map, ap, ◌∙◌, subst, arith}
use Rattle.std.proofs.lemmas.List.{length-map}
use Rattle.est_modules.specs.Modules.{program_of}
use Rattle.est_modules.specs.ModuleOrders.{run_rows, places_run}
use Rattle.est_checks.specs.declared.fault.LinkFault.TheVariants.{RecursiveRun}
use Rattle.est_checks.proofs.Finding.{name_there}
use Rattle.est_modules.proofs.Standing.{program_at}
use Rattle.est_checks.proofs.library_check.order_of.Goals as goal
use Rattle.est_order.specs.PlaceOrders.{IsFaultOf}

pub returns-in-Err-Recursive-clause-err : goal.returns-in-Err-Recursive-clause-err
returns-in-Err-Recursive-clause-err c =
    let ps = map program_of c.args.modules.now in
    let first = subst (IsFaultOf (run_rows ps)) c.in-Err-Recursive.field-0-is c.in-Err-Recursive.ensures.err in
    let at = program_at ps c.in-Err-Recursive.place (omega (arith, first.there, length-map ps (places_run ps))) in
    inr (record {
      place = c.in-Err-Recursive.place;
      first = first;
      is = ap RecursiveRun (c.name_at.ensures at.0 at.1 ∙ name_there ps c.in-Err-Recursive.place at.0 at.1);
    })
