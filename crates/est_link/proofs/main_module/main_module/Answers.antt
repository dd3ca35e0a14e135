use Rattle.std.proofs.Common.{sym, subst}
use Rattle.est_modules.specs.Modules.{program_of}
use Rattle.est_link.proofs.MainRelating.{over_inputs}
use Rattle.est_link.proofs.main_module.main_module.Goals as goal
use Rattle.est_reduce.specs.Bound.{IsBound}
use Rattle.est_reduce.specs.Views.{body_of}
use Rattle.est_relations.specs.Keeping.{AreOverInputs}

pub invariant_of-result : goal.invariant_of-result
invariant_of-result c =
    let p = program_of c.args.home.now in
    let rs = c.in-Ok.relations in
    let interface = c.in-Ok.ensures.interface in
    record {
      over_inputs = subst (λ ds. AreOverInputs ds rs) (sym interface)
          (over_inputs p rs c.requires.distinct c.requires.lawful c.in-Ok.ensures.relations);
      bound = subst (λ ds. IsBound ds 0 0 (body_of c.args.body)) (sym interface) c.requires.bound;
    }
