use Rattle.std.proofs.Common.{◌≡◌, ◌∙◌, ap, inr, subst, map, filter, List}
use mathlib.Core.Path.{fun_ext}
use Rattle.est_kernel.specs.Bits.{bits}
use Rattle.est_kernel.specs.declared.interface.Declaration.{Declaration}
use Rattle.access_core.specs.declared.refusal.Refusal.TheVariants.{Stuck}
use Rattle.access_core.specs.Shown.{Observes, name_at, places_of, names_of}
use Rattle.access_core.proofs.slot.refuse_stuck.Goals as goal

pub returns-in-Ok : goal.returns-in-Ok
returns-in-Ok c = λ entries stands.
    let interface = c.interface-interface.ensures in
    let same : c.interface-interface.result.now ≡ interface.0.interface = interface.2 in
    inr (record {
      undecided = c.args.stuck.undecided;
      none = c.requires;
      running = interface.0;
      runs = interface.1;
      sees = bits c.find_observed-seen.result;
      observes =
          subst (λ (ds : List Declaration). Observes entries c.args.session c.args.slot ds
          (bits c.find_observed-seen.result)) same (c.find_observed-seen.ensures entries stands);
      named = ap Stuck (c.in-Ok.ensures
          ∙ ap (λ p. map (name_at c.interface-interface.result.now)
          (filter p (places_of c.interface-interface.result.now))) (fun_ext c.keep_observed-undecided.ensures)
          ∙ ap (λ (ds : List Declaration). names_of ds (bits c.find_observed-seen.result) c.args.stuck.undecided) same);
    })
