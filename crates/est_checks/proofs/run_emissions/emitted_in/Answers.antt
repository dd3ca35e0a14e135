use Rattle.std.proofs.Common.{sym, ◌∙◌, map}
use Rattle.est_modules.specs.declared.interface.Declared.{Declared}
use Rattle.est_checks.specs.Emissions.{emitted_of}
use Rattle.est_checks.proofs.Leaving.{none_left}
use Rattle.est_checks.proofs.run_emissions.emitted_in.Goals as goal

pub returns-in-None : goal.returns-in-None
returns-in-None c =
    c.new.ensures.items
    ∙ sym (none_left (emitted_of c.args.table.now c.args.name.now)
    (map (λ (d : Declared). d.name) c.args.interface.now) (λ n. sym (c.in-None.ensures n)))
