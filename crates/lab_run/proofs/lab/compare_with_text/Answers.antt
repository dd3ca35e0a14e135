use Rattle.std.proofs.Common.{map, rules}
use Rattle.lab_lines.specs.Offers.{AreNamed}
use Rattle.lab_run.proofs.lab.compare_with_text.Goals as goal

pub returns : goal.returns
returns c =
    let named
    : AreNamed c.args.loaded.now.kernel.interface (map (λ t. t.now) c.args.scope.now.inputs.items) c.in-Ok.allowed =
    search rules in
    record {
      other = c.in-Ok-read_module.other;
      gives = c.in-Ok-read_module.ensures.given;
      allowed = c.in-Ok.allowed;
      named = named;
      right = rw (c.limits.ensures.states, c.limits.ensures.steps) at c.in_ok-value.ensures;
    }
