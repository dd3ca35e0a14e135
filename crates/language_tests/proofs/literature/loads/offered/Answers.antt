use Rattle.std.proofs.Common.{ap, sym, ◌∙◌}
use Rattle.std.proofs.lemmas.Bool.{and_parts}
use Rattle.est_kernel.specs.Interfaces.{offerable}
use Rattle.est_kernel.specs.Bits.{bits}
use Rattle.language_tests.proofs.literature.loads.offered.Goals as goal

pub returns : goal.returns
returns c n h = sym (ap (λ f. f n) (c.offerable.ensures ∙ ap offerable c.interface.ensures))
    ∙ (and_parts (bits c.args.present n) (bits c.offerable.result n) (sym (c.intersection.ensures n) ∙ h)).1
