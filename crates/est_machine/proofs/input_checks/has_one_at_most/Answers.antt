use Rattle.std.proofs.Common.{◌∙◌, refl, sym}
use Rattle.est_kernel.specs.Bits.{bits}
use Rattle.est_machine.proofs.OneOffered.{none_is_kept, one_or_two}
use Rattle.est_machine.proofs.input_checks.has_one_at_most.Goals as goal

pub returns-in-Some : goal.returns-in-Some
returns-in-Some c =
    one_or_two (bits c.args.inputs) (bits c.difference.result) c.args.members.now c.in-Some.first.index
    c.first_in-in-Some.result
    c.is_none.result c.difference.ensures c.single.ensures (sym c.first_in.ensures ∙ rw c.in-Some.is refl)
    c.first_in-in-Some.ensures c.is_none.ensures

pub returns-in-None : goal.returns-in-None
returns-in-None c = sym (none_is_kept (bits c.args.inputs) c.args.members.now (sym c.first_in.ensures ∙ rw
    c.in-None.is refl))
