use Rattle.std.proofs.Common.{◌∙◌, sym}
use Rattle.est_kernel.specs.Pauses.{pauses_of}
use Rattle.est_machine.proofs.Pauses.{exclusive, is_exclusive, own}
use Rattle.est_machine.proofs.valid_states.can_pause_at.Goals as goal

pub returns : goal.returns
returns c =
    let s = c.args.s.now in
    let f = pauses_of c.args.pauses.now in
    let g = pauses_of c.remove_own.new.pauses in (
      λ h. record {
        live = sym c.has_live.ensures ∙ c.if-not-has_live.false;
        exclusive = is_exclusive s f (sym c.is_exclusive.ensures ∙ h);
        own = own s f g c.remove_own.ensures (c.is_empty.ensures.0 c.if-not-is_empty.false);
      },
      λ h. c.is_exclusive.ensures ∙ exclusive s f h.exclusive,
    )
