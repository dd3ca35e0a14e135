-- With status 0 it is the machine of `start`, and with any other the status is a fault's.
use Rattle.std.proofs.Common.{sym, ◌∙◌}
use Rattle.est_embed.proofs.Faults.{told}
use Rattle.est_embed.specs.Handing.{handed, refused}
use Rattle.est_embed.proofs.exports.hand_out.Goals as goal

pub returns-in-Ok-clause-handed : goal.returns-in-Ok-clause-handed
returns-in-Ok-clause-handed c =
    rw c.of-at.ensures.0 (rw c.of-at.ensures.2 (handed c.in-Ok.running.value c.in-Ok.ensures.started))

pub returns-in-Err-clause-handed : goal.returns-in-Err-clause-handed
returns-in-Err-clause-handed c =
    rw c.refused.ensures.2 (refused (λ e. told c.in-Err.ensures.told (sym c.refused.ensures.0 ∙ e)))
