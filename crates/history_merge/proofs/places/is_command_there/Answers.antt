use Rattle.std.proofs.Common.{sym, arith}
use Rattle.history_merge.proofs.Standing.{told, untold}
use Rattle.history_merge.proofs.places.is_command_there.Goals as goal

pub returns-in-None : goal.returns-in-None
returns-in-None c = (
  λ t. absurd cc,
  λ h. absurd (untold c.args.policy.now c.args.journals.now c.args.receipt.now (sym c.in-None.ensures) h),
)

pub returns-in-Some : goal.returns-in-Some
returns-in-Some c =
    told c.args.policy.now c.args.journals.now c.args.receipt.now _ _ (omega arith) (omega arith) (omega arith)
    (omega arith) (sym c.in-Some.ensures) c.tells.ensures
