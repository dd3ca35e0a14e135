-- What an answer leaves in the seat before the seat knows the list (this project's own form).
use Rattle.std.specs.Prelude.{◌≡◌, List, ◌++◌, Result}
use Rattle.rbac_policy.specs.declared.commands.Entry.{Entry}
use Rattle.policy_board.specs.SeatState.{SeatState}
use Rattle.policy_board.specs.PolicyCommands.{admin_receipt}
use Rattle.policy_board.specs.declared.refusal.BoardRefusal.{BoardRefusal}
use Rattle.policy_board.specs.declared.seat.Acceptance.{Acceptance}

-- the receipt of an accepted command stands at the end of the receipts, which a refused one leaves; what the seat has
-- seen stays
pub record KeepsAnswer {B : Type 0} (old : SeatState) (answer : Result (Acceptance B) BoardRefusal) (after : List Entry)
    (new : SeatState) : Type 0 where
  pub known : new.known ≡ old.known
  pub seen : new.seen ≡ old.seen
  pub read : new.read ≡ old.read
  pub kept : new.kept ≡ old.kept ++ admin_receipt answer after
