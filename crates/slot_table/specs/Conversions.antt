-- The refusals of the board, as refusals of `access_core` (this project's own form).
use Rattle.access_core.specs.declared.refusal.Refusal.{Refusal}
use Rattle.access_core.specs.declared.refusal.Refusal.TheVariants.{Policy, Behind, JournalFull, Memory}
use Rattle.policy_board.specs.declared.refusal.BoardRefusal.{BoardRefusal}
use Rattle.policy_board.specs.declared.refusal.BoardRefusal.TheVariants as board

-- the refusal of a call of the board
abbrev pub refusal_of_board : BoardRefusal → Refusal
refusal_of_board (board.Policy refusal) = Policy refusal
refusal_of_board board.JournalFull = JournalFull
refusal_of_board (board.Behind found seen) = Behind found seen
refusal_of_board board.Memory = Memory
