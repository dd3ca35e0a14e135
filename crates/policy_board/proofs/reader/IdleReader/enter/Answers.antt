use Rattle.policy_board.proofs.Rules.{reads}
use Rattle.policy_board.proofs.reader.IdleReader.enter.Goals as goal

pub enter_as-requires : goal.enter_as-requires
enter_as-requires g c = reads (λ x. x.book_prefix.book) _ (λ x. x.policy) (λ x. x.book_prefix.list) _ _
