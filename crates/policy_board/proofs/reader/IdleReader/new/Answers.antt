use Rattle.policy_board.proofs.Rules.{admits}
use Rattle.policy_board.proofs.reader.IdleReader.new.Goals as goal

pub reader-requires : goal.reader-requires
reader-requires g c = admits (λ x. x.book_prefix.book) _ (λ x. x.policy) (λ x. x.book_prefix.list)
