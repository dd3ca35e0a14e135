use Rattle.std.proofs.Common.{◌∙◌}
use Rattle.policy_board.proofs.Publishing.{publishing_first}
use Rattle.policy_board.proofs.opening.open_writer.Goals as goal

pub returns : goal.returns
returns g c =
    let made = c.in_ok-writer.ensures in
    let list = c.book_prefix.ensures.0 ∙ c.requires.opening in
    rw made.0 (list, publishing_first _ _ _ _ c.book_prefix.ensures.1 list c.opening.ensures.stands made.1)
