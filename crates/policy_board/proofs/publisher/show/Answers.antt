use Rattle.std.proofs.Common.{◌≡◌, drop, ap, ◌∙◌}
use Rattle.rbac_policy.specs.Change.{absorbed}
use Rattle.rbac_policy.specs.declared.policy.Policy.{Policy}
use Rattle.policy_board.specs.BookPrefixes.{PrefixInBook}
use Rattle.policy_board.specs.Inner.Publishing.{IsPublishing}
use Rattle.policy_board.proofs.Publishing.{publishes, publishing_more, next_is}
use Rattle.policy_board.proofs.publisher.show.Goals as goal

pub publish_as-writer-requires : goal.publish_as-writer-requires
publish_as-writer-requires g c next same =
    let shown = ap (λ d. d.shown.value) c.append-writer.ensures.shown in
    publishes _ _ _ _ next (drop c.args.writer.behind c.args.writer.log.items) _ c.args.entry c.book_prefix.result
    (rw shown c.requires.before) (rw shown c.requires.accepted) c.book_prefix.ensures.1
    (c.book_prefix.ensures.0 ∙ rw shown c.requires.list) c.append-writer.ensures.pending same

pub returns-clause-after : goal.returns-clause-after
returns-clause-after g c =
    let State : Type 0 = Policy × PrefixInBook in
    let shown = ap (λ d. d.shown.value) c.append-writer.ensures.shown in
    let x = c.append-writer.result.desk.shown.value in
    let y = c.publish_as-writer.result.0.desk.shown.value in
    let before = drop c.args.writer.behind c.args.writer.log.items in
    let was : IsPublishing g.B.BoardName.book x.policy x.book_prefix before = rw shown c.requires.before in
    let next : State = (y.policy, y.book_prefix) in
    let values = rw c.in-Ok.is at c.publish_as-writer.ensures.values in
    let now : next ≡ (absorbed x.policy c.args.entry, c.book_prefix.result) =
    next_is x.policy x.book_prefix c.args.entry c.book_prefix.result before _ next was.resting
    c.append-writer.ensures.pending
    values.0 in
    rw (ap (λ (s : State). s.0) now, ap (λ (s : State). s.1) now, values.1)
    (publishing_more _ x.policy x.book_prefix before c.args.entry c.book_prefix.result was
    (rw shown c.requires.accepted) c.book_prefix.ensures.1 (c.book_prefix.ensures.0 ∙ rw shown c.requires.list))
