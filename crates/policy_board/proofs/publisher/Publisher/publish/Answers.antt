use Rattle.std.proofs.Common.{sym, subst}
use Rattle.rbac_admin.specs.PolicyLists.{IsAccepted}
use Rattle.rbac_admin.proofs.PolicyListLemmas.{few_entries}
use Rattle.policy_board.proofs.publisher.Publisher.publish.Goals as goal

pub add_entry-prefix-requires-clause-room : goal.add_entry-prefix-requires-clause-room
add_entry-prefix-requires-clause-room g c =
    let list = c.self.inside.writer.desk.shown.value.book_prefix.list in
    let accepted : IsAccepted list c.args.entry = subst (λ l. IsAccepted l c.args.entry)
    (sym c.self.view_is) c.requires in
    rw (c.prefix-prefix.ensures, ← c.self.view_is) (few_entries list c.args.entry c.self.invariant.leaves accepted)
