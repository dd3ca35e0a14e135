use Rattle.std.proofs.Common.{length, sym, ◌∙◌, ap}
use Rattle.rbac_admin.specs.PolicyLists.{IsAccepted}
use Rattle.policy_board.proofs.Adding.{adds_moves}
use Rattle.policy_board.proofs.board_list.add_to.Goals as goal

pub compare_exchange-found-requires : goal.compare_exchange-found-requires
compare_exchange-found-requires c =
    let h = c.requires.head in
    let offer = c.plain-offer.ensures in
    let pen = c.no_pen-pen.ensures in
    let e = c.args.entry.now in
    let log = ap (λ x. x.log) c.again-seen.ensures in
    let book =
    ap (λ x. x.book) c.again-seen.ensures ∙ (ap (λ t. t.book) c.book_prefix.view_is ∙ sym (ap (λ w. w.book) h)) in
    let may : IsAccepted c.again-seen.result.log e = rw (log, ap (λ t. t.list) c.book_prefix.view_is)
    c.requires.accepted in (
      ap (λ w. w.tracked) h,
      book,
      pen.0 ∙ book,
      offer.0,
      rw (ap (λ w. w.key) h, pen.1, offer.1, offer.3)
          (adds_moves c.again-seen.result.log e c.book_prefix.inside.count
          (ap length log ∙ sym c.book_prefix.invariant.0) may),
    )
