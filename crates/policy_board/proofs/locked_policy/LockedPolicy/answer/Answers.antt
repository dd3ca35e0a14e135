use Rattle.std.proofs.Common.{◌≡◌, Some, List, sym, ap, ◌∙◌, subst}
use Rattle.std.specs.Option.{option_copied}
use Rattle.rbac_policy.specs.declared.commands.Entry.{Entry}
use Rattle.rbac_admin.specs.PolicyLists.{Begins}
use Rattle.policy_board.specs.SeatState.{SeatState}
use Rattle.policy_board.specs.PolicyCommands.{seat_after}
use Rattle.policy_board.proofs.Receipts.{receipt_tells, seat_answered}
use Rattle.policy_board.proofs.locked_policy.LockedPolicy.answer.Goals as goal

pub note_known-requires-in-Ok : goal.note_known-requires-in-Ok
note_known-requires-in-Ok g c =
    let journal = c.self.inside.journal in
    let is : Some c.unwrap-publisher.result.now ≡ Some journal =
    ap option_copied (sym c.unwrap-publisher.ensures) ∙ (c.as_ref.ensures.value ∙ c.self.invariant) in
    let same : c.unwrap-publisher.result.now ≡ journal = cc (is) in
    let tells = receipt_tells c.args.self.now c.args.session c.args.command c.decide_and_append-answer.result
    c.decide_and_append-answer.new.self c.in-Ok.acceptance c.decide_and_append-answer.ensures.step c.in-Ok.is in
    let known : c.decide_and_append-answer.new.seat.known ≡ c.args.self.now =
    c.decide_and_append-answer.ensures.seat.known
    ∙ (ap (λ (s : SeatState). s.known) c.note_known-2.ensures ∙ (c.prefix.ensures ∙ (same ∙ c.self.view_is))) in
    let list : c.list.result.now ≡ c.decide_and_append-answer.new.self = c.list.ensures ∙ tells.list_is in
    subst (λ (l : List Entry). Begins l c.list.result.now) (sym known)
    (subst (λ (m : List Entry). Begins c.args.self.now m) (sym list) tells.later)

pub returns-in-Ok-clause-seat : goal.returns-in-Ok-clause-seat
returns-in-Ok-clause-seat g c =
    let journal = c.self.inside.journal in
    let is : Some c.unwrap-publisher.result.now ≡ Some journal =
    ap option_copied (sym c.unwrap-publisher.ensures) ∙ (c.as_ref.ensures.value ∙ c.self.invariant) in
    let same : c.unwrap-publisher.result.now ≡ journal = cc (is) in
    let tells = receipt_tells c.args.self.now c.args.session c.args.command c.decide_and_append-answer.result
    c.decide_and_append-answer.new.self c.in-Ok.acceptance c.decide_and_append-answer.ensures.step c.in-Ok.is in
    let prefix : c.prefix.result ≡ c.args.self.now = c.prefix.ensures ∙ (same ∙ c.self.view_is) in
    let first : c.note_known-2.new.self ≡ seat_after c.args.seat.now c.args.self.now =
    c.note_known-2.ensures ∙ ap (λ (l : List Entry). seat_after c.args.seat.now l) prefix in
    let list : c.list.result.now ≡ c.decide_and_append-answer.new.self = c.list.ensures ∙ tells.list_is in
    let last : c.note_known-in-Ok.new.self
    ≡ seat_after c.decide_and_append-answer.new.seat c.decide_and_append-answer.new.self =
    c.note_known-in-Ok.ensures ∙ ap (λ (m : List Entry). seat_after c.decide_and_append-answer.new.seat m) list in
    seat_answered c.args.seat.now c.note_known-2.new.self c.decide_and_append-answer.new.seat
    c.note_known-in-Ok.new.self
    c.args.self.now
    c.decide_and_append-answer.new.self c.decide_and_append-answer.result
    tells.later first c.decide_and_append-answer.ensures.seat last
