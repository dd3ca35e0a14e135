use Rattle.std.proofs.Common.{rules, ◌≡◌, ℕ, List, length, sym, subst, [], ◌∷◌, ◌++◌, slice_set}
use Rattle.history_receipts.specs.declared.receipt.Kept.{Kept}
use Rattle.policy_board.specs.SeatState.{SeatState}
use Rattle.slot_table.proofs.Handing.{AreHanded, none_handed, one_handed}
use Rattle.slot_table.proofs.closing.receipts_of.Goals as goal

pub loop-seat-init : goal.loop-seat-init
loop-seat-init g c = none_handed c.args.seats.items c.no_receipts-receipts.result
    (search rules) c.no_receipts-receipts.ensures

pub loop-seat-preserved : goal.loop-seat-preserved
loop-seat-preserved g c =
    let all = c.args.seats.items in
    let left = c.pop.new.self.items in
    let receipts = c.loop-seat.receipts in
    let seat : SeatState = c.in-Some.seat in
    let count : length left ≡ c.len.result = search rules in
    let before : AreHanded all (left ++ seat ∷ []) receipts =
    subst (λ (l : List SeatState). AreHanded all l receipts) c.in-Some.ensures.items c.loop-seat.invariant in
    subst (λ (k : List Kept). AreHanded all left (slice_set receipts c.len.result k)) (sym c.into_receipts.ensures)
    (subst (λ (n : ℕ). AreHanded all left (slice_set receipts n seat.kept)) count
    (one_handed all left seat receipts before))
