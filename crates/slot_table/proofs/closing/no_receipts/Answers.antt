use Rattle.std.proofs.Common.{rules, ℕ, List, []}
use Rattle.history_receipts.specs.declared.receipt.Kept.{Kept}
use Rattle.history_receipts.specs.declared.receipt_list.TheConstants.{SEATS}
use Rattle.access_core.proofs.Places.{by_places}
use Rattle.slot_table.proofs.closing.no_receipts.Goals as goal

pub returns : goal.returns
returns c =
    let made = c.from_fn.ensures.items in
    let none : ℕ → List Kept = λ _. [] in
    by_places none c.from_fn.result 0 SEATS made.long (λ i other below.
    let call = made.at i other below in
    search (rules, call.2, below))
