-- The lines of one slot more.
use Rattle.std.proofs.Common.{◌≡◌, ◌∙◌, ℕ, ◌+◌, ◌<◌, List, [], ◌∷◌, ◌++◌, length, take, sym, ap, arith, append_assoc}
use Rattle.std.proofs.Common.{append-nil}
use Rattle.std.specs.Prelude.{Some, slice_get}
use Rattle.std.proofs.lemmas.List.{take_more, length-take-le}
use Rattle.std.proofs.lemmas.Option.{get_or_from_slice_get, slice_get_within}
use Rattle.reactor_core.specs.declared.entry.SlotEntry.{SlotEntry}
use Rattle.audit_report.specs.ReportText.{slot_line, slot_lines}

lines_push : (slot : ℕ) (xs : List (List SlotEntry)) (x : List SlotEntry)
    → slot_lines slot (xs ++ x ∷ []) ≡ slot_lines slot xs ++ slot_line (slot + length xs) x
lines_push slot [] x =
    let same : slot ≡ slot + 0 = omega arith in
    append-nil (slot_line slot x) ∙ ap (λ k. slot_line k x) same
lines_push slot (y ∷ ys) x =
    let same : slot + 1 + length ys ≡ slot + length (y ∷ ys) = omega arith in
    ap (λ t. slot_line slot y ++ t)
    (lines_push (slot + 1) ys x ∙ ap (λ k. slot_lines (slot + 1) ys ++ slot_line k x) same)
    ∙ sym (append_assoc (slot_line slot y) (slot_lines (slot + 1) ys) (slot_line (slot + length (y ∷ ys)) x))

-- the lines of the slots up to the next
pub lines_more : (slots : List (List SlotEntry)) (at : ℕ) (journal : List SlotEntry) → slice_get slots at ≡ Some journal
    → slot_lines 0 (take (at + 1) slots) ≡ slot_lines 0 (take at slots) ++ slot_line at journal
lines_more slots at journal there =
    let low : at < length slots = slice_get_within slots at journal there in
    let next : take (at + 1) slots ≡ take at slots ++ journal ∷ [] =
    take_more slots at journal low ∙ ap (λ x. take at slots ++ x ∷ [])
    (get_or_from_slice_get slots at journal journal there) in
    let long : 0 + length (take at slots) ≡ at = omega (arith, length-take-le at slots (omega arith)) in
    ap (slot_lines 0) next ∙ lines_push 0 (take at slots) journal
    ∙ ap (λ k. slot_lines 0 (take at slots) ++ slot_line k journal) long
