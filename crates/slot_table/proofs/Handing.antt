-- The seats hand their receipts over, from the last one on.
use Rattle.std.proofs.Common.{◌≡◌, ◌∙◌, ℕ, ◌+◌, ◌-◌, ◌≤◌, List, [], ◌∷◌, ◌++◌, length, take, sym, ap, arith}
use Rattle.std.proofs.Common.{append_assoc, length-append}
use Rattle.std.specs.Prelude.{slice_set}
use Rattle.std.proofs.Math.ListN.{replicate}
use Rattle.std.proofs.Math.Seq.{set-append_seam, take-append_seam}
use Rattle.std.proofs.lemmas.List.{append-nil, length-map, length-replicate, replicate-append-replicate, replicate_more}
use Rattle.history_receipts.specs.declared.receipt.Kept.{Kept}
use Rattle.history_receipts.specs.declared.receipt_list.TheConstants.{SEATS}
use Rattle.policy_board.specs.SeatState.{SeatState}
use Rattle.slot_table.specs.Closing.{kept_of}

abbrev none_kept : ℕ → List (List Kept)
none_kept n = replicate n []

-- no receipts of the seats that are left, then those of the seats that were taken, and none after them
pub record AreHanded (all left : List SeatState) (receipts : List (List Kept)) : Type 0 where
  pub taken : List SeatState
  pub whole : left ++ taken ≡ all
  pub handed : receipts ≡ none_kept (length left) ++ (kept_of taken ++ none_kept (SEATS - length all))

-- none is handed over yet
pub none_handed : (all : List SeatState) (receipts : List (List Kept)) → length all ≤ SEATS → receipts ≡ none_kept SEATS
    → AreHanded all all receipts
none_handed all receipts few none = record {
  taken = [];
  whole = append-nil all;
  handed =
      none ∙ (ap none_kept (let e : SEATS ≡ length all + (SEATS - length all) = omega arith in e)
      ∙ sym (replicate-append-replicate (length all) (SEATS - length all) []));
}

-- one seat more
pub one_handed : (all left : List SeatState) (seat : SeatState) (receipts : List (List Kept))
    → AreHanded all (left ++ seat ∷ []) receipts
    → AreHanded all left (slice_set receipts (length left) seat.kept)
one_handed all left seat receipts handed =
    let n = length left in
    let rest = kept_of handed.taken ++ none_kept (SEATS - length all) in
    let more : none_kept (length (left ++ seat ∷ [])) ≡ none_kept n ++ [] ∷ [] =
    ap none_kept (length-append left (seat ∷ [])) ∙ sym (replicate_more n []) in
    let before : receipts ≡ none_kept n ++ [] ∷ rest =
    handed.handed ∙ (ap (λ l. l ++ rest) more ∙ append_assoc (none_kept n) ([] ∷ []) rest) in
    let long : length (none_kept n) ≡ n = length-replicate n [] in
    record {
      taken = seat ∷ handed.taken;
      whole = sym (append_assoc left (seat ∷ []) handed.taken) ∙ handed.whole;
      handed =
          ap (λ l. slice_set l n seat.kept) before
          ∙ (ap (λ m. slice_set (none_kept n ++ [] ∷ rest) m seat.kept) (sym long)
          ∙ set-append_seam (none_kept n) [] rest seat.kept);
    }
