-- A seat that has read.
use Rattle.std.proofs.Common.{◌≡◌, ◌↔◌, ℕ, List, [], refl, sym, ap, subst}
use Rattle.std.specs.Prelude.{Bool, IsTrue, Option, Some, unwrap_or}
use Rattle.rbac_policy.specs.declared.commands.Entry.{Entry}
use Rattle.rbac_admin.specs.PolicyLists.{Begins}
use Rattle.history_receipts.specs.declared.receipt.Kept.{Kept}
use Rattle.policy_board.specs.Reads.{HasRead, HasAsked}
use Rattle.policy_board.specs.SeatState.{SeatState}
use Rattle.policy_board.specs.Inner.Reading.{IsRead}

-- the list that its reader has read is known, and the reader is back
has_read : (reader : Option (List Entry)) (read list left known after : List Entry) (seen number : ℕ) (kept : List Kept)
    (room : ℕ)
    → reader ≡ Some read → left ≡ list
    → IsRead read (record { known = known; seen = seen }) list (record { known = after; seen = number })
    → HasRead (record { known = known; read = unwrap_or reader []; seen = seen; kept = kept; room = room }) list
    (record { known = after; read = left; seen = number; kept = kept; room = room })
has_read reader read list left known after seen number kept room there back r = record {
  is_list = r.is_list;
  further = subst (λ (l : List Entry). Begins l list) (sym (ap (λ (o : Option (List Entry)). unwrap_or o []) there))
      r.further;
  later = r.later;
  fresh = r.fresh;
  known = r.known;
  read = back;
  seen = r.seen;
  receipts = (refl, refl);
}

-- and what is asked of the policy is answered for that list
pub has_asked : (Fact : List Entry → Type 0) (said : Bool) (reader : Option (List Entry))
    (read list left known after : List Entry) (seen number : ℕ)
    (kept : List Kept) (room : ℕ) (old : SeatState)
    → record { known = known; read = unwrap_or reader []; seen = seen; kept = kept; room = room } ≡ old
    → reader ≡ Some read → left ≡ list
    → IsRead read (record { known = known; seen = seen }) list (record { known = after; seen = number })
    → (IsTrue said ↔ Fact list)
    → HasAsked Fact old said (record { known = after; read = left; seen = number; kept = kept; room = room })
has_asked Fact said reader read list left known after seen number kept room old is there back r answered =
    let new : SeatState = record { known = after; read = left; seen = number; kept = kept; room = room } in
    subst (λ (s : SeatState). HasAsked Fact s said new) is (record {
      list = list;
      read = has_read reader read list left known after seen number kept room there back r;
      answered = answered;
    })
