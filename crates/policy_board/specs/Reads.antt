-- What a seat's own read of the policy answers (this project's own form).
use Rattle.std.specs.Prelude.{◌≡◌, ◌⊎◌, ◌↔◌, ◌<◌, ◌≤◌, Bool, IsTrue, List, length, Result, MatchResult}
use Rattle.rbac_policy.specs.declared.commands.Entry.{Entry}
use Rattle.rbac_admin.specs.PolicyLists.{Begins, IsPolicyList}
use Rattle.policy_board.specs.SeatState.{SeatState, KeepsReceipts}
use Rattle.policy_board.specs.declared.refusal.BoardRefusal.{BoardRefusal}
use Rattle.policy_board.specs.declared.refusal.BoardRefusal.TheVariants.{Behind, Memory}

-- the seat's reader has read a policy list. It begins with all that this reader had read and all that the seat knew,
-- and is no shorter than the seat's seen number; the seat then knows it, and keeps its receipts
pub record HasRead (old : SeatState) (list : List Entry) (new : SeatState) : Type 0 where
  pub is_list : IsPolicyList list
  pub further : Begins old.read list
  pub later : Begins old.known list
  pub fresh : old.seen ≤ length list
  pub known : new.known ≡ list
  pub read : new.read ≡ list
  pub seen : new.seen ≡ length list
  pub receipts : KeepsReceipts old new

-- the policy list that the seat's reader then has, which begins with what it had, is shorter than the seat's seen
-- number, and the refusal tells both lengths. Nothing else of the seat changes
pub record IsBehind (old : SeatState) (refusal : BoardRefusal) (new : SeatState) : Type 0 where
  pub is_list : IsPolicyList new.read
  pub further : Begins old.read new.read
  pub stale : length new.read < old.seen
  pub answered : refusal ≡ Behind (length new.read) old.seen
  pub stays : new ≡ record old { read = new.read }

-- nothing could be read, and the seat stays as it was
pub record IsUnreadable (old : SeatState) (refusal : BoardRefusal) (new : SeatState) : Type 0 where
  pub answered : refusal ≡ Memory
  pub stays : new ≡ old

-- a read that is refused: what was read is too old (Behind), or nothing could be read
abbrev pub IsUnread : (old : SeatState) → BoardRefusal → (new : SeatState) → Type 0
IsUnread old refusal new = IsBehind old refusal new ⊎ IsUnreadable old refusal new

-- what is asked of the policy is answered for a list that the seat has read
pub record HasAsked (Fact : List Entry → Type 0) (old : SeatState) (said : Bool) (new : SeatState) : Type 0 where
  pub list : List Entry
  pub read : HasRead old list new
  pub answered : IsTrue said ↔ Fact list

-- the answer to what is asked of the policy: for a list that the seat has read, or a refusal
abbrev pub AnswersFor : (List Entry → Type 0) → SeatState → Result Bool BoardRefusal → SeatState → Type 0
AnswersFor Fact old answer new = MatchResult answer (λ said. HasAsked Fact old said new)
    (λ refusal. IsUnread old refusal new)
