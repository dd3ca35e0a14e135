-- What a policy command is answered, and the policy list and the seat afterwards (this project's own form).
use Rattle.std.specs.Prelude.{◌≡◌, ℕ, ◌+◌, max, List, [], ◌∷◌, ◌++◌, length, Option, Some, None, if◌then◌else◌, Result}
use Rattle.std.specs.Prelude.{Ok, Err}
use Rattle.rbac_policy.specs.declared.commands.AdminCommand.{AdminCommand}
use Rattle.rbac_policy.specs.declared.commands.Entry.{Entry}
use Rattle.rbac_policy.specs.Entries.{is_login, logins}
use Rattle.rbac_admin.specs.AdminSteps.{ListRefusals, StepsOnList}
use Rattle.history_receipts.specs.declared.receipt.Kept.{Kept}
use Rattle.history_receipts.specs.declared.receipt.Kept.TheVariants.{Admin}
use Rattle.policy_board.specs.SeatState.{SeatState}
use Rattle.policy_board.specs.declared.refusal.BoardRefusal.{BoardRefusal}
use Rattle.policy_board.specs.declared.refusal.BoardRefusal.TheVariants.{Policy, JournalFull, Memory}
use Rattle.policy_board.specs.declared.seat.Acceptance.{Acceptance}

-- how the board tells why a policy command adds no entry
abbrev pub list_refusals : ListRefusals BoardRefusal
list_refusals = record { told = Policy; full = JournalFull; memory = Memory }

-- the session that the entry makes after these entries, where it is a login
abbrev pub session_made : List Entry → Entry → Option ℕ
session_made before entry = if is_login entry then Some (logins before + 1) else None

module _ {B : Type 0} where
  -- the answer is this refusal, and the list stays
  pub record IsRefused (refusal : BoardRefusal) (before : List Entry) (answer : Result (Acceptance B) BoardRefusal)
      (after : List Entry) : Type 0 where
    pub answered : answer ≡ Err refusal
    pub stays : after ≡ before

  -- the entry, and no other, is put at the end of the list. The answer is its `Acceptance`: the entry, the list that
  -- ends with it, and the session that it makes
  pub record IsPublished (entry : Entry) (before : List Entry) (answer : Result (Acceptance B) BoardRefusal)
      (after : List Entry) : Type 0 where
    pub acceptance : Acceptance B
    pub answered : answer ≡ Ok acceptance
    pub entry_is : acceptance.entry ≡ entry
    pub list_is : acceptance.list ≡ after
    pub session_is : acceptance.session ≡ session_made before entry
    pub appended : after ≡ before ++ entry ∷ []

  -- what the policy step answers on the list: its refusal, which leaves the list; or its entry, which is published,
  -- unless the list is full or memory is refused, which leave the list too
  abbrev pub BoardStep : (before : List Entry) → Option ℕ → AdminCommand → (answer : Result (Acceptance B) BoardRefusal)
      → (after : List Entry) → Type 0
  BoardStep before session command answer after =
      StepsOnList list_refusals before session command (λ refusal. IsRefused refusal before answer after)
      (λ entry. IsPublished entry before answer after)

-- the seat knows this list, and nothing else of it changes
abbrev pub seat_after : SeatState → List Entry → SeatState
seat_after old list = record old { known = list; seen = max old.seen (length list) }

module _ {B : Type 0} where
  -- what the seat keeps of a policy command with this answer, which leaves this list: of an accepted one a `Kept` of
  -- its entry, and of the version of the policy with it
  abbrev pub admin_receipt : (answer : Result (Acceptance B) BoardRefusal) → (after : List Entry) → List Kept
  admin_receipt (Ok acceptance) after = Admin (length after) acceptance.entry ∷ []
  admin_receipt (Err refusal) after = []

  -- the seat knows the whole list as the policy command leaves it, whatever the answer. The receipt of an accepted
  -- one stands at the end of its receipts; a refused one leaves them. Its own reader has no part in it
  pub record SeatAfter (old : SeatState) (answer : Result (Acceptance B) BoardRefusal) (after : List Entry)
      (new : SeatState) : Type 0 where
    pub known : new.known ≡ after
    pub seen : new.seen ≡ max old.seen (length after)
    pub read : new.read ≡ old.read
    pub kept : new.kept ≡ old.kept ++ admin_receipt answer after
