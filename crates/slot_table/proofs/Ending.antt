-- The slots of a closing server end with journals that are legal.
use Rattle.std.proofs.Common.{◌≡◌, ◌∙◌, ℕ, zero, suc, ◌+◌, ◌<◌, List, ◌∷◌, length, refl, sym, subst, arith}
use Rattle.std.specs.Prelude.{IsNone, Result, Ok, Err, MatchResult, IfOk, IfErr, OnOk}
use Rattle.rbac_policy.specs.declared.commands.Entry.{Entry}
use Rattle.rbac_policy.specs.declared.objects.TheConstants.{SLOTS}
use Rattle.rbac_admin.specs.PolicyLists.{Begins}
use Rattle.reactor_core.specs.declared.entry.SlotEntry.{SlotEntry}
use Rattle.history_receipts.specs.declared.mismatch.TheConstants.{POLICY_LIST}
use Rattle.history_receipts.specs.declared.mismatch.Mismatch.{Mismatch}
use Rattle.history_receipts.specs.declared.mismatch.Mismatch.TheVariants.{Count}
use Rattle.history_merge.specs.Order.{part_at}
use Rattle.access_core.specs.Journals.{IsLegal}
use Rattle.access_core.proofs.Legality.{still_legal}
use Rattle.slot_table.specs.Closing.{AreLegal, ClosingState}
use Rattle.slot_table.specs.Inner.Ending.{Ends, EndFrom, all_ended, one_ended}

-- a journal that is legal over what its reader has seen is legal over the policy list that begins with it
pub handed_legal : (seen policy : List Entry) (slot : ℕ) (journal : List SlotEntry)
    (handed : Result (Unit {0}) Mismatch) → IsLegal seen slot journal
    → MatchResult handed (λ _. Begins seen policy)
    (λ mismatch. (mismatch ≡ Count POLICY_LIST) × (length policy < length seen))
    → MatchResult handed (λ _. IsLegal policy slot journal)
    (λ mismatch. (mismatch ≡ Count POLICY_LIST) × (length policy < length seen))
handed_legal seen policy slot journal (Ok done) legal begins = still_legal seen policy slot journal begins legal
handed_legal seen policy slot journal (Err mismatch) legal more = more

-- the journals of the slots from this number on are legal over the policy list
LegalFrom : (policy : List Entry) → (slot : ℕ) → List (List SlotEntry) → Type 0
LegalFrom policy slot journals = (at : ℕ) → at < length journals → IsLegal policy (slot + at) (part_at journals at)

legal_next : (policy : List Entry) (slot : ℕ) (journal : List SlotEntry) (journals : List (List SlotEntry))
    → IsLegal policy slot journal
    → LegalFrom policy (slot + 1) journals → LegalFrom policy slot (journal ∷ journals)
unfolding LegalFrom
legal_next policy slot journal journals here later zero low =
    subst (λ n. IsLegal policy n journal) (let e : slot ≡ slot + 0 = omega arith in e) here
legal_next policy slot journal journals here later (suc at) low =
    subst (λ n. IsLegal policy n (part_at journals at)) (let e : slot + 1 + at ≡ slot + suc at = omega arith in e)
    (later at (omega arith))

-- what the slots that ended one after the other leave: the policy list, and where there is still no fault, none
-- before and legal journals
record Left (slot : ℕ) (old : ClosingState) (journals : List (List SlotEntry)) (new : ClosingState) : Type 0 where
  policy : new.policy ≡ old.policy
  legal : IsNone new.fault → IsNone old.fault × LegalFrom old.policy slot journals

left_of : {slot : ℕ} {old new : ClosingState} {journals : List (List SlotEntry)} → EndFrom slot old journals new
    → Left slot old journals new
unfolding LegalFrom
left_of all_ended = record { policy = refl; legal = λ none. (none, λ at low. absurd (omega arith)) }
left_of {slot} {old} (one_ended {journal = journal} {journals = journals} here later) =
    let left = left_of later in
    record {
      policy = left.policy ∙ here.policy;
      legal = λ none.
          let after = left.legal none in
          let now = here.legal after.0 in (
            now.0,
            legal_next old.policy slot journal journals now.1
                (subst (λ (p : List Entry). LegalFrom p (slot + 1) journals) here.policy after.1),
          );
    }

infixr 4 ◌▹◌
-- one slot more has ended, before the others
abbrev pub ◌▹◌ : {slot : ℕ} {old next new : ClosingState} {journal : List SlotEntry} {journals : List (List SlotEntry)}
    → Ends slot old journal next
    → EndFrom (slot + 1) next journals new → EndFrom slot old (journal ∷ journals) new
here ▹ later = one_ended here later

-- where all slots have ended and there is no fault, their journals are legal over the policy list
pub all_legal : (old : ClosingState) (journals : List (List SlotEntry)) (new : ClosingState)
    → EndFrom 0 old journals new → length journals ≡ SLOTS
    → IsNone new.fault → AreLegal new.policy journals
unfolding LegalFrom
all_legal old journals new ends sixteen none = λ slot low.
    let left = left_of ends in
    let legal = (left.legal none).1 slot (subst (λ n. slot < n) (sym sixteen) low) in
    subst (λ (p : List Entry). IsLegal p slot (part_at journals slot)) (sym left.policy)
    (subst (λ n. IsLegal old.policy n (part_at journals slot)) (let e : 0 + slot ≡ slot = omega arith in e) legal)

-- what is given back where all is well has what was asked of it
pub given_back : {A E : Type 0} (Has : A → Type 0) (result : Result A E) (given : A) → IfOk result (λ a. a ≡ given)
    → OnOk result (Has given)
    → IfOk result Has
given_back Has (Ok a) given same has = subst Has (sym same) has
given_back Has (Err e) given same has = tt

-- an error that has the one has the other
pub err_weaker : {A E : Type 0} (result : Result A E) (Has Other : E → Type 0) → ((e : E) → Has e → Other e)
    → IfErr result Has → IfErr result Other
err_weaker (Ok a) Has Other weaker has = tt
err_weaker (Err e) Has Other weaker has = weaker e has
