-- What an acceptance tells, and the seat of a command that is answered.
use Rattle.std.proofs.Common.{◌≡◌, ℕ, ◌≤◌, max, List, ◌++◌, length, sym, ap, ◌∙◌, subst, arith}
use Rattle.std.specs.Prelude.{Option, Result, Ok, Err, MatchResult}
use Rattle.refusal_rules.specs.Rules.{accept, MayRefuse, ◌▸◌, Answers}
use Rattle.refusal_rules.proofs.RuleLemmas.{all_passed}
use Rattle.rbac_policy.specs.declared.commands.AdminCommand.{AdminCommand}
use Rattle.rbac_policy.specs.declared.commands.Entry.{Entry}
use Rattle.rbac_admin.specs.declared.refusal.PolicyRefusal.{PolicyRefusal}
use Rattle.rbac_admin.specs.PolicyLists.{Begins}
use Rattle.rbac_admin.specs.Room.{list_full}
use Rattle.policy_board.specs.SeatState.{SeatState}
use Rattle.policy_board.specs.PolicyCommands.{BoardStep, IsPublished, IsRefused, SeatAfter, admin_receipt, seat_after}
use Rattle.policy_board.specs.Inner.Keeping.{KeepsAnswer}
use Rattle.history_receipts.specs.declared.receipt.Kept.{Kept}
use Rattle.policy_board.specs.declared.refusal.BoardRefusal.{BoardRefusal}
use Rattle.policy_board.specs.declared.refusal.BoardRefusal.TheVariants.{Policy, JournalFull, Memory}
use Rattle.policy_board.specs.declared.seat.Acceptance.{Acceptance}
use Rattle.policy_board.proofs.Beginnings.{begins_push, begins_length}

module _ {B : Type 0} where
  -- what an acceptance by this step tells of the list
  pub record Tells (before : List Entry) (acceptance : Acceptance B) (after : List Entry) : Type 0 where
    pub list_is : acceptance.list ≡ after
    pub later : Begins before after

  published_tells : (before : List Entry) (acceptance : Acceptance B) (after : List Entry) (e : Entry)
      → IsPublished e before (Ok acceptance) after → Tells before acceptance after
  published_tells before acceptance after e p =
      let same : acceptance ≡ p.acceptance = (let is = p.answered in cc) in
      record {
        list_is = ap (λ (r : Acceptance B). r.list) same ∙ p.list_is;
        later = subst (Begins before) (sym p.appended) (begins_push before e);
      }

  replied_tells : (before : List Entry) (acceptance : Acceptance B) (after : List Entry)
      (decided : Result Entry PolicyRefusal)
      → MatchResult decided
      (λ e. Answers (list_full JournalFull before e ▸ MayRefuse Memory ▸ accept)
      (λ r. IsRefused r before (Ok acceptance) after) (IsPublished e before (Ok acceptance) after))
      (λ r. IsRefused (Policy r) before (Ok acceptance) after)
      → Tells before acceptance after
  replied_tells before acceptance after (Ok e) h =
      let all = all_passed (list_full JournalFull before e ▸ MayRefuse Memory ▸ accept)
      (λ (r : BoardRefusal). IsRefused r before (Ok acceptance) after) (IsPublished e before (Ok acceptance) after)
      (λ r refused. let is = refused.answered in absurd cc) h in
      published_tells before acceptance after e all.1
  replied_tells before acceptance after (Err r) h = let is = h.answered in absurd cc

  -- the acceptance of a command has the list after it, which begins with the list before it
  pub receipt_tells : (before : List Entry) (session : Option ℕ) (command : AdminCommand)
      (answer : Result (Acceptance B) BoardRefusal) (after : List Entry) (acceptance : Acceptance B)
      → BoardStep before session command answer after → answer ≡ Ok acceptance → Tells before acceptance after
  receipt_tells before session command answer after acceptance step is =
      let step' : BoardStep before session command (Ok acceptance) after =
      subst (λ a. BoardStep before session command a after) is step in
      replied_tells before acceptance after step'.answer step'.replied

-- a seat that knows a list, keeps an answer's receipt, and then knows the longer list that the answer leaves, is as
-- the command leaves it
pub seat_answered : {B : Type 0} (seat known kept new : SeatState) (l m : List Entry)
    (answer : Result (Acceptance B) BoardRefusal) → Begins l m → known ≡ seat_after seat l
    → KeepsAnswer known answer m kept → new ≡ seat_after kept m → SeatAfter seat answer m new
seat_answered seat known kept new l m answer b first keeps last =
    let le : length l ≤ length m = begins_length b in
    let seen : known.seen ≡ max seat.seen (length l) = ap (λ (s : SeatState). s.seen) first in
    let was : known.kept ≡ seat.kept = ap (λ (s : SeatState). s.kept) first in
    let now : new.seen ≡ max kept.seen (length m) = ap (λ (s : SeatState). s.seen) last in
    record {
      known = ap (λ (s : SeatState). s.known) last;
      seen = omega (arith, le, seen, now, keeps.seen);
      read = ap (λ (s : SeatState). s.read) last ∙ (keeps.read ∙ ap (λ (s : SeatState). s.read) first);
      kept = ap (λ (s : SeatState). s.kept) last
          ∙ (keeps.kept ∙ ap (λ (ks : List Kept). ks ++ admin_receipt answer m) was);
    }
