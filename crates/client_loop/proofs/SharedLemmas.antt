-- What the board answers, as the reply of a desk of one client.
use Rattle.std.proofs.Common.{◌≡◌, ◌∙◌, inl, inr, ℕ, ◌+◌, List, [], ◌∷◌, ◌++◌, length, refl, sym, ap, subst, Option}
use Rattle.std.proofs.Common.{Some, None, Result, Ok, Err, MatchResult, if◌then◌else◌, true}
use Rattle.std.proofs.lemmas.List.{append-nil, length-append}
use Rattle.refusal_rules.specs.Rules.{accept, MayRefuse, ◌▸◌, Answers}
use Rattle.refusal_rules.proofs.RuleLemmas.{all_passed}
use Rattle.std.specs.Prelude.{IfOk, IfErr}
use Rattle.rbac_policy.specs.declared.commands.AdminCommand.{AdminCommand}
use Rattle.rbac_policy.specs.declared.commands.AdminCommand.TheVariants.{AddUser, DeleteUser, AddRole, DeleteRole}
use Rattle.rbac_policy.specs.declared.commands.AdminCommand.TheVariants.{AssignUser, DeassignUser, GrantPermission}
use Rattle.rbac_policy.specs.declared.commands.AdminCommand.TheVariants.{RevokePermission, AddInheritance}
use Rattle.rbac_policy.specs.declared.commands.AdminCommand.TheVariants.{DeleteInheritance, CreateDsdSet, DeleteDsdSet}
use Rattle.rbac_policy.specs.declared.commands.AdminCommand.TheVariants.{CreateSession, DeleteSession, AddActiveRole}
use Rattle.rbac_policy.specs.declared.commands.AdminCommand.TheVariants.{DropActiveRole}
use Rattle.rbac_policy.specs.declared.commands.Entry.{Entry}
use Rattle.rbac_policy.specs.Entries.{is_login, logins}
use Rattle.rbac_admin.specs.declared.refusal.PolicyRefusal.{PolicyRefusal}
use Rattle.rbac_admin.specs.Room as room
use Rattle.rbac_admin.specs.declared.refusal.PolicyRefusal.TheVariants as policy
use Rattle.rbac_admin.specs.PolicyStep.{PolicyStep, entry_of}
use Rattle.access_core.specs.declared.refusal.Refusal.TheVariants.{Policy, JournalFull, Memory}
use Rattle.client_loop.specs.Asking.{IsLogoutReply}
use Rattle.access_core.specs.declared.reply.PolicyWord.{PolicyWord}
use Rattle.access_core.specs.declared.reply.Reply.{Reply}
use Rattle.access_core.specs.declared.reply.Reply.TheVariants.{Refused, Login, Changed}
use Rattle.access_core.specs.Answering.{ByRules, IsRefused, no_memory}
use Rattle.access_core.specs.Desk.{DeskState, AdminStep, Appends, list_full, change_of, accepted_reply, reply_of_change}
use Rattle.access_core.specs.SlotState.{SlotState}
use Rattle.policy_board.specs.declared.refusal.BoardRefusal.{BoardRefusal}
use Rattle.policy_board.specs.declared.refusal.BoardRefusal.TheVariants as board
use Rattle.policy_board.specs.declared.seat.Acceptance.{Acceptance}
use Rattle.policy_board.specs.PolicyCommands as board_step
use Rattle.policy_board.specs.PolicyCommands.{IsPublished, session_made}
use Rattle.policy_board.specs.SeatState.{SeatState}
use Rattle.history_receipts.specs.declared.receipt.Kept.TheVariants.{Admin}
use Rattle.slot_table.specs.Conversions.{refusal_of_board}
use Rattle.client_loop.specs.SharedAnswers.{KeepsAdded, desk_with}

-- only a login makes no change
login_makes_session : (command : AdminCommand) (session : Option ℕ) → change_of command ≡ None
    → is_login (record { session = session; command = command }) ≡ true
login_makes_session (AddUser user) session is = absurd cc
login_makes_session (DeleteUser user) session is = absurd cc
login_makes_session (AddRole role) session is = absurd cc
login_makes_session (DeleteRole role) session is = absurd cc
login_makes_session (AssignUser user role) session is = absurd cc
login_makes_session (DeassignUser user role) session is = absurd cc
login_makes_session (GrantPermission role operation object) session is = absurd cc
login_makes_session (RevokePermission role operation object) session is = absurd cc
login_makes_session (AddInheritance senior junior) session is = absurd cc
login_makes_session (DeleteInheritance senior junior) session is = absurd cc
login_makes_session (CreateDsdSet set count roles) session is = absurd cc
login_makes_session (DeleteDsdSet set) session is = absurd cc
login_makes_session (CreateSession user roles) session is = refl
login_makes_session DeleteSession session is = absurd cc
login_makes_session (AddActiveRole role) session is = absurd cc
login_makes_session (DropActiveRole role) session is = absurd cc

module _ {B : Type 0} where
  -- what the acceptance of a published entry tells
  record Tells (acceptance : Acceptance B) (entry : Entry) (before : List Entry) : Type 0 where
    pub entry_is : acceptance.entry ≡ entry
    pub version : length acceptance.list ≡ length before + 1
    pub session : acceptance.session ≡ session_made before entry

  published_tells : (acceptance : Acceptance B) (entry : Entry) (before after : List Entry)
      → IsPublished entry before (Ok acceptance) after → Tells acceptance entry before
  published_tells acceptance entry before after p =
      let same : acceptance ≡ p.acceptance = (let is = p.answered in cc) in
      let list : acceptance.list ≡ before ++ entry ∷ [] = ap (λ (r : Acceptance B). r.list) same
      ∙ (p.list_is ∙ p.appended) in
      record {
        entry_is = ap (λ (r : Acceptance B). r.entry) same ∙ p.entry_is;
        version = ap (λ (l : List Entry). length l) list ∙ length-append before (entry ∷ []);
        session = ap (λ (r : Acceptance B). r.session) same ∙ p.session_is;
      }

  -- the reply to an acceptance whose command makes this change
  pub reply_changed : (acceptance : Acceptance B) (entry : Entry) (before after : List Entry) (change : PolicyWord)
      → IsPublished entry before (Ok acceptance) after
      → change_of acceptance.entry.command ≡ Some change → Changed change (length acceptance.list)
      ≡ accepted_reply before entry.command
  reply_changed acceptance entry before after change p is =
      let t = published_tells acceptance entry before after p in
      let made : change_of entry.command ≡ Some change = subst
      (λ (e : Entry). change_of e.command ≡ Some change) t.entry_is is in
      ap (λ n. Changed change n) t.version ∙ sym (ap (λ c. reply_of_change c before) made)

  -- the acceptance of a login has the session that it made
  pub session_of_login : (acceptance : Acceptance B) (entry : Entry) (before after : List Entry)
      → IsPublished entry before (Ok acceptance) after
      → change_of acceptance.entry.command ≡ None → acceptance.session ≡ Some (logins before + 1)
  session_of_login acceptance entry before after p is =
      let t = published_tells acceptance entry before after p in
      let made : change_of entry.command ≡ None = subst (λ (e : Entry). change_of e.command ≡ None) t.entry_is is in
      t.session ∙ ap (λ b. if b then Some (logins before + 1) else None)
      (login_makes_session entry.command entry.session made)

  -- the reply to the acceptance of a login
  pub reply_login : (acceptance : Acceptance B) (entry : Entry) (before after : List Entry) (session : ℕ)
      → IsPublished entry before (Ok acceptance) after
      → change_of acceptance.entry.command ≡ None → acceptance.session ≡ Some session
      → Login session (length acceptance.list) ≡ accepted_reply before entry.command
  reply_login acceptance entry before after session p is made =
      let t = published_tells acceptance entry before after p in
      let none : change_of entry.command ≡ None = subst (λ (e : Entry). change_of e.command ≡ None) t.entry_is is in
      let number : session ≡ logins before + 1 =
      (let a = sym made ∙ session_of_login acceptance entry before after p is in cc) in
      ap (λ n. Login n (length acceptance.list)) number
      ∙ (ap (λ n. Login (logins before + 1) n) t.version ∙ sym (ap (λ c. reply_of_change c before) none))

  -- an accepted command published an entry
  published_by : (old new : List Entry) (acceptance : Acceptance B) (decided : Result Entry PolicyRefusal)
      → MatchResult decided
      (λ entry. Answers (room.list_full board.JournalFull old entry ▸ MayRefuse board.Memory ▸ accept)
      (λ refusal. board_step.IsRefused refusal old (Ok acceptance) new) (IsPublished entry old (Ok acceptance) new))
      (λ refusal. board_step.IsRefused (board.Policy refusal) old (Ok acceptance) new)
      → (entry : Entry) × IsPublished entry old (Ok acceptance) new
  published_by old new acceptance (Ok e) h =
      let all = all_passed (room.list_full board.JournalFull old e ▸ MayRefuse board.Memory ▸ accept)
      (λ (r : BoardRefusal). board_step.IsRefused r old (Ok acceptance) new) (IsPublished e old (Ok acceptance) new)
      (λ r refused. let is = refused.answered in absurd cc) h in
      (e, all.1)
  published_by old new acceptance (Err r) h = let is = h.answered in absurd cc

  -- a refused command left the list
  stayed_by : (old new : List Entry) (answer : Result (Acceptance B) BoardRefusal) (refusal : BoardRefusal)
      (decided : Result Entry PolicyRefusal) → answer ≡ Err refusal
      → MatchResult decided
      (λ entry. Answers (room.list_full board.JournalFull old entry ▸ MayRefuse board.Memory ▸ accept)
      (λ r. board_step.IsRefused r old answer new) (IsPublished entry old answer new))
      (λ r. board_step.IsRefused (board.Policy r) old answer new)
      → new ≡ old
  stayed_by old new answer refusal (Ok e) is (inl r) = r.answered.stays
  stayed_by old new answer refusal (Ok e) is (inr p) = later p.next where
    later : Answers (MayRefuse board.Memory ▸ accept) (λ r. board_step.IsRefused r old answer new)
        (IsPublished e old answer new) → new ≡ old
    later (inl m) = m.answered.stays
    later (inr q) = let was = q.next.answered in absurd cc
  stayed_by old new answer refusal (Err r) is h = h.stays

  -- the seat keeps the receipt of the entry that the command added, if it added one
  pub keeps_added : (old new : List Entry) (answer : Result (Acceptance B) BoardRefusal) (seat after : SeatState)
      (session : Option ℕ) (command : AdminCommand)
      → board_step.BoardStep old session command answer new → board_step.SeatAfter seat answer new after
      → KeepsAdded old new seat after
  keeps_added old new (Ok acceptance) seat after session command step keeps =
      let p = published_by old new acceptance step.answer step.replied in
      let entry : acceptance.entry ≡ p.0 = (published_tells acceptance p.0 old new p.1).entry_is in
      inr (p.0, p.1.appended, keeps.kept ∙ ap (λ (e : Entry). seat.kept ++ Admin (length new) e ∷ []) entry)
  keeps_added old new (Err refusal) seat after session command step keeps =
      inl (stayed_by old new (Err refusal) refusal step.answer refl step.replied, keeps.kept ∙ append-nil seat.kept)

  -- the receipt, if the answer is one, is of a published entry
  pub published : (session : Option ℕ) (command : AdminCommand) (old new : List Entry)
      (answer : Result (Acceptance B) BoardRefusal)
      → board_step.BoardStep old session command answer new
      → IfOk answer
      (λ acceptance. (entry : Entry) × (o : List Entry) × (n : List Entry) × IsPublished entry o (Ok acceptance) n)
  published session command old new (Ok acceptance) step = let p = published_by old new acceptance step.answer
      step.replied in
      (p.0, old, new, p.1)
  published session command old new (Err refusal) step = tt

  module _ (slots : List SlotState) (old new : List Entry) (answer : Result (Acceptance B) BoardRefusal)
      (given : Reply) where
    refused_same : (refusal : BoardRefusal) → given ≡ Refused (refusal_of_board refusal) → new ≡ old
        → IsRefused (refusal_of_board refusal) (desk_with old slots) given (desk_with new slots)
    refused_same refusal replied stays = record { replied = replied; stays = ap (λ l. desk_with l slots) stays }

    decided_same : ((refusal : BoardRefusal) → answer ≡ Err refusal → given ≡ Refused (refusal_of_board refusal))
        → ((entry : Entry) → IsPublished entry old answer new → given ≡ accepted_reply old entry.command)
        → (decided : Result Entry PolicyRefusal)
        → MatchResult decided
        (λ entry. Answers (room.list_full board.JournalFull old entry ▸ MayRefuse board.Memory ▸ accept)
        (λ refusal. board_step.IsRefused refusal old answer new) (IsPublished entry old answer new))
        (λ refusal. board_step.IsRefused (board.Policy refusal) old answer new)
        → MatchResult decided
        (λ entry. ByRules (list_full old entry ▸ no_memory ▸ accept) (Appends entry) (desk_with old slots) given
        (desk_with new slots))
        (λ refusal. IsRefused (Policy refusal) (desk_with old slots) given (desk_with new slots))
    decided_same refused accepted (Err refusal) h = refused_same (board.Policy refusal)
        (refused (board.Policy refusal) h.answered) h.stays
    decided_same refused accepted (Ok entry) (inl r) =
        let replied : given ≡ Refused JournalFull = refused r.refusal r.answered.answered
        ∙ ap (λ (x : BoardRefusal). Refused (refusal_of_board x)) r.given.0 in
        inl (record {
          refusal = JournalFull;
          given = (refl, λ room. r.given.1 (room));
          answered = refused_same board.JournalFull replied r.answered.stays;
        })
    decided_same refused accepted (Ok entry) (inr p) = inr (record { passed = p.passed; next = later p.next }) where
      later : Answers (MayRefuse board.Memory ▸ accept) (λ refusal. board_step.IsRefused refusal old answer new)
          (IsPublished entry old answer new)
          → ByRules (no_memory ▸ accept) (Appends entry) (desk_with old slots) given (desk_with new slots)
      later (inl m) =
          let replied : given ≡ Refused Memory = refused m.refusal m.answered.answered
          ∙ ap (λ (x : BoardRefusal). Refused (refusal_of_board x)) m.given in
          inl (record { refusal = Memory; given = refl; answered = refused_same board.Memory replied m.answered.stays })
      later (inr q) = inr (record {
        passed = tt;
        next = record { replied = accepted entry q.next; appended = ap (λ l. desk_with l slots) q.next.appended };
      })

    refused_at : IfErr answer (λ refusal. given ≡ Refused (refusal_of_board refusal)) → (refusal : BoardRefusal)
        → answer ≡ Err refusal → given ≡ Refused (refusal_of_board refusal)
    refused_at h refusal is = subst (λ (a : Result (Acceptance B) BoardRefusal). IfErr a
        (λ r. given ≡ Refused (refusal_of_board r))) is
        h

    -- the board's answer to a policy command is a desk's, where the reply is made so of it
    pub step_same : (session : Option ℕ) (command : AdminCommand)
        → IfErr answer (λ refusal. given ≡ Refused (refusal_of_board refusal))
        → ((entry : Entry) → IsPublished entry old answer new → given ≡ accepted_reply old entry.command)
        → board_step.BoardStep old session command answer new
        → AdminStep session command (desk_with old slots) given (desk_with new slots)
    step_same session command refused accepted step = record {
      answer = step.answer;
      given = step.given;
      replied = decided_same (refused_at refused) accepted step.answer step.replied;
    }

-- a logout is answered by its change, or refused because its session had ended, or for want of memory
pub logout_reply : (session : Option ℕ) (before : DeskState) (given : Reply) (after : DeskState)
    → AdminStep session DeleteSession before given after → IsLogoutReply given
logout_reply session before given after step = by_policy step.given step.replied where
  of_reply : (known : Reply) → IsLogoutReply known → given ≡ known → IsLogoutReply given
  of_reply known is same = subst (λ (r : Reply). IsLogoutReply r) (sym same) is

  Replied : Result Entry PolicyRefusal → Type 0
  Replied answer = MatchResult answer
      (λ entry. ByRules (list_full before.entries entry ▸ no_memory ▸ accept) (Appends entry) before given after)
      (λ refusal. IsRefused (Policy refusal) before given after)

  accepted : (entry : Entry) → entry.command ≡ DeleteSession
      → ByRules (list_full before.entries entry ▸ no_memory ▸ accept) (Appends entry) before given after
      → IsLogoutReply given
  accepted entry is (inl r) = absurd (r.given.1 (inl is))
  accepted entry is (inr p) = by_memory p.next where
    by_memory : ByRules (no_memory ▸ accept) (Appends entry) before given after → IsLogoutReply given
    by_memory (inl m) = of_reply (Refused Memory) tt (m.answered.replied ∙ ap (λ r. Refused r) m.given)
    by_memory (inr q) = of_reply (accepted_reply before.entries DeleteSession) tt
        (q.next.replied ∙ ap (λ c. accepted_reply before.entries c) is)

  by_policy : PolicyStep before.entries session DeleteSession step.answer → Replied step.answer → IsLogoutReply given
  by_policy (inl r) replied =
      let refused : step.answer ≡ Err policy.NoSession = r.answered ∙ ap (λ x. Err x) r.given.0 in
      of_reply (Refused (Policy policy.NoSession)) tt (subst Replied refused replied).replied
  by_policy (inr p) replied = accepted (entry_of session DeleteSession) refl (subst Replied p.next replied)
