-- Whether the policy step gives an entry for its own session and command.
use Rattle.std.proofs.Common.{◌≡◌, ◌∙◌, ℕ, List, refl, ap, subst}
use Rattle.std.specs.Prelude.{Option, Result, Ok, Err}
use Rattle.rbac_policy.specs.declared.commands.AdminCommand.{AdminCommand}
use Rattle.rbac_policy.specs.declared.commands.AdminCommand.TheVariants.{CreateSession}
use Rattle.rbac_policy.specs.declared.commands.Entry.{Entry}
use Rattle.rbac_admin.specs.declared.refusal.PolicyRefusal.{PolicyRefusal}
use Rattle.rbac_admin.specs.PolicyStep.{PolicyStep, entry_of}
use Rattle.rbac_admin.specs.Room.{HasRoomFor}
use Rattle.rbac_admin.specs.PolicyLists.{IsAccepted}
use Rattle.rbac_admin.proofs.Accepted.{accepted_entry}
use Rattle.rbac_admin.proofs.OneAnswer.{one_answer}

-- an accepted entry has the command that was given
same_command : (session : Option ℕ) (command : AdminCommand) → (entry_of session command).command ≡ command
same_command session (CreateSession user roles) = refl
same_command session command = refl

same_ok : (a b : Entry) → (let r : Result Entry PolicyRefusal = Ok a in r) ≡ Ok b → a ≡ b
same_ok a b e = cc

no_ok : (a : PolicyRefusal) (b : Entry) → (let r : Result Entry PolicyRefusal = Err a in r) ≡ Ok b → ⊥
no_ok a b e = absurd cc

module _ (before : List Entry) (entry asked : Entry) (copied : asked ≡ entry) where
  stepped : (answer : Result Entry PolicyRefusal) → PolicyStep before asked.session asked.command answer
      → PolicyStep before entry.session entry.command answer
  stepped answer step = subst (λ (e : Entry). PolicyStep before e.session e.command answer) copied step

  -- what is given with the entry's own session is the entry
  pub gives : (given : Entry) → PolicyStep before asked.session asked.command (Ok given)
      → HasRoomFor entry.command before
      → given.session ≡ entry.session → IsAccepted before entry
  gives given step room same =
      let own = stepped (Ok given) step in
      let command : given.command ≡ entry.command =
      ap (λ (e : Entry). e.command) (accepted_entry before entry.session entry.command given own)
      ∙ same_command entry.session entry.command in
      let whole : given ≡ entry =
      ap (λ s. let e : Entry = record { session = s; command = given.command } in e) same
      ∙ ap (λ c. let e : Entry = record { session = entry.session; command = c } in e) command in
      record {
        step = subst (λ (e : Entry). PolicyStep before entry.session entry.command (Ok e)) whole own;
        room = room;
      }

  -- where the entry is accepted, it is what is given
  pub given_is : (given : Entry) → PolicyStep before asked.session asked.command (Ok given) → IsAccepted before entry
      → given.session ≡ entry.session
  given_is given step accepted =
      ap (λ (e : Entry). e.session)
      (same_ok given entry
      (one_answer before entry.session entry.command (Ok given) (Ok entry) (stepped (Ok given) step) accepted.step))

  -- where the command is refused, the entry is not accepted
  pub refuses : (refusal : PolicyRefusal) → PolicyStep before asked.session asked.command (Err refusal)
      → IsAccepted before entry → ⊥
  refuses refusal step accepted =
      no_ok refusal entry
      (one_answer before entry.session entry.command (Err refusal) (Ok entry)
      (stepped (Err refusal) step) accepted.step)
