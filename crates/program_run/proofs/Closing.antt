-- What is known of the seats of workers that ended, and of the journals of a closed server.
use Rattle.std.proofs.Common.{◌≡◌, ◌∙◌, ◌<◌, ◌+◌, [], ◌∷◌, List, Some, ℕ, Bool, length, refl, ap, subst, suc, unwrap_or}
use Rattle.std.proofs.Common.{slice_get}
use Rattle.std.proofs.Common.{replicate}
use Rattle.std.proofs.lemmas.List.{length-replicate}
use Rattle.std.proofs.lemmas.Option.{slice_get_within}
use Rattle.rbac_policy.specs.declared.commands.Entry.{Entry}
use Rattle.rbac_policy.specs.declared.objects.TheConstants.{SLOTS}
use Rattle.rbac_admin.specs.PolicyLists.{IsPolicyList}
use Rattle.reactor_core.specs.declared.entry.SlotEntry.{SlotEntry}
use Rattle.access_core.specs.Journals.{IsLegal}
use Rattle.server_threads.specs.Turns.{AreBack, AreBackFrom}
use Rattle.slot_table.specs.Closing.{AreLegal}
use Rattle.audit_report.specs.Findings.{HaveNoFinding}

-- as many seats come back as there were
back_from : {Seat : Type 0} (turn : (worker number : ℕ) → Seat → Seat → Type 0) (turns : ℕ) (all : Bool) (worker : ℕ)
    (before after : List Seat) → AreBackFrom turn turns all worker before after → length after ≡ length before
back_from turn turns all worker [] [] back = refl
back_from turn turns all worker [] (new ∷ news) back = absurd back
back_from turn turns all worker (old ∷ olds) [] back = absurd back
back_from turn turns all worker (old ∷ olds) (new ∷ news) back =
    ap suc (back_from turn turns all (worker + 1) olds news back.1)

-- of n seats that were alike, n come back
pub as_many : {Seat : Type 0} (turn : (worker number : ℕ) → Seat → Seat → Type 0) (turns : ℕ) (all : Bool)
    (workers : ℕ) (seat : Seat) (before after : List Seat) → before ≡ replicate workers seat
    → AreBack turn turns all before after → length after ≡ workers
as_many turn turns all workers seat before after alike back =
    back_from turn turns all 0 before after back ∙ (ap length alike ∙ length-replicate workers seat)

-- in legal journals over a policy list an audit finds nothing
pub nothing_is_found : (policy : List Entry) (slots : List (List SlotEntry)) → length slots ≡ SLOTS
    → IsPolicyList policy
    → AreLegal policy slots → HaveNoFinding policy slots
nothing_is_found policy slots sixteen list legal = record {
  policy = list;
  journals = λ number journal there.
      let within : number < SLOTS = rw (← sixteen) (slice_get_within slots number journal there) in
      subst (IsLegal policy number) (ap (λ found. unwrap_or found []) there) (legal number within);
}
