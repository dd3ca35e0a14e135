use Rattle.std.proofs.Common.{rules, ◌≡◌, ◌≤◌, List, length, refl, inl, inr, sym, subst, Result, Ok, Err}
use Rattle.std.specs.Prelude.{IsNone, OnOk}
use Rattle.std.proofs.lemmas.List.{length-map}
use Rattle.std.proofs.lemmas.Result.{IfOk-weaker, err_from_is_err_and}
use Rattle.rbac_policy.specs.declared.commands.Entry.{Entry}
use Rattle.rbac_policy.specs.declared.objects.TheConstants.{SLOTS}
use Rattle.rbac_admin.specs.PolicyLists.{IsPolicyList}
use Rattle.history_receipts.specs.declared.receipt_list.TheConstants.{SEATS}
use Rattle.policy_board.specs.SeatState.{SeatState}
use Rattle.history_merge.specs.OneList.{AreOfOneList}
use Rattle.history_laws.specs.CallsInTurn.{AreOfOneRun}
use Rattle.history_merge.specs.Mismatches.{IsMismatch}
use Rattle.slot_table.specs.declared.closing.Histories.{Histories}
use Rattle.slot_table.specs.Closing.{AreLegal, IsJustified, kept_of}
use Rattle.slot_table.proofs.Ending.{all_legal, err_weaker, given_back}
use Rattle.slot_table.proofs.table.SlotTable.close.Given.{Over}
use Rattle.slot_table.proofs.table.SlotTable.close.Goals as goal
use Rattle.slot_table.proofs.table.SlotTable.close.Goals.{After-compare_histories}

-- what follows on Ok from what holds on Ok
still_so : {A E : Type 0} (result : Result A E) (One Other : Type 0) → (One → Other) → OnOk result One
    → OnOk result Other
still_so (Ok a) One Other follows one = follows one
still_so (Err e) One Other follows one = tt

-- the journals are legal over the policy journal
legal_of : (g : Over) (c : After-compare_histories g) → AreLegal c.in_ok-policy.policy c.end-slots.result
legal_of g c =
    let slots = c.end-slots.result in
    let told = c.in_ok-policy.ensures.journal in
    let sixteen : length slots ≡ SLOTS = search rules in
    subst (λ (p : List Entry). AreLegal p slots) (sym told.0)
    (all_legal c.begin-closing.result slots c.end-slots.new.closing c.end-slots.ensures sixteen
    (subst IsNone (sym told.1) refl))

pub returns-in_err-policy-clause-err : goal.returns-in_err-policy-clause-err
returns-in_err-policy-clause-err g c =
    let p = err_from_is_err_and c.from_residual.result c.from_residual.ensures.1 in
    rw (p.1, p.2)
    (record {
      policy = c.end-slots.new.closing.policy;
      is_list = c.journal.ensures.list;
      fault = inr c.in_err-policy.ensures.err;
    })

pub returns-clause-one : goal.returns-clause-one
returns-clause-one g c =
    given_back (λ (h : Histories). AreOfOneList h.policy h.slots (kept_of c.args.seats.items))
    c.compare_histories.result _
    c.compare_histories.ensures.same c.compare_histories.ensures.one

pub returns-clause-run : goal.returns-clause-run
returns-clause-run g c =
    let kept = kept_of c.args.seats.items in
    let policy = c.in_ok-policy.policy in
    let slots = c.end-slots.result in
    let sixteen : length slots ≡ SLOTS = search rules in
    let told = c.in_ok-policy.ensures.journal in
    let list : IsPolicyList policy = subst IsPolicyList (sym told.0) c.journal.ensures.list in
    let few : length kept ≤ SEATS = subst (λ n. n ≤ SEATS)
    (sym (length-map c.args.seats.items (λ (s : SeatState). s.kept))) (search (rules, c.requires.few)) in
    let law = c.journals_are_of_one_run.ensures policy slots kept sixteen few list (legal_of g c) in
    given_back (λ (h : Histories). AreOfOneRun h.policy h.slots kept) c.compare_histories.result _
    c.compare_histories.ensures.same
    (still_so c.compare_histories.result _ _ law c.compare_histories.ensures.one)

pub returns-clause-legal : goal.returns-clause-legal
returns-clause-legal g c =
    IfOk-weaker c.compare_histories.result _ (λ (h : Histories). AreLegal h.policy h.slots)
    (λ h same. subst (λ (h : Histories). AreLegal h.policy h.slots) (sym same) (legal_of g c))
    c.compare_histories.ensures.same

pub returns-clause-err : goal.returns-clause-err
returns-clause-err g c =
    let told = c.in_ok-policy.ensures.journal in
    let sixteen : length c.end-slots.result ≡ SLOTS = search rules in
    err_weaker c.compare_histories.result
    (IsMismatch c.in_ok-policy.policy c.end-slots.result (kept_of c.args.seats.items))
    (IsJustified (kept_of c.args.seats.items)) (λ mismatch differs. record {
      policy = c.in_ok-policy.policy;
      is_list = search (rules, told.0, c.journal.ensures.list);
      fault = inl (record { slots = c.end-slots.result; sixteen = sixteen; legal = legal_of g c; differs = differs });
    }) c.compare_histories.ensures.err
