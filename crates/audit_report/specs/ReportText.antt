-- The text of an audit's report, as bytes (this project's own form).
use Rattle.std.specs.Prelude.{ℕ, ◌+◌, Bool, true, false, List, [], ◌∷◌, ◌++◌, Result, Ok, Err, length, codes, decimal}
use Rattle.std.specs.Prelude.{count_by}
use Rattle.rbac_policy.specs.declared.commands.Entry.{Entry}
use Rattle.reactor_core.specs.Meaning.{PastMove}
use Rattle.reactor_core.specs.declared.entry.Move.TheVariants.{Load, Step}
use Rattle.reactor_core.specs.declared.entry.SlotEntry.{SlotEntry}
use Rattle.audit_report.specs.declared.finding.Finding.{Finding}
use Rattle.audit_report.specs.declared.finding.Finding.TheVariants.{Policy, Version, Refused, Reaction, Memory}

-- the move is a load
abbrev pub is_load : PastMove → Bool
is_load (Load l) = true
is_load _ = false

-- the move is a step
abbrev pub is_step : PastMove → Bool
is_step (Step i) = true
is_step _ = false

-- the line of the policy list
abbrev pub policy_line : List Entry → List ℕ
policy_line entries = codes "policy: " ++ (decimal (length entries) ++ codes " entries\n")

-- the line of a slot: how many entries its journal has, and how many of them are loads and steps
abbrev pub counts_line : (slot : ℕ) → List SlotEntry → List ℕ
counts_line slot journal =
    codes "slot " ++ (decimal slot ++ (codes ": " ++ (decimal (length journal) ++ (codes " entries, "
    ++ (decimal (count_by (λ (e : SlotEntry). is_load e.done) journal) ++ (codes " loads, "
    ++ (decimal (count_by (λ (e : SlotEntry). is_step e.done) journal) ++ codes " instants\n")))))))

-- the line of a slot, if its journal has entries
abbrev pub slot_line : (slot : ℕ) → List SlotEntry → List ℕ
slot_line slot [] = []
slot_line slot (e ∷ later) = counts_line slot (e ∷ later)

-- the lines of slots, which are numbered from this one on
abbrev pub slot_lines : (slot : ℕ) → List (List SlotEntry) → List ℕ
slot_lines slot [] = []
slot_lines slot (journal ∷ others) = slot_line slot journal ++ slot_lines (slot + 1) others

-- the text of a finding: its kind, and then its slot, its place and its refusal's number, where it has them
abbrev pub finding_text : Finding → List ℕ
finding_text (Policy place) = codes "policy " ++ decimal place
finding_text (Version slot place) = codes "version " ++ (decimal slot ++ (codes " " ++ decimal place))
finding_text (Refused slot place code) =
    codes "refused " ++ (decimal slot ++ (codes " " ++ (decimal place ++ (codes " " ++ decimal code))))
finding_text (Reaction slot place) = codes "reaction " ++ (decimal slot ++ (codes " " ++ decimal place))
finding_text Memory = codes "memory"

-- the text of a verdict
abbrev pub verdict_text : Result (Unit {0}) Finding → List ℕ
verdict_text (Ok done) = codes "ok"
verdict_text (Err finding) = finding_text finding

-- the report: the policy list, the slots that have entries, and the verdict
abbrev pub report_text : List Entry → (slots : List (List SlotEntry)) → Result (Unit {0}) Finding → List ℕ
report_text entries slots verdict =
    policy_line entries ++ (slot_lines 0 slots ++ (codes "check: " ++ (verdict_text verdict ++ codes "\n")))
