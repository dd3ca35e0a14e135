-- The status with which the program ends (this project's own form).
use Rattle.std.specs.Prelude.{◌||◌, ◌&&◌, ℕ, Bool, true, false, List, Option, Some, None, codes, if◌then◌else◌}
use Rattle.std.specs.Option.{option_map_or}
use Rattle.std.specs.Str.{bytes_eq}
use Rattle.serde_json.specs.Data.{Data, null, boolean, number, string, array, object, Items, no_items, item}
use Rattle.serde_json.specs.Find.{get}
use Rattle.serde_json.specs.View.{view}
use Rattle.access_core.specs.declared.refusal.Refusal.TheVariants as refusal
use Rattle.lab_run.specs.declared.lab.LabReply.{LabReply}
use Rattle.lab_run.specs.declared.lab.LabReply.TheVariants.{Refused, Json, Line}

-- the value is this text
abbrev pub is_text : (word : List ℕ) → Data → Bool
is_text word (string s) = bytes_eq s word
is_text word _ = false

-- the verdict is told by this word
abbrev pub is_told_by : (word : List ℕ) → Data → Bool
is_told_by word d = option_map_or (is_text word) (get (codes "verdict") d) false

-- one of the items passes the test, and each does
abbrev pub any_item : (Data → Bool) → Items → Bool
any_item p no_items = false
any_item p (item d ds) = p d || any_item p ds

abbrev pub all_items : (Data → Bool) → Items → Bool
all_items p no_items = true
all_items p (item d ds) = p d && all_items p ds

-- a claim fails, of the verdicts on the claim that no instant is Stuck and on the others
abbrev pub one_fails : (stuck : Data) → (verdicts : Items) → Bool
one_fails stuck verdicts = is_told_by (codes "fails") stuck || any_item (is_told_by (codes "fails")) verdicts

-- each claim holds, of the same
abbrev pub each_holds : (stuck : Data) → (verdicts : Items) → Bool
each_holds stuck verdicts = is_told_by (codes "holds") stuck && all_items (is_told_by (codes "holds")) verdicts

-- the status of these verdicts
abbrev pub status_by : (stuck : Data) → (verdicts : Items) → ℕ
status_by stuck verdicts = if one_fails stuck verdicts then 1 else (if each_holds stuck verdicts then 0 else 3)

-- the same of a list of verdicts
abbrev pub status_by_list : (stuck verdicts : Data) → ℕ
status_by_list stuck (array ds) = status_by stuck ds
status_by_list stuck _ = 2

-- the same where both may be missing
abbrev pub status_if : (stuck verdicts : Option Data) → ℕ
status_if (Some stuck) (Some verdicts) = status_by_list stuck verdicts
status_if _ _ = 2

-- the status of what is found of claims
abbrev pub status_in : Data → ℕ
status_in d = status_if (get (codes "stuck") d) (get (codes "verdicts") d)

-- the status of what is told: 0 where each claim holds, 1 where one fails, 3 where it is not known, and 2 where
-- something can't be read
abbrev pub status_of : LabReply → ℕ
status_of (Refused refusal.Memory) = 3
status_of (Refused _) = 2
status_of (Json v) = status_in (view v)
status_of (Line line) = 2
