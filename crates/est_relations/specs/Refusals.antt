-- The refusals of an offer and of the beginning of an instant: what each tells (this project's own table).
use Rattle.std.specs.Prelude.{ℕ, List, [], ◌∷◌, codes}
use Rattle.refusal_rules.specs.Rows.{Row, tells, Number, Text}
use Rattle.est_relations.specs.declared.refusal.PendingRefusal.{PendingRefusal}
use Rattle.est_relations.specs.declared.refusal.PendingRefusal.TheVariants.{UnknownSignal, NotInput, AlreadyOffered}
use Rattle.est_relations.specs.declared.refusal.PendingRefusal.TheVariants.{Excluded, Implied}

-- the number, the name and the fields of a refusal
abbrev pub row_of : PendingRefusal → Row
row_of (Excluded relation signal) =
    tells 40 (codes "Excluded") ((codes "relation", Number relation) ∷ (codes "signal", Text signal) ∷ [])
row_of (Implied relation missing) =
    tells 41 (codes "Implied") ((codes "missing", Text missing) ∷ (codes "relation", Number relation) ∷ [])
row_of UnknownSignal = tells 63 (codes "UnknownSignal") []
row_of NotInput = tells 64 (codes "NotInput") []
row_of AlreadyOffered = tells 65 (codes "AlreadyOffered") []

-- the number of a refusal
abbrev pub code_of : PendingRefusal → ℕ
code_of given = (row_of given).code

-- the name of a refusal
abbrev pub name_of : PendingRefusal → List ℕ
name_of given = (row_of given).name
