-- The refusals of a policy command: what each tells (this project's own table).
use Rattle.std.specs.Prelude.{◌≡◌, ℕ, List, [], ◌∷◌, codes}
use Rattle.refusal_rules.specs.Rows.{Row, tells, Number, Text}
use Rattle.rbac_policy.specs.Texts.{IsObject, operation_text, object_text}
use Rattle.rbac_policy.specs.declared.commands.Table.{Table}
use Rattle.rbac_policy.specs.declared.commands.Table.TheVariants.{Users, Roles, Permissions, Sessions, Sets}
use Rattle.rbac_policy.specs.declared.objects.Object.{Object}
use Rattle.rbac_policy.specs.declared.objects.Operation.{Operation}
use Rattle.rbac_admin.specs.declared.refusal.PolicyRefusal.{PolicyRefusal}
use Rattle.rbac_admin.specs.declared.refusal.PolicyRefusal.TheVariants as refusal

-- the word for a table of the policy
abbrev pub table_text : Table → List ℕ
table_text Users = codes "users"
table_text Roles = codes "roles"
table_text Permissions = codes "permissions"
table_text Sessions = codes "sessions"
table_text Sets = codes "sets"

-- the number, the name and the fields of a refusal
abbrev pub row_of : PolicyRefusal → Row
row_of refusal.NoSession = tells 4 (codes "NoSession") []
row_of refusal.SessionsExhausted = tells 6 (codes "SessionsExhausted") []
row_of (refusal.Permission operation object) =
    tells 10 (codes "Permission")
    ((codes "object", Text (object_text object)) ∷ (codes "op", Text (operation_text operation)) ∷ [])
row_of (refusal.DsdViolated set session) =
    tells 20 (codes "DsdViolated") ((codes "session", Number session) ∷ (codes "set", Text set) ∷ [])
row_of (refusal.NotAuthorized role) = tells 21 (codes "NotAuthorized") ((codes "role", Text role) ∷ [])
row_of (refusal.AlreadyActive role) = tells 22 (codes "AlreadyActive") ((codes "role", Text role) ∷ [])
row_of (refusal.NotActive role) = tells 23 (codes "NotActive") ((codes "role", Text role) ∷ [])
row_of refusal.Cycle = tells 24 (codes "Cycle") []
row_of (refusal.UnknownUser user) = tells 25 (codes "UnknownUser") ((codes "user", Text user) ∷ [])
row_of (refusal.UnknownRole role) = tells 26 (codes "UnknownRole") ((codes "role", Text role) ∷ [])
row_of (refusal.UserExists user) = tells 27 (codes "UserExists") ((codes "user", Text user) ∷ [])
row_of (refusal.RoleExists role) = tells 28 (codes "RoleExists") ((codes "role", Text role) ∷ [])
row_of refusal.AlreadyAssigned = tells 29 (codes "AlreadyAssigned") []
row_of refusal.NotAssigned = tells 30 (codes "NotAssigned") []
row_of refusal.AlreadyGranted = tells 31 (codes "AlreadyGranted") []
row_of refusal.NotGranted = tells 32 (codes "NotGranted") []
row_of refusal.EdgeExists = tells 33 (codes "EdgeExists") []
row_of refusal.NoEdge = tells 34 (codes "NoEdge") []
row_of (refusal.DsdExists set) = tells 35 (codes "DsdExists") ((codes "set", Text set) ∷ [])
row_of (refusal.NoDsd set) = tells 36 (codes "NoDsd") ((codes "set", Text set) ∷ [])
row_of refusal.DsdShape = tells 37 (codes "DsdShape") []
row_of (refusal.RoleInDsd set) = tells 38 (codes "RoleInDsd") ((codes "set", Text set) ∷ [])
row_of (refusal.Full table) = tells 39 (codes "Full") ((codes "table", Text (table_text table)) ∷ [])

-- the number of a refusal
abbrev pub code_of : PolicyRefusal → ℕ
code_of given = (row_of given).code

-- the name of a refusal
abbrev pub name_of : PolicyRefusal → List ℕ
name_of given = (row_of given).name

-- an object that the refusal names is one: its slot is there, and its signal's name is an identifier
abbrev pub NamesObjects : PolicyRefusal → Type 0
NamesObjects given =
    (operation : Operation) (object : Object) → given ≡ refusal.Permission operation object → IsObject object
