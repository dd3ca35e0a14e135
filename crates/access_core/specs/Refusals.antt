-- The refusals of a line: what each tells (this project's own table). Those of the policy and of a module have their
-- own tables.
use Rattle.std.specs.Prelude.{◌≡◌, ℕ, List, [], ◌∷◌, codes}
use Rattle.refusal_rules.specs.Rows.{Row, tells, Number, Texts}
use Rattle.rbac_policy.specs.Texts.{IsObject}
use Rattle.rbac_policy.specs.declared.objects.Object.{Object}
use Rattle.rbac_policy.specs.declared.objects.Operation.{Operation}
use Rattle.rbac_admin.specs.Refusals.{row_of as policy_row}
use Rattle.rbac_admin.specs.declared.refusal.PolicyRefusal.TheVariants as policy
use Rattle.reactor_core.specs.Refusals.{row_of as module_row}
use Rattle.reactor_core.specs.declared.refusal.ReactorRefusal.{ReactorRefusal}
use Rattle.reactor_core.specs.declared.refusal.ReactorRefusal.TheVariants as reactor
use Rattle.access_core.specs.declared.refusal.Refusal.{Refusal}
use Rattle.access_core.specs.declared.refusal.Refusal.TheVariants as refusal

-- a refusal of the reactor: its module's, or one for room or memory, which has its own row here
abbrev pub of_reactor : ReactorRefusal → Refusal
of_reactor (reactor.Module given) = refusal.Module given
of_reactor reactor.JournalFull = refusal.JournalFull
of_reactor reactor.Memory = refusal.Memory

-- the number, the name and the fields of a refusal
abbrev pub row_of : Refusal → Row
row_of refusal.TooLong = tells 1 (codes "TooLong") []
row_of refusal.NotJson = tells 2 (codes "NotJson") []
row_of refusal.NotARequest = tells 3 (codes "NotARequest") []
row_of refusal.AlreadyLoggedIn = tells 5 (codes "AlreadyLoggedIn") []
row_of (refusal.Policy given) = policy_row given
row_of (refusal.Module given) = module_row given
row_of (refusal.Stuck undecided) = tells 50 (codes "Stuck") ((codes "undecided", Texts undecided) ∷ [])
row_of refusal.NoSlot = tells 60 (codes "NoSlot") []
row_of refusal.Occupied = tells 61 (codes "Occupied") []
row_of refusal.Empty = tells 62 (codes "Empty") []
row_of refusal.JournalFull = tells 67 (codes "JournalFull") []
row_of (refusal.Behind found seen) =
    tells 68 (codes "Behind") ((codes "found", Number found) ∷ (codes "seen", Number seen) ∷ [])
row_of refusal.Memory = tells 90 (codes "Memory") []

-- the number of a refusal
abbrev pub code_of : Refusal → ℕ
code_of given = (row_of given).code

-- the name of a refusal
abbrev pub name_of : Refusal → List ℕ
name_of given = (row_of given).name

-- an object that the refusal names is one: its slot is there, and its signal's name is an identifier
abbrev pub NamesObjects : Refusal → Type 0
NamesObjects given =
    (operation : Operation) (object : Object) → given ≡ refusal.Policy (policy.Permission operation object)
    → IsObject object
