-- The table of refusals, read backwards.
use Rattle.std.proofs.Common.{◌≡◌, ◌∙◌, ℕ, List, refl, ap}
use Rattle.std.specs.Prelude.{◌==◌, codes, Option, Some, None, option_map, option_and_then, if◌then◌else◌}
use Rattle.std.specs.Str.{bytes_eq}
use Rattle.refusal_rules.specs.Rows.{Fields, TellsApart}
use Rattle.refusal_rules.proofs.TellingApart.{first, second, text_in, number_in, read_back}
use Rattle.rbac_policy.specs.Texts.{IsObject, operation_of, object_of, operation_text, object_text}
use Rattle.rbac_policy.proofs.OfNames.ObjectTexts.{operation_of-exact, object_of-exact}
use Rattle.rbac_policy.specs.declared.commands.Table.{Table}
use Rattle.rbac_policy.specs.declared.commands.Table.TheVariants.{Users, Roles, Permissions, Sessions, Sets}
use Rattle.rbac_policy.specs.declared.objects.Object.{Object}
use Rattle.rbac_policy.specs.declared.objects.Operation.{Operation}
use Rattle.rbac_admin.specs.declared.refusal.PolicyRefusal.{PolicyRefusal}
use Rattle.rbac_admin.specs.declared.refusal.PolicyRefusal.TheVariants as refusal
use Rattle.rbac_admin.specs.Refusals.{row_of, NamesObjects, table_text}

-- the table of this word
abbrev table_back : List ℕ → Table
table_back text =
    if bytes_eq text (codes "users") then Users
    else (if bytes_eq text (codes "roles") then Roles
    else (if bytes_eq text (codes "permissions") then Permissions
    else (if bytes_eq text (codes "sessions") then Sessions else Sets)))

table_is : (table : Table) → table_back (table_text table) ≡ table
table_is Users = refl
table_is Roles = refl
table_is Permissions = refl
table_is Sessions = refl
table_is Sets = refl

abbrev permission_back : Option Operation → Object → Option PolicyRefusal
permission_back operation object = option_map (λ (o : Operation). refusal.Permission o object) operation

-- the refusal of a permission whose operation and object have these texts
abbrev permission_texts : (operation object : List ℕ) → Option PolicyRefusal
permission_texts operation object = option_and_then (permission_back (operation_of operation)) (object_of object)

-- the refusal of this number and these fields
abbrev pub policy_back : ℕ → Fields → Option PolicyRefusal
policy_back code fields =
    if code == 4 then Some refusal.NoSession
    else (if code == 6 then Some refusal.SessionsExhausted
    else (if code == 10 then permission_texts (text_in (second fields)) (text_in (first fields))
    else (if code == 20 then Some (refusal.DsdViolated (text_in (second fields)) (number_in (first fields)))
    else (if code == 21 then Some (refusal.NotAuthorized (text_in (first fields)))
    else (if code == 22 then Some (refusal.AlreadyActive (text_in (first fields)))
    else (if code == 23 then Some (refusal.NotActive (text_in (first fields)))
    else (if code == 24 then Some refusal.Cycle
    else (if code == 25 then Some (refusal.UnknownUser (text_in (first fields)))
    else (if code == 26 then Some (refusal.UnknownRole (text_in (first fields)))
    else (if code == 27 then Some (refusal.UserExists (text_in (first fields)))
    else (if code == 28 then Some (refusal.RoleExists (text_in (first fields)))
    else (if code == 29 then Some refusal.AlreadyAssigned
    else (if code == 30 then Some refusal.NotAssigned
    else (if code == 31 then Some refusal.AlreadyGranted
    else (if code == 32 then Some refusal.NotGranted
    else (if code == 33 then Some refusal.EdgeExists
    else (if code == 34 then Some refusal.NoEdge
    else (if code == 35 then Some (refusal.DsdExists (text_in (first fields)))
    else (if code == 36 then Some (refusal.NoDsd (text_in (first fields)))
    else (if code == 37 then Some refusal.DsdShape
    else (if code == 38 then Some (refusal.RoleInDsd (text_in (first fields)))
    else (if code == 39 then Some (refusal.Full (table_back (text_in (first fields))))
    else None))))))))))))))))))))))

permission_is : (operation : Operation) (object : Object) → IsObject object
    → permission_texts (operation_text operation) (object_text object) ≡ Some (refusal.Permission operation object)
permission_is operation object is =
    let text = operation_text operation in
    ap (option_and_then (permission_back (operation_of text)))
    ((object_of-exact (object_text object) object).1 (is, refl))
    ∙ ap (λ (found : Option Operation). permission_back found object) ((operation_of-exact text operation).1 refl)

-- each row reads back as its refusal
pub policy_is : (given : PolicyRefusal) → NamesObjects given
    → policy_back (row_of given).code (row_of given).fields ≡ Some given
policy_is (refusal.Permission operation object) names = permission_is operation object (names operation object refl)
policy_is (refusal.Full table) names = ap (λ (t : Table). Some (refusal.Full t)) (table_is table)
policy_is _ names = refl

pub told_apart : (one other : PolicyRefusal) → NamesObjects one → NamesObjects other → TellsApart row_of one other
told_apart one other names here = read_back row_of policy_back one other (policy_is one names) (policy_is other here)
