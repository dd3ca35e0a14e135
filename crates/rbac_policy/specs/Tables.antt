-- What each step on a table leaves, as it is computed (this project's own form).
use Rattle.std.specs.Prelude.{◌≡◌, ℕ, Bool, false, List, [], ◌∷◌, Option, Some, None, if◌then◌else◌, position}
use Rattle.std.specs.Prelude.{slice_set, slice_get, is_none, map, fold, ◌==◌, ◌&&◌}
use Rattle.std.specs.Str.{bytes_eq}
use Rattle.std.specs.List.{list_any}
use Rattle.rbac_policy.specs.declared.objects.Operation.{Operation}
use Rattle.rbac_policy.specs.declared.objects.Object.{Object}
use Rattle.rbac_policy.specs.declared.rows.User.{User}
use Rattle.rbac_policy.specs.declared.rows.Grant.{Grant}
use Rattle.rbac_policy.specs.declared.rows.Session.{Session}
use Rattle.rbac_policy.specs.declared.rows.DsdSet.{DsdSet}
use Rattle.rbac_closure.specs.Sets.{either, with_place, without_place}
use Rattle.rbac_policy.specs.Names.{NameText}
use Rattle.rbac_policy.specs.Objects.{same_operation, same_object}
use Rattle.rbac_policy.specs.Order.{below}

-- the row holds the value
abbrev pub At : {X : Type 0} → List (Option X) → ℕ → X → Type 0
At rows place x = slice_get rows place ≡ Some (Some x)

-- the row has this user
abbrev pub user_is : NameText → Option User → Bool
user_is name None = false
user_is name (Some user) = bytes_eq user.name name

-- the row has this role
abbrev pub role_is : NameText → Option NameText → Bool
role_is name None = false
role_is name (Some role) = bytes_eq role name

-- where the role stands
abbrev pub place_of : NameText → List (Option NameText) → Option ℕ
place_of name roles = position (role_is name) roles

-- the value in the place, if there is one
abbrev pub put_at : {X : Type 0} → X → List (Option X) → Option ℕ → List (Option X)
put_at x rows None = rows
put_at x rows (Some place) = slice_set rows place (Some x)

-- the value in the first free row
abbrev pub put_free : {X : Type 0} → X → List (Option X) → List (Option X)
put_free x rows = put_at x rows (position is_none rows)

-- the user of this name has the role at this place, too
abbrev pub user_assigned : NameText → ℕ → Option User → Option User
user_assigned name place None = None
user_assigned name place (Some user) = if bytes_eq user.name name then Some
    (record { name = user.name; roles = with_place user.roles place }) else Some user

-- the user of this name has the role at this place no more
abbrev pub user_deassigned : NameText → ℕ → Option User → Option User
user_deassigned name place None = None
user_deassigned name place (Some user) = if bytes_eq user.name name then Some
    (record { name = user.name; roles = without_place user.roles place }) else Some user

-- the user has the role at this place no more
abbrev pub user_cleared : ℕ → Option User → Option User
user_cleared place None = None
user_cleared place (Some user) = Some (record { name = user.name; roles = without_place user.roles place })

-- the user, if it has another name
abbrev pub user_without : NameText → Option User → Option User
user_without name None = None
user_without name (Some user) = if bytes_eq user.name name then None else Some user

-- the mask of the first row with this user
abbrev pub roles_of : NameText → List (Option User) → ℕ
roles_of name [] = 0
roles_of name (None ∷ rows) = roles_of name rows
roles_of name (Some user ∷ rows) = if bytes_eq user.name name then user.roles else roles_of name rows

-- the row has this pair
abbrev pub grant_is : Operation → Object → Option Grant → Bool
grant_is operation object None = false
grant_is operation object (Some grant) = same_operation grant.operation operation && same_object grant.object object

-- the row of this pair has the role at this place, too
abbrev pub grant_given : Operation → Object → ℕ → Option Grant → Option Grant
grant_given operation object place None = None
grant_given operation object place (Some grant) =
    if same_operation grant.operation operation && same_object grant.object object
    then Some (record { operation = grant.operation; object = grant.object; roles = with_place grant.roles place })
    else Some grant

-- the pair is granted to the role at this place, in its row or in the first free row
abbrev pub grants_given : Operation → Object → ℕ → List (Option Grant) → List (Option Grant)
grants_given operation object place grants =
    if list_any (grant_is operation object) grants
    then map (grant_given operation object place) grants
    else put_free (record { operation = operation; object = object; roles = with_place 0 place }) grants

-- the row with these roles, if there are any
abbrev pub grant_with : Grant → ℕ → Option Grant
grant_with grant roles = if roles == 0 then None else Some
    (record { operation = grant.operation; object = grant.object; roles = roles })

-- the row of this pair has the role at this place no more, and is there no more where that was its last
abbrev pub grant_revoked : Operation → Object → ℕ → Option Grant → Option Grant
grant_revoked operation object place None = None
grant_revoked operation object place (Some grant) =
    if same_operation grant.operation operation && same_object grant.object object then grant_with grant
    (without_place grant.roles place) else Some grant

-- the row has the role at this place no more, and is there no more where that was its last
abbrev pub grant_cleared : ℕ → Option Grant → Option Grant
grant_cleared place None = None
grant_cleared place (Some grant) = grant_with grant (without_place grant.roles place)

-- each active role is one that is assigned to the user, or below one
abbrev pub has_only_authorized : List (Option User) → List ℕ → Session → Bool
has_only_authorized users juniors session =
    let authorized = below juniors (roles_of session.user users) in either session.active authorized == authorized

-- the session, if it has only authorized roles
abbrev pub session_kept : List (Option User) → List ℕ → Option Session → Option Session
session_kept users juniors None = None
session_kept users juniors (Some session) = if has_only_authorized users juniors session then Some session else None

-- the session, if it has another number
abbrev pub session_without : ℕ → Option Session → Option Session
session_without number None = None
session_without number (Some session) = if session.number == number then None else Some session

-- the session, if it is of another user
abbrev pub session_of_other : NameText → Option Session → Option Session
session_of_other user None = None
session_of_other user (Some session) = if bytes_eq session.user user then None else Some session

-- the role at this place is active in the session of this number, too
abbrev pub session_activated : ℕ → ℕ → Option Session → Option Session
session_activated number place None = None
session_activated number place (Some session) =
    if session.number == number then Some
    (record { number = session.number; user = session.user; active = with_place session.active place }) else Some
    session

-- the role at this place is active in the session of this number no more
abbrev pub session_dropped : ℕ → ℕ → Option Session → Option Session
session_dropped number place None = None
session_dropped number place (Some session) =
    if session.number == number then Some
    (record { number = session.number; user = session.user; active = without_place session.active place }) else Some
    session

-- the separation set, if it has another name
abbrev pub set_without : NameText → Option DsdSet → Option DsdSet
set_without name None = None
set_without name (Some set) = if bytes_eq set.name name then None else Some set

-- the mask with the place, if there is one
abbrev pub with_found_place : ℕ → Option ℕ → ℕ
with_found_place mask None = mask
with_found_place mask (Some place) = with_place mask place

-- the mask with the places of the listed roles
abbrev pub mask_of : List (Option NameText) → List NameText → ℕ
mask_of roles names = fold (λ mask name. with_found_place mask (place_of name roles)) 0 names

-- the first value that passes
abbrev pub first_of : {X : Type 0} → (X → Bool) → List (Option X) → Option X
first_of test [] = None
first_of test (None ∷ rows) = first_of test rows
first_of test (Some x ∷ rows) = if test x then Some x else first_of test rows

-- the session of this number
abbrev pub session_of : ℕ → List (Option Session) → Option Session
session_of number sessions = first_of (λ x. x.number == number) sessions

-- the row of this pair
abbrev pub grant_of : Operation → Object → List (Option Grant) → Option Grant
grant_of operation object grants = first_of (λ x. same_operation x.operation operation && same_object x.object object)
    grants
