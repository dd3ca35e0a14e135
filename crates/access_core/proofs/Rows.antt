-- The table of refusals, read backwards.
use Rattle.std.proofs.Common.{◌≡◌, ◌∙◌, ℕ, refl, ap}
use Rattle.std.specs.Prelude.{◌==◌, Option, Some, None, option_map, if◌then◌else◌}
use Rattle.refusal_rules.specs.Rows.{Fields, TellsApart}
use Rattle.refusal_rules.proofs.TellingApart.{first, second, number_in, texts_in, read_back}
use Rattle.est_relations.specs.declared.refusal.PendingRefusal.TheVariants.{UnknownSignal, NotInput, AlreadyOffered}
use Rattle.est_relations.specs.declared.refusal.PendingRefusal.TheVariants.{Excluded, Implied}
use Rattle.rbac_admin.specs.declared.refusal.PolicyRefusal.{PolicyRefusal}
use Rattle.rbac_admin.proofs.Rows.{policy_back, policy_is}
use Rattle.reactor_core.specs.declared.refusal.ModuleRefusal.{ModuleRefusal}
use Rattle.reactor_core.specs.declared.refusal.ModuleRefusal.TheVariants.{Pending}
use Rattle.reactor_core.specs.Refusals.{row_of as module_row}
use Rattle.reactor_core.proofs.Rows.{module_back, module_is}
use Rattle.access_core.specs.declared.refusal.Refusal.{Refusal}
use Rattle.access_core.specs.declared.refusal.Refusal.TheVariants as refusal
use Rattle.access_core.specs.Refusals.{row_of as refusal_row, NamesObjects}

abbrev or_else : Option Refusal → Option Refusal → Option Refusal
or_else (Some given) other = Some given
or_else None other = other

-- the refusal of this number and these fields that is neither the policy's nor a module's
abbrev own_back : ℕ → Fields → Option Refusal
own_back code fields =
    if code == 1 then Some refusal.TooLong
    else (if code == 2 then Some refusal.NotJson
    else (if code == 3 then Some refusal.NotARequest
    else (if code == 5 then Some refusal.AlreadyLoggedIn
    else (if code == 50 then Some (refusal.Stuck (texts_in (first fields)))
    else (if code == 60 then Some refusal.NoSlot
    else (if code == 61 then Some refusal.Occupied
    else (if code == 62 then Some refusal.Empty
    else (if code == 67 then Some refusal.JournalFull
    else (if code == 68 then Some (refusal.Behind (number_in (first fields)) (number_in (second fields)))
    else (if code == 90 then Some refusal.Memory
    else None))))))))))

-- the refusal of a module, or one that is neither the policy's nor a module's
abbrev module_or_own : Option ModuleRefusal → ℕ → Fields → Option Refusal
module_or_own found code fields =
    or_else (option_map (λ (given : ModuleRefusal). refusal.Module given) found) (own_back code fields)

abbrev any_of : Option PolicyRefusal → Option ModuleRefusal → ℕ → Fields → Option Refusal
any_of policy found code fields =
    or_else (option_map (λ (given : PolicyRefusal). refusal.Policy given) policy) (module_or_own found code fields)

-- the refusal of this number and these fields
abbrev back : ℕ → Fields → Option Refusal
back code fields = any_of (policy_back code fields) (module_back code fields) code fields

-- no refusal of a module has a number of the policy's
not_policy : (given : ModuleRefusal) → policy_back (module_row given).code (module_row given).fields ≡ None
not_policy (Pending (Excluded relation signal)) = refl
not_policy (Pending (Implied relation missing)) = refl
not_policy (Pending UnknownSignal) = refl
not_policy (Pending NotInput) = refl
not_policy (Pending AlreadyOffered) = refl
not_policy _ = refl

-- each row reads back as its refusal
is_back : (given : Refusal) → NamesObjects given → back (refusal_row given).code (refusal_row given).fields ≡ Some given
is_back (refusal.Policy given) names =
    let row = refusal_row (refusal.Policy given) in
    ap (λ (found : Option PolicyRefusal). any_of found (module_back row.code row.fields) row.code row.fields)
    (policy_is given
    (λ operation object is. names operation object (ap (λ (r : PolicyRefusal). refusal.Policy r) is)))
is_back (refusal.Module given) names =
    let row = module_row given in
    ap (λ (found : Option PolicyRefusal). any_of found (module_back row.code row.fields) row.code row.fields)
    (not_policy given)
    ∙ ap (λ (found : Option ModuleRefusal). any_of None found row.code row.fields) (module_is given)
is_back _ names = refl

pub told_apart : (one other : Refusal) → NamesObjects one → NamesObjects other → TellsApart refusal_row one other
told_apart one other names here = read_back refusal_row back one other (is_back one names) (is_back other here)
