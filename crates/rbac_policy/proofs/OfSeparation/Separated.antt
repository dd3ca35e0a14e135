-- What a policy says of violations.
use Rattle.std.proofs.Common.{◌≡◌, ℕ, List, [], ◌∷◌, ◌++◌, sym, ◌∙◌, inl, inr}
use Rattle.std.specs.Prelude.{Option, Some, None, MatchOption}
use Rattle.std.proofs.lemmas.Option.{slice_get_within}
use Rattle.rbac_policy.specs.declared.commands.Entry.{Entry}
use Rattle.rbac_policy.specs.declared.rows.Session.{Session}
use Rattle.rbac_policy.specs.declared.rows.DsdSet.{DsdSet}
use Rattle.rbac_policy.specs.declared.separation.Violation.{Violation}
use Rattle.rbac_policy.specs.Names.{NameText}
use Rattle.rbac_policy.specs.Separation.{IsFirstViolated}
use Rattle.rbac_policy.specs.Inner.Violations.{first_violation}
use Rattle.rbac_policy.specs.Tables.{At}
use Rattle.rbac_policy.specs.StandsFor.{RolesStand}
use Rattle.rbac_policy.proofs.Steps.{get_push, get_front}
use Rattle.rbac_policy.proofs.OfSeparation.Violating.{SessionRows, SessionParts, SetRows, parts_of, none_violated}
use Rattle.rbac_policy.proofs.OfSeparation.Violating.{first_violated}

-- a filled slot of those before, with one more slot
pub front_slot : {X : Type 0} (slots : List (Option X)) (more : Option X) (at : ℕ) (x : X) → At slots at x
    → At (slots ++ more ∷ []) at x
front_slot slots more at x there = get_front slots more at (slice_get_within slots at (Some x) there) ∙ there

pub before_none : {X : Type 0} (slots : List (Option X)) (at : ℕ) (x : X) → At (slots ++ None ∷ []) at x → At slots at x
before_none slots at x there = elim (get_push slots None (Some x) at there)
    [ inl a ↦ a.1 | inr b ↦ (let e = b.1 in cc) ]

-- what the tables show is the first violation of the list
pub shown_in_parts : (roles : List (Option NameText)) (juniors : List ℕ) (sets : List (Option DsdSet))
    (sessions : List (Option Session)) (L : List Entry)
    → RolesStand roles juniors L → SessionParts roles sessions L → SetRows roles sets L → (o : Option Violation)
    → o ≡ first_violation juniors sessions sets
    → MatchOption o ((set : NameText) (session : ℕ) → IsFirstViolated L set session → ⊥)
    (λ v. IsFirstViolated L v.set v.session)
shown_in_parts roles juniors sets sessions L rs sr tr None is =
    none_violated roles juniors sets sessions L rs sr tr (sym is)
shown_in_parts roles juniors sets sessions L rs sr tr (Some v) is =
    first_violated roles juniors sets sessions L rs sr tr v (sym is)

pub shown_violation : (roles : List (Option NameText)) (juniors : List ℕ) (sets : List (Option DsdSet))
    (sessions : List (Option Session)) (L : List Entry)
    → RolesStand roles juniors L → SessionRows roles sessions L → SetRows roles sets L → (o : Option Violation)
    → o ≡ first_violation juniors sessions sets
    → MatchOption o ((set : NameText) (session : ℕ) → IsFirstViolated L set session → ⊥)
    (λ v. IsFirstViolated L v.set v.session)
shown_violation roles juniors sets sessions L rs sr tr o is =
    shown_in_parts roles juniors sets sessions L rs (parts_of roles sessions L sr) tr o is
