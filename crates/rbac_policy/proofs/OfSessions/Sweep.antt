-- The sweep through the slots of sessions, which empties those that have a role for which their user is not authorized.
use Rattle.std.proofs.Common.{◌≡◌, ℕ, List, length, map, cond, sym, ◌∙◌, ap, subst, refl, true, false, Bool}
use Rattle.std.specs.Prelude.{Option, Some, None}
use Rattle.std.proofs.lemmas.Bool.Decides.{Decides-eqb}
use Rattle.std.proofs.lemmas.Option.{same_Some}
use Rattle.std.proofs.lemmas.List.{length-map}
use Rattle.rbac_policy.specs.declared.rows.User.{User}
use Rattle.rbac_policy.specs.declared.rows.Session.{Session}
use Rattle.rbac_closure.specs.Sets.{Has, either}
use Rattle.rbac_closure.specs.Edges.{IsBelowSome}
use Rattle.rbac_policy.specs.Order.{below}
use Rattle.rbac_policy.specs.Tables.{At, roles_of, has_only_authorized, session_kept}
use Rattle.rbac_policy.proofs.OfRoles.Below.{below_sound, below_all}
use Rattle.rbac_closure.proofs.SetLemmas.{within_from_either, either_from_within}
use Rattle.rbac_policy.proofs.OfSlots.Slots.{mapped, map_at}

-- each active role is one that is assigned to the user, or below one
abbrev pub HasOnlyBelow : List (Option User) → List ℕ → Session → Type 0
HasOnlyBelow users juniors session = (place : ℕ) → Has session.active place
    → IsBelowSome juniors (roles_of session.user users) place

-- the sessions that have only such roles are left, where they were
pub record IsSwept (users : List (Option User)) (juniors : List ℕ) (old new : List (Option Session)) : Type 0 where
  pub same : length new ≡ length old
  pub left : (place : ℕ) (x : Session) → At new place x → At old place x × HasOnlyBelow users juniors x
  pub stays : (place : ℕ) (x : Session) → At old place x → HasOnlyBelow users juniors x → At new place x

module _ (users : List (Option User)) (juniors : List ℕ) (sessions : List (Option Session)) where
  passes : (at : ℕ) (x : Session) → At sessions at x → has_only_authorized users juniors x ≡ true
      → HasOnlyBelow users juniors x
  passes at x there t p bit =
      let all = below juniors (roles_of x.user users) in
      below_sound juniors (roles_of x.user users) p
      (within_from_either x.active all ((Decides-eqb (either x.active all) all).0 t) p bit)

  passes_by : (at : ℕ) (x : Session) → At sessions at x → HasOnlyBelow users juniors x
      → has_only_authorized users juniors x ≡ true
  passes_by at x there only =
      let all = below juniors (roles_of x.user users) in
      (Decides-eqb (either x.active all) all).1
      (either_from_within x.active all (λ p bit. below_all juniors (roles_of x.user users) p (only p bit)))

  kept_from : (x y : Session) → session_kept users juniors (Some x) ≡ Some y
      → (x ≡ y) × (has_only_authorized users juniors x ≡ true)
  kept_from x y gives = by_test (has_only_authorized users juniors x) refl where
    by_test : (b : Bool) → has_only_authorized users juniors x ≡ b
        → (x ≡ y) × (has_only_authorized users juniors x ≡ true)
    by_test true e = (same_Some x y (sym (ap (λ b. cond b (Some x) None) e) ∙ gives), e)
    by_test false e = cc (ap (λ b. cond b (Some x) None) e, gives)

  pub swept_sessions : IsSwept users juniors sessions (map (session_kept users juniors) sessions)
  swept_sessions = record {
    same = length-map sessions (session_kept users juniors);
    left = λ at y there.
        let m = mapped (session_kept users juniors) sessions at y refl there in
        let k = kept_from m.value y m.gives in
        let before = subst (At sessions at) k.0 m.there in
        (before, passes at y before (subst (λ z. has_only_authorized users juniors z ≡ true) k.0 k.1));
    stays = λ at x there only. map_at (session_kept users juniors) sessions at x x there
        (ap (λ b. cond b (Some x) None) (passes_by at x there only));
  }
