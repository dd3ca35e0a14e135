-- Policy lists grow by accepted entries, and each leaves room for the logouts.
use Rattle.std.proofs.Common.{◌≡◌, ℕ, ◌<◌, ◌≤◌, List, [], ◌∷◌, ◌++◌, length, take, sym, ◌∙◌, ap, subst, arith, inl, inr}
use Rattle.std.proofs.Common.{append_assoc, append-nil, length-append}
use Rattle.std.specs.Prelude.{Ok, Some}
use Rattle.std.proofs.lemmas.List.{length_push}
use Rattle.std.proofs.lemmas.Option.{slice_get_within}
use Rattle.rbac_policy.specs.declared.commands.AdminCommand.TheVariants.{DeleteSession}
use Rattle.rbac_policy.specs.declared.commands.Entry.{Entry}
use Rattle.rbac_policy.specs.declared.policy.Policy.{Policy}
use Rattle.rbac_policy.specs.Facts.{IsLive}
use Rattle.rbac_policy.specs.Leaving.{LeavesRoom}
use Rattle.rbac_policy.specs.Opening.{opening_entries}
use Rattle.rbac_policy.specs.StandsFor.{StandsFor}
use Rattle.rbac_policy.proofs.OfSessions.EndingLemmas.{leaves_room, logout_leaves_room, logout_has_room}
use Rattle.rbac_policy.proofs.Steps.{get_push, take_front, take_whole}
use Rattle.rbac_admin.specs.PolicyStep.{PolicyStep}
use Rattle.rbac_admin.specs.Room.{most_entries}
use Rattle.rbac_admin.specs.PolicyLists.{IsAccepted, IsPolicyList}
use Rattle.rbac_admin.proofs.Accepted.{passed}

-- the opening entries are a policy list
pub opening_is_list : IsPolicyList opening_entries
opening_is_list = record {
  opens = record { rest = []; is = append-nil opening_entries };
  accepted = λ at entry late there. absurd (omega (arith, late, slice_get_within opening_entries at entry there));
}

-- a policy list is no shorter than the opening entries
pub opening_within : (L : List Entry) → IsPolicyList L → length opening_entries ≤ length L
opening_within L list = let n = ap length list.opens.is in
    omega (arith, n, length-append opening_entries list.opens.rest)

-- with an accepted entry at its end a policy list is one
pub list_grows : (L : List Entry) (e : Entry) → IsPolicyList L → IsAccepted L e → IsPolicyList (L ++ e ∷ [])
list_grows L e list accepted = record {
  opens = record {
    rest = list.opens.rest ++ e ∷ [];
    is = sym (append_assoc opening_entries list.opens.rest (e ∷ [])) ∙ ap (λ xs. xs ++ e ∷ []) list.opens.is;
  };
  accepted = λ at x late there. elim (get_push L e x at there) [
    | inl old ↦ subst (λ before. IsAccepted before x) (sym (take_front L e at (omega (arith, old.0))))
        (list.accepted at x late old.1)
    | inr new ↦
        let before : take at (L ++ e ∷ []) ≡ L = ap (λ k. take k (L ++ e ∷ [])) new.0 ∙ take_whole L e in
        subst (λ xs. IsAccepted xs x) (sym before) (subst (IsAccepted L) new.1 accepted)
  ];
}

-- an accepted logout is that of a session that lives
ends_living : (L : List Entry) (e : Entry) → PolicyStep L e.session e.command (Ok e) → e.command ≡ DeleteSession
    → (session : ℕ) × (e.session ≡ Some session) × IsLive L session
ends_living L e step logout =
    let again : PolicyStep L e.session DeleteSession (Ok e) =
    subst (λ c. PolicyStep L e.session c (Ok e)) logout step in
    let has = (passed L e.session DeleteSession e again).0 in
    (has.0, has.1.given, (has.1.user, has.1.lives))

-- where an entry is accepted, the list has fewer entries than it may have
pub few_entries : (L : List Entry) (e : Entry) → LeavesRoom most_entries L → IsAccepted L e → length L < most_entries
few_entries L e leaves accepted = elim accepted.room [
  | inl logout ↦ let s = ends_living L e accepted.step logout in logout_has_room L s.0 most_entries leaves s.2
  | inr room ↦ omega (arith, room)
]

-- an accepted entry leaves room for each logout
pub still_leaves : (policy : Policy) (L : List Entry) (e : Entry) → LeavesRoom most_entries L
    → StandsFor policy (L ++ e ∷ []) → IsAccepted L e
    → LeavesRoom most_entries (L ++ e ∷ [])
still_leaves policy L e leaves stands accepted = elim accepted.room [
  | inl logout ↦ let s = ends_living L e accepted.step logout in
      logout_leaves_room L e s.0 most_entries leaves logout s.1 s.2
  | inr room ↦ leaves_room policy (L ++ e ∷ []) most_entries stands (omega (arith, room, length_push L e))
]
