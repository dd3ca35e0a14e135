-- The fronts of a policy list: each is one, and a policy stands for it.
use Rattle.std.proofs.Common.{◌≡◌, ◌∙◌, ℕ, zero, suc, ◌+◌, ◌-◌, ◌<◌, ◌≤◌, List, [], ◌∷◌, ◌++◌, length, take, get_or}
use Rattle.std.proofs.Common.{refl, sym, ap, subst, arith}
use Rattle.std.specs.Prelude.{Some, None, slice_get}
use Rattle.std.proofs.Math.Seq.{take-length}
use Rattle.std.proofs.lemmas.List.{take_more, length-append}
use Rattle.std.proofs.lemmas.Option.{same_Some, slice_get-get_or}
use Rattle.rbac_policy.specs.declared.commands.AdminCommand.TheVariants.{DeleteSession}
use Rattle.rbac_policy.specs.declared.commands.Entry.{Entry}
use Rattle.rbac_policy.specs.Change.{policy_of}
use Rattle.rbac_policy.specs.Fits.{Fits, AllFit}
use Rattle.rbac_policy.specs.Leaving.{LeavesRoom}
use Rattle.rbac_policy.specs.Opening.{opening_entries}
use Rattle.rbac_policy.specs.StandsFor.{StandsFor}
use Rattle.rbac_policy.proofs.OfSessions.EndingLemmas.{leaves_room}
use Rattle.rbac_policy.proofs.Growing.{fit_push, opening_fits, opening_stands, stands_whole, stands_front}
use Rattle.rbac_admin.specs.PolicyLists.{Begins, IsAccepted, IsPolicyList}
use Rattle.rbac_admin.specs.Room.{most_entries}
use Rattle.rbac_admin.proofs.Fitting.{step_fits}
use Rattle.rbac_admin.proofs.PolicyListLemmas.{opening_is_list, opening_within, list_grows, few_entries, still_leaves}
use Rattle.audit_report.specs.Findings.{IsFirstWrong}
use Rattle.audit_report.specs.Replaying.{IsRightAt}

-- a list that has at each place what another has there begins with that
begins : {A : Type 0} (xs ys : List A) → ((k : ℕ) → k < length xs → slice_get ys k ≡ slice_get xs k) → Begins xs ys
begins [] ys same = record { rest = ys; is = refl }
begins (x ∷ xs) [] same = let none : None ≡ Some x = same 0 (omega arith) in absurd cc
begins (x ∷ xs) (y ∷ ys) same =
    let head : y ≡ x = same_Some y x (same 0 (omega arith)) in
    let later : Begins xs ys = begins xs ys (λ k low. same (suc k) (omega (arith, low))) in
    record { rest = later.rest; is = ap (λ zs. x ∷ zs) later.is ∙ ap (λ z. z ∷ ys) (sym head) }

-- the front of a list that begins with the opening entries
opening_front : (L : List Entry) → Begins opening_entries L → (n : ℕ) → n ≡ 4 → take n L ≡ opening_entries
opening_front L opens n four = ap (λ k. take k L) four ∙ ap (take 4) (sym opens.is)

-- some entry, for what is read past a list's end
abbrev logout : Entry
logout = record { session = Some 0; command = DeleteSession }

module _ (L : List Entry) where
  -- the front with the entry at its end
  one_more : (m n : ℕ) → n ≡ m + 1 → m < length L → take n L ≡ take m L ++ get_or L m logout ∷ []
  one_more m n more low = ap (λ k. take k L) more ∙ take_more L m logout low

  -- each front of a list that is right up to there is a policy list
  list_from : (m n : ℕ) → n ≡ m + 4 → n ≤ length L → ((k : ℕ) → k < n → IsRightAt L k) → IsPolicyList (take n L)
  list_from zero n is low right =
      let opens : Begins opening_entries L = begins opening_entries L
      (λ k below. (right k (omega arith)).opens below) in
      subst IsPolicyList (sym (opening_front L opens n (omega arith))) opening_is_list
  list_from (suc m) n is low right =
      let before : IsPolicyList (take (m + 4) L) = list_from m (m + 4) refl (omega arith)
      (λ k below. right k (omega arith)) in
      let there : slice_get L (m + 4) ≡ Some (get_or L (m + 4) logout) =
      slice_get-get_or L (m + 4) logout (omega arith) in
      let accepted : IsAccepted (take (m + 4) L) (get_or L (m + 4) logout) =
      (right (m + 4) (omega arith)).accepted (get_or L (m + 4) logout) (omega arith) there in
      subst IsPolicyList (sym (one_more (m + 4) n (omega arith) (omega arith)))
      (list_grows (take (m + 4) L) (get_or L (m + 4) logout) before accepted)

  pub list_at : (n : ℕ) → 4 ≤ n → n ≤ length L → ((k : ℕ) → k < n → IsRightAt L k) → IsPolicyList (take n L)
  list_at n late low right = list_from (n - 4) n (omega arith) low right

  pub list_whole : 4 ≤ length L → ((k : ℕ) → k < length L → IsRightAt L k) → IsPolicyList L
  list_whole late right = subst IsPolicyList (take-length L) (list_at (length L) late (omega arith) right)

  -- the entries of each front of a policy list fit those before them, and leave room for each logout
  fit_from : IsPolicyList L → (m n : ℕ) → n ≡ m + 4 → n ≤ length L
      → AllFit (take n L) × LeavesRoom most_entries (take n L)
  fit_from list zero n is low =
      subst (λ (xs : List Entry). AllFit xs × LeavesRoom most_entries xs)
      (sym (opening_front L list.opens n (omega arith)))
      (opening_fits, leaves_room (policy_of opening_entries) opening_entries most_entries opening_stands (omega arith))
  fit_from list (suc m) n is low =
      let front : List Entry = take (m + 4) L in
      let entry : Entry = get_or L (m + 4) logout in
      let before : AllFit (take (m + 4) L) × LeavesRoom most_entries (take (m + 4) L) =
      fit_from list m (m + 4) refl (omega arith) in
      let accepted : IsAccepted (take (m + 4) L) (get_or L (m + 4) logout) =
      list.accepted (m + 4) (get_or L (m + 4) logout) (omega arith) (slice_get-get_or L (m + 4) logout (omega arith)) in
      let few : length (take (m + 4) L) < most_entries = few_entries front entry before.1 accepted in
      let fits : Fits (take (m + 4) L) (get_or L (m + 4) logout) =
      step_fits (policy_of front) front (stands_whole front before.0) entry.session entry.command entry
      (omega (arith, few)) accepted.step in
      let all : AllFit (take (m + 4) L ++ get_or L (m + 4) logout ∷ []) = fit_push front entry before.0 fits in
      let stands = stands_whole (front ++ entry ∷ []) all in
      subst (λ (xs : List Entry). AllFit xs × LeavesRoom most_entries xs)
      (sym (one_more (m + 4) n (omega arith) (omega arith)))
      (all, still_leaves (policy_of (front ++ entry ∷ [])) front entry before.1 stands accepted)

  pub list_fits : IsPolicyList L → AllFit L
  list_fits list =
      let low = opening_within L list in
      subst AllFit (take-length L) (fit_from list (length L - 4) (length L) (omega (arith, low)) (omega arith)).0

  -- a policy stands for each front
  pub front_stands : IsPolicyList L → (n : ℕ) → StandsFor (policy_of (take n L)) (take n L)
  front_stands list n = stands_front L (list_fits list) n

-- the policy of a front that is right stands for it
pub right_stands : (L : List Entry) (n : ℕ) → 4 ≤ n → n ≤ length L → ((k : ℕ) → k < n → IsRightAt L k)
    → StandsFor (policy_of (take n L)) (take n L)
right_stands L n late low right = stands_whole (take n L) (list_fits (take n L) (list_at L n late low right))

-- where the first four places are right, they are the opening entries
pub opens_front : (L : List Entry) → ((k : ℕ) → k < 4 → IsRightAt L k) → take 4 L ≡ opening_entries
opens_front L right = opening_front L (begins opening_entries L (λ k low. (right k low).opens low)) 4 refl

-- and the list has them
pub opens_within : (L : List Entry) → ((k : ℕ) → k < 4 → IsRightAt L k) → 4 ≤ length L
opens_within L right =
    let opens : Begins opening_entries L = begins opening_entries L (λ k low. (right k low).opens low) in
    let n = ap length opens.is in
    omega (arith, n, length-append opening_entries opens.rest)

-- a later place is right where its entry is accepted
pub right_later : (L : List Entry) (at : ℕ) (e : Entry) → 4 ≤ at → slice_get L at ≡ Some e → IsAccepted (take at L) e
    → IsRightAt L at
right_later L at e late there accepted = record {
  opens = λ low. absurd (omega (arith, low, late));
  accepted = λ x _ is. subst (IsAccepted (take at L)) (same_Some e x (sym there ∙ is)) accepted;
}

-- else it is the first wrong one, where those before it are right
pub wrong_later : (L : List Entry) (at : ℕ) (e : Entry) → 4 ≤ at → slice_get L at ≡ Some e
    → ((k : ℕ) → k < at → IsRightAt L k)
    → ¬ (IsAccepted (take at L) e) → IsFirstWrong L (at + 1)
wrong_later L at e late there before refused =
    record { at = at; counted = refl; before = before; wrong = λ right. refused (right.accepted e late there) }
