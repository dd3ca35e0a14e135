-- The policy of a list whose entries each fit those before them stands for the list.
use Rattle.std.proofs.Common.{◌≡◌, ℕ, zero, suc, ◌+◌, ◌<◌, ◌≤◌, List, [], ◌∷◌, ◌++◌, length, take, get_or, refl, sym}
use Rattle.std.proofs.Common.{◌∙◌, ap, subst, arith, inl, inr, take_all}
use Rattle.std.specs.Prelude.{Some, None, slice_get}
use Rattle.std.proofs.Math.Seq.{take-suc, take-length}
use Rattle.std.proofs.lemmas.Bool.{cases_lt}
use Rattle.std.proofs.lemmas.List.{take_more}
use Rattle.std.proofs.lemmas.List.Sums.{fold_push}
use Rattle.std.proofs.lemmas.Option.{slice_get-get_or, slice_get_within}
use Rattle.rbac_policy.specs.declared.commands.AdminCommand.TheVariants.{DeleteSession}
use Rattle.rbac_policy.specs.declared.commands.Entry.{Entry}
use Rattle.rbac_policy.specs.declared.sizes.TheConstants.{USERS, ROLES, GRANTS, SESSIONS, SETS}
use Rattle.rbac_policy.specs.Change.{absorbed, empty_policy, policy_of}
use Rattle.rbac_policy.specs.Fits.{Fits, AllFit}
use Rattle.rbac_policy.specs.Opening.{opening_entries}
use Rattle.rbac_policy.specs.StandsFor.{StandsFor}
use Rattle.rbac_policy.proofs.Absorbing.{stands_after}
use Rattle.rbac_policy.proofs.Beginning.{blank_stands, fits_user, fits_role, fits_assignment, fits_permission}
use Rattle.rbac_policy.proofs.Steps.{get_push, take_front, take_whole}

-- the policy of one entry more
pub policy_of_push : (entries : List Entry) (e : Entry) → policy_of (entries ++ e ∷ []) ≡ absorbed (policy_of entries) e
unfolding policy_of
policy_of_push entries e = fold_push absorbed empty_policy entries e

-- the policy of a front with one entry more
pub policy_of_more : (entries : List Entry) (n : ℕ) (d : Entry) → n < length entries
    → policy_of (take (n + 1) entries) ≡ absorbed (policy_of (take n entries)) (get_or entries n d)
policy_of_more entries n d low = ap policy_of (take_more entries n d low)
    ∙ policy_of_push (take n entries) (get_or entries n d)

-- the policy of no entry
pub policy_of_none : policy_of [] ≡ empty_policy
unfolding policy_of
policy_of_none = refl

pub fit_push : (entries : List Entry) (e : Entry) → AllFit entries → Fits entries e → AllFit (entries ++ e ∷ [])
fit_push entries e fit fits = record {
  each = λ n x there. elim (get_push entries e x n there) [
    | inl old ↦ subst (λ before. Fits before x) (sym (take_front entries e n (omega (arith, old.0))))
        (fit.each n x old.1)
    | inr new ↦
        let before : take n (entries ++ e ∷ []) ≡ entries =
        ap (λ k. take k (entries ++ e ∷ [])) new.0 ∙ take_whole entries e in
        subst (λ before. Fits before x) (sym before) (subst (Fits entries) new.1 fits)
  ];
}

none_fit : AllFit []
none_fit = record { each = λ n e there. absurd (omega (arith, slice_get_within [] n e there)) }

pub opening_fits : AllFit opening_entries
opening_fits = fit_push _ _ (fit_push _ _ (fit_push _ _ (fit_push _ _ none_fit fits_user) fits_role) fits_assignment)
    fits_permission

pub stands_at : (entries : List Entry) → AllFit entries → (n : ℕ) → n ≤ length entries
    → StandsFor (policy_of (take n entries)) (take n entries)
stands_at entries fit zero low =
    subst (λ p. StandsFor p []) (sym policy_of_none)
    (blank_stands USERS ROLES ROLES GRANTS SESSIONS SETS refl refl refl refl refl refl)
stands_at entries fit (suc n) low =
    let before = stands_at entries fit n (omega arith) in
    let d : Entry = record { session = None; command = DeleteSession } in
    let e : Entry = get_or entries n d in
    let there : slice_get entries n ≡ Some e = slice_get-get_or entries n d (omega arith) in
    let after : StandsFor (policy_of (take n entries ++ e ∷ [])) (take n entries ++ e ∷ []) =
    subst (λ p. StandsFor p (take n entries ++ e ∷ [])) (sym (policy_of_push (take n entries) e))
    (stands_after (policy_of (take n entries)) (take n entries) e before (fit.each n e there)) in
    subst (λ xs. StandsFor (policy_of xs) xs) (sym (take-suc entries n d (omega arith))) after

-- of a list of entries that fit, the policy of the whole and that of each front
pub stands_whole : (entries : List Entry) → AllFit entries → StandsFor (policy_of entries) entries
stands_whole entries fit = subst (λ xs. StandsFor (policy_of xs) xs) (take-length entries)
    (stands_at entries fit (length entries) (omega arith))

pub stands_front : (entries : List Entry) → AllFit entries → (n : ℕ)
    → StandsFor (policy_of (take n entries)) (take n entries)
stands_front entries fit n = elim (cases_lt n (length entries)) [
  | inl low ↦ stands_at entries fit n (omega (arith, low))
  | inr high ↦ subst (λ xs. StandsFor (policy_of xs) xs) (sym (take_all n entries (omega (arith, high))))
      (stands_whole entries fit)
]

pub opening_stands : StandsFor (policy_of opening_entries) opening_entries
opening_stands = stands_at opening_entries opening_fits 4 (omega arith)
