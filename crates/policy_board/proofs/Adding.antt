-- The steps of the word keep the rule of the one list.
use Rattle.std.proofs.Common.{◌≡◌, ℕ, ◌+◌, ◌<◌, ◌==◌, Bool, true, false, List, [], ◌∷◌, ◌++◌, length, refl, ap, sym}
use Rattle.std.proofs.Common.{subst, arith, inl, length-append, None}
use Rattle.std.proofs.lemmas.List.{append-nil}
use Rattle.std.proofs.lemmas.Bool.Decides.{nat_tests}
use mathlib.Core.List.{IsPrefix}
use prog.Atomic.{either}
use Rattle.logbook.specs.Pages.{Cell, cell, keeps, no_nib, step, Moves, Goes}
use Rattle.rbac_policy.specs.declared.commands.Entry.{Entry}
use Rattle.rbac_policy.specs.Opening.{opening_entries}
use Rattle.rbac_admin.specs.PolicyLists.{IsAccepted, IsPolicyList}
use Rattle.rbac_admin.proofs.PolicyListLemmas.{opening_is_list, list_grows}
use Rattle.policy_board.specs.Inner.Book.{IsBook, Adds, Looks, no_entry}
use Rattle.policy_board.proofs.Beginnings.{as_begins, begins_whole}

abbrev pub shown : List Entry → List Entry
shown log = []

abbrev pub moved : List Entry → List Entry → ℕ → Type 0
moved xs ys n = Unit {0}

pub opened : IsBook ((4, true) ∷ (0, true) ∷ []) opening_entries
opened = record { words = refl; list = opening_is_list }

pub adds_goes : (log v : List Entry) (e : Entry) (old : ℕ) → length v ≡ old → IsAccepted v e → IsPolicyList log
    → IsPrefix v log
    → (b : Bool) → (length log == old) ≡ b
    → Goes IsBook shown moved 0 (v, (no_nib, None)) (λ n. either (n == old) (old + 1) n)
    (Adds (step 0 old (old + 1) e) (v, (no_nib, None))) ((length log, true) ∷ (0, true) ∷ []) log
adds_goes log v e old len may list pre true is =
    let here : length log ≡ old = grind (arith, nat_tests) in
    let same : v ≡ log = begins_whole v log (as_begins v log pre) (omega arith) in
    let list' : IsPolicyList (log ++ e ∷ []) = list_grows log e list
    (subst (λ (l : List Entry). IsAccepted l e) same may) in
    let n : either (length log == old) (old + 1) (length log) ≡ length (log ++ e ∷ []) =
    rw is (omega (arith, length-append log (e ∷ []))) in (
      keeps,
      e ∷ [],
      None,
      tt,
      record { words = ap (λ (k : ℕ). (k, true) ∷ (0, true) ∷ []) n; list = list' },
      inl (refl, refl),
      rw is (ap (λ w. w ++ e ∷ []) (sym same), list'),
    )
adds_goes log v e old len may list pre false is =
    let all : log ++ [] ≡ log = append-nil log in
    let list' : IsPolicyList (log ++ []) = subst IsPolicyList (sym all) list in
    let n : either (length log == old) (old + 1) (length log) ≡ length (log ++ []) = rw is (ap length (sym all)) in (
      keeps,
      [],
      None,
      tt,
      record { words = ap (λ (k : ℕ). (k, true) ∷ (0, true) ∷ []) n; list = list' },
      inl (refl, refl),
      rw is (tt, list'),
    )

-- whatever the book is, the exchange adds the entry to all that was seen, or finds that the list is longer
pub adds_moves : (v : List Entry) (e : Entry) (old : ℕ) → length v ≡ old → IsAccepted v e
    → Moves IsBook shown moved 0 (v, (no_nib, None)) (λ n. either (n == old) (old + 1) n)
    (Adds (step 0 old (old + 1) e) (v, (no_nib, None)))
adds_moves v e old len may cs log kept pre away =
    let P : List Cell → Type 0 = λ c. (0 < length c) × ((cell c 0).1 ≡ true)
    × Goes IsBook shown moved 0 (v, (no_nib, None)) (λ n. either (n == old) (old + 1) n)
    (Adds (step 0 old (old + 1) e) (v, (no_nib, None))) c log in
    subst P (sym kept.words) (omega arith, refl, adds_goes log v e old len may kept.list pre (length log == old) refl)
