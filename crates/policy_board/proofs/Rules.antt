-- Each step keeps the rule of the published policy.
use Rattle.std.proofs.Common.{◌≡◌, ◌≢◌, ℕ, List, [], ◌∷◌, refl, sym, subst, ⊎_elim}
use mathlib.Core.Option.{some, some-ne-none}
use lib.ListN.{get_elem?}
use Rattle.logbook.specs.Pages.{Book}
use Rattle.crossbeam_utils.specs.Register.{Admits, Turns, TurnsAt}
use Rattle.atomic_table.proofs.Lists.{at_set, at_snoc}
use Rattle.rbac_policy.specs.declared.commands.Entry.{Entry}
use Rattle.rbac_policy.specs.declared.policy.Policy.{Policy}
use Rattle.rbac_policy.specs.Opening.{opening_entries}
use Rattle.rbac_policy.specs.StandsFor.{StandsFor}
use Rattle.rbac_admin.specs.PolicyLists.{Begins, IsPolicyList}
use Rattle.rbac_admin.proofs.PolicyListLemmas.{opening_is_list}
use Rattle.policy_board.specs.Rule.{IsKept, IsSeen}
use Rattle.policy_board.proofs.Beginnings.{begins_self, begins_trans}

single : (v w : List Entry) (place : ℕ) → get_elem? (v ∷ []) place ≡ some w → v ≡ w
single v w place e = ⊎_elim (λ x. absurd (some-ne-none w (sym x))) (λ x. x) (at_snoc [] v w place e)

module _ {T : Type 0} (book_of : T → Book) (b : Book) (policy : T → Policy) (prefix : T → List Entry) where
  abbrev pub Holds : T → List (List Entry) → Type 0
  Holds x views = (book_of x ≡ b) × IsKept (policy x) (prefix x) views

  abbrev pub Then : List Entry → T → T → List Entry → Type 0
  Then v x y w = (book_of y ≡ b) × IsSeen v (policy y) (prefix y) w

  -- open: a new reader begins with the opening entries
  pub admits : Admits Holds opening_entries
  admits x views h = (
    h.0,
    record {
      is_list = h.1.is_list;
      stands = h.1.stands;
      begins =
          λ place v at. ⊎_elim (h.1.begins place v)
          (λ (e : opening_entries ≡ v). subst (λ (l : List Entry). Begins l (prefix x)) e h.1.is_list.opens)
          (at_snoc views opening_entries v place at);
    },
  )

  -- a step that goes on to a longer list
  pub turns : (place : ℕ) (v : List Entry) (x y : T) → book_of y ≡ b → Begins (prefix x) (prefix y)
      → IsPolicyList (prefix y) → StandsFor (policy y) (prefix y) → TurnsAt Holds place v x y Then
  turns place v x y book up is stands views h at = (
    prefix y,
    (
      book,
      record {
        is_list = is;
        stands = stands;
        begins = λ j u e. ⊎_elim
            (λ (t : (j ≡ place) × (prefix y ≡ u)). subst (λ (l : List Entry). Begins l (prefix y)) t.1
            (begins_self (prefix y)))
            (λ (t : (j ≢ place) × (get_elem? views j ≡ some u)). begins_trans (h.1.begins j u t.1) up)
            (at_set views place j (prefix y) u e);
      },
    ),
    (book, record { all = refl; later = begins_trans (h.1.begins place v at) up; stands = stands }),
  )

  -- enter: what is shown stays, and all of it is seen
  pub reads : (place : ℕ) (v : List Entry) → Turns Holds place v (λ x. x) Then
  reads place v x views h at = turns place v x x h.0 (begins_self (prefix x)) h.1.is_list h.1.stands views h at
