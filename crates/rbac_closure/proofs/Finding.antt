-- All that lies below a set of roles can be found for any edges, a place's row after the other.
use Rattle.std.proofs.Common.{◌≡◌, ◌↔◌, ℕ, zero, suc, ◌<◌, ◌⊎◌, List, length, inl, inr, arith, subst, sym}
use Rattle.std.specs.Prelude.{slice_index}
use Rattle.std.proofs.lemmas.Bool.{cases_lt}
use Rattle.rbac_closure.specs.Sets.{Has, either}
use Rattle.rbac_closure.specs.Edges.{Chain, stay, step, IsEdge, AllBelow}
use Rattle.rbac_closure.proofs.SetLemmas.{has_cases, has_either}
use Rattle.rbac_closure.proofs.ChainLemmas.{joined, widened, stays, with_row}
use Rattle.rbac_closure.proofs.EdgeLemmas.{from_table}

-- an edge leads from the senior, which stands before `many`, to the junior
abbrev IsEarly : List ℕ → ℕ → ℕ → ℕ → Type 0
IsEarly edges many senior junior = (senior < many) × IsEdge edges senior junior

-- the place is in the set, or a chain of such edges leads to it from one that is
abbrev Leads : (ℕ → ℕ → Type 0) → ℕ → ℕ → Type 0
Leads Edge set place = (top : ℕ) × Has set top × Chain Edge top place

-- the set of all places to which such chains lead
abbrev Led : List ℕ → ℕ → ℕ → Type 0
Led edges many set = (found : ℕ) × ((place : ℕ) → Has found place ↔ Leads (IsEarly edges many) set place)

module _ (edges : List ℕ) (many : ℕ) where
  abbrev row : ℕ
  row = slice_index edges many

  more_early : (x y : ℕ) → IsEarly edges many x y → IsEarly edges (suc many) x y
  more_early x y e = (omega (arith, e.0), e.1)

  early_or_row : (x y : ℕ) → IsEarly edges (suc many) x y → IsEarly edges many x y ⊎ ((x ≡ many) × Has row y)
  early_or_row x y e = elim (cases_lt x many) [
    | inl l ↦ inl (l, e.1)
    | inr g ↦
        let same : x ≡ many = omega (arith, e.0) in
        inr (same, subst (λ k. Has (slice_index edges k) y) same e.1)
  ]

  -- where the place of the row is reached, all that its juniors reach is reached too
  led_further : (set : ℕ) → Led edges many set → Led edges many row → Led edges (suc many) set
  led_further set old from_row = elim (has_cases old.0 many) [
    | inl reached ↦ (
      either old.0 from_row.0,
      λ p. (
        λ h. elim ((has_either old.0 from_row.0 p).0 h) [
          | inl x ↦ let l = (old.1 p).0 x in (l.0, l.1, widened more_early l.2)
          | inr x ↦
              let to = (old.1 many).0 reached in
              let from = (from_row.1 p).0 x in
              (to.0, to.1, joined (widened more_early to.2) (step (omega arith, from.1) (widened more_early from.2)))
        ],
        λ l. elim (with_row many (Has row) early_or_row l.2) [
          | inl q ↦ (has_either old.0 from_row.0 p).1 (inl ((old.1 p).1 (l.0, l.1, q)))
          | inr q ↦ (has_either old.0 from_row.0 p).1 (inr ((from_row.1 p).1 q.1))
        ],
      ),
    )
    | inr none ↦ (
      old.0,
      λ p. (
        λ h. let l = (old.1 p).0 h in (l.0, l.1, widened more_early l.2),
        λ l. elim (with_row many (Has row) early_or_row l.2) [
          | inl q ↦ (old.1 p).1 (l.0, l.1, q)
          | inr q ↦ absurd (omega (arith, none, (old.1 many).1 (l.0, l.1, q.0)))
        ],
      ),
    )
  ]

led : (edges : List ℕ) (many set : ℕ) → Led edges many set
led edges zero set = (
  set,
  λ p. (
    λ h. (p, h, stay),
    λ l. subst (Has set) (sym (stays (λ x y e. absurd (omega (arith, e.0))) l.2)) l.1,
  ),
)
led edges (suc many) set = led_further edges many set (led edges many set) (led edges many (slice_index edges many))

-- all that lies below a set
pub all_below : (edges : List ℕ) (set : ℕ) → AllBelow edges set
all_below edges set =
    let all = led edges (length edges) set in
    record {
      found = all.0;
      is = λ p. (
        λ h. let l = (all.1 p).0 h in record { top = l.0; within = l.1; chain = widened (λ x y e. e.1) l.2 },
        λ b. (all.1 p).1 (b.top, b.within, widened (λ x y e. (from_table edges x y e, e)) b.chain),
      );
    }
