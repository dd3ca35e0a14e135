-- Where no module runs itself, however many runs further down, what holds of each module whose runs it holds of holds
-- of all.
use Rattle.std.proofs.Common.{◌≡◌, ℕ, zero, suc, ◌+◌, ◌<◌, ◌⊎◌, inl, inr, Bool, true, false, not, List, [], length}
use Rattle.std.proofs.Common.{replicate, Some, slice_index_or, slice_set, if◌then◌else◌, count_by, Contains, refl, sym}
use Rattle.std.proofs.Common.{◌∙◌, subst, arith}
use Rattle.std.proofs.lemmas.Bool.{cases_eq, false≢true, false_from_ne_true}
use Rattle.std.proofs.lemmas.List.{length-set, length-map, length-replicate, get_or-replicate, get_or-set_other}
use Rattle.std.proofs.lemmas.List.Sums.{sum_by-set}
use Rattle.std.proofs.lemmas.Option.{slice_get_within}
use Rattle.std.specs.List.{slice_get}
use Rattle.std.specs.Str.{bytes_eq}
use Rattle.est_modules.specs.Modules.{Program, program_named}
use Rattle.est_modules.specs.Occurrences.{Occurrence, occurrences}
use Rattle.est_modules.specs.ModuleOrders.{run_rows, places_run}
use Rattle.est_modules.proofs.Standing.{found_place}
use Rattle.est_modules.proofs.Ordering.{IsRunOf, run_is_run}
use Rattle.est_order.specs.PlaceOrders.{NoneIsRecursive}
use Rattle.est_order.specs.PlaceSets.{IsIn}
use Rattle.est_order.specs.RunRows.{IsRun, Leads, once}
use Rattle.est_order.proofs.SearchLemmas.{extended, in_bounds, in_set, none_in_none}

-- ---- places, each after those that it is run by: none is met again, so the way down ends

-- one place fewer is left
one_fewer : (seen : List Bool) (p : ℕ) → p < length seen → slice_index_or seen p false ≡ false
    → count_by (λ b. not b) (slice_set seen p true) + 1 ≡ count_by (λ b. not b) seen
one_fewer seen p l e =
    let counted : count_by (λ b. not b) (slice_set seen p true) + (if not (slice_index_or seen p false) then 1 else 0)
    ≡ count_by (λ b. not b) seen + 0 = sum_by-set (λ b. if not b then 1 else 0) seen p true false l in
    let one : count_by (λ b. not b) (slice_set seen p true) + 1 ≡ count_by (λ b. not b) seen + 0 =
    subst (λ b. count_by (λ b. not b) (slice_set seen p true) + (if not b then 1 else 0)
    ≡ count_by (λ b. not b) seen + 0) e counted in
    omega (arith, one)

-- the way to a place goes on by one run
led_on : (rows : List (List ℕ)) (seen : List Bool) (place run : ℕ) → IsRun rows place run
    → ((s : ℕ) → IsIn seen s → Leads rows s place) → (s : ℕ) → IsIn (slice_set seen place true) s → Leads rows s run
led_on rows seen place run is led s h = elim (in_set seen place s h) [
  | inl old ↦ extended rows (led s old) is
  | inr e ↦ subst (λ k. Leads rows k run) e (once is)
]

down : (n : ℕ) (rows : List (List ℕ)) (P : ℕ → Type 0) → NoneIsRecursive rows
    → ((place : ℕ) → place < length rows → ((run : ℕ) → IsRun rows place run → P run) → P place)
    → (seen : List Bool) → length seen ≡ length rows → count_by (λ b. not b) seen < n
    → (place : ℕ) → place < length rows → slice_index_or seen place false ≡ false
    → ((s : ℕ) → IsIn seen s → Leads rows s place) → P place
down zero rows P none step seen same few place there unseen led = absurd (omega (arith, few))
down (suc n) rows P none step seen same few place there unseen led =
    let fewer = one_fewer seen place (subst (λ k. place < k) (sym same) there) unseen in
    step place there (λ run is.
    let on = led_on rows seen place run is led in
    down n rows P none step (slice_set seen place true) (length-set seen place true ∙ same)
    (omega (arith, few, fewer)) run is.there
    (false_from_ne_true (slice_index_or (slice_set seen place true) run false) (λ h. none run (on run h))) on)

-- what holds of a place where it holds of those that it runs holds of each
pub by_places : (rows : List (List ℕ)) (P : ℕ → Type 0) → NoneIsRecursive rows
    → ((place : ℕ) → place < length rows → ((run : ℕ) → IsRun rows place run → P run) → P place) → (place : ℕ)
    → place < length rows → P place
by_places rows P none step place there =
    let seen : List Bool = replicate (length rows) false in
    down (suc (count_by (λ b. not b) seen)) rows P none step seen (length-replicate (length rows) false)
    (omega arith) place there
    (get_or-replicate (length rows) place false false there) (λ s h. absurd (none_in_none (length rows) s h))

-- the same of modules and their names
pub by_modules : (ps : List Program) (P : List ℕ → Program → Type 0) → NoneIsRecursive (run_rows ps)
    → ((m : List ℕ) (p : Program) → program_named ps m ≡ Some p
    → ((o : Occurrence) → Contains (occurrences [] p.body) o → (n : List ℕ) → IsRunOf o.act n → (q : Program)
    → program_named ps n ≡ Some q → P n q) → P m p)
    → (m : List ℕ) (p : Program) → program_named ps m ≡ Some p → P m p
by_modules ps P none step m p found =
    let here = found_place (λ (r : Program). bytes_eq r.name m) ps p found in
    by_places (run_rows ps) (λ place. (p : Program) → slice_get ps place ≡ Some p → (m : List ℕ)
    → program_named ps m ≡ Some p → P m p) none
    (λ place there below p at m found. step m p found (λ o stands n is_run q named.
    let its = found_place (λ (r : Program). bytes_eq r.name n) ps q named in
    below its.0 (run_is_run ps place its.0 p o n at stands is_run its.1) q its.2 n named))
    here.0 (omega (arith, slice_get_within ps here.0 p here.2, length-map ps (places_run ps))) p here.2 m found
