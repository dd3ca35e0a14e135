-- What follows from levels: where runs lead to lower ones, no module is recursive, and places in the order of their
-- levels are bottom-up.
use Rattle.std.proofs.Common.{◌≡◌, ℕ, ◌<◌, ◌≤◌, inl, inr, Bool, true, ◌||◌, List, [], length, slice_index}
use Rattle.std.proofs.Common.{slice_index_or, get_or, nat_lt, nat_le, IsPermutation, Contains, Vec, Global, subst}
use Rattle.std.proofs.Common.{ap, sym, ◌∙◌, arith}
use Rattle.std.specs.List.{range_with_len, list_all}
use Rattle.std.specs.List.Sorted.{IsNonDecreasingBy}
use Rattle.std.proofs.lemmas.Bool.{cases_lt, or_cases, or_left, or_right, leb-true, ltb-true, le-leb, lt-ltb}
use Rattle.std.proofs.lemmas.List.{get_or_past, length-map}
use Rattle.std.proofs.lemmas.List.Elements.{All-contains, All-from_get_or, Contains-get_or}
use Rattle.std.proofs.lemmas.List.Sums.{AllPass-from_list_all, list_all-from_AllPass}
use Rattle.est_order.specs.RunRows.{rows_of, IsRun, Leads, once, through, IsRecursive}
use Rattle.est_order.specs.PlaceOrders.{IsBottomUp, IsFirstRecursive, NoneIsRecursive}
use Rattle.est_order.specs.Inner.Levels.{runs_no_higher, runs_lower, NoneClimbs, AllFall, IsFirstNotFalling}
use Rattle.est_order.proofs.SearchLemmas.{none_in_empty}

-- there is a row for each module
pub rows_count : (runs : List (Vec ℕ Global)) → length (rows_of runs) ≡ length runs
rows_count runs = length-map runs (λ (row : Vec ℕ Global). row.items)

-- what runs a module is there
runner_there : (rows : List (List ℕ)) (p q : ℕ) → IsRun rows p q → p < length rows
runner_there rows p q run = elim (cases_lt p (length rows)) [
  | inl l ↦ l
  | inr past ↦ absurd (none_in_empty q (subst (λ row. Contains row q) (get_or_past rows p [] past) run.named))
]

-- what leads to another is there
leads_from : (rows : List (List ℕ)) {a b : ℕ} → Leads rows a b → a < length rows
leads_from rows (once {a = a} {b = b} run) = runner_there rows a b run
leads_from rows (through {a = a} {b = b} run rest) = runner_there rows a b run

no_higher_run : (rows : List (List ℕ)) (levels : List ℕ) (p q : ℕ) → runs_no_higher rows levels p ≡ true
    → IsRun rows p q → slice_index levels q ≤ slice_index levels p
unfolding runs_no_higher
no_higher_run rows levels p q h run =
    let test : ℕ → Bool = λ r. nat_le (length rows) r || nat_le (slice_index levels r) (slice_index levels p) in
    let passed : test q ≡ true = All-contains (λ r. test r ≡ true) (slice_index_or rows p []) q
    (AllPass-from_list_all test (slice_index_or rows p []) h) run.named in
    elim (or_cases (nat_le (length rows) q) (nat_le (slice_index levels q) (slice_index levels p)) passed) [
      | inl past ↦ absurd (omega (arith, leb-true (length rows) q past, run.there))
      | inr low ↦ leb-true (slice_index levels q) (slice_index levels p) low
    ]

lower_run : (rows : List (List ℕ)) (levels : List ℕ) (p q : ℕ) → runs_lower rows levels p ≡ true → IsRun rows p q
    → slice_index levels q < slice_index levels p
unfolding runs_lower
lower_run rows levels p q h run =
    let test : ℕ → Bool = λ r. nat_le (length rows) r || nat_lt (slice_index levels r) (slice_index levels p) in
    let passed : test q ≡ true = All-contains (λ r. test r ≡ true) (slice_index_or rows p []) q
    (AllPass-from_list_all test (slice_index_or rows p []) h) run.named in
    elim (or_cases (nat_le (length rows) q) (nat_lt (slice_index levels q) (slice_index levels p)) passed) [
      | inl past ↦ absurd (omega (arith, leb-true (length rows) q past, run.there))
      | inr low ↦ ltb-true (slice_index levels q) (slice_index levels p) low
    ]

-- the test passes where each run leads to a lower level
pub runs_lower_from : (rows : List (List ℕ)) (levels : List ℕ) (p : ℕ)
    → ((q : ℕ) → IsRun rows p q → slice_index levels q < slice_index levels p) → runs_lower rows levels p ≡ true
unfolding runs_lower
runs_lower_from rows levels p h =
    let row = slice_index_or rows p [] in
    let test : ℕ → Bool = λ r. nat_le (length rows) r || nat_lt (slice_index levels r) (slice_index levels p) in
    list_all-from_AllPass test row (All-from_get_or (λ r. test r ≡ true) row 0 (λ k k_in.
    elim (cases_lt (get_or row k 0) (length rows)) [
      | inl there ↦
          or_right _ _ (lt-ltb _ _ (h (get_or row k 0)
          (record { there = there; named = Contains-get_or row k 0 k_in })))
      | inr past ↦ or_left _ _ (le-leb _ _ past)
    ]))

-- what the code asks of a row is what these tests ask
pub no_higher_is : (runs : List (Vec ℕ Global)) (levels row : List ℕ) (place level : ℕ)
    → level ≡ slice_index levels place → row ≡ slice_index_or (rows_of runs) place []
    → list_all (λ run. nat_le (length runs) run || nat_le (slice_index levels run) level) row
    ≡ runs_no_higher (rows_of runs) levels place
unfolding runs_no_higher
no_higher_is runs levels row place level e at =
    ap (λ n. list_all (λ run. nat_le n run || nat_le (slice_index levels run) level) row) (sym (rows_count runs))
    ∙ ap (λ n. list_all (λ run. nat_le (length (rows_of runs)) run || nat_le (slice_index levels run) n) row) e
    ∙ ap (λ (r : List ℕ). list_all (λ run. nat_le (length (rows_of runs)) run || nat_le (slice_index levels run)
    (slice_index levels place)) r) at

pub lower_is : (runs : List (Vec ℕ Global)) (levels row : List ℕ) (place level : ℕ) → level ≡ slice_index levels place
    → row ≡ slice_index_or (rows_of runs) place []
    → list_all (λ run. nat_le (length runs) run || nat_lt (slice_index levels run) level) row
    ≡ runs_lower (rows_of runs) levels place
unfolding runs_lower
lower_is runs levels row place level e at =
    ap (λ n. list_all (λ run. nat_le n run || nat_lt (slice_index levels run) level) row) (sym (rows_count runs))
    ∙ ap (λ n. list_all (λ run. nat_le (length (rows_of runs)) run || nat_lt (slice_index levels run) n) row) e
    ∙ ap (λ (r : List ℕ). list_all (λ run. nat_le (length (rows_of runs)) run || nat_lt (slice_index levels run)
    (slice_index levels place)) r) at

-- a chain of runs never climbs
never_climbs : (rows : List (List ℕ)) (levels : List ℕ) → NoneClimbs rows levels → {a b : ℕ} → Leads rows a b
    → slice_index levels b ≤ slice_index levels a
never_climbs rows levels h (once {a = a} {b = b} run) =
    no_higher_run rows levels a b (h a (runner_there rows a b run)) run
never_climbs rows levels h (through {a = a} {b = b} {c = c} run rest) =
    let one : slice_index levels b ≤ slice_index levels a =
    no_higher_run rows levels a b (h a (runner_there rows a b run)) run in
    let others : slice_index levels c ≤ slice_index levels b = never_climbs rows levels h rest in
    omega arith

-- and falls, where its first run does
falls : (rows : List (List ℕ)) (levels : List ℕ) → NoneClimbs rows levels → {a b : ℕ}
    → runs_lower rows levels a ≡ true → Leads rows a b → slice_index levels b < slice_index levels a
falls rows levels h low (once {a = a} {b = b} run) = lower_run rows levels a b low run
falls rows levels h low (through {a = a} {b = b} {c = c} run rest) =
    let one : slice_index levels b < slice_index levels a = lower_run rows levels a b low run in
    let others : slice_index levels c ≤ slice_index levels b = never_climbs rows levels h rest in
    omega arith

-- so a module that runs lower ones alone isn't recursive
not_recursive : (rows : List (List ℕ)) (levels : List ℕ) (p : ℕ) → NoneClimbs rows levels
    → runs_lower rows levels p ≡ true → IsRecursive rows p → ⊥
not_recursive rows levels p h low back =
    let less : slice_index levels p < slice_index levels p = falls rows levels h low back in
    omega arith

-- the first module that runs one whose level isn't lower is the first recursive one, if it is recursive
pub first_recursive : (rows : List (List ℕ)) (levels : List ℕ) (p : ℕ) → NoneClimbs rows levels
    → IsFirstNotFalling rows levels p → IsRecursive rows p → IsFirstRecursive rows p
first_recursive rows levels p h at back = record {
  there = at.there;
  recursive = back;
  first = λ before l. not_recursive rows levels before h (at.before before l);
}

no_higher_from : (rows : List (List ℕ)) (levels : List ℕ) (p : ℕ) → runs_lower rows levels p ≡ true
    → runs_no_higher rows levels p ≡ true
unfolding runs_no_higher
no_higher_from rows levels p h =
    let row = slice_index_or rows p [] in
    let test : ℕ → Bool = λ r. nat_le (length rows) r || nat_le (slice_index levels r) (slice_index levels p) in
    list_all-from_AllPass test row (All-from_get_or (λ r. test r ≡ true) row 0 (λ k k_in.
    elim (cases_lt (get_or row k 0) (length rows)) [
      | inl there ↦
          let less = lower_run rows levels p (get_or row k 0) h
          (record { there = there; named = Contains-get_or row k 0 k_in }) in
          or_right _ _ (le-leb (slice_index levels (get_or row k 0)) (slice_index levels p) (omega (arith, less)))
      | inr past ↦ or_left _ _ (le-leb _ _ past)
    ]))

-- where all fall, none is recursive
pub none_recursive : (rows : List (List ℕ)) (levels : List ℕ) → AllFall rows levels → NoneIsRecursive rows
none_recursive rows levels h p back =
    not_recursive rows levels p (λ q l. no_higher_from rows levels q (h q l)) (h p (leads_from rows back)) back

-- where all fall, places in the order of their levels are bottom-up
pub sorted_is_bottom_up : (rows : List (List ℕ)) (levels places : List ℕ) → AllFall rows levels
    → IsPermutation (range_with_len 0 (length rows)) places
    → IsNonDecreasingBy (λ place. slice_index levels place) places → IsBottomUp rows places
sorted_is_bottom_up rows levels places h same sorted = record {
  each_once = same;
  after_runs = λ i j i_in j_in run.
      let runner = slice_index places i in
      let less = lower_run rows levels runner (slice_index places j) (h runner (runner_there rows runner _ run)) run in
      elim (cases_lt j i) [ inl l ↦ l | inr g ↦ absurd (omega (arith, less, sorted i j 0 g j_in)) ];
}
