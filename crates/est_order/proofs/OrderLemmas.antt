-- How many places a module leads to: fewer than each module that runs it, where none is recursive.
use Rattle.std.proofs.Common.{◌≡◌, ℕ, zero, suc, ◌+◌, ◌<◌, ◌≤◌, inl, inr, Bool, true, false, List, [], ◌∷◌, ◌++◌}
use Rattle.std.proofs.Common.{if◌then◌else◌, length, slice_index, slice_index_or, refl, ap, sym, ◌∙◌, subst, arith}
use Rattle.std.proofs.lemmas.Bool.{cases_lt, false≢true, false_from_ne_true}
use Rattle.std.proofs.lemmas.List.{get_or_append_left, get_or_push, length_push}
use Rattle.std.proofs.lemmas.List.Sums.{sum_by-cons}
use Rattle.est_order.specs.RunRows.{IsRun, Leads, once, through, IsRecursive}
use Rattle.est_order.specs.PlaceOrders.{NoneIsRecursive}
use Rattle.est_order.specs.Inner.Levels.{AllFall}
use Rattle.est_order.specs.PlaceSets.{IsIn}
use Rattle.est_order.specs.Inner.Reached.{IsReach, IsRankOf, AreRanks, size}
use Rattle.est_order.proofs.LevelLemmas.{runs_lower_from}

-- what a chain leads to is there
pub leads_there : (rows : List (List ℕ)) {a b : ℕ} → Leads rows a b → b < length rows
leads_there rows (once run) = run.there
leads_there rows (through run rest) = leads_there rows rest

abbrev one_if : Bool → ℕ
one_if b = if b then 1 else 0

size-cons : (b : Bool) (ys : List Bool) → size (b ∷ ys) ≡ one_if b + size ys
size-cons b ys = sum_by-cons one_if b ys

no_more_head : (a b : Bool) → (a ≡ true → b ≡ true) → one_if a ≤ one_if b
no_more_head true true h = omega arith
no_more_head true false h = absurd (false≢true (h refl))
no_more_head false true h = omega arith
no_more_head false false h = omega arith

-- a part of a set has no more places
no_more : (xs ys : List Bool) → length xs ≡ length ys → ((i : ℕ) → IsIn xs i → IsIn ys i) → size xs ≤ size ys
no_more [] ys e h = omega arith
no_more (a ∷ xs) [] e h = absurd (omega (arith, e))
no_more (a ∷ xs) (b ∷ ys) e h =
    let heads : one_if a ≤ one_if b = no_more_head a b (h 0) in
    let tails : size xs ≤ size ys = no_more xs ys (omega (arith, e)) (λ i. h (suc i)) in
    omega (arith, heads, tails, size-cons a xs, size-cons b ys)

-- a part that lacks a place has fewer
fewer : (xs ys : List Bool) (k : ℕ) → length xs ≡ length ys → ((i : ℕ) → IsIn xs i → IsIn ys i)
    → slice_index_or xs k false ≡ false → IsIn ys k → size xs < size ys
fewer [] [] k e h out in_b = absurd (false≢true in_b)
fewer [] (b ∷ ys) k e h out in_b = absurd (omega (arith, e))
fewer (a ∷ xs) [] k e h out in_b = absurd (omega (arith, e))
fewer (a ∷ xs) (b ∷ ys) zero e h out in_b =
    let none : one_if a ≡ 0 = ap one_if out in
    let one : one_if b ≡ 1 = ap one_if in_b in
    let tails : size xs ≤ size ys = no_more xs ys (omega (arith, e)) (λ i. h (suc i)) in
    omega (arith, none, one, tails, size-cons a xs, size-cons b ys)
fewer (a ∷ xs) (b ∷ ys) (suc k) e h out in_b =
    let heads : one_if a ≤ one_if b = no_more_head a b (h 0) in
    let tails : size xs < size ys = fewer xs ys k (omega (arith, e)) (λ i. h (suc i)) out in_b in
    omega (arith, heads, tails, size-cons a xs, size-cons b ys)

-- a module that is run leads to fewer places than its runner, unless it is recursive
fewer_below : (rows : List (List ℕ)) (p q m n : ℕ) → IsRankOf rows p m → IsRankOf rows q n → IsRun rows p q
    → (IsRecursive rows q → ⊥) → n < m
fewer_below rows p q m n above below run none =
    let less = fewer below.set above.set q (below.reach.each ∙ sym above.reach.each)
    (λ i x. (above.reach.exact i).1 (through run ((below.reach.exact i).0 x)))
    (false_from_ne_true _ (λ x. none ((below.reach.exact q).0 x)))
    ((above.reach.exact q).1 (once run)) in
    omega (arith, less, above.counted, below.counted)

-- the rank of one more module
pub ranks_more : (rows : List (List ℕ)) (n rank : ℕ) (xs ys : List ℕ) (set : List Bool) → ys ≡ xs ++ rank ∷ []
    → AreRanks rows n xs → IsReach rows n set → rank ≡ size set → AreRanks rows (n + 1) ys
ranks_more rows n rank xs ys set e h reach counted =
    subst (λ zs. AreRanks rows (n + 1) zs) (sym e) (record {
      each = omega (arith, length_push xs rank, h.each);
      ranked = λ p l. elim (cases_lt p n) [
        | inl lower ↦
            subst (λ r. IsRankOf rows p r) (sym (get_or_append_left xs (rank ∷ []) 0 p (omega (arith, lower, h.each))))
            (h.ranked p lower)
        | inr g ↦
            let same : n ≡ p = omega arith in
            subst (λ r. IsRankOf rows p r) (sym (get_or_push xs rank 0 p (h.each ∙ same)))
            (subst (λ q. IsRankOf rows q rank) same (record { set = set; reach = reach; counted = counted }))
      ];
    })

-- ranks fall along each run, where no module is recursive
pub ranks_fall : (rows : List (List ℕ)) (ranks : List ℕ) → AreRanks rows (length rows) ranks → NoneIsRecursive rows
    → AllFall rows ranks
ranks_fall rows ranks h none p l = runs_lower_from rows ranks p (λ q run.
    fewer_below rows p q (slice_index ranks p) (slice_index ranks q) (h.ranked p l) (h.ranked q run.there) run (none q))

-- none up to this one is recursive
pub none_more : (rows : List (List ℕ)) (n : ℕ) (set : List Bool)
    → ((before : ℕ) → before < n → IsRecursive rows before → ⊥) → IsReach rows n set
    → slice_index_or set n false ≡ false → (before : ℕ) → before < n + 1 → IsRecursive rows before → ⊥
none_more rows n set none reach out before l h = elim (cases_lt before n) [
  | inl lower ↦ none before lower h
  | inr g ↦
      let e : before ≡ n = omega arith in
      false≢true (sym out ∙ (reach.exact n).1 (subst (λ k. IsRecursive rows k) e h))
]
