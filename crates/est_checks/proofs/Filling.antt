-- The numbers of statements along an order of the modules: the table that is filled has the cut of whole numbers that
-- meet the equation of each module.
use Rattle.std.proofs.Common.{◌≡◌, ℕ, zero, suc, ◌+◌, ◌<◌, ◌≤◌, inl, inr, min, Bool, cond, nat_lt, List, [], ◌∷◌, ◌++◌}
use Rattle.std.proofs.Common.{length, map, take, slice_get, slice_index, slice_set, Option, Some, None}
use Rattle.std.proofs.Common.{unwrap_or, Contains, refl, ap, sym, ◌∙◌, subst, arith, rules}
use Rattle.std.specs.List.{find, position, position_or_len}
use Rattle.std.specs.Str.{bytes_eq}
use Rattle.std.proofs.lemmas.Bool.{cases_lt, cases_eq, lt-ltb}
use Rattle.std.proofs.lemmas.List.{length-set, length-map, map-set, get_or-set_same, get_or-set_other}
use Rattle.std.proofs.lemmas.List.Elements.{Contains-append_left, Contains-append_right}
use Rattle.std.proofs.lemmas.List.Folds.{find_at}
use Rattle.std.proofs.lemmas.Option.{slice_get_within, slice_get-get_or, get_or_from_slice_get}
use Rattle.est_kernel.specs.declared.limits.TheConstants.{MOST_STATEMENTS}
use Rattle.est_checks.specs.declared.statement_count.TheConstants.{TOO_MANY}
use Rattle.est_order.specs.RunRows.{IsRun}
use Rattle.est_order.proofs.OrderPlaces.{each_stands}
use Rattle.est_modules.specs.Derived.{Derived, missing, nothing, pause, halt, emit, sustain, exit, await, present}
use Rattle.est_modules.specs.Derived.{suspend, abort, weak_abort, repeat, repeat_each, every, trap, signal, run, seq}
use Rattle.est_modules.specs.Derived.{par}
use Rattle.est_modules.specs.Occurrences.{Binder, signals, a_trap, binds, runs, Occurrence, tested, occurrences}
use Rattle.est_modules.specs.Tests.{test_words}
use Rattle.est_modules.specs.Modules.{Program}
use Rattle.est_checks.specs.Counting.{counted, AreCounts, IsCountOf, IsWithinLimit}
use Rattle.est_modules.specs.ModuleOrders.{place_named, places_run, run_rows, IsOrderOf}
use Rattle.est_modules.proofs.Ordering.{IsRunOf, run_is_run}
use Rattle.est_modules.proofs.Testing.{some_same}
use Rattle.est_modules.proofs.Standing.{program_at}
use Rattle.est_checks.specs.Inner.Numbers.{number_found, number_of, IsFilled}

-- ---- counting by numbers that are cut alike, or that are the same for what is run

cut_sum : (c a b x y : ℕ) → min c a ≡ min c x → min c b ≡ min c y → min c (a + b + 1) ≡ min c (x + y + 1)
cut_sum c a b x y e d = omega (arith, e, d)

cut_one : (c a x : ℕ) → min c a ≡ min c x → min c (a + 1) ≡ min c (x + 1)
cut_one c a x e = omega (arith, e)

cut_test : (c w a b x y : ℕ) → min c a ≡ min c x → min c b ≡ min c y → min c (w + a + b + 1) ≡ min c (w + x + y + 1)
cut_test c w a b x y e d = omega (arith, e, d)

cut_watch : (c w a x : ℕ) → min c a ≡ min c x → min c (w + a + 1) ≡ min c (w + x + 1)
cut_watch c w a x e = omega (arith, e)

-- numbers that are cut alike give counts that are cut alike
pub counted_cut : (c : ℕ) (f g : List ℕ → ℕ) → ((m : List ℕ) → min c (f m) ≡ min c (g m)) → (d : Derived)
    → min c (counted f d) ≡ min c (counted g d)
counted_cut c f g h missing = refl
counted_cut c f g h nothing = refl
counted_cut c f g h pause = refl
counted_cut c f g h halt = refl
counted_cut c f g h (emit s) = refl
counted_cut c f g h (sustain s) = refl
counted_cut c f g h (exit t) = refl
counted_cut c f g h (await d) = refl
counted_cut c f g h (present t p q) = cut_test c (test_words t) (counted f p) (counted f q) (counted g p)
    (counted g q) (counted_cut c f g h p) (counted_cut c f g h q)
counted_cut c f g h (suspend p d) = cut_watch c (test_words d.test) (counted f p) (counted g p) (counted_cut c f g h p)
counted_cut c f g h (abort p d) = cut_watch c (test_words d.test) (counted f p) (counted g p) (counted_cut c f g h p)
counted_cut c f g h (weak_abort p d) = cut_watch c (test_words d.test) (counted f p) (counted g p)
    (counted_cut c f g h p)
counted_cut c f g h (repeat p) = cut_one c (counted f p) (counted g p) (counted_cut c f g h p)
counted_cut c f g h (repeat_each p t) = cut_watch c (test_words t) (counted f p) (counted g p) (counted_cut c f g h p)
counted_cut c f g h (every d p) = cut_watch c (test_words d.test) (counted f p) (counted g p) (counted_cut c f g h p)
counted_cut c f g h (trap t p) = cut_one c (counted f p) (counted g p) (counted_cut c f g h p)
counted_cut c f g h (signal ns p) = cut_one c (counted f p) (counted g p) (counted_cut c f g h p)
counted_cut c f g h (run m rs) = h m
counted_cut c f g h (seq p q) = cut_sum c (counted f p) (counted f q) (counted g p) (counted g q)
    (counted_cut c f g h p) (counted_cut c f g h q)
counted_cut c f g h (par p q) = cut_sum c (counted f p) (counted f q) (counted g p) (counted g q)
    (counted_cut c f g h p) (counted_cut c f g h q)

-- two functions agree on each run among these places
abbrev Agree : (List ℕ → ℕ) → (List ℕ → ℕ) → List Occurrence → Type 0
Agree f g os = (o : Occurrence) → Contains os o → (m : List ℕ) → IsRunOf o.act m → f m ≡ g m

agree_left : (f g : List ℕ → ℕ) (os more : List Occurrence) → Agree f g (os ++ more) → Agree f g os
agree_left f g os more h o x = h o (Contains-append_left os more o x)

agree_right : (f g : List ℕ → ℕ) (os more : List Occurrence) → Agree f g (os ++ more) → Agree f g more
agree_right f g os more h o x = h o (Contains-append_right os more o x)

agree_rest : (f g : List ℕ → ℕ) (first : Occurrence) (os : List Occurrence) → Agree f g (first ∷ os) → Agree f g os
agree_rest f g first os h o x = h o (Contains-append_right (first ∷ []) os o x)

same_sum : (a b x y : ℕ) → a ≡ x → b ≡ y → a + b + 1 ≡ x + y + 1
same_sum a b x y e d = omega (arith, e, d)

same_test : (w a b x y : ℕ) → a ≡ x → b ≡ y → w + a + b + 1 ≡ w + x + y + 1
same_test w a b x y e d = omega (arith, e, d)

same_watch : (w a x : ℕ) → a ≡ x → w + a + 1 ≡ w + x + 1
same_watch w a x e = omega (arith, e)

one_more : (a x : ℕ) → a ≡ x → a + 1 ≡ x + 1
one_more a x e = ap (λ n. n + 1) e

-- functions that agree on what is run give the same count
pub counted_same : (f g : List ℕ → ℕ) (bs : List Binder) (d : Derived) → Agree f g (occurrences bs d)
    → counted f d ≡ counted g d
counted_same f g bs missing h = refl
counted_same f g bs nothing h = refl
counted_same f g bs pause h = refl
counted_same f g bs halt h = refl
counted_same f g bs (emit s) h = refl
counted_same f g bs (sustain s) h = refl
counted_same f g bs (exit t) h = refl
counted_same f g bs (await d) h = refl
counted_same f g bs (present t p q) h =
    let both : Agree f g (occurrences bs p ++ occurrences bs q) = agree_right f g (tested bs t)
    (occurrences bs p ++ occurrences bs q) h in
    same_test (test_words t) (counted f p) (counted f q) (counted g p) (counted g q) (counted_same f g bs p
    (agree_left f g (occurrences bs p) (occurrences bs q) both)) (counted_same f g bs q (agree_right f g
    (occurrences bs p) (occurrences bs q) both))
counted_same f g bs (suspend p d) h = same_watch (test_words d.test) (counted f p) (counted g p)
    (counted_same f g bs p (agree_left f g (occurrences bs p) (tested bs d.test) h))
counted_same f g bs (abort p d) h = same_watch (test_words d.test) (counted f p) (counted g p)
    (counted_same f g bs p (agree_left f g (occurrences bs p) (tested bs d.test) h))
counted_same f g bs (weak_abort p d) h = same_watch (test_words d.test) (counted f p) (counted g p)
    (counted_same f g bs p (agree_left f g (occurrences bs p) (tested bs d.test) h))
counted_same f g bs (repeat p) h = one_more (counted f p) (counted g p) (counted_same f g bs p h)
counted_same f g bs (repeat_each p t) h = same_watch (test_words t) (counted f p) (counted g p)
    (counted_same f g bs p (agree_left f g (occurrences bs p) (tested bs t) h))
counted_same f g bs (every d p) h = same_watch (test_words d.test) (counted f p) (counted g p)
    (counted_same f g bs p (agree_right f g (tested bs d.test) (occurrences bs p) h))
counted_same f g bs (trap t p) h = one_more (counted f p) (counted g p) (counted_same f g (a_trap t ∷ bs) p h)
counted_same f g bs (signal ns p) h = one_more (counted f p) (counted g p)
    (counted_same f g (signals ns ∷ bs) p
    (agree_rest f g (record { act = binds ns; around = bs }) (occurrences (signals ns ∷ bs) p) h))
counted_same f g bs (run m rs) h = h (record { act = runs m rs; around = bs }) (0, omega arith, refl) m refl
counted_same f g bs (seq p q) h = same_sum (counted f p) (counted f q) (counted g p) (counted g q)
    (counted_same f g bs p (agree_left f g (occurrences bs p) (occurrences bs q) h))
    (counted_same f g bs q (agree_right f g (occurrences bs p) (occurrences bs q) h))
counted_same f g bs (par p q) h = same_sum (counted f p) (counted f q) (counted g p) (counted g q)
    (counted_same f g bs p (agree_left f g (occurrences bs p) (occurrences bs q) h))
    (counted_same f g bs q (agree_right f g (occurrences bs p) (occurrences bs q) h))

-- ---- the table

cut_zero : (c : ℕ) → min c 0 ≡ 0
cut_zero c = omega arith

-- the cut of the number at a place, and the number at the place of the cut ones
cut_at : (c : ℕ) (xs : List ℕ) (i : ℕ) → slice_index (map (min c) xs) i ≡ min c (slice_index xs i)
cut_at c [] i = sym (cut_zero c)
cut_at c (x ∷ xs) zero = refl
cut_at c (x ∷ xs) (suc i) = cut_at c xs i

cut_again : (c x y : ℕ) → x ≡ min c y → min c x ≡ min c y
cut_again c x y e = omega (arith, e)

cut_found : (c : ℕ) (whole : List ℕ) (o : Option ℕ) → min c (number_found (map (min c) whole) o)
    ≡ min c (number_found whole o)
cut_found c whole None = refl
cut_found c whole (Some i) = cut_again c _ _ (cut_at c whole i)

-- a number of the table is the cut of a whole one
pub number_cut : (c : ℕ) (ps : List Program) (table whole : List ℕ) → table ≡ map (min c) whole → (m : List ℕ)
    → min c (number_of ps table m) ≡ min c (number_of ps whole m)
number_cut c ps table whole e m = ap (λ t. min c (number_of ps t m)) e ∙ cut_found c whole (place_named ps m)

nowhere : (i : ℕ) (x : ℕ) → slice_get {X = ℕ} [] i ≡ Some x → ⊥
nowhere i x e = search (rules, e)

of_front : (xs : List ℕ) (n i x : ℕ) → slice_get (take n xs) i ≡ Some x → (i < n) × (slice_get xs i ≡ Some x)
of_front [] zero i x e = absurd (nowhere i x e)
of_front [] (suc n) i x e = absurd (nowhere i x e)
of_front (y ∷ xs) zero i x e = absurd (nowhere i x e)
of_front (y ∷ xs) (suc n) zero x e = (omega arith, e)
of_front (y ∷ xs) (suc n) (suc i) x e = let rest = of_front xs n i x e in (omega (arith, rest.0), rest.1)

in_take : (xs : List ℕ) (n i x : ℕ) → i < n → slice_get xs i ≡ Some x → slice_get (take n xs) i ≡ Some x
in_take [] n i x l e = absurd (nowhere i x e)
in_take (y ∷ xs) zero i x l e = absurd (omega (arith, l))
in_take (y ∷ xs) (suc n) zero x l e = e
in_take (y ∷ xs) (suc n) (suc i) x l e = in_take xs n i x (omega (arith, l)) e

-- an element of the first k + 1 is among the first k, or at k
in_front : (order : List ℕ) (k i place : ℕ) → slice_get (take (k + 1) order) i ≡ Some place
    → (i < k + 1) × (slice_get order i ≡ Some place) × (i < k → slice_get (take k order) i ≡ Some place)
in_front order k i place e =
    let front = of_front order (k + 1) i place e in
    (front.0, front.1, λ l. in_take order k i place l front.1)

-- the number of a module that is not at the place is unchanged
other_number : (whole : List ℕ) (place count : ℕ) (o : Option ℕ) → ((j : ℕ) → o ≡ Some j → j ≡ place → ⊥)
    → number_found whole o ≡ number_found (slice_set whole place count) o
other_number whole place count None h = refl
other_number whole place count (Some j) h = sym (get_or-set_other whole place j count 0 (h j refl))

-- a module among the first k + 1 does not run the one at k, so the number of what it runs is unchanged
unchanged : (ps : List Program) (order : List ℕ) → IsOrderOf ps order
    → (k i place other : ℕ) (p : Program) (m : List ℕ) (whole : List ℕ) (count : ℕ) → k < length order
    → place ≡ slice_index order k → i < k + 1
    → slice_get order i ≡ Some other → slice_get ps other ≡ Some p → (o : Occurrence)
    → Contains (occurrences [] p.body) o → IsRunOf o.act m
    → number_of ps whole m ≡ number_of ps (slice_set whole place count) m
unchanged ps order is_order k i place other p m whole count k_in at i_in i_at p_at o stands is_run =
    other_number whole place count (place_named ps m) (λ j j_named e.
    let run : IsRun (run_rows ps) other j = run_is_run ps other j p o m p_at stands is_run j_named in
    let i_there : i < length order = slice_get_within order i other i_at in
    let i_is : other ≡ slice_index order i = sym (get_or_from_slice_get order i other 0 i_at) in
    let earlier : k < i = is_order.after_runs i k i_there k_in
    (subst (λ n. IsRun (run_rows ps) (slice_index order i) n) (e ∙ at)
    (subst (λ n. IsRun (run_rows ps) n j) i_is run)) in
    omega (arith, earlier, i_in))

-- one more module is counted
pub filling_goes_on : (ps : List Program) (order table : List ℕ) (k place number : ℕ) → IsOrderOf ps order
    → k < length order → place ≡ slice_index order k → place < length ps
    → ((p : Program) → slice_get ps place ≡ Some p → number ≡ min TOO_MANY (counted (number_of ps table) p.body))
    → IsFilled ps (take k order) table → IsFilled ps (take (k + 1) order) (slice_set table place number)
filling_goes_on ps order table k place number is_order k_in at there counts h =
    let found = program_at ps place there in
    let program : Program = found.0 in
    let count : ℕ = counted (number_of ps h.whole) program.body in
    let whole : List ℕ = slice_set h.whole place count in
    let is_cut : number ≡ min TOO_MANY count = counts program found.1
    ∙ counted_cut TOO_MANY (number_of ps table) (number_of ps h.whole)
    (number_cut TOO_MANY ps table h.whole h.cut) program.body in
    record {
      whole = whole;
      each = length-set h.whole place count ∙ h.each;
      cut = ap (slice_set table place) is_cut ∙ ap (λ t. slice_set t place (min TOO_MANY count)) h.cut
          ∙ sym (map-set (min TOO_MANY) h.whole place count);
      right = λ i other p other_at p_at.
          let front = in_front order k i other other_at in
          let same : counted (number_of ps h.whole) p.body ≡ counted (number_of ps whole) p.body =
          counted_same (number_of ps h.whole) (number_of ps whole) [] p.body (λ o stands m is_run.
          unchanged ps order is_order k i place other p m h.whole count k_in at front.0 front.1 p_at o stands is_run) in
          elim (cases_eq other place) [
            | inl e ↦
                let is_p : program ≡ p =
                some_same program p (sym found.1 ∙ subst (λ n. slice_get ps n ≡ Some p) e p_at) in
                subst (λ n. slice_index whole n ≡ count) (sym e)
                (get_or-set_same h.whole place count 0 (omega (arith, there, h.each)))
                ∙ ap (λ (q : Program). counted (number_of ps h.whole) q.body) is_p ∙ same
            | inr d ↦
                let before : i < k = elim (cases_lt i k) [
                  | inl l ↦ l
                  | inr g ↦
                      let is_k : i ≡ k = omega (arith, front.0, g) in
                      absurd (d
                      (sym (get_or_from_slice_get order i other 0 front.1) ∙ ap (slice_index order) is_k ∙ sym at))
                ] in
                get_or-set_other h.whole place other count 0 d ∙ h.right i other p (front.2 before) p_at ∙ same
          ];
    }

-- ---- what the filled table says

passes : (i n : ℕ) → i < n → cond {A = Option ℕ} (nat_lt i n) (Some i) None ≡ Some i
passes i n l = ap (λ b. cond {A = Option ℕ} b (Some i) None) (lt-ltb i n l)

-- what is found stands at the place of the first that passes
found_at : {X : Type 0} (test : X → Bool) (xs : List X) (x : X) → find test xs ≡ Some x
    → (position test xs ≡ Some (position_or_len test xs)) × (slice_get xs (position_or_len test xs) ≡ Some x)
found_at test xs x e =
    let there : slice_get xs (position_or_len test xs) ≡ Some x = sym (find_at test xs) ∙ e in
    (passes (position_or_len test xs) (length xs) (slice_get_within xs (position_or_len test xs) x there), there)

-- the whole numbers meet the equation of each module
pub are_counts : (ps : List Program) (order table : List ℕ) → IsOrderOf ps order → (h : IsFilled ps order table)
    → AreCounts ps (number_of ps h.whole)
are_counts ps order table is_order h m p e =
    let found = found_at (λ (q : Program). bytes_eq q.name m) ps p e in
    let place : ℕ = position_or_len (λ (q : Program). bytes_eq q.name m) ps in
    let l : place < length (run_rows ps) =
    omega (arith, slice_get_within ps place p found.1, length-map ps (places_run ps)) in
    let stands = each_stands (run_rows ps) order is_order place l in
    ap (number_found h.whole) found.0 ∙ h.right stands.0 place p
    (slice_get-get_or order stands.0 0 stands.1 ∙ ap Some stands.2) found.1

-- a number within the limit is a whole one, and one past it is past it
pub within_limit : (number whole : ℕ) → number ≡ min TOO_MANY whole → number ≤ MOST_STATEMENTS
    → IsWithinLimit whole (Some number)
within_limit number whole e l = (omega (arith, e, l), omega (arith, e, l))

pub past_limit : (number whole : ℕ) → number ≡ min TOO_MANY whole → MOST_STATEMENTS < number → IsWithinLimit whole None
past_limit number whole e l = omega (arith, e, l)

pub is_count : (ps : List Program) (order table : List ℕ) → IsOrderOf ps order → IsFilled ps order table
    → (m : List ℕ) (number : ℕ) (answer : Option ℕ) → number ≡ min TOO_MANY (number_of ps table m)
    → ((whole : ℕ) → number ≡ min TOO_MANY whole → IsWithinLimit whole answer) → IsCountOf ps m answer
is_count ps order table is_order h m number answer e within = record {
  counts = number_of ps h.whole;
  are = are_counts ps order table is_order h;
  within = within (number_of ps h.whole m) (e ∙ number_cut TOO_MANY ps table h.whole h.cut m);
}
