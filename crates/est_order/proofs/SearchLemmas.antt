-- The search for what a module leads to: what following a row changes, that the search stays right, and what it ends
-- with.
use Rattle.std.proofs.Common.{◌≡◌, ℕ, ◌+◌, ◌<◌, ◌⊎◌, inl, inr, Bool, true, false, not, nat_lt, List, [], ◌∷◌, ◌++◌}
use Rattle.std.proofs.Common.{if◌then◌else◌, length, replicate, slice_index_or, slice_set, set, get_or, count_by}
use Rattle.std.proofs.Common.{Contains, Vec, Global, refl, ap, sym, ◌∙◌, subst, arith, rules}
use Rattle.std.proofs.lemmas.Bool.{cases_eq, cases_lt, and_parts, and_cases, false≢true}
use Rattle.std.proofs.lemmas.List.{length-set, get_or-set_same, get_or-set_other, get_or-map, get_or-replicate}
use Rattle.std.proofs.lemmas.List.{get_or_past, length-replicate, length_push}
use Rattle.std.proofs.lemmas.List.Elements.{Contains-append_left, Contains-append_right, Contains-append_cases}
use Rattle.std.proofs.lemmas.List.Elements.{Contains-push, Contains-push_cases}
use Rattle.std.proofs.lemmas.List.Sums.{sum_by-set}
use Rattle.est_order.specs.RunRows.{IsRun, Leads, once, through, rows_of}
use Rattle.est_order.specs.PlaceSets.{IsIn}
use Rattle.est_order.specs.Inner.Reached.{IsReach, Search, is_new, visited, followed, left_to_do, IsMet}
use Rattle.est_order.specs.Inner.Reached.{IsSearching}

-- what following runs leaves and adds
pub record Grows (s t : Search) : Type 0 where
  pub same : length t.seen ≡ length s.seen
  pub keeps : (p : ℕ) → IsIn s.seen p → IsIn t.seen p
  pub noted : (p : ℕ) → IsIn t.seen p → IsIn s.seen p ⊎ Contains t.waiting p
  pub waits : (p : ℕ) → Contains s.waiting p → Contains t.waiting p
  pub added : (p : ℕ) → Contains t.waiting p → Contains s.waiting p ⊎ ((p < length s.seen) × IsIn t.seen p)
  pub work : left_to_do t ≡ left_to_do s

grows_none : (s : Search) → Grows s s
grows_none s =
    record { same = refl; keeps = λ p h. h; noted = λ p h. inl h; waits = λ p h. h; added = λ p h. inl h; work = refl }

grows_on : (s t u : Search) → Grows s t → Grows t u → Grows s u
grows_on s t u a b = record {
  same = b.same ∙ a.same;
  keeps = λ p h. b.keeps p (a.keeps p h);
  noted = λ p h. elim (b.noted p h) [
    | inl x ↦
        (elim (a.noted p x) [ inl y ↦ inl y | inr y ↦ inr (b.waits p y) ])
    | inr x ↦ inr x
  ];
  waits = λ p h. b.waits p (a.waits p h);
  added = λ p h. elim (b.added p h) [
    | inl x ↦ (elim (a.added p x) [ inl y ↦ inl y | inr y ↦ inr (y.0, b.keeps p y.1) ])
    | inr x ↦ inr (subst (λ n. p < n) a.same x.0, x.1)
  ];
  work = b.work ∙ a.work;
}

pub not_false : (b : Bool) → not b ≡ true → b ≡ false
not_false true h = absurd (false≢true h)
not_false false h = refl

-- what is there and not seen
new_is : (seen : List Bool) (p : ℕ) → is_new seen p ≡ true → (p < length seen) × (slice_index_or seen p false ≡ false)
new_is seen p h =
    let parts = and_parts (nat_lt p (length seen)) (not (slice_index_or seen p false)) h in
    (search (rules, parts.0), not_false _ parts.1)

-- a place beside the one that was put in is in the set as before
pub in_set : (seen : List Bool) (p q : ℕ) → IsIn (slice_set seen p true) q → IsIn seen q ⊎ (p ≡ q)
in_set seen p q h =
    elim (cases_eq q p) [ inl e ↦ inr (sym e) | inr d ↦ inl (sym (get_or-set_other seen p q true false d) ∙ h) ]

set_in : (seen : List Bool) (p q : ℕ) → p < length seen → IsIn seen q → IsIn (slice_set seen p true) q
set_in seen p q l h = elim (cases_eq q p) [
  | inl e ↦ subst (λ n. IsIn (slice_set seen p true) n) (sym e) (get_or-set_same seen p true false l)
  | inr d ↦ get_or-set_other seen p q true false d ∙ h
]

grows_new : (s : Search) (p : ℕ) → p < length s.seen → slice_index_or s.seen p false ≡ false
    → Grows s (record { seen = slice_set s.seen p true; waiting = s.waiting ++ p ∷ [] })
grows_new s p l e = record {
  same = length-set s.seen p true;
  keeps = λ q h. set_in s.seen p q l h;
  noted = λ q h. elim (in_set s.seen p q h)
      [ inl x ↦ inl x | inr x ↦ inr (subst (λ n. Contains (s.waiting ++ p ∷ []) n) x (Contains-push s.waiting p)) ];
  waits = λ q h. Contains-append_left s.waiting (p ∷ []) q h;
  added = λ q h. elim (Contains-push_cases s.waiting p q h) [
    | inl x ↦ inl x
    | inr x ↦
        inr (subst (λ n. (n < length s.seen) × IsIn (slice_set s.seen p true) n) x
        (l, get_or-set_same s.seen p true false l))
  ];
  work =
      let counted : count_by (λ b. not b) (slice_set s.seen p true) +
      (if not (slice_index_or s.seen p false) then 1 else 0) ≡ count_by (λ b. not b) s.seen + 0 =
      sum_by-set (λ b. if not b then 1 else 0) s.seen p true false l in
      let one : count_by (λ b. not b) (slice_set s.seen p true) + 1 ≡ count_by (λ b. not b) s.seen + 0 =
      subst (λ b. count_by (λ b. not b) (slice_set s.seen p true) + (if not b then 1 else 0) ≡ count_by
      (λ b. not b) s.seen + 0) e counted in
      omega (arith, one, length_push s.waiting p);
}

grows_by : (s : Search) (p : ℕ) (b : Bool) → is_new s.seen p ≡ b
    → Grows s (if b then record { seen = slice_set s.seen p true; waiting = s.waiting ++ p ∷ [] } else s)
grows_by s p true h = let is = new_is s.seen p h in grows_new s p is.0 is.1
grows_by s p false h = grows_none s

grows_one : (s : Search) (p : ℕ) → Grows s (visited s p)
grows_one s p = grows_by s p (is_new s.seen p) refl

pub grows : (s : Search) (row : List ℕ) → Grows s (followed s row)
grows s [] = grows_none s
grows s (p ∷ row) = grows_on s (visited s p) (followed (visited s p) row) (grows_one s p) (grows (visited s p) row)

-- what a set has is there
pub in_bounds : (set : List Bool) (p : ℕ) → IsIn set p → p < length set
in_bounds set p h =
    elim (cases_lt p (length set)) [
      | inl l ↦ l
      | inr past ↦
          absurd (false≢true (sym (get_or_past set p false past) ∙ h))
    ]

pub is_true : (b : Bool) → not b ≡ false → b ≡ true
is_true true h = refl
is_true false h = absurd (false≢true (sym h))

nat_lt_false : (p n : ℕ) → nat_lt p n ≡ false → p < n → ⊥
nat_lt_false p n h l = search (rules, h, l)

visited_by : (s : Search) (p : ℕ) (b : Bool) → is_new s.seen p ≡ b → p < length s.seen
    → IsIn (if b then record { seen = slice_set s.seen p true; waiting = s.waiting ++ p ∷ [] } else s).seen p
visited_by s p true h l = get_or-set_same s.seen p true false l
visited_by s p false h l = elim (and_cases (nat_lt p (length s.seen)) (not (slice_index_or s.seen p false)) h) [
  | inl past ↦ absurd (nat_lt_false p (length s.seen) past l)
  | inr old ↦ is_true _ old
]

only_by : (s : Search) (p q : ℕ) (b : Bool)
    → IsIn (if b then record { seen = slice_set s.seen p true; waiting = s.waiting ++ p ∷ [] } else s).seen q
    → IsIn s.seen q ⊎ (p ≡ q)
only_by s p q true h = in_set s.seen p q h
only_by s p q false h = inl h

-- only the places of the row are seen beside those before
row_only : (s : Search) (row : List ℕ) (q : ℕ) → IsIn (followed s row).seen q → IsIn s.seen q ⊎ Contains row q
row_only s [] q h = inl h
row_only s (p ∷ row) q h = elim (row_only (visited s p) row q h) [
  | inl x ↦ (elim (only_by s p q (is_new s.seen p) x) [
    | inl y ↦ inl y
    | inr e ↦ inr (Contains-append_left (p ∷ []) row q
        (subst (λ n. Contains (p ∷ []) n) e (Contains-push [] p)))
  ])
  | inr x ↦ inr (Contains-append_right (p ∷ []) row q x)
]

pub none_in_empty : (q : ℕ) → Contains {X = ℕ} [] q → ⊥
none_in_empty q h = omega (arith, h.1)

-- each place of the row is seen
row_all : (s : Search) (row : List ℕ) (q : ℕ) → Contains row q → q < length s.seen → IsIn (followed s row).seen q
row_all s [] q h l = absurd (none_in_empty q h)
row_all s (p ∷ row) q h l = elim (Contains-append_cases (p ∷ []) row q h) [
  | inl x ↦ (elim (Contains-push_cases [] p q x) [
    | inl y ↦ absurd (none_in_empty q y)
    | inr e ↦ (grows (visited s p) row).keeps q
        (subst (λ n. IsIn (visited s p).seen n) e
        (visited_by s p (is_new s.seen p) refl (subst (λ n. n < length s.seen) (sym e) l)))
  ])
  | inr x ↦ row_all (visited s p) row q x (subst (λ n. q < n) (sym (grows_one s p).same) l)
]

-- one more run at the end of a chain
pub extended : (rows : List (List ℕ)) {a b c : ℕ} → Leads rows a b → IsRun rows b c → Leads rows a c
extended rows (once run) more = through run (once more)
extended rows (through run rest) more = through run (extended rows rest more)

pub none_in_none : (n p : ℕ) → IsIn (replicate n false) p → ⊥
none_in_none n p h =
    let there : p < length (replicate n false) = in_bounds (replicate n false) p h in
    false≢true (sym (get_or-replicate n p false false (omega (arith, there, length-replicate n false))) ∙ h)

-- at first only the first place waits
pub search_begins : (rows : List (List ℕ)) (first n : ℕ) → n ≡ length rows → first < n
    → IsSearching rows first (record { seen = replicate n false; waiting = first ∷ [] })
search_begins rows first n e l = record {
  each = length-replicate n false ∙ e;
  there = λ p h. elim (Contains-push_cases [] first p h)
      [ inl y ↦ absurd (none_in_empty p y) | inr x ↦ subst (λ k. k < length rows) x (omega (arith, l, e)) ];
  met = λ p h. elim (Contains-push_cases [] first p h) [ inl y ↦ absurd (none_in_empty p y) | inr x ↦ inl (sym x) ];
  sound = λ p h. absurd (none_in_none n p h);
  complete = λ p h. elim h [
    | inl x ↦ inl (subst (λ k. Contains (first ∷ []) k) (sym x) (Contains-push [] first))
    | inr x ↦ absurd (none_in_none n p x)
  ];
}

met_still : (first : ℕ) (s t : Search) → ((p : ℕ) → IsIn s.seen p → IsIn t.seen p) → (p : ℕ) → IsMet first s p
    → IsMet first t p
met_still first s t keeps p h = elim h [ inl e ↦ inl e | inr x ↦ inr (keeps p x) ]

-- the runs of the place that waited last are followed
pub search_goes_on : (rows : List (List ℕ)) (first : ℕ) (s : Search) (next : ℕ)
    → IsSearching rows first (record { seen = s.seen; waiting = s.waiting ++ next ∷ [] })
    → IsSearching rows first (followed s (slice_index_or rows next []))
search_goes_on rows first s next h =
    let row = slice_index_or rows next [] in
    let t = followed s row in
    let before : Search = record { seen = s.seen; waiting = s.waiting ++ next ∷ [] } in
    let g : Grows s t = grows s row in
    let next_waits : Contains (s.waiting ++ next ∷ []) next = Contains-push s.waiting next in
    record {
      each = g.same ∙ h.each;
      there = λ p x. elim (g.added p x)
          [ inl y ↦ h.there p (Contains-append_left s.waiting (next ∷ []) p y) | inr y ↦ omega (arith, y.0, h.each) ];
      met = λ p x. elim (g.added p x) [
        | inl y ↦ met_still first before t g.keeps p (h.met p (Contains-append_left s.waiting (next ∷ []) p y))
        | inr y ↦ inr y.1
      ];
      sound = λ p x. elim (row_only s row p x) [
        | inl y ↦ h.sound p y
        | inr y ↦
            let l : p < length t.seen = in_bounds t.seen p x in
            let run : IsRun rows next p = record { there = omega (arith, l, g.same, h.each); named = y } in
            elim (h.met next next_waits) [
              | inl e ↦ once (subst (λ n. IsRun rows n p) e run)
              | inr seen ↦ extended rows (h.sound next seen) run
            ]
      ];
      complete = λ p x.
          let from : IsMet first before p ⊎ Contains t.waiting p = elim x [
            | inl e ↦ inl (inl e)
            | inr y ↦ (elim (g.noted p y) [ inl z ↦ inl (inr z) | inr z ↦ inr z ])
          ] in
          elim from [
            | inr z ↦ inl z
            | inl m ↦ (elim (h.complete p m) [
              | inr f ↦ inr (λ r run. g.keeps r (f r run))
              | inl w ↦ (elim (Contains-push_cases s.waiting next p w) [
                | inl z ↦ inl (g.waits p z)
                | inr e ↦ inr (λ r run. row_all s row r
                    (subst (λ n. Contains (slice_index_or rows n []) r) (sym e) run.named)
                    (omega (arith, run.there, h.each)))
              ])
            ])
          ];
    }

-- following the runs of the place that waited last leaves less to do
pub less_to_do : (s : Search) (row : List ℕ) (next : ℕ)
    → left_to_do (followed s row) < left_to_do (record { seen = s.seen; waiting = s.waiting ++ next ∷ [] })
less_to_do s row next = omega (arith, (grows s row).work, length_push s.waiting next)

-- where nothing waits, whatever a met place leads to is seen
closed : (rows : List (List ℕ)) (first : ℕ) (s : Search) → s.waiting ≡ [] → IsSearching rows first s → {a b : ℕ}
    → Leads rows a b → IsMet first s a → IsIn s.seen b
closed rows first s none h (once {a = a} {b = b} run) m = elim (h.complete a m) [
  | inl w ↦ absurd (none_in_empty a (subst (λ ws. Contains ws a) none w))
  | inr f ↦ f b run
]
closed rows first s none h (through {a = a} {b = b} run rest) m = elim (h.complete a m) [
  | inl w ↦ absurd (none_in_empty a (subst (λ ws. Contains ws a) none w))
  | inr f ↦ closed rows first s none h rest (inr (f b run))
]

-- where nothing waits, the places that the first leads to are seen, and no others
pub search_ends : (rows : List (List ℕ)) (first : ℕ) (s : Search) → s.waiting ≡ [] → IsSearching rows first s
    → IsReach rows first s.seen
search_ends rows first s none h = record {
  each = h.each;
  exact = λ p. (λ x. h.sound p x, λ x. closed rows first s none h x (inl refl));
}

-- what stands in the row at a place
pub row_at : (runs : List (Vec ℕ Global)) (i : ℕ) (row : Vec ℕ Global) → i < length runs → row ≡ get_or runs i row
    → row.items ≡ slice_index_or (rows_of runs) i []
row_at runs i row l e = ap (λ (v : Vec ℕ Global). v.items) e
    ∙ sym (get_or-map (λ (v : Vec ℕ Global). v.items) runs i row [] l)

-- the place that waited last is there
pub next_is_there : (rows : List (List ℕ)) (first : ℕ) (seen : List Bool) (before after : List ℕ) (next : ℕ)
    → before ≡ after ++ next ∷ [] → IsSearching rows first (record { seen = seen; waiting = before })
    → next < length rows
next_is_there rows first seen before after next e h =
    h.there next (subst (λ ws. Contains ws next) (sym e) (Contains-push after next))

-- the step of the search, and what is left after it
pub search_step : (rows : List (List ℕ)) (first : ℕ) (seen : List Bool) (before after row : List ℕ) (next : ℕ)
    (t : Search) → before ≡ after ++ next ∷ [] → row ≡ slice_index_or rows next []
    → t ≡ followed (record { seen = seen; waiting = after }) row
    → IsSearching rows first (record { seen = seen; waiting = before }) → IsSearching rows first t
search_step rows first seen before after row next t e at is h =
    subst (λ u. IsSearching rows first u) (sym (is ∙ ap (followed (record { seen = seen; waiting = after })) at))
    (search_goes_on rows first (record { seen = seen; waiting = after }) next
    (subst (λ ws. IsSearching rows first (record { seen = seen; waiting = ws })) e h))

pub step_is_less : (seen : List Bool) (before after row : List ℕ) (next : ℕ) (t : Search)
    → before ≡ after ++ next ∷ [] → t ≡ followed (record { seen = seen; waiting = after }) row
    → left_to_do t < left_to_do (record { seen = seen; waiting = before })
step_is_less seen before after row next t e is =
    let less = less_to_do (record { seen = seen; waiting = after }) row next in
    omega (arith, less, ap left_to_do is, ap (λ ws. left_to_do (record { seen = seen; waiting = ws })) e)

pub no_items : (xs : List ℕ) → length xs ≡ 0 → xs ≡ []
no_items [] h = refl
no_items (x ∷ xs) h = absurd (omega (arith, h))
