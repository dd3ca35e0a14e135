-- How many cells a statement has: those of each incarnation, which are one more than the loops around it.
use Rattle.std.specs.Prelude.{◌≡◌, ◌≢◌, ◌<◌, ◌≤◌, ◌+◌, ◌*◌, ℕ, zero, suc, Bool, true, false, cond, nat_eq}
use Rattle.std.specs.Prelude.{List, [], ◌∷◌, ◌++◌, map, slice_get, Some}
use Rattle.std.specs.List.{range_with_len, count_by}
use Rattle.std.proofs.Common.{refl, ap, sym, ◌∙◌, arith, inl, inr, subst}
use Rattle.std.proofs.lemmas.Bool.{eq-eqb, ne_eqb, cases_eq, cases_lt}
use Rattle.std.proofs.lemmas.List.Sums.{sum_by-cons, sum_by-append}
use Rattle.est_kernel.specs.declared.statement.Statement.{Statement}
use Rattle.est_kernel.specs.declared.statement.Statement.TheVariants.{Nothing, Pause, Emit, Present', Suspend', Seq'}
use Rattle.est_kernel.specs.declared.statement.Statement.TheVariants.{Loop', Par', Trap', Exit, Local' as Binder'}
use Rattle.est_net.specs.declared.owners.StatementCell.{StatementCell}
use Rattle.est_net.specs.Owners.{statements, kind_at, cell_of, own_cells, own_owners}
use Rattle.est_net.specs.Parts.{Part, part, part_at}
use Rattle.est_net.specs.Owners.{owners_in}
use Rattle.est_net.proofs.OwnerLists.{is_first, is_inside, is_second, own_at, part_itself, stands}

-- how many of a list are of the statement of number m
abbrev pub of_number : (m : ℕ) → StatementCell → Bool
of_number m o = nat_eq o.statement m

abbrev pub count : (m : ℕ) → List StatementCell → ℕ
count m a = count_by (of_number m) a

count_first : (m : ℕ) (u : StatementCell) (us : List StatementCell)
    → count m (u ∷ us) ≡ cond (nat_eq u.statement m) 1 0 + count m us
count_first m u us = sum_by-cons (λ o. cond (of_number m o) 1 0) u us

count_joined : (m : ℕ) (a b : List StatementCell) → count m (a ++ b) ≡ count m a + count m b
count_joined m a b = sum_by-append (λ o. cond (of_number m o) 1 0) a b

none : (m : ℕ) (a : List StatementCell) → ((x : ℕ) (o : StatementCell) → slice_get a x ≡ Some o → o.statement ≢ m)
    → count m a ≡ 0
none m [] h = refl
none m (u ∷ us) h =
    let k = none m us (λ x o e. h (suc x) o e) in
    count_first m u us ∙ (ap (λ (b : Bool). cond b 1 0 + count m us) (ne_eqb u.statement m (h 0 u refl)) ∙ omega arith)

own_from : (i n t m a own : ℕ) → n ≡ m
    → count m (map (λ x. cell_of i n (kind_at t x)) (range_with_len a own)) ≡ own
own_from i n t m a zero e = refl
own_from i n t m a (suc own) e =
    let k = own_from i n t m (a + 1) own e in
    let rest = map (λ x. cell_of i n (kind_at t x)) (range_with_len (a + 1) own) in
    count_first m (cell_of i n (kind_at t a)) rest
    ∙ (ap (λ (b : Bool). cond b 1 0 + count m rest) (eq-eqb n m e) ∙ omega arith)

-- in the sheet of a statement that has number n: none of a smaller number, and none of what follows it
none_before : (main : Bool) (s : Statement) (i n t m : ℕ) → m < n → count m (owners_in main s i n t) ≡ 0
none_before main s i n t m l = none m (owners_in main s i n t)
    (λ x o h e. let r = stands main s i n 0 0 t x o h in let q = r.first in omega arith)

none_after : (main : Bool) (s : Statement) (i n t m : ℕ) → n + statements s ≤ m → count m (owners_in main s i n t) ≡ 0
none_after main s i n t m l = none m (owners_in main s i n t)
    (λ x o h e. let r = stands main s i n 0 0 t x o h in let q = r.past in omega arith)

-- how many there are of a part: those of one incarnation, or of as many as there are loops around it and one more, of
-- which d lie around the whole statement
abbrev pub Counts : (main : Bool) (d : ℕ) → Part → ℕ → Type 0
Counts true d q c = c + d * own_cells q.statement q.traps ≡ (q.loops + 1) * own_cells q.statement q.traps
Counts false d q c = c ≡ own_cells q.statement q.traps

own_counts : (main : Bool) (s : Statement) (d t c : ℕ) → c ≡ own_cells s t → Counts main d (part s d t) c
own_counts true s d t c h = omega arith
own_counts false s d t c h = h

-- of a statement's own cells and those of its parts, and of two parts
counts_with : (main : Bool) (s : Statement) (i n d t own m : ℕ) (a : List StatementCell) → own ≡ own_cells s t → n ≤ m
    → (m ≡ n → count m a ≡ 0) → (n + 1 ≤ m → Counts main d (part_at s n d t m) (count m a))
    → Counts main d (part_at s n d t m) (count m (own_owners i n t own ++ a))
counts_with main s i n d t own m a o l here inside =
    let f = own_owners i n t own in
    let both = count_joined m f a in
    elim (cases_eq m n) [
      | inl e ↦
          let c = own_from i n t m 0 own (sym e) in
          let z = here e in
          subst (λ (q : Part). Counts main d q (count m (f ++ a)))
          (sym (part_itself s n d t) ∙ ap (part_at s n d t) (sym e))
          (own_counts main s d t (count m (f ++ a)) (omega arith))
      | inr e ↦
          let c : count m f ≡ 0 = none m f (λ x y k z. e (sym (ap (λ (v : StatementCell). v.statement)
          (own_at i n t own x y k).1 ∙ z))) in
          subst (λ (y : ℕ). Counts main d (part_at s n d t m) y)
          (sym (both ∙ ap (λ (y : ℕ). y + count m a) c ∙ omega arith))
          (inside (omega arith))
    ]

counts_two : (main : Bool) (d m k : ℕ) (x p q : Part) (a b : List StatementCell) → (m < k → x ≡ p) → (k ≤ m → x ≡ q)
    → (m < k → Counts main d p (count m a)) → (m < k → count m b ≡ 0) → (k ≤ m → count m a ≡ 0)
    → (k ≤ m → Counts main d q (count m b)) → Counts main d x (count m (a ++ b))
counts_two main d m k x p q a b left right f g h j =
    let both = count_joined m a b in
    elim (cases_lt m k) [
      | inl l ↦
          let z = g l in
          subst (λ (y : ℕ). Counts main d x y) {x = count m a} (omega arith)
          (subst (λ (y : Part). Counts main d y (count m a)) (sym (left l)) (f l))
      | inr l ↦
          let z = h l in
          subst (λ (y : ℕ). Counts main d x y) {x = count m b} (omega arith)
          (subst (λ (y : Part). Counts main d y (count m b)) (sym (right l)) (j l))
    ]

both_none : (m : ℕ) (a b : List StatementCell) → count m a ≡ 0 → count m b ≡ 0 → count m (a ++ b) ≡ 0
both_none m a b h k = let both = count_joined m a b in omega arith

counts_again : (d m : ℕ) (x q : Part) (a b : List StatementCell) → x ≡ q → Counts true (d + 1) q (count m a)
    → Counts false (d + 1) q (count m b) → Counts true d x (count m (a ++ b))
counts_again d m x q a b e h k =
    let both = count_joined m a b in
    subst (λ (y : Part). Counts true d y (count m (a ++ b))) (sym e) (omega arith)

pub counts : (main : Bool) (s : Statement) (i n d t m : ℕ) → n ≤ m → m < n + statements s
    → Counts main d (part_at s n d t m) (count m (owners_in main s i n t))
counts main Nothing i n d t m l u =
    own_counts main Nothing d t _ (own_from i n t m 0 (t + 3) (omega arith))
counts main (Pause k) i n d t m l u =
    own_counts main (Pause k) d t _ (own_from i n t m 0 (t + 3) (omega arith))
counts main (Emit s) i n d t m l u =
    own_counts main (Emit s) d t _ (own_from i n t m 0 (t + 3) (omega arith))
counts main (Exit k) i n d t m l u =
    own_counts main (Exit k) d t _ (own_from i n t m 0 (t + 3) (omega arith))
counts main (Present' s a p b q) i n d t m l u = counts_with main (Present' s a p b q) i n d t (t + 3) m _ refl l
    (λ e. both_none m (owners_in main p i (n + 1) t) (owners_in main q i (n + 1 + statements p) t)
    (none_before main p i (n + 1) t m (omega arith))
    (none_before main q i (n + 1 + statements p) t m (omega arith)))
    (λ k. counts_two main d m (n + 1 + statements p) _ _ _ (owners_in main p i (n + 1) t)
    (owners_in main q i (n + 1 + statements p) t)
    (λ r. is_first m n _ _ _ _ k r) (λ r. is_second m n _ _ _ _ (omega arith) r)
    (λ r. counts main p i (n + 1) d t m k r) (λ r. none_before main q i (n + 1 + statements p) t m r)
    (λ r. none_after main p i (n + 1) t m r) (λ r. counts main q i (n + 1 + statements p) d t m r (omega arith)))
counts main (Suspend' s a p) i n d t m l u = counts_with main (Suspend' s a p) i n d t (t + 3) m _ refl l
    (λ e. none_before main p i (n + 1) t m (omega arith))
    (λ k. subst (λ (q : Part). Counts main d q (count m (owners_in main p i (n + 1) t))) (sym (is_inside m n _ _ k))
    (counts main p i (n + 1) d t m k (omega arith)))
counts main (Seq' a p b q) i n d t m l u = counts_with main (Seq' a p b q) i n d t (t + 3) m _ refl l
    (λ e. both_none m (owners_in main p i (n + 1) t) (owners_in main q i (n + 1 + statements p) t)
    (none_before main p i (n + 1) t m (omega arith))
    (none_before main q i (n + 1 + statements p) t m (omega arith)))
    (λ k. counts_two main d m (n + 1 + statements p) _ _ _ (owners_in main p i (n + 1) t)
    (owners_in main q i (n + 1 + statements p) t)
    (λ r. is_first m n _ _ _ _ k r) (λ r. is_second m n _ _ _ _ (omega arith) r)
    (λ r. counts main p i (n + 1) d t m k r) (λ r. none_before main q i (n + 1 + statements p) t m r)
    (λ r. none_after main p i (n + 1) t m r) (λ r. counts main q i (n + 1 + statements p) d t m r (omega arith)))
counts true (Loop' a p) i n d t m l u = counts_with true (Loop' a p) i n d t (t + 3) m _ refl l
    (λ e. both_none m (owners_in true p i (n + 1) t) (owners_in false p 1 (n + 1) t)
    (none_before true p i (n + 1) t m (omega arith))
    (none_before false p 1 (n + 1) t m (omega arith)))
    (λ k. counts_again d m _ (part_at p (n + 1) (d + 1) t m) (owners_in true p i (n + 1) t)
    (owners_in false p 1 (n + 1) t) (is_inside m n _ _ k)
    (counts true p i (n + 1) (d + 1) t m k (omega arith)) (counts false p 1 (n + 1) (d + 1) t m k (omega arith)))
counts false (Loop' a p) i n d t m l u = counts_with false (Loop' a p) i n d t (t + 3) m _ refl l
    (λ e. both_none m (owners_in false p (i + 1) (n + 1) t) [] (none_before false p (i + 1) (n + 1) t m (omega arith))
    refl)
    (λ k. subst (λ (q : Part). Counts false d q (count m (owners_in false p (i + 1) (n + 1) t ++ [])))
    (sym (is_inside m n _ _ k))
    (let both = count_joined m (owners_in false p (i + 1) (n + 1) t) [] in
    let c = counts false p (i + 1) (n + 1) (d + 1) t m k (omega arith) in
    omega arith))
counts main (Par' a p b q) i n d t m l u = counts_with main (Par' a p b q) i n d t (t + 3) m _ refl l
    (λ e. both_none m (owners_in main p i (n + 1) t) (owners_in main q i (n + 1 + statements p) t)
    (none_before main p i (n + 1) t m (omega arith))
    (none_before main q i (n + 1 + statements p) t m (omega arith)))
    (λ k. counts_two main d m (n + 1 + statements p) _ _ _ (owners_in main p i (n + 1) t)
    (owners_in main q i (n + 1 + statements p) t)
    (λ r. is_first m n _ _ _ _ k r) (λ r. is_second m n _ _ _ _ (omega arith) r)
    (λ r. counts main p i (n + 1) d t m k r) (λ r. none_before main q i (n + 1 + statements p) t m r)
    (λ r. none_after main p i (n + 1) t m r) (λ r. counts main q i (n + 1 + statements p) d t m r (omega arith)))
counts main (Trap' a p) i n d t m l u = counts_with main (Trap' a p) i n d t (t + 3) m _ refl l
    (λ e. none_before main p i (n + 1) (t + 1) m (omega arith))
    (λ k. subst (λ (q : Part). Counts main d q (count m (owners_in main p i (n + 1) (t + 1))))
    (sym (is_inside m n _ _ k))
    (counts main p i (n + 1) d (t + 1) m k (omega arith)))
counts main (Binder' s a p) i n d t m l u = counts_with main (Binder' s a p) i n d t (t + 4) m _ refl l
    (λ e. none_before main p i (n + 1) t m (omega arith))
    (λ k. subst (λ (q : Part). Counts main d q (count m (owners_in main p i (n + 1) t))) (sym (is_inside m n _ _ k))
    (counts main p i (n + 1) d t m k (omega arith)))
