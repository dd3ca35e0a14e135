-- The owners of a kernel's cells: those of its signals, and then those of its statement.
use Rattle.std.specs.Prelude.{◌≡◌, ◌<◌, ◌+◌, ◌*◌, ℕ, zero, suc, Bool, true, false, cond, nat_eq}
use Rattle.std.specs.Prelude.{List, [], ◌∷◌, ◌++◌, length, map, slice_get, Some}
use Rattle.std.specs.List.{count_by}
use Rattle.std.specs.Option.{option_map}
use Rattle.std.proofs.Common.{refl, ap, sym, ◌∙◌, arith, inl, inr, subst}
use Rattle.std.proofs.lemmas.Bool.{eq-eqb, eqb-true}
use Rattle.std.proofs.lemmas.List.{length-append, length-map}
use Rattle.std.proofs.lemmas.List.Sums.{sum_by-cons, sum_by-append}
use Rattle.std.proofs.lemmas.Option.{slice_get-map, same_Some}
use Rattle.std.proofs.Math.Nat.{eq-or-lt_of_le}
use Rattle.est_kernel.specs.Interfaces.{emittable}
use Rattle.est_kernel.specs.declared.kernel.Kernel.{Kernel}
use Rattle.est_kernel.specs.declared.statement.Statement.{Statement}
use Rattle.est_net.specs.declared.owners.Owner.{Owner}
use Rattle.est_net.specs.declared.owners.Owner.TheVariants as owner
use Rattle.est_meaning.specs.declared.status.Status.{Status}
use Rattle.est_meaning.specs.declared.status.Status.TheVariants.{Present, Absent}
use Rattle.est_net.specs.declared.owners.StatementCell.{StatementCell}
use Rattle.est_meaning.specs.Rounds.{how_many}
use Rattle.est_cells.specs.Tables.{sheet_size}
use Rattle.est_cells.specs.Whole.{Table}
use Rattle.est_net.specs.Layout.{sheet_in}
use Rattle.est_net.specs.Laws.{is_statement}
use Rattle.est_net.specs.Owners.{owners, owners_in, own_cells, places, statements}
use Rattle.est_net.specs.OwnerValues.{value_at}
use Rattle.est_net.specs.Parts.{IsCellOf, IsOwner, part_at}
use Rattle.est_net.proofs.OwnerLists.{at_left, at_right, owners_length, split, stands}
use Rattle.est_net.proofs.OwnerCells.{has_cells}
use Rattle.est_net.proofs.OwnerValues.{owner_value}
use Rattle.est_net.proofs.OwnerCounts.{count, counts}

-- the owners of a kernel's cells, and the table that is read off a list of cells: i says which places are emittable
abbrev pub listed : (ℕ → Bool) → ℕ → Statement → List Owner
listed i n s = map (λ m. owner.Signal m) (places i n) ++ map (λ o. owner.Statement o) (owners_in true s 0 0 0)

abbrev pub read : (ℕ → Bool) → ℕ → (s : Statement) → (ℕ → Status) → Table s
read i n s f = record { outputs = λ m. f (how_many i m); sheet = sheet_in f true s (how_many i n) 0 }

-- of one place: how many there are, and which
one_length : (b : Bool) (n : ℕ) → length (cond b (n ∷ []) []) ≡ cond b 1 0
one_length true n = refl
one_length false n = refl

pub places_length : (f : ℕ → Bool) (n : ℕ) → length (places f n) ≡ how_many f n
places_length f zero = refl
places_length f (suc n) =
    let k = places_length f n in
    let o = one_length (f n) n in
    length-append (places f n) (cond (f n) (n ∷ []) []) ∙ omega arith

pub place_stands : (f : ℕ → Bool) (m n : ℕ) → n < m → f n ≡ true → slice_get (places f m) (how_many f n) ≡ Some n
place_stands f zero n l h = absurd (omega arith)
place_stands f (suc m) n l h = elim (eq-or-lt_of_le {n = n} {m = m} (omega arith)) [
  | inl e ↦ at_right (places f m) (cond (f m) (m ∷ []) []) (how_many f n) 0 n
      (let k = places_length f m in ap (how_many f) e ∙ omega arith)
      (subst (λ (b : Bool). slice_get (cond b (m ∷ []) []) 0 ≡ Some n) (sym (ap f (sym e) ∙ h)) (ap Some (sym e)))
  | inr k ↦ at_left (places f m) (cond (f m) (m ∷ []) []) (how_many f n) n (place_stands f m n k h)
]

-- a place that stands in the list at x has x before it, and passes the test
one_back : (b : Bool) (n y p : ℕ) → slice_get (cond b (n ∷ []) []) y ≡ Some p → (y ≡ 0) × (p ≡ n) × (b ≡ true)
one_back true n zero p h = (refl, sym (same_Some n p h), refl)
one_back true n (suc y) p h = cc
one_back false n y p h = cc

pub place_back : (f : ℕ → Bool) (m x n : ℕ) → slice_get (places f m) x ≡ Some n
    → (how_many f n ≡ x) × (n < m) × (f n ≡ true)
place_back f zero x n h = cc
place_back f (suc m) x n h = elim (split (places f m) (cond (f m) (m ∷ []) []) x n h) [
  | inl k ↦
      let w = place_back f m x n k in
      let l = w.1 in
      (w.0, omega arith, w.2)
  | inr w ↦
      let k = places_length f m in
      let o = one_back (f m) m w.0 n w.2 in
      let z = o.0 in
      let e = w.1 in
      let l = o.1 in
      (ap (how_many f) o.1 ∙ omega arith, omega arith, ap f o.1 ∙ o.2)
]

-- what stands in a list to which a function was applied
mapped : {A B : Type 0} (g : A → B) (a : List A) (x : ℕ) (b : B) → slice_get (map g a) x ≡ Some b
    → (o : A) × (slice_get a x ≡ Some o) × (g o ≡ b)
mapped g [] x b h = cc
mapped g (u ∷ us) zero b h = (u, refl, same_Some (g u) b h)
mapped g (u ∷ us) (suc x) b h = mapped g us x b h

pub map_stands : {A B : Type 0} (g : A → B) (a : List A) (x : ℕ) (o : A) → slice_get a x ≡ Some o
    → slice_get (map g a) x ≡ Some (g o)
map_stands g a x o h = slice_get-map g a x ∙ ap (option_map g) h

pub statement_stands : (i : ℕ → Bool) (n : ℕ) (s : Statement) (x y : ℕ) (o : StatementCell) → x ≡ how_many i n + y
    → slice_get (owners_in true s 0 0 0) y ≡ Some o → slice_get (listed i n s) x ≡ Some (owner.Statement o)
statement_stands i n s x y o e h =
    let a = length-map (places i n) (λ m. owner.Signal m) in
    let c = places_length i n in
    at_right (map (λ m. owner.Signal m) (places i n)) (map (λ c. owner.Statement c) (owners_in true s 0 0 0)) x y
    (owner.Statement o) (omega arith) (map_stands (λ c. owner.Statement c) (owners_in true s 0 0 0) y o h)

pub kernel_length : (f : ℕ → Bool) (n : ℕ) (s : Statement)
    → length (listed f n s) ≡ how_many f n + sheet_size true s 0
kernel_length f n s =
    length-append (map (λ m. owner.Signal m) (places f n)) (map (λ o. owner.Statement o) (owners_in true s 0 0 0))
    ∙ (let a = length-map (places f n) (λ m. owner.Signal m) in
    let b = length-map (owners_in true s 0 0 0) (λ o. owner.Statement o) in
    let c = places_length f n in
    let d = owners_length true s 0 0 0 in
    omega arith)

pub kernel_value : (i : ℕ → Bool) (n : ℕ) (s : Statement) (f : ℕ → Status) (x : ℕ) (o : Owner)
    → slice_get (listed i n s) x ≡ Some o → value_at s (read i n s f) o ≡ f x
kernel_value i n s f x o h =
    elim (split (map (λ m. owner.Signal m) (places i n)) (map (λ c. owner.Statement c) (owners_in true s 0 0 0)) x o
    h) [
      | inl k ↦
          let w = mapped (λ (m : ℕ). owner.Signal m) (places i n) x o k in
          subst (λ z. value_at s (read i n s f) z ≡ f x) w.2 (ap f (place_back i n x w.0 w.1).0)
      | inr v ↦
          let w = mapped (λ (c : StatementCell). owner.Statement c) (owners_in true s 0 0 0) v.0 o v.2 in
          let a = length-map (places i n) (λ m. owner.Signal m) in
          let c = places_length i n in
          let e = v.1 in
          subst (λ z. value_at s (read i n s f) z ≡ f x) w.2
          (owner_value true s 0 0 (how_many i n) 0 v.0 f w.0 (λ z. refl) w.1 ∙ ap f (omega arith))
    ]

-- an owner that stands at two places stands at one
told_apart : (b : Bool) → cond b Present Absent ≡ Present → b ≡ true
told_apart true h = refl
told_apart false h = cc

pub one_cell : (i : ℕ → Bool) (n : ℕ) (s : Statement) (x y : ℕ) (o : Owner) → slice_get (listed i n s) x ≡ Some o
    → slice_get (listed i n s) y ≡ Some o → x ≡ y
one_cell i n s x y o h k =
    let f : ℕ → Status = λ z. cond (nat_eq x z) Present Absent in
    let at_x : cond (nat_eq x x) Present Absent ≡ Present
    = ap (λ (b : Bool). cond b Present Absent) (eq-eqb x x refl) in
    eqb-true x y (told_apart (nat_eq x y)
    (sym (kernel_value i n s f y o k) ∙ (kernel_value i n s f x o h ∙ at_x)))

-- how many cells a statement of the kernel has
no_signals : (m : ℕ) (a : List ℕ) → count_by (is_statement m) (map (λ n. owner.Signal n) a) ≡ 0
no_signals m [] = refl
no_signals m (u ∷ us) =
    let k = no_signals m us in
    sum_by-cons (λ o. cond (is_statement m o) 1 0) (owner.Signal u) (map (λ n. owner.Signal n) us) ∙ omega arith

statement_count : (m : ℕ) (a : List StatementCell)
    → count_by (is_statement m) (map (λ o. owner.Statement o) a) ≡ count m a
statement_count m [] = refl
statement_count m (u ∷ us) =
    let k = statement_count m us in
    sum_by-cons (λ o. cond (is_statement m o) 1 0) (owner.Statement u) (map (λ o. owner.Statement o) us)
    ∙ (ap (λ z. cond (nat_eq u.statement m) 1 0 + z) k
    ∙ sym (sum_by-cons (λ o. cond (nat_eq o.statement m) 1 0) u us))

pub kernel_counts : (f : ℕ → Bool) (n : ℕ) (s : Statement) (m : ℕ) → m < statements s
    → count_by (is_statement m) (listed f n s)
    ≡ ((part_at s 0 0 0 m).loops + 1) * own_cells (part_at s 0 0 0 m).statement (part_at s 0 0 0 m).traps
kernel_counts f n s m l =
    let a = sum_by-append (λ o. cond (is_statement m o) 1 0) (map (λ z. owner.Signal z) (places f n))
    (map (λ o. owner.Statement o) (owners_in true s 0 0 0)) in
    let b = no_signals m (places f n) in
    let c = statement_count m (owners_in true s 0 0 0) in
    let d = counts true s 0 0 0 0 m (omega arith) (omega arith) in
    a ∙ (ap (λ z. z + count_by (is_statement m) (map (λ o. owner.Statement o) (owners_in true s 0 0 0))) b
    ∙ omega arith)

-- what has a cell
some_signal : (k : Kernel) (n : ℕ) → n < length k.interface → emittable k.interface n ≡ true
    → slice_get (owners k) (how_many (emittable k.interface) n) ≡ Some (owner.Signal n)
some_signal k n l h =
    let f = emittable k.interface in
    let x = how_many f n in
    at_left (map (λ m. owner.Signal m) (places f (length k.interface)))
    (map (λ o. owner.Statement o) (owners_in true k.root 0 0 0)) x (owner.Signal n)
    (map_stands (λ m. owner.Signal m) (places f (length k.interface)) x n (place_stands f (length k.interface) n l h))

some_statement : (k : Kernel) (o : StatementCell) → IsCellOf k.root o
    → (x : ℕ) × (slice_get (owners k) x ≡ Some (owner.Statement o))
some_statement k o h =
    let turn = h.incarnation in
    let z = has_cells true k.root 0 0 0 0 o.statement o.incarnation (λ e. refl) (omega arith)
    (let n = h.number in omega arith) (omega arith) o.kind h.kind in
    let f = emittable k.interface in (
      how_many f (length k.interface) + z.0,
      statement_stands f (length k.interface) k.root (how_many f (length k.interface) + z.0) z.0 o refl z.1,
    )

pub some_cell : (k : Kernel) (o : Owner) → IsOwner k o → (x : ℕ) × (slice_get (owners k) x ≡ Some o)
some_cell k (owner.Signal n) h = (how_many (emittable k.interface) n, some_signal k n h.0 h.1)
some_cell k (owner.Statement o) h = some_statement k o h

pub no_other : (k : Kernel) (x : ℕ) (o : Owner) → slice_get (owners k) x ≡ Some o → IsOwner k o
no_other k x o h =
    let f = emittable k.interface in
    let n = length k.interface in
    elim (split (map (λ m. owner.Signal m) (places f n)) (map (λ c. owner.Statement c) (owners_in true k.root 0 0 0))
    x o
    h) [
      | inl y ↦
          let w = mapped (λ (m : ℕ). owner.Signal m) (places f n) x o y in
          let e = place_back f n x w.0 w.1 in
          subst (λ z. IsOwner k z) w.2 (e.1, e.2)
      | inr v ↦
          let w = mapped (λ (c : StatementCell). owner.Statement c) (owners_in true k.root 0 0 0) v.0 o v.2 in
          let r = stands true k.root 0 0 0 0 0 v.0 w.0 w.1 in
          let past = r.past in
          let turn = r.turn in
          subst (λ z. IsOwner k z) w.2
          (record { number = omega arith; incarnation = omega arith; kind = r.kind refl })
    ]
