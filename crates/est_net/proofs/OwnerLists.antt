-- The lists of owners: how long they are, and whose cells stand in them.
use Rattle.std.specs.Prelude.{◌≡◌, ◌⊎◌, ◌<◌, ◌≤◌, ◌+◌, ℕ, zero, suc, Bool, true, false, cond, ltb, nat_eq}
use Rattle.std.specs.Prelude.{List, [], ◌∷◌, ◌++◌, length, slice_get, Some}
use Rattle.std.proofs.Common.{refl, ap, sym, ◌∙◌, arith, inl, inr, subst}
use Rattle.std.proofs.lemmas.Bool.{eq-eqb, ne_eqb, lt-ltb, le-ltb}
use Rattle.std.proofs.lemmas.List.{length-append}
use Rattle.std.proofs.lemmas.List.FromFn.{length-map-range_with_len, get_or-map-range_with_len}
use Rattle.std.proofs.lemmas.Option.{slice_get_within, slice_get-get_or, get_or_from_slice_get}
use Rattle.est_kernel.specs.declared.statement.Statement.{Statement}
use Rattle.est_kernel.specs.declared.statement.Statement.TheVariants.{Nothing, Pause, Emit, Present', Suspend', Seq'}
use Rattle.est_kernel.specs.declared.statement.Statement.TheVariants.{Loop', Par', Trap', Exit, Local' as Binder'}
use Rattle.est_net.specs.declared.owners.StatementCell.{StatementCell}
use Rattle.est_cells.specs.Tables.{sheet_size}
use Rattle.est_net.specs.Owners.{statements, own_cells, kind_at, cell_of, own_owners, inside_loop, owners_in}
use Rattle.est_net.specs.Parts.{IsKindOf, part, part_at}

-- how many there are
pub own_length : (i n t own : ℕ) → length (own_owners i n t own) ≡ own
own_length i n t own = length-map-range_with_len (λ x. cell_of i n (kind_at t x)) 0 own

joined : {A : Type 0} (a b : List A) (m n : ℕ) → length a ≡ m → length b ≡ n → length (a ++ b) ≡ m + n
joined a b m n h k = length-append a b ∙ (ap (λ (z : ℕ). z + length b) h ∙ ap (λ (z : ℕ). m + z) k)

again_length : {A : Type 0} (main : Bool) (a : List A) (m : ℕ) → length a ≡ m
    → length (cond main a []) ≡ cond main m 0
again_length true a m h = h
again_length false a m h = refl

-- a statement's own owners, and those of one part, or of two
one_length : (i n t own : ℕ) (a : List StatementCell) (k : ℕ) → length a ≡ k
    → length (own_owners i n t own ++ a) ≡ own + k
one_length i n t own a k h = joined (own_owners i n t own) a own k (own_length i n t own) h

two_length : (i n t own : ℕ) (a b : List StatementCell) (k l : ℕ) → length a ≡ k → length b ≡ l
    → length (own_owners i n t own ++ (a ++ b)) ≡ own + k + l
two_length i n t own a b k l h j = one_length i n t own (a ++ b) (k + l) (joined a b k l h j) ∙ omega arith

pub owners_length : (main : Bool) (s : Statement) (i n t : ℕ) → length (owners_in main s i n t) ≡ sheet_size main s t
owners_length main Nothing i n t = own_length i n t (t + 3)
owners_length main (Pause k) i n t = own_length i n t (t + 3)
owners_length main (Emit s) i n t = own_length i n t (t + 3)
owners_length main (Exit k) i n t = own_length i n t (t + 3)
owners_length main (Present' s a p b q) i n t =
    two_length i n t (t + 3) _ _ _ _ (owners_length main p i (n + 1) t)
    (owners_length main q i (n + 1 + statements p) t)
owners_length main (Suspend' s a p) i n t = one_length i n t (t + 3) _ _ (owners_length main p i (n + 1) t)
owners_length main (Seq' a p b q) i n t =
    two_length i n t (t + 3) _ _ _ _ (owners_length main p i (n + 1) t)
    (owners_length main q i (n + 1 + statements p) t)
owners_length main (Loop' a p) i n t = two_length i n t (t + 3) _ _ _ _
    (owners_length main p (inside_loop main i) (n + 1) t)
    (again_length main (owners_in false p 1 (n + 1) t) _ (owners_length false p 1 (n + 1) t))
owners_length main (Par' a p b q) i n t =
    two_length i n t (t + 3) _ _ _ _ (owners_length main p i (n + 1) t)
    (owners_length main q i (n + 1 + statements p) t)
owners_length main (Trap' a p) i n t = one_length i n t (t + 3) _ _ (owners_length main p i (n + 1) (t + 1))
owners_length main (Binder' s a p) i n t = one_length i n t (t + 4) _ _ (owners_length main p i (n + 1) t)

-- an element of two lists one after the other is one of the first, or one of the second
pub split : {A : Type 0} (a b : List A) (x : ℕ) (o : A) → slice_get (a ++ b) x ≡ Some o
    → (slice_get a x ≡ Some o) ⊎ ((y : ℕ) × (x ≡ length a + y) × (slice_get b y ≡ Some o))
split [] b x o h = inr (x, omega arith, h)
split (u ∷ us) b zero o h = inl h
split (u ∷ us) b (suc x) o h = elim (split us b x o h) [
  | inl k ↦ inl k
  | inr w ↦ inr (w.0, (let e = w.1 in omega arith), w.2)
]

pub at_left : {A : Type 0} (a b : List A) (x : ℕ) (o : A) → slice_get a x ≡ Some o → slice_get (a ++ b) x ≡ Some o
at_left [] b x o h = cc
at_left (u ∷ us) b zero o h = h
at_left (u ∷ us) b (suc x) o h = at_left us b x o h

pub at_right : {A : Type 0} (a b : List A) (x y : ℕ) (o : A) → x ≡ length a + y → slice_get b y ≡ Some o
    → slice_get (a ++ b) x ≡ Some o
at_right [] b x y o e h = subst (λ (z : ℕ). slice_get b z ≡ Some o) (omega arith) h
at_right (u ∷ us) b zero y o e h = absurd (omega arith)
at_right (u ∷ us) b (suc x) y o e h = at_right us b x y o (omega arith) h

pub own_there : (i n t own x : ℕ) → x < own
    → slice_get (own_owners i n t own) x ≡ Some (cell_of i n (kind_at t x))
own_there i n t own x h =
    let f : ℕ → StatementCell = λ z. cell_of i n (kind_at t z) in
    let m = own_length i n t own in
    slice_get-get_or (own_owners i n t own) x (f 0) (omega arith)
    ∙ ap Some (get_or-map-range_with_len f 0 own x x (f 0) h (omega arith))

pub own_at : (i n t own x : ℕ) (o : StatementCell) → slice_get (own_owners i n t own) x ≡ Some o
    → (x < own) × (cell_of i n (kind_at t x) ≡ o)
own_at i n t own x o h =
    let l : x < length (own_owners i n t own) = slice_get_within (own_owners i n t own) x o h in
    let k : x < own = subst (λ (z : ℕ). x < z) (own_length i n t own) l in (
      k,
      sym (get_or-map-range_with_len (λ z. cell_of i n (kind_at t z)) 0 own x x o k (omega arith))
          ∙ get_or_from_slice_get (own_owners i n t own) x o o h,
    )

-- tests of numbers that decide
pub is_itself : {A : Type 0} (m n : ℕ) (a b : A) → m ≡ n → cond (nat_eq m n) a b ≡ a
is_itself m n a b h = rw (eq-eqb m n h) refl

pub is_inside : {A : Type 0} (m n : ℕ) (a b : A) → n + 1 ≤ m → cond (nat_eq m n) a b ≡ b
is_inside m n a b h = rw (ne_eqb m n (λ e. absurd (omega arith))) refl

pub is_first : {A : Type 0} (m n k : ℕ) (a b c : A) → n + 1 ≤ m → m < k
    → cond (nat_eq m n) a (cond (ltb m k) b c) ≡ b
is_first m n k a b c h l = is_inside m n a _ h ∙ rw (lt-ltb m k l) refl

pub is_second : {A : Type 0} (m n k : ℕ) (a b c : A) → n + 1 ≤ k → k ≤ m
    → cond (nat_eq m n) a (cond (ltb m k) b c) ≡ c
is_second m n k a b c h l = is_inside m n a _ (omega arith) ∙ rw (le-ltb m k l) refl

-- the part of a statement that has its number is the statement
pub part_itself : (s : Statement) (n d t : ℕ) → part_at s n d t n ≡ part s d t
part_itself Nothing n d t = refl
part_itself (Pause k) n d t = refl
part_itself (Emit s) n d t = refl
part_itself (Exit k) n d t = refl
part_itself (Present' s a p b q) n d t = is_itself n n _ _ refl
part_itself (Suspend' s a p) n d t = is_itself n n _ _ refl
part_itself (Seq' a p b q) n d t = is_itself n n _ _ refl
part_itself (Loop' a p) n d t = is_itself n n _ _ refl
part_itself (Par' a p b q) n d t = is_itself n n _ _ refl
part_itself (Trap' a p) n d t = is_itself n n _ _ refl
part_itself (Binder' s a p) n d t = is_itself n n _ _ refl

-- incarnation a of a statement inside b loops: at most b of those that go on, and b of the others
abbrev pub Turn : Bool → (a b : ℕ) → Type 0
Turn true a b = a ≤ b
Turn false a b = a ≡ b

-- an owner of a sheet: its number is one of the statement's, and its incarnation and its kind are ones that the loops
-- and traps around its statement allow; the whole has number n, incarnation i, and d loops and t traps around it
pub record Stands (main : Bool) (s : Statement) (i n d u t : ℕ) (o : StatementCell) : Type 0 where
  pub first : n ≤ o.statement
  pub past : o.statement < n + statements s
  pub turn : Turn main (o.incarnation + d) (i + (part_at s n d u o.statement).loops)
  pub kind : u ≡ t → IsKindOf (part_at s n d u o.statement) o.kind

turn_same : (main : Bool) (a b : ℕ) → a ≡ b → Turn main a b
turn_same true a b h = omega arith
turn_same false a b h = h

some_statements : (s : Statement) → 0 < statements s
some_statements Nothing = omega arith
some_statements (Pause n) = omega arith
some_statements (Emit s) = omega arith
some_statements (Exit k) = omega arith
some_statements (Present' x a p b q) = omega arith
some_statements (Suspend' x a p) = omega arith
some_statements (Seq' a p b q) = omega arith
some_statements (Loop' a p) = omega arith
some_statements (Par' a p b q) = omega arith
some_statements (Trap' a p) = omega arith
some_statements (Binder' s a p) = omega arith

own_kind : (s : Statement) (d u t own x : ℕ) → own ≡ own_cells s t → x < own → u ≡ t
    → IsKindOf (part s d u) (kind_at t x)
own_kind s d u t own x g l e = subst (λ z. IsKindOf (part s d z) (kind_at t x)) (sym e)
    (record { offset = x; within = omega arith; same = refl })

own_stands : (main : Bool) (s : Statement) (i n d u t own x : ℕ) (o : StatementCell) → own ≡ own_cells s t
    → slice_get (own_owners i n t own) x ≡ Some o → Stands main s i n d u t o
own_stands main s i n d u t own x o g h =
    let l = some_statements s in
    let w = own_at i n t own x o h in
    subst (λ (z : StatementCell). Stands main s i n d u t z) w.1 (record {
      first = omega arith;
      past = omega arith;
      turn = turn_same main (i + d) (i + (part_at s n d u n).loops)
          (ap (λ (z : ℕ). i + z) (sym (ap (λ z. z.loops) (part_itself s n d u))));
      kind = λ e. subst (λ z. IsKindOf z (kind_at t x)) (sym (part_itself s n d u)) (own_kind s d u t own x g w.0 e);
    })

-- an owner of a part's sheet is one of the statement's
part_stands : (m main : Bool) (p s : Statement) (j i k n e d v u r t : ℕ) (o : StatementCell) → n ≤ k
    → k + statements p ≤ n + statements s
    → (k ≤ o.statement → o.statement < k + statements p
    → part_at s n d u o.statement ≡ part_at p k e v o.statement)
    → ((l : ℕ) → Turn m (o.incarnation + e) (j + l) → Turn main (o.incarnation + d) (i + l)) → (u ≡ t → v ≡ r)
    → Stands m p j k e v r o → Stands main s i n d u t o
part_stands m main p s j i k n e d v u r t o a b same turn kind h =
    let l = h.first in
    let past = h.past in
    record {
      first = omega arith;
      past = omega arith;
      turn = subst (λ z. Turn main (o.incarnation + d) (i + z.loops)) (sym (same l past)) (turn _ h.turn);
      kind = λ z. subst (λ q. IsKindOf q o.kind) (sym (same l past)) (h.kind (kind z));
    }

one_stands : (main : Bool) (p s : Statement) (i n d v u r t own : ℕ) (x : ℕ) (o : StatementCell)
    (a : List StatementCell) → own ≡ own_cells s t → (u ≡ t → v ≡ r) → statements s ≡ 1 + statements p
    → (n + 1 ≤ o.statement → part_at s n d u o.statement ≡ part_at p (n + 1) d v o.statement)
    → ((y : ℕ) → slice_get a y ≡ Some o → Stands main p i (n + 1) d v r o)
    → slice_get (own_owners i n t own ++ a) x ≡ Some o → Stands main s i n d u t o
one_stands main p s i n d v u r t own x o a g kind c same f h = elim (split (own_owners i n t own) a x o h) [
  | inl k ↦ own_stands main s i n d u t own x o g k
  | inr w ↦ part_stands main main p s i i (n + 1) n d d v u r t o (omega arith) (omega arith) (λ l e. same l) (λ l z. z)
      kind (f w.0 w.2)
]

two_stands : (main : Bool) (p q s : Statement) (i n d u t : ℕ) (x : ℕ) (o : StatementCell) (a b : List StatementCell)
    → t + 3 ≡ own_cells s t → statements s ≡ 1 + statements p + statements q
    → (n + 1 ≤ o.statement → o.statement < n + 1 + statements p
    → part_at s n d u o.statement ≡ part_at p (n + 1) d u o.statement)
    → (n + 1 + statements p ≤ o.statement
    → part_at s n d u o.statement ≡ part_at q (n + 1 + statements p) d u o.statement)
    → ((y : ℕ) → slice_get a y ≡ Some o → Stands main p i (n + 1) d u t o)
    → ((y : ℕ) → slice_get b y ≡ Some o → Stands main q i (n + 1 + statements p) d u t o)
    → slice_get (own_owners i n t (t + 3) ++ (a ++ b)) x ≡ Some o → Stands main s i n d u t o
two_stands main p q s i n d u t x o a b j c left right f g h =
    elim (split (own_owners i n t (t + 3)) (a ++ b) x o h) [
      | inl k ↦ own_stands main s i n d u t (t + 3) x o j k
      | inr w ↦ elim (split a b w.0 o w.2) [
        | inl k ↦ part_stands main main p s i i (n + 1) n d d u u t t o (omega arith) (omega arith) left (λ l z. z)
            (λ z. z) (f w.0 k)
        | inr v ↦ part_stands main main q s i i (n + 1 + statements p) n d d u u t t o (omega arith) (omega arith)
            (λ l r. right l) (λ l z. z) (λ z. z) (g v.0 v.2)
      ]
    ]

pub stands : (main : Bool) (s : Statement) (i n d u t x : ℕ) (o : StatementCell)
    → slice_get (owners_in main s i n t) x ≡ Some o → Stands main s i n d u t o
stands main Nothing i n d u t x o h = own_stands main Nothing i n d u t (t + 3) x o refl h
stands main (Pause k) i n d u t x o h = own_stands main (Pause k) i n d u t (t + 3) x o refl h
stands main (Emit s) i n d u t x o h = own_stands main (Emit s) i n d u t (t + 3) x o refl h
stands main (Exit k) i n d u t x o h = own_stands main (Exit k) i n d u t (t + 3) x o refl h
stands main (Present' s a p b q) i n d u t x o h = two_stands main p q (Present' s a p b q) i n d u t x o _ _ refl refl
    (λ l r. is_first o.statement n _ _ _ _ l r) (λ l. is_second o.statement n _ _ _ _ (omega arith) l)
    (λ y k. stands main p i (n + 1) d u t y o k) (λ y k. stands main q i (n + 1 + statements p) d u t y o k) h
stands main (Suspend' s a p) i n d u t x o h = one_stands main p (Suspend' s a p) i n d u u t t (t + 3) x o _ refl
    (λ z. z) refl
    (λ l. is_inside o.statement n _ _ l) (λ y k. stands main p i (n + 1) d u t y o k) h
stands main (Seq' a p b q) i n d u t x o h = two_stands main p q (Seq' a p b q) i n d u t x o _ _ refl refl
    (λ l r. is_first o.statement n _ _ _ _ l r) (λ l. is_second o.statement n _ _ _ _ (omega arith) l)
    (λ y k. stands main p i (n + 1) d u t y o k) (λ y k. stands main q i (n + 1 + statements p) d u t y o k) h
stands true (Loop' a p) i n d u t x o h = elim (split (own_owners i n t (t + 3)) _ x o h) [
  | inl k ↦ own_stands true (Loop' a p) i n d u t (t + 3) x o refl k
  | inr w ↦ elim (split (owners_in true p i (n + 1) t) _ w.0 o w.2) [
    | inl k ↦ part_stands true true p (Loop' a p) i i (n + 1) n (d + 1) d u u t t o (omega arith) (omega arith)
        (λ l r. is_inside o.statement n _ _ l) (λ l z. omega arith) (λ z. z)
        (stands true p i (n + 1) (d + 1) u t w.0 o k)
    | inr v ↦ part_stands false true p (Loop' a p) 1 i (n + 1) n (d + 1) d u u t t o (omega arith) (omega arith)
        (λ l r. is_inside o.statement n _ _ l) (λ l z. omega arith) (λ z. z)
        (stands false p 1 (n + 1) (d + 1) u t v.0 o v.2)
  ]
]
stands false (Loop' a p) i n d u t x o h = elim (split (own_owners i n t (t + 3)) _ x o h) [
  | inl k ↦ own_stands false (Loop' a p) i n d u t (t + 3) x o refl k
  | inr w ↦ elim (split (owners_in false p (i + 1) (n + 1) t) [] w.0 o w.2) [
    | inl k ↦ part_stands false false p (Loop' a p) (i + 1) i (n + 1) n (d + 1) d u u t t o (omega arith) (omega arith)
        (λ l r. is_inside o.statement n _ _ l) (λ l z. omega arith) (λ z. z)
        (stands false p (i + 1) (n + 1) (d + 1) u t w.0 o k)
    | inr v ↦ let e = v.2 in cc
  ]
]
stands main (Par' a p b q) i n d u t x o h = two_stands main p q (Par' a p b q) i n d u t x o _ _ refl refl
    (λ l r. is_first o.statement n _ _ _ _ l r) (λ l. is_second o.statement n _ _ _ _ (omega arith) l)
    (λ y k. stands main p i (n + 1) d u t y o k) (λ y k. stands main q i (n + 1 + statements p) d u t y o k) h
stands main (Trap' a p) i n d u t x o h = one_stands main p (Trap' a p) i n d (u + 1) u (t + 1) t (t + 3) x o _ refl
    (λ z. omega arith) refl
    (λ l. is_inside o.statement n _ _ l) (λ y k. stands main p i (n + 1) d (u + 1) (t + 1) y o k) h
stands main (Binder' s a p) i n d u t x o h = one_stands main p (Binder' s a p) i n d u u t t (t + 4) x o _ refl
    (λ z. z) refl
    (λ l. is_inside o.statement n _ _ l) (λ y k. stands main p i (n + 1) d u t y o k) h
