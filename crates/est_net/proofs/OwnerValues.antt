-- What a sheet that is read off a list of cells says for an owner: the cell at the owner's place.
use Rattle.std.specs.Prelude.{◌≡◌, ◌<◌, ◌≤◌, ◌+◌, ℕ, zero, suc, Bool, true, false, cond, ltb, nat_eq}
use Rattle.std.specs.Prelude.{List, [], ◌++◌, length, slice_get, Some}
use Rattle.std.proofs.Common.{refl, ap, sym, ◌∙◌, arith, inl, inr, subst}
use Rattle.std.proofs.lemmas.Bool.{eq-eqb, ne_eqb, lt-ltb, le-ltb, ltb-true, ltb-false}
use Rattle.est_kernel.specs.declared.statement.Statement.{Statement}
use Rattle.est_kernel.specs.declared.statement.Statement.TheVariants.{Nothing, Pause, Emit, Present', Suspend', Seq'}
use Rattle.est_kernel.specs.declared.statement.Statement.TheVariants.{Loop', Par', Trap', Exit, Local' as Binder'}
use Rattle.est_net.specs.declared.owners.CellKind.TheVariants.{Code, Status as OfSignal}
use Rattle.est_meaning.specs.declared.status.Status.{Status}
use Rattle.est_meaning.specs.declared.status.Status.TheVariants.{Present, Absent, Unknown}
use Rattle.est_net.specs.declared.owners.StatementCell.{StatementCell}
use Rattle.est_net.specs.Owners.{statements, kind_at, own_owners, owners_in}
use Rattle.est_meaning.specs.Environments.{verdict}
use Rattle.est_cells.specs.Tables.{Cells, sheet_size, is_sure, is_possible}
use Rattle.est_net.specs.Layout.{sure_codes, possible_codes, sheet_in}
use Rattle.est_net.specs.Parts.{part_at}
use Rattle.est_net.specs.OwnerValues.{own_value, value_in}
use Rattle.est_net.proofs.OwnerLists.{is_inside, is_itself, own_at, own_length}
use Rattle.est_net.proofs.OwnerLists.{owners_length, split, stands}

-- a code's cell, read back from the lists of codes
pub read_back : (v : Status) → verdict (is_sure v) (is_possible v) ≡ v
read_back Present = refl
read_back Absent = refl
read_back Unknown = refl

code_value : (f : ℕ → Status) (c n k : ℕ) → k < n → ltb k n ≡ true
    → verdict (sure_codes f c n k) (possible_codes f c n k) ≡ f (c + k)
unfolding sure_codes possible_codes
code_value f c n k l e = rw e (read_back (f (c + k)))

-- a statement's own cells from place c on, inside t traps
abbrev cells_in : (ℕ → Status) → (c t : ℕ) → Cells
cells_in f c t =
    record { go = f c; must = sure_codes f (c + 1) (t + 2); may = possible_codes f (c + 1) (t + 2) }

-- a cell of a statement's own, which are t + 3, or one more where it declares a signal with status v
own_is : (f : ℕ → Status) (c t x : ℕ) (v : Status) → x < t + 4 → (x ≡ t + 3 → v ≡ f (c + x))
    → own_value (cells_in f c t) v (kind_at t x) ≡ f (c + x)
own_is f c t zero v l h = ap f (omega arith)
own_is f c t (suc m) v l h = by (ltb m (t + 2)) refl
  where
    by : (b : Bool) → ltb m (t + 2) ≡ b
        → own_value (cells_in f c t) v (cond b (Code m) OfSignal) ≡ f (c + suc m)
    by true e = code_value f (c + 1) (t + 2) m (ltb-true m (t + 2) e) e ∙ ap f (omega arith)
    by false e = let k = ltb-false m (t + 2) e in h (omega arith)

own_value_is : (f : ℕ → Status) (i n c t own x : ℕ) (v : Status) (o : StatementCell) → own ≤ t + 4
    → (t + 4 ≤ own → v ≡ f (c + t + 3)) → slice_get (own_owners i n t own) x ≡ Some o
    → (o.statement ≡ n) × (own_value (cells_in f c t) v o.kind ≡ f (c + x))
own_value_is f i n c t own x v o l e h =
    let k = own_at i n t own x o h in
    let a = k.0 in (
      sym (ap (λ z. z.statement) k.1),
      subst (λ (z : StatementCell). own_value (cells_in f c t) v z.kind ≡ f (c + x)) k.1
          (own_is f c t x v (omega arith) (λ d. e (omega arith) ∙ ap f (omega arith))),
    )

-- of a statement's own cells and one part, or two
one_value : (f : ℕ → Status) (i n c t own x : ℕ) (v : Status) (o : StatementCell)
    (a : List StatementCell) (w : Status) → own ≤ t + 4 → (t + 4 ≤ own → v ≡ f (c + t + 3))
    → ((y : ℕ) → slice_get a y ≡ Some o → (n + 1 ≤ o.statement) × (w ≡ f (c + own + y)))
    → slice_get (own_owners i n t own ++ a) x ≡ Some o
    → cond (nat_eq o.statement n) (own_value (cells_in f c t) v o.kind) w ≡ f (c + x)
one_value f i n c t own x v o a w l e g h = elim (split (own_owners i n t own) a x o h) [
  | inl k ↦
      let z = own_value_is f i n c t own x v o l e k in is_itself o.statement n _ _ z.0 ∙ z.1
  | inr y ↦
      let z = g y.0 y.2 in
      let m = own_length i n t own in
      let d = y.1 in
      is_inside o.statement n _ _ z.0 ∙ (z.1 ∙ ap f (omega arith))
]

two_value : (f : ℕ → Status) (i n k c t x m : ℕ) (o : StatementCell) (a b : List StatementCell)
    (w z : Status) → n + 1 ≤ k → length a ≡ m
    → ((y : ℕ) → slice_get a y ≡ Some o → (n + 1 ≤ o.statement) × (o.statement < k) × (w ≡ f (c + t + 3 + y)))
    → ((y : ℕ) → slice_get b y ≡ Some o → (k ≤ o.statement) × (z ≡ f (c + t + 3 + m + y)))
    → slice_get (own_owners i n t (t + 3) ++ (a ++ b)) x ≡ Some o
    → cond (nat_eq o.statement n) (own_value (cells_in f c t) Unknown o.kind) (cond (ltb o.statement k) w z)
    ≡ f (c + x)
two_value f i n k c t x m o a b w z less size g j h =
    one_value f i n c t (t + 3) x Unknown o (a ++ b) _ (omega arith) (λ e. absurd (omega arith))
    (λ y q. elim (split a b y o q) [
      | inl r ↦ let u = g y r in
          let u0 = u.0 in
          let u1 = u.1 in
          (u.0, first o.statement k w z u.1 ∙ (u.2 ∙ ap f (omega arith)))
      | inr r ↦ let u = j r.0 r.2 in
          let u0 = u.0 in
          let d = r.1 in
          (omega arith, second o.statement k w z u.0 ∙ (u.1 ∙ ap f (omega arith)))
    ]) h
  where
    first : (m k : ℕ) (b c : Status) → m < k → cond (ltb m k) b c ≡ b
    first m k b c l = rw (lt-ltb m k l) refl

    second : (m k : ℕ) (b c : Status) → k ≤ m → cond (ltb m k) b c ≡ c
    second m k b c l = rw (le-ltb m k l) refl

leaf_value : (f : ℕ → Status) (i n c t x : ℕ) (o : StatementCell)
    → slice_get (own_owners i n t (t + 3)) x ≡ Some o → own_value (cells_in f c t) Unknown o.kind ≡ f (c + x)
leaf_value f i n c t x o h =
    (own_value_is f i n c t (t + 3) x Unknown o (omega arith) (λ e. absurd (omega arith)) h).1

pub owner_value : (main : Bool) (s : Statement) (i n c t x : ℕ) (f : ℕ → Status) (o : StatementCell)
    → (main ≡ true → i ≡ 0) → slice_get (owners_in main s i n t) x ≡ Some o
    → value_in main s n (sheet_in f main s c t) o ≡ f (c + x)
owner_value main Nothing i n c t x f o z h = leaf_value f i n c t x o h
owner_value main (Pause k) i n c t x f o z h = leaf_value f i n c t x o h
owner_value main (Emit s) i n c t x f o z h = leaf_value f i n c t x o h
owner_value main (Exit k) i n c t x f o z h = leaf_value f i n c t x o h
owner_value main (Present' s a p b q) i n c t x f o z h =
    two_value f i n (n + 1 + statements p) c t x (sheet_size main p t) o _ _ _ _ (omega arith)
    (owners_length main p i (n + 1) t)
    (λ y k. let r = stands main p i (n + 1) 0 0 t y o k in
    (r.first, r.past, owner_value main p i (n + 1) (c + t + 3) t y f o z k))
    (λ y k. let r = stands main q i (n + 1 + statements p) 0 0 t y o k in
    (r.first, owner_value main q i (n + 1 + statements p) (c + t + 3 + sheet_size main p t) t y f o z k)) h
owner_value main (Suspend' s a p) i n c t x f o z h =
    one_value f i n c t (t + 3) x Unknown o _ _ (omega arith) (λ e. absurd (omega arith))
    (λ y k. let r = stands main p i (n + 1) 0 0 t y o k in
    (r.first, owner_value main p i (n + 1) (c + t + 3) t y f o z k ∙ ap f (omega arith))) h
owner_value main (Seq' a p b q) i n c t x f o z h =
    two_value f i n (n + 1 + statements p) c t x (sheet_size main p t) o _ _ _ _ (omega arith)
    (owners_length main p i (n + 1) t)
    (λ y k. let r = stands main p i (n + 1) 0 0 t y o k in
    (r.first, r.past, owner_value main p i (n + 1) (c + t + 3) t y f o z k))
    (λ y k. let r = stands main q i (n + 1 + statements p) 0 0 t y o k in
    (r.first, owner_value main q i (n + 1 + statements p) (c + t + 3 + sheet_size main p t) t y f o z k)) h
owner_value true (Loop' a p) i n c t x f o z h =
    let e = sheet_size true p t in
    let u = value_in true p (n + 1) (sheet_in f true p (c + t + 3) t) o in
    let v = value_in false p (n + 1) (sheet_in f false p (c + t + 3 + e) t) o in
    let l = (part_at p (n + 1) 0 0 o.statement).loops in
    one_value f i n c t (t + 3) x Unknown o _ (cond (nat_eq o.incarnation (l + 1)) v u) (omega arith)
    (λ e. absurd (omega arith))
    (λ y k. elim (split (owners_in true p i (n + 1) t) (owners_in false p 1 (n + 1) t) y o k) [
      | inl k ↦
          let r = stands true p i (n + 1) 0 0 t y o k in
          let i0 = z refl in
          let turn = r.turn in (
            r.first,
            not_again o.incarnation l v u (omega arith)
                ∙ (owner_value true p i (n + 1) (c + t + 3) t y f o z k ∙ ap f (omega arith)),
          )
      | inr w ↦
          let r = stands false p 1 (n + 1) 0 0 t w.0 o w.2 in
          let turn = r.turn in
          let size = owners_length true p i (n + 1) t in
          let d = w.1 in (
            r.first,
            again o.incarnation l v u (omega arith)
                ∙ (owner_value false p 1 (n + 1) (c + t + 3 + e) t w.0 f o (λ q. let b : false ≡ true = q in cc) w.2
                ∙ ap f (omega arith)),
          )
    ]) h
  where
    again : (j l : ℕ) (a b : Status) → j ≡ l + 1 → cond (nat_eq j (l + 1)) a b ≡ a
    again j l a b k = rw (eq-eqb j (l + 1) k) refl

    not_again : (j l : ℕ) (a b : Status) → j ≤ l → cond (nat_eq j (l + 1)) a b ≡ b
    not_again j l a b k = rw (ne_eqb j (l + 1) (λ q. absurd (omega arith))) refl
owner_value false (Loop' a p) i n c t x f o z h =
    one_value f i n c t (t + 3) x Unknown o _ _ (omega arith) (λ e. absurd (omega arith))
    (λ y k. elim (split (owners_in false p (i + 1) (n + 1) t) [] y o k) [
      | inl k ↦
          let r = stands false p (i + 1) (n + 1) 0 0 t y o k in (
            r.first,
            owner_value false p (i + 1) (n + 1) (c + t + 3) t y f o (λ q. let b : false ≡ true = q in cc) k
                ∙ ap f (omega arith),
          )
      | inr w ↦ let e = w.2 in cc
    ]) h
owner_value main (Par' a p b q) i n c t x f o z h =
    two_value f i n (n + 1 + statements p) c t x (sheet_size main p t) o _ _ _ _ (omega arith)
    (owners_length main p i (n + 1) t)
    (λ y k. let r = stands main p i (n + 1) 0 0 t y o k in
    (r.first, r.past, owner_value main p i (n + 1) (c + t + 3) t y f o z k))
    (λ y k. let r = stands main q i (n + 1 + statements p) 0 0 t y o k in
    (r.first, owner_value main q i (n + 1 + statements p) (c + t + 3 + sheet_size main p t) t y f o z k)) h
owner_value main (Trap' a p) i n c t x f o z h =
    one_value f i n c t (t + 3) x Unknown o _ _ (omega arith) (λ e. absurd (omega arith))
    (λ y k. let r = stands main p i (n + 1) 0 0 (t + 1) y o k in
    (r.first, owner_value main p i (n + 1) (c + t + 3) (t + 1) y f o z k ∙ ap f (omega arith))) h
owner_value main (Binder' s a p) i n c t x f o z h =
    one_value f i n c t (t + 4) x (f (c + t + 3)) o _ _ (omega arith) (λ e. refl)
    (λ y k. let r = stands main p i (n + 1) 0 0 t y o k in
    (r.first, owner_value main p i (n + 1) (c + t + 4) t y f o z k ∙ ap f (omega arith))) h
