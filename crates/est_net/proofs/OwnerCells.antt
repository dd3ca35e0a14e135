-- Each part of a statement has a cell of each kind in each of its incarnations.
use Rattle.std.specs.Prelude.{◌≡◌, ◌<◌, ◌≤◌, ◌+◌, ℕ, Bool, true, false, List, [], ◌++◌, length, slice_get, Some}
use Rattle.std.proofs.Common.{refl, ap, sym, ◌∙◌, arith, inl, inr, subst}
use Rattle.std.proofs.lemmas.Bool.{cases_eq, cases_lt}
use Rattle.est_kernel.specs.declared.statement.Statement.{Statement}
use Rattle.est_kernel.specs.declared.statement.Statement.TheVariants.{Nothing, Pause, Emit, Present', Suspend', Seq'}
use Rattle.est_kernel.specs.declared.statement.Statement.TheVariants.{Loop', Par', Trap', Exit, Local' as Binder'}
use Rattle.est_net.specs.declared.owners.CellKind.{CellKind}
use Rattle.est_net.specs.declared.owners.StatementCell.{StatementCell}
use Rattle.est_net.specs.Owners.{statements, own_cells, cell_of, own_owners, owners_in}
use Rattle.est_net.specs.Parts.{IsKindOf, Part, part, part_at}
use Rattle.est_net.proofs.OwnerLists.{Turn, at_left, at_right, is_first, is_inside, is_second, own_there, part_itself}

-- a part of number m has a cell of each kind in a list, in incarnation j
abbrev pub HasCells : List StatementCell → (m j : ℕ) → Part → Type 0
HasCells a m j q = (kind : CellKind) → IsKindOf q kind → (x : ℕ) × (slice_get a x ≡ Some (cell_of j m kind))

has_same : (m j : ℕ) (q r : Part) (a : List StatementCell) → q ≡ r → HasCells a m j r → HasCells a m j q
has_same m j q r a e h = subst (λ z. HasCells a m j z) (sym e) h

has_first : (m j : ℕ) (q : Part) (a b : List StatementCell) → HasCells a m j q → HasCells (a ++ b) m j q
has_first m j q a b h kind w = let z = h kind w in (z.0, at_left a b z.0 (cell_of j m kind) z.1)

has_second : (m j : ℕ) (q : Part) (a b : List StatementCell) → HasCells b m j q → HasCells (a ++ b) m j q
has_second m j q a b h kind w =
    let z = h kind w in (length a + z.0, at_right a b (length a + z.0) z.0 (cell_of j m kind) refl z.1)

has_two : (k m j : ℕ) (x p q : Part) (a b : List StatementCell) → (m < k → x ≡ p) → (k ≤ m → x ≡ q)
    → (m < k → HasCells a m j p) → (k ≤ m → HasCells b m j q) → HasCells (a ++ b) m j x
has_two k m j x p q a b left right f g = elim (cases_lt m k) [
  | inl l ↦ has_same m j x p (a ++ b) (left l) (has_first m j p a b (f l))
  | inr l ↦ has_same m j x q (a ++ b) (right l) (has_second m j q a b (g l))
]

-- a statement's own cells: all in the incarnation of the whole
same_turn : (main : Bool) (a i : ℕ) (q r : Part) → q ≡ r → Turn main a (i + q.loops) → Turn main a (i + r.loops)
same_turn main a i q r e h = subst (λ z. Turn main a (i + z.loops)) e h

own_turn : (main : Bool) (i j d : ℕ) → (main ≡ true → i ≡ 0) → Turn main (j + d) (i + d) → j ≡ i
own_turn true i j d z h = let e = z refl in omega arith
own_turn false i j d z h = omega arith

has_own : (main : Bool) (s : Statement) (i n d t own m j : ℕ) → own ≡ own_cells s t → (main ≡ true → i ≡ 0) → m ≡ n
    → Turn main (j + d) (i + (part_at s n d t m).loops) → HasCells (own_owners i n t own) m j (part_at s n d t m)
has_own main s i n d t own m j g z e w kind k =
    let whole : part_at s n d t m ≡ part s d t = ap (part_at s n d t) e ∙ part_itself s n d t in
    let same : j ≡ i = own_turn main i j d z (same_turn main (j + d) i _ _ whole w) in
    let at : IsKindOf (part s d t) kind = subst (λ q. IsKindOf q kind) whole k in
    let within = at.within in (
      at.offset,
      own_there i n t own at.offset (omega arith)
          ∙ ap Some (ap (cell_of i n) (sym at.same)
          ∙ (ap (λ y. cell_of i y kind) (sym e) ∙ ap (λ y. cell_of y m kind) (sym same))),
    )

with_own : (main : Bool) (s : Statement) (i n d t own m j : ℕ) (a : List StatementCell) → own ≡ own_cells s t
    → (main ≡ true → i ≡ 0) → n ≤ m → Turn main (j + d) (i + (part_at s n d t m).loops)
    → (n + 1 ≤ m → HasCells a m j (part_at s n d t m))
    → HasCells (own_owners i n t own ++ a) m j (part_at s n d t m)
with_own main s i n d t own m j a g z l w f = elim (cases_eq m n) [
  | inl e ↦ has_first m j (part_at s n d t m) (own_owners i n t own) a (has_own main s i n d t own m j g z e w)
  | inr e ↦ has_second m j (part_at s n d t m) (own_owners i n t own) a (f (omega arith))
]

leaf_cells : (main : Bool) (s : Statement) (i n d t m j : ℕ) → t + 3 ≡ own_cells s t → (main ≡ true → i ≡ 0) → n ≤ m
    → m < n + 1 → Turn main (j + d) (i + (part_at s n d t m).loops)
    → HasCells (own_owners i n t (t + 3)) m j (part_at s n d t m)
leaf_cells main s i n d t m j g z l u w = has_own main s i n d t (t + 3) m j g z (omega arith) w

pub has_cells : (main : Bool) (s : Statement) (i n d t m j : ℕ) → (main ≡ true → i ≡ 0) → n ≤ m → m < n + statements s
    → Turn main (j + d) (i + (part_at s n d t m).loops) → HasCells (owners_in main s i n t) m j (part_at s n d t m)
has_cells main Nothing i n d t m j z l u w = leaf_cells main Nothing i n d t m j refl z l (omega arith) w
has_cells main (Pause k) i n d t m j z l u w = leaf_cells main (Pause k) i n d t m j refl z l (omega arith) w
has_cells main (Emit s) i n d t m j z l u w = leaf_cells main (Emit s) i n d t m j refl z l (omega arith) w
has_cells main (Exit k) i n d t m j z l u w = leaf_cells main (Exit k) i n d t m j refl z l (omega arith) w
has_cells main (Present' s a p b q) i n d t m j z l u w = with_own main (Present' s a p b q) i n d t (t + 3) m j _
    refl z l w
    (λ k. has_two (n + 1 + statements p) m j _ _ _ (owners_in main p i (n + 1) t)
    (owners_in main q i (n + 1 + statements p) t) (λ r. is_first m n _ _ _ _ k r)
    (λ r. is_second m n _ _ _ _ (omega arith) r)
    (λ r. has_cells main p i (n + 1) d t m j z k r (same_turn main (j + d) i _ _ (is_first m n _ _ _ _ k r) w))
    (λ r. has_cells main q i (n + 1 + statements p) d t m j z r (omega arith)
    (same_turn main (j + d) i _ _ (is_second m n _ _ _ _ (omega arith) r) w)))
has_cells main (Suspend' s a p) i n d t m j z l u w = with_own main (Suspend' s a p) i n d t (t + 3) m j _ refl z l w
    (λ k. has_same m j _ _ (owners_in main p i (n + 1) t) (is_inside m n _ _ k)
    (has_cells main p i (n + 1) d t m j z k (omega arith) (same_turn main (j + d) i _ _ (is_inside m n _ _ k) w)))
has_cells main (Seq' a p b q) i n d t m j z l u w = with_own main (Seq' a p b q) i n d t (t + 3) m j _ refl z l w
    (λ k. has_two (n + 1 + statements p) m j _ _ _ (owners_in main p i (n + 1) t)
    (owners_in main q i (n + 1 + statements p) t) (λ r. is_first m n _ _ _ _ k r)
    (λ r. is_second m n _ _ _ _ (omega arith) r)
    (λ r. has_cells main p i (n + 1) d t m j z k r (same_turn main (j + d) i _ _ (is_first m n _ _ _ _ k r) w))
    (λ r. has_cells main q i (n + 1 + statements p) d t m j z r (omega arith)
    (same_turn main (j + d) i _ _ (is_second m n _ _ _ _ (omega arith) r) w)))
has_cells true (Loop' a p) i n d t m j z l u w = with_own true (Loop' a p) i n d t (t + 3) m j _ refl z l w
    (λ k. has_same m j _ _ (owners_in true p i (n + 1) t ++ owners_in false p 1 (n + 1) t) (is_inside m n _ _ k)
    (let in_part = same_turn true (j + d) i _ (part_at p (n + 1) (d + 1) t m) (is_inside m n _ _ k) w in
    let i0 = z refl in
    elim (cases_lt (j + d) (i + (part_at p (n + 1) (d + 1) t m).loops)) [
      | inl e ↦ has_first m j _ (owners_in true p i (n + 1) t) (owners_in false p 1 (n + 1) t)
          (has_cells true p i (n + 1) (d + 1) t m j z k (omega arith) (omega arith))
      | inr e ↦ has_second m j _ (owners_in true p i (n + 1) t) (owners_in false p 1 (n + 1) t)
          (has_cells false p 1 (n + 1) (d + 1) t m j (λ q. let b : false ≡ true = q in cc) k (omega arith)
          (omega arith))
    ]))
has_cells false (Loop' a p) i n d t m j z l u w = with_own false (Loop' a p) i n d t (t + 3) m j _ refl z l w
    (λ k. has_same m j _ _ (owners_in false p (i + 1) (n + 1) t ++ []) (is_inside m n _ _ k)
    (let in_part = same_turn false (j + d) i _ (part_at p (n + 1) (d + 1) t m) (is_inside m n _ _ k) w in
    has_first m j _ (owners_in false p (i + 1) (n + 1) t) []
    (has_cells false p (i + 1) (n + 1) (d + 1) t m j (λ q. let b : false ≡ true = q in cc) k (omega arith)
    (omega arith))))
has_cells main (Par' a p b q) i n d t m j z l u w = with_own main (Par' a p b q) i n d t (t + 3) m j _ refl z l w
    (λ k. has_two (n + 1 + statements p) m j _ _ _ (owners_in main p i (n + 1) t)
    (owners_in main q i (n + 1 + statements p) t) (λ r. is_first m n _ _ _ _ k r)
    (λ r. is_second m n _ _ _ _ (omega arith) r)
    (λ r. has_cells main p i (n + 1) d t m j z k r (same_turn main (j + d) i _ _ (is_first m n _ _ _ _ k r) w))
    (λ r. has_cells main q i (n + 1 + statements p) d t m j z r (omega arith)
    (same_turn main (j + d) i _ _ (is_second m n _ _ _ _ (omega arith) r) w)))
has_cells main (Trap' a p) i n d t m j z l u w = with_own main (Trap' a p) i n d t (t + 3) m j _ refl z l w
    (λ k. has_same m j _ _ (owners_in main p i (n + 1) (t + 1)) (is_inside m n _ _ k)
    (has_cells main p i (n + 1) d (t + 1) m j z k (omega arith) (same_turn main (j + d) i _ _ (is_inside m n _ _ k) w)))
has_cells main (Binder' s a p) i n d t m j z l u w = with_own main (Binder' s a p) i n d t (t + 4) m j _ refl z l w
    (λ k. has_same m j _ _ (owners_in main p i (n + 1) t) (is_inside m n _ _ k)
    (has_cells main p i (n + 1) d t m j z k (omega arith) (same_turn main (j + d) i _ _ (is_inside m n _ _ k) w)))
