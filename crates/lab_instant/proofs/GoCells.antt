-- The go cell of a statement stands before those of its codes.
use Rattle.std.specs.Prelude.{◌≡◌, ◌+◌, ◌-◌, ℕ, zero, suc, Bool, true, false, cond, ltb}
use Rattle.std.specs.Prelude.{List, [], ◌++◌, length, None, Some, slice_get}
use Rattle.std.proofs.Common.{refl, ap, ◌∙◌, arith, inl, inr, subst}
use Rattle.est_kernel.specs.declared.statement.Statement.{Statement}
use Rattle.est_kernel.specs.declared.statement.Statement.TheVariants.{Nothing, Pause, Emit, Present', Suspend', Seq'}
use Rattle.est_kernel.specs.declared.statement.Statement.TheVariants.{Loop', Par', Trap', Exit, Local' as Binder'}
use Rattle.est_net.specs.Owners.{cell_of, inside_loop, kind_at, own_owners, owners_in, statements}
use Rattle.est_net.specs.declared.owners.CellKind.{CellKind}
use Rattle.est_net.specs.declared.owners.CellKind.TheVariants.{Go, Code, Status}
use Rattle.est_net.specs.declared.owners.StatementCell.{StatementCell}
use Rattle.est_net.proofs.OwnerLists.{at_left, at_right, own_at, own_there, split}

-- the go cell of the same statement stands k + 1 places before place x
record GoBefore (list : List StatementCell) (x k : ℕ) (o : StatementCell) : Type 0 where
  place : ℕ
  is : x ≡ place + k + 1
  there : slice_get list place ≡ Some (cell_of o.incarnation o.statement Go)

abbrev AllGo : List StatementCell → Type 0
AllGo list = (x k : ℕ) (o : StatementCell) → slice_get list x ≡ Some o → o.kind ≡ Code k → GoBefore list x k o

abbrev code_in : CellKind → ℕ
code_in Go = 0
code_in (Code k) = k
code_in Status = 0

code_place : (t x k : ℕ) → kind_at t x ≡ Code k → x ≡ 0 + k + 1
code_place t zero k h = let e : Go ≡ Code k = h in cc
code_place t (suc m) k h = go (ltb m (t + 2)) h
  where
    go : (b : Bool) → cond b (Code m) Status ≡ Code k → suc m ≡ 0 + k + 1
    go true e = let f : m ≡ k = ap code_in e in omega arith
    go false e = let f : Status ≡ Code k = e in cc

own_go : (i n t own : ℕ) → AllGo (own_owners i n t own)
own_go i n t own x k o h e =
    let w = own_at i n t own x o h in
    let l = w.0 in
    subst (λ (z : StatementCell). GoBefore (own_owners i n t own) x k z) w.1
    (record {
      place = 0;
      is = code_place t x k (ap (λ (z : StatementCell). z.kind) w.1 ∙ e);
      there = own_there i n t own 0 (omega arith);
    })

none_go : AllGo []
none_go x k o h e = let f : None ≡ Some o = h in cc

joined_go : (a b : List StatementCell) → AllGo a → AllGo b → AllGo (a ++ b)
joined_go a b f g x k o h e = elim (split a b x o h) [
  | inl l ↦ let r = f x k o l e in record { place = r.place; is = r.is; there = at_left a b r.place _ r.there }
  | inr w ↦
      let r = g w.0 k o w.2 e in
      let y = w.1 in
      let z = r.is in
      record {
        place = length a + r.place;
        is = omega arith;
        there = at_right a b (length a + r.place) r.place _ refl r.there;
      }
]

again_go : (main : Bool) (a : List StatementCell) → AllGo a → AllGo (cond main a [])
again_go true a h = h
again_go false a h = none_go

all_go : (main : Bool) (s : Statement) (i n t : ℕ) → AllGo (owners_in main s i n t)
all_go main Nothing i n t = own_go i n t (t + 3)
all_go main (Pause k) i n t = own_go i n t (t + 3)
all_go main (Emit s) i n t = own_go i n t (t + 3)
all_go main (Exit k) i n t = own_go i n t (t + 3)
all_go main (Present' s a p b q) i n t =
    joined_go _ _ (own_go i n t (t + 3))
    (joined_go _ _ (all_go main p i (n + 1) t) (all_go main q i (n + 1 + statements p) t))
all_go main (Suspend' s a p) i n t = joined_go _ _ (own_go i n t (t + 3)) (all_go main p i (n + 1) t)
all_go main (Seq' a p b q) i n t =
    joined_go _ _ (own_go i n t (t + 3))
    (joined_go _ _ (all_go main p i (n + 1) t) (all_go main q i (n + 1 + statements p) t))
all_go main (Loop' a p) i n t =
    joined_go _ _ (own_go i n t (t + 3))
    (joined_go _ _ (all_go main p (inside_loop main i) (n + 1) t) (again_go main _ (all_go false p 1 (n + 1) t)))
all_go main (Par' a p b q) i n t =
    joined_go _ _ (own_go i n t (t + 3))
    (joined_go _ _ (all_go main p i (n + 1) t) (all_go main q i (n + 1 + statements p) t))
all_go main (Trap' a p) i n t = joined_go _ _ (own_go i n t (t + 3)) (all_go main p i (n + 1) (t + 1))
all_go main (Binder' s a p) i n t = joined_go _ _ (own_go i n t (t + 4)) (all_go main p i (n + 1) t)

pub go_is_there : (main : Bool) (s : Statement) (i n t x k : ℕ) (o : StatementCell)
    → slice_get (owners_in main s i n t) x ≡ Some o → o.kind ≡ Code k
    → slice_get (owners_in main s i n t) (x - k - 1) ≡ Some (cell_of o.incarnation o.statement Go)
go_is_there main s i n t x k o h e =
    let r = all_go main s i n t x k o h e in
    let z = r.is in
    let back : r.place ≡ x - k - 1 = omega arith in
    subst (λ (y : ℕ). slice_get (owners_in main s i n t) y ≡ Some (cell_of o.incarnation o.statement Go)) back r.there
