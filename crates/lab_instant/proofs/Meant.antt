-- Where two tables decide the same, each owner has the same cell in both.
use Rattle.std.specs.Prelude.{◌≡◌, ◌+◌, ℕ, Bool, true, false, cond, ltb, nat_eq, List, slice_get, Some}
use Rattle.std.proofs.Common.{refl, sym, ap, ◌∙◌, inl, inr}
use Rattle.est_kernel.specs.declared.kernel.Kernel.{Kernel}
use Rattle.est_kernel.specs.declared.state.State.{State}
use Rattle.est_kernel.specs.declared.statement.Statement.{Statement}
use Rattle.est_kernel.specs.declared.statement.Statement.TheVariants.{Nothing, Pause, Emit, Present', Suspend', Seq'}
use Rattle.est_kernel.specs.declared.statement.Statement.TheVariants.{Loop', Par', Trap', Exit, Local' as Binder'}
use Rattle.est_meaning.specs.Environments.{verdict}
use Rattle.est_meaning.specs.Knowledge.{IsBelow}
use Rattle.est_meaning.specs.Rounds.{judged_signals}
use Rattle.est_meaning.specs.declared.status.Status.{Status}
use Rattle.est_meaning.specs.declared.status.Status.TheVariants.{Unknown}
use Rattle.est_cells.specs.Tables.{Below, Cells, CellsBelow, Sheet}
use Rattle.est_cells.specs.Whole.{table_meaning}
use Rattle.est_cells.proofs.NextState.{same_bool}
use Rattle.est_net.specs.Cells.{cell_at}
use Rattle.est_net.specs.Owners.{owners, statements}
use Rattle.est_net.specs.OwnerValues.{own_value, value_at, value_in}
use Rattle.est_net.specs.Parts.{part_at}
use Rattle.est_net.specs.declared.owners.CellKind.{CellKind}
use Rattle.est_net.specs.declared.owners.CellKind.TheVariants.{Go, Code, Status as OfSignal}
use Rattle.est_net.specs.declared.owners.StatementCell.{StatementCell}
use Rattle.est_net.specs.Laws.{OwnersAreRead}
use Rattle.est_micro.specs.Engine.{IsAsMeant}
use Rattle.est_net.specs.declared.owners.Owner.TheVariants as owner

both_below : (v w : Status) → IsBelow v w → IsBelow w v → v ≡ w
both_below v w (inr e) h = e
both_below v w (inl e) (inr f) = sym f
both_below v w (inl e) (inl f) = e ∙ sym f

own_same : (c d : Cells) (v w : Status) → CellsBelow c d → CellsBelow d c → v ≡ w → (kind : CellKind)
    → own_value c v kind ≡ own_value d w kind
own_same c d v w x y e Go = both_below c.go d.go x.go y.go
own_same c d v w x y e (Code k) =
    ap (λ (z : Bool). verdict z (c.may k)) (same_bool (c.must k) (d.must k) (x.must k) (y.must k))
    ∙ ap (λ (z : Bool). verdict (d.must k) z) (same_bool (c.may k) (d.may k) (y.may k) (x.may k))
own_same c d v w x y e OfSignal = e

pick : (b : Bool) (u v x y : Status) → u ≡ x → v ≡ y → cond b u v ≡ cond b x y
pick true u v x y e f = e
pick false u v x y e f = f

-- in two sheets that decide the same
pub same_in : (main : Bool) (s : Statement) (n : ℕ) (a b : Sheet main s) (o : StatementCell)
    → Below main s a b → Below main s b a → value_in main s n a o ≡ value_in main s n b o
same_in main Nothing n a b o x y = own_same a.cells b.cells Unknown Unknown x.cells y.cells refl o.kind
same_in main (Pause k) n a b o x y = own_same a.cells b.cells Unknown Unknown x.cells y.cells refl o.kind
same_in main (Emit m) n a b o x y = own_same a.cells b.cells Unknown Unknown x.cells y.cells refl o.kind
same_in main (Exit k) n a b o x y = own_same a.cells b.cells Unknown Unknown x.cells y.cells refl o.kind
same_in main (Present' t c p d q) n a b o x y =
    pick (nat_eq o.statement n) _ _ _ _ (own_same a.cells b.cells Unknown Unknown x.cells y.cells refl o.kind)
    (pick (ltb o.statement (n + 1 + statements p)) _ _ _ _
    (same_in main p (n + 1) a.parts.first b.parts.first o x.parts.first y.parts.first)
    (same_in main q (n + 1 + statements p) a.parts.second b.parts.second o x.parts.second y.parts.second))
same_in main (Suspend' t c p) n a b o x y =
    pick (nat_eq o.statement n) _ _ _ _ (own_same a.cells b.cells Unknown Unknown x.cells y.cells refl o.kind)
    (same_in main p (n + 1) a.parts b.parts o x.parts y.parts)
same_in main (Seq' c p d q) n a b o x y =
    pick (nat_eq o.statement n) _ _ _ _ (own_same a.cells b.cells Unknown Unknown x.cells y.cells refl o.kind)
    (pick (ltb o.statement (n + 1 + statements p)) _ _ _ _
    (same_in main p (n + 1) a.parts.first b.parts.first o x.parts.first y.parts.first)
    (same_in main q (n + 1 + statements p) a.parts.second b.parts.second o x.parts.second y.parts.second))
same_in true (Loop' c p) n a b o x y =
    pick (nat_eq o.statement n) _ _ _ _ (own_same a.cells b.cells Unknown Unknown x.cells y.cells refl o.kind)
    (pick (nat_eq o.incarnation ((part_at p (n + 1) 0 0 o.statement).loops + 1)) _ _ _ _
    (same_in false p (n + 1) a.parts.second b.parts.second o x.parts.second y.parts.second)
    (same_in true p (n + 1) a.parts.first b.parts.first o x.parts.first y.parts.first))
same_in false (Loop' c p) n a b o x y =
    pick (nat_eq o.statement n) _ _ _ _ (own_same a.cells b.cells Unknown Unknown x.cells y.cells refl o.kind)
    (same_in false p (n + 1) a.parts.first b.parts.first o x.parts.first y.parts.first)
same_in main (Par' c p d q) n a b o x y =
    pick (nat_eq o.statement n) _ _ _ _ (own_same a.cells b.cells Unknown Unknown x.cells y.cells refl o.kind)
    (pick (ltb o.statement (n + 1 + statements p)) _ _ _ _
    (same_in main p (n + 1) a.parts.first b.parts.first o x.parts.first y.parts.first)
    (same_in main q (n + 1 + statements p) a.parts.second b.parts.second o x.parts.second y.parts.second))
same_in main (Trap' c p) n a b o x y =
    pick (nat_eq o.statement n) _ _ _ _ (own_same a.cells b.cells Unknown Unknown x.cells y.cells refl o.kind)
    (same_in main p (n + 1) a.parts b.parts o x.parts y.parts)
same_in main (Binder' m c p) n a b o x y =
    pick (nat_eq o.statement n) _ _ _ _
    (own_same a.cells b.cells a.parts.status b.parts.status x.cells y.cells
    (both_below a.parts.status b.parts.status x.parts.status y.parts.status) o.kind)
    (same_in main p (n + 1) a.parts.body b.parts.body o x.parts.body y.parts.body)

-- in a kernel's table
pub statement_is_meant : OwnersAreRead → (k : Kernel) (x : State) (inputs : ℕ → Bool) (cells : List Status)
    → IsAsMeant k x inputs cells → (place : ℕ) (o : StatementCell)
    → slice_get (owners k) place ≡ Some (owner.Statement o)
    → cell_at cells place ≡ value_at k.root (table_meaning (judged_signals k.interface inputs) inputs k.root x)
    (owner.Statement o)
statement_is_meant law k x inputs cells h place o e =
    sym (law.value k (cell_at cells) place (owner.Statement o) e)
    ∙ same_in true k.root 0 _ _ o h.sound.sheet h.whole.sheet

pub signal_is_meant : OwnersAreRead → (k : Kernel) (x : State) (inputs : ℕ → Bool) (cells : List Status)
    → IsAsMeant k x inputs cells → (place n : ℕ) → slice_get (owners k) place ≡ Some (owner.Signal n)
    → (judged_signals k.interface inputs).has n ≡ true
    → cell_at cells place ≡ value_at k.root (table_meaning (judged_signals k.interface inputs) inputs k.root x)
    (owner.Signal n)
signal_is_meant law k x inputs cells h place n e j =
    sym (law.value k (cell_at cells) place (owner.Signal n) e)
    ∙ both_below _ _ (h.sound.outputs n j) (h.whole.outputs n j)
