-- A pass over a part of a statement is one over the statement; passes follow one another; what a sweep of the
-- statement, or what its codes are told, is a pass too.
use Rattle.std.specs.Prelude.{◌≡◌, ◌≤◌, ◌+◌, ℕ, Bool, true, false, List}
use Rattle.std.proofs.Common.{refl, sym, arith, subst}
use Rattle.est_kernel.specs.View.{query_of, term_of}
use Rattle.est_kernel.specs.declared.statement.Statement.{Statement}
use Rattle.est_kernel.specs.declared.statement.Statement.TheVariants.{Present', Suspend', Seq'}
use Rattle.est_kernel.specs.declared.statement.Statement.TheVariants.{Loop', Par', Trap'}
use Rattle.est_meaning.proofs.KnowledgeIsMonotone.{and_below, opposite_below, query_below}
use Rattle.est_meaning.specs.Environments.{Env, and_status, opposite, status_of}
use Rattle.est_meaning.specs.Knowledge.{IsBelow, KnowsLess}
use Rattle.est_meaning.specs.declared.status.Status.{Status}
use Rattle.est_cells.proofs.Order.{ends_below}
use Rattle.est_cells.specs.Gates.{ends}
use Rattle.est_cells.specs.Meaning.{begun, begun_parts, cells_at}
use Rattle.est_cells.specs.Tables.{Below, PartsBelow, Sheet, emits, is_sure, sheet_size}
use Rattle.est_net.specs.Cells.{cell_at}
use Rattle.est_net.specs.Layout.{node_in, parts_in, sheet_in}
use Rattle.est_micro.specs.Inner.Hearing.{Heard}
use Rattle.est_micro.specs.Inner.Passes.{Keeps, Passes}
use Rattle.est_micro.specs.Sweeps.{swept}
use Rattle.est_micro.specs.Inner.Views.{Changes, IsSwept}
use Rattle.est_micro.specs.declared.cells.Swept.{Swept}
use Rattle.est_micro.specs.declared.direction.Direction.{Direction}
use Rattle.est_micro.proofs.BegunNodes.{nothing_changes, widen}
use Rattle.est_micro.proofs.Frames.{changes_then, node_same, sheet_same}
use Rattle.est_micro.proofs.Hearing.{heard_left, heard_right}
use Rattle.est_micro.proofs.SweepsAreSound.{swept_sound}

-- what changes nothing; one after another
pub keeps_nothing : (main : Bool) (s : Statement) (c t : ℕ) (Meant : Sheet main s → Type 0) (cells : List Status)
    → Keeps main s c t Meant cells cells
keeps_nothing main s c t Meant cells = record { changes = nothing_changes _ _ cells; sound = λ M m b. b }

pub keeps_then : (main : Bool) (s : Statement) (c t : ℕ) (Meant : Sheet main s → Type 0) (old mid new : List Status)
    → Keeps main s c t Meant old mid → Keeps main s c t Meant mid new → Keeps main s c t Meant old new
keeps_then main s c t Meant old mid new h k =
    let e = c + sheet_size main s t in
    record {
      changes = changes_then c e c e c e old mid new (omega arith) (omega arith) (omega arith) (omega arith) h.changes
          k.changes;
      sound = λ M m b. k.sound M m (h.sound M m b);
    }

-- a statement that is left alone
pub after_it : (main : Bool) (q : Statement) (e t lo hi : ℕ) (old new : List Status) (N : Sheet main q)
    → Changes lo hi old new → hi ≤ e → Below main q (sheet_in (cell_at old) main q e t) N
    → Below main q (sheet_in (cell_at new) main q e t) N
after_it main q e t lo hi old new N h l b = subst (λ (z : Sheet main q). Below main q z N)
    (sym (sheet_same (cell_at new) (cell_at old) main q e t (λ i k u. h.after i (omega arith)))) b

pub before_it : (main : Bool) (q : Statement) (e t lo hi : ℕ) (old new : List Status) (N : Sheet main q)
    → Changes lo hi old new → e + sheet_size main q t ≤ lo → Below main q (sheet_in (cell_at old) main q e t) N
    → Below main q (sheet_in (cell_at new) main q e t) N
before_it main q e t lo hi old new N h l b = subst (λ (z : Sheet main q). Below main q z N)
    (sym (sheet_same (cell_at new) (cell_at old) main q e t (λ i k u. h.before i (omega arith)))) b

-- what a pass keeps
pub passed : (main : Bool) (p : Statement) (d t : ℕ) (h : Status) (l : Env) (old new : List Status)
    → Passes main p d t h l old new → (r : Status) (e : Env) → IsBelow h r → KnowsLess l e
    → Heard (emits is_sure main p (begun main p r e)) e l
    → Below main p (sheet_in (cell_at old) main p d t) (begun main p r e)
    → Below main p (sheet_in (cell_at new) main p d t) (begun main p r e)
passed main p d t h l old new k r e i j u b =
    k.sound (begun main p r e) (record { reach = r; env = e; is = refl; below = i; less = j; heard = u }) b

-- where only parts change
pub parts_pass : (main : Bool) (s : Statement) (c t : ℕ) (g : Status) (l : Env) (old new : List Status) (lo hi : ℕ)
    → c + t + 3 ≤ lo → hi ≤ c + sheet_size main s t → Changes lo hi old new
    → ((r : Status) (e : Env) → IsBelow g r → KnowsLess l e → Heard (emits is_sure main s (begun main s r e)) e l
    → Below main s (sheet_in (cell_at old) main s c t) (begun main s r e)
    → PartsBelow main s (parts_in (cell_at new) main s c t) (begun_parts main s r e))
    → Passes main s c t g l old new
parts_pass main s c t g l old new lo hi x y h f =
    let P = parts_in (cell_at new) main s c t in
    let same : sheet_in (cell_at new) main s c t ≡ node_in (cell_at old) c t P
    = node_same (cell_at new) (cell_at old) c t P P (λ i k u. h.before i (omega arith)) refl in
    record {
      changes = widen lo c hi (c + sheet_size main s t) old new (omega arith) y h;
      sound = λ M m b.
          let N = begun main s m.reach m.env in
          let o = subst (λ (z : Sheet main s). Below main s (sheet_in (cell_at old) main s c t) z) m.is b in
          subst (λ (z : Sheet main s). Below main s (sheet_in (cell_at new) main s c t) z) (sym m.is)
          (subst (λ (z : Sheet main s). Below main s z N) (sym same)
          (record { cells = o.cells; parts = f m.reach m.env m.below m.less m.heard o }));
    }

-- the gate h of a part of a statement with the gate g, whose go cell says v: it says no more than g or v does
abbrev pub IsGate : (g h v : Status) → Type 0
IsGate g h v = (r : Status) → IsBelow g r → IsBelow v r → IsBelow h r

pub by_go : (g h v : Status) → h ≡ v → IsGate g h v
by_go g h v z r i j = subst (λ (x : Status). IsBelow x r) (sym z) j

-- the gates of the branches of a `present`, and of the body of a `suspend`
pub branch_below : (y : _) (g h r : Status) (l e : Env) → h ≡ and_status g (status_of l (query_of y)) → IsBelow g r
    → KnowsLess l e → IsBelow h (and_status r (status_of e (query_of y)))
branch_below y g h r l e z i j =
    subst (λ (x : Status). IsBelow x (and_status r (status_of e (query_of y)))) (sym z)
    (and_below g r (status_of l (query_of y)) (status_of e (query_of y)) i (query_below l e (query_of y) j))

pub other_below : (y : _) (g h r : Status) (l e : Env) → h ≡ and_status g (opposite (status_of l (query_of y)))
    → IsBelow g r → KnowsLess l e → IsBelow h (and_status r (opposite (status_of e (query_of y))))
other_below y g h r l e z i j =
    let v = status_of e (query_of y) in
    let w = status_of l (query_of y) in
    subst (λ (x : Status). IsBelow x (and_status r (opposite v))) (sym z)
    (and_below g r (opposite w) (opposite v) i (opposite_below w v (query_below l e (query_of y) j)))

pub par_first : (main : Bool) (a : _) (p : Statement) (b : _) (q : Statement) (c t : ℕ) (g h : Status) (l : Env)
    (old new : List Status) → IsGate g h (cell_at old c) → Passes main p (c + t + 3) t h l old new
    → Passes main (Par' a p b q) c t g l old new
par_first main a p b q c t g h l old new z k =
    parts_pass main (Par' a p b q) c t g l old new (c + t + 3) (c + t + 3 + sheet_size main p t) (omega arith)
    (omega arith) k.changes (λ r e i j u o. record {
      first = passed main p (c + t + 3) t h l old new k r e
          (z r i o.cells.go) j (heard_left _ _ e l u) o.parts.first;
      second = after_it main q (c + t + 3 + sheet_size main p t) t _ _ old new _ k.changes (omega arith)
          o.parts.second;
    })

pub par_second : (main : Bool) (a : _) (p : Statement) (b : _) (q : Statement) (c t : ℕ) (g h : Status) (l : Env)
    (old new : List Status) → IsGate g h (cell_at old c) → Passes main q (c + t + 3 + sheet_size main p t) t h l old new
    → Passes main (Par' a p b q) c t g l old new
par_second main a p b q c t g h l old new z k =
    let d = c + t + 3 + sheet_size main p t in
    parts_pass main (Par' a p b q) c t g l old new d (d + sheet_size main q t) (omega arith)
    (omega arith) k.changes (λ r e i j u o. record {
      first = before_it main p (c + t + 3) t _ _ old new _ k.changes (omega arith) o.parts.first;
      second = passed main q d t h l old new k r e
          (z r i o.cells.go) j (heard_right _ _ e l u) o.parts.second;
    })

pub seq_first : (main : Bool) (a : _) (p : Statement) (b : _) (q : Statement) (c t : ℕ) (g h : Status) (l : Env)
    (old new : List Status) → IsGate g h (cell_at old c) → Passes main p (c + t + 3) t h l old new
    → Passes main (Seq' a p b q) c t g l old new
seq_first main a p b q c t g h l old new z k =
    parts_pass main (Seq' a p b q) c t g l old new (c + t + 3) (c + t + 3 + sheet_size main p t) (omega arith)
    (omega arith) k.changes (λ r e i j u o. record {
      first = passed main p (c + t + 3) t h l old new k r e
          (z r i o.cells.go) j (heard_left _ _ e l u) o.parts.first;
      second = after_it main q (c + t + 3 + sheet_size main p t) t _ _ old new _ k.changes (omega arith)
          o.parts.second;
    })

pub seq_second : (main : Bool) (a : _) (p : Statement) (b : _) (q : Statement) (c t : ℕ) (g h : Status) (l : Env)
    (old new : List Status) → h ≡ ends (sheet_in (cell_at old) main p (c + t + 3) t).cells
    → Passes main q (c + t + 3 + sheet_size main p t) t h l old new → Passes main (Seq' a p b q) c t g l old new
seq_second main a p b q c t g h l old new z k =
    let d = c + t + 3 + sheet_size main p t in
    parts_pass main (Seq' a p b q) c t g l old new d (d + sheet_size main q t) (omega arith)
    (omega arith) k.changes (λ r e i j u o. record {
      first = before_it main p (c + t + 3) t _ _ old new _ k.changes (omega arith) o.parts.first;
      second = passed main q d t h l old new k (ends (cells_at r r (term_of p) e)) e
          (subst (λ (v : Status). IsBelow v (ends (cells_at r r (term_of p) e))) (sym z)
          (ends_below _ _ o.parts.first.cells)) j (heard_right _ _ e l u) o.parts.second;
    })

pub present_first : (main : Bool) (y a : _) (p : Statement) (b : _) (q : Statement) (c t : ℕ) (g h : Status) (l : Env)
    (old new : List Status) → h ≡ and_status g (status_of l (query_of y))
    → Passes main p (c + t + 3) t h l old new → Passes main (Present' y a p b q) c t g l old new
present_first main y a p b q c t g h l old new z k =
    parts_pass main (Present' y a p b q) c t g l old new (c + t + 3) (c + t + 3 + sheet_size main p t) (omega arith)
    (omega arith) k.changes (λ r e i j u o. record {
      first = passed main p (c + t + 3) t h l old new k (and_status r (status_of e (query_of y))) e
          (branch_below y g h r l e z i j) j (heard_left _ _ e l u) o.parts.first;
      second = after_it main q (c + t + 3 + sheet_size main p t) t _ _ old new _ k.changes (omega arith)
          o.parts.second;
    })

pub present_second : (main : Bool) (y a : _) (p : Statement) (b : _) (q : Statement) (c t : ℕ) (g h : Status)
    (l : Env) (old new : List Status) → h ≡ and_status g (opposite (status_of l (query_of y)))
    → Passes main q (c + t + 3 + sheet_size main p t) t h l old new
    → Passes main (Present' y a p b q) c t g l old new
present_second main y a p b q c t g h l old new z k =
    let d = c + t + 3 + sheet_size main p t in
    parts_pass main (Present' y a p b q) c t g l old new d (d + sheet_size main q t) (omega arith)
    (omega arith) k.changes (λ r e i j u o. record {
      first = before_it main p (c + t + 3) t _ _ old new _ k.changes (omega arith) o.parts.first;
      second = passed main q d t h l old new k (and_status r (opposite (status_of e (query_of y)))) e
          (other_below y g h r l e z i j) j (heard_right _ _ e l u) o.parts.second;
    })

pub suspend_body : (main : Bool) (y a : _) (p : Statement) (c t : ℕ) (g h : Status) (l : Env)
    (old new : List Status) → IsGate g h (cell_at old c) → Passes main p (c + t + 3) t h l old new
    → Passes main (Suspend' y a p) c t g l old new
suspend_body main y a p c t g h l old new z k =
    parts_pass main (Suspend' y a p) c t g l old new (c + t + 3) (c + t + 3 + sheet_size main p t) (omega arith)
    (omega arith) k.changes (λ r e i j u o. passed main p (c + t + 3) t h l old new k r e
    (z r i o.cells.go) j u o.parts)

pub trap_body : (main : Bool) (a : _) (p : Statement) (c t : ℕ) (g h : Status) (l : Env)
    (old new : List Status) → IsGate g h (cell_at old c) → Passes main p (c + t + 3) (t + 1) h l old new
    → Passes main (Trap' a p) c t g l old new
trap_body main a p c t g h l old new z k =
    parts_pass main (Trap' a p) c t g l old new (c + t + 3) (c + t + 3 + sheet_size main p (t + 1)) (omega arith)
    (omega arith) k.changes (λ r e i j u o. passed main p (c + t + 3) (t + 1) h l old new k r e
    (z r i o.cells.go) j u o.parts)

-- a sweep is a pass
pub sweep_passes : (way : Direction) (main : Bool) (s : Statement) (c t : ℕ) (g : Status) (l : Env)
    (old new : List Status) (r : Swept) → IsSwept main s c t (swept way main s l g) old new r
    → Passes main s c t g l old new
sweep_passes way main s c t g l old new r h = record {
  changes = h.changes;
  sound = λ M m b.
      let S = sheet_in (cell_at old) main s c t in
      let k = subst (λ (z : Sheet main s). Below main s S z) m.is b in
      subst (λ (z : Sheet main s). Below main s (sheet_in (cell_at new) main s c t) z) (sym m.is)
      (subst (λ (z : Sheet main s). Below main s z (begun main s m.reach m.env)) (sym h.sheet)
      (swept_sound way main s m.reach g m.env l S m.below m.less m.heard k));
}

pub loop_first : (main : Bool) (a : _) (p : Statement) (c t : ℕ) (g h : Status) (l : Env)
    (old new : List Status) → main ≡ true → IsGate g h (cell_at old c) → Passes main p (c + t + 3) t h l old new
    → Passes main (Loop' a p) c t g l old new
loop_first false a p c t g h l old new m z k = let x : false ≡ true = m in cc
loop_first true a p c t g h l old new m z k =
    parts_pass true (Loop' a p) c t g l old new (c + t + 3) (c + t + 3 + sheet_size true p t) (omega arith)
    (omega arith) k.changes (λ r e i j u o. record {
      first = passed true p (c + t + 3) t h l old new k r e
          (z r i o.cells.go) j (heard_left _ _ e l u) o.parts.first;
      second = after_it false p (c + t + 3 + sheet_size true p t) t _ _ old new _ k.changes (omega arith)
          o.parts.second;
    })

pub again_first : (main : Bool) (a : _) (p : Statement) (c t : ℕ) (g h : Status) (l : Env)
    (old new : List Status) → main ≡ false → IsGate g h (cell_at old c) → Passes main p (c + t + 3) t h l old new
    → Passes main (Loop' a p) c t g l old new
again_first true a p c t g h l old new m z k = let x : true ≡ false = m in cc
again_first false a p c t g h l old new m z k =
    parts_pass false (Loop' a p) c t g l old new (c + t + 3) (c + t + 3 + sheet_size false p t) (omega arith)
    (omega arith) k.changes (λ r e i j u o. record {
      first = passed false p (c + t + 3) t h l old new k r e
          (z r i o.cells.go) j (heard_left _ _ e l u) o.parts.first;
      second = tt;
    })
