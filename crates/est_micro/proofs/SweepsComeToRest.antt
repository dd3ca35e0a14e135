-- Where a sweep changes nothing, the gates decide nothing more.
use Rattle.std.specs.Prelude.{◌≡◌, ℕ, Bool, true, false, cond}
use Rattle.std.proofs.Common.{refl, inr, subst, ap, sym}
use Rattle.est_kernel.specs.View.{query_of, term_of}
use Rattle.est_kernel.specs.declared.statement.Statement.{Statement}
use Rattle.est_kernel.specs.declared.statement.Statement.TheVariants.{Nothing, Pause, Emit, Present', Suspend', Seq'}
use Rattle.est_kernel.specs.declared.statement.Statement.TheVariants.{Loop', Par', Trap', Exit, Local' as Binder'}
use Rattle.est_meaning.proofs.KnowledgeIsMonotone.{and_below, opposite_below, query_below, local_below}
use Rattle.est_meaning.specs.Knowledge.{IsBelow, KnowsLess}
use Rattle.est_meaning.specs.Signals.{Signals, no_signals}
use Rattle.est_meaning.specs.States.{is_live, term_at}
use Rattle.est_meaning.specs.Environments.{Env, opposite, and_status, status_of, with_local}
use Rattle.est_meaning.specs.declared.status.Status.{Status}
use Rattle.est_meaning.specs.declared.status.Status.TheVariants.{Absent}
use Rattle.est_cells.proofs.Order.{ends_below}
use Rattle.est_cells.proofs.Sound.{sound, live_sound, local_sound, live_local_sound}
use Rattle.est_cells.specs.Gates.{ends, emitted_status, gates, live_gates}
use Rattle.est_cells.specs.Meaning.{cells_at, status_at, begun, resumed}
use Rattle.est_cells.specs.Tables.{Again, Parts, Sheet, PartsBelow, Below, AgainBelow, emits, is_sure, make_again}
use Rattle.est_cells.specs.Tables.{Two, map_again, of_again}
use Rattle.est_net.specs.Cells.{learned}
use Rattle.est_micro.specs.Inner.Hearing.{Seen}
use Rattle.est_micro.specs.Sweeps.{entered, sweep_by, sure_told, may_told, swept_parts, swept, live_sweep_by}
use Rattle.est_micro.specs.Sweeps.{live_swept_parts, live_swept, one_way, told}
use Rattle.est_micro.specs.declared.direction.Direction.{Direction}
use Rattle.est_micro.specs.declared.direction.Direction.TheVariants.{Forwards, Backwards}
use Rattle.est_micro.proofs.Hearing.{seen_left, seen_local, seen_right, status_seen, told_same}
use Rattle.est_micro.proofs.Told.{told_quiet, nothing_learnt, same_node}

-- the gate of a statement's own go cell
gate_go : (main : Bool) (s : Statement) (g : Status) (e : Env) (T : Sheet main s) → (gates main s g e T).cells.go ≡ g
gate_go main Nothing g e T = refl
gate_go main (Pause n) g e T = refl
gate_go main (Emit s) g e T = refl
gate_go main (Exit k) g e T = refl
gate_go main (Present' t a p b q) g e T = refl
gate_go main (Suspend' t a p) g e T = refl
gate_go main (Seq' a p b q) g e T = refl
gate_go main (Loop' a p) g e T = refl
gate_go main (Par' a p b q) g e T = refl
gate_go main (Trap' a p) g e T = refl
gate_go main (Binder' s a p) g e T = refl

live_gate_go : (s : Statement) (bits : ℕ → Bool) (r : Status) (e : Env) (T : Sheet true s)
    → (live_gates s bits r e T).cells.go ≡ Absent
live_gate_go Nothing bits r e T = refl
live_gate_go (Pause n) bits r e T = refl
live_gate_go (Emit s) bits r e T = refl
live_gate_go (Exit k) bits r e T = refl
live_gate_go (Present' t a p b q) bits r e T = refl
live_gate_go (Suspend' t a p) bits r e T = refl
live_gate_go (Seq' a p b q) bits r e T = refl
live_gate_go (Loop' a p) bits r e T = refl
live_gate_go (Par' a p b q) bits r e T = refl
live_gate_go (Trap' a p) bits r e T = refl
live_gate_go (Binder' s a p) bits r e T = refl

-- what is known of the parts at rest
abbrev PartsQuiet : (main : Bool) (s : Statement) → (Status → Parts main s → Parts main s) → Env → Status → Sheet main s
    → Type 0
PartsQuiet main s f l g T =
    f T.cells.go T.parts ≡ T.parts → PartsBelow main s (gates main s g l T).parts T.parts

sweep_quiet : (main : Bool) (s : Statement) (f : Status → Parts main s → Parts main s) (r g : Status) (e l : Env)
    (T : Sheet main s)
    → IsBelow g r → KnowsLess l e → Below main s T (begun main s r e) → sweep_by main s f l g T ≡ T
    → PartsQuiet main s f l g T → Below main s (gates main s g l T) T
sweep_quiet main s f r g e l T b k c q w =
    let h = learned T.cells.go g in
    let eh : h ≡ T.cells.go = ap (λ (z : Sheet main s). z.cells.go) q in
    let ep : f h T.parts ≡ T.parts = ap (λ (z : Sheet main s). z.parts) q in
    let U = entered h T (f h T.parts) in
    let eu : U ≡ T = same_node T h (f h T.parts) eh ep in
    let em =
    subst (λ (z : Sheet main s). sure_told z.cells.must z.cells.may (gates main s g l z).cells.must
    (gates main s g l z).cells.may ≡ T.cells.must) eu
    (ap (λ (z : Sheet main s). z.cells.must) q) in
    let en =
    subst (λ (z : Sheet main s). may_told z.cells.must z.cells.may (gates main s g l z).cells.must
    (gates main s g l z).cells.may ≡ T.cells.may) eu
    (ap (λ (z : Sheet main s). z.cells.may) q) in
    let d = subst (λ (z : Status). IsBelow z T.cells.go) (sym (gate_go main s g l T))
    (nothing_learnt T.cells.go g r c.cells.go b eh) in
    record {
      cells = told_quiet T.cells (gates main s g l T).cells (begun main s r e).cells d em en c.cells
          (sound main s r g e l T b k c).cells;
      parts = w (subst (λ (z : Status). f z T.parts ≡ T.parts) eh ep);
    }

again_quiet : {A : Type 0} (main : Bool) (R : A → A → Type 0) (b : A) (f g : A → A) (y : Again main A) (E : A → Signals)
    (l : Env) → Seen (of_again main no_signals E y) l
    → AgainBelow main R y (make_again main b) → map_again main f y ≡ y
    → ((x : A) → Seen (E x) l → R x b → f x ≡ x → R (g x) x)
    → AgainBelow main R (map_again main g y) y
again_quiet true R b f g y E l z c e h = h y z c e
again_quiet false R b f g y E l z c e h = tt

-- of two sides at rest, each is at rest by what is known of the signals, whichever was swept first
record SidesQuiet {A B : Type 0} (F : Env → A → A) (G : Env → B → B) (l : Env) (x : A) (y : B) : Type 0 where
  first : F l x ≡ x
  second : G l y ≡ y

sides_quiet : {A B : Type 0} (way : Direction) (F : Env → A → A) (G : Env → B → B) (D : A → Signals) (E : B → Signals)
    (l : Env) (x : A) (y : B)
    → Seen (D x) l → Seen (E y) l
    → ◌≡◌ {A = Two A B}
    (one_way way (record { first = F l x; second = G (told l (D (F l x))) y })
    (record { first = F (told l (E (G l y))) x; second = G l y }))
    (record { first = x; second = y })
    → SidesQuiet F G l x y
sides_quiet Forwards F G D E l x y i j q =
    let one = ap (λ z. z.first) q in
    record {
      first = one;
      second = subst (λ (m : Env). G m y ≡ y) (told_same l (D x) i)
          (subst (λ u. G (told l (D u)) y ≡ y) one (ap (λ z. z.second) q));
    }
sides_quiet Backwards F G D E l x y i j q =
    let two = ap (λ z. z.second) q in
    record {
      first = subst (λ (m : Env). F m x ≡ x) (told_same l (E y) j)
          (subst (λ u. F (told l (E u)) x ≡ x) two (ap (λ z. z.first) q));
      second = two;
    }

-- the parts of a statement that is begun, if at all
parts_quiet : (way : Direction) (main : Bool) (s : Statement) (r g : Status) (e l : Env) (T : Sheet main s)
    → KnowsLess l e
    → Seen (emits is_sure main s T) l
    → Below main s T (begun main s r e) → PartsQuiet main s (swept_parts way main s l) l g T
parts_quiet way main Nothing r g e l T k z c q = tt
parts_quiet way main (Pause n) r g e l T k z c q = tt
parts_quiet way main (Emit s) r g e l T k z c q = tt
parts_quiet way main (Exit n) r g e l T k z c q = tt
parts_quiet way main (Present' t a p d y) r g e l T k z c q =
    let v = status_of e (query_of t) in
    let w = status_of l (query_of t) in
    let h = T.cells.go in
    let i : IsBelow w v = query_below l e (query_of t) k in
    record {
      first = sweep_quiet main p (swept_parts way main p l) (and_status r v) (and_status h w) e l T.parts.first
          (and_below h r w v c.cells.go i) k c.parts.first (ap (λ x. x.first) q)
          (λ f. parts_quiet way main p (and_status r v) (and_status h w) e l T.parts.first k (seen_left _ _ l z)
          c.parts.first f);
      second = sweep_quiet main y (swept_parts way main y l) (and_status r (opposite v))
          (and_status h (opposite w)) e l T.parts.second
          (and_below h r (opposite w) (opposite v) c.cells.go (opposite_below w v i)) k c.parts.second
          (ap (λ x. x.second) q)
          (λ f. parts_quiet way main y (and_status r (opposite v))
          (and_status h (opposite w)) e l T.parts.second k (seen_right _ _ l z) c.parts.second f);
    }
parts_quiet way main (Suspend' t a p) r g e l T k z c q =
    sweep_quiet main p (swept_parts way main p l) r T.cells.go e l T.parts c.cells.go k c.parts q
    (λ f. parts_quiet way main p r T.cells.go e l T.parts k z c.parts f)
parts_quiet way main (Seq' a p d y) r g e l T k z c q =
    let h = T.cells.go in
    let x = T.parts in
    let later = ends (cells_at r r (term_of p) e) in
    let left = seen_left _ _ l z in
    let one : sweep_by main p (swept_parts way main p l) l h x.first ≡ x.first = ap (λ x. x.first) q in
    let same = told_same l (emits is_sure main p x.first) left in
    let two = subst (λ (m : Env). sweep_by main y (swept_parts way main y m) m (ends x.first.cells) x.second ≡ x.second)
    same
    (subst (λ (u : Sheet main p). sweep_by main y (swept_parts way main y (told l (emits is_sure main p u)))
    (told l (emits is_sure main p u)) (ends u.cells) x.second ≡ x.second)
    one
    (ap (λ x. x.second) q)) in
    record {
      first = sweep_quiet main p (swept_parts way main p l) r h e l x.first c.cells.go k c.parts.first one
          (λ f. parts_quiet way main p r h e l x.first k left c.parts.first f);
      second = sweep_quiet main y (swept_parts way main y l) later (ends x.first.cells) e l x.second
          (ends_below _ _ c.parts.first.cells) k
          c.parts.second two (λ f. parts_quiet way main y later (ends x.first.cells) e l x.second k (seen_right _ _ l z)
          c.parts.second f);
    }
parts_quiet way main (Loop' a p) r g e l T k z c q =
    let h = T.cells.go in
    record {
      first = sweep_quiet main p (swept_parts way main p l) r h e l T.parts.first c.cells.go k c.parts.first
          (ap (λ x. x.first) q)
          (λ f. parts_quiet way main p r h e l T.parts.first k (seen_left _ _ l z) c.parts.first f);
      second = again_quiet main (Below false p) (begun false p Absent e)
          (sweep_by false p (swept_parts way false p l) l Absent)
          (gates false p Absent l) T.parts.second (emits is_sure false p) l (seen_right _ _ l z)
          c.parts.second (ap (λ x. x.second) q)
          (λ y n d f. sweep_quiet false p (swept_parts way false p l) Absent Absent e l y (inr refl) k d f
          (λ i. parts_quiet way false p Absent Absent e l y k n d i));
    }
parts_quiet way main (Par' a p d y) r g e l T k z c q =
    let h = T.cells.go in
    let x = T.parts in
    let left = seen_left _ _ l z in
    let right = seen_right _ _ l z in
    let sides = sides_quiet way (λ m u. sweep_by main p (swept_parts way main p m) m h u)
    (λ m u. sweep_by main y (swept_parts way main y m) m h u) (emits is_sure main p) (emits is_sure main y) l
    x.first x.second left right q in
    record {
      first = sweep_quiet main p (swept_parts way main p l) r h e l x.first c.cells.go k c.parts.first sides.first
          (λ f. parts_quiet way main p r h e l x.first k left c.parts.first f);
      second = sweep_quiet main y (swept_parts way main y l) r h e l x.second c.cells.go k c.parts.second sides.second
          (λ f. parts_quiet way main y r h e l x.second k right c.parts.second f);
    }
parts_quiet way main (Trap' a p) r g e l T k z c q =
    sweep_quiet main p (swept_parts way main p l) r T.cells.go e l T.parts c.cells.go k c.parts q
    (λ f. parts_quiet way main p r T.cells.go e l T.parts k z c.parts f)
parts_quiet way main (Binder' s a p) r g e l T k z c q =
    let h = T.cells.go in
    let x = T.parts in
    let v = status_at r s.index (term_of p) e in
    let f = with_local l s.index x.status in
    let m = local_below l e s.index x.status v k c.parts.status in
    let one : sweep_by main p (swept_parts way main p f) f h x.body ≡ x.body = ap (λ x. x.body) q in
    let two = subst (λ (u : Sheet main p). learned x.status (emitted_status main p s.index u) ≡ x.status) one
    (ap (λ x. x.status) q) in
    let inside = seen_local s.index x.status l _ (status_seen main p s.index x.status x.body two) z in
    record {
      status = nothing_learnt x.status (emitted_status main p s.index x.body) v c.parts.status
          (local_sound main p s.index r e x.body c.parts.body) two;
      body = sweep_quiet main p (swept_parts way main p f) r h
          (with_local e s.index v) f x.body c.cells.go m c.parts.body one
          (λ i. parts_quiet way main p r h (with_local e s.index v) f x.body m inside c.parts.body i);
    }

-- a statement that is begun, if at all
pub swept_quiet : (way : Direction) (main : Bool) (s : Statement) (r g : Status) (e l : Env) (T : Sheet main s)
    → IsBelow g r
    → KnowsLess l e → Seen (emits is_sure main s T) l
    → Below main s T (begun main s r e) → swept way main s l g T ≡ T → Below main s (gates main s g l T) T
swept_quiet way main s r g e l T b k z c q =
    sweep_quiet main s (swept_parts way main s l) r g e l T b k c q (λ f. parts_quiet way main s r g e l T k z c f)

abbrev LivePartsQuiet : (s : Statement) → (Status → Parts true s → Parts true s) → (ℕ → Bool) → Env → Status
    → Sheet true s → Type 0
LivePartsQuiet s f bits l g T =
    f T.cells.go T.parts ≡ T.parts → PartsBelow true s (live_gates s bits g l T).parts T.parts

live_sweep_quiet : (s : Statement) (f : Status → Parts true s → Parts true s) (bits : ℕ → Bool) (r g : Status)
    (e l : Env)
    (T : Sheet true s) → IsBelow g r → KnowsLess l e → Below true s T (resumed s bits r e)
    → live_sweep_by s f bits g l T ≡ T
    → LivePartsQuiet s f bits l g T → Below true s (live_gates s bits g l T) T
live_sweep_quiet s f bits r g e l T b k c q w =
    let h = learned T.cells.go Absent in
    let eh : h ≡ T.cells.go = ap (λ (z : Sheet true s). z.cells.go) q in
    let ep : f h T.parts ≡ T.parts = ap (λ (z : Sheet true s). z.parts) q in
    let U = entered h T (f h T.parts) in
    let eu : U ≡ T = same_node T h (f h T.parts) eh ep in
    let em =
    subst (λ (z : Sheet true s). sure_told z.cells.must z.cells.may (live_gates s bits g l z).cells.must
    (live_gates s bits g l z).cells.may ≡ T.cells.must) eu
    (ap (λ (z : Sheet true s). z.cells.must) q) in
    let en =
    subst (λ (z : Sheet true s). may_told z.cells.must z.cells.may (live_gates s bits g l z).cells.must
    (live_gates s bits g l z).cells.may ≡ T.cells.may) eu
    (ap (λ (z : Sheet true s). z.cells.may) q) in
    let d = subst (λ (z : Status). IsBelow z T.cells.go) (sym (live_gate_go s bits g l T))
    (nothing_learnt T.cells.go Absent Absent c.cells.go (inr refl) eh) in
    record {
      cells = told_quiet T.cells (live_gates s bits g l T).cells (resumed s bits r e).cells d em en c.cells
          (live_sound s bits r g e l T b k c).cells;
      parts = w (subst (λ (z : Status). f z T.parts ≡ T.parts) eh ep);
    }

-- of a choice by whether a side is live
chosen_quiet : (b : Bool) (p : Statement) (F H G I X Y T : Sheet true p)
    → (Below true p T X → F ≡ T → Below true p G T) → (Below true p T Y → H ≡ T → Below true p I T)
    → Below true p T (cond b X Y) → cond b F H ≡ T → Below true p (cond b G I) T
chosen_quiet true p F H G I X Y T f g c e = f c e
chosen_quiet false p F H G I X Y T f g c e = g c e

-- of a second part that is begun where a first that is live ends
second_quiet : (way : Direction) (d : Bool) (p q : Statement) (bits : ℕ
    → Bool) (r : Status) (e l : Env) (x : Sheet true p)
    (W G T : Sheet true q)
    → KnowsLess l e → Seen (emits is_sure true q T) l
    → (Below true q T (resumed q bits r e) → W ≡ T → Below true q G T)
    → Below true p x (cond d (resumed p bits r e) (begun true p Absent e))
    → Below true q T (cond d (begun true q (ends (cells_at Absent r (term_at p bits) e)) e) (resumed q bits r e))
    → cond d (swept way true q l (ends x.cells) T) W ≡ T
    → Below true q (cond d (gates true q (ends x.cells) l T) G) T
second_quiet way true p q bits r e l x W G T k z f y c h =
    swept_quiet way true q (ends (cells_at Absent r (term_at p bits) e)) (ends x.cells) e l T
    (ends_below _ _ y.cells) k z c
    h
second_quiet way false p q bits r e l x W G T k z f y c h = f c h

-- the parts of a statement that goes on from its pauses
live_parts_quiet : (way : Direction) (s : Statement) (bits : ℕ → Bool) (r g : Status) (e l : Env) (T : Sheet true s)
    → IsBelow g r
    → KnowsLess l e → Seen (emits is_sure true s T) l
    → Below true s T (resumed s bits r e) → LivePartsQuiet s (live_swept_parts way s bits g l) bits l g T
live_parts_quiet way Nothing bits r g e l T b k z c q = tt
live_parts_quiet way (Pause n) bits r g e l T b k z c q = tt
live_parts_quiet way (Emit s) bits r g e l T b k z c q = tt
live_parts_quiet way (Exit n) bits r g e l T b k z c q = tt
live_parts_quiet way (Present' t a p o y) bits r g e l T b k z c q =
    let v = status_of e (query_of t) in
    let w = status_of l (query_of t) in
    let h = T.cells.go in
    let i : IsBelow w v = query_below l e (query_of t) k in
    let left = seen_left _ _ l z in
    let right = seen_right _ _ l z in
    record {
      first = chosen_quiet (is_live p bits) p _ _ _ _ (resumed p bits r e) (begun true p Absent e) T.parts.first
          (λ d f. live_sweep_quiet p (live_swept_parts way p bits g l) bits r g e l T.parts.first b k d f
          (λ j. live_parts_quiet way p bits r g e l T.parts.first b k left d j))
          (λ d f. swept_quiet way true p Absent (and_status h w) e l T.parts.first
          (and_below h Absent w v c.cells.go i) k left d f)
          c.parts.first (ap (λ x. x.first) q);
      second = chosen_quiet (is_live p bits) y _ _ _ _ (begun true y Absent e) (resumed y bits r e) T.parts.second
          (λ d f. swept_quiet way true y Absent (and_status h (opposite w)) e l T.parts.second
          (and_below h Absent (opposite w) (opposite v) c.cells.go (opposite_below w v i)) k right d f)
          (λ d f. live_sweep_quiet y (live_swept_parts way y bits g l) bits r g e l T.parts.second b k d f
          (λ j. live_parts_quiet way y bits r g e l T.parts.second b k right d j))
          c.parts.second (ap (λ x. x.second) q);
    }
live_parts_quiet way (Suspend' t a p) bits r g e l T b k z c q =
    let v = status_of e (query_of t) in
    let w = status_of l (query_of t) in
    let i = and_below g r (opposite w) (opposite v) b (opposite_below w v (query_below l e (query_of t) k)) in
    live_sweep_quiet p (live_swept_parts way p bits (and_status g (opposite w)) l) bits (and_status r (opposite v))
    (and_status g (opposite w)) e l T.parts i k c.parts q
    (λ j. live_parts_quiet way p bits (and_status r (opposite v)) (and_status g
    (opposite w)) e l T.parts i k z c.parts j)
live_parts_quiet way (Seq' a p o y) bits r g e l T b k z c q =
    let h = T.cells.go in
    let x = T.parts in
    let left = seen_left _ _ l z in
    let right = seen_right _ _ l z in
    let one = ap (λ x. x.first) q in
    let same = told_same l (emits is_sure true p x.first) left in
    let two = subst (λ (m : Env). cond (is_live p bits) (swept way true y m (ends x.first.cells) x.second)
    (live_sweep_by y (live_swept_parts way y bits g m) bits g m x.second) ≡ x.second) same
    (subst (λ (u : Sheet true p). cond (is_live p bits)
    (swept way true y (told l (emits is_sure true p u)) (ends u.cells) x.second)
    (live_sweep_by y (live_swept_parts way y bits g (told l (emits is_sure true p u))) bits g
    (told l (emits is_sure true p u)) x.second) ≡ x.second) one (ap (λ x. x.second) q)) in
    record {
      first = chosen_quiet (is_live p bits) p _ _ _ _ (resumed p bits r e) (begun true p Absent e) x.first
          (λ d f. live_sweep_quiet p (live_swept_parts way p bits g l) bits r g e l x.first b k d f
          (λ j. live_parts_quiet way p bits r g e l x.first b k left d j))
          (λ d f. swept_quiet way true p Absent h e l x.first c.cells.go k left d f)
          c.parts.first one;
      second = second_quiet way (is_live p bits) p y bits r e l x.first _ _ x.second k right
          (λ d f. live_sweep_quiet y (live_swept_parts way y bits g l) bits r g e l x.second b k d f
          (λ j. live_parts_quiet way y bits r g e l x.second b k right d j)) c.parts.first c.parts.second two;
    }
live_parts_quiet way (Loop' a p) bits r g e l T b k z c q =
    let x = T.parts in
    let left = seen_left _ _ l z in
    let right = seen_right _ _ l z in
    let one : live_sweep_by p (live_swept_parts way p bits g l) bits g l x.first ≡ x.first = ap (λ x. x.first) q in
    let same = told_same l (emits is_sure true p x.first) left in
    let two = subst (λ (m : Env). swept way false p m (ends x.first.cells) x.second ≡ x.second) same
    (subst (λ (u : Sheet true p). swept way false p (told l (emits is_sure true p u))
    (ends u.cells) x.second ≡ x.second)
    one (ap (λ x. x.second) q)) in
    record {
      first = live_sweep_quiet p (live_swept_parts way p bits g l) bits r g e l x.first b k c.parts.first one
          (λ j. live_parts_quiet way p bits r g e l x.first b k left c.parts.first j);
      second = swept_quiet way false p (ends (cells_at Absent r (term_at p bits) e)) (ends x.first.cells) e l x.second
          (ends_below _ _ c.parts.first.cells) k right c.parts.second two;
    }
live_parts_quiet way (Par' a p o y) bits r g e l T b k z c q =
    let h = T.cells.go in
    let x = T.parts in
    let left = seen_left _ _ l z in
    let right = seen_right _ _ l z in
    let sides = sides_quiet way
    (λ m u. cond (is_live p bits) (live_sweep_by p (live_swept_parts way p bits g m) bits g m u)
    (sweep_by true p (swept_parts way true p m) m h u))
    (λ m u. cond (is_live y bits) (live_sweep_by y (live_swept_parts way y bits g m) bits g m u)
    (sweep_by true y (swept_parts way true y m) m h u)) (emits is_sure true p) (emits is_sure true y) l
    x.first x.second left right q in
    record {
      first = chosen_quiet (is_live p bits) p _ _ _ _ (resumed p bits r e) (begun true p Absent e) x.first
          (λ d f. live_sweep_quiet p (live_swept_parts way p bits g l) bits r g e l x.first b k d f
          (λ j. live_parts_quiet way p bits r g e l x.first b k left d j))
          (λ d f. swept_quiet way true p Absent h e l x.first c.cells.go k left d f)
          c.parts.first sides.first;
      second = chosen_quiet (is_live y bits) y _ _ _ _ (resumed y bits r e) (begun true y Absent e) x.second
          (λ d f. live_sweep_quiet y (live_swept_parts way y bits g l) bits r g e l x.second b k d f
          (λ j. live_parts_quiet way y bits r g e l x.second b k right d j))
          (λ d f. swept_quiet way true y Absent h e l x.second c.cells.go k right d f)
          c.parts.second sides.second;
    }
live_parts_quiet way (Trap' a p) bits r g e l T b k z c q =
    live_sweep_quiet p (live_swept_parts way p bits g l) bits r g e l T.parts b k c.parts q
    (λ j. live_parts_quiet way p bits r g e l T.parts b k z c.parts j)
live_parts_quiet way (Binder' s a p) bits r g e l T b k z c q =
    let x = T.parts in
    let v = status_at r s.index (term_at p bits) e in
    let f = with_local l s.index x.status in
    let m = local_below l e s.index x.status v k c.parts.status in
    let one : live_sweep_by p (live_swept_parts way p bits g f) bits g f x.body ≡ x.body = ap (λ x. x.body) q in
    let two = subst (λ (u : Sheet true p). learned x.status (emitted_status true p s.index u) ≡ x.status) one
    (ap (λ x. x.status) q) in
    let inside = seen_local s.index x.status l _ (status_seen true p s.index x.status x.body two) z in
    record {
      status = nothing_learnt x.status (emitted_status true p s.index x.body) v c.parts.status
          (live_local_sound p bits s.index r e x.body c.parts.body) two;
      body = live_sweep_quiet p (live_swept_parts way p bits g f) bits r g
          (with_local e s.index v) f x.body b m c.parts.body one
          (λ i. live_parts_quiet way p bits r g (with_local e s.index v) f x.body b m inside c.parts.body i);
    }

-- a statement that goes on from its pauses
pub live_swept_quiet : (way : Direction) (s : Statement) (bits : ℕ
    → Bool) (r g : Status) (e l : Env) (T : Sheet true s) → IsBelow g r
    → KnowsLess l e → Seen (emits is_sure true s T) l → Below true s T (resumed s bits r e)
    → live_swept way s bits g l T ≡ T
    → Below true s (live_gates s bits g l T) T
live_swept_quiet way s bits r g e l T b k z c q =
    live_sweep_quiet s (live_swept_parts way s bits g l) bits r g e l T b k c q
    (λ f. live_parts_quiet way s bits r g e l T b k z c f)
