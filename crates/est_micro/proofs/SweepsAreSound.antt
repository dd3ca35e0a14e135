-- What a sweep decides, the meaning decides so.
use Rattle.std.specs.Prelude.{ℕ, Bool, true, false, cond}
use Rattle.std.proofs.Common.{refl, inr}
use Rattle.est_kernel.specs.View.{query_of, term_of}
use Rattle.est_kernel.specs.declared.statement.Statement.{Statement}
use Rattle.est_kernel.specs.declared.statement.Statement.TheVariants.{Nothing, Pause, Emit, Present', Suspend', Seq'}
use Rattle.est_kernel.specs.declared.statement.Statement.TheVariants.{Loop', Par', Trap', Exit, Local' as Binder'}
use Rattle.est_meaning.proofs.KnowledgeIsMonotone.{and_below, opposite_below, query_below, local_below}
use Rattle.est_meaning.specs.Knowledge.{IsBelow, KnowsLess}
use Rattle.est_meaning.specs.States.{is_live, term_at}
use Rattle.est_meaning.specs.Environments.{Env, opposite, and_status, status_of, with_local}
use Rattle.est_meaning.specs.declared.status.Status.{Status}
use Rattle.est_meaning.specs.declared.status.Status.TheVariants.{Absent}
use Rattle.est_cells.proofs.Order.{emits_up, ends_below}
use Rattle.est_cells.proofs.Sound.{sound, live_sound, local_sound, live_local_sound, again_sound}
use Rattle.est_cells.specs.Gates.{ends, emitted_status, gates, live_gates}
use Rattle.est_cells.specs.Meaning.{cells_at, status_at, begun, begun_parts, resumed, resumed_parts}
use Rattle.est_cells.specs.Tables.{Parts, Sheet, PartsBelow, Below, emits, is_sure}
use Rattle.est_net.specs.Cells.{learned}
use Rattle.est_micro.specs.Inner.Hearing.{Heard}
use Rattle.est_micro.specs.Sweeps.{entered, sweep_by, swept_parts, swept, live_sweep_by, live_swept_parts, live_swept}
use Rattle.est_micro.specs.Sweeps.{told}
use Rattle.est_micro.specs.declared.direction.Direction.{Direction}
use Rattle.est_micro.proofs.Hearing.{heard_left, heard_right, heard_in, heard_local, idle_heard, told_heard, told_less}
use Rattle.est_micro.proofs.Hearing.{begun_local, resumed_local}
use Rattle.est_micro.proofs.Told.{either_way, learned_below, told_below}

-- what a sweep of the parts has to keep
abbrev PartsSound : (main : Bool) (s : Statement) → (Status → Parts main s → Parts main s) → Parts main s → Status → Env
    → Type 0
PartsSound main s f x r e = (h : Status) → IsBelow h r → PartsBelow main s (f h x) (begun_parts main s r e)

-- a statement that is begun, if at all, whose parts stay below what is meant
pub sweep_sound : (main : Bool) (s : Statement) (f : Status → Parts main s → Parts main s) (r g : Status) (e l : Env)
    (T : Sheet main s)
    → IsBelow g r → KnowsLess l e → Below main s T (begun main s r e) → PartsSound main s f T.parts r e
    → Below main s (sweep_by main s f l g T) (begun main s r e)
sweep_sound main s f r g e l T b k c w =
    let M = begun main s r e in
    let h = learned T.cells.go g in
    let d : IsBelow h r = learned_below T.cells.go g r c.cells.go b in
    let x = f h T.parts in
    let U = entered h T x in
    let p : PartsBelow main s x M.parts = w h d in
    let u : Below main s U M = record {
      cells = record { go = d; must = c.cells.must; may = c.cells.may; whole = c.cells.whole };
      parts = p;
    } in
    record {
      cells = told_below U.cells (gates main s g l U).cells M.cells h d u.cells (sound main s r g e l U b k u).cells;
      parts = p;
    }

-- the parts of a statement that is begun, if at all
pub parts_sound : (way : Direction) (main : Bool) (s : Statement) (r h : Status) (e l : Env) (x : Parts main s)
    → IsBelow h r
    → KnowsLess l e → Heard (emits is_sure main s (begun main s r e)) e l
    → PartsBelow main s x (begun_parts main s r e) → PartsBelow main s (swept_parts way main s l h x)
    (begun_parts main s r e)
parts_sound way main Nothing r h e l x b k u c = tt
parts_sound way main (Pause n) r h e l x b k u c = tt
parts_sound way main (Emit s) r h e l x b k u c = tt
parts_sound way main (Exit n) r h e l x b k u c = tt
parts_sound way main (Present' t a p z q) r h e l x b k u c =
    let v = status_of e (query_of t) in
    let w = status_of l (query_of t) in
    let i : IsBelow w v = query_below l e (query_of t) k in
    let left = heard_left _ _ e l u in
    let right = heard_right _ _ e l u in
    record {
      first = sweep_sound main p (swept_parts way main p l) (and_status r v) (and_status h w) e l x.first
          (and_below h r w v b i) k c.first
          (λ g d. parts_sound way main p (and_status r v) g e l x.first.parts d k left c.first.parts);
      second = sweep_sound main q (swept_parts way main q l) (and_status r (opposite v))
          (and_status h (opposite w)) e l x.second
          (and_below h r (opposite w) (opposite v) b (opposite_below w v i)) k c.second
          (λ g d. parts_sound way main q (and_status r (opposite v)) g e l x.second.parts d k right c.second.parts);
    }
parts_sound way main (Suspend' t a p) r h e l x b k u c =
    sweep_sound main p (swept_parts way main p l) r h e l x b k c
    (λ g d. parts_sound way main p r g e l x.parts d k u c.parts)
parts_sound way main (Seq' a p z q) r h e l x b k u c =
    let left = heard_left _ _ e l u in
    let first = sweep_sound main p (swept_parts way main p l) r h e l x.first b k c.first
    (λ g d. parts_sound way main p r g e l x.first.parts d k left c.first.parts) in
    let y = sweep_by main p (swept_parts way main p l) l h x.first in
    let later = ends (cells_at r r (term_of p) e) in
    let f = told l (emits is_sure main p y) in
    let m = told_less e l (emits is_sure main p y) k
    (heard_in _ _ e l (emits_up main p y (begun main p r e) first) left) in
    let right = told_heard e l (emits is_sure main p y) _ (heard_right _ _ e l u) in
    record {
      first = first;
      second = sweep_sound main q (swept_parts way main q f) later (ends y.cells) e f x.second
          (ends_below _ _ first.cells) m c.second
          (λ g d. parts_sound way main q later g e f x.second.parts d m right c.second.parts);
    }
parts_sound way main (Loop' a p) r h e l x b k u c = record {
  first = sweep_sound main p (swept_parts way main p l) r h e l x.first b k c.first
      (λ g d. parts_sound way main p r g e l x.first.parts d k (heard_left _ _ e l u) c.first.parts);
  second = again_sound main (Below false p) (begun false p Absent e)
      (sweep_by false p (swept_parts way false p l) l Absent) x.second
      c.second (λ y i. sweep_sound false p (swept_parts way false p l) Absent Absent e l y (inr refl) k i
      (λ g d. parts_sound way false p Absent g e l y.parts d k (idle_heard false p e e l) i.parts));
}
parts_sound way main (Par' a p z q) r h e l x b k u c =
    let left = heard_left _ _ e l u in
    let right = heard_right _ _ e l u in
    let s = Par' a p z q in
    let first = sweep_sound main p (swept_parts way main p l) r h e l x.first b k c.first
    (λ g d. parts_sound way main p r g e l x.first.parts d k left c.first.parts) in
    let y = sweep_by main p (swept_parts way main p l) l h x.first in
    let f = told l (emits is_sure main p y) in
    let m = told_less e l (emits is_sure main p y) k
    (heard_in _ _ e l (emits_up main p y (begun main p r e) first) left) in
    let after = told_heard e l (emits is_sure main p y) _ right in
    let second = sweep_sound main q (swept_parts way main q l) r h e l x.second b k c.second
    (λ g d. parts_sound way main q r g e l x.second.parts d k right c.second.parts) in
    let v = sweep_by main q (swept_parts way main q l) l h x.second in
    let n = told l (emits is_sure main q v) in
    let w = told_less e l (emits is_sure main q v) k
    (heard_in _ _ e l (emits_up main q v (begun main q r e) second) right) in
    let before = told_heard e l (emits is_sure main q v) _ left in
    either_way (λ (o : Parts main s). PartsBelow main s o (begun_parts main s r e)) way _ _
    (record {
      first = first;
      second = sweep_sound main q (swept_parts way main q f) r h e f x.second b m c.second
          (λ g d. parts_sound way main q r g e f x.second.parts d m after c.second.parts);
    })
    (record {
      first = sweep_sound main p (swept_parts way main p n) r h e n x.first b w c.first
          (λ g d. parts_sound way main p r g e n x.first.parts d w before c.first.parts);
      second = second;
    })
parts_sound way main (Trap' a p) r h e l x b k u c =
    sweep_sound main p (swept_parts way main p l) r h e l x b k c
    (λ g d. parts_sound way main p r g e l x.parts d k u c.parts)
parts_sound way main (Binder' s a p) r h e l x b k u c =
    let v = status_at r s.index (term_of p) e in
    let f = with_local l s.index x.status in
    let y = sweep_by main p (swept_parts way main p f) f h x.body in
    let m = local_below l e s.index x.status v k c.status in
    let inside = heard_local s.index v x.status e l _ (begun_local main p s.index r e) u in
    let body = sweep_sound main p (swept_parts way main p f) r h (with_local e s.index v) f x.body b m c.body
    (λ g d. parts_sound way main p r g (with_local e s.index v) f x.body.parts d m inside c.body.parts) in
    record {
      status = learned_below x.status (emitted_status main p s.index y) v c.status
          (local_sound main p s.index r e y body);
      body = body;
    }

-- a statement that is begun, if at all
pub swept_sound : (way : Direction) (main : Bool) (s : Statement) (r g : Status) (e l : Env) (T : Sheet main s)
    → IsBelow g r
    → KnowsLess l e → Heard (emits is_sure main s (begun main s r e)) e l
    → Below main s T (begun main s r e) → Below main s (swept way main s l g T) (begun main s r e)
swept_sound way main s r g e l T b k u c =
    sweep_sound main s (swept_parts way main s l) r g e l T b k c
    (λ h d. parts_sound way main s r h e l T.parts d k u c.parts)

live_sweep_sound : (s : Statement) (f : Status → Parts true s → Parts true s) (bits : ℕ → Bool) (r g : Status)
    (e l : Env)
    (T : Sheet true s) → IsBelow g r → KnowsLess l e → Below true s T (resumed s bits r e)
    → ((h : Status) → IsBelow h Absent → PartsBelow true s (f h T.parts) (resumed_parts s bits r e))
    → Below true s (live_sweep_by s f bits g l T) (resumed s bits r e)
live_sweep_sound s f bits r g e l T b k c w =
    let M = resumed s bits r e in
    let h = learned T.cells.go Absent in
    let d : IsBelow h Absent = learned_below T.cells.go Absent Absent c.cells.go (inr refl) in
    let x = f h T.parts in
    let U = entered h T x in
    let p : PartsBelow true s x M.parts = w h d in
    let u : Below true s U M = record {
      cells = record { go = d; must = c.cells.must; may = c.cells.may; whole = c.cells.whole };
      parts = p;
    } in
    record {
      cells = told_below U.cells (live_gates s bits g l U).cells M.cells h d u.cells
          (live_sound s bits r g e l U b k u).cells;
      parts = p;
    }

-- of a choice by whether a side is live
chosen : (b : Bool) (p : Statement) (G H X Y T : Sheet true p) (e l : Env)
    → (Heard (emits is_sure true p X) e l → Below true p T X → Below true p G X)
    → (Heard (emits is_sure true p Y) e l → Below true p T Y → Below true p H Y)
    → Heard (emits is_sure true p (cond b X Y)) e l
    → Below true p T (cond b X Y) → Below true p (cond b G H) (cond b X Y)
chosen true p G H X Y T e l f g u c = f u c
chosen false p G H X Y T e l f g u c = g u c

-- of a second part that is begun where a first that is live ends
seq_second : (way : Direction) (d : Bool) (p q : Statement) (bits : ℕ
    → Bool) (r : Status) (e l : Env) (G H : Sheet true p)
    (W T : Sheet true q)
    → KnowsLess l e
    → (Heard (emits is_sure true q (resumed q bits r e)) e l → Below true q T (resumed q bits r e)
    → Below true q W (resumed q bits r e))
    → Below true p (cond d G H) (cond d (resumed p bits r e) (begun true p Absent e))
    → Heard (emits is_sure true q
    (cond d (begun true q (ends (cells_at Absent r (term_at p bits) e)) e) (resumed q bits r e))) e l
    → Below true q T (cond d (begun true q (ends (cells_at Absent r (term_at p bits) e)) e) (resumed q bits r e))
    → Below true q (cond d (swept way true q l (ends (cond d G H).cells) T) W)
    (cond d (begun true q (ends (cells_at Absent r (term_at p bits) e)) e) (resumed q bits r e))
seq_second way true p q bits r e l G H W T k f y u c =
    swept_sound way true q (ends (cells_at Absent r (term_at p bits) e)) (ends G.cells) e l T
    (ends_below _ _ y.cells) k u c
seq_second way false p q bits r e l G H W T k f y u c = f u c

-- the parts of a statement that goes on from its pauses
pub live_parts_sound : (way : Direction) (s : Statement) (bits : ℕ
    → Bool) (r g h : Status) (e l : Env) (x : Parts true s) → IsBelow g r
    → IsBelow h Absent → KnowsLess l e → Heard (emits is_sure true s (resumed s bits r e)) e l
    → PartsBelow true s x (resumed_parts s bits r e)
    → PartsBelow true s (live_swept_parts way s bits g l h x) (resumed_parts s bits r e)
live_parts_sound way Nothing bits r g h e l x b o k u c = tt
live_parts_sound way (Pause n) bits r g h e l x b o k u c = tt
live_parts_sound way (Emit s) bits r g h e l x b o k u c = tt
live_parts_sound way (Exit n) bits r g h e l x b o k u c = tt
live_parts_sound way (Present' t a p z q) bits r g h e l x b o k u c =
    let v = status_of e (query_of t) in
    let w = status_of l (query_of t) in
    let i : IsBelow w v = query_below l e (query_of t) k in
    record {
      first = chosen (is_live p bits) p _ _ (resumed p bits r e) (begun true p Absent e) x.first e l
          (λ f d. live_sweep_sound p (live_swept_parts way p bits g l) bits r g e l x.first b k d
          (λ j m. live_parts_sound way p bits r g j e l x.first.parts b m k f d.parts))
          (λ f d. swept_sound way true p Absent (and_status h w) e l x.first (and_below h Absent w v o i) k f d)
          (heard_left _ _ e l u) c.first;
      second = chosen (is_live p bits) q _ _ (begun true q Absent e) (resumed q bits r e) x.second e l
          (λ f d. swept_sound way true q Absent (and_status h (opposite w)) e l x.second
          (and_below h Absent (opposite w) (opposite v) o (opposite_below w v i)) k f d)
          (λ f d. live_sweep_sound q (live_swept_parts way q bits g l) bits r g e l x.second b k d
          (λ j m. live_parts_sound way q bits r g j e l x.second.parts b m k f d.parts))
          (heard_right _ _ e l u) c.second;
    }
live_parts_sound way (Suspend' t a p) bits r g h e l x b o k u c =
    let v = status_of e (query_of t) in
    let w = status_of l (query_of t) in
    let i = and_below g r (opposite w) (opposite v) b (opposite_below w v (query_below l e (query_of t) k)) in
    live_sweep_sound p (live_swept_parts way p bits (and_status g (opposite w)) l) bits (and_status r (opposite v))
    (and_status g (opposite w)) e l x i k c
    (λ j m. live_parts_sound way p bits (and_status r (opposite v)) (and_status g (opposite w)) j e l x.parts i m k u
    c.parts)
live_parts_sound way (Seq' a p z q) bits r g h e l x b o k u c =
    let left = heard_left _ _ e l u in
    let first = chosen (is_live p bits) p _ _ (resumed p bits r e) (begun true p Absent e) x.first e l
    (λ f d. live_sweep_sound p (live_swept_parts way p bits g l) bits r g e l x.first b k d
    (λ j m. live_parts_sound way p bits r g j e l x.first.parts b m k f d.parts))
    (λ f d. swept_sound way true p Absent h e l x.first o k f d) left c.first in
    let y = cond (is_live p bits) (live_sweep_by p (live_swept_parts way p bits g l) bits g l x.first)
    (sweep_by true p (swept_parts way true p l) l h x.first) in
    let n = told l (emits is_sure true p y) in
    let w = told_less e l (emits is_sure true p y) k (heard_in _ _ e l (emits_up true p y _ first) left) in
    let right = told_heard e l (emits is_sure true p y) _ (heard_right _ _ e l u) in
    record {
      first = first;
      second = seq_second way (is_live p bits) p q bits r e n
          (live_sweep_by p (live_swept_parts way p bits g l) bits g l x.first)
          (sweep_by true p (swept_parts way true p l) l h x.first)
          (live_sweep_by q (live_swept_parts way q bits g n) bits g n x.second) x.second w
          (λ f d. live_sweep_sound q (live_swept_parts way q bits g n) bits r g e n x.second b w d
          (λ j m. live_parts_sound way q bits r g j e n x.second.parts b m w f d.parts)) first right c.second;
    }
live_parts_sound way (Loop' a p) bits r g h e l x b o k u c =
    let left = heard_left _ _ e l u in
    let first = live_sweep_sound p (live_swept_parts way p bits g l) bits r g e l x.first b k c.first
    (λ j m. live_parts_sound way p bits r g j e l x.first.parts b m k left c.first.parts) in
    let y = live_sweep_by p (live_swept_parts way p bits g l) bits g l x.first in
    let n = told l (emits is_sure true p y) in
    let w = told_less e l (emits is_sure true p y) k
    (heard_in _ _ e l (emits_up true p y (resumed p bits r e) first) left) in
    let right = told_heard e l (emits is_sure true p y) _ (heard_right _ _ e l u) in
    record {
      first = first;
      second = swept_sound way false p (ends (cells_at Absent r (term_at p bits) e)) (ends y.cells) e n x.second
          (ends_below _ _ first.cells) w right c.second;
    }
live_parts_sound way (Par' a p z q) bits r g h e l x b o k u c =
    let left = heard_left _ _ e l u in
    let right = heard_right _ _ e l u in
    let s = Par' a p z q in
    let first = chosen (is_live p bits) p _ _ (resumed p bits r e) (begun true p Absent e) x.first e l
    (λ f d. live_sweep_sound p (live_swept_parts way p bits g l) bits r g e l x.first b k d
    (λ j m. live_parts_sound way p bits r g j e l x.first.parts b m k f d.parts))
    (λ f d. swept_sound way true p Absent h e l x.first o k f d) left c.first in
    let y = cond (is_live p bits) (live_sweep_by p (live_swept_parts way p bits g l) bits g l x.first)
    (sweep_by true p (swept_parts way true p l) l h x.first) in
    let n = told l (emits is_sure true p y) in
    let w = told_less e l (emits is_sure true p y) k (heard_in _ _ e l (emits_up true p y _ first) left) in
    let after = told_heard e l (emits is_sure true p y) _ right in
    let second = chosen (is_live q bits) q _ _ (resumed q bits r e) (begun true q Absent e) x.second e l
    (λ f d. live_sweep_sound q (live_swept_parts way q bits g l) bits r g e l x.second b k d
    (λ j m. live_parts_sound way q bits r g j e l x.second.parts b m k f d.parts))
    (λ f d. swept_sound way true q Absent h e l x.second o k f d) right c.second in
    let v = cond (is_live q bits) (live_sweep_by q (live_swept_parts way q bits g l) bits g l x.second)
    (sweep_by true q (swept_parts way true q l) l h x.second) in
    let i = told l (emits is_sure true q v) in
    let t = told_less e l (emits is_sure true q v) k (heard_in _ _ e l (emits_up true q v _ second) right) in
    let before = told_heard e l (emits is_sure true q v) _ left in
    either_way (λ (y : Parts true s). PartsBelow true s y (resumed_parts s bits r e)) way _ _
    (record {
      first = first;
      second = chosen (is_live q bits) q _ _ (resumed q bits r e) (begun true q Absent e) x.second e n
          (λ f d. live_sweep_sound q (live_swept_parts way q bits g n) bits r g e n x.second b w d
          (λ j m. live_parts_sound way q bits r g j e n x.second.parts b m w f d.parts))
          (λ f d. swept_sound way true q Absent h e n x.second o w f d) after c.second;
    })
    (record {
      first = chosen (is_live p bits) p _ _ (resumed p bits r e) (begun true p Absent e) x.first e i
          (λ f d. live_sweep_sound p (live_swept_parts way p bits g i) bits r g e i x.first b t d
          (λ j m. live_parts_sound way p bits r g j e i x.first.parts b m t f d.parts))
          (λ f d. swept_sound way true p Absent h e i x.first o t f d) before c.first;
      second = second;
    })
live_parts_sound way (Trap' a p) bits r g h e l x b o k u c =
    live_sweep_sound p (live_swept_parts way p bits g l) bits r g e l x b k c
    (λ j m. live_parts_sound way p bits r g j e l x.parts b m k u c.parts)
live_parts_sound way (Binder' s a p) bits r g h e l x b o k u c =
    let v = status_at r s.index (term_at p bits) e in
    let f = with_local l s.index x.status in
    let y = live_sweep_by p (live_swept_parts way p bits g f) bits g f x.body in
    let n = local_below l e s.index x.status v k c.status in
    let inside = heard_local s.index v x.status e l _ (resumed_local p bits s.index r e) u in
    let body = live_sweep_sound p (live_swept_parts way p bits g f) bits r g
    (with_local e s.index v) f x.body b n c.body
    (λ j m. live_parts_sound way p bits r g j (with_local e s.index v) f x.body.parts b m n inside c.body.parts) in
    record {
      status = learned_below x.status (emitted_status true p s.index y) v c.status
          (live_local_sound p bits s.index r e y body);
      body = body;
    }

-- a statement that goes on from its pauses
pub live_swept_sound : (way : Direction) (s : Statement) (bits : ℕ
    → Bool) (r g : Status) (e l : Env) (T : Sheet true s) → IsBelow g r
    → KnowsLess l e → Heard (emits is_sure true s (resumed s bits r e)) e l
    → Below true s T (resumed s bits r e) → Below true s (live_swept way s bits g l T) (resumed s bits r e)
live_swept_sound way s bits r g e l T b k u c =
    live_sweep_sound s (live_swept_parts way s bits g l) bits r g e l T b k c
    (λ h d. live_parts_sound way s bits r g h e l T.parts b d k u c.parts)
