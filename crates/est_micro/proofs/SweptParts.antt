-- A part that a walk has come to is swept by what is known.
use Rattle.std.specs.Prelude.{◌≡◌, ◌+◌, ℕ, Bool, true, List, IfNone, IfSome, None, Some}
use Rattle.std.proofs.Common.{Bor, Option, sym, subst}
use Rattle.est_kernel.specs.Pauses.{pauses_of}
use Rattle.est_kernel.specs.declared.kernel.Kernel.{Kernel}
use Rattle.est_kernel.specs.declared.pause_set.PauseSet.{PauseSet}
use Rattle.est_kernel.specs.declared.state.State.{State}
use Rattle.est_kernel.specs.declared.statement.Statement.{Statement}
use Rattle.est_meaning.specs.Environments.{Env}
use Rattle.est_meaning.specs.Knowledge.{IsBelow, KnowsLess}
use Rattle.est_meaning.specs.Signals.{Signals}
use Rattle.est_meaning.specs.declared.status.Status.{Status}
use Rattle.est_meaning.specs.Views.{set_of}
use Rattle.est_cells.proofs.Order.{emits_up}
use Rattle.est_cells.specs.Meaning.{begun, resumed}
use Rattle.est_cells.specs.Tables.{Below, Sheet, emits, is_sure, sheet_size}
use Rattle.est_cells.specs.Whole.{sheet_meaning}
use Rattle.est_net.specs.Cells.{cell_at}
use Rattle.est_net.specs.Layout.{output_count, sheet_in}
use Rattle.est_micro.specs.Inner.Closing.{Closes}
use Rattle.est_micro.specs.Inner.Hearing.{Heard}
use Rattle.est_micro.specs.Inner.Sides.{IsWithin}
use Rattle.est_micro.specs.Inner.Views.{Changes, IsSwept}
use Rattle.est_micro.specs.Inner.Walks.{IsWalked, last_of}
use Rattle.est_micro.specs.Sweeps.{live_swept, swept, told}
use Rattle.est_micro.specs.declared.cells.Swept.{Swept}
use Rattle.est_micro.specs.declared.direction.Direction.{Direction}
use Rattle.est_micro.specs.declared.part.Part.{Part}
use Rattle.est_micro.proofs.Hearing.{heard_in, told_doubt, told_less}
use Rattle.est_micro.proofs.Passing.{passed, sweep_passes}
use Rattle.est_micro.proofs.PassingOn.{passed_on, sweep_passes_on}
use Rattle.est_micro.proofs.Walks.{sound_by}

-- what is known once a part is swept that emits no more than is meant
told_on : (own : Bool) (p : Statement) (T N : Sheet own p) (e k : Env) (x : Signals) → x ≡ emits is_sure own p T
    → Below own p T N → KnowsLess k e → Heard (emits is_sure own p N) e k → KnowsLess (told k x) e
told_on own p T N e k x z b j u =
    told_less e k x j (subst (λ (w : Signals). Heard w e k) (sym z) (heard_in _ _ e k (emits_up own p T N b) u))

-- what comes of a part that is swept by what is known, l
record IsPartSwept (main : Bool) (s : Statement) (c t : ℕ) (M : Sheet main s) (e k : Env) (new : List Status)
    : Type 0 where
  pub below : Below main s (sheet_in (cell_at new) main s c t) M
  pub less : KnowsLess k e

-- a part that is begun, if at all, as r tells, of which the gate g knows no more
part_swept : (way : Direction) (main : Bool) (s : Statement) (c t : ℕ) (M : Sheet main s) (own : Bool)
    (p : Statement) (d u : ℕ) (g r : Status) (e l : Env) (old new : List Status) (w : Swept)
    → IsWithin main s c t M own p d u (begun own p r e) → IsBelow g r
    → IsSwept own p d u (swept way own p l g) old new w
    → Below main s (sheet_in (cell_at old) main s c t) M → KnowsLess l e
    → Heard (emits is_sure own p (begun own p r e)) e l
    → IsPartSwept main s c t M e (told l (set_of w.judged.must.signals)) new
part_swept way main s c t M own p d u g r e l old new w lies i sw below less heard =
    let N = begun own p r e in
    let m = passed own p d u g l old new (sweep_passes way own p d u g l old new w sw) r e i less heard
    (lies.part (cell_at old) below) in
    record {
      below = lies.whole old new sw.changes below m;
      less = told_on own p (sheet_in (cell_at new) own p d u) N e l _ sw.found.emits m less heard;
    }

-- one that goes on, if it is run, as r tells
part_swept_on : (way : Direction) (main : Bool) (s : Statement) (c t : ℕ) (M : Sheet main s)
    (p : Statement) (bits : ℕ → Bool) (d u : ℕ) (g r : Status) (e l : Env) (old new : List Status)
    (w : Swept)
    → IsWithin main s c t M true p d u (resumed p bits r e) → IsBelow g r
    → IsSwept true p d u (live_swept way p bits g l) old new w
    → Below main s (sheet_in (cell_at old) main s c t) M → KnowsLess l e
    → Heard (emits is_sure true p (resumed p bits r e)) e l
    → IsPartSwept main s c t M e (told l (set_of w.judged.must.signals)) new
part_swept_on way main s c t M p bits d u g r e l old new w lies i sw below less heard =
    let N = resumed p bits r e in
    let m = passed_on p bits d u g l old new (sweep_passes_on way p bits d u g l old new w sw) r e i less heard
    (lies.part (cell_at old) below) in
    record {
      below = lies.whole old new sw.changes below m;
      less = told_on true p (sheet_in (cell_at new) true p d u) N e l _ sw.found.emits m less heard;
    }

-- in a walk
pub walked_swept : (k : Kernel) (x : State) (unasked inputs : ℕ → Bool) (f : Part) (l m : Env) (old new : List Status)
    (w : Swept) → f.pauses ≡ None
    → IsSwept f.place.main f.statement.now f.place.cell f.place.traps
    (swept f.place.direction f.place.main f.statement.now l f.gate) old new w
    → m ≡ told l (set_of w.judged.must.signals) → IsWalked k x unasked inputs f l m old new
walked_swept k x unasked inputs f l m old new w none sw z =
    subst (λ (y : Env). IsWalked k x unasked inputs f l y old new) (sym z) (record {
      changes = sw.changes;
      doubt = told_doubt l (set_of w.judged.must.signals);
      leads = λ others a at h.
          let p = f.statement.now in
          let own = f.place.main in
          let M = sheet_meaning k.root x (last_of k x others) in
          let N = begun own p at.reach at.inside in
          let heard = subst (λ (o : Option (Bor PauseSet)). IfNone o (Heard (emits is_sure own p N) at.inside l)) none
          h.heard.begun in
          let lies = subst (λ (o : Option (Bor PauseSet)). IfNone o (IsWithin true k.root (output_count k.interface) 0
          M own p f.place.cell f.place.traps N)) none at.begun in
          let r = part_swept f.place.direction true k.root (output_count k.interface) 0 M own p f.place.cell
          f.place.traps f.gate at.reach at.inside l old new w lies at.below sw h.sound.sheet h.less heard in
          sound_by k x others f at l (told l (set_of w.judged.must.signals)) old new sw.changes
          (told_doubt l (set_of w.judged.must.signals)) r.below r.less h;
    })

pub walked_swept_on : (k : Kernel) (x : State) (unasked inputs : ℕ → Bool) (f : Part) (ps : Bor PauseSet) (l m : Env)
    (old new : List Status) (w : Swept) → f.pauses ≡ Some ps → f.place.main ≡ true
    → IsSwept true f.statement.now f.place.cell f.place.traps
    (live_swept f.place.direction f.statement.now (pauses_of ps.now) f.gate l) old new w
    → m ≡ told l (set_of w.judged.must.signals) → IsWalked k x unasked inputs f l m old new
walked_swept_on k x unasked inputs f ps l m old new w some main_is sw z =
    let change = subst
    (λ (y : Bool). Changes f.place.cell (f.place.cell + sheet_size y f.statement.now f.place.traps) old new)
    (sym main_is) sw.changes in
    subst (λ (y : Env). IsWalked k x unasked inputs f l y old new) (sym z) (record {
      changes = change;
      doubt = told_doubt l (set_of w.judged.must.signals);
      leads = λ others a at h.
          let p = f.statement.now in
          let bits = pauses_of ps.now in
          let M = sheet_meaning k.root x (last_of k x others) in
          let N = resumed p bits at.reach at.inside in
          let heard = subst (λ (o : Option (Bor PauseSet)). IfSome o (λ a. Heard (emits is_sure true p
          (resumed p (pauses_of a.now) at.reach at.inside)) at.inside l)) some h.heard.on in
          let lies = subst (λ (o : Option (Bor PauseSet)). IfSome o (λ a. IsWithin true k.root
          (output_count k.interface) 0 M true p f.place.cell f.place.traps
          (resumed p (pauses_of a.now) at.reach at.inside))) some at.on in
          let r = part_swept_on f.place.direction true k.root (output_count k.interface) 0 M p bits f.place.cell
          f.place.traps f.gate at.reach at.inside l old new w lies at.below sw h.sound.sheet h.less heard in
          sound_by k x others f at l (told l (set_of w.judged.must.signals)) old new change
          (told_doubt l (set_of w.judged.must.signals)) r.below r.less h;
    })

-- a `||` whose sides were walked over is closed
pub walked_closed : (k : Kernel) (x : State) (unasked inputs : ℕ → Bool) (f : Part) (l : Env) (old new : List Status)
    → f.pauses ≡ None → Closes f.place.main f.statement.now f.place.cell f.place.traps f.gate old new
    → IsWalked k x unasked inputs f l l old new
walked_closed k x unasked inputs f l old new none closed = record {
  changes = closed.changes;
  doubt = λ n z. z;
  leads = λ others a at h.
      let p = f.statement.now in
      let own = f.place.main in
      let M = sheet_meaning k.root x (last_of k x others) in
      let N = begun own p at.reach at.inside in
      let lies = subst (λ (o : Option (Bor PauseSet)). IfNone o (IsWithin true k.root (output_count k.interface) 0
      M own p f.place.cell f.place.traps N)) none at.begun in
      sound_by k x others f at l l old new closed.changes (λ n z. z)
      (lies.whole old new closed.changes h.sound.sheet
      (closed.sound at.reach at.inside at.below (lies.part (cell_at old) h.sound.sheet))) h.less h;
}
