-- A walk over the scope of a local signal.
use Rattle.std.specs.Prelude.{◌≡◌, ◌+◌, ℕ, Bool, true, false, cond, List, IfNone, IfSome}
use Rattle.std.proofs.Common.{Bor, Option, ap, arith, refl, sym, ◌∙◌, subst}
use Rattle.est_kernel.specs.Pauses.{pauses_of}
use Rattle.est_kernel.specs.Term.{Name, inner}
use Rattle.est_kernel.specs.View.{term_of}
use Rattle.est_kernel.specs.declared.kernel.Kernel.{Kernel}
use Rattle.est_kernel.specs.declared.pause_set.PauseSet.{PauseSet}
use Rattle.est_kernel.specs.declared.state.State.{State}
use Rattle.est_kernel.specs.declared.statement.LocalSignal.{LocalSignal}
use Rattle.est_kernel.specs.declared.statement.Statement.{Statement}
use Rattle.est_kernel.specs.declared.statement.Statement.TheVariants.{Local' as Binder'}
use Rattle.est_meaning.proofs.KnowledgeIsMonotone.{local_below}
use Rattle.est_meaning.specs.Environments.{Env, with_local}
use Rattle.est_meaning.specs.Knowledge.{IsBelow, KnowsLess}
use Rattle.est_meaning.specs.Signals.{same_name}
use Rattle.est_meaning.specs.States.{term_at}
use Rattle.est_meaning.specs.declared.status.Status.{Status}
use Rattle.est_meaning.specs.declared.status.Status.TheVariants.{Unknown}
use Rattle.est_cells.specs.Meaning.{begun, resumed, status_at}
use Rattle.est_cells.specs.Tables.{Below, Sheet, emits, is_sure, sheet_size}
use Rattle.est_net.specs.Cells.{cell_at}
use Rattle.est_net.specs.Layout.{sheet_in}
use Rattle.est_micro.specs.Inner.Hearing.{Heard}
use Rattle.est_micro.specs.Inner.Parts.{IsReached, PartHeard, body_part}
use Rattle.est_micro.specs.Inner.Sides.{IsWithin}
use Rattle.est_micro.specs.Inner.Walks.{IsWalked}
use Rattle.est_micro.specs.declared.part.Part.{Part}
use Rattle.est_micro.proofs.BegunNodes.{widen}
use Rattle.est_micro.proofs.Hearing.{begun_local, heard_local, is_local, resumed_local}
use Rattle.est_micro.proofs.PartSteps.{by_pauses, room_by, when}
use Rattle.est_micro.proofs.StatementParts.{local_within, local_within_on, within_then}
use Rattle.est_micro.proofs.Walks.{part_heard_by}

-- with f, its body g is reached, where the local signal has status v, of which the cell w knows no more
record IsScopeReached (main : Bool) (s : Statement) (c t : ℕ) (M : Sheet main s) (e : Env) (f : Part)
    (at : IsReached main s c t M e f) (g : Part) (n : ℕ) (w : Status) : Type 0 where
  pub to : IsReached main s c t M e g
  pub v : Status
  pub below : IsBelow w v
  pub inside : to.inside ≡ with_local at.inside n v
  pub heard : (l : Env) → PartHeard f at.reach at.inside l → PartHeard g to.reach to.inside (with_local l n w)

scope_reached : (main : Bool) (x : Statement) (c t : ℕ) (M : Sheet main x) (e : Env) (f : Part) (s : LocalSignal)
    (a : _) (p : Bor Statement) (w : Status) (cells : List Status) → f.statement.now ≡ Binder' s a p.now
    → w ≡ cell_at cells (f.place.cell + f.place.traps + 3) → (at : IsReached main x c t M e f)
    → Below main x (sheet_in (cell_at cells) main x c t) M
    → IsScopeReached main x c t M e f at (body_part f p 4 f.place.traps) s.index w
unfolding with_local
scope_reached main x c t M e f s a p w cells z is at below =
    let own = f.place.main in
    let d = f.place.cell in
    let u = f.place.traps in
    let r = at.reach in
    let i = at.inside in
    let n = s.index in
    by_pauses f _
    (λ none.
    let v = status_at r n (term_of p.now) i in
    let within = with_local i n v in
    let N = begun own p.now r within in
    let lies = subst (λ (y : Statement). IsWithin main x c t M own y d u (begun own y r i)) z
    (subst (λ (o : Option (Bor PauseSet)). IfNone o (IsWithin main x c t M own f.statement.now d u
    (begun own f.statement.now r i))) none at.begun) in
    let o = lies.part (cell_at cells) below in
    record {
      to = record {
        reach = r;
        below = at.below;
        inside = within;
        outer = λ m. at.outer m;
        begun = subst (λ (o : Option (Bor PauseSet)). IfNone o (IsWithin main x c t M own p.now (d + u + 4) u N))
            (sym none) (within_then main x c t M own (Binder' s a p.now) d u _ own p.now (d + u + 4) u N lies
            (local_within own s a p.now d u r i));
        on = subst (λ (o : Option (Bor PauseSet)). IfSome o (λ y. IsWithin main x c t M true p.now (d + u + 4) u
            (resumed p.now (pauses_of y.now) r within))) (sym none) tt;
      };
      v = v;
      below = subst (λ (y : Status). IsBelow y v) (sym is) o.parts.status;
      inside = refl;
      heard = λ l h. record {
        begun = subst (λ (o : Option (Bor PauseSet)). IfNone o (Heard (emits is_sure own p.now N) within
            (with_local l n w))) (sym none) (heard_local n v w i l _ (begun_local own p.now n r i)
            (subst (λ (y : Statement). Heard (emits is_sure own y (begun own y r i)) i l) z
            (subst (λ (o : Option (Bor PauseSet)). IfNone o (Heard (emits is_sure own f.statement.now
            (begun own f.statement.now r i)) i l)) none h.begun)));
        on = subst (λ (o : Option (Bor PauseSet)). IfSome o (λ y. Heard (emits is_sure true p.now
            (resumed p.now (pauses_of y.now) r within)) within (with_local l n w))) (sym none) tt;
      };
    })
    (λ ps some.
    let bits = pauses_of ps.now in
    let v = status_at r n (term_at p.now bits) i in
    let within = with_local i n v in
    let N = resumed p.now bits r within in
    let lies = subst (λ (y : Statement). IsWithin main x c t M true y d u (resumed y bits r i)) z
    (when (λ y. IsWithin main x c t M true f.statement.now d u (resumed f.statement.now (pauses_of y.now) r i)) some
    at.on) in
    let o = lies.part (cell_at cells) below in
    record {
      to = record {
        reach = r;
        below = at.below;
        inside = within;
        outer = λ m. at.outer m;
        begun = subst (λ (o : Option (Bor PauseSet)). IfNone o (IsWithin main x c t M own p.now (d + u + 4) u
            (begun own p.now r within))) (sym some) tt;
        on = subst (λ (o : Option (Bor PauseSet)). IfSome o (λ y. IsWithin main x c t M true p.now (d + u + 4) u
            (resumed p.now (pauses_of y.now) r within))) (sym some)
            (within_then main x c t M true (Binder' s a p.now) d u _ true p.now (d + u + 4) u N lies
            (local_within_on bits s a p.now d u r i));
      };
      v = v;
      below = subst (λ (y : Status). IsBelow y v) (sym is) o.parts.status;
      inside = refl;
      heard = λ l h. record {
        begun = subst (λ (o : Option (Bor PauseSet)). IfNone o (Heard (emits is_sure own p.now
            (begun own p.now r within)) within (with_local l n w))) (sym some) tt;
        on = subst (λ (o : Option (Bor PauseSet)). IfSome o (λ y. Heard (emits is_sure true p.now
            (resumed p.now (pauses_of y.now) r within)) within (with_local l n w))) (sym some)
            (heard_local n v w i l _ (resumed_local p.now bits n r i)
            (subst (λ (y : Statement). Heard (emits is_sure true y (resumed y bits r i)) i l) z
            (when (λ y. Heard (emits is_sure true f.statement.now
            (resumed f.statement.now (pauses_of y.now) r i)) i l) some h.on)));
      };
    })

-- what is known of the signal outside stays
scope_doubt : (n : ℕ) (w : Status) (l m : Env) → ((i : Name) → m i ≡ Unknown → with_local l n w i ≡ Unknown)
    → (i : Name) → with_local m n (l (inner n)) i ≡ Unknown → l i ≡ Unknown
unfolding with_local
scope_doubt n w l m doubt i = go (same_name (inner n) i) refl
  where
    go : (b : Bool) → same_name (inner n) i ≡ b → cond b (l (inner n)) (m i) ≡ Unknown → l i ≡ Unknown
    go true q h = ap l (sym (is_local n i q)) ∙ h
    go false q h = subst (λ (b : Bool). cond b w (l i) ≡ Unknown) q (doubt i h)

scope_less : (n : ℕ) (v : Status) (l m e : Env) → KnowsLess l e → KnowsLess m (with_local e n v)
    → KnowsLess (with_local m n (l (inner n))) e
unfolding with_local
scope_less n v l m e less after i = go (same_name (inner n) i) refl
  where
    go : (b : Bool) → same_name (inner n) i ≡ b → IsBelow (cond b (l (inner n)) (m i)) (e i)
    go true q = subst (λ (j : Name). IsBelow (l (inner n)) (e j)) (is_local n i q) (less (inner n))
    go false q = subst (λ (b : Bool). IsBelow (m i) (cond b v (e i))) q (after i)

pub walked_scope : (k : Kernel) (x : State) (unasked inputs : ℕ → Bool) (f : Part) (s : LocalSignal) (a : _)
    (p : Bor Statement) (w : Status) (l m : Env) (old new : List Status) → f.statement.now ≡ Binder' s a p.now
    → w ≡ cell_at old (f.place.cell + f.place.traps + 3)
    → IsWalked k x unasked inputs (body_part f p 4 f.place.traps) (with_local l s.index w) m old new
    → IsWalked k x unasked inputs f l (with_local m s.index (l (inner s.index))) old new
walked_scope k x unasked inputs f s a p w l m old new z is walked =
    let n = s.index in
    let room = room_by f (Binder' s a p.now) (f.place.cell + f.place.traps + 4
    + sheet_size f.place.main p.now f.place.traps) z (omega arith) in
    let doubt = scope_doubt n w l m walked.doubt in
    record {
      changes = widen (f.place.cell + f.place.traps + 4) f.place.cell _ _ old new (omega arith) room walked.changes;
      doubt = doubt;
      leads = λ others agree at h.
          let in_it = scope_reached _ _ _ _ _ _ f s a p w old z is at h.sound.sheet in
          let after = walked.leads others agree in_it.to (record {
            sound = h.sound;
            less = subst (λ (e : Env). KnowsLess (with_local l n w) e) (sym in_it.inside)
                (local_below l at.inside n w in_it.v h.less in_it.below);
            heard = in_it.heard l h.heard;
          }) in
          record {
            sound = after.sound;
            less = scope_less n in_it.v l m at.inside h.less
                (subst (λ (e : Env). KnowsLess m e) in_it.inside after.less);
            heard = part_heard_by f at.reach at.inside l _ doubt h.heard;
          };
    }
