-- Each kind of statement that goes on from its pauses, if it is run, after a sweep.
use Rattle.std.specs.Prelude.{◌≡◌, ◌<◌, ◌≤◌, ◌+◌, ℕ, Bool, true, false, not, cond, List, length}
use Rattle.std.proofs.Common.{refl, ap, sym, ◌∙◌, arith, subst}
use Rattle.est_kernel.specs.Codes.{Codes, either_code, max_codes, codes_out_of_trap}
use Rattle.est_kernel.specs.CodeViews.{codes_of}
use Rattle.est_kernel.specs.Pauses.{pauses_of}
use Rattle.est_kernel.specs.Term.{inner}
use Rattle.est_kernel.specs.View.{query_of}
use Rattle.est_kernel.specs.declared.pause_set.PauseSet.{PauseSet}
use Rattle.est_kernel.specs.declared.statement.LocalSignal.{LocalSignal}
use Rattle.est_kernel.specs.declared.statement.Statement.{Statement}
use Rattle.est_kernel.specs.declared.statement.Statement.TheVariants.{Pause, Present', Suspend', Seq'}
use Rattle.est_kernel.specs.declared.statement.Statement.TheVariants.{Loop', Par', Trap', Local' as Binder'}
use Rattle.est_meaning.specs.Signals.{Signals, no_signals}
use Rattle.est_meaning.specs.States.{is_live}
use Rattle.est_meaning.specs.Environments.{Env, and_status, opposite, status_of, verdict, with_local}
use Rattle.est_meaning.specs.declared.status.Status.{Status}
use Rattle.est_meaning.specs.declared.status.Status.TheVariants.{Absent}
use Rattle.est_meaning.specs.Views.{env_of, set_of}
use Rattle.est_meaning.specs.declared.signal_set.Env.{Env as Known}
use Rattle.est_cells.proofs.ValuesAreMeant.{two}
use Rattle.est_cells.specs.Gates.{ends, emitted_status, live_gates, then_codes, sure_code, may_code}
use Rattle.est_cells.specs.Tables.{Sheet, emits, is_sure, sheet_size}
use Rattle.est_net.specs.Cells.{cell_at, learned, Learns}
use Rattle.est_net.specs.Layout.{sheet_in}
use Rattle.est_rounds.specs.declared.acts.MustCan.{MustCan}
use Rattle.est_micro.specs.Sweeps.{swept, live_swept_parts, live_swept, told}
use Rattle.est_micro.specs.declared.direction.Direction.{Direction}
use Rattle.est_micro.specs.declared.direction.Direction.TheVariants.{Forwards, Backwards}
use Rattle.est_micro.specs.Inner.Views.{IsJudged, IsFinished, IsPaired, IsSwept, IsBegun, IsResumed, IsChosen}
use Rattle.est_micro.specs.declared.cells.Swept.{Swept}
use Rattle.est_micro.specs.declared.cells.StatementPlace.{StatementPlace}
use Rattle.est_micro.proofs.Frames.{scoped}
use Rattle.est_micro.proofs.Nodes.{one_swept, two_swept, two_swept_back, node_is_swept, ends_found, is_backwards}
use Rattle.est_micro.proofs.Nodes.{is_forwards}
use Rattle.est_micro.proofs.BegunNodes.{widen, nothing_changes, paired, part_at, trapped_at, IsTrapped, IsHidden}
use Rattle.est_micro.proofs.BegunNodes.{local_swept}
use Rattle.est_micro.proofs.BegunNodes.{hidden_found, inside_is}

flip : {A : Type 0} (b : Bool) (x y : A) → cond (not b) x y ≡ cond b y x
flip true x y = refl
flip false x y = refl

pub pause_resumed : (n : _) (at : StatementPlace) (pauses : PauseSet) (run : Status) (e : Known)
    (old m0 new : List Status)
    (own : MustCan)
    (r : Swept) → Learns at.cell Absent old m0 → IsJudged (sure_code run 0) (may_code run 0) no_signals no_signals own
    → IsFinished at.cell at.traps own (at.cell + at.traps + 3) m0 new r → IsResumed (Pause n) at pauses run e old new r
unfolding IsResumed
pause_resumed n at pauses run e old m0 new own r learns owned is_left =
    node_is_swept true (Pause n) at.cell at.traps (live_swept_parts at.direction (Pause n) (pauses_of pauses) run
    (env_of e))
    (λ U. (live_gates (Pause n) (pauses_of pauses) run (env_of e) U).cells) Absent old m0 m0 new own
    (at.cell + at.traps + 3) r
    learns refl (nothing_changes _ _ m0) owned is_left (omega arith)

pub present_resumed : (at : StatementPlace) (t : _) (a : _) (p : Statement) (b : _) (q : Statement) (pauses : PauseSet)
    (run asked g1 g2 o go : Status) (on : Bool) (e : Known) (old m0 m1 m2 new : List Status) (r1 r2 r : Swept)
    (own : MustCan)
    → asked ≡ status_of (env_of e) (query_of t) → on ≡ is_live p (pauses_of pauses) → Learns at.cell Absent old m0
    → go ≡ cell_at m0 at.cell → g1 ≡ and_status go asked → o ≡ opposite asked → g2 ≡ and_status go o
    → IsChosen p (part_at at (at.number + 1) (at.cell + at.traps + 3)) pauses on g1 run e m0 m1 r1
    → IsChosen q (part_at at at.number r1.past) pauses (not on) g2 run e m1 m2 r2
    → IsPaired either_code r1.judged r2.judged own → IsFinished at.cell at.traps own r2.past m2 new r
    → IsResumed (Present' t a p b q) at pauses run e old new r
unfolding IsResumed
present_resumed at t a p b q pauses run asked g1 g2 o go on e old m0 m1 m2 new r1 r2 r own asks on_is learns go_is g1_is
    o_is g2_is first second pair is_left =
    let c = at.cell in
    let way = at.direction in
    let n = at.traps in
    let d = c + n + 3 in
    let E = env_of e in
    let bits = pauses_of pauses in
    let X = sheet_in (cell_at old) true p d n in
    let Y = sheet_in (cell_at old) true q (d + sheet_size true p n) n in
    let w = two_swept true true p q d n (λ T. cond on (live_swept way p bits run E T) (swept way true p E g1 T))
    (λ T. cond (not on) (live_swept way q bits run E T) (swept way true q E g2 T)) old m0 m1 m2 r1 r2
    (λ i l u. learns.later i (omega arith)) first second in
    let k1 : g1 ≡ and_status (cell_at m0 c) (status_of E (query_of t))
    = g1_is ∙ (ap (λ (z : Status). and_status z asked) go_is ∙ ap (λ (z : Status). and_status (cell_at m0 c) z) asks) in
    let k2 : g2 ≡ and_status (cell_at m0 c) (opposite (status_of E (query_of t)))
    = g2_is ∙ (ap (λ (z : Status). and_status z o) go_is ∙ ap (λ (z : Status). and_status (cell_at m0 c) z)
    (o_is ∙ ap opposite asks)) in
    node_is_swept true (Present' t a p b q) c n (live_swept_parts way (Present' t a p b q) bits run E)
    (λ U. (live_gates (Present' t a p b q) bits run E U).cells) Absent old m0 m2 new own r2.past r learns
    (two (w.first ∙ (ap (λ (z : Bool). cond z (live_swept way p bits run E X) (swept way true p E g1 X)) on_is
    ∙ ap (λ (z : Status). cond (is_live p bits) (live_swept way p bits run E X) (swept way true p E z X)) k1))
    (w.second ∙ (flip on (live_swept way q bits run E Y) (swept way true q E g2 Y)
    ∙ (ap (λ (z : Bool). cond z (swept way true q E g2 Y) (live_swept way q bits run E Y)) on_is
    ∙ ap (λ (z : Status). cond (is_live p bits) (swept way true q E z Y) (live_swept way q bits run E Y)) k2))))
    (widen _ _ _ _ m0 m2 (omega arith) (omega arith) w.changes)
    (paired either_code _ _ _ _ _ _ _ _ r1.judged r2.judged own w.first_found w.second_found pair) is_left
    (let x = w.past in omega arith)

pub seq_resumed : (at : StatementPlace) (a : _) (p : Statement) (b : _) (q : Statement) (pauses : PauseSet)
    (run later go : Status) (on : Bool) (e f : Known) (old m0 m1 m2 new : List Status) (r1 r2 r : Swept)
    (own : MustCan)
    → on ≡ is_live p (pauses_of pauses) → Learns at.cell Absent old m0 → go ≡ cell_at m0 at.cell
    → later ≡ verdict (codes_of r1.judged.must.codes 0) (codes_of r1.judged.can.codes 0)
    → env_of f ≡ told (env_of e) (set_of r1.judged.must.signals)
    → IsChosen p (part_at at (at.number + 1) (at.cell + at.traps + 3)) pauses on go run e m0 m1 r1
    → IsChosen q (part_at at at.number r1.past) pauses (not on) later run f m1 m2 r2
    → IsPaired then_codes r1.judged r2.judged own → IsFinished at.cell at.traps own r2.past m2 new r
    → IsResumed (Seq' a p b q) at pauses run e old new r
unfolding IsResumed
seq_resumed at a p b q pauses run later go on e f old m0 m1 m2 new r1 r2 r own on_is learns go_is later_is f_is first
    second pair is_left =
    let c = at.cell in
    let way = at.direction in
    let n = at.traps in
    let d = c + n + 3 in
    let E = env_of e in
    let bits = pauses_of pauses in
    let X = sheet_in (cell_at old) true p d n in
    let Y = sheet_in (cell_at old) true q (d + sheet_size true p n) n in
    let w = two_swept true true p q d n (λ T. cond on (live_swept way p bits run E T) (swept way true p E go T))
    (λ T. cond (not on) (live_swept way q bits run (env_of f) T) (swept way true q
    (env_of f) later T)) old m0 m1 m2 r1 r2
    (λ i l u. learns.later i (omega arith)) first second in
    let one = w.first ∙ (ap (λ (z : Bool). cond z (live_swept way p bits run E X) (swept way true p E go X)) on_is
    ∙ ap (λ (z : Status). cond (is_live p bits) (live_swept way p bits run E X) (swept way true p E z X)) go_is) in
    let F = told E (emits is_sure true p
    (cond (is_live p bits) (live_swept way p bits run E X) (swept way true p E (cell_at m0 c) X))) in
    let inside : env_of f ≡ F = inside_is true p E f _ _ r1.judged w.first_found one f_is in
    let k : later ≡ ends (cond (is_live p bits) (live_swept way p bits run E X) (swept way true p E
    (cell_at m0 c) X)).cells
    = ends_found true p (sheet_in (cell_at m2) true p d n) later r1.judged w.first_found later_is
    ∙ ap (λ (T : Sheet true p). ends T.cells) one in
    node_is_swept true (Seq' a p b q) c n (live_swept_parts way (Seq' a p b q) bits run E)
    (λ U. (live_gates (Seq' a p b q) bits run E U).cells) Absent old m0 m2 new own r2.past r learns
    (two one (w.second
    ∙ (ap (λ (z : Env). cond (not on) (live_swept way q bits run z Y) (swept way true q z later Y)) inside
    ∙ (flip on (live_swept way q bits run F Y) (swept way true q F later Y)
    ∙ (ap (λ (z : Bool). cond z (swept way true q F later Y) (live_swept way q bits run F Y)) on_is
    ∙ ap (λ (z : Status). cond (is_live p bits) (swept way true q F z Y) (live_swept way q bits run F Y)) k)))))
    (widen _ _ _ _ m0 m2 (omega arith) (omega arith) w.changes)
    (paired then_codes _ _ _ _ _ _ _ _ r1.judged r2.judged own w.first_found w.second_found pair) is_left
    (let x = w.past in omega arith)

-- what counts of a side of a `||`
abbrev pub IsSide : Bool → Status → MustCan → MustCan → Type 0
IsSide on run x j = IsJudged (cond on (codes_of x.must.codes) (sure_code run 0))
    (cond on (codes_of x.can.codes) (may_code run 0))
    (set_of x.must.signals) (set_of x.can.signals) j

side_found : (on live : Bool) (run : Status) (a b : Codes) (s u : Signals) (x j : MustCan) → on ≡ live
    → IsJudged a b s u x
    → IsSide on run x j → IsJudged (cond live a (sure_code run 0)) (cond live b (may_code run 0)) s u j
side_found on live run a b s u x j e h l = record {
  must = l.must
      ∙ (ap (λ (z : Codes). cond on z (sure_code run 0)) h.must ∙ ap (λ (z : Bool). cond z a (sure_code run 0)) e);
  can = l.can ∙ (ap (λ (z : Codes). cond on z (may_code run 0)) h.can ∙ ap (λ (z : Bool). cond z b (may_code run 0)) e);
  emits = l.emits ∙ h.emits;
  may_emit = l.may_emit ∙ h.may_emit;
}

pub par_resumed : (at : StatementPlace) (a : _) (p : Statement) (b : _) (q : Statement) (pauses : PauseSet)
    (run go : Status) (on1 on2 : Bool) (e f : Known) (old m0 m1 m2 new : List Status) (r1 r2 r : Swept)
    (x y own : MustCan)
    → at.direction ≡ Forwards → on1 ≡ is_live p (pauses_of pauses) → on2 ≡ is_live q (pauses_of pauses)
    → Learns at.cell Absent old m0
    → go ≡ cell_at m0 at.cell
    → IsChosen p (part_at at (at.number + 1) (at.cell + at.traps + 3)) pauses on1 go run e m0 m1 r1
    → env_of f ≡ told (env_of e) (set_of r1.judged.must.signals)
    → IsChosen q (part_at at at.number r1.past) pauses on2 go run f m1 m2 r2
    → IsSide on1 run r1.judged x → IsSide on2 run r2.judged y
    → IsPaired max_codes x y own → IsFinished at.cell at.traps own r2.past m2 new r
    → IsResumed (Par' a p b q) at pauses run e old new r
unfolding IsResumed
par_resumed at a p b q pauses run go on1 on2 e f old m0 m1 m2 new r1 r2 r x y own goes on1_is on2_is learns go_is
    first f_is second left right pair is_left =
    let c = at.cell in
    let way = at.direction in
    let n = at.traps in
    let d = c + n + 3 in
    let E = env_of e in
    let bits = pauses_of pauses in
    let X = sheet_in (cell_at old) true p d n in
    let Y = sheet_in (cell_at old) true q (d + sheet_size true p n) n in
    let w = two_swept true true p q d n (λ T. cond on1 (live_swept way p bits run E T) (swept way true p E go T))
    (λ T. cond on2 (live_swept way q bits run (env_of f) T) (swept way true q (env_of f) go T)) old m0 m1 m2 r1 r2
    (λ i l u. learns.later i (omega arith)) first second in
    let one = w.first ∙ (ap (λ (z : Bool). cond z (live_swept way p bits run E X) (swept way true p E go X)) on1_is
    ∙ ap (λ (z : Status). cond (is_live p bits) (live_swept way p bits run E X) (swept way true p E z X)) go_is) in
    let F = told E (emits is_sure true p
    (cond (is_live p bits) (live_swept way p bits run E X) (swept way true p E (cell_at m0 c) X))) in
    let inside : env_of f ≡ F = inside_is true p E f _ _ r1.judged w.first_found one f_is in
    node_is_swept true (Par' a p b q) c n (live_swept_parts way (Par' a p b q) bits run E)
    (λ U. (live_gates (Par' a p b q) bits run E U).cells) Absent old m0 m2 new own r2.past r learns
    (is_forwards way _ _ _ goes (two one
    (w.second ∙ (ap (λ (z : Env). cond on2 (live_swept way q bits run z Y) (swept way true q z go Y)) inside
    ∙ (ap (λ (z : Bool). cond z (live_swept way q bits run F Y) (swept way true q F go Y)) on2_is
    ∙ ap (λ (z : Status). cond (is_live q bits) (live_swept way q bits run F Y) (swept way true q F z Y)) go_is)))))
    (widen _ _ _ _ m0 m2 (omega arith) (omega arith) w.changes)
    (paired max_codes _ _ _ _ _ _ _ _ x y own
    (side_found on1 (is_live p bits) run _ _ _ _ r1.judged x on1_is w.first_found left)
    (side_found on2 (is_live q bits) run _ _ _ _ r2.judged y on2_is w.second_found right) pair) is_left
    (let x = w.past in omega arith)

pub par_resumed_back : (at : StatementPlace) (a : _) (p : Statement) (b : _) (q : Statement) (pauses : PauseSet)
    (run go : Status) (on1 on2 : Bool) (k : ℕ) (e f : Known) (old m0 m1 m2 new : List Status) (r1 r2 r : Swept)
    (x y own : MustCan)
    → at.direction ≡ Backwards → on1 ≡ is_live p (pauses_of pauses) → on2 ≡ is_live q (pauses_of pauses)
    → Learns at.cell Absent old m0 → go ≡ cell_at m0 at.cell
    → k ≡ at.cell + at.traps + 3 + sheet_size true p at.traps
    → IsChosen q (part_at at at.number k) pauses on2 go run e m0 m1 r2
    → env_of f ≡ told (env_of e) (set_of r2.judged.must.signals)
    → IsChosen p (part_at at (at.number + 1) (at.cell + at.traps + 3)) pauses on1 go run f m1 m2 r1
    → IsSide on1 run r1.judged x → IsSide on2 run r2.judged y
    → IsPaired max_codes x y own → IsFinished at.cell at.traps own r2.past m2 new r
    → IsResumed (Par' a p b q) at pauses run e old new r
unfolding IsResumed
par_resumed_back at a p b q pauses run go on1 on2 k e f old m0 m1 m2 new r1 r2 r x y own goes on1_is on2_is learns go_is
    k_is second f_is first left right pair is_left =
    let c = at.cell in
    let way = at.direction in
    let n = at.traps in
    let d = c + n + 3 in
    let E = env_of e in
    let bits = pauses_of pauses in
    let X = sheet_in (cell_at old) true p d n in
    let Y = sheet_in (cell_at old) true q (d + sheet_size true p n) n in
    let w = two_swept_back true true p q d n k
    (λ T. cond on1 (live_swept way p bits run (env_of f) T) (swept way true p (env_of f) go T))
    (λ T. cond on2 (live_swept way q bits run E T) (swept way true q E go T)) old m0 m1 m2 r1 r2
    k_is (λ i l u. learns.later i (omega arith)) second first in
    let one = w.second ∙ (ap (λ (z : Bool). cond z (live_swept way q bits run E Y) (swept way true q E go Y)) on2_is
    ∙ ap (λ (z : Status). cond (is_live q bits) (live_swept way q bits run E Y) (swept way true q E z Y)) go_is) in
    let F = told E (emits is_sure true q
    (cond (is_live q bits) (live_swept way q bits run E Y) (swept way true q E (cell_at m0 c) Y))) in
    let inside : env_of f ≡ F = inside_is true q E f _ _ r2.judged w.second_found one f_is in
    node_is_swept true (Par' a p b q) c n (live_swept_parts way (Par' a p b q) bits run E)
    (λ U. (live_gates (Par' a p b q) bits run E U).cells) Absent old m0 m2 new own r2.past r learns
    (is_backwards way _ _ _ goes (two
    (w.first ∙ (ap (λ (z : Env). cond on1 (live_swept way p bits run z X) (swept way true p z go X)) inside
    ∙ (ap (λ (z : Bool). cond z (live_swept way p bits run F X) (swept way true p F go X)) on1_is
    ∙ ap (λ (z : Status). cond (is_live p bits) (live_swept way p bits run F X) (swept way true p F z X)) go_is)))
    one))
    (widen _ _ _ _ m0 m2 (omega arith) (omega arith) w.changes)
    (paired max_codes _ _ _ _ _ _ _ _ x y own
    (side_found on1 (is_live p bits) run _ _ _ _ r1.judged x on1_is w.first_found left)
    (side_found on2 (is_live q bits) run _ _ _ _ r2.judged y on2_is w.second_found right) pair) is_left
    (let x = w.past in omega arith)

-- what is judged of a body, with codes of its own
abbrev pub HasCodes : MustCan → MustCan → MustCan → Type 0
HasCodes x y j = IsJudged (either_code (codes_of x.must.codes) (codes_of y.must.codes))
    (either_code (codes_of x.can.codes) (codes_of y.can.codes)) (set_of x.must.signals) (set_of x.can.signals) j

pub suspend_resumed : (at : StatementPlace) (t : _) (a : _) (p : Statement) (pauses : PauseSet)
    (run asked o inside stays : Status) (e : Known)
    (old m0 m1 new : List Status) (r1 r : Swept) (held own : MustCan)
    → asked ≡ status_of (env_of e) (query_of t) → Learns at.cell Absent old m0
    → o ≡ opposite asked → inside ≡ and_status run o → stays ≡ and_status run asked
    → IsResumed p (part_at at (at.number + 1) (at.cell + at.traps + 3)) pauses inside e m0 m1 r1
    → IsJudged (sure_code stays 1) (may_code stays 1) no_signals no_signals held
    → HasCodes r1.judged held own → IsFinished at.cell at.traps own r1.past m1 new r
    → IsResumed (Suspend' t a p) at pauses run e old new r
unfolding IsResumed
suspend_resumed at t a p pauses run asked o inside stays e old m0 m1 new r1 r held own asks learns o_is inside_is
    stays_is body leaf more is_left =
    let c = at.cell in
    let way = at.direction in
    let n = at.traps in
    let d = c + n + 3 in
    let E = env_of e in
    let bits = pauses_of pauses in
    let v = status_of E (query_of t) in
    let X = sheet_in (cell_at old) true p d n in
    let w = one_swept true p d n (live_swept way p bits inside E) old m0 m1 r1
    (λ i l u. learns.later i (omega arith)) body in
    let i : inside ≡ and_status run (opposite v) = inside_is ∙ ap (and_status run) (o_is ∙ ap opposite asks) in
    let j : stays ≡ and_status run v = stays_is ∙ ap (and_status run) asks in
    node_is_swept true (Suspend' t a p) c n (live_swept_parts way (Suspend' t a p) bits run E)
    (λ U. (live_gates (Suspend' t a p) bits run E U).cells) Absent old m0 m1 new own r1.past r learns
    (w.sheet ∙ ap (λ (z : Status). live_swept way p bits z E X) i)
    (widen _ _ _ _ m0 m1 (omega arith) (omega arith) w.changes)
    (record {
      must = more.must ∙ (ap (λ (z : Codes). either_code z (codes_of held.must.codes)) w.found.must
          ∙ ap (λ (z : Codes). either_code (sheet_in (cell_at m1) true p d n).cells.must z)
          (leaf.must ∙ ap (λ (z : Status). sure_code z 1) j));
      can = more.can ∙ (ap (λ (z : Codes). either_code z (codes_of held.can.codes)) w.found.can
          ∙ ap (λ (z : Codes). either_code (sheet_in (cell_at m1) true p d n).cells.may z)
          (leaf.can ∙ ap (λ (z : Status). may_code z 1) j));
      emits = more.emits ∙ w.found.emits;
      may_emit = more.may_emit ∙ w.found.may_emit;
    })
    is_left (let x = w.past in omega arith)

pub loop_resumed : (at : StatementPlace) (a : _) (p : Statement) (pauses : PauseSet) (run later : Status) (e f : Known)
    (old m0 m1 m2 new : List Status) (r1 r2 r : Swept) (own : MustCan) → Learns at.cell Absent old m0
    → later ≡ verdict (codes_of r1.judged.must.codes 0) (codes_of r1.judged.can.codes 0)
    → IsResumed p (part_at at (at.number + 1) (at.cell + at.traps + 3)) pauses run e m0 m1 r1
    → env_of f ≡ told (env_of e) (set_of r1.judged.must.signals)
    → IsBegun p
    (record { number = at.number + 1; main = false; cell = r1.past; traps = at.traps; direction = at.direction })
    later f m1 m2 r2
    → IsPaired then_codes r1.judged r2.judged own → IsFinished at.cell at.traps own r2.past m2 new r
    → IsResumed (Loop' a p) at pauses run e old new r
unfolding IsBegun IsResumed
loop_resumed at a p pauses run later e f old m0 m1 m2 new r1 r2 r own learns later_is body f_is restart pair is_left =
    let c = at.cell in
    let way = at.direction in
    let n = at.traps in
    let d = c + n + 3 in
    let E = env_of e in
    let bits = pauses_of pauses in
    let X = sheet_in (cell_at old) true p d n in
    let Y = sheet_in (cell_at old) false p (d + sheet_size true p n) n in
    let w = two_swept true false p p d n (live_swept way p bits run E) (swept way false p
    (env_of f) later) old m0 m1 m2 r1 r2
    (λ i l u. learns.later i (omega arith)) body restart in
    let F = told E (emits is_sure true p (live_swept way p bits run E X)) in
    let inside : env_of f ≡ F = inside_is true p E f _ _ r1.judged w.first_found w.first f_is in
    let k : later ≡ ends (live_swept way p bits run E X).cells
    = ends_found true p (sheet_in (cell_at m2) true p d n) later r1.judged w.first_found later_is
    ∙ ap (λ (T : Sheet true p). ends T.cells) w.first in
    node_is_swept true (Loop' a p) c n (live_swept_parts way (Loop' a p) bits run E)
    (λ U. (live_gates (Loop' a p) bits run E U).cells) Absent old m0 m2 new own r2.past r learns
    (two w.first (w.second
    ∙ (ap (λ (z : Env). swept way false p z later Y) inside ∙ ap (λ (z : Status). swept way false p F z Y) k)))
    (widen _ _ _ _ m0 m2 (omega arith) (omega arith) w.changes)
    (paired then_codes _ _ _ _ _ _ _ _ r1.judged r2.judged own w.first_found w.second_found pair) is_left
    (let x = w.past in omega arith)

pub trap_resumed : (at : StatementPlace) (a : _) (p : Statement) (pauses : PauseSet) (run : Status) (e : Known)
    (old m0 m1 new : List Status) (r1 r : Swept) (own : MustCan) → Learns at.cell Absent old m0
    → IsResumed p (trapped_at at) pauses run e m0 m1 r1
    → IsTrapped r1.judged own → IsFinished at.cell at.traps own r1.past m1 new r
    → IsResumed (Trap' a p) at pauses run e old new r
unfolding IsResumed
trap_resumed at a p pauses run e old m0 m1 new r1 r own learns body trapped is_left =
    let c = at.cell in
    let way = at.direction in
    let n = at.traps in
    let E = env_of e in
    let bits = pauses_of pauses in
    let w = one_swept true p (c + n + 3) (n + 1) (live_swept way p bits run E) old m0 m1 r1
    (λ i l u. learns.later i (omega arith)) body in
    node_is_swept true (Trap' a p) c n (live_swept_parts way (Trap' a p) bits run E)
    (λ U. (live_gates (Trap' a p) bits run E U).cells) Absent old m0 m1 new own r1.past r learns w.sheet
    (widen _ _ _ _ m0 m1 (omega arith) (omega arith) w.changes)
    (record {
      must = trapped.must ∙ ap codes_out_of_trap w.found.must;
      can = trapped.can ∙ ap codes_out_of_trap w.found.can;
      emits = trapped.emits ∙ w.found.emits;
      may_emit = trapped.may_emit ∙ w.found.may_emit;
    })
    is_left (let x = w.past in omega arith)

pub local_resumed : (at : StatementPlace) (s : LocalSignal) (a : _) (p : Statement) (pauses : PauseSet)
    (run status : Status)
    (e inside : Known) (old m0 m1 m2 new : List Status) (r1 r : Swept) (own : MustCan) → Learns at.cell Absent old m0
    → env_of inside ≡ with_local (env_of e) s.index (cell_at m0 (at.cell + at.traps + 3))
    → IsResumed p (part_at at (at.number + 1) (at.cell + at.traps + 3 + 1)) pauses run inside m0 m1 r1
    → status ≡ verdict (set_of r1.judged.must.signals (inner s.index)) (set_of r1.judged.can.signals (inner s.index))
    → Learns (at.cell + at.traps + 3) status m1 m2
    → IsHidden s.index r1.judged own → IsFinished at.cell at.traps own r1.past m2 new r
    → IsResumed (Binder' s a p) at pauses run e old new r
unfolding IsResumed
local_resumed at s a p pauses run status e inside old m0 m1 m2 new r1 r own learns inside_is body status_is tells hidden
    is_left =
    let c = at.cell in
    let way = at.direction in
    let n = at.traps in
    let E = env_of e in
    let bits = pauses_of pauses in
    let w = local_swept true s.index p c n (λ v. live_swept way p bits run
    (with_local E s.index v)) Absent status old m0 m1
    m2 r1 learns
    (subst (λ (z : Env). IsSwept true p (c + n + 3 + 1) n (live_swept way p bits run z) m0 m1 r1) inside_is body)
    status_is
    tells in
    node_is_swept true (Binder' s a p) c n (live_swept_parts way (Binder' s a p) bits run E)
    (λ U. (live_gates (Binder' s a p) bits run E U).cells) Absent old m0 m2 new own r1.past r learns
    (scoped (w.status ∙ ap (λ (z : Sheet true p). learned (cell_at old (c + n + 3)) (emitted_status true p s.index z))
    w.body) w.body)
    (widen _ _ _ _ m0 m2 (omega arith) (omega arith) w.changes)
    (hidden_found s.index _ _ _ _ r1.judged own w.found hidden) is_left (let x = w.past in omega arith)

-- a part that is begun
pub begun_chosen : (n : ℕ) (way : Direction) (main : Bool) (c t : ℕ) (p : Statement) (pauses : PauseSet) (is_on : Bool)
    (gate run : Status)
    (e : Known)
    (old new : List Status) (r : Swept) → main ≡ true → is_on ≡ false
    → IsBegun p (record { number = n; main = main; cell = c; traps = t; direction = way }) gate e old new r
    → IsChosen p (record { number = n; main = main; cell = c; traps = t; direction = way }) pauses is_on gate run e
    old new r
unfolding IsBegun
begun_chosen n way true c t p pauses is_on gate run e old new r h off b =
    subst (λ (z : Bool). IsSwept true p c t
    (λ T. cond z (live_swept way p (pauses_of pauses) run (env_of e) T) (swept way true p (env_of e) gate T))
    old new r) (sym off) b
begun_chosen n way false c t p pauses is_on gate run e old new r h off b = let z : false ≡ true = h in cc

-- a part that goes on
pub resumed_chosen : (at : StatementPlace) (p : Statement) (pauses : PauseSet) (is_on : Bool) (gate run : Status)
    (e : Known)
    (old new : List Status) (r : Swept) → is_on ≡ true → IsResumed p at pauses run e old new r
    → IsChosen p at pauses is_on gate run e old new r
unfolding IsResumed
resumed_chosen at p pauses is_on gate run e old new r on b =
    subst (λ (z : Bool). IsSwept true p at.cell at.traps
    (λ T. cond z (live_swept at.direction p (pauses_of pauses) run (env_of e) T) (swept at.direction true p
    (env_of e) gate T)) old new r)
    (sym on) b

-- places are still within the cells after a part was swept
pub resumed_one : (lo k : ℕ) (old m0 m1 : List Status) (s : Statement) (at : StatementPlace) (pauses : PauseSet)
    (run : Status)
    (e : Known)
    (r : Swept) → lo + k ≤ length old → length m0 ≡ length old → IsResumed s at pauses run e m0 m1 r → lo ≤ length m1
unfolding IsResumed
resumed_one lo k old m0 m1 s at pauses run e r h m b = let n = b.changes.size in omega arith

pub resumed_two : (lo k j : ℕ) (old m0 m1 m2 : List Status) (s t : Statement) (at bt : StatementPlace)
    (pauses : PauseSet)
    (run gate : Status) (e f : Known) (r q : Swept) → lo + k + j ≤ length old → length m0 ≡ length old
    → IsResumed s at pauses run e m0 m1 r → IsBegun t bt gate f m1 m2 q → lo ≤ length m2
unfolding IsBegun IsResumed
resumed_two lo k j old m0 m1 m2 s t at bt pauses run gate e f r q h m b d =
    let n = b.changes.size in
    let o = d.changes.size in
    omega arith

pub resumed_next : (old m0 m1 : List Status) (s : Statement) (at : StatementPlace) (pauses : PauseSet) (run : Status)
    (e : Known)
    (r : Swept)
    (j : ℕ) → IsResumed s at pauses run e m0 m1 r → at.cell + sheet_size true s at.traps + j ≤ length old
    → length m0 ≡ length old → r.past + j ≤ length m1
unfolding IsResumed
resumed_next old m0 m1 s at pauses run e r j b h m =
    let n = b.changes.size in
    let o = b.past in
    omega arith

pub resumed_local : (a k : ℕ) (old m0 m1 : List Status) (s : Statement) (at : StatementPlace) (pauses : PauseSet)
    (run : Status)
    (e : Known)
    (r : Swept) → a + 4 + k ≤ length old → length m0 ≡ length old → IsResumed s at pauses run e m0 m1 r
    → a + 3 < length m1
unfolding IsResumed
resumed_local a k old m0 m1 s at pauses run e r h m b = let n = b.changes.size in omega arith

pub resumed_told : (a k : ℕ) (old m0 m1 m2 : List Status) (s : Statement) (at : StatementPlace) (pauses : PauseSet)
    (run : Status)
    (e : Known) (r : Swept) → a + 4 + k ≤ length old → length m0 ≡ length old → IsResumed s at pauses run e m0 m1 r
    → length m2 ≡ length m1 → a + 3 ≤ length m2
unfolding IsResumed
resumed_told a k old m0 m1 m2 s at pauses run e r h m b d = let n = b.changes.size in omega arith
