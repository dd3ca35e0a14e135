-- Each kind of statement that is begun, if at all, after a sweep.
use Rattle.std.specs.Prelude.{◌≡◌, ◌<◌, ◌≤◌, ◌+◌, ℕ, Bool, true, false, List, length}
use Rattle.std.proofs.Common.{refl, ap, sym, ◌∙◌, arith, subst}
use Rattle.est_kernel.specs.Codes.{Codes, either_code, max_codes, codes_out_of_trap}
use Rattle.est_kernel.specs.CodeViews.{codes_of}
use Rattle.est_kernel.specs.Term.{inner}
use Rattle.est_kernel.specs.View.{query_of}
use Rattle.est_kernel.specs.declared.statement.LocalSignal.{LocalSignal}
use Rattle.est_kernel.specs.declared.statement.Statement.{Statement}
use Rattle.est_kernel.specs.declared.statement.Statement.TheVariants.{Present', Suspend', Seq'}
use Rattle.est_kernel.specs.declared.statement.Statement.TheVariants.{Loop', Par', Trap', Local' as Binder'}
use Rattle.est_meaning.specs.Signals.{Signals, union, without}
use Rattle.est_meaning.specs.Environments.{Env, and_status, opposite, status_of, verdict, with_local}
use Rattle.est_meaning.specs.declared.status.Status.{Status}
use Rattle.est_meaning.specs.declared.status.Status.TheVariants.{Absent}
use Rattle.est_meaning.specs.Views.{env_of, set_of}
use Rattle.est_meaning.specs.declared.signal_set.Env.{Env as Known}
use Rattle.est_cells.proofs.Reach.{union_none}
use Rattle.est_cells.proofs.ValuesAreMeant.{two}
use Rattle.est_cells.specs.Gates.{ends, emitted_status, gates, then_codes}
use Rattle.est_cells.specs.Tables.{Sheet, sheet_size, emits, is_sure}
use Rattle.est_net.specs.Cells.{cell_at, learned, Learns}
use Rattle.est_net.specs.Layout.{parts_in, sheet_in}
use Rattle.est_rounds.specs.declared.acts.MustCan.{MustCan}
use Rattle.est_micro.specs.Sweeps.{swept_parts, swept, told}
use Rattle.est_micro.specs.declared.direction.Direction.{Direction}
use Rattle.est_micro.specs.declared.direction.Direction.TheVariants.{Forwards, Backwards}
use Rattle.est_micro.specs.Inner.Views.{Changes, IsJudged, IsFinished, IsPaired, IsSwept, IsBegun}
use Rattle.est_micro.specs.declared.cells.Swept.{Swept}
use Rattle.est_micro.specs.declared.cells.StatementPlace.{StatementPlace}
use Rattle.est_micro.proofs.Frames.{scoped, sheet_same, changes_then, learn_changes}
use Rattle.est_micro.proofs.Nodes.{JudgedOf, Owned, one_swept, two_swept, two_swept_back, node_is_swept, ends_found}
use Rattle.est_micro.proofs.Nodes.{is_backwards, is_forwards}

pub widen : (lo lo' hi hi' : ℕ) (a b : List Status) → lo' ≤ lo → hi ≤ hi' → Changes lo hi a b → Changes lo' hi' a b
widen lo lo' hi hi' a b k l x = record {
  before = λ i o. x.before i (omega arith);
  after = λ i o. x.after i (omega arith);
  size = x.size;
  more = x.more;
  quiet = x.quiet;
}

pub nothing_changes : (lo hi : ℕ) (a : List Status) → Changes lo hi a a
nothing_changes lo hi a =
    record { before = λ i o. refl; after = λ i o. refl; size = refl; more = omega arith; quiet = λ e. refl }

-- of two parts that are judged
pub paired : (f : Codes → Codes → Codes) (a b c d : Codes) (s u v w : Signals) (x y j : MustCan) → IsJudged a b s u x
    → IsJudged c d v w y → IsPaired f x y j → IsJudged (f a c) (f b d) (union s v) (union u w) j
paired f a b c d s u v w x y j h k l = record {
  must = l.must ∙ (ap (λ (z : Codes). f z (codes_of y.must.codes)) h.must ∙ ap (λ (z : Codes). f a z) k.must);
  can = l.can ∙ (ap (λ (z : Codes). f z (codes_of y.can.codes)) h.can ∙ ap (λ (z : Codes). f b z) k.can);
  emits = l.emits
      ∙ (ap (λ (z : Signals). union z (set_of y.must.signals)) h.emits ∙ ap (λ (z : Signals). union s z) k.emits);
  may_emit =
      l.may_emit
      ∙ (ap (λ (z : Signals). union z (set_of y.can.signals)) h.may_emit ∙ ap (λ (z : Signals). union u z) k.may_emit);
}

-- a statement without parts
pub leaf_begun : (s : Statement) (at : StatementPlace) (gate : Status) (e : Known) (old m0 new : List Status)
    (own : MustCan)
    (r : Swept)
    → sheet_size at.main s at.traps ≡ at.traps + 3
    → parts_in (cell_at m0) at.main s at.cell at.traps
    ≡ swept_parts at.direction at.main s (env_of e) (cell_at m0 at.cell) (parts_in
    (cell_at old) at.main s at.cell at.traps)
    → Owned at.main s (λ U. (gates at.main s gate (env_of e) U).cells)
    (sheet_in (cell_at m0) at.main s at.cell at.traps) own
    → Learns at.cell gate old m0 → IsFinished at.cell at.traps own (at.cell + at.traps + 3) m0 new r
    → IsBegun s at gate e old new r
unfolding IsBegun
leaf_begun s at gate e old m0 new own r size parts owned learns is_left =
    node_is_swept at.main s at.cell at.traps (swept_parts at.direction at.main s (env_of e))
    (λ U. (gates at.main s gate (env_of e) U).cells) gate
    old m0 m0 new own (at.cell + at.traps + 3) r learns parts (nothing_changes _ _ m0) owned is_left (omega arith)

-- the place of a part
abbrev pub part_at : StatementPlace → (number cell : ℕ) → StatementPlace
part_at at n d = record { number = n; main = at.main; cell = d; traps = at.traps; direction = at.direction }

-- the place of a trap's body
abbrev pub trapped_at : StatementPlace → StatementPlace
trapped_at at = record {
  number = at.number + 1;
  main = at.main;
  cell = at.cell + at.traps + 3;
  traps = at.traps + 1;
  direction = at.direction;
}

pub present_begun : (n : ℕ) (at : StatementPlace) (t : _) (a : _) (p : Statement) (b : _) (q : Statement)
    (gate asked g1 g2 o go : Status) (e : Known)
    (old m0 m1 m2 new : List Status) (r1 r2 r : Swept) (own : MustCan)
    → asked ≡ status_of (env_of e) (query_of t) → Learns at.cell gate old m0 → go ≡ cell_at m0 at.cell
    → g1 ≡ and_status go asked → o ≡ opposite asked → g2 ≡ and_status go o
    → IsBegun p (part_at at (at.number + 1) (at.cell + at.traps + 3)) g1 e m0 m1 r1
    → IsBegun q (part_at at n r1.past) g2 e m1 m2 r2
    → IsPaired either_code r1.judged r2.judged own → IsFinished at.cell at.traps own r2.past m2 new r
    → IsBegun (Present' t a p b q) at gate e old new r
unfolding IsBegun
present_begun n at t a p b q gate asked g1 g2 o go e old m0 m1 m2 new r1 r2 r own asks learns go_is g1_is o_is g2_is
    first
    second pair is_left =
    let main = at.main in
    let way = at.direction in
    let d = at.cell + at.traps + 3 in
    let E = env_of e in
    let s0 = cell_at old in
    let w = two_swept main main p q d at.traps (swept way main p E g1) (swept way main q E g2) old m0 m1 m2 r1 r2
    (λ i l u. learns.later i (omega arith)) first second in
    let k1 : g1 ≡ and_status (cell_at m0 at.cell) (status_of E (query_of t))
    = g1_is ∙ (ap (λ (z : Status). and_status z asked) go_is
    ∙ ap (λ (z : Status). and_status (cell_at m0 at.cell) z) asks) in
    let k2 : g2 ≡ and_status (cell_at m0 at.cell) (opposite (status_of E (query_of t)))
    = g2_is ∙ (ap (λ (z : Status). and_status z o) go_is ∙ ap (λ (z : Status). and_status (cell_at m0 at.cell) z)
    (o_is ∙ ap opposite asks)) in
    node_is_swept main (Present' t a p b q) at.cell at.traps (swept_parts way main (Present' t a p b q) E)
    (λ U. (gates main (Present' t a p b q) gate E U).cells) gate old m0 m2 new own r2.past r learns
    (two (w.first ∙ ap (λ (z : Status). swept way main p E z (sheet_in s0 main p d at.traps)) k1)
    (w.second ∙ ap (λ (z : Status). swept way main q E z (sheet_in s0 main q (d + sheet_size main p at.traps) at.traps))
    k2))
    (widen _ _ _ _ m0 m2 (omega arith) (omega arith) w.changes)
    (paired either_code _ _ _ _ _ _ _ _ r1.judged r2.judged own w.first_found w.second_found pair) is_left
    (let x = w.past in omega arith)

-- what is known where a part surely emits
pub inside_is : (main : Bool) (p : Statement) (E : Env) (f : Known) (S T : Sheet main p) (j : MustCan)
    → JudgedOf main p S j → S ≡ T → env_of f ≡ told E (set_of j.must.signals)
    → env_of f ≡ told E (emits is_sure main p T)
inside_is main p E f S T j h s e = e ∙ ap (λ (z : Signals). told E z) (h.emits ∙ ap (emits is_sure main p) s)

pub seq_begun : (n : ℕ) (at : StatementPlace) (a : _) (p : Statement) (b : _) (q : Statement) (gate later go : Status)
    (e f : Known)
    (old m0 m1 m2 new : List Status) (r1 r2 r : Swept) (own : MustCan)
    → Learns at.cell gate old m0 → go ≡ cell_at m0 at.cell
    → later ≡ verdict (codes_of r1.judged.must.codes 0) (codes_of r1.judged.can.codes 0)
    → env_of f ≡ told (env_of e) (set_of r1.judged.must.signals)
    → IsBegun p (part_at at (at.number + 1) (at.cell + at.traps + 3)) go e m0 m1 r1
    → IsBegun q (part_at at n r1.past) later f m1 m2 r2
    → IsPaired then_codes r1.judged r2.judged own → IsFinished at.cell at.traps own r2.past m2 new r
    → IsBegun (Seq' a p b q) at gate e old new r
unfolding IsBegun
seq_begun n at a p b q gate later go e f old m0 m1 m2 new r1 r2 r own learns go_is later_is f_is first second pair
    is_left =
    let main = at.main in
    let way = at.direction in
    let d = at.cell + at.traps + 3 in
    let E = env_of e in
    let s0 = cell_at old in
    let w = two_swept main main p q d at.traps (swept way main p E go) (swept way main q
    (env_of f) later) old m0 m1 m2 r1 r2
    (λ i l u. learns.later i (omega arith)) first second in
    let one = w.first ∙ ap (λ (z : Status). swept way main p E z (sheet_in s0 main p d at.traps)) go_is in
    let X = sheet_in s0 main p d at.traps in
    let Y = sheet_in s0 main q (d + sheet_size main p at.traps) at.traps in
    let F = told E (emits is_sure main p (swept way main p E (cell_at m0 at.cell) X)) in
    let inside : env_of f ≡ F = inside_is main p E f _ _ r1.judged w.first_found one f_is in
    let k : later ≡ ends (swept way main p E (cell_at m0 at.cell) (sheet_in s0 main p d at.traps)).cells
    = ends_found main p (sheet_in (cell_at m2) main p d at.traps) later r1.judged w.first_found later_is
    ∙ ap (λ (T : Sheet main p). ends T.cells) one in
    node_is_swept main (Seq' a p b q) at.cell at.traps (swept_parts way main (Seq' a p b q) E)
    (λ U. (gates main (Seq' a p b q) gate E U).cells) gate old m0 m2 new own r2.past r learns
    (two one
    (w.second ∙ (ap (λ (z : Env). swept way main q z later Y) inside ∙ ap (λ (z : Status). swept way main q F z Y) k)))
    (widen _ _ _ _ m0 m2 (omega arith) (omega arith) w.changes)
    (paired then_codes _ _ _ _ _ _ _ _ r1.judged r2.judged own w.first_found w.second_found pair) is_left
    (let x = w.past in omega arith)

pub par_begun : (n : ℕ) (at : StatementPlace) (a : _) (p : Statement) (b : _) (q : Statement) (gate go : Status)
    (e f : Known)
    (old m0 m1 m2 new : List Status) (r1 r2 r : Swept) (own : MustCan)
    → at.direction ≡ Forwards → Learns at.cell gate old m0 → go ≡ cell_at m0 at.cell
    → env_of f ≡ told (env_of e) (set_of r1.judged.must.signals)
    → IsBegun p (part_at at (at.number + 1) (at.cell + at.traps + 3)) go e m0 m1 r1
    → IsBegun q (part_at at n r1.past) go f m1 m2 r2
    → IsPaired max_codes r1.judged r2.judged own → IsFinished at.cell at.traps own r2.past m2 new r
    → IsBegun (Par' a p b q) at gate e old new r
unfolding IsBegun
par_begun n at a p b q gate go e f old m0 m1 m2 new r1 r2 r own goes learns go_is f_is first second pair
    is_left =
    let main = at.main in
    let way = at.direction in
    let d = at.cell + at.traps + 3 in
    let E = env_of e in
    let s0 = cell_at old in
    let w = two_swept main main p q d at.traps (swept way main p E go) (swept way main q
    (env_of f) go) old m0 m1 m2 r1 r2
    (λ i l u. learns.later i (omega arith)) first second in
    let X = sheet_in s0 main p d at.traps in
    let Y = sheet_in s0 main q (d + sheet_size main p at.traps) at.traps in
    let one = w.first ∙ ap (λ (z : Status). swept way main p E z X) go_is in
    let F = told E (emits is_sure main p (swept way main p E (cell_at m0 at.cell) X)) in
    let inside : env_of f ≡ F = inside_is main p E f _ _ r1.judged w.first_found one f_is in
    node_is_swept main (Par' a p b q) at.cell at.traps (swept_parts way main (Par' a p b q) E)
    (λ U. (gates main (Par' a p b q) gate E U).cells) gate old m0 m2 new own r2.past r learns
    (is_forwards way _ _ _ goes (two one
    (w.second ∙ (ap (λ (z : Env). swept way main q z go Y) inside ∙ ap (λ
    (z : Status). swept way main q F z Y) go_is))))
    (widen _ _ _ _ m0 m2 (omega arith) (omega arith) w.changes)
    (paired max_codes _ _ _ _ _ _ _ _ r1.judged r2.judged own w.first_found w.second_found pair) is_left
    (let x = w.past in omega arith)

pub par_begun_back : (n : ℕ) (at : StatementPlace) (a : _) (p : Statement) (b : _) (q : Statement) (gate go : Status)
    (k : ℕ)
    (e f : Known)
    (old m0 m1 m2 new : List Status) (r1 r2 r : Swept) (own : MustCan)
    → at.direction ≡ Backwards → Learns at.cell gate old m0 → go ≡ cell_at m0 at.cell
    → k ≡ at.cell + at.traps + 3 + sheet_size at.main p at.traps
    → env_of f ≡ told (env_of e) (set_of r2.judged.must.signals)
    → IsBegun q (part_at at n k) go e m0 m1 r2
    → IsBegun p (part_at at (at.number + 1) (at.cell + at.traps + 3)) go f m1 m2 r1
    → IsPaired max_codes r1.judged r2.judged own → IsFinished at.cell at.traps own r2.past m2 new r
    → IsBegun (Par' a p b q) at gate e old new r
unfolding IsBegun
par_begun_back n at a p b q gate go k e f old m0 m1 m2 new r1 r2 r own goes learns go_is k_is f_is second first pair
    is_left =
    let main = at.main in
    let way = at.direction in
    let d = at.cell + at.traps + 3 in
    let E = env_of e in
    let s0 = cell_at old in
    let w = two_swept_back main main p q d at.traps k (swept way main p (env_of f) go) (swept way main q E go)
    old m0 m1 m2 r1 r2 k_is (λ i l u. learns.later i (omega arith)) second first in
    let X = sheet_in s0 main p d at.traps in
    let Y = sheet_in s0 main q (d + sheet_size main p at.traps) at.traps in
    let one = w.second ∙ ap (λ (z : Status). swept way main q E z Y) go_is in
    let F = told E (emits is_sure main q (swept way main q E (cell_at m0 at.cell) Y)) in
    let inside : env_of f ≡ F = inside_is main q E f _ _ r2.judged w.second_found one f_is in
    node_is_swept main (Par' a p b q) at.cell at.traps (swept_parts way main (Par' a p b q) E)
    (λ U. (gates main (Par' a p b q) gate E U).cells) gate old m0 m2 new own r2.past r learns
    (is_backwards way _ _ _ goes (two
    (w.first ∙ (ap (λ (z : Env). swept way main p z go X) inside ∙ ap (λ (z : Status). swept way main p F z X) go_is))
    one))
    (widen _ _ _ _ m0 m2 (omega arith) (omega arith) w.changes)
    (paired max_codes _ _ _ _ _ _ _ _ r1.judged r2.judged own w.first_found w.second_found pair) is_left
    (let x = w.past in omega arith)

pub suspend_begun : (at : StatementPlace) (t : _) (a : _) (p : Statement) (gate go : Status) (e : Known)
    (old m0 m1 new : List Status) (r1 r : Swept) → Learns at.cell gate old m0 → go ≡ cell_at m0 at.cell
    → IsBegun p (part_at at (at.number + 1) (at.cell + at.traps + 3)) go e m0 m1 r1
    → IsFinished at.cell at.traps r1.judged r1.past m1 new r
    → IsBegun (Suspend' t a p) at gate e old new r
unfolding IsBegun
suspend_begun at t a p gate go e old m0 m1 new r1 r learns go_is body is_left =
    let main = at.main in
    let way = at.direction in
    let d = at.cell + at.traps + 3 in
    let E = env_of e in
    let w = one_swept main p d at.traps (swept way main p E go) old m0 m1 r1 (λ i l u. learns.later i
    (omega arith)) body in
    node_is_swept main (Suspend' t a p) at.cell at.traps (swept_parts way main (Suspend' t a p) E)
    (λ U. (gates main (Suspend' t a p) gate E U).cells) gate old m0 m1 new r1.judged r1.past r learns
    (w.sheet ∙ ap (λ (z : Status). swept way main p E z (sheet_in (cell_at old) main p d at.traps)) go_is)
    (widen _ _ _ _ m0 m1 (omega arith) (omega arith) w.changes) w.found is_left (let x = w.past in omega arith)

-- what is judged outside a trap; outside a binder
abbrev pub IsTrapped : MustCan → MustCan → Type 0
IsTrapped x j = IsJudged (codes_out_of_trap (codes_of x.must.codes)) (codes_out_of_trap (codes_of x.can.codes))
    (set_of x.must.signals) (set_of x.can.signals) j

abbrev pub IsHidden : ℕ → MustCan → MustCan → Type 0
IsHidden s x j = IsJudged (codes_of x.must.codes) (codes_of x.can.codes) (without s (set_of x.must.signals))
    (without s (set_of x.can.signals)) j

pub trap_begun : (at : StatementPlace) (a : _) (p : Statement) (gate go : Status) (e : Known)
    (old m0 m1 new : List Status) (r1 r : Swept) (own : MustCan) → Learns at.cell gate old m0
    → go ≡ cell_at m0 at.cell
    → IsBegun p (trapped_at at) go e m0 m1 r1
    → IsTrapped r1.judged own → IsFinished at.cell at.traps own r1.past m1 new r
    → IsBegun (Trap' a p) at gate e old new r
unfolding IsBegun
trap_begun at a p gate go e old m0 m1 new r1 r own learns go_is body trapped is_left =
    let main = at.main in
    let way = at.direction in
    let d = at.cell + at.traps + 3 in
    let t = at.traps + 1 in
    let E = env_of e in
    let w = one_swept main p d t (swept way main p E go) old m0 m1 r1 (λ i l u. learns.later i (omega arith)) body in
    node_is_swept main (Trap' a p) at.cell at.traps (swept_parts way main (Trap' a p) E)
    (λ U. (gates main (Trap' a p) gate E U).cells) gate old m0 m1 new own r1.past r learns
    (w.sheet ∙ ap (λ (z : Status). swept way main p E z (sheet_in (cell_at old) main p d t)) go_is)
    (widen _ _ _ _ m0 m1 (omega arith) (omega arith) w.changes)
    (record {
      must = trapped.must ∙ ap codes_out_of_trap w.found.must;
      can = trapped.can ∙ ap codes_out_of_trap w.found.can;
      emits = trapped.emits ∙ w.found.emits;
      may_emit = trapped.may_emit ∙ w.found.may_emit;
    })
    is_left (let x = w.past in omega arith)

-- what is judged of a part that gives the codes, and of one that only emits
abbrev pub IsEmitting : MustCan → MustCan → MustCan → Type 0
IsEmitting x y j = IsJudged (codes_of x.must.codes) (codes_of x.can.codes)
    (union (set_of x.must.signals) (set_of y.must.signals))
    (union (set_of x.can.signals) (set_of y.can.signals)) j

pub emitting_found : (a b c d : Codes) (s u v w : Signals) (x y j : MustCan) → IsJudged a b s u x → IsJudged c d v w y
    → IsEmitting x y j → IsJudged a b (union s v) (union u w) j
emitting_found a b c d s u v w x y j h k l = record {
  must = l.must ∙ h.must;
  can = l.can ∙ h.can;
  emits = l.emits
      ∙ (ap (λ (z : Signals). union z (set_of y.must.signals)) h.emits ∙ ap (λ (z : Signals). union s z) k.emits);
  may_emit =
      l.may_emit
      ∙ (ap (λ (z : Signals). union z (set_of y.can.signals)) h.may_emit ∙ ap (λ (z : Signals). union u z) k.may_emit);
}

-- a loop that was begun again has no restart of its own
pub again_begun : (m n : ℕ) (way : Direction) (main : Bool) (c t : ℕ) (a : _) (p : Statement) (gate go : Status)
    (e : Known)
    (old m0 m1 new : List Status) (r1 r : Swept) → main ≡ false → Learns c gate old m0 → go ≡ cell_at m0 c
    → IsBegun p (record { number = n; main = main; cell = c + t + 3; traps = t; direction = way }) go e m0 m1 r1
    → IsFinished c t r1.judged r1.past m1 new r
    → IsBegun (Loop' a p) (record { number = m; main = main; cell = c; traps = t; direction = way }) gate e old new r
unfolding IsBegun
again_begun m n way true c t a p gate go e old m0 m1 new r1 r h learns go_is body is_left = let z : true ≡ false = h
    in cc
again_begun m n way false c t a p gate go e old m0 m1 new r1 r h learns go_is body is_left =
    let d = c + t + 3 in
    let E = env_of e in
    let w = one_swept false p d t (swept way false p E go) old m0 m1 r1 (λ i l u. learns.later i (omega arith)) body in
    node_is_swept false (Loop' a p) c t (swept_parts way false (Loop' a p) E)
    (λ U. (gates false (Loop' a p) gate E U).cells) gate
    old m0 m1 new r1.judged r1.past r learns
    (two (w.sheet ∙ ap (λ (z : Status). swept way false p E z (sheet_in (cell_at old) false p d t)) go_is) refl)
    (widen _ _ _ _ m0 m1 (omega arith) (omega arith) w.changes)
    (record {
      must = w.found.must;
      can = w.found.can;
      emits = w.found.emits ∙ sym (union_none _);
      may_emit = w.found.may_emit ∙ sym (union_none _);
    })
    is_left (let x = w.past in omega arith)

-- a loop that can go on, with its body as the restart begins it
pub loop_begun : (m n : ℕ) (way : Direction) (main : Bool) (c t : ℕ) (a : _) (p : Statement) (gate go : Status)
    (e : Known)
    (old m0 m1 m2 new : List Status) (r1 r2 r : Swept) (own : MustCan) → main ≡ true → Learns c gate old m0
    → go ≡ cell_at m0 c
    → IsBegun p (record { number = n; main = main; cell = c + t + 3; traps = t; direction = way }) go e m0 m1 r1
    → IsBegun p (record { number = n; main = false; cell = r1.past; traps = t; direction = way }) Absent e m1 m2 r2
    → IsEmitting r1.judged r2.judged own → IsFinished c t own r2.past m2 new r
    → IsBegun (Loop' a p) (record { number = m; main = main; cell = c; traps = t; direction = way }) gate e old new r
unfolding IsBegun
loop_begun m n way false c t a p gate go e old m0 m1 m2 new r1 r2 r own h learns go_is body restart pair is_left =
    let z : false ≡ true = h in cc
loop_begun m n way true c t a p gate go e old m0 m1 m2 new r1 r2 r own h learns go_is body restart pair is_left =
    let d = c + t + 3 in
    let E = env_of e in
    let w = two_swept true false p p d t (swept way true p E go) (swept way false p E Absent) old m0 m1 m2 r1 r2
    (λ i l u. learns.later i (omega arith)) body restart in
    node_is_swept true (Loop' a p) c t (swept_parts way true (Loop' a p) E)
    (λ U. (gates true (Loop' a p) gate E U).cells) gate
    old m0 m2 new own r2.past r learns
    (two (w.first ∙ ap (λ (z : Status). swept way true p E z (sheet_in (cell_at old) true p d t)) go_is) w.second)
    (widen _ _ _ _ m0 m2 (omega arith) (omega arith) w.changes)
    (emitting_found _ _ _ _ _ _ _ _ r1.judged r2.judged own w.first_found w.second_found pair) is_left
    (let x = w.past in omega arith)

-- a local signal's binder: its body, and then the status
pub record LocalSwept (main : Bool) (s : ℕ) (p : Statement) (c t : ℕ) (F : Status → Sheet main p → Sheet main p)
    (old m0 m2 : List Status) (r1 : Swept) : Type 0 where
  pub body : sheet_in (cell_at m2) main p (c + t + 4) t ≡ F (cell_at old (c + t + 3))
      (sheet_in (cell_at old) main p (c + t + 4) t)
  pub status : cell_at m2 (c + t + 3) ≡ learned (cell_at old (c + t + 3))
      (emitted_status main p s (sheet_in (cell_at m2) main p (c + t + 4) t))
  pub found : JudgedOf main p (sheet_in (cell_at m2) main p (c + t + 4) t) r1.judged
  pub changes : Changes (c + t + 3) (c + t + 4 + sheet_size main p t) m0 m2
  pub past : r1.past ≡ c + t + 4 + sheet_size main p t

pub local_swept : (main : Bool) (s : ℕ) (p : Statement) (c t : ℕ) (F : Status → Sheet main p → Sheet main p)
    (gate status : Status)
    (old m0 m1 m2 : List Status) (r1 : Swept) → Learns c gate old m0
    → IsSwept main p (c + t + 3 + 1) t (F (cell_at m0 (c + t + 3))) m0 m1 r1
    → status ≡ verdict (set_of r1.judged.must.signals (inner s)) (set_of r1.judged.can.signals (inner s))
    → Learns (c + t + 3) status m1 m2 → LocalSwept main s p c t F old m0 m2 r1
local_swept main s p c t F gate status old m0 m1 m2 r1 learns body' status_is tells =
    let k = c + t + 3 in
    let d = c + t + 4 in
    let at_k : cell_at m0 k ≡ cell_at old k = learns.later k (omega arith) in
    let body : IsSwept main p d t (F (cell_at m0 k)) m0 m1 r1
    = subst (λ (z : ℕ). IsSwept main p z t (F (cell_at m0 k)) m0 m1 r1)
    (let e : c + t + 3 + 1 ≡ c + t + 4 = omega arith in e) body' in
    let X = sheet_in (cell_at m1) main p d t in
    let Y = sheet_in (cell_at m2) main p d t in
    let same : Y ≡ X = sheet_same (cell_at m2) (cell_at m1) main p d t (λ i l u. tells.later i (omega arith)) in
    let f = body.found in
    let emitted : status ≡ emitted_status main p s X
    = status_is ∙ (ap (λ (z : Signals). verdict (z (inner s)) (set_of r1.judged.can.signals (inner s))) f.emits
    ∙ ap (λ (z : Signals). verdict (emits is_sure main p X (inner s)) (z (inner s))) f.may_emit) in
    record {
      body = same ∙ (body.sheet ∙ (ap (λ (z : Status). F z (sheet_in (cell_at m0) main p d t)) at_k
          ∙ ap (F (cell_at old k))
          (sheet_same (cell_at m0) (cell_at old) main p d t (λ i l u. learns.later i (omega arith)))));
      status = tells.here ∙ (ap (λ (z : Status). learned z status) (body.changes.before k (omega arith) ∙ at_k)
          ∙ ap (λ (z : Status). learned (cell_at old k) z) (emitted ∙ ap (emitted_status main p s) (sym same)));
      found = subst (λ (z : Sheet main p). JudgedOf main p z r1.judged) (sym same) f;
      changes = changes_then d (d + sheet_size main p t) k (k + 1) k (d + sheet_size main p t) m0 m1 m2
          (omega arith) (omega arith) (omega arith) (omega arith) body.changes (learn_changes k status m1 m2 tells);
      past = body.past;
    }

-- what is judged outside a binder
pub hidden_found : (n : ℕ) (a b : Codes) (s u : Signals) (x j : MustCan) → IsJudged a b s u x → IsHidden n x j
    → IsJudged a b (without n s) (without n u) j
hidden_found n a b s u x j h l = record {
  must = l.must ∙ h.must;
  can = l.can ∙ h.can;
  emits = l.emits ∙ ap (without n) h.emits;
  may_emit = l.may_emit ∙ ap (without n) h.may_emit;
}

pub local_begun : (at : StatementPlace) (s : LocalSignal) (a : _) (p : Statement) (gate go status : Status)
    (e inside : Known)
    (old m0 m1 m2 new : List Status) (r1 r : Swept) (own : MustCan) → Learns at.cell gate old m0
    → go ≡ cell_at m0 at.cell
    → env_of inside ≡ with_local (env_of e) s.index (cell_at m0 (at.cell + at.traps + 3))
    → IsBegun p (part_at at (at.number + 1) (at.cell + at.traps + 3 + 1)) go inside m0 m1 r1
    → status ≡ verdict (set_of r1.judged.must.signals (inner s.index)) (set_of r1.judged.can.signals (inner s.index))
    → Learns (at.cell + at.traps + 3) status m1 m2
    → IsHidden s.index r1.judged own → IsFinished at.cell at.traps own r1.past m2 new r
    → IsBegun (Binder' s a p) at gate e old new r
unfolding IsBegun
local_begun at s a p gate go status e inside old m0 m1 m2 new r1 r own learns go_is inside_is body status_is tells
    hidden is_left =
    let main = at.main in
    let way = at.direction in
    let c = at.cell in
    let t = at.traps in
    let E = env_of e in
    let w = local_swept main s.index p c t (λ v. swept way main p
    (with_local E s.index v) go) gate status old m0 m1 m2 r1
    learns
    (subst (λ (z : Env). IsSwept main p (c + t + 3 + 1) t (swept way main p z go) m0 m1 r1) inside_is body) status_is
    tells in
    let f = with_local E s.index (cell_at old (c + t + 3)) in
    let one = w.body ∙ ap (λ (z : Status). swept way main p f z (sheet_in (cell_at old) main p (c + t + 4) t)) go_is in
    node_is_swept main (Binder' s a p) c t (swept_parts way main (Binder' s a p) E)
    (λ U. (gates main (Binder' s a p) gate E U).cells) gate
    old m0 m2 new own r1.past r learns
    (scoped (w.status ∙ ap (λ (z : Sheet main p). learned (cell_at old (c + t + 3)) (emitted_status main p s.index z))
    one) one)
    (widen _ _ _ _ m0 m2 (omega arith) (omega arith) w.changes)
    (hidden_found s.index _ _ _ _ r1.judged own w.found hidden) is_left (let x = w.past in omega arith)

-- places are still within the cells after a part was swept
-- the cells of a part are there, after one cell was told
pub within_same : (k : ℕ) (old m0 : List Status) → k ≤ length old → length m0 ≡ length old → k ≤ length m0
within_same k old m0 h l = omega arith

pub within_first : (a n m : ℕ) (old m0 : List Status) → a + n + m ≤ length old → length m0 ≡ length old
    → a + n ≤ length m0
within_first a n m old m0 h l = omega arith

pub within_first_local : (a n : ℕ) (old m0 : List Status) → a + 4 + n ≤ length old → length m0 ≡ length old
    → a + 3 + 1 + n ≤ length m0
within_first_local a n old m0 h l = omega arith

pub within_after : (a n m past : ℕ) (old m0 m1 : List Status) → past ≡ a + n → a + n + m ≤ length old
    → length m0 ≡ length old → length m1 ≡ length m0 → past + m ≤ length m1
within_after a n m past old m0 m1 e h l k = omega arith

pub within_two_same : (k m : ℕ) (old m0 m1 : List Status) → k + m ≤ length old → length m0 ≡ length old
    → length m1 ≡ length m0 → k ≤ length m1
within_two_same k m old m0 m1 h l n = omega arith

pub within_one : (lo k : ℕ) (old m0 m1 : List Status) (s : Statement) (at : StatementPlace) (gate : Status) (e : Known)
    (r : Swept)
    → lo + k ≤ length old → length m0 ≡ length old → IsBegun s at gate e m0 m1 r → lo ≤ length m1
unfolding IsBegun
within_one lo k old m0 m1 s at gate e r h m b = let n = b.changes.size in omega arith

pub within_two : (lo k j : ℕ) (old m0 m1 m2 : List Status) (s t : Statement) (at bt : StatementPlace)
    (gate hate : Status)
    (e f : Known)
    (r q : Swept) → lo + k + j ≤ length old → length m0 ≡ length old → IsBegun s at gate e m0 m1 r
    → IsBegun t bt hate f m1 m2 q
    → lo ≤ length m2
unfolding IsBegun
within_two lo k j old m0 m1 m2 s t at bt gate hate e f r q h m b d =
    let n = b.changes.size in
    let o = d.changes.size in
    omega arith

pub within_next : (old m0 m1 : List Status) (s : Statement) (at : StatementPlace) (gate : Status) (e : Known)
    (r : Swept) (j : ℕ)
    → IsBegun s at gate e m0 m1 r → at.cell + sheet_size at.main s at.traps + j ≤ length old → length m0 ≡ length old
    → r.past + j ≤ length m1
unfolding IsBegun
within_next old m0 m1 s at gate e r j b h m =
    let n = b.changes.size in
    let o = b.past in
    omega arith

pub within_back : (k a n m : ℕ) (old m0 : List Status) → k ≡ a + n → a + n + m ≤ length old → length m0 ≡ length old
    → k + m ≤ length m0
within_back k a n m old m0 e h l = omega arith

pub within_local : (a k : ℕ) (old m0 m1 : List Status) (s : Statement) (at : StatementPlace) (gate : Status) (e : Known)
    (r : Swept)
    → a + 4 + k ≤ length old → length m0 ≡ length old → IsBegun s at gate e m0 m1 r → a + 3 < length m1
unfolding IsBegun
within_local a k old m0 m1 s at gate e r h m b = let n = b.changes.size in omega arith

pub within_told : (a k : ℕ) (old m0 m1 m2 : List Status) (s : Statement) (at : StatementPlace) (gate : Status)
    (e : Known)
    (r : Swept)
    → a + 4 + k ≤ length old → length m0 ≡ length old → IsBegun s at gate e m0 m1 r → length m2 ≡ length m1
    → a + 3 ≤ length m2
unfolding IsBegun
within_told a k old m0 m1 m2 s at gate e r h m b d = let n = b.changes.size in omega arith
