-- A statement that is not begun, and none of whose cells is true: a sweep makes all of them false.
use Rattle.std.specs.Prelude.{◌≡◌, ◌≢◌, ◌<◌, ◌≤◌, ◌+◌, ℕ, Bool, true, false, cond, ltb, ◌&&◌, List}
use Rattle.std.proofs.Common.{refl, ap, sym, ◌∙◌, arith, subst}
use Rattle.std.proofs.lemmas.Bool.{ltb-true}
use mathlib.Core.Path.{fun_ext}
use Rattle.est_kernel.specs.Codes.{Codes, no_codes, max_codes, codes_out_of_trap, either_code}
use Rattle.est_kernel.specs.Term.{Name, inner}
use Rattle.est_kernel.specs.View.{name_of, query_of}
use Rattle.est_kernel.specs.declared.statement.Statement.{Statement}
use Rattle.est_kernel.specs.declared.statement.Statement.TheVariants.{Nothing, Pause, Emit, Present', Suspend', Seq'}
use Rattle.est_kernel.specs.declared.statement.Statement.TheVariants.{Loop', Par', Trap', Exit, Local' as Binder'}
use Rattle.est_meaning.specs.Signals.{Signals, no_signals, union, without}
use Rattle.est_meaning.specs.Environments.{Env, and_status, opposite, status_of, verdict, with_local}
use Rattle.est_meaning.specs.declared.status.Status.{Status}
use Rattle.est_meaning.specs.declared.status.Status.TheVariants.{Present, Absent, Unknown}
use Rattle.est_meaning.proofs.SteppingLemmas.{and_false}
use Rattle.est_meaning.specs.Views.{env_of}
use Rattle.est_meaning.specs.declared.signal_set.Env.{Env as Known}
use Rattle.est_cells.proofs.Emitted.{again_none, run_none}
use Rattle.est_cells.proofs.Reach.{code_none, max_none, none_then, trap_none, union_none, without_none}
use Rattle.est_cells.proofs.ValuesAreMeant.{two, ends_none}
use Rattle.est_cells.specs.Gates.{ends, emitted_status, gates, then_codes}
use Rattle.est_cells.specs.Tables.{Cells, Node, Parts, Sheet, emits, if_run}
use Rattle.est_cells.specs.Tables.{is_sure, is_possible, make_again, map_again}
use Rattle.est_cells.specs.Tables.{sheet_size}
use Rattle.est_cells.specs.Values.{idle, idle_parts, rests}
use Rattle.est_net.specs.Cells.{AreFalse, NoneTrue, cell_at, learned}
use Rattle.est_net.specs.Layout.{node_in, parts_in, possible_codes, sheet_in, sure_codes}
use Rattle.est_micro.specs.Sweeps.{entered, sure_told, may_told, sweep_by, swept, swept_parts}
use Rattle.est_micro.specs.declared.direction.Direction.{Direction}
use Rattle.est_micro.specs.Inner.Views.{IsBegun, IsIdle, IsJudged, IsSwept}
use Rattle.est_micro.specs.declared.cells.Swept.{Swept}
use Rattle.est_micro.specs.declared.cells.StatementPlace.{StatementPlace}
use Rattle.est_micro.proofs.Frames.{same_node_of, scoped, sheet_same, size_least}
use Rattle.est_micro.proofs.Told.{either_way}

-- no cell from place lo on and before place hi is true
abbrev pub Untrue : (lo hi : ℕ) (f : ℕ → Status) → Type 0
Untrue lo hi f = (i : ℕ) → lo ≤ i → i < hi → f i ≢ Present

pub untrue : (lo hi : ℕ) (cells : List Status) → NoneTrue lo hi cells → Untrue lo hi (cell_at cells)
unfolding NoneTrue
untrue lo hi cells h i l u = h i l u

-- a cell that isn't true, and is told that it is false, or a code that is not given
pub told_false : (v w : Status) → v ≢ Present → w ≡ Absent → learned v w ≡ Absent
told_false Present w d e = absurd (d refl)
told_false Absent w d e = refl
told_false Unknown w d e = e

code_rests : (pick : Status → Bool) (b : Bool) (v : Status) → pick Absent ≡ false → (b ≡ true → v ≢ Present)
    → pick (learned (verdict (b && is_sure v) (b && is_possible v)) (verdict false false)) ≡ false
code_rests pick true Present e d = absurd (d refl refl)
code_rests pick true Absent e d = e
code_rests pick true Unknown e d = e
code_rests pick false v e d = e

sure_rests : (f : ℕ → Status) (c n : ℕ) → Untrue c (c + n) f
    → sure_told (sure_codes f c n) (possible_codes f c n) no_codes no_codes ≡ no_codes
unfolding sure_told sure_codes possible_codes no_codes
sure_rests f c n h = fun_ext (λ k. code_rests is_sure (ltb k n) (f (c + k)) refl
    (λ b. h (c + k) (omega arith) (let l : k < n = ltb-true k n b in omega arith)))

may_rests : (f : ℕ → Status) (c n : ℕ) → Untrue c (c + n) f
    → may_told (sure_codes f c n) (possible_codes f c n) no_codes no_codes ≡ no_codes
unfolding may_told sure_codes possible_codes no_codes
may_rests f c n h = fun_ext (λ k. code_rests is_possible (ltb k n) (f (c + k)) refl
    (λ b. h (c + k) (omega arith) (let l : k < n = ltb-true k n b in omega arith)))

record NoCodes (c : Cells) : Type 0 where
  must : c.must ≡ no_codes
  may : c.may ≡ no_codes

gates_rest : (main : Bool) (s : Statement) (g : Status) (e : Env) (U : Sheet main s) → U.cells.go ≡ Absent
    → U.parts ≡ idle_parts main s → NoCodes (gates main s g e U).cells
gates_rest main Nothing g e U h p = record { must = rw h refl; may = rw h refl }
gates_rest main (Pause n) g e U h p = record { must = rw h refl; may = rw h refl }
gates_rest main (Emit s) g e U h p = record { must = rw h refl; may = rw h refl }
gates_rest main (Exit k) g e U h p = record { must = rw h refl; may = rw h refl }
gates_rest main (Present' t a p' b q) g e U h p = record {
  must = ap (λ x. either_code x.first.cells.must x.second.cells.must) p ∙ code_none no_codes;
  may = ap (λ x. either_code x.first.cells.may x.second.cells.may) p ∙ code_none no_codes;
}
gates_rest main (Suspend' t a p') g e U h p =
    record { must = ap (λ x. x.cells.must) p; may = ap (λ x. x.cells.may) p }
gates_rest main (Seq' a p' b q) g e U h p = record {
  must = ap (λ x. then_codes x.first.cells.must x.second.cells.must) p ∙ none_then no_codes;
  may = ap (λ x. then_codes x.first.cells.may x.second.cells.may) p ∙ none_then no_codes;
}
gates_rest main (Loop' a p') g e U h p =
    record { must = ap (λ x. x.first.cells.must) p; may = ap (λ x. x.first.cells.may) p }
gates_rest main (Par' a p' b q) g e U h p = record {
  must = ap (λ x. max_codes x.first.cells.must x.second.cells.must) p ∙ max_none;
  may = ap (λ x. max_codes x.first.cells.may x.second.cells.may) p ∙ max_none;
}
gates_rest main (Trap' a p') g e U h p = record {
  must = ap (λ x. codes_out_of_trap x.cells.must) p ∙ trap_none;
  may = ap (λ x. codes_out_of_trap x.cells.may) p ∙ trap_none;
}
gates_rest main (Binder' s a p') g e U h p =
    record { must = ap (λ x. x.body.cells.must) p; may = ap (λ x. x.body.cells.may) p }

-- an idle sheet emits nothing
both_none : (a b : Signals) → a ≡ no_signals → b ≡ no_signals → union a b ≡ no_signals
both_none a b h k = ap (λ z. union z b) h ∙ (ap (λ z. union no_signals z) k ∙ union_none no_signals)

pub emits_idle : (pick : Status → Bool) → pick Absent ≡ false → (main : Bool) (s : Statement)
    → emits pick main s (idle main s) ≡ no_signals
emits_idle pick e main Nothing = refl
emits_idle pick e main (Pause n) = refl
emits_idle pick e main (Emit s) = ap (λ b. if_run b (name_of s)) e ∙ run_none (name_of s)
emits_idle pick e main (Exit k) = refl
emits_idle pick e main (Present' t a p b q) =
    both_none _ _ (emits_idle pick e main p) (emits_idle pick e main q)
emits_idle pick e main (Suspend' t a p) = emits_idle pick e main p
emits_idle pick e main (Seq' a p b q) = both_none _ _ (emits_idle pick e main p) (emits_idle pick e main q)
emits_idle pick e main (Loop' a p) =
    both_none _ _ (emits_idle pick e main p)
    (again_none main (emits pick false p) (idle false p) (emits_idle pick e false p))
emits_idle pick e main (Par' a p b q) = both_none _ _ (emits_idle pick e main p) (emits_idle pick e main q)
emits_idle pick e main (Trap' a p) = emits_idle pick e main p
emits_idle pick e main (Binder' s a p) = ap (without s.index) (emits_idle pick e main p) ∙ without_none s.index

status_none : (a b : Signals) (n : Name) → a ≡ no_signals → b ≡ no_signals → verdict (a n) (b n) ≡ Absent
unfolding no_signals
status_none a b n h k = ap (λ z. verdict (z n) (b n)) h ∙ ap (λ z. verdict (no_signals n) (z n)) k

status_rests : (main : Bool) (p : Statement) (n : ℕ) (T : Sheet main p) → T ≡ idle main p
    → emitted_status main p n T ≡ Absent
status_rests main p n T h =
    ap (λ z. emitted_status main p n z) h
    ∙ status_none _ _ (inner n) (emits_idle is_sure refl main p) (emits_idle is_possible refl main p)

-- a sweep of a statement that is not begun
node_rests : {P : Type 0} (f : ℕ → Status) (c t : ℕ) (h : Status) (a b : Codes) (x y : P) → h ≡ Absent
    → Untrue (c + 1) (c + t + 3) f → a ≡ no_codes → b ≡ no_codes → x ≡ y
    → ◌≡◌ {A = Node P} (record {
      cells = record {
        go = h;
        must = sure_told (sure_codes f (c + 1) (t + 2)) (possible_codes f (c + 1) (t + 2)) a b;
        may = may_told (sure_codes f (c + 1) (t + 2)) (possible_codes f (c + 1) (t + 2)) a b;
      };
      parts = x;
    }) (rests y)
node_rests f c t h a b x y e d i j k =
    let u : Untrue (c + 1) (c + 1 + (t + 2)) f = λ n l m. d n l (omega arith) in
    let sure = ap (λ z. sure_told (sure_codes f (c + 1) (t + 2)) (possible_codes f (c + 1) (t + 2)) z b) i
    ∙ (ap (λ z. sure_told (sure_codes f (c + 1) (t + 2)) (possible_codes f (c + 1) (t + 2)) no_codes z) j
    ∙ sure_rests f (c + 1) (t + 2) u) in
    let may = ap (λ z. may_told (sure_codes f (c + 1) (t + 2)) (possible_codes f (c + 1) (t + 2)) z b) i
    ∙ (ap (λ z. may_told (sure_codes f (c + 1) (t + 2)) (possible_codes f (c + 1) (t + 2)) no_codes z) j
    ∙ may_rests f (c + 1) (t + 2) u) in
    same_node_of h Absent _ _ _ _ x y e sure may k

sweep_rests : (way : Direction) (main : Bool) (s : Statement) (e : Env) (g : Status) (f : ℕ → Status) (c t : ℕ)
    → Untrue (c + 1) (c + t + 3) f → learned (f c) g ≡ Absent
    → swept_parts way main s e (learned (f c) g) (parts_in f main s c t) ≡ idle_parts main s
    → swept way main s e g (sheet_in f main s c t) ≡ idle main s
sweep_rests way main s e g f c t d a p =
    let T = sheet_in f main s c t in
    let h = learned (f c) g in
    let U = entered h T (swept_parts way main s e h T.parts) in
    let q = gates_rest main s g e U a p in
    node_rests f c t h _ _ _ _ a d q.must q.may p

restart_within : (b : Bool) (past m n : ℕ) → b ≡ true → past ≡ m + cond b n 0 → past ≡ m + n
restart_within true past m n w r = r
restart_within false past m n w r = let z : false ≡ true = w in cc

again_rests : (way : Direction) (main : Bool) (p : Statement) (e : Env) (f : ℕ → Status) (c t : ℕ)
    → (main ≡ true → swept way false p e Absent (sheet_in f false p c t) ≡ idle false p)
    → map_again main (sweep_by false p (swept_parts way false p e) e Absent)
    (make_again main (node_in f c t (parts_in f false p c t)))
    ≡ make_again main (idle false p)
again_rests way true p e f c t h = h refl
again_rests way false p e f c t h = refl

parts_rest : (way : Direction) (main : Bool) (s : Statement) (e : Env) (h : Status) (f : ℕ → Status) (c t : ℕ)
    → Untrue (c + t + 3) (c + sheet_size main s t) f → h ≡ Absent
    → swept_parts way main s e h (parts_in f main s c t) ≡ idle_parts main s
parts_rest way main Nothing e h f c t d a = refl
parts_rest way main (Pause n) e h f c t d a = refl
parts_rest way main (Emit s) e h f c t d a = refl
parts_rest way main (Exit k) e h f c t d a = refl
parts_rest way main (Present' x y p z q) e h f c t d a =
    let v = status_of e (query_of x) in
    let o = size_least main p t in
    let o2 = size_least main q t in
    let k = c + t + 3 in
    let m = k + sheet_size main p t in
    two
    (sweep_rests way main p e (and_status h v) f k t (λ i l u. d i (omega arith) (omega arith))
    (told_false (f k) (and_status h v) (d k (omega arith) (omega arith)) (ap (λ w. and_status w v) a))
    (parts_rest way main p e _ f k t (λ i l u. d i (omega arith) (omega arith))
    (told_false (f k) (and_status h v) (d k (omega arith) (omega arith)) (ap (λ w. and_status w v) a))))
    (sweep_rests way main q e (and_status h (opposite v)) f m t (λ i l u. d i (omega arith) (omega arith))
    (told_false (f m) _ (d m (omega arith) (omega arith)) (ap (λ w. and_status w (opposite v)) a))
    (parts_rest way main q e _ f m t (λ i l u. d i (omega arith) (omega arith))
    (told_false (f m) _ (d m (omega arith) (omega arith)) (ap (λ w. and_status w (opposite v)) a))))
parts_rest way main (Suspend' x y p) e h f c t d a =
    let o = size_least main p t in
    let k = c + t + 3 in
    sweep_rests way main p e h f k t (λ i l u. d i (omega arith) (omega arith))
    (told_false (f k) h (d k (omega arith) (omega arith)) a)
    (parts_rest way main p e _ f k t (λ i l u. d i (omega arith) (omega arith))
    (told_false (f k) h (d k (omega arith) (omega arith)) a))
parts_rest way main (Seq' y p z q) e h f c t d a =
    let o = size_least main p t in
    let o2 = size_least main q t in
    let k = c + t + 3 in
    let m = k + sheet_size main p t in
    let one = sweep_rests way main p e h f k t (λ i l u. d i (omega arith) (omega arith))
    (told_false (f k) h (d k (omega arith) (omega arith)) a)
    (parts_rest way main p e _ f k t (λ i l u. d i (omega arith) (omega arith))
    (told_false (f k) h (d k (omega arith) (omega arith)) a)) in
    let later = ap (λ (w : Sheet main p). ends w.cells) one ∙ ends_none in
    two one
    (sweep_rests way main q _ _ f m t (λ i l u. d i (omega arith) (omega arith))
    (told_false (f m) _ (d m (omega arith) (omega arith)) later)
    (parts_rest way main q _ _ f m t (λ i l u. d i (omega arith) (omega arith))
    (told_false (f m) _ (d m (omega arith) (omega arith)) later)))
parts_rest way main (Loop' y p) e h f c t d a =
    let o = size_least main p t in
    let o2 = size_least false p t in
    let k = c + t + 3 in
    let m = k + sheet_size main p t in
    two
    (sweep_rests way main p e h f k t (λ i l u. d i (omega arith) (omega arith))
    (told_false (f k) h (d k (omega arith) (omega arith)) a)
    (parts_rest way main p e _ f k t (λ i l u. d i (omega arith) (omega arith))
    (told_false (f k) h (d k (omega arith) (omega arith)) a)))
    (again_rests way main p e f m t (λ w.
    let r = restart_within main (c + sheet_size main (Loop' y p) t) m (sheet_size false p t) w
    (let z : c + sheet_size main (Loop' y p) t ≡ m + cond main (sheet_size false p t) 0 = omega arith in z) in
    sweep_rests way false p e Absent f m t (λ i l u. d i (omega arith) (omega arith))
    (told_false (f m) Absent (d m (omega arith) (omega arith)) refl)
    (parts_rest way false p e _ f m t (λ i l u. d i (omega arith) (omega arith))
    (told_false (f m) Absent (d m (omega arith) (omega arith)) refl))))
parts_rest way main (Par' y p z q) e h f c t d a =
    let o = size_least main p t in
    let o2 = size_least main q t in
    let k = c + t + 3 in
    let m = k + sheet_size main p t in
    let s = Par' y p z q in
    let first = λ (n : Env). sweep_rests way main p n h f k t (λ i l u. d i (omega arith) (omega arith))
    (told_false (f k) h (d k (omega arith) (omega arith)) a)
    (parts_rest way main p n _ f k t (λ i l u. d i (omega arith) (omega arith))
    (told_false (f k) h (d k (omega arith) (omega arith)) a)) in
    let second = λ (n : Env). sweep_rests way main q n h f m t (λ i l u. d i (omega arith) (omega arith))
    (told_false (f m) h (d m (omega arith) (omega arith)) a)
    (parts_rest way main q n _ f m t (λ i l u. d i (omega arith) (omega arith))
    (told_false (f m) h (d m (omega arith) (omega arith)) a)) in
    either_way (λ (x : Parts main s). x ≡ idle_parts main s) way _ _ (two (first e) (second _))
    (two (first _) (second e))
parts_rest way main (Trap' y p) e h f c t d a =
    let o = size_least main p (t + 1) in
    let k = c + t + 3 in
    sweep_rests way main p e h f k (t + 1) (λ i l u. d i (omega arith) (omega arith))
    (told_false (f k) h (d k (omega arith) (omega arith)) a)
    (parts_rest way main p e _ f k (t + 1) (λ i l u. d i (omega arith) (omega arith))
    (told_false (f k) h (d k (omega arith) (omega arith)) a))
parts_rest way main (Binder' s y p) e h f c t d a =
    let o = size_least main p t in
    let k = c + t + 4 in
    let g = with_local e s.index (f (c + t + 3)) in
    let body = sweep_rests way main p g h f k t (λ i l u. d i (omega arith) (omega arith))
    (told_false (f k) h (d k (omega arith) (omega arith)) a)
    (parts_rest way main p g _ f k t (λ i l u. d i (omega arith) (omega arith))
    (told_false (f k) h (d k (omega arith) (omega arith)) a)) in
    scoped (told_false (f (c + t + 3)) _ (d (c + t + 3) (omega arith) (omega arith))
    (status_rests main p s.index _ body)) body

swept_rests : (way : Direction) (main : Bool) (s : Statement) (e : Env) (g : Status) (f : ℕ → Status) (c t : ℕ)
    → Untrue c (c + sheet_size main s t) f → learned (f c) g ≡ Absent
    → swept way main s e g (sheet_in f main s c t) ≡ idle main s
swept_rests way main s e g f c t d a =
    let o = size_least main s t in
    sweep_rests way main s e g f c t (λ i l u. d i (omega arith) (omega arith)) a
    (parts_rest way main s e _ f c t (λ i l u. d i (omega arith) u) a)

-- cells that are false stand for the idle sheet
abbrev pub all_false : ℕ → Status
all_false i = Absent

sure_false : (c n : ℕ) → sure_codes all_false c n ≡ no_codes
unfolding sure_codes no_codes
sure_false c n = fun_ext (λ k. and_false (ltb k n))

possible_false : (c n : ℕ) → possible_codes all_false c n ≡ no_codes
unfolding possible_codes no_codes
possible_false c n = fun_ext (λ k. and_false (ltb k n))

false_node : {P : Type 0} (c t : ℕ) (x y : P) → x ≡ y → node_in all_false c t x ≡ rests y
false_node c t x y e = same_node_of Absent Absent _ _ _ _ x y refl (sure_false (c + 1) (t + 2))
    (possible_false (c + 1) (t + 2)) e

false_again : (main : Bool) (p : Statement) (c t : ℕ) → parts_in all_false false p c t ≡ idle_parts false p
    → make_again main (node_in all_false c t (parts_in all_false false p c t)) ≡ make_again main (idle false p)
false_again true p c t e = false_node c t _ _ e
false_again false p c t e = refl

parts_false : (main : Bool) (s : Statement) (c t : ℕ) → parts_in all_false main s c t ≡ idle_parts main s
parts_false main Nothing c t = refl
parts_false main (Pause n) c t = refl
parts_false main (Emit s) c t = refl
parts_false main (Exit k) c t = refl
parts_false main (Present' x a p b q) c t = two (false_node _ t _ _ (parts_false main p _ t))
    (false_node _ t _ _ (parts_false main q _ t))
parts_false main (Suspend' x a p) c t = false_node _ t _ _ (parts_false main p _ t)
parts_false main (Seq' a p b q) c t = two (false_node _ t _ _ (parts_false main p _ t))
    (false_node _ t _ _ (parts_false main q _ t))
parts_false main (Loop' a p) c t =
    two (false_node _ t _ _ (parts_false main p _ t)) (false_again main p _ t (parts_false false p _ t))
parts_false main (Par' a p b q) c t = two (false_node _ t _ _ (parts_false main p _ t))
    (false_node _ t _ _ (parts_false main q _ t))
parts_false main (Trap' a p) c t = false_node _ (t + 1) _ _ (parts_false main p _ (t + 1))
parts_false main (Binder' s a p) c t = scoped refl (false_node _ t _ _ (parts_false main p _ t))

-- a statement that is not begun, and whose cells were all made false, is swept
false_swept : (way : Direction) (main : Bool) (s : Statement) (e : Env) (g : Status) (c t : ℕ)
    (old new : List Status) (r : Swept)
    → NoneTrue c (c + sheet_size main s t) old → learned (cell_at old c) g ≡ Absent
    → AreFalse c (c + sheet_size main s t) old new
    → IsJudged no_codes no_codes no_signals no_signals r.judged → r.past ≡ c + sheet_size main s t
    → IsSwept main s c t (swept way main s e g) old new r
false_swept way main s e g c t old new r none a h j past =
    let is_idle : sheet_in (cell_at new) main s c t ≡ idle main s
    = sheet_same (cell_at new) all_false main s c t h.false_now ∙ false_node c t _ _ (parts_false main s c t) in
    record {
      sheet = is_idle
          ∙ sym (swept_rests way main s e g (cell_at old) c t (untrue c (c + sheet_size main s t) old none) a);
      changes = record { before = h.before; after = h.after; size = h.size; more = h.more; quiet = h.quiet };
      found = record {
        must = j.must ∙ sym (ap (λ (z : Sheet main s). z.cells.must) is_idle);
        can = j.can ∙ sym (ap (λ (z : Sheet main s). z.cells.may) is_idle);
        emits = j.emits ∙ sym (ap (emits is_sure main s) is_idle ∙ emits_idle is_sure refl main s);
        may_emit = j.may_emit ∙ sym (ap (emits is_possible main s) is_idle ∙ emits_idle is_possible refl main s);
      };
      past = past;
    }

pub idle_begun : (s : Statement) (at : StatementPlace) (gate : Status) (e : Known) (old new : List Status) (past : ℕ)
    (r : Swept)
    → IsIdle s at gate old past → AreFalse at.cell past old new
    → IsJudged no_codes no_codes no_signals no_signals r.judged → r.past ≡ past
    → IsBegun s at gate e old new r
unfolding IsBegun
idle_begun s at gate e old new past r h k j p =
    let q = h.past_is in
    false_swept at.direction at.main s (env_of e) gate at.cell at.traps old new r
    (subst (λ (z : ℕ). NoneTrue at.cell z old) q h.none) h.off
    (subst (λ (z : ℕ). AreFalse at.cell z old new) q k) j (p ∙ q)
