-- A statement all of whose cells are decided: a sweep leaves it as it is, whatever is known, and its cells say surely
-- what they say possibly.
use Rattle.std.specs.Prelude.{◌≡◌, ◌≢◌, ◌<◌, ◌≤◌, ◌+◌, ℕ, Bool, true, false, cond, ltb, ◌&&◌, List}
use Rattle.std.proofs.Common.{refl, ap, sym, ◌∙◌, arith, subst}
use Rattle.std.proofs.lemmas.Bool.{ltb-true}
use mathlib.Core.Path.{fun_ext}
use Rattle.est_kernel.specs.Codes.{Codes}
use Rattle.est_kernel.specs.CodeViews.{codes_of}
use Rattle.est_kernel.specs.Pauses.{pauses_of}
use Rattle.est_kernel.specs.View.{name_of}
use Rattle.est_kernel.specs.declared.code_set.CodeSet.{CodeSet}
use Rattle.est_kernel.specs.declared.pause_set.PauseSet.{PauseSet}
use Rattle.est_kernel.specs.declared.statement.Statement.{Statement}
use Rattle.est_kernel.specs.declared.statement.Statement.TheVariants.{Nothing, Pause, Emit, Present', Suspend', Seq'}
use Rattle.est_kernel.specs.declared.statement.Statement.TheVariants.{Loop', Par', Trap', Exit, Local' as Binder'}
use Rattle.est_meaning.specs.Signals.{Signals, no_signals, union, without}
use Rattle.est_meaning.specs.States.{is_live}
use Rattle.est_meaning.specs.Environments.{Env, verdict}
use Rattle.est_meaning.specs.declared.status.Status.{Status}
use Rattle.est_meaning.specs.declared.status.Status.TheVariants.{Present, Absent, Unknown}
use Rattle.est_meaning.specs.Views.{env_of, set_of}
use Rattle.est_meaning.specs.declared.signal_set.Env.{Env as Known}
use Rattle.est_meaning.specs.declared.signal_set.SignalSet.{SignalSet}
use Rattle.est_cells.proofs.Reach.{none_union}
use Rattle.est_cells.proofs.ValuesAreMeant.{two}
use Rattle.est_cells.specs.Tables.{Node, Parts, Sheet, emits, if_run, is_sure, is_possible}
use Rattle.est_cells.specs.Tables.{make_again, map_again, of_again, sheet_size}
use Rattle.est_net.specs.Cells.{AllDecided, cell_at, is_known, learned}
use Rattle.est_net.specs.Layout.{node_in, parts_in, possible_codes, sheet_in, sure_codes}
use Rattle.est_micro.specs.Sweeps.{live_swept, live_swept_parts, may_told, sure_told, sweep_by, swept, swept_parts}
use Rattle.est_micro.specs.declared.direction.Direction.{Direction}
use Rattle.est_micro.specs.Inner.Views.{AddsEmitted, IsBegun, IsJudged, IsRead, IsResumed, IsSwept}
use Rattle.est_micro.specs.declared.cells.Swept.{Swept}
use Rattle.est_micro.specs.declared.cells.StatementPlace.{StatementPlace}
use Rattle.est_micro.proofs.BegunNodes.{nothing_changes}
use Rattle.est_micro.proofs.Frames.{and_same, same_node_of, scoped, size_least}
use Rattle.est_micro.proofs.Told.{either_way}

-- the cells from place lo on and before place hi are decided
abbrev Decided : (lo hi : ℕ) (f : ℕ → Status) → Type 0
Decided lo hi f = (i : ℕ) → lo ≤ i → i < hi → f i ≢ Unknown

decided_of : (lo hi : ℕ) (cells : List Status) → AllDecided lo hi cells → Decided lo hi (cell_at cells)
unfolding AllDecided
decided_of lo hi cells h i l u = h i l u

-- a cell that is decided stays as it is, whatever it is told
kept : (v w : Status) → v ≢ Unknown → learned v w ≡ v
kept Present w d = refl
kept Absent w d = refl
kept Unknown w d = absurd (d refl)

code_kept : (pick : Status → Bool) (b : Bool) (v w : Status) → pick Absent ≡ false → (b ≡ true → v ≢ Unknown)
    → pick (learned (verdict (b && is_sure v) (b && is_possible v)) w) ≡ (b && pick v)
code_kept pick true Present w e d = refl
code_kept pick true Absent w e d = refl
code_kept pick true Unknown w e d = absurd (d refl refl)
code_kept pick false v w e d = e

sure_kept : (f : ℕ → Status) (c n : ℕ) (a b : Codes) → Decided c (c + n) f
    → sure_told (sure_codes f c n) (possible_codes f c n) a b ≡ sure_codes f c n
unfolding sure_told sure_codes possible_codes
sure_kept f c n a b h = fun_ext (λ k. code_kept is_sure (ltb k n) (f (c + k)) _ refl
    (λ e. h (c + k) (omega arith) (let l : k < n = ltb-true k n e in omega arith)))

may_kept : (f : ℕ → Status) (c n : ℕ) (a b : Codes) → Decided c (c + n) f
    → may_told (sure_codes f c n) (possible_codes f c n) a b ≡ possible_codes f c n
unfolding may_told sure_codes possible_codes
may_kept f c n a b h = fun_ext (λ k. code_kept is_possible (ltb k n) (f (c + k)) _ refl
    (λ e. h (c + k) (omega arith) (let l : k < n = ltb-true k n e in omega arith)))

node_kept : {P : Type 0} (f : ℕ → Status) (c t : ℕ) (h : Status) (a b : Codes) (x y : P) → Decided c (c + t + 3) f
    → h ≡ f c → x ≡ y
    → ◌≡◌ {A = Node P} (record {
      cells = record {
        go = h;
        must = sure_told (sure_codes f (c + 1) (t + 2)) (possible_codes f (c + 1) (t + 2)) a b;
        may = may_told (sure_codes f (c + 1) (t + 2)) (possible_codes f (c + 1) (t + 2)) a b;
      };
      parts = x;
    }) (node_in f c t y)
node_kept f c t h a b x y d e k =
    let u : Decided (c + 1) (c + 1 + (t + 2)) f = λ i l m. d i (omega arith) (omega arith) in
    same_node_of h (f c) _ _ _ _ x y e (sure_kept f (c + 1) (t + 2) a b u) (may_kept f (c + 1) (t + 2) a b u) k

-- the cells of a statement, and those of its parts
abbrev Whole : (main : Bool) (s : Statement) (f : ℕ → Status) (c t : ℕ) → Type 0
Whole main s f c t = Decided c (c + sheet_size main s t) f

abbrev Below : (main : Bool) (s : Statement) (f : ℕ → Status) (c t : ℕ) → Type 0
Below main s f c t = Decided (c + t + 3) (c + sheet_size main s t) f

-- a sweep of a statement that is begun, if at all
sweep_kept : (way : Direction) (main : Bool) (s : Statement) (e : Env) (g : Status) (f : ℕ → Status) (c t : ℕ)
    → Whole main s f c t
    → (Below main s f c t → swept_parts way main s e (learned (f c) g) (parts_in f main s c t) ≡ parts_in f main s c t)
    → swept way main s e g (sheet_in f main s c t) ≡ sheet_in f main s c t
sweep_kept way main s e g f c t d k =
    let o = size_least main s t in
    node_kept f c t _ _ _ _ _ (λ i l u. d i l (omega arith)) (kept (f c) g (d c (omega arith) (omega arith)))
    (k (λ i l u. d i (omega arith) u))

again_kept : (way : Direction) (main : Bool) (p : Statement) (e : Env) (f : ℕ → Status) (c t : ℕ)
    → (main ≡ true → swept way false p e Absent (sheet_in f false p c t) ≡ sheet_in f false p c t)
    → map_again main (sweep_by false p (swept_parts way false p e) e Absent) (make_again main (sheet_in f false p c t))
    ≡ make_again main (sheet_in f false p c t)
again_kept way true p e f c t h = h refl
again_kept way false p e f c t h = refl

restart_within : (b : Bool) (past m n : ℕ) → b ≡ true → past ≡ m + cond b n 0 → past ≡ m + n
restart_within true past m n w r = r
restart_within false past m n w r = let z : false ≡ true = w in cc

parts_kept : (way : Direction) (main : Bool) (s : Statement) (e : Env) (h : Status) (f : ℕ → Status) (c t : ℕ)
    → Below main s f c t → swept_parts way main s e h (parts_in f main s c t) ≡ parts_in f main s c t
parts_kept way main Nothing e h f c t d = refl
parts_kept way main (Pause n) e h f c t d = refl
parts_kept way main (Emit s) e h f c t d = refl
parts_kept way main (Exit k) e h f c t d = refl
parts_kept way main (Present' x a p b q) e h f c t d =
    let k = c + t + 3 in
    let m = k + sheet_size main p t in
    let o = size_least main p t in
    let o2 = size_least main q t in
    two
    (sweep_kept way main p e _ f k t (λ i l u. d i l (omega arith)) (λ z. parts_kept way main p e _ f k t z))
    (sweep_kept way main q e _ f m t (λ i l u. d i (omega arith) (omega arith))
    (λ z. parts_kept way main q e _ f m t z))
parts_kept way main (Suspend' x a p) e h f c t d =
    let k = c + t + 3 in
    sweep_kept way main p e h f k t (λ i l u. d i l (omega arith)) (λ z. parts_kept way main p e _ f k t z)
parts_kept way main (Seq' a p b q) e h f c t d =
    let k = c + t + 3 in
    let m = k + sheet_size main p t in
    let o = size_least main p t in
    let o2 = size_least main q t in
    two
    (sweep_kept way main p e h f k t (λ i l u. d i l (omega arith)) (λ z. parts_kept way main p e _ f k t z))
    (sweep_kept way main q _ _ f m t (λ i l u. d i (omega arith) (omega arith))
    (λ z. parts_kept way main q _ _ f m t z))
parts_kept way main (Loop' a p) e h f c t d =
    let k = c + t + 3 in
    let m = k + sheet_size main p t in
    let o = size_least main p t in
    let o2 = size_least false p t in
    two
    (sweep_kept way main p e h f k t (λ i l u. d i l (omega arith)) (λ z. parts_kept way main p e _ f k t z))
    (again_kept way main p e f m t (λ w.
    let r = restart_within main (c + sheet_size main (Loop' a p) t) m (sheet_size false p t) w
    (let z : c + sheet_size main (Loop' a p) t ≡ m + cond main (sheet_size false p t) 0 = omega arith in z) in
    sweep_kept way false p e Absent f m t (λ i l u. d i (omega arith) (omega arith))
    (λ z. parts_kept way false p e _ f m t z)))
parts_kept way main (Par' a p b q) e h f c t d =
    let k = c + t + 3 in
    let m = k + sheet_size main p t in
    let o = size_least main p t in
    let o2 = size_least main q t in
    let s = Par' a p b q in
    let first = λ (n : Env). sweep_kept way main p n h f k t (λ i l u. d i l (omega arith))
    (λ z. parts_kept way main p n _ f k t z) in
    let second = λ (n : Env). sweep_kept way main q n h f m t (λ i l u. d i (omega arith) (omega arith))
    (λ z. parts_kept way main q n _ f m t z) in
    either_way (λ (x : Parts main s). x ≡ parts_in f main s c t) way _ _ (two (first e) (second _))
    (two (first _) (second e))
parts_kept way main (Trap' a p) e h f c t d =
    let k = c + t + 3 in
    sweep_kept way main p e h f k (t + 1) (λ i l u. d i l (omega arith)) (λ z. parts_kept way main p e _ f k (t + 1) z)
parts_kept way main (Binder' s a p) e h f c t d =
    let k = c + t + 4 in
    let o = size_least main p t in
    scoped (kept (f (c + t + 3)) _ (d (c + t + 3) (omega arith) (omega arith)))
    (sweep_kept way main p _ h f k t (λ i l u. d i (omega arith) (omega arith))
    (λ z. parts_kept way main p _ _ f k t z))

swept_kept : (way : Direction) (main : Bool) (s : Statement) (e : Env) (g : Status) (f : ℕ → Status) (c t : ℕ)
    → Whole main s f c t → swept way main s e g (sheet_in f main s c t) ≡ sheet_in f main s c t
swept_kept way main s e g f c t d = sweep_kept way main s e g f c t d (λ z. parts_kept way main s e _ f c t z)

-- a sweep of a statement that goes on, if it is run
live_sweep_kept : (way : Direction) (s : Statement) (bits : ℕ → Bool) (r : Status) (e : Env) (f : ℕ → Status) (c t : ℕ)
    → Whole true s f c t
    → (Below true s f c t
    → live_swept_parts way s bits r e (learned (f c) Absent) (parts_in f true s c t) ≡ parts_in f true s c t)
    → live_swept way s bits r e (sheet_in f true s c t) ≡ sheet_in f true s c t
live_sweep_kept way s bits r e f c t d k =
    let o = size_least true s t in
    node_kept f c t _ _ _ _ _ (λ i l u. d i l (omega arith)) (kept (f c) Absent (d c (omega arith) (omega arith)))
    (k (λ i l u. d i (omega arith) u))

either_kept : {A : Type 0} (b : Bool) (x y z : A) → x ≡ z → y ≡ z → cond b x y ≡ z
either_kept true x y z h k = h
either_kept false x y z h k = k

live_parts_kept : (way : Direction) (s : Statement) (bits : ℕ → Bool) (r : Status) (e : Env) (h : Status)
    (f : ℕ → Status) (c t : ℕ)
    → Below true s f c t → live_swept_parts way s bits r e h (parts_in f true s c t) ≡ parts_in f true s c t
live_parts_kept way Nothing bits r e h f c t d = refl
live_parts_kept way (Pause n) bits r e h f c t d = refl
live_parts_kept way (Emit s) bits r e h f c t d = refl
live_parts_kept way (Exit k) bits r e h f c t d = refl
live_parts_kept way (Present' x a p b q) bits r e h f c t d =
    let k = c + t + 3 in
    let m = k + sheet_size true p t in
    let o = size_least true p t in
    let o2 = size_least true q t in
    let u : Whole true p f k t = λ i l z. d i l (omega arith) in
    let v : Whole true q f m t = λ i l z. d i (omega arith) (omega arith) in
    two
    (either_kept (is_live p bits) _ _ _
    (live_sweep_kept way p bits r e f k t u (λ z. live_parts_kept way p bits r e _ f k t z))
    (swept_kept way true p e _ f k t u))
    (either_kept (is_live p bits) _ _ _ (swept_kept way true q e _ f m t v)
    (live_sweep_kept way q bits r e f m t v (λ z. live_parts_kept way q bits r e _ f m t z)))
live_parts_kept way (Suspend' x a p) bits r e h f c t d =
    let k = c + t + 3 in
    live_sweep_kept way p bits _ e f k t (λ i l u. d i l (omega arith))
    (λ z. live_parts_kept way p bits _ e _ f k t z)
live_parts_kept way (Seq' a p b q) bits r e h f c t d =
    let k = c + t + 3 in
    let m = k + sheet_size true p t in
    let o = size_least true p t in
    let o2 = size_least true q t in
    let u : Whole true p f k t = λ i l z. d i l (omega arith) in
    let v : Whole true q f m t = λ i l z. d i (omega arith) (omega arith) in
    two
    (either_kept (is_live p bits) _ _ _
    (live_sweep_kept way p bits r e f k t u (λ z. live_parts_kept way p bits r e _ f k t z))
    (swept_kept way true p e h f k t u))
    (either_kept (is_live p bits) _ _ _ (swept_kept way true q _ _ f m t v)
    (live_sweep_kept way q bits r _ f m t v (λ z. live_parts_kept way q bits r _ _ f m t z)))
live_parts_kept way (Loop' a p) bits r e h f c t d =
    let k = c + t + 3 in
    let m = k + sheet_size true p t in
    let o = size_least true p t in
    let o2 = size_least false p t in
    two
    (live_sweep_kept way p bits r e f k t (λ i l u. d i l (omega arith))
    (λ z. live_parts_kept way p bits r e _ f k t z))
    (swept_kept way false p _ _ f m t (λ i l u. d i (omega arith) (omega arith)))
live_parts_kept way (Par' a p b q) bits r e h f c t d =
    let k = c + t + 3 in
    let m = k + sheet_size true p t in
    let o = size_least true p t in
    let o2 = size_least true q t in
    let s = Par' a p b q in
    let u : Whole true p f k t = λ i l z. d i l (omega arith) in
    let v : Whole true q f m t = λ i l z. d i (omega arith) (omega arith) in
    let first = λ (n : Env). either_kept (is_live p bits) _ _ (sheet_in f true p k t)
    (live_sweep_kept way p bits r n f k t u (λ z. live_parts_kept way p bits r n _ f k t z))
    (swept_kept way true p n h f k t u) in
    let second = λ (n : Env). either_kept (is_live q bits) _ _ (sheet_in f true q m t)
    (live_sweep_kept way q bits r n f m t v (λ z. live_parts_kept way q bits r n _ f m t z))
    (swept_kept way true q n h f m t v) in
    either_way (λ (x : Parts true s). x ≡ parts_in f true s c t) way _ _ (two (first e) (second _))
    (two (first _) (second e))
live_parts_kept way (Trap' a p) bits r e h f c t d =
    let k = c + t + 3 in
    live_sweep_kept way p bits r e f k (t + 1) (λ i l u. d i l (omega arith))
    (λ z. live_parts_kept way p bits r e _ f k (t + 1) z)
live_parts_kept way (Binder' s a p) bits r e h f c t d =
    let k = c + t + 4 in
    let o = size_least true p t in
    scoped (kept (f (c + t + 3)) _ (d (c + t + 3) (omega arith) (omega arith)))
    (live_sweep_kept way p bits r _ f k t (λ i l u. d i (omega arith) (omega arith))
    (λ z. live_parts_kept way p bits r _ _ f k t z))

live_swept_kept : (way : Direction) (s : Statement) (bits : ℕ → Bool) (r : Status) (e : Env) (f : ℕ → Status) (c t : ℕ)
    → Whole true s f c t → live_swept way s bits r e (sheet_in f true s c t) ≡ sheet_in f true s c t
live_swept_kept way s bits r e f c t d =
    live_sweep_kept way s bits r e f c t d (λ z. live_parts_kept way s bits r e _ f c t z)

-- what is read of such a statement is what a sweep finds
read_swept : (way : Direction) (main : Bool) (s : Statement) (bits : ℕ → Bool) (run : Status) (e : Env) (c t : ℕ)
    (cells : List Status) (r : Swept) → main ≡ true → AllDecided c (c + sheet_size main s t) cells
    → (let T = sheet_in (cell_at cells) main s c t in
    IsJudged T.cells.must T.cells.may (emits is_sure main s T) (emits is_possible main s T) r.judged)
    → r.past ≡ c + sheet_size main s t → IsSwept true s c t (live_swept way s bits run e) cells cells r
read_swept way true s bits run e c t cells r m d j p = record {
  sheet = sym (live_swept_kept way s bits run e (cell_at cells) c t
      (decided_of c (c + sheet_size true s t) cells d));
  changes = nothing_changes _ _ cells;
  found = j;
  past = p;
}
read_swept way false s bits run e c t cells r m d j p = let z : false ≡ true = m in cc

pub read_resumed : (s : Statement) (at : StatementPlace) (pauses : PauseSet) (run : Status) (e : Known)
    (cells : List Status)
    (r : Swept) → at.main ≡ true → IsRead s at cells r → IsResumed s at pauses run e cells cells r
unfolding IsResumed
read_resumed s at pauses run e cells r m h =
    read_swept at.direction at.main s (pauses_of pauses) run (env_of e) at.cell at.traps cells r m h.decided h.found
    h.past

pub read_begun : (s : Statement) (at : StatementPlace) (gate : Status) (e : Known) (cells : List Status) (r : Swept)
    → IsRead s at cells r → IsBegun s at gate e cells cells r
unfolding IsBegun
read_begun s at gate e cells r h = record {
  sheet = sym (swept_kept at.direction at.main s (env_of e) gate (cell_at cells) at.cell at.traps
      (decided_of at.cell (at.cell + sheet_size at.main s at.traps) cells h.decided));
  changes = nothing_changes _ _ cells;
  found = h.found;
  past = h.past;
}

-- what such cells say surely, they say possibly, and the other way around
pick_same : (v : Status) → v ≢ Unknown → is_sure v ≡ is_possible v
pick_same Present d = refl
pick_same Absent d = refl
pick_same Unknown d = absurd (d refl)

codes_same : (f : ℕ → Status) (c n : ℕ) → Decided c (c + n) f → sure_codes f c n ≡ possible_codes f c n
unfolding sure_codes possible_codes
codes_same f c n h = fun_ext (λ k. and_same (ltb k n) (is_sure (f (c + k))) (is_possible (f (c + k)))
    (λ b. pick_same (f (c + k)) (h (c + k) (omega arith) (let l : k < n = ltb-true k n b in omega arith))))

both_same : (a b x y : Signals) → a ≡ x → b ≡ y → union a b ≡ union x y
both_same a b x y h k = ap (λ z. union z b) h ∙ ap (union x) k

again_same : (main : Bool) (p : Statement) (x : Sheet false p)
    → (main ≡ true → emits is_sure false p x ≡ emits is_possible false p x)
    → of_again main no_signals (emits is_sure false p) (make_again main x)
    ≡ of_again main no_signals (emits is_possible false p) (make_again main x)
again_same true p x h = h refl
again_same false p x h = refl

emits_same : (main : Bool) (s : Statement) (f : ℕ → Status) (c t : ℕ) → Whole main s f c t
    → emits is_sure main s (sheet_in f main s c t) ≡ emits is_possible main s (sheet_in f main s c t)
emits_same main Nothing f c t d = refl
emits_same main (Pause n) f c t d = refl
emits_same main (Emit s) f c t d =
    ap (λ b. if_run b (name_of s)) (pick_same (f c) (d c (omega arith) (omega arith)))
emits_same main (Exit k) f c t d = refl
emits_same main (Present' x a p b q) f c t d =
    let k = c + t + 3 in
    let m = k + sheet_size main p t in
    both_same _ _ _ _ (emits_same main p f k t (λ i l u. d i (omega arith) (omega arith)))
    (emits_same main q f m t (λ i l u. d i (omega arith) (omega arith)))
emits_same main (Suspend' x a p) f c t d =
    emits_same main p f (c + t + 3) t (λ i l u. d i (omega arith) (omega arith))
emits_same main (Seq' a p b q) f c t d =
    let k = c + t + 3 in
    let m = k + sheet_size main p t in
    both_same _ _ _ _ (emits_same main p f k t (λ i l u. d i (omega arith) (omega arith)))
    (emits_same main q f m t (λ i l u. d i (omega arith) (omega arith)))
emits_same main (Loop' a p) f c t d =
    let k = c + t + 3 in
    let m = k + sheet_size main p t in
    both_same _ _ _ _ (emits_same main p f k t (λ i l u. d i (omega arith) (omega arith)))
    (again_same main p (sheet_in f false p m t) (λ w.
    let r = restart_within main (c + sheet_size main (Loop' a p) t) m (sheet_size false p t) w
    (let z : c + sheet_size main (Loop' a p) t ≡ m + cond main (sheet_size false p t) 0 = omega arith in z) in
    emits_same false p f m t (λ i l u. d i (omega arith) (omega arith))))
emits_same main (Par' a p b q) f c t d =
    let k = c + t + 3 in
    let m = k + sheet_size main p t in
    both_same _ _ _ _ (emits_same main p f k t (λ i l u. d i (omega arith) (omega arith)))
    (emits_same main q f m t (λ i l u. d i (omega arith) (omega arith)))
emits_same main (Trap' a p) f c t d =
    emits_same main p f (c + t + 3) (t + 1) (λ i l u. d i (omega arith) (omega arith))
emits_same main (Binder' s a p) f c t d =
    ap (without s.index) (emits_same main p f (c + t + 4) t (λ i l u. d i (omega arith) (omega arith)))

-- what is found of such a statement, by the codes that its cells give and the signals that they emit
pub decided_read : (s : Statement) (at : StatementPlace) (cells : List Status) (old new : SignalSet) (codes : CodeSet)
    (past : ℕ) (r : Swept) → set_of old ≡ no_signals
    → AddsEmitted at.main s at.cell at.traps cells old new past
    → AllDecided at.cell (at.cell + sheet_size at.main s at.traps) cells
    → codes_of codes ≡ sure_codes (cell_at cells) (at.cell + 1) (at.traps + 2)
    → r ≡ record {
      judged = record {
        must = record { signals = new; codes = codes };
        can = record { signals = new; codes = codes };
      };
      past = past;
    }
    → IsRead s at cells r
decided_read s at cells old new codes past r none adds all given is =
    let f = cell_at cells in
    let c = at.cell in
    let t = at.traps in
    let o = size_least at.main s t in
    let T = sheet_in f at.main s c t in
    let d = decided_of c (c + sheet_size at.main s t) cells all in
    let signals = adds.adds ∙ (ap (λ (z : Signals). union z (emits is_sure at.main s T)) none
    ∙ none_union (emits is_sure at.main s T)) in
    let same = codes_same f (c + 1) (t + 2) (λ i l u. d i (omega arith) (omega arith)) in
    subst (λ (z : Swept). IsRead s at cells z) (sym is) (record {
      decided = all;
      found = record {
        must = given;
        can = given ∙ same;
        emits = signals;
        may_emit = signals ∙ emits_same at.main s f c t d;
      };
      past = adds.past_is;
    })

-- of a range whose cells are all decided, one that isn't decided is none
pub not_all_known : (lo hi i : ℕ) (cells : List Status) (b : Bool) → lo ≤ i → i < hi → b ≡ is_known (cell_at cells i)
    → b ≡ false → (false ≡ true → AllDecided lo hi cells) × (AllDecided lo hi cells → false ≡ true)
not_all_known lo hi i cells b l u is off =
    (λ h. absurd (no_true h), λ h. sym off ∙ (is ∙ known_now (cell_at cells i) (decided_of lo hi cells h i l u)))
  where
    no_true : false ≡ true → ⊥
    no_true h = cc

    known_now : (v : Status) → v ≢ Unknown → is_known v ≡ true
    known_now Present d = refl
    known_now Absent d = refl
    known_now Unknown d = absurd (d refl)
