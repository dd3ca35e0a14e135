-- What a round decides, the meaning decides so; where it changes nothing, nothing more can be decided.
use Rattle.std.specs.Prelude.{◌≡◌, ◌≢◌, ◌<◌, ◌+◌, ◌⊎◌, ℕ, zero, suc, Bool, true, false, not, ◌&&◌, cond, List, length}
use Rattle.std.proofs.Common.{refl, ap, sym, ◌∙◌, arith, inl, inr, subst}
use Rattle.est_kernel.specs.Bits.{bits}
use Rattle.est_kernel.specs.Interfaces.{emittable}
use Rattle.est_kernel.specs.Pauses.{pauses_of}
use Rattle.est_kernel.specs.Scope.{IsClosed}
use Rattle.est_kernel.specs.Term.{outer, inner}
use Rattle.est_kernel.specs.View.{term_of}
use Rattle.est_kernel.specs.declared.interface.Declaration.{Declaration}
use Rattle.est_kernel.specs.declared.state.State.{State}
use Rattle.est_kernel.specs.declared.state.State.TheVariants.{Fresh, Done, Paused}
use Rattle.est_kernel.specs.declared.statement.Statement.{Statement}
use Rattle.est_meaning.specs.Knowledge.{IsBelow, KnowsLess}
use Rattle.est_meaning.specs.Laws.{IsWithinPlaces}
use Rattle.est_meaning.specs.MustCan.{must, can, sure}
use Rattle.est_meaning.specs.Rounds.{JudgedSignals, judged_signals, last_env, how_many}
use Rattle.est_meaning.specs.Signals.{Signals}
use Rattle.est_meaning.specs.States.{state_term}
use Rattle.est_meaning.specs.Environments.{Env, verdict}
use Rattle.est_meaning.specs.declared.status.Status.{Status}
use Rattle.est_meaning.specs.declared.status.Status.TheVariants.{Present, Absent, Unknown}
use Rattle.est_meaning.proofs.EmittedIsPresent.{judged_at}
use Rattle.est_meaning.specs.Views.{env_of, set_of}
use Rattle.est_meaning.specs.declared.signal_set.Env.{Env as Known}
use Rattle.est_meaning.specs.declared.signal_set.SignalSet.{SignalSet}
use Rattle.est_cells.proofs.Order.{below_then}
use Rattle.est_cells.proofs.WholeTable.{at_rest, sheet_sure, table_known, table_sound}
use Rattle.est_cells.specs.Tables.{Sheet, Below, emits, is_sure, is_possible}
use Rattle.est_cells.specs.Whole.{Table, TableBelow, known, sheet_gates, sheet_meaning, table_meaning}
use Rattle.est_net.specs.Cells.{cell_at, learned}
use Rattle.est_net.specs.Layout.{output_count, rank, sheet_in}
use Rattle.est_micro.specs.Inner.Hearing.{Heard, Seen}
use Rattle.est_micro.specs.declared.direction.Direction.{Direction}
use Rattle.est_micro.specs.Parts.{AreInputsAlone, IsClosedBut, known_but, opened}
use Rattle.est_micro.specs.Runs.{sheet_swept, output_cells, output_gate, IsRound, table_of}
use Rattle.est_micro.specs.declared.cells.Swept.{Swept}
use Rattle.est_micro.proofs.Frames.{sheet_same}
use Rattle.est_micro.proofs.Unasked.{emitted_there, heard_but, opened_less, seen_but}
use Rattle.est_micro.proofs.SweepsAreSound.{swept_sound, live_swept_sound}
use Rattle.est_micro.proofs.SweepsComeToRest.{swept_quiet, live_swept_quiet}
use Rattle.est_micro.proofs.Told.{learned_below, nothing_learnt}

sheet_swept_sound : (way : Direction) (s : Statement) (x : State) (e l : Env) (T : Sheet true s) → KnowsLess l e
    → Heard (emits is_sure true s (sheet_meaning s x e)) e l
    → Below true s T (sheet_meaning s x e) → Below true s (sheet_swept way s x l T) (sheet_meaning s x e)
sheet_swept_sound way s Fresh e l T k u c = swept_sound way true s Present Present e l T (inr refl) k u c
sheet_swept_sound way s Done e l T k u c = swept_sound way true s Absent Absent e l T (inr refl) k u c
sheet_swept_sound way s (Paused p) e l T k u c = live_swept_sound way s (pauses_of p) Present Present e l T
    (inr refl) k u c

sheet_swept_quiet : (way : Direction) (s : Statement) (x : State) (e l : Env) (T : Sheet true s) → KnowsLess l e
    → Seen (emits is_sure true s T) l
    → Below true s T (sheet_meaning s x e) → sheet_swept way s x l T ≡ T → Below true s (sheet_gates s x l T) T
sheet_swept_quiet way s Fresh e l T k z c q = swept_quiet way true s Present Present e l T (inr refl) k z c q
sheet_swept_quiet way s Done e l T k z c q = swept_quiet way true s Absent Absent e l T (inr refl) k z c q
sheet_swept_quiet way s (Paused p) e l T k z c q =
    live_swept_quiet way s (pauses_of p) Present Present e l T (inr refl) k z c q

-- what is surely emitted is present in the last round, where the cells leave it open
pub last_heard : (j : JudgedSignals) → IsWithinPlaces j → (inputs : ℕ → Bool) (outputs : ℕ → Status) (s : Statement)
    (x : State)
    → let e = last_env j inputs (state_term s x) in
    Heard (emits is_sure true s (sheet_meaning s x e)) e (known j inputs outputs)
unfolding known
last_heard j w inputs outputs s x (outer n) h o = go (j.has n) refl o
  where
    e : Env
    e = last_env j inputs (state_term s x)

    decided : (b : Bool) → verdict b false ≡ Unknown → ⊥
    decided true z = cc
    decided false z = cc

    go : (b : Bool) → j.has n ≡ b → cond b (outputs n) (verdict (inputs n) false) ≡ Unknown → e (outer n) ≡ Present
    go true i z =
        let t = state_term s x in
        let m : (must t e).signals (outer n) ≡ true
        = sym (ap (λ (f : Signals). f (outer n)) (sheet_sure s x e)) ∙ h in
        sym (ap (λ (f : Env). f (outer n)) (at_rest j w inputs t))
        ∙ (judged_at j t e n i
        ∙ ap (λ (b : Bool). verdict b ((can t sure e).signals (outer n))) m)
    go false i z = absurd (decided (inputs n) z)
last_heard j w inputs outputs s x (inner n) h o = let z : Absent ≡ Unknown = o in cc

-- what is surely emitted is in no doubt, where no cell of a signal learns more
outputs_seen : (j : JudgedSignals) (inputs : ℕ → Bool) (outputs : ℕ → Status) (surely possible : Signals)
    → ((n : ℕ) → j.has n ≡ true → learned (outputs n) (verdict (surely (outer n)) (possible (outer n))) ≡ outputs n)
    → Seen surely (known j inputs outputs)
unfolding known
outputs_seen j inputs outputs surely possible f (outer n) h = go (j.has n) refl
  where
    decided : (b : Bool) → verdict b false ≢ Unknown
    decided true z = cc
    decided false z = cc

    open_not : (v w : Status) → w ≡ Present → learned v w ≡ v → v ≢ Unknown
    open_not Present w p q = λ z. cc
    open_not Absent w p q = λ z. cc
    open_not Unknown w p q = let c : Present ≡ Unknown = sym p ∙ q in cc

    go : (b : Bool) → j.has n ≡ b → cond b (outputs n) (verdict (inputs n) false) ≢ Unknown
    go true i = open_not (outputs n) _ (ap (λ (b : Bool). verdict b (possible (outer n))) h) (f n i)
    go false i = decided (inputs n)
outputs_seen j inputs outputs surely possible f (inner n) h = λ z. cc

-- where a signal is judged, it may be emitted, was not offered, and is one of the interface
pub not_input : (i : List Declaration) (inputs : ℕ → Bool) (n : ℕ) → (emittable i n && not (inputs n)) ≡ true
    → inputs n ≡ false
not_input i inputs n h = go (emittable i n) (inputs n) h refl
  where
    go : (a b : Bool) → (a && not b) ≡ true → b ≡ inputs n → inputs n ≡ false
    go a false h e = sym e
    go true true h e = let z : false ≡ true = h in cc
    go false true h e = let z : false ≡ true = h in cc

pub may_be : (i : List Declaration) (inputs : ℕ → Bool) (n : ℕ) → (emittable i n && not (inputs n)) ≡ true
    → emittable i n ≡ true
may_be i inputs n h = go (emittable i n) (inputs n) h refl
  where
    go : (a b : Bool) → (a && not b) ≡ true → a ≡ emittable i n → emittable i n ≡ true
    go true b h e = sym e
    go false b h e = let z : false ≡ true = h in cc

pub set_at : (a : SignalSet) (f : Signals) (n : ℕ) → set_of a ≡ f → bits a.interface n ≡ f (outer n)
unfolding set_of
set_at a f n e = ap (λ (g : Signals). g (outer n)) e

pub gate_is : (inputs a b : ℕ → Bool) (n : ℕ) → inputs n ≡ false → output_gate inputs a b n ≡ verdict (a n) (b n)
gate_is inputs a b n h = rw h refl

-- the sheet after a round is the one after its sweep
pub round_sheet : (way : Direction) (i : List Declaration) (unasked inputs : ℕ → Bool) (s : Statement)
    (x : State) (e f : Known)
    (old new : List Status)
    (r : Swept) → (h : IsRound way i unasked inputs s x e f old new r)
    → sheet_in (cell_at new) true s (output_count i) 0 ≡ sheet_in (cell_at h.mid) true s (output_count i) 0
round_sheet way i unasked inputs s x e f old new r h =
    sheet_same (cell_at new) (cell_at h.mid) true s (output_count i) 0 (λ k l u. h.updated.changes.after k l)

-- the signals' cells before they are updated are those before the round
pub before_round : (way : Direction) (i : List Declaration) (unasked inputs : ℕ → Bool) (s : Statement)
    (x : State) (e f : Known)
    (old new : List Status)
    (r : Swept) → (h : IsRound way i unasked inputs s x e f old new r) → (n : ℕ) → rank i n < output_count i
    → output_cells i h.mid n ≡ output_cells i old n
before_round way i unasked inputs s x e f old new r h n l = h.sweep.changes.before (rank i n) l

-- an emittable signal's cell is one of the first
pub rank_within : (f : ℕ → Bool) (m n : ℕ) → n < m → f n ≡ true → how_many f n < how_many f m
rank_within f zero n l h = absurd (omega arith)
rank_within f (suc m) n l h = elim (last m n l) [
  | inl z ↦ subst (λ (u : ℕ). how_many f u < how_many f (suc m)) (sym z)
      (let o : f m ≡ true = subst (λ (u : ℕ). f u ≡ true) z h in one m o)
  | inr z ↦ let k = rank_within f m n z h in more m k
]
  where
    last : (m n : ℕ) → n < suc m → (n ≡ m) ⊎ (n < m)
    last zero zero l = inl refl
    last zero (suc n) l = absurd (omega arith)
    last (suc m) zero l = inr (omega arith)
    last (suc m) (suc n) l = elim (last m n (omega arith)) [ inl z ↦ inl (ap suc z) | inr z ↦ inr (omega arith) ]

    one : (m : ℕ) → f m ≡ true → how_many f m < how_many f m + cond (f m) 1 0
    one m o = rw o (omega arith)

    more : (m : ℕ) → how_many f n < how_many f m → how_many f n < how_many f m + cond (f m) 1 0
    more m k = omega arith

-- the outputs after a round
told_cell : (way : Direction) (i : List Declaration) (unasked inputs : ℕ → Bool) (s : Statement)
    (x : State) (e f : Known) (old new : List Status) (r : Swept)
    → (h : IsRound way i unasked inputs s x e f old new r) → (n : ℕ) → n < length i
    → (emittable i n && not (inputs n)) ≡ true
    → output_cells i new n ≡ learned (output_cells i old n)
    (verdict (emits is_sure true s (sheet_in (cell_at h.mid) true s (output_count i) 0) (outer n))
    (emits is_possible true s (sheet_in (cell_at h.mid) true s (output_count i) 0) (outer n)))
told_cell way i unasked inputs s x e f old new r h n l j =
    let emitted = may_be i inputs n j in
    let a = bits r.judged.must.signals.interface in
    let b = bits r.judged.can.signals.interface in
    let S = sheet_in (cell_at h.mid) true s (output_count i) 0 in
    let found = h.sweep.found in
    h.updated.told n l emitted
    ∙ (ap (λ (v : Status). learned v (output_gate inputs a b n))
    (before_round way i unasked inputs s x e f old new r h n (rank_within (emittable i) (length i) n l emitted))
    ∙ ap (λ (v : Status). learned (output_cells i old n) v)
    (gate_is inputs a b n (not_input i inputs n j)
    ∙ (ap (λ (z : Bool). verdict z (b n)) (set_at r.judged.must.signals (emits is_sure true s S) n found.emits)
    ∙ ap (λ (z : Bool). verdict (emits is_sure true s S (outer n)) z)
    (set_at r.judged.can.signals (emits is_possible true s S) n found.may_emit))))

pub round_sound : (way : Direction) (i : List Declaration) (unasked inputs : ℕ → Bool) (s : Statement)
    (x : State) (e f : Known)
    (old new : List Status)
    (r : Swept) → IsWithinPlaces (judged_signals i inputs)
    → AreInputsAlone i unasked → IsClosed i 0 0 (term_of s)
    → env_of e ≡ known_but unasked i inputs (output_cells i old) → IsRound way i unasked inputs s x e f old new r
    → TableBelow (judged_signals i inputs) s (table_of i s old) (table_meaning (judged_signals i inputs) inputs s x)
    → TableBelow (judged_signals i inputs) s (table_of i s new) (table_meaning (judged_signals i inputs) inputs s x)
round_sound way i unasked inputs s x e f old new r w a z k h c =
    let j = judged_signals i inputs in
    let last = last_env j inputs (state_term s x) in
    let S = sheet_in (cell_at h.mid) true s (output_count i) 0 in
    let o = known j inputs (output_cells i old) in
    let less : KnowsLess (env_of e) last = subst (λ (z : Env). KnowsLess z last) (sym k)
    (λ n. below_then (opened_less unasked o n) (table_known j inputs s x (table_of i s old) c n)) in
    let swept : Below true s S (sheet_meaning s x last) =
    subst (λ (z : Sheet true s). Below true s z (sheet_meaning s x last))
    (sym h.sweep.sheet)
    (sheet_swept_sound way s x last (env_of e) (sheet_in (cell_at old) true s (output_count i) 0) less
    (subst (λ (z : Env). Heard (emits is_sure true s (sheet_meaning s x last)) last z) (sym k)
    (heard_but unasked i _ last o a (emitted_there is_sure true s i 0 0 z (sheet_meaning s x last))
    (last_heard j w inputs (output_cells i old) s x))) c.sheet) in
    let T : Table s = record { outputs = output_cells i old; sheet = S } in
    let t : TableBelow j s T (table_meaning j inputs s x) = record { outputs = c.outputs; sheet = swept } in
    let g = table_sound j w inputs s x T t in
    record {
      outputs = λ n l. subst (λ (v : Status). IsBelow v (last (outer n)))
          (sym (told_cell way i unasked inputs s x e f old new r h n (w n l) l))
          (learned_below (output_cells i old n) _ (last (outer n)) (c.outputs n l) (g.outputs n l));
      sheet = subst (λ (z : Sheet true s). Below true s z (sheet_meaning s x last))
          (sym (round_sheet way i unasked inputs s x e f old new r h)) swept;
    }

pub round_quiet : (way : Direction) (i : List Declaration) (unasked inputs : ℕ → Bool) (s : Statement)
    (x : State) (e f : Known)
    (old new : List Status)
    (r : Swept) → IsWithinPlaces (judged_signals i inputs)
    → AreInputsAlone i unasked → IsClosed i 0 0 (term_of s) → env_of e ≡ known_but unasked i inputs (output_cells i old)
    → (h : IsRound way i unasked inputs s x e f old new r)
    → TableBelow (judged_signals i inputs) s (table_of i s old) (table_meaning (judged_signals i inputs) inputs s x)
    → h.mid ≡ old → new ≡ old
    → IsClosedBut unasked i inputs s x (table_of i s old)
round_quiet way i unasked inputs s x e f old new r w a z k h c mid_is new_is =
    let j = judged_signals i inputs in
    let last = last_env j inputs (state_term s x) in
    let O = sheet_in (cell_at old) true s (output_count i) 0 in
    let o = known j inputs (output_cells i old) in
    let less : KnowsLess (opened unasked o) last
    = λ n. below_then (opened_less unasked o n) (table_known j inputs s x (table_of i s old) c n) in
    let same : sheet_in (cell_at h.mid) true s (output_count i) 0 ≡ O
    = ap (λ (z : List Status). sheet_in (cell_at z) true s (output_count i) 0) mid_is in
    let rest : sheet_swept way s x (opened unasked o) O ≡ O
    = ap (λ (z : Env). sheet_swept way s x z O) (sym k) ∙ (sym h.sweep.sheet ∙ same) in
    let g = table_sound j w inputs s x (table_of i s old) c in
    let told : (n : ℕ) → j.has n ≡ true → learned (output_cells i old n)
    (verdict (emits is_sure true s O (outer n)) (emits is_possible true s O (outer n))) ≡ output_cells i old n
    = λ n l. ap (λ (z : Sheet true s). learned (output_cells i old n)
    (verdict (emits is_sure true s z (outer n)) (emits is_possible true s z (outer n)))) (sym same)
    ∙ (sym (told_cell way i unasked inputs s x e f old new r h n (w n l) l)
    ∙ ap (λ (z : List Status). output_cells i z n) new_is) in
    record {
      outputs = λ n l.
          nothing_learnt (output_cells i old n) _ (last (outer n)) (c.outputs n l) (g.outputs n l) (told n l);
      sheet = sheet_swept_quiet way s x last (opened unasked o) O less
          (seen_but unasked i (emits is_sure true s O) o a (emitted_there is_sure true s i 0 0 z O)
          (outputs_seen j inputs (output_cells i old) (emits is_sure true s O) (emits is_possible true s O) told))
          c.sheet rest;
    }
