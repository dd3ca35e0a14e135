-- Passes between rounds: what holds before one holds after it, and after the signals are told what is emitted.
use Rattle.std.specs.Prelude.{◌≡◌, ◌<◌, ◌≤◌, ◌+◌, ℕ, Bool, true, false, cond, List, length}
use Rattle.std.proofs.Common.{refl, ap, sym, ◌∙◌, arith, inr, subst}
use Rattle.std.specs.List.{list_any}
use mathlib.Core.Path.{fun_ext}
use Rattle.est_kernel.specs.Bits.{bits}
use Rattle.est_kernel.specs.Interfaces.{emittable}
use Rattle.est_kernel.specs.Pauses.{pauses_of}
use Rattle.est_kernel.specs.Term.{inner, outer}
use Rattle.est_kernel.specs.declared.interface.Declaration.{Declaration}
use Rattle.est_kernel.specs.declared.kernel.Kernel.{Kernel}
use Rattle.est_kernel.specs.declared.state.State.{State}
use Rattle.est_kernel.specs.declared.state.State.TheVariants.{Fresh, Done, Paused}
use Rattle.est_kernel.specs.declared.statement.Statement.{Statement}
use Rattle.est_meaning.specs.Environments.{Env, verdict}
use Rattle.est_meaning.specs.Knowledge.{IsBelow, KnowsLess}
use Rattle.est_meaning.specs.Rounds.{judged_signals, last_env}
use Rattle.est_meaning.specs.States.{state_term}
use Rattle.est_meaning.specs.declared.status.Status.{Status}
use Rattle.est_meaning.specs.declared.status.Status.TheVariants.{Present, Absent}
use Rattle.est_meaning.proofs.RoundsComeToRest.{judged_within}
use Rattle.est_meaning.specs.Views.{env_of}
use Rattle.est_meaning.specs.declared.signal_set.Env.{Env as Known}
use Rattle.est_cells.proofs.Order.{below_then}
use Rattle.est_cells.proofs.WholeTable.{table_known, table_sound}
use Rattle.est_cells.specs.Tables.{Below, Sheet, emits, is_possible, is_sure, sheet_size}
use Rattle.est_cells.specs.Whole.{TableBelow, known, sheet_meaning, table_meaning}
use Rattle.est_net.specs.Cells.{cell_at, decided, learned}
use Rattle.est_net.proofs.EmissionLists.{emitted_listed}
use Rattle.est_net.specs.Emissions.{emissions, is_of}
use Rattle.est_net.specs.Layout.{output_count, rank, sheet_in}
use Rattle.est_net.specs.declared.emissions.Emission.{Emission}
use Rattle.est_rounds.specs.declared.acts.MustCan.{MustCan}
use Rattle.est_micro.specs.Inner.Hearing.{Heard}
use Rattle.est_micro.specs.Inner.Walks.{last_of}
use Rattle.est_micro.specs.Parts.{AgreeBut, AreInputsAlone, opened}
use Rattle.est_micro.specs.Inner.Passes.{IsPassRound, SheetPasses}
use Rattle.est_micro.specs.Runs.{AreSignalsUpdated, Ready, output_cells, output_gate, table_of}
use Rattle.est_micro.specs.Inner.Views.{Changes}
use Rattle.est_micro.proofs.Frames.{sheet_same}
use Rattle.est_micro.proofs.Passing.{passed}
use Rattle.est_micro.proofs.PassingOn.{passed_on}
use Rattle.est_micro.proofs.Rounds.{gate_is, last_heard, may_be, not_input, rank_within}
use Rattle.est_micro.proofs.Told.{learned_below}
use Rattle.est_micro.proofs.Unasked.{emitted_there, update_by, heard_but, opened_less}

sheet_passed : (s : Statement) (x : State) (c : ℕ) (e l : Env) (old new : List Status) → KnowsLess l e
    → Heard (emits is_sure true s (sheet_meaning s x e)) e l → SheetPasses s x c l old new
    → Below true s (sheet_in (cell_at old) true s c 0) (sheet_meaning s x e)
    → Below true s (sheet_in (cell_at new) true s c 0) (sheet_meaning s x e)
sheet_passed s Fresh c e l old new k u h b = passed true s c 0 Present l old new h Present e (inr refl) k u b
sheet_passed s Done c e l old new k u h b = passed true s c 0 Absent l old new h Absent e (inr refl) k u b
sheet_passed s (Paused p) c e l old new k u h b =
    passed_on s (pauses_of p) c 0 Present l old new h Present e (inr refl) k u b

-- a pass over the sheet of a kernel's statement, by names for it
pub passes_at : (k : Kernel) (x : State) (l : Env) (root : Statement) (c : ℕ) (old new : List Status) → root ≡ k.root
    → c ≡ output_count k.interface → SheetPasses root x c l old new
    → SheetPasses k.root x (output_count k.interface) l old new
passes_at k x l root c old new a b h =
    subst (λ (n : ℕ). SheetPasses k.root x n l old new) b
    (subst (λ (z : Statement). SheetPasses z x c l old new) a h)

pub pass_changes : (s : Statement) (x : State) (c : ℕ) (l : Env) (old new : List Status) → SheetPasses s x c l old new
    → Changes c (c + sheet_size true s 0) old new
pass_changes s Fresh c l old new h = h.changes
pass_changes s Done c l old new h = h.changes
pass_changes s (Paused p) c l old new h = h.changes

-- a signal's cell is not one of the statement
pub same_output : (k : Kernel) (old new : List Status) (n hi : ℕ) → Changes (output_count k.interface) hi old new
    → n < length k.interface → emittable k.interface n ≡ true
    → output_cells k.interface new n ≡ output_cells k.interface old n
same_output k old new n hi h l o =
    h.before (rank k.interface n) (rank_within (emittable k.interface) (length k.interface) n l o)

-- what is known before a pass is no more than is known at the end, and what is surely emitted is heard
pub ready_less : (unasked : ℕ → Bool) (k : Kernel) (x : State) (inputs : ℕ → Bool) (cells : List Status) (e : Known)
    → AreInputsAlone k.interface unasked → Ready unasked k x inputs cells e
    → let last = last_of k x inputs in
    KnowsLess (env_of e) last × Heard (emits is_sure true k.root (sheet_meaning k.root x last)) last (env_of e)
ready_less unasked k x inputs cells e a ready =
    let i = k.interface in
    let s = k.root in
    let j = judged_signals i inputs in
    let last = last_of k x inputs in
    let o = known j inputs (output_cells i cells) in (
      subst (λ (z : Env). KnowsLess z last) (sym ready.knows)
          (λ n. below_then (opened_less unasked o n) (table_known j inputs s x (table_of i s cells) ready.sound n)),
      subst (λ (z : Env). Heard (emits is_sure true s (sheet_meaning s x last)) last z) (sym ready.knows)
          (heard_but unasked i _ last o a (emitted_there is_sure true s i 0 0 k.closed (sheet_meaning s x last))
          (last_heard j (judged_within i inputs) inputs (output_cells i cells) s x)),
    )

-- what holds before a pass holds after it, but for what is known by the cells of the signals, which stay
pub pass_sound : (unasked : ℕ → Bool) (k : Kernel) (x : State) (inputs : ℕ → Bool) (e : Known)
    (old new : List Status) → AreInputsAlone k.interface unasked → Ready unasked k x inputs old e
    → SheetPasses k.root x (output_count k.interface) (env_of e) old new
    → TableBelow (judged_signals k.interface inputs) k.root (table_of k.interface k.root new)
    (table_meaning (judged_signals k.interface inputs) inputs k.root x)
pass_sound unasked k x inputs e old new a ready h =
    let i = k.interface in
    let s = k.root in
    let w = judged_within i inputs in
    let last = last_of k x inputs in
    let c = ready.sound in
    let g = pass_changes s x (output_count i) (env_of e) old new h in
    let knows = ready_less unasked k x inputs old e a ready in
    record {
      outputs = λ n l. subst (λ (v : Status). IsBelow v (last (outer n)))
          (sym (same_output k old new n _ g (w n l) (may_be i inputs n l))) (c.outputs n l);
      sheet = sheet_passed s x (output_count i) last (env_of e) old new knows.0 knows.1 h c.sheet;
    }

-- a table of which no more was decided than the meaning says, and whose signals were offered as before
pub record Passed (k : Kernel) (x : State) (inputs : ℕ → Bool) (old new : List Status) : Type 0 where
  pub size : length new ≡ length old
  pub sound : TableBelow (judged_signals k.interface inputs) k.root (table_of k.interface k.root new)
      (table_meaning (judged_signals k.interface inputs) inputs k.root x)
  pub same : (n : ℕ) → n < length k.interface → emittable k.interface n ≡ true
      → output_cells k.interface new n ≡ output_cells k.interface old n

pub pass_made : (unasked : ℕ → Bool) (k : Kernel) (x : State) (inputs : ℕ → Bool) (e : Known)
    (old new : List Status) → AreInputsAlone k.interface unasked → Ready unasked k x inputs old e
    → SheetPasses k.root x (output_count k.interface) (env_of e) old new → Passed k x inputs old new
pass_made unasked k x inputs e old new a ready h =
    let g = pass_changes k.root x (output_count k.interface) (env_of e) old new h in
    record {
      size = g.size;
      sound = pass_sound unasked k x inputs e old new a ready h;
      same = λ n l o. same_output k old new n _ g l o;
    }

-- what is known hangs on the cells of the signals alone
known_same : (i : List Declaration) (inputs : ℕ → Bool) (o p : ℕ → Status)
    → ((n : ℕ) → n < length i → emittable i n ≡ true → p n ≡ o n)
    → known (judged_signals i inputs) inputs o ≡ known (judged_signals i inputs) inputs p
unfolding known
known_same i inputs o p h =
    let j = judged_signals i inputs in
    fun_ext (elim [
      | outer n ↦ go n (j.has n) refl
      | inner n ↦ refl
    ])
  where
    go : (n : ℕ) (b : Bool) → (judged_signals i inputs).has n ≡ b
        → cond b (o n) (verdict (inputs n) false) ≡ cond b (p n) (verdict (inputs n) false)
    go n false z = refl
    go n true z = sym (h n (judged_within i inputs n z) (may_be i inputs n z))

-- what holds before cells of the statement are decided as they are meant holds after it
pub ready_by : (unasked : ℕ → Bool) (k : Kernel) (x : State) (inputs : ℕ → Bool) (e : Known) (old new : List Status)
    → Passed k x inputs old new → Ready unasked k x inputs old e → Ready unasked k x inputs new e
ready_by unasked k x inputs e old new p ready = record {
  size = p.size ∙ ready.size;
  sound = p.sound;
  knows = ready.knows ∙ ap (opened unasked) (known_same k.interface inputs
      (output_cells k.interface old) (output_cells k.interface new) p.same);
  offered = λ n l o z. p.same n l o ∙ ready.offered n l o z;
}

-- nothing was decided
pub passed_nothing : (unasked : ℕ → Bool) (k : Kernel) (x : State) (inputs : ℕ → Bool) (e : Known)
    (cells : List Status) → Ready unasked k x inputs cells e → Passed k x inputs cells cells
passed_nothing unasked k x inputs e cells ready = record { size = refl; sound = ready.sound; same = λ n l o. refl }

-- The signals are told what is emitted. What they are told of a signal may fall short of what the cells of its
-- emissions say
pub exchange_ready : (unasked : ℕ → Bool) (k : Kernel) (x : State) (inputs sure possible : ℕ → Bool) (e f : Known)
    (old mid new : List Status)
    → Ready unasked k x inputs old e → Passed k x inputs old mid
    → ((n : ℕ) → IsBelow (verdict (sure n) (possible n))
    (verdict (emits is_sure true k.root (sheet_in (cell_at mid) true k.root (output_count k.interface) 0) (outer n))
    (emits is_possible true k.root (sheet_in (cell_at mid) true k.root (output_count k.interface) 0) (outer n))))
    → AreSignalsUpdated k.interface unasked inputs sure possible mid new f
    → Ready unasked k x inputs new f
exchange_ready unasked k x inputs sure possible e f old mid new ready pass judged h =
    let i = k.interface in
    let s = k.root in
    let j = judged_signals i inputs in
    let w = judged_within i inputs in
    let last = last_env j inputs (state_term s x) in
    let T = table_of i s mid in
    let g = table_sound j w inputs s x T pass.sound in
    record {
      size = h.changes.size ∙ (pass.size ∙ ready.size);
      sound = record {
        outputs = λ n l.
            let o = may_be i inputs n l in
            let told : output_cells i new n ≡ learned (output_cells i mid n) (verdict (sure n) (possible n))
            = h.told n (w n l) o
            ∙ ap (λ (v : Status). learned (output_cells i mid n) v)
            (gate_is inputs sure possible n (not_input i inputs n l)) in
            subst (λ (v : Status). IsBelow v (last (outer n))) (sym told)
            (learned_below (output_cells i mid n) _ (last (outer n)) (pass.sound.outputs n l)
            (below_then (judged n) (g.outputs n l)));
        sheet = subst (λ (z : Sheet true s). Below true s z (sheet_meaning s x last))
            (sym (sheet_same (cell_at new) (cell_at mid) true s (output_count i) 0 (λ m l u. h.changes.after m l)))
            pass.sound.sheet;
      };
      knows = h.knows;
      offered = λ n l o p. h.told n l o
          ∙ ap (λ (v : Status). learned v (output_gate inputs sure possible n))
          (pass.same n l o ∙ ready.offered n l o p);
    }

-- a pass, and what the signals are told after it
pub pass_round_ready : (unasked : ℕ → Bool) (k : Kernel) (x : State) (inputs : ℕ → Bool) (e f : Known)
    (old new : List Status) → AreInputsAlone k.interface unasked
    → IsPassRound k.interface unasked inputs k.root x e f old new → Ready unasked k x inputs old e
    → Ready unasked k x inputs new f
pass_round_ready unasked k x inputs e f old new a h ready =
    exchange_ready unasked k x inputs h.sure h.possible e f old h.mid new ready
    (pass_made unasked k x inputs e old h.mid a ready h.pass)
    (λ n. inr (ap (λ (b : Bool). verdict b (h.possible n)) (h.sure_is n)
    ∙ ap (λ (b : Bool). verdict (emits is_sure true k.root
    (sheet_in (cell_at h.mid) true k.root (output_count k.interface) 0) (outer n)) b) (h.possible_is n)))
    h.updated

pub pass_round_by : (i : List Declaration) (unasked inputs : ℕ → Bool) (s : Statement) (x : State) (e f : Known)
    (old new : List Status) → AreInputsAlone i unasked → IsPassRound i unasked inputs s x e f old new
    → (others : ℕ → Bool) → AgreeBut unasked inputs others → IsPassRound i unasked others s x e f old new
pass_round_by i unasked inputs s x e f old new a h others agree = record {
  mid = h.mid;
  sure = h.sure;
  possible = h.possible;
  pass = h.pass;
  sure_is = h.sure_is;
  possible_is = h.possible_is;
  updated = update_by i unasked inputs _ _ _ _ _ a h.updated others agree;
}

pub pass_round_more : (i : List Declaration) (unasked inputs : ℕ → Bool) (s : Statement) (x : State) (e f : Known)
    (old new : List Status) → IsPassRound i unasked inputs s x e f old new → decided old ≤ decided new
pass_round_more i unasked inputs s x e f old new h =
    let a = h.updated.changes.more in
    let b = (pass_changes s x (output_count i) (env_of e) old h.mid h.pass).more in
    omega arith

pub pass_round_is : (k : Kernel) (x : State) (inputs unasked : ℕ) (e f : Known) (old mid new : List Status)
    (j : MustCan) (listed : List Emission) → listed ≡ emissions true k.root (output_count k.interface) 0
    → SheetPasses k.root x (output_count k.interface) (env_of e) old mid
    → ((n : ℕ) → bits j.must.signals.interface n ≡ list_any (is_of is_sure (cell_at mid) n) listed)
    → ((n : ℕ) → bits j.can.signals.interface n ≡ list_any (is_of is_possible (cell_at mid) n) listed)
    → AreSignalsUpdated k.interface (bits unasked) (bits inputs) (bits j.must.signals.interface)
    (bits j.can.signals.interface) mid new f
    → IsPassRound k.interface (bits unasked) (bits inputs) k.root x e f old new
pass_round_is k x inputs unasked e f old mid new j listed l h sure possible ex = record {
  mid = mid;
  sure = bits j.must.signals.interface;
  possible = bits j.can.signals.interface;
  pass = h;
  sure_is = λ n. sure n ∙ (ap (λ (z : List Emission). list_any (is_of is_sure (cell_at mid) n) z) l
      ∙ sym (emitted_listed is_sure n true k.root (output_count k.interface) 0 (cell_at mid)));
  possible_is = λ n. possible n ∙ (ap (λ (z : List Emission). list_any (is_of is_possible (cell_at mid) n) z) l
      ∙ sym (emitted_listed is_possible n true k.root (output_count k.interface) 0 (cell_at mid)));
  updated = ex;
}
