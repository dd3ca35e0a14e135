-- Rounds until nothing changes.
use Rattle.std.specs.Prelude.{◌≡◌, ◌≤◌, ◌⊎◌, ℕ, Bool, true, false, List, length, replicate}
use Rattle.std.proofs.Common.{refl, ap, sym, ◌∙◌, arith, inl, inr, subst}
use Rattle.std.proofs.lemmas.List.{length-replicate}
use Rattle.est_kernel.specs.Bits.{bits}
use Rattle.est_kernel.specs.Interfaces.{emittable}
use Rattle.est_kernel.specs.View.{term_of}
use Rattle.est_kernel.specs.Pauses.{pauses_of}
use Rattle.est_kernel.specs.Scope.{IsClosed}
use Rattle.est_kernel.specs.declared.interface.Declaration.{Declaration}
use Rattle.est_kernel.specs.declared.kernel.Kernel.{Kernel}
use Rattle.est_kernel.specs.declared.state.State.{State}
use Rattle.est_kernel.specs.declared.state.State.TheVariants.{Fresh, Done, Paused}
use Rattle.est_kernel.specs.declared.statement.Statement.{Statement}
use Rattle.est_kernel.specs.Term.{Term, outer}
use Rattle.est_meaning.proofs.KnowledgeIsMonotone.{must_can}
use Rattle.est_meaning.specs.Knowledge.{IsBelow}
use Rattle.est_meaning.specs.Laws.{IsWithinPlaces}
use Rattle.est_meaning.specs.MustCan.{can, must, sure as surely}
use Rattle.est_meaning.specs.Rounds.{JudgedSignals, judged_signals, last_env}
use Rattle.est_meaning.specs.States.{state_term}
use Rattle.est_meaning.specs.Environments.{Env, verdict}
use Rattle.est_meaning.specs.declared.status.Status.{Status}
use Rattle.est_meaning.specs.declared.status.Status.TheVariants.{Present, Absent, Unknown}
use Rattle.est_meaning.proofs.EmittedIsPresent.{judged_at}
use Rattle.est_meaning.proofs.RoundsComeToRest.{judged_within}
use Rattle.est_meaning.specs.Views.{env_of}
use Rattle.est_meaning.specs.declared.signal_set.Env.{Env as Known}
use Rattle.est_cells.proofs.OpenTable.{opened_begun, opened_resumed}
use Rattle.est_cells.proofs.WholeTable.{at_rest}
use Rattle.est_cells.specs.Opening.{open_sheet}
use Rattle.est_cells.specs.Tables.{Sheet, Below}
use Rattle.est_cells.specs.Whole.{known, sheet_gates, sheet_meaning}
use Rattle.est_net.specs.Cells.{AllOpen, cell_at, decided, learned}
use Rattle.est_net.specs.Layout.{cell_count, output_count, rank, sheet_in}
use Rattle.est_net.specs.Reach.{HasEmissions}
use Rattle.est_micro.specs.declared.direction.Direction.{Direction}
use Rattle.est_micro.specs.Parts.{AreInputsAlone, IsClosedBut}
use Rattle.est_micro.specs.Runs.{AreOfferedTrue, output_cells, output_gate, AreSignalsUpdated, IsRound, IsSettled}
use Rattle.est_micro.specs.Runs.{IsSettledBut, Ready, table_of}
use Rattle.est_micro.specs.declared.cells.Swept.{Swept}
use Rattle.est_micro.specs.declared.settling.RunEnd.{RunEnd}
use Rattle.est_micro.proofs.Frames.{sheet_same}
use Rattle.est_micro.proofs.FullTables.{full_closed}
use Rattle.est_micro.proofs.Nodes.{JudgedOf}
use Rattle.est_micro.proofs.Unasked.{none_opened}
use Rattle.est_micro.proofs.OpenTables.{all_open, sheet_open, open_there}
use Rattle.est_micro.proofs.Rounds.{before_round, round_sheet, round_sound, round_quiet, rank_within, may_be, not_input}
use Rattle.est_micro.proofs.Rounds.{gate_is}

-- what holds after one
pub record Settling (unasked : ℕ → Bool) (k : Kernel) (x : State) (inputs : ℕ → Bool) (before now : ℕ)
    (cells : List Status) (found : Swept) (env : Known) : Type 0 where
  pub ready : Ready unasked k x inputs cells env
  pub counted : now ≡ decided cells
  pub rising : before ≤ now
  pub says : JudgedOf true k.root (sheet_in (cell_at cells) true k.root (output_count k.interface) 0) found.judged
  pub rest : now ≡ before → IsClosedBut unasked k.interface inputs k.root x (table_of k.interface k.root cells)

-- a signal that was offered is told to be present, and what is present stays so
pub told_offered : (inputs sure possible : ℕ → Bool) (n : ℕ) → inputs n ≡ true
    → learned Unknown (output_gate inputs sure possible n) ≡ Present
told_offered inputs sure possible n h = rw h refl

stay_true : (way : Direction) (i : List Declaration) (unasked inputs : ℕ → Bool) (s : Statement) (x : State)
    (e f : Known) (old new : List Status) (r : Swept) → IsRound way i unasked inputs s x e f old new r
    → AreOfferedTrue i inputs old → AreOfferedTrue i inputs new
stay_true way i unasked inputs s x e f old new r h was n l o p =
    let a = bits r.judged.must.signals.interface in
    let b = bits r.judged.can.signals.interface in
    h.updated.told n l o
    ∙ ap (λ (v : Status). learned v (output_gate inputs a b n))
    (before_round way i unasked inputs s x e f old new r h n (rank_within (emittable i) (length i) n l o) ∙ was n l o p)

pub round_made : (unasked : ℕ → Bool) (way : Direction) (k : Kernel) (x : State) (inputs : ℕ → Bool) (e f : Known)
    (old new : List Status) (r : Swept)
    (before now : ℕ)
    → AreInputsAlone k.interface unasked
    → Ready unasked k x inputs old e → IsRound way k.interface unasked inputs k.root x e f old new r
    → before ≤ decided old
    → now ≡ decided new
    → Settling unasked k x inputs before now new r f
round_made unasked way k x inputs e f old new r before now alone ready h before_is now_is =
    let j = judged_signals k.interface inputs in
    let w = judged_within k.interface inputs in
    let sweep = h.sweep.changes in
    let updated = h.updated.changes in
    let p = sweep.more in
    let q = updated.more in
    record {
      ready = record {
        size = updated.size ∙ (sweep.size ∙ ready.size);
        sound = round_sound way k.interface unasked inputs k.root x e f old new r w alone k.closed ready.knows h
            ready.sound;
        knows = h.updated.knows;
        offered = stay_true way k.interface unasked inputs k.root x e f old new r h ready.offered;
      };
      counted = now_is;
      rising = omega arith;
      says = subst (λ (z : Sheet true k.root). JudgedOf true k.root z r.judged)
          (sym (round_sheet way k.interface unasked inputs k.root x e f old new r h)) h.sweep.found;
      rest = λ same.
          let m : h.mid ≡ old = sweep.quiet (omega arith) in
          let n : new ≡ h.mid = updated.quiet (omega arith) in
          subst (λ (z : List Status). IsClosedBut unasked k.interface inputs k.root x (table_of k.interface k.root z))
          (sym (n ∙ m))
          (round_quiet way k.interface unasked inputs k.root x e f old new r w alone k.closed
          ready.knows h ready.sound m (n ∙ m));
    }

pub settled : (unasked : ℕ → Bool) (k : Kernel) (x : State) (inputs : ℕ → Bool) (before now : ℕ) (cells : List Status)
    (r : RunEnd) → Settling unasked k x inputs before now cells r.swept r.env → (now ≡ before)
    ⊎ (now ≡ length cells)
    → IsSettledBut unasked k x inputs cells r
settled unasked k x inputs before now cells r h e = record {
  size = h.ready.size;
  sound = h.ready.sound;
  closed = elim e [ inl quiet ↦ inr (h.rest quiet) | inr all ↦ inl (sym h.counted ∙ all) ];
  found = h.says;
  knows = h.ready.knows;
  offered = h.ready.offered;
}

-- a table without an open cell is settled
pub full_settled : (unasked : ℕ → Bool) (k : Kernel) (x : State) (inputs : ℕ → Bool) (cells : List Status)
    (r : RunEnd)
    → IsSettledBut unasked k x inputs cells r → decided cells ≡ length cells → IsSettled k x inputs cells r.swept
full_settled unasked k x inputs cells r h all = record {
  size = h.size;
  sound = h.sound;
  closed = full_closed k x inputs cells (judged_within k.interface inputs) h.size all h.sound;
  found = h.found;
  offered = h.offered;
}

-- and so is one where each input is asked
pub none_settled : (unasked : ℕ → Bool) (k : Kernel) (x : State) (inputs : ℕ → Bool) (cells : List Status)
    (r : RunEnd)
    → ((n : ℕ) → unasked n ≡ false) → IsSettledBut unasked k x inputs cells r → IsSettled k x inputs cells r.swept
none_settled unasked k x inputs cells r none h = elim h.closed [
  | inl all ↦ full_settled unasked k x inputs cells r h all
  | inr quiet ↦ record {
    size = h.size;
    sound = h.sound;
    closed = record {
      outputs = quiet.outputs;
      sheet = subst
          (λ (e : Env). Below true k.root (sheet_gates k.root x e (table_of k.interface k.root cells).sheet)
          (table_of k.interface k.root cells).sheet)
          (none_opened unasked (known (judged_signals k.interface inputs) inputs (output_cells k.interface cells)) none)
          quiet.sheet;
    };
    found = h.found;
    offered = h.offered;
  }
]

pub none_knows : (unasked : ℕ → Bool) (k : Kernel) (x : State) (inputs : ℕ → Bool) (cells : List Status)
    (r : RunEnd)
    → ((n : ℕ) → unasked n ≡ false) → IsSettledBut unasked k x inputs cells r
    → env_of r.env ≡ known (judged_signals k.interface inputs) inputs (output_cells k.interface cells)
none_knows unasked k x inputs cells r none h = h.knows ∙ none_opened unasked _ none

-- the open table, with nothing told
open_meaning : (k : Kernel) (x : State) (e : Env) → IsClosed k.interface 0 0 (term_of k.root)
    → Below true k.root (open_sheet true k.root 0) (sheet_meaning k.root x e)
open_meaning k Fresh e c = opened_begun true k.root Present e k.interface 0 0 c
open_meaning k Done e c = opened_begun true k.root Absent e k.interface 0 0 c
open_meaning k (Paused p) e c = opened_resumed k.root (pauses_of p) Present e k.interface 0 0 c

-- a signal that isn't possible is absent, and of one that is nothing is known
possible_below : (j : JudgedSignals) → IsWithinPlaces j → (inputs : ℕ → Bool) (t : Term) (possible : ℕ → Bool) (m : ℕ)
    → j.has m ≡ true
    → ((can t surely (last_env j inputs t)).signals (outer m) ≡ true → possible m ≡ true)
    → IsBelow (verdict false (possible m)) (last_env j inputs t (outer m))
possible_below j w inputs t possible m l f = go (possible m) refl
  where
    last : Env
    last = last_env j inputs t

    is : last (outer m) ≡ verdict ((must t last).signals (outer m)) ((can t surely last).signals (outer m))
    is = sym (ap (λ (e : Env). e (outer m)) (at_rest j w inputs t)) ∙ judged_at j t last m l

    absent : (a b : Bool) → (a ≡ true → b ≡ true) → (b ≡ true → false ≡ true) → verdict a b ≡ Absent
    absent a true g h = let z : false ≡ true = h refl in cc
    absent true false g h = let z : false ≡ true = g refl in cc
    absent false false g h = refl

    go : (b : Bool) → possible m ≡ b → IsBelow (verdict false b) (last (outer m))
    go true i = inl refl
    go false i = inr (sym (is ∙ absent ((must t last).signals (outer m)) ((can t surely last).signals (outer m))
        ((must_can t last).signals (outer m)) (λ h. sym i ∙ f h)))

pub start_ready : (unasked : ℕ → Bool) (k : Kernel) (x : State) (inputs sure possible : ℕ → Bool) (n : ℕ)
    (new : List Status) (e : Known)
    → IsClosed k.interface 0 0 (term_of k.root) → n ≡ cell_count k → ((i : ℕ) → sure i ≡ false)
    → HasEmissions k.root x possible
    → AreSignalsUpdated k.interface unasked inputs sure possible (replicate n Unknown) new e
    → length (replicate n Unknown) ≡ n → Ready unasked k x inputs new e
start_ready unasked k x inputs sure possible n new e closed size none all h long =
    let i = k.interface in
    let j = judged_signals i inputs in
    let last = last_env j inputs (state_term k.root x) in
    let same : sheet_in (cell_at new) true k.root (output_count i) 0 ≡ open_sheet true k.root 0
    = sheet_same (cell_at new) all_open true k.root (output_count i) 0
    (λ a l u. h.changes.after a l ∙ open_there n a (omega arith)) ∙ sheet_open true k.root (output_count i) 0 in
    record {
      size = h.changes.size ∙ (long ∙ size);
      sound = record {
        outputs = λ m l.
            let o = may_be i inputs m l in
            let r = rank_within (emittable i) (length i) m (judged_within i inputs m l) o in
            let told : output_cells i new m ≡ verdict false (possible m)
            = h.told m (judged_within i inputs m l) o
            ∙ (ap (λ (v : Status). learned v (output_gate inputs sure possible m))
            (open_there n (rank i m) (omega arith))
            ∙ (gate_is inputs sure possible m (not_input i inputs m l)
            ∙ ap (λ (b : Bool). verdict b (possible m)) (none m))) in
            subst (λ (v : Status). IsBelow v (last (outer m))) (sym told)
            (possible_below j (judged_within i inputs) inputs (state_term k.root x) possible m l (all last m));
        sheet = subst (λ (z : Sheet true k.root). Below true k.root z (sheet_meaning k.root x last)) (sym same)
            (open_meaning k x last closed);
      };
      knows = h.knows;
      offered = λ m l o p.
          let r = rank_within (emittable i) (length i) m l o in
          h.told m l o
          ∙ (ap (λ (v : Status). learned v (output_gate inputs sure possible m)) (open_there n (rank i m) (omega arith))
          ∙ told_offered inputs sure possible m p);
    }

-- the cells of the statement are open after those of the signals were told first
pub open_after : (i : List Declaration) (unasked inputs sure possible : ℕ → Bool) (n : ℕ) (new : List Status)
    (e : Known)
    → AreSignalsUpdated i unasked inputs sure possible (replicate n Unknown) new e
    → AllOpen (output_count i) (length new) new
unfolding AllOpen
open_after i unasked inputs sure possible n new e h a l u =
    let s = h.changes.size in
    let r = length-replicate n Unknown in
    h.changes.after a l ∙ open_there n a (omega (arith, s, r, u))
