-- What a settled table says of the kernel's reaction.
use Rattle.std.specs.Prelude.{◌≡◌, ◌≢◌, ◌<◌, ◌+◌, ℕ, zero, suc, Bool, true, false, not, ◌&&◌, cond, ltb, List}
use Rattle.std.proofs.Common.{refl, ap, sym, ◌∙◌, arith, inl, inr, subst}
use Rattle.std.proofs.lemmas.Bool.{ltb-true, eq-eqb}
use mathlib.Core.Path.{fun_ext}
use Rattle.est_kernel.specs.Bits.{bits}
use Rattle.est_kernel.specs.Codes.{Codes, code, no_codes}
use Rattle.est_kernel.specs.CodeViews.{codes_of}
use Rattle.est_kernel.specs.PauseNumbers.{HasDistinctPauses}
use Rattle.est_kernel.specs.Pauses.{pauses_of}
use Rattle.est_kernel.specs.StartCodes.{IsLoopSafe}
use Rattle.est_kernel.specs.Term.{outer, Term, nothing}
use Rattle.est_kernel.specs.View.{term_of}
use Rattle.est_kernel.specs.declared.kernel.Kernel.{Kernel}
use Rattle.est_kernel.specs.declared.pause_set.PauseSet.{PauseSet}
use Rattle.est_kernel.specs.declared.state.Inputs.{Inputs}
use Rattle.est_kernel.specs.declared.state.State.{State}
use Rattle.est_kernel.specs.declared.state.State.TheVariants.{Fresh, Done, Paused}
use Rattle.est_kernel.specs.declared.state.Stuck.{Stuck}
use Rattle.est_kernel.specs.declared.statement.Statement.{Statement}
use Rattle.est_meaning.proofs.CodeSetLemmas.{code_true}
use Rattle.est_meaning.proofs.DecidedByMust.{must_gives, gives_must}
use Rattle.est_meaning.proofs.EmittedIsPresent.{judged_decided}
use Rattle.est_meaning.proofs.SafeLoopLemmas.{safe_for}
use Rattle.est_meaning.specs.Knowledge.{IsBelow}
use Rattle.est_meaning.specs.MustCan.{must}
use Rattle.est_meaning.specs.Reaction.{is_undecided}
use Rattle.est_meaning.specs.Rounds.{judged_signals, last_env}
use Rattle.est_meaning.specs.Rules.{Gives}
use Rattle.est_meaning.specs.Signals.{Signals, no_signals}
use Rattle.est_meaning.specs.States.{IsState, state_term, term_at}
use Rattle.est_meaning.specs.Environments.{Env, verdict, is_unknown}
use Rattle.est_meaning.specs.Steps.{StepsTo}
use Rattle.est_meaning.specs.declared.status.Status.{Status}
use Rattle.est_meaning.specs.declared.status.Status.TheVariants.{Unknown}
use Rattle.est_meaning.proofs.KnowledgeIsMonotone.{no_true}
use Rattle.est_meaning.proofs.RoundsComeToRest.{judged_within}
use Rattle.est_meaning.specs.Views.{env_of, set_of}
use Rattle.est_meaning.specs.declared.signal_set.Env.{Env as Known}
use Rattle.est_meaning.specs.declared.signal_set.SignalSet.{SignalSet}
use Rattle.est_cells.proofs.MicrostepsAgree.{decided_up, values_decided, meaning_by, all_decided, some_open, left_open}
use Rattle.est_cells.proofs.NextState.{first_pauses, next_pauses, same_bool}
use Rattle.est_cells.proofs.Order.{emits_up}
use Rattle.est_cells.proofs.WholeTable.{sheet_sure, table_least}
use Rattle.est_cells.specs.Decided.{SheetDecided, TableDecided}
use Rattle.est_cells.specs.Next.{stays, NextAt}
use Rattle.est_cells.specs.Tables.{Sheet, emits, is_sure}
use Rattle.est_cells.specs.Whole.{TableBelow, known, sheet_meaning, table_meaning}
use Rattle.est_net.specs.Cells.{cell_at}
use Rattle.est_net.specs.Layout.{output_count, sheet_in, sure_codes}
use Rattle.est_rounds.proofs.Reacting.{paused_state, paused_reacts, ended_reacts}
use Rattle.est_rounds.specs.Contract.{IsReaction, HasNoReaction}
use Rattle.est_micro.specs.Runs.{IsSettled, output_cells, table_of}
use Rattle.est_micro.specs.Engine.{GoesOnFrom, HasValues, IsAsMeant}
use Rattle.est_micro.specs.declared.cells.Swept.{Swept}
use Rattle.est_micro.proofs.AllDecided.{all_cells_decided}

-- the code of a kernel's cells is one of its term, where it has not ended
code_meant : (s : Statement) (x : State) (e : Env) (k : ℕ) → (sheet_meaning s x e).cells.must k ≡ true
    → (must (state_term s x) e).codes k ≡ true
unfolding no_codes
code_meant s Fresh e k h = h
code_meant s Done e k h = no_true h
code_meant s (Paused p) e k h = h

meant_code : (s : Statement) (x : State) (e : Env) (k : ℕ) → (x ≡ Done → ⊥) → (must (state_term s x) e).codes k ≡ true
    → (sheet_meaning s x e).cells.must k ≡ true
meant_code s Fresh e k d h = h
meant_code s Done e k d h = absurd (d refl)
meant_code s (Paused p) e k d h = h

safe_term : (s : Statement) (x : State) → IsLoopSafe (term_of s) → IsState s x → IsLoopSafe (state_term s x)
safe_term s x i q = safe_for s i x _ (record { is_state = q; term = refl })

-- what a settled table is above and below
abbrev Meant : Kernel → State → (ℕ → Bool) → List Status → Type 0
Meant k x inputs cells = TableBelow (judged_signals k.interface inputs) k.root
    (table_meaning (judged_signals k.interface inputs) inputs k.root x) (table_of k.interface k.root cells)

least_of : (k : Kernel) (x : State) (inputs : ℕ → Bool) (cells : List Status) (r : Swept)
    → IsSettled k x inputs cells r
    → Meant k x inputs cells
least_of k x inputs cells r h = table_least (judged_signals k.interface inputs) inputs k.root x
    (table_of k.interface k.root cells) h.closed

pub as_meant : (k : Kernel) (x : State) (inputs : ℕ → Bool) (cells : List Status) (r : Swept)
    → IsSettled k x inputs cells r → IsAsMeant k x inputs cells
as_meant k x inputs cells r h = record { sound = h.sound; whole = least_of k x inputs cells r h }

-- where there is a reaction, every cell is decided
decided_by : (k : Kernel) (x : State) (inputs : ℕ → Bool) (cells : List Status) (r : Swept)
    → IsSettled k x inputs cells r
    → (o : Signals) (n : ℕ) (u : Term)
    → Gives (state_term k.root x) (last_env (judged_signals k.interface inputs) inputs (state_term k.root x)) o n u
    → TableDecided (judged_signals k.interface inputs) k.root (table_of k.interface k.root cells)
decided_by k x inputs cells r h o n u g =
    let j = judged_signals k.interface inputs in
    let s = k.root in
    let e = last_env j inputs (state_term s x) in
    let m = least_of k x inputs cells r h in
    let v = meaning_by s x e o n u g in
    record {
      outputs = λ a l z.
          let y = judged_decided j (judged_within k.interface inputs) inputs (state_term s x) (λ b. o (outer b)) u
          (record { signals = o; code = n; gives = g; seen = λ b. refl }) a l in
          y.decided (known_below_is (m.outputs a l) y.decided ∙ z);
      sheet = decided_up true s (sheet_meaning s x e) (sheet_in (cell_at cells) true s (output_count k.interface) 0)
          m.sheet
          (subst (λ (z : Sheet true s). SheetDecided true s z) (sym v) (values_decided s x e o n u g));
    }
  where
    known_below_is : {v w : Status} → IsBelow v w → v ≢ Unknown → v ≡ w
    known_below_is (inl h) d = absurd (d h)
    known_below_is (inr h) d = h

values_of : (k : Kernel) (x : State) (inputs : ℕ → Bool) (cells : List Status) (r : Swept)
    → IsLoopSafe (term_of k.root)
    → IsState k.root x → IsSettled k x inputs cells r
    → TableDecided (judged_signals k.interface inputs) k.root (table_of k.interface k.root cells)
    → HasValues k x inputs cells
values_of k x inputs cells r safe q h d = record {
  all = all_cells_decided k inputs cells h.size d h.offered;
  offered = h.offered;
  decided = d;
  values = all_decided (judged_signals k.interface inputs) (judged_within k.interface inputs) inputs k.root safe x q
      (table_of k.interface k.root cells) h.sound d;
}

-- where the table has a code, there is a reaction, and every cell has its value
pub values_by_code : (k : Kernel) (x : State) (inputs : ℕ → Bool) (cells : List Status) (r : Swept)
    → IsLoopSafe (term_of k.root)
    → IsState k.root x → IsSettled k x inputs cells r → (n : ℕ) → codes_of r.judged.must.codes n ≡ true
    → HasValues k x inputs cells
values_by_code k x inputs cells r safe q h n c =
    let e = last_env (judged_signals k.interface inputs) inputs (state_term k.root x) in
    let t = ap (λ (f : Codes). f n) (sym h.found.must) ∙ c in
    let rule = must_gives (state_term k.root x) e n (safe_term k.root x safe q)
    (code_meant k.root x e n (h.sound.sheet.cells.must n t)) in
    values_of k x inputs cells r safe q h (decided_by k x inputs cells r h rule.signals n rule.rest rule.gives)

-- the signals that are emitted, and the code, are those of the reaction
emitted_are : (k : Kernel) (x : State) (inputs : ℕ → Bool) (cells : List Status) (r : Swept)
    → IsSettled k x inputs cells r
    → (v : HasValues k x inputs cells) → set_of r.judged.must.signals ≡ v.values.signals
emitted_are k x inputs cells r h v =
    let s = k.root in
    let e = last_env (judged_signals k.interface inputs) inputs (state_term s x) in
    let T = sheet_in (cell_at cells) true s (output_count k.interface) 0 in
    let M = sheet_meaning s x e in
    let m = least_of k x inputs cells r h in
    h.found.emits ∙ (fun_ext (λ n. same_bool (emits is_sure true s T n) (emits is_sure true s M n)
    (emits_up true s T M h.sound.sheet n) (emits_up true s M T m.sheet n))
    ∙ (sheet_sure s x e
    ∙ ap (λ a. a.signals) (gives_must (state_term s x) e v.values.signals v.values.code v.values.rest v.values.gives)))

code_is : (k : Kernel) (x : State) (inputs : ℕ → Bool) (cells : List Status) (r : Swept)
    → IsSettled k x inputs cells r
    → (v : HasValues k x inputs cells) → (n : ℕ) → codes_of r.judged.must.codes n ≡ true → v.values.code ≡ n
code_is k x inputs cells r h v n c =
    let s = k.root in
    let e = last_env (judged_signals k.interface inputs) inputs (state_term s x) in
    let t = ap (λ (f : Codes). f n) (sym h.found.must) ∙ c in
    let m = code_meant s x e n (h.sound.sheet.cells.must n t) in
    let g = ap (λ a. a.codes n)
    (gives_must (state_term s x) e v.values.signals v.values.code v.values.rest v.values.gives) in
    sym (code_true v.values.code n (sym g ∙ m))

-- the pauses at which the kernel then stands
next_of : (k : Kernel) (x : State) (inputs from : ℕ → Bool) (cells : List Status) → HasDistinctPauses k.root
    → IsState k.root x
    → (x ≡ Done → ⊥) → GoesOnFrom x from → (v : HasValues k x inputs cells)
    → NextAt k.root (state_term k.root x) (last_env (judged_signals k.interface inputs) inputs (state_term k.root x))
    v.values.signals
    v.values.code (stays true k.root from (sheet_in (cell_at cells) true k.root (output_count k.interface) 0))
next_of k Fresh inputs from cells d q n g v =
    first_pauses (judged_signals k.interface inputs) inputs k.root d from (table_of k.interface k.root cells) v.values
next_of k Done inputs from cells d q n g v = absurd (n refl)
next_of k (Paused p) inputs from cells d q n g v =
    let j = judged_signals k.interface inputs in
    let t = term_at k.root (pauses_of p) in
    subst (λ (z : ℕ → Bool). NextAt k.root t (last_env j inputs t) v.values.signals v.values.code
    (stays true k.root z (sheet_in (cell_at cells) true k.root (output_count k.interface) 0))) (sym (g p refl))
    (next_pauses j inputs k.root d p q.live q.exclusive (table_of k.interface k.root cells) v.values)

-- the kernel pauses
pub reaction_paused : (k : Kernel) (x : State) (i : Inputs) (cells : List Status) (r : Swept) (from : ℕ → Bool)
    (next : PauseSet)
    → HasDistinctPauses k.root → IsLoopSafe (term_of k.root) → IsState k.root x → (x ≡ Done → ⊥) → GoesOnFrom x from
    → IsSettled k x (bits i.signals) cells r → codes_of r.judged.must.codes 1 ≡ true
    → ((a : ℕ) → pauses_of next a ≡ stays true k.root from
    (sheet_in (cell_at cells) true k.root (output_count k.interface) 0) a)
    → IsReaction k x i (record { outputs = r.judged.must.signals.interface; next = Paused next })
reaction_paused k x i cells r from next d safe q n g h c same =
    let inputs = bits i.signals in
    let j = judged_signals k.interface inputs in
    let s = k.root in
    let t = state_term s x in
    let last = last_env j inputs t in
    let o = r.judged.must.signals in
    let v = values_by_code k x inputs cells r safe q h 1 c in
    let N = next_of k x inputs from cells d q n g v in
    let one = subst (λ (z : ℕ → Bool). StepsTo s t last v.values.signals v.values.code z)
    (sym (fun_ext same)) N.steps in
    let two : StepsTo s t last (set_of o) v.values.code (pauses_of next)
    = subst (λ (z : Signals). StepsTo s t last z v.values.code (pauses_of next))
    (sym (emitted_are k x inputs cells r h v)) one in
    let e = code_is k x inputs cells r h v 1 c in
    record {
      reacts = paused_reacts j inputs s t last o v.values.code next refl e two;
      next = paused_state s t last (set_of o) v.values.code next e two (λ a b. same a ∙ N.own a b);
    }

-- the kernel ends
pub reaction_ended : (k : Kernel) (x : State) (i : Inputs) (cells : List Status) (r : Swept) (from : ℕ → Bool)
    → HasDistinctPauses k.root → IsLoopSafe (term_of k.root) → IsState k.root x → (x ≡ Done → ⊥) → GoesOnFrom x from
    → IsSettled k x (bits i.signals) cells r → codes_of r.judged.must.codes 0 ≡ true
    → IsReaction k x i (record { outputs = r.judged.must.signals.interface; next = Done })
reaction_ended k x i cells r from d safe q n g h c =
    let inputs = bits i.signals in
    let j = judged_signals k.interface inputs in
    let s = k.root in
    let t = state_term s x in
    let last = last_env j inputs t in
    let o = r.judged.must.signals in
    let v = values_by_code k x inputs cells r safe q h 0 c in
    let N = next_of k x inputs from cells d q n g v in
    let pauses = stays true s from (sheet_in (cell_at cells) true s (output_count k.interface) 0) in
    let two : StepsTo s t last (set_of o) v.values.code pauses
    = subst (λ (z : Signals). StepsTo s t last z v.values.code pauses)
    (sym (emitted_are k x inputs cells r h v)) N.steps in
    let e = code_is k x inputs cells r h v 0 c in
    record {
      reacts = ended_reacts j inputs s t last o v.values.code pauses refl (λ z. absurd (omega (arith, e, z))) two;
      next = tt;
    }

set_seen : (a : SignalSet) (f : Signals) (n : ℕ) → set_of a ≡ f → bits a.interface n ≡ f (outer n)
unfolding set_of
set_seen a f n e = ap (λ (g : Signals). g (outer n)) e

-- the kernel had ended
pub done_values : (k : Kernel) (inputs : ℕ → Bool) (cells : List Status) (r : Swept) → IsLoopSafe (term_of k.root)
    → IsSettled k Done inputs cells r → HasValues k Done inputs cells
done_values k inputs cells r safe h =
    let last = last_env (judged_signals k.interface inputs) inputs nothing in
    let g : Gives nothing last no_signals 0 nothing = record { signals = refl; code = refl; rest = refl } in
    values_of k Done inputs cells r safe tt h (decided_by k Done inputs cells r h no_signals 0 nothing g)

pub reaction_done : (k : Kernel) (i : Inputs) (cells : List Status) (r : Swept) → IsLoopSafe (term_of k.root)
    → IsSettled k Done (bits i.signals) cells r
    → IsReaction k Done i (record { outputs = r.judged.must.signals.interface; next = Done })
reaction_done k i cells r safe h =
    let inputs = bits i.signals in
    let last = last_env (judged_signals k.interface inputs) inputs nothing in
    let v = done_values k inputs cells r safe h in
    record {
      reacts = record {
        signals = v.values.signals;
        code = v.values.code;
        gives = subst (λ (z : Term). Gives nothing last v.values.signals v.values.code z) v.values.gives.rest
            v.values.gives;
        seen = λ n. set_seen r.judged.must.signals v.values.signals n (emitted_are k Done inputs cells r h v);
      };
      next = tt;
    }

code_self : (n : ℕ) → code n n ≡ true
unfolding code
code_self n = eq-eqb n n refl

-- no more than the codes 0 and 1 have a cell at the root
few_codes : (f : ℕ → Status) (c n : ℕ) → sure_codes f c (0 + 2) n ≡ true → n < 2
unfolding sure_codes
few_codes f c n h = ltb-true n 2 (first (ltb n 2) (is_sure (f (c + n))) h)
  where
    first : (a b : Bool) → (a && b) ≡ true → a ≡ true
    first true b h = refl
    first false b h = no_true h

no_code : (codes : Codes) (n : ℕ) → n < 2 → codes 0 ≡ false → codes 1 ≡ false → codes n ≡ true → ⊥
no_code codes zero l a b h = let z : false ≡ true = sym a ∙ h in no_true z
no_code codes (suc zero) l a b h = let z : false ≡ true = sym b ∙ h in no_true z
no_code codes (suc (suc n)) l a b h = absurd (omega arith)

-- what is open is undecided
unknown_is : (p q : Bool) → (q && not p) ≡ is_unknown (verdict p q)
unknown_is true true = refl
unknown_is true false = refl
unknown_is false true = refl
unknown_is false false = refl

left_unknown : (b i : Bool) (v w : Status) → (b ≡ true → v ≡ w)
    → is_unknown (cond b v (verdict i false)) ≡ (b && is_unknown w)
left_unknown true i v w h = ap is_unknown (h refl)
left_unknown false true v w h = refl
left_unknown false false v w h = refl

undecided_at : (k : Kernel) (x : State) (inputs : ℕ → Bool) (cells : List Status) (r : Swept) (e : Known) (u n : ℕ)
    → IsSettled k x inputs cells r
    → env_of e ≡ known (judged_signals k.interface inputs) inputs (output_cells k.interface cells)
    → bits u n ≡ (bits e.possible.interface n && not (bits e.present.interface n))
    → bits u n ≡ is_undecided (judged_signals k.interface inputs) inputs (state_term k.root x) n
unfolding env_of set_of known
undecided_at k x inputs cells r e u n h knows is =
    let j = judged_signals k.interface inputs in
    is ∙ (unknown_is (bits e.present.interface n) (bits e.possible.interface n)
    ∙ (ap (λ (f : Env). is_unknown (f (outer n))) knows
    ∙ left_unknown (j.has n) (inputs n) (output_cells k.interface cells n) _
    (λ l. left_open j (judged_within k.interface inputs) inputs k.root x
    (table_of k.interface k.root cells) h.sound h.closed n l)))

-- a table without an open cell has one of the two codes
pub some_code : (k : Kernel) (x : State) (inputs : ℕ → Bool) (cells : List Status) (r : Swept)
    → IsLoopSafe (term_of k.root)
    → IsState k.root x → (x ≡ Done → ⊥) → IsSettled k x inputs cells r
    → codes_of r.judged.must.codes 0 ≡ false → codes_of r.judged.must.codes 1 ≡ false
    → TableDecided (judged_signals k.interface inputs) k.root (table_of k.interface k.root cells) → ⊥
some_code k x inputs cells r safe q n h a b d =
    let t = state_term k.root x in
    let last = last_env (judged_signals k.interface inputs) inputs t in
    let v = values_of k x inputs cells r safe q h d in
    let c = v.values.code in
    let g = ap (λ m. m.codes c) (gives_must t last v.values.signals c v.values.rest v.values.gives) in
    let m = meant_code k.root x last c n (g ∙ code_self c) in
    let there = (least_of k x inputs cells r h).sheet.cells.must c m in
    no_code (codes_of r.judged.must.codes) c (few_codes (cell_at cells) _ c there) a b
    (ap (λ (f : Codes). f c) h.found.must ∙ there)

-- the kernel has no reaction
pub no_reaction : (k : Kernel) (x : State) (i : Inputs) (cells : List Status) (r : Swept) (e : Known) (u : Stuck)
    → IsLoopSafe (term_of k.root)
    → IsState k.root x → (x ≡ Done → ⊥) → IsSettled k x (bits i.signals) cells r
    → env_of e ≡ known (judged_signals k.interface (bits i.signals)) (bits i.signals) (output_cells k.interface cells)
    → codes_of r.judged.must.codes 0 ≡ false → codes_of r.judged.must.codes 1 ≡ false
    → ((n : ℕ) → bits u.undecided n ≡ (bits e.possible.interface n && not (bits e.present.interface n)))
    → HasNoReaction k x i u
no_reaction k x i cells r e u safe q n h knows a b is =
    let inputs = bits i.signals in
    let j = judged_signals k.interface inputs in
    record {
      cannot = some_open j (judged_within k.interface inputs) inputs k.root x (table_of k.interface k.root cells)
          h.closed (some_code k x inputs cells r safe q n h a b);
      undecided = λ m. undecided_at k x inputs cells r e u.undecided m h knows (is m);
    }
