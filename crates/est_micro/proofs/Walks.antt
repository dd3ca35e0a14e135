-- What holds in a walk over a kernel's statement.
use Rattle.std.specs.Prelude.{◌≡◌, ◌≤◌, ◌+◌, ◌&&◌, ◌||◌, ℕ, Bool, true, false, List, IfNone, IfSome, None, Some, not}
use Rattle.std.proofs.Common.{Bor, Option, refl, ap, sym, ◌∙◌, arith, inr, subst}
use Rattle.std.proofs.lemmas.Bool.{and_right}
use Rattle.std.specs.List.{list_any}
use Rattle.est_kernel.specs.Bits.{bits}
use Rattle.est_kernel.specs.Interfaces.{emittable}
use Rattle.est_kernel.specs.Pauses.{pauses_of}
use Rattle.est_kernel.specs.Term.{Name, inner, outer}
use Rattle.est_kernel.specs.declared.kernel.Kernel.{Kernel}
use Rattle.est_kernel.specs.declared.pause_set.PauseSet.{PauseSet}
use Rattle.est_kernel.specs.declared.state.State.{State}
use Rattle.est_kernel.specs.declared.statement.Statement.{Statement}
use Rattle.est_meaning.specs.Environments.{Env, verdict}
use Rattle.est_meaning.specs.Knowledge.{IsBelow, KnowsLess}
use Rattle.est_meaning.specs.Rounds.{judged_signals}
use Rattle.est_meaning.specs.Signals.{Signals}
use Rattle.est_meaning.specs.Views.{env_of, set_of}
use Rattle.est_meaning.specs.declared.signal_set.Env.{Env as Known}
use Rattle.est_meaning.specs.declared.signal_set.SignalSet.{SignalSet}
use Rattle.est_meaning.specs.declared.status.Status.{Status}
use Rattle.est_meaning.specs.declared.status.Status.TheVariants.{Absent, Unknown}
use Rattle.est_meaning.proofs.RoundsComeToRest.{judged_within}
use Rattle.est_cells.proofs.Order.{emits_whole}
use Rattle.est_cells.proofs.WholeTable.{table_sound}
use Rattle.est_cells.specs.Meaning.{begun, resumed}
use Rattle.est_cells.specs.Tables.{Below, Sheet, emits, is_possible, is_sure, sheet_size}
use Rattle.est_cells.specs.Whole.{sheet_meaning}
use Rattle.est_net.specs.Cells.{cell_at}
use Rattle.est_net.proofs.EmissionLists.{emitted_listed}
use Rattle.est_net.specs.Emissions.{emissions, is_of}
use Rattle.est_net.specs.Layout.{output_count, sheet_in}
use Rattle.est_net.specs.declared.emissions.Emission.{Emission}
use Rattle.est_micro.specs.Inner.Hearing.{Heard}
use Rattle.est_micro.specs.Inner.Parts.{IsPartOf, IsReached, PartHeard}
use Rattle.est_micro.specs.Inner.Sides.{IsWithin}
use Rattle.est_micro.specs.Inner.Views.{Changes}
use Rattle.est_micro.specs.Inner.Walks.{IsReachedBy, IsWalked, Leads, Walks, last_of}
use Rattle.est_micro.specs.Parts.{AgreeBut}
use Rattle.est_micro.specs.Runs.{AreSignalsUpdated, Ready, table_of}
use Rattle.est_micro.specs.declared.part.Part.{Part}
use Rattle.est_micro.specs.declared.question.Question.{Question}
use Rattle.est_micro.proofs.BegunNodes.{nothing_changes, widen}
use Rattle.est_micro.proofs.Frames.{changes_then}
use Rattle.est_micro.proofs.PassRounds.{exchange_ready, passed_nothing, ready_by, same_output}
use Rattle.est_micro.proofs.Rounds.{may_be}

pub none_too : {A P Q : Type 0} (o : Option A) → (P → Q) → IfNone o P → IfNone o Q
none_too None f h = f h
none_too (Some a) f h = h

pub some_too : {A : Type 0} {P Q : A → Type 0} (o : Option A) → ((a : A) → P a → Q a) → IfSome o P → IfSome o Q
some_too None f h = h
some_too (Some a) f h = f a h

-- where less is in doubt, what was heard still is
heard_by : (e l m : Env) (x : Signals) → ((n : Name) → m n ≡ Unknown → l n ≡ Unknown) → Heard x e l → Heard x e m
heard_by e l m x f h n i j = h n i (f n j)

pub part_heard_by : (f : Part) (r : Status) (e l m : Env) → ((n : Name) → m n ≡ Unknown → l n ≡ Unknown)
    → PartHeard f r e l → PartHeard f r e m
part_heard_by f r e l m doubt h = record {
  begun = none_too f.pauses (heard_by e l m _ doubt) h.begun;
  on = some_too f.pauses (λ p. heard_by e l m _ doubt) h.on;
}

-- a part lies after where the cells of the statement begin
reached_from : (main : Bool) (s : Statement) (c t : ℕ) (M : Sheet main s) (e : Env) (f : Part)
    → IsReached main s c t M e f → c ≤ f.place.cell
reached_from main s c t M e f at = go f.pauses at.begun at.on
  where
    go : (o : Option (Bor PauseSet)) → IfNone o (IsWithin main s c t M f.place.main f.statement.now f.place.cell
        f.place.traps (begun f.place.main f.statement.now at.reach at.inside))
        → IfSome o (λ p. IsWithin main s c t M true f.statement.now f.place.cell f.place.traps
        (resumed f.statement.now (pauses_of p.now) at.reach at.inside)) → c ≤ f.place.cell
    go None x y = x.from
    go (Some p) x y = y.from

-- where cells of a part change so that no more is decided of the statement than is meant
pub sound_by : (k : Kernel) (x : State) (inputs : ℕ → Bool) (f : Part) (at : IsReachedBy k x inputs f) (l m : Env)
    (old new : List Status)
    → Changes f.place.cell (f.place.cell + sheet_size f.place.main f.statement.now f.place.traps) old new
    → ((n : Name) → m n ≡ Unknown → l n ≡ Unknown)
    → Below true k.root (sheet_in (cell_at new) true k.root (output_count k.interface) 0)
    (sheet_meaning k.root x (last_of k x inputs)) → KnowsLess m at.inside → Leads k x inputs f at old l
    → Leads k x inputs f at new m
sound_by k x inputs f at l m old new change doubt below less leads =
    let i = k.interface in
    let last = last_of k x inputs in
    let from = reached_from _ _ _ _ _ _ f at in
    record {
      sound = record {
        outputs = λ n z. subst (λ (v : Status). IsBelow v (last (outer n)))
            (sym (same_output k old new n _
            (record {
              before = λ j u. change.before j (omega arith);
              after = change.after;
              size = change.size;
              more = change.more;
              quiet = change.quiet;
            }) (judged_within i inputs n z) (may_be i inputs n z)))
            (leads.sound.outputs n z);
        sheet = below;
      };
      less = less;
      heard = part_heard_by f at.reach at.inside l m doubt leads.heard;
    }

-- one walk after another
pub walked_then : (k : Kernel) (x : State) (unasked inputs : ℕ → Bool) (f : Part) (l m n : Env)
    (old mid new : List Status) → IsWalked k x unasked inputs f l m old mid → IsWalked k x unasked inputs f m n mid new
    → IsWalked k x unasked inputs f l n old new
walked_then k x unasked inputs f l m n old mid new h g = record {
  changes = changes_then _ _ _ _ _ _ old mid new (omega arith) (omega arith) (omega arith) (omega arith) h.changes
      g.changes;
  doubt = λ i z. h.doubt i (g.doubt i z);
  leads = λ others a at w. g.leads others a at (h.leads others a at w);
}

-- a walk over a part of a part
pub walked_part : (k : Kernel) (x : State) (unasked inputs : ℕ → Bool) (f g : Part) (l m : Env) (old new : List Status)
    → IsPartOf f g l old → IsWalked k x unasked inputs g l m old new → IsWalked k x unasked inputs f l m old new
walked_part k x unasked inputs f g l m old new part walked =
    let change = widen g.place.cell f.place.cell _ _ old new part.from part.within walked.changes in
    record {
      changes = change;
      doubt = walked.doubt;
      leads = λ others a at h.
          let in_it = part.step _ _ _ _ _ _ at h.sound.sheet h.less in
          let after = walked.leads others a in_it.to (record {
            sound = h.sound;
            less = subst (λ (e : Env). KnowsLess l e) (sym in_it.same) h.less;
            heard = in_it.heard l h.heard;
          }) in
          record {
            sound = after.sound;
            less = subst (λ (e : Env). KnowsLess m e) in_it.same after.less;
            heard = part_heard_by f at.reach at.inside l m walked.doubt h.heard;
          };
    }

-- the same of what a run is asked
pub then_walks : (q : Question) (f : Part) (l m n : Env) (old mid new : List Status) → Walks q f l m old mid
    → Walks q f m n mid new → Walks q f l n old new
then_walks q f l m n old mid new h g =
    walked_then q.kernel.now q.state.now (bits q.unasked) (bits q.inputs) f l m n old mid new h g

pub part_walks : (q : Question) (f g way : Part) (l m : Env) (old new : List Status) → way ≡ g → IsPartOf f g l old
    → Walks q way l m old new → Walks q f l m old new
part_walks q f g way l m old new z part walked =
    walked_part q.kernel.now q.state.now (bits q.unasked) (bits q.inputs) f g l m old new part
    (subst (λ (x : Part). Walks q x l m old new) z walked)

-- what no emission may emit is absent
both_false : (a b : Bool) → a ≡ false → b ≡ false → verdict a b ≡ Absent
both_false false false x y = refl
both_false true b x y = let z : true ≡ false = x in cc
both_false false true x y = let z : true ≡ false = y in cc

absent_below : (k : Kernel) (x : State) (inputs : ℕ → Bool) (f : Part) (at : IsReachedBy k x inputs f)
    (cells : List Status) (l : Env) (n : ℕ) → Leads k x inputs f at cells l
    → (emittable k.interface n && not (inputs n)) ≡ true
    → emits is_sure true k.root (sheet_in (cell_at cells) true k.root (output_count k.interface) 0) (outer n) ≡ false
    → emits is_possible true k.root (sheet_in (cell_at cells) true k.root (output_count k.interface) 0) (outer n)
    ≡ false
    → IsBelow Absent (last_of k x inputs (outer n))
absent_below k x inputs f at cells l n leads has sure possible =
    let i = k.interface in
    let j = judged_signals i inputs in
    let g = table_sound j (judged_within i inputs) inputs k.root x (table_of i k.root cells) leads.sound in
    subst (λ (v : Status). IsBelow v (last_of k x inputs (outer n))) (both_false _ _ sure possible) (g.outputs n has)

-- and then the run goes on
pub leads_ready : (unasked : ℕ → Bool) (k : Kernel) (x : State) (inputs : ℕ → Bool) (e : Known) (old new : List Status)
    (f : Part) (at : IsReachedBy k x inputs f) (l : Env)
    → Changes (output_count k.interface) (output_count k.interface + sheet_size true k.root 0) old new
    → Leads k x inputs f at new l → Ready unasked k x inputs old e → Ready unasked k x inputs new e
leads_ready unasked k x inputs e old new f at l change leads ready =
    ready_by unasked k x inputs e old new (record {
      size = change.size;
      sound = leads.sound;
      same = λ n z o. same_output k old new n _ change z o;
    }) ready

-- what is known, but that these signals are absent
pub both_of : (f : Bool → Bool → Bool) {a b x y : Bool} → a ≡ x → b ≡ y → f a b ≡ f x y
both_of f z w = rw (z, w) refl

no_more : (a b : Bool) → (a ≡ true → b ≡ true) → b ≡ false → a ≡ false
no_more false b f h = refl
no_more true b f h = let z : true ≡ false = sym (f refl) ∙ h in cc

-- a signal that is looked at: its emission decides whether it is present
pub record IsAsked (emitted present unasked offered : Bool) : Type 0 where
  pub emitted_is : emitted ≡ true
  pub present_is : present ≡ false
  pub unasked_is : unasked ≡ false
  pub offered_is : offered ≡ false

pub is_asked : (signal emitted possible present unasked offered : Bool)
    → ((signal && (emitted && possible)) && not (present || (unasked || offered))) ≡ true
    → IsAsked emitted present unasked offered
is_asked false e p s u o h = let z : false ≡ true = h in cc
is_asked true false p s u o h = let z : false ≡ true = h in cc
is_asked true true false s u o h = let z : false ≡ true = h in cc
is_asked true true true true u o h = let z : false ≡ true = h in cc
is_asked true true true false true o h = let z : false ≡ true = h in cc
is_asked true true true false false true h = let z : false ≡ true = h in cc
is_asked true true true false false false h =
    record { emitted_is = refl; present_is = refl; unasked_is = refl; offered_is = refl }

-- one that is silent was looked at, and no emission may emit it
pub was_asked : (asked emitted : Bool) → (asked && not emitted) ≡ true → (asked ≡ true) × (emitted ≡ false)
was_asked true false h = (refl, refl)
was_asked true true h = let z : false ≡ true = h in cc
was_asked false e h = let z : false ≡ true = h in cc

pub silent_walked : (k : Kernel) (x : State) (unasked inputs : ℕ → Bool) (f : Part) (cells : List Status) (e m : Known)
    (silent : ℕ → Bool)
    → ((others : ℕ → Bool) → AgreeBut unasked inputs others → (at : IsReachedBy k x others f)
    → Leads k x others f at cells (env_of e) → (n : ℕ) → silent n ≡ true
    → IsBelow Absent (last_of k x others (outer n)))
    → ((n : ℕ) → silent n ≡ true → bits e.present.interface n ≡ false) → m.present ≡ e.present
    → ((n : ℕ) → bits m.possible.interface n ≡ (bits e.possible.interface n && not (silent n)))
    → m.possible.local ≡ e.possible.local
    → IsWalked k x unasked inputs f (env_of e) (env_of m) cells cells
unfolding env_of set_of
silent_walked k x unasked inputs f cells e m silent absent free same less local = record {
  changes = nothing_changes _ _ _;
  doubt = doubts;
  leads = λ others a at h. record {
    sound = h.sound;
    less = elim [
      | outer n ↦ below others at (absent others a at h) h.less n (silent n) refl
      | inner n ↦ subst (λ (v : Status). IsBelow v (at.inside (inner n))) (sym (locals n)) (h.less (inner n))
    ];
    heard = part_heard_by f at.reach at.inside (env_of e) (env_of m) doubts h.heard;
  };
}
  where
    and_on : (b : Bool) → (b && true) ≡ b
    and_on true = refl
    and_on false = refl

    locals : (n : ℕ) → env_of m (inner n) ≡ env_of e (inner n)
    locals n =
        ap (λ (s : SignalSet). verdict (bits s.local n) (bits m.possible.local n)) same
        ∙ ap (λ (b : ℕ). verdict (bits e.present.local n) (bits b n)) local

    stays : (n : ℕ) → silent n ≡ false → env_of m (outer n) ≡ env_of e (outer n)
    stays n z =
        ap (λ (s : SignalSet). verdict (bits s.interface n) (bits m.possible.interface n)) same
        ∙ ap (verdict (bits e.present.interface n))
        (less n ∙ (ap (λ (b : Bool). bits e.possible.interface n && not b) z ∙ and_on (bits e.possible.interface n)))

    goes : (n : ℕ) → silent n ≡ true → env_of m (outer n) ≡ Absent
    goes n z =
        ap (λ (s : SignalSet). verdict (bits s.interface n) (bits m.possible.interface n)) same
        ∙ both_false _ _ (free n z)
        (less n ∙ (ap (λ (b : Bool). bits e.possible.interface n && not b) z
        ∙ and_right (bits e.possible.interface n) false refl))

    doubt : (n : ℕ) (b : Bool) → silent n ≡ b → env_of m (outer n) ≡ Unknown → env_of e (outer n) ≡ Unknown
    doubt n true i z = let w : Absent ≡ Unknown = sym (goes n i) ∙ z in cc
    doubt n false i z = sym (stays n i) ∙ z

    doubts : (n : Name) → env_of m n ≡ Unknown → env_of e n ≡ Unknown
    doubts = elim [
      | outer n ↦ λ z. doubt n (silent n) refl z
      | inner n ↦ λ z. sym (locals n) ∙ z
    ]

    below : (others : ℕ → Bool) (at : IsReachedBy k x others f)
        → ((n : ℕ) → silent n ≡ true → IsBelow Absent (last_of k x others (outer n)))
        → KnowsLess (env_of e) at.inside → (n : ℕ) (b : Bool) → silent n ≡ b
        → IsBelow (env_of m (outer n)) (at.inside (outer n))
    below others at gone knows n true i =
        subst (λ (v : Status). IsBelow v (at.inside (outer n))) (sym (goes n i))
        (subst (λ (v : Status). IsBelow Absent v) (sym (at.outer n)) (gone n i))
    below others at gone knows n false i =
        subst (λ (v : Status). IsBelow v (at.inside (outer n))) (sym (stays n i)) (knows (outer n))

-- that no emission may emit
pub silent_absent : (k : Kernel) (x : State) (inputs : ℕ → Bool) (f : Part) (at : IsReachedBy k x inputs f)
    (cells : List Status) (l : Env) (n : ℕ)
    (listed : List Emission) → listed ≡ emissions true k.root (output_count k.interface) 0
    → Leads k x inputs f at cells l
    → emittable k.interface n ≡ true → inputs n ≡ false
    → list_any (is_of is_possible (cell_at cells) n) listed ≡ false
    → IsBelow Absent (last_of k x inputs (outer n))
silent_absent k x inputs f at cells l n listed z leads emitted offered silent =
    let T = sheet_in (cell_at cells) true k.root (output_count k.interface) 0 in
    let possible : emits is_possible true k.root T (outer n) ≡ false
    = emitted_listed is_possible n true k.root (output_count k.interface) 0 (cell_at cells)
    ∙ (ap (λ (xs : List Emission). list_any (is_of is_possible (cell_at cells) n) xs) (sym z) ∙ silent) in
    absent_below k x inputs f at cells l n leads (rw (emitted, offered) refl)
    (no_more _ _ (emits_whole true k.root T (outer n)) possible) possible

-- and once the cells of the signals were told
pub listed_ready : (unasked : ℕ → Bool) (k : Kernel) (x : State) (inputs sure possible : ℕ → Bool) (e f : Known)
    (old new : List Status) (listed : List Emission) → listed ≡ emissions true k.root (output_count k.interface) 0
    → Ready unasked k x inputs old e
    → ((n : ℕ) → sure n ≡ list_any (is_of is_sure (cell_at old) n) listed)
    → ((n : ℕ) → possible n ≡ list_any (is_of is_possible (cell_at old) n) listed)
    → AreSignalsUpdated k.interface unasked inputs sure possible old new f → Ready unasked k x inputs new f
listed_ready unasked k x inputs sure possible e f old new listed z ready a b h =
    let T = sheet_in (cell_at old) true k.root (output_count k.interface) 0 in
    let says : (pick : Status → Bool) (n : ℕ) → list_any (is_of pick (cell_at old) n) listed
    ≡ emits pick true k.root T (outer n)
    = λ pick n. ap (λ (xs : List Emission). list_any (is_of pick (cell_at old) n) xs) z
    ∙ sym (emitted_listed pick n true k.root (output_count k.interface) 0 (cell_at old)) in
    exchange_ready unasked k x inputs sure possible e f old old new ready
    (passed_nothing unasked k x inputs e old ready)
    (λ n. inr (ap (λ (v : Bool). verdict v (possible n)) (a n ∙ says is_sure n)
    ∙ ap (λ (v : Bool). verdict (emits is_sure true k.root T (outer n)) v) (b n ∙ says is_possible n))) h
