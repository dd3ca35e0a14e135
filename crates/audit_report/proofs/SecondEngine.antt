-- What the second engine answers is an outcome of the journal, and an accepted step keeps it and leaves its term.
use Rattle.std.proofs.Common.{◌≡◌, ◌⊎◌, ◌∙◌, ℕ, false, List, refl, sym, ap, subst, ⊎_elim, inl}
use Rattle.std.specs.Prelude.{Option, Some, None, MatchOption}
use Rattle.std.proofs.lemmas.Option.{same_Some}
use Rattle.refusal_rules.proofs.RuleLemmas.{first_or_none}
use Rattle.est_kernel.specs.Bits.{bits}
use Rattle.est_kernel.specs.View.{term_of}
use Rattle.est_kernel.specs.Interfaces.{offerable}
use Rattle.est_kernel.specs.Term.{Term}
use Rattle.est_kernel.specs.declared.interface.Declaration.{Declaration}
use Rattle.est_kernel.specs.declared.kernel.Kernel.{Kernel}
use Rattle.est_kernel.specs.declared.state.Inputs.{Inputs}
use Rattle.est_kernel.specs.declared.state.Outcome.{Outcome}
use Rattle.est_kernel.specs.declared.state.State.{State}
use Rattle.est_kernel.specs.declared.state.Stuck.{Stuck}
use Rattle.est_meaning.specs.Knowledge.{IsIn}
use Rattle.est_meaning.specs.States.{state_term}
use Rattle.est_left.proofs.Alike.{one_state}
use Rattle.est_rounds.specs.Contract.{IsReaction, HasNoReaction}
use Rattle.rbac_policy.specs.declared.commands.Entry.{Entry}
use Rattle.reactor_core.specs.Meaning.{PastMove, asked}
use Rattle.reactor_core.specs.declared.entry.Move.TheVariants.{Step}
use Rattle.reactor_core.specs.declared.entry.Load.{Load as LoadEntry}
use Rattle.reactor_core.specs.declared.entry.PastInstant.{PastInstant}
use Rattle.reactor_core.specs.declared.entry.SlotEntry.{SlotEntry}
use Rattle.reactor_core.specs.Loading.{GivenModule}
use Rattle.reactor_core.specs.Meaning.{instant, entry, is_loaded, last_load, load_after, ModuleOf, Running}
use Rattle.reactor_core.specs.Meaning.{RunsAfter, Leaves, instant_of}
use Rattle.reactor_core.specs.Left.{IsKernelOf, IsLeftOf}
use Rattle.reactor_core.specs.Reacting.{ReactsWith, IsStuck}
use Rattle.reactor_core.specs.Instants.{IsOutcome, HasNoOutcome}
use Rattle.reactor_core.proofs.OneMeaning.{OneModule, same_outcome, not_both, one_term}
use Rattle.reactor_core.proofs.Steps.{after_snoc}
use Rattle.access_core.specs.declared.refusal.Refusal.{Refusal}
use Rattle.access_core.specs.declared.reply.Reply.{Reply}
use Rattle.access_core.specs.declared.reply.Reply.TheVariants.{Refused}
use Rattle.access_core.specs.Answering.{IsRefused}
use Rattle.access_core.specs.SlotStep.{SlotStep, slot_rules, Does, stamp_of}
use Rattle.access_core.specs.declared.command.SlotCommand.TheVariants.{Move}
use Rattle.access_core.proofs.Legality.{steps_where}
use Rattle.access_core.proofs.OneNaming.{same_mask}
use Rattle.audit_report.specs.Inner.Asking.{Predicts, LeavesOther, IsSecondAnswer, IsSecondStepAnswer, Fails}
use Rattle.audit_report.specs.Inner.Faults.{last_instant, KeepsInstant}
use Rattle.audit_report.specs.declared.second_engine.SecondAnswer.{SecondAnswer}
use Rattle.audit_report.specs.declared.second_engine.SecondAnswer.TheVariants.{NotAsked, Other, SameOutputs, Same}
use Rattle.audit_report.proofs.Replayed.{last_pushed}

module _ (modules : OneModule) (journal : List SlotEntry) (k : Kernel) (x : State) (left : IsLeftOf journal k x)
    (r : Running) (runs : RunsAfter journal r) where
  -- the kernel has the interface of the module that runs
  pub same_interface : k.interface ≡ r.interface
  same_interface =
      let here = left.kernel in
      let m : GivenModule = record { interface = r.interface; relations = r.relations; term = runs.term } in
      let load : runs.load ≡ here.load = same_Some runs.load here.load (sym runs.last ∙ here.last) in
      let is : ModuleOf here.load m = subst (λ (l : LoadEntry). ModuleOf l m) load runs.is in
      here.declares ∙ ap (λ (g : GivenModule). g.interface) (modules here.load here.given m here.is is)

  -- what may be offered to the module may be offered to the kernel
  pub inputs_fit : (mask : ℕ) → IsIn (bits mask) (offerable r.interface) → IsIn (bits mask) (offerable k.interface)
  inputs_fit mask h = subst (λ (i : List Declaration). IsIn (bits mask) (offerable i)) (sym same_interface) h

  -- a reaction of the kernel is an outcome of the journal
  pub outcome_of : (i : Inputs) (o : Outcome) → i.signals ≡ r.pending → IsReaction k x i o
      → IsOutcome journal o.outputs (state_term k.root o.next)
  outcome_of i o pending h = record {
    running = r;
    runs = runs;
    term = state_term k.root x;
    leaves = left.leaves;
    reacts = subst
        (λ (d : List Declaration). ReactsWith d (state_term k.root x) r.pending o.outputs (state_term k.root o.next))
        same_interface
        (subst (λ (n : ℕ). ReactsWith k.interface (state_term k.root x) n o.outputs (state_term k.root o.next)) pending
        h.reacts);
  }

  -- where the kernel has none, the journal has none
  pub no_outcome_of : (i : Inputs) (s : Stuck) → i.signals ≡ r.pending → HasNoReaction k x i s
      → HasNoOutcome journal s.undecided
  no_outcome_of i s pending h =
      let here : IsStuck k.interface (state_term k.root x) i.signals s.undecided =
      record { cannot = h.cannot; exactly = h.undecided } in
      record {
        running = r;
        runs = runs;
        term = state_term k.root x;
        leaves = left.leaves;
        stuck = subst
            (λ (d : List Declaration). IsStuck d (state_term k.root x) r.pending s.undecided)
            same_interface
            (subst (λ (n : ℕ). IsStuck k.interface (state_term k.root x) n s.undecided) pending here);
      }

-- kernels of one load begin as one term
same_begin : OneModule → (before after : List SlotEntry) (k other : Kernel) → last_load before ≡ last_load after
    → IsKernelOf before k → IsKernelOf after other → term_of k.root ≡ term_of other.root
same_begin modules before after k other loads one two =
    let load : one.load ≡ two.load = same_Some one.load two.load (sym one.last ∙ (loads ∙ two.last)) in
    let is : ModuleOf two.load one.given = subst (λ (l : LoadEntry). ModuleOf l one.given) load one.is in
    let same : one.given ≡ two.given = modules two.load one.given two.given is two.is in
    one.begins ∙ ap (λ (g : GivenModule). g.term) same ∙ sym two.begins

-- one outcome at most has these outputs
pub other_outputs : OneModule → (journal : List SlotEntry) (a b : ℕ) (t : Term) → IsOutcome journal a t → ¬ (a ≡ b)
    → (next : Term) → IsOutcome journal b next → ⊥
other_outputs modules journal a b t one not next other =
    not (same_mask a b (same_outcome modules journal a b t next one other).0)

-- no outcome where there is none
pub none_at_all : OneModule → (journal : List SlotEntry) (undecided b : ℕ) → HasNoOutcome journal undecided
    → (next : Term) → IsOutcome journal b next → ⊥
none_at_all modules journal undecided b none next other = not_both modules journal b next undecided other none

-- nothing is asked where no module runs
pub nothing_runs : (journal : List SlotEntry) (a : PastMove) → is_loaded journal ≡ false
    → IsSecondAnswer journal a NotAsked
nothing_runs journal a none = by_instant (instant_of a) where
  by_instant : (i : Option PastInstant)
      → MatchOption i (NotAsked ≡ NotAsked)
      (λ i. ((is_loaded journal ≡ false) × (NotAsked ≡ NotAsked)) ⊎ IsSecondStepAnswer journal i.outputs NotAsked)
  by_instant None = refl
  by_instant (Some i) = inl (none, refl)

-- what is thought of a step is thought of the move that keeps its instant
pub thinks_of : (journal : List SlotEntry) (a : PastMove) (o : SecondAnswer) (i : PastInstant) → Some i ≡ instant_of a
    → ((is_loaded journal ≡ false) × (o ≡ NotAsked)) ⊎ IsSecondStepAnswer journal i.outputs o
    → IsSecondAnswer journal a o
thinks_of journal a o i is h =
    subst
    (λ (kept : Option PastInstant). MatchOption kept (o ≡ NotAsked)
    (λ i. ((is_loaded journal ≡ false) × (o ≡ NotAsked)) ⊎ IsSecondStepAnswer journal i.outputs o)) is h

-- an accepted step keeps this instant: it has an outcome with its outputs, whose term is left
record KeepsOutcome (before : List SlotEntry) (i : PastInstant) (after : List SlotEntry) : Type 0 where
  next : Term
  outcome : IsOutcome before i.outputs next
  leaves : Leaves after next
  loads : last_load before ≡ last_load after

module _ (modules : OneModule) (judged : List Entry) (slot session : ℕ) (before : List SlotEntry) (reply : Reply)
    (after : List SlotEntry) (not : (given : Refusal) → reply ≡ Refused given → ⊥) where
  step_keeps : (i : PastInstant) → SlotStep judged slot session (Move (asked (Step i))) before reply after
      → last_instant after ≡ Some i → KeepsOutcome before i after
  step_keeps i h keeps =
      ⊎_elim
      (λ first. absurd (not first.0 first.2.replied))
      (λ passed.
      let adds = passed.1.adds in
      let done = instant adds.outcome.running.pending passed.1.outputs in
      let added = entry (stamp_of judged session) (Step done) in
      let last : Some done ≡ Some i =
      sym (last_pushed before added) ∙ ap last_instant (sym adds.appended) ∙ keeps in
      let same : passed.1.outputs ≡ i.outputs = ap (λ (p : PastInstant). p.outputs) (same_Some done i last) in
      record {
        next = passed.1.next;
        outcome = subst (λ (n : ℕ). IsOutcome before n passed.1.next) same adds.outcome;
        leaves = adds.leaves;
        loads = sym (ap last_load adds.appended ∙ after_snoc load_after None before added);
      })
      (first_or_none (slot_rules judged slot session (Move (asked (Step i))) before)
      (λ refusal. IsRefused refusal before reply after)
      (Does judged slot session (Move (asked (Step i))) before reply after) h)

  -- the term that was told is left
  left_as_told : (i : PastInstant) (next : State) → KeepsOutcome before i after → Predicts before i.outputs next
      → LeavesOther after next → ⊥
  left_as_told i next kept told other =
      let term = state_term told.kernel.root next in
      let a : term ≡ kept.next =
      (same_outcome modules before i.outputs i.outputs term kept.next told.outcome kept.outcome).1 in
      let b : state_term other.kernel.root other.state ≡ kept.next =
      one_term modules after (state_term other.kernel.root other.state) kept.next other.left.leaves kept.leaves in
      let begins : term_of told.kernel.root ≡ term_of other.kernel.root =
      same_begin modules before after told.kernel other.kernel kept.loads told.is other.left.kernel in
      let c : term ≡ state_term other.kernel.root next =
      one_state told.kernel.root other.kernel.root next begins told.ordered other.ordered in
      other.other (sym c ∙ (a ∙ sym b))

  step_holds : (i : PastInstant) (o : SecondAnswer) → KeepsOutcome before i after
      → IsSecondStepAnswer before i.outputs o
      → Fails after o → ⊥
  step_holds i NotAsked kept thinks fails = fails
  step_holds i Other kept thinks fails = thinks kept.next kept.outcome
  step_holds i SameOutputs kept thinks fails = fails
  step_holds i (Same next) kept thinks fails = left_as_told i next kept thinks fails

  unasked : (o : SecondAnswer) → o ≡ NotAsked → Fails after o → ⊥
  unasked o none fails = subst (λ (p : SecondAnswer). Fails after p) none fails

  -- where an entry is kept, it is as the second engine has it
  pub opinion_holds : (a : PastMove) (o : SecondAnswer)
      → SlotStep judged slot session (Move (asked a)) before reply after
      → IsSecondAnswer before a o → KeepsInstant after a → Fails after o → ⊥
  opinion_holds a o h thinks keeps fails = by_instant (instant_of a) refl thinks keeps where
    by_instant : (i : Option PastInstant) → instant_of a ≡ i
        → MatchOption i (o ≡ NotAsked)
        (λ i. ((is_loaded before ≡ false) × (o ≡ NotAsked)) ⊎ IsSecondStepAnswer before i.outputs o)
        → MatchOption i (Unit {0}) (λ i. last_instant after ≡ Some i) → ⊥
    by_instant None is thinks keeps = unasked o thinks fails
    by_instant (Some i) is thinks keeps =
        let step : SlotStep judged slot session (Move (asked (Step i))) before reply after =
        subst (λ (d : PastMove). SlotStep judged slot session (Move (asked d)) before reply after)
        (steps_where a i is) h in
        ⊎_elim (λ none. unasked o none.1 fails) (λ told. step_holds i o (step_keeps i step keeps) told fails) thinks
