-- What an entry makes of a running module.
use Rattle.std.proofs.Common.{◌≡◌, ℕ, ◌<◌, ◌^◌, List, [], ◌∷◌, ◌++◌, length, true, false, refl, ap, sym, ◌∙◌, subst}
use Rattle.std.proofs.Common.{inl, inr, ◌⊎◌, Bool, ◌||◌, arith}
use Rattle.std.proofs.lemmas.Bool.Decides.{nat_tests}
use Rattle.est_kernel.proofs.Masks.{bits_zero, bits_or, bits_pow}
use Rattle.std.specs.Prelude.{slice_get, Some, None, is_some, Ok, Err, bit_or, nat_eq, ◌-◌}
use Rattle.est_kernel.specs.Bits.{bits}
use Rattle.est_kernel.specs.Term.{Term}
use Rattle.est_kernel.specs.View.{term_of}
use Rattle.est_kernel.specs.declared.interface.Declaration.{Declaration}
use Rattle.est_kernel.specs.declared.state.State.{State}
use Rattle.est_kernel.specs.declared.state.State.TheVariants.{Fresh}
use Rattle.est_kernel.specs.declared.state.Stuck.{Stuck as StuckValue}
use Rattle.est_meaning.specs.States.{state_term}
use Rattle.est_relations.specs.Keeping.{AreOverInputs}
use Rattle.est_relations.specs.Offers.{PendingInputs, with_place}
use Rattle.est_relations.proofs.Answering.{nothing_pending}
use Rattle.est_rounds.specs.Contract.{HasNoReaction}
use Rattle.reactor_core.specs.declared.entry.Stamp.{Stamp}
use Rattle.reactor_core.specs.declared.entry.PastInstant.{PastInstant}
use Rattle.reactor_core.specs.declared.entry.Load.{Load as LoadEntry}
use Rattle.reactor_core.specs.Meaning.{PastMove}
use Rattle.reactor_core.specs.declared.entry.Move.TheVariants.{Load, Offer, Discard, Step, Unload}
use Rattle.reactor_core.specs.declared.entry.SlotEntry.{SlotEntry}
use Rattle.reactor_core.specs.declared.kernel_module.Module.{Module}
use Rattle.reactor_core.specs.declared.refusal.ReactorRefusal.TheVariants.{Module as OfModule}
use Rattle.reactor_core.specs.declared.refusal.ModuleRefusal.TheVariants.{NoInstant}
use Rattle.reactor_core.specs.Meaning.{entry, instant, after_all, load_after, instants_after, offers_after, offers_of}
use Rattle.reactor_core.specs.Meaning.{with_signal, mask_of, ModuleOf, Running, RunsAfter, Leaves, loaded, offered}
use Rattle.reactor_core.specs.Meaning.{discarded, stepped, is_loaded}
use Rattle.reactor_core.specs.Standing.{IsRunning, IsNext, AreKept, OffersAs, given_by, inputs_of_module}
use Rattle.reactor_core.specs.Instants.{IsOutcome, HasNoOutcome, AddsInstant}
use Rattle.reactor_core.specs.Left.{IsKernelOf, IsLeftOf}
use Rattle.reactor_core.specs.Answers.{HasRoom, ShownAnswer, within_mask}
use Rattle.reactor_core.proofs.Joining.{adds_where}

-- what one more entry makes
pub after_snoc : {A : Type 0} (after : A → PastMove → A) (value : A) (before : List SlotEntry) (e : SlotEntry)
    → after_all after value (before ++ e ∷ []) ≡ after (after_all after value before) e.done
after_snoc after value [] e = refl
after_snoc after value (d ∷ before) e = after_snoc after (after value d.done) before e

-- what an entry that takes all offers away leaves pending
pub none_offered : (interface : List Declaration) (before : List SlotEntry) (e : SlotEntry)
    → offers_after (offers_of before) e.done ≡ []
    → 0 ≡ mask_of interface (offers_of (before ++ e ∷ []))
none_offered interface before e none = sym (ap (mask_of interface) (after_snoc offers_after [] before e ∙ none))

-- where nothing is pending, each exclusion is kept
pub none_kept : (m : Module) (pending : ℕ) → AreKept m pending → AreKept m 0
none_kept m pending h = nothing_pending m.kernel.interface m.relations h.over_inputs

-- the empty mask has no signal
pub no_bits : {A : Type 0} (n : ℕ) → bits 0 n ≡ true → A
no_bits n h = absurd (no (sym (bits_zero n) ∙ h))
  where
    no : false ≡ true → ⊥
    no e = cc

-- the mask with the signal at a place has that one and those of before
pub with_bits : (pending n k : ℕ) → bits (bit_or pending (2 ^ n)) k ≡ true → (bits pending k ≡ true) ⊎ (n ≡ k)
with_bits pending n k h = split (bits pending k) (nat_eq n k) refl refl
    (sym (bits_or pending (2 ^ n) k ∙ ap (λ b. bits pending k || b) (bits_pow n k)) ∙ h)
  where
    split : (a b : Bool) → bits pending k ≡ a → nat_eq n k ≡ b → (a || b) ≡ true → (a ≡ true) ⊎ (n ≡ k)
    split true b p q e = inl refl
    split false true p q e = inr (grind (arith, nat_tests))
    split false false p q e = absurd cc

-- what a reactor's parts run as
abbrev pub running : Module → (pending : ℕ) → List PastInstant → Running
running m pending instants =
    record { interface = m.kernel.interface; relations = m.relations; pending = pending; instants = instants }

module _ {journal : List SlotEntry} {m : Module} {state : State} {pending : ℕ} {instants : List PastInstant} where
  -- the module of a reactor's parts runs
  pub runs_here : (i : IsRunning journal m state pending instants) → RunsAfter journal (running m pending instants)
  runs_here i = record {
    load = i.load;
    last = i.last;
    term = term_of m.kernel.root;
    is = i.is;
    offered = i.offered;
    past = i.past;
  }

  -- the kernel of a reactor's parts is that of the last load's module
  pub kernel_of : (i : IsRunning journal m state pending instants) → IsKernelOf journal m.kernel
  kernel_of i = record {
    load = i.load;
    last = i.last;
    given = given_by m;
    is = i.is;
    declares = refl;
    begins = refl;
  }

  -- what is left to run of a reactor's parts
  pub left_of : (i : IsRunning journal m state pending instants) → IsLeftOf journal m.kernel state
  left_of i = record { kernel = kernel_of i; fits = i.fits; leaves = i.leaves }

  -- an outcome's entry leaves its term
  leaves_next : (i : IsRunning journal m state pending instants) (stamp : Stamp) (outputs : ℕ) (next : State)
      → IsNext m state pending outputs next
      → Leaves (journal ++ entry stamp (Step (instant pending outputs)) ∷ []) (state_term m.kernel.root next)
  leaves_next i stamp outputs next h =
      stepped journal (state_term m.kernel.root state) i.leaves (running m pending instants) (runs_here i) outputs
      (state_term m.kernel.root next) h.reacts stamp

  -- an outcome's entry keeps what a reactor is, with the outcome's state
  pub advances : (i : IsRunning journal m state pending instants) (stamp : Stamp) (outputs : ℕ) (next : State)
      → IsNext m state pending outputs next
      → IsRunning (journal ++ entry stamp (Step (instant pending outputs)) ∷ []) m next 0
      (instants ++ instant pending outputs ∷ [])
  advances i stamp outputs next h =
      let e : SlotEntry = entry stamp (Step (instant pending outputs)) in
      record {
        load = i.load;
        last = after_snoc load_after None journal e ∙ i.last;
        is = i.is;
        offered = none_offered m.kernel.interface journal e refl;
        kept = none_kept m pending i.kept;
        past = ap (λ (xs : List PastInstant). xs ++ instant pending outputs ∷ []) i.past
            ∙ sym (after_snoc instants_after [] journal e);
        leaves = leaves_next i stamp outputs next h;
        fits = h.fits;
      }

  -- the outcome of what a reactor has left to run
  abbrev pub outcome : (i : IsRunning journal m state pending instants) (outputs : ℕ) (next : State)
      → IsNext m state pending outputs next
      → IsOutcome journal outputs (state_term m.kernel.root next)
  outcome i outputs next h = record {
    running = running m pending instants;
    runs = runs_here i;
    term = state_term m.kernel.root state;
    leaves = i.leaves;
    reacts = h.reacts;
  }

  -- what is added with an outcome's entry
  pub added : (i : IsRunning journal m state pending instants) (w : List SlotEntry) (stamp : Stamp) (outputs : ℕ)
      (next : State) → IsNext m state pending outputs next
      → HasRoom journal → w ≡ journal ++ entry stamp (Step (instant pending outputs)) ∷ []
      → (next : Term) × AddsInstant journal outputs next stamp w
  added i w stamp outputs next h room e = (
    state_term m.kernel.root next,
    record {
      outcome = outcome i outputs next h;
      room = room;
      appended = e;
      leaves = subst (λ (v : List SlotEntry). Leaves v (state_term m.kernel.root next)) (sym e)
          (leaves_next i stamp outputs next h);
    },
  )

  -- nothing is the reaction of what a reactor has left to run
  pub no_outcome : (i : IsRunning journal m state pending instants) (s : StuckValue)
      → HasNoReaction m.kernel state (record { signals = pending }) s
      → HasNoOutcome journal s.undecided
  no_outcome i s h = record {
    running = running m pending instants;
    runs = runs_here i;
    term = state_term m.kernel.root state;
    leaves = i.leaves;
    stuck = record { cannot = h.cannot; exactly = h.undecided };
  }

  -- an offer's entry keeps what a reactor is, with the signal pending
  pub offers : (i : IsRunning journal m state pending instants) (stamp : Stamp) (name : List ℕ) (after : ℕ)
      → OffersAs m pending name after
      → IsRunning (journal ++ entry stamp (Offer name) ∷ []) m state after instants
  offers i stamp name after h =
      let e : SlotEntry = entry stamp (Offer name) in
      let before : ℕ = mask_of m.kernel.interface (offers_of journal) in
      let adds = adds_where (inputs_of_module m pending) name (inputs_of_module m after) h.answer in
      let mask : after ≡ with_place pending adds.place = ap (λ (p : PendingInputs). p.inputs) adds.added in
      record {
        load = i.load;
        last = after_snoc load_after None journal e ∙ i.last;
        is = i.is;
        offered = mask ∙ ap (λ (n : ℕ). with_place n adds.place) i.offered ∙ ap (with_signal before) (sym adds.there)
            ∙ sym (ap (mask_of m.kernel.interface) (after_snoc offers_after [] journal e));
        kept = h.kept;
        past = i.past ∙ sym (after_snoc instants_after [] journal e);
        leaves = offered journal (state_term m.kernel.root state) i.leaves stamp name;
        fits = i.fits;
      }

  -- a discard's entry keeps what a reactor is, with nothing pending
  pub discards : (i : IsRunning journal m state pending instants) (stamp : Stamp)
      → IsRunning (journal ++ entry stamp Discard ∷ []) m state 0 instants
  discards i stamp =
      let e : SlotEntry = entry stamp Discard in
      record {
        load = i.load;
        last = after_snoc load_after None journal e ∙ i.last;
        is = i.is;
        offered = none_offered m.kernel.interface journal e refl;
        kept = none_kept m pending i.kept;
        past = i.past ∙ sym (after_snoc instants_after [] journal e);
        leaves = discarded journal (state_term m.kernel.root state) i.leaves stamp;
        fits = i.fits;
      }

  pub instant_shown : (i : IsRunning journal m state pending instants) (n mask : ℕ) (x : PastInstant)
      → (0 < n) × (slice_get instants (n - 1) ≡ Some x) → ShownAnswer journal n mask (Ok (within_mask x mask))
  instant_shown i n mask x h = record {
    instant = x;
    there = record { counted = h.0; there = ap (λ (xs : List PastInstant). slice_get xs (n - 1)) (sym i.past) ∙ h.1 };
    masked = refl;
  }

  pub no_instant : (i : IsRunning journal m state pending instants) (n mask : ℕ)
      → (n ≡ 0) ⊎ (length instants < n) → ShownAnswer journal n mask (Err (OfModule NoInstant))
  no_instant i n mask h = (refl, subst (λ (xs : List PastInstant). (n ≡ 0) ⊎ (length xs < n)) i.past h)

-- after an unload's entry no module runs
pub nothing_runs : (journal : List SlotEntry) (stamp : Stamp) → is_loaded (journal ++ entry stamp Unload ∷ []) ≡ false
nothing_runs journal stamp = ap is_some (after_snoc load_after None journal (entry stamp Unload))

-- a load's entry makes a reactor that has not begun
pub begins : (journal : List SlotEntry) (stamp : Stamp) (l : LoadEntry) (m : Module) → ModuleOf l (given_by m)
    → AreOverInputs m.kernel.interface m.relations
    → IsRunning (journal ++ entry stamp (Load l) ∷ []) m Fresh 0 []
begins journal stamp l m is over = record {
  load = l;
  last = after_snoc load_after None journal (entry stamp (Load l));
  is = is;
  offered = none_offered m.kernel.interface journal (entry stamp (Load l)) refl;
  kept = nothing_pending m.kernel.interface m.relations over;
  past = sym (after_snoc instants_after [] journal (entry stamp (Load l)));
  leaves = loaded journal stamp l (given_by m) is;
  fits = tt;
}
