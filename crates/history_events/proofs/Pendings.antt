-- What is pending in a slot is what was offered there since its last load or step.
use Rattle.std.proofs.Common.{◌≡◌, ◌⊎◌, ◌↔◌, ℕ, List, [], ◌∷◌, ◌++◌, take, refl, sym, ◌∙◌, ap, inl, inr, subst}
use Rattle.std.specs.Prelude.{None, Some}
use Rattle.est_relations.specs.Offers.{place_of}
use Rattle.reactor_core.specs.Meaning.{PastMove}
use Rattle.reactor_core.specs.declared.entry.SlotEntry.{SlotEntry}
use Rattle.reactor_core.specs.declared.entry.Move.TheVariants.{Load, Offer, Discard, Step, Unload}
use Rattle.reactor_core.specs.Meaning.{entry, last_load, load_after, offers_of, offers_after, instants_of, mask_of}
use Rattle.reactor_core.specs.Meaning.{with_signal, Running, RunsAfter}
use Rattle.reactor_core.proofs.OneMeaning.{OneModule, same_running}
use Rattle.reactor_core.proofs.Steps.{after_snoc}
use Rattle.access_core.specs.declared.command.SlotCommand.{SlotCommand}
use Rattle.access_core.specs.declared.command.SlotCommand.TheVariants.{Move, Look, Audit}
use Rattle.access_core.specs.SlotStep.{stamp_of}
use Rattle.history_events.specs.declared.event.Event.{Event}
use Rattle.history_events.specs.declared.event.Event.TheVariants.{Admin, OnSlot}
use Rattle.history_events.specs.SlotAdditions.{AddsMove, IsMoveOf}
use Rattle.history_events.specs.Entering.{Accepts, IsOn, IsOfferOf, IsLoad, IsStep, EmptiesPending, WasOffered}
use Rattle.history_events.specs.Entering.{StandsIn}
use Rattle.history_events.specs.Runs.{Moment, Comes, journal_at}
use Rattle.history_events.proofs.Histories.{since_push}
use Rattle.history_events.proofs.Slotwise.{Adds, slotwise}
use Rattle.history_events.proofs.Standing.{offered_stands, none_stands}

-- where a module runs, exactly what was offered is pending
abbrev pub PendingAsOffered : List Moment → (slot : ℕ) → List SlotEntry → Type 0
PendingAsOffered past slot journal = (r : Running) → RunsAfter journal r → (name : List ℕ)
    → StandsIn r.interface r.pending name ↔ WasOffered past slot name

-- nothing is made and nothing undone, and nothing else changes
same_history : (P S M U Q : Type 0) → (P ↔ S) → (M → ⊥) → (U → ⊥) → (Q ↔ (M ⊎ (S × (U → ⊥)))) → P ↔ Q
same_history P S M U Q h no_make no_undo push = (
  λ p. push.1 (inr (h.0 p, no_undo)),
  λ q. elim (push.0 q) [ inl m ↦ absurd (no_make m) | inr s ↦ h.1 s.0 ],
)

-- all is undone
emptied_history : (P S M U Q : Type 0) → (P → ⊥) → (M → ⊥) → U → (Q ↔ (M ⊎ (S × (U → ⊥)))) → P ↔ Q
emptied_history P S M U Q none no_make undone push = (
  λ p. absurd (none p),
  λ q. elim (push.0 q) [ inl m ↦ absurd (no_make m) | inr s ↦ absurd (s.1 undone) ],
)

-- one is made
more_history : (P N O S M U Q : Type 0) → (P ↔ (N ⊎ O)) → (O ↔ S) → (N ↔ M) → (U → ⊥) → (Q ↔ (M ⊎ (S × (U → ⊥))))
    → P ↔ Q
more_history P N O S M U Q stands h makes no_undo push = (
  λ p. elim (stands.0 p) [ inl n ↦ push.1 (inl (makes.0 n)) | inr o ↦ push.1 (inr (h.0 o, no_undo)) ],
  λ q. elim (push.0 q) [ inl m ↦ stands.1 (inl (makes.1 m)) | inr s ↦ stands.1 (inr (h.1 s.0)) ],
)

-- what is said of a command is no question
no_question : (command other : SlotCommand) → command ≡ other → ((n : ℕ) → other ≡ Look n → ⊥) → (other ≡ Audit → ⊥)
    → Adds command
no_question command other same no_look no_audit (inl look) = no_look look.0 (sym same ∙ look.1)
no_question command other same no_look no_audit (inr audit) = no_audit (sym same ∙ audit)

-- an offer adds an entry
pub offer_adds : (name : List ℕ) (command : SlotCommand) → IsOfferOf name command → Adds command
offer_adds name command offer = no_question command (Move (Offer name)) offer (λ n e. absurd cc) (λ e. absurd cc)

-- so do a load, a step and a discard
pub load_adds : (command : SlotCommand) → IsLoad command → Adds command
load_adds command load = no_question command (Move (Load load.0)) load.1 (λ n e. absurd cc) (λ e. absurd cc)

pub step_adds : (command : SlotCommand) → IsStep command → Adds command
step_adds command step = no_question command (Move (Step (record {}))) step (λ n e. absurd cc) (λ e. absurd cc)

emptying_adds : (command : SlotCommand) → EmptiesPending command → Adds command
emptying_adds command (inl load) = load_adds command load
emptying_adds command (inr (inl step)) = step_adds command step
emptying_adds command (inr (inr discard)) = no_question command (Move Discard) discard (λ n e. absurd cc)
    (λ e. absurd cc)

-- a fact of the command of an event follows from another one
pub on_more : {P Q : SlotCommand → Type 0} (slot : ℕ) (m : Moment) → ((command : SlotCommand) → P command → Q command)
    → Accepts slot P m → Accepts slot Q m
on_more {P = P} {Q = Q} slot m more h = (by_event m.event h.0, h.1) where
  by_event : (event : Event) → IsOn slot P event → IsOn slot Q event
  by_event (Admin seat session command) on = on
  by_event (OnSlot seat version number session command) on = (on.0, more command on.1)

idle : (past : List Moment) (m : Moment) (slot : ℕ) (journal : List SlotEntry) → (Accepts slot Adds m → ⊥)
    → PendingAsOffered past slot journal
    → PendingAsOffered (past ++ m ∷ []) slot journal
idle past m slot journal none were r runs name =
    same_history _ _ _ _ _ (were r runs name)
    (λ made. none (on_more slot m (offer_adds name) made))
    (λ undone. none (on_more slot m emptying_adds undone))
    (since_push (Accepts slot (IsOfferOf name)) (Accepts slot EmptiesPending) past m)

module _ (one : OneModule) (past : List Moment) (m : Moment) (seat version slot session : ℕ) (command : SlotCommand)
    (is : m.event ≡ OnSlot seat version slot session command)
    (a : AddsMove (take version m.before.entries) session command (journal_at m.before slot) m.reply
    (journal_at m.after slot))
    (were : PendingAsOffered past slot (journal_at m.before slot)) where
  abbrev Pushed : List ℕ → Type 0
  Pushed name = WasOffered (past ++ m ∷ []) slot name
      ↔ (Accepts slot (IsOfferOf name) m ⊎ (WasOffered past slot name × (Accepts slot EmptiesPending m → ⊥)))

  pushed : (name : List ℕ) → Pushed name
  pushed name = since_push (Accepts slot (IsOfferOf name)) (Accepts slot EmptiesPending) past m

  accepts : (P : SlotCommand → Type 0) → P command → Accepts slot P m
  accepts P p = (subst (IsOn slot P) (sym is) (refl, p), a.accepted)

  of_command : (P : SlotCommand → Type 0) → Accepts slot P m → P command
  of_command P h = (subst (IsOn slot P) is h.0).1

  offers_then : (does : PastMove) → a.does ≡ does → offers_of (journal_at m.after slot)
      ≡ offers_after (offers_of (journal_at m.before slot)) does
  offers_then does same =
      ap offers_of a.added ∙ after_snoc offers_after [] (journal_at m.before slot)
      (entry (stamp_of (take version m.before.entries) session) a.does)
      ∙ ap (offers_after (offers_of (journal_at m.before slot))) same

  load_then : (does : PastMove) → a.does ≡ does → last_load (journal_at m.after slot)
      ≡ load_after (last_load (journal_at m.before slot)) does
  load_then does same =
      ap last_load a.added ∙ after_snoc load_after None (journal_at m.before slot)
      (entry (stamp_of (take version m.before.entries) session) a.does)
      ∙ ap (load_after (last_load (journal_at m.before slot))) same

  -- where nothing is offered any more
  emptied : offers_of (journal_at m.after slot) ≡ [] → ((name : List ℕ) → IsOfferOf name command → ⊥)
      → EmptiesPending command
      → PendingAsOffered (past ++ m ∷ []) slot (journal_at m.after slot)
  emptied none no_offer empties r runs name =
      emptied_history _ _ _ _ _ (none_stands r.interface r.pending name (runs.offered ∙ ap (mask_of r.interface) none))
      (λ made. no_offer name (of_command (IsOfferOf name) made)) (accepts EmptiesPending empties) (pushed name)

  offers : (signal : List ℕ) → command ≡ Move (Offer signal)
      → IsMoveOf (Move (Offer signal)) (journal_at m.before slot) a.does
      → PendingAsOffered (past ++ m ∷ []) slot (journal_at m.after slot)
  offers signal e h r runs name =
      let before : List SlotEntry = journal_at m.before slot in
      let old : Running =
      record {
        interface = r.interface;
        relations = r.relations;
        pending = mask_of r.interface (offers_of before);
        instants = instants_of before;
      } in
      let runs_old : RunsAfter before old = record {
        load = runs.load;
        last = sym (load_then (Offer signal) h.is) ∙ runs.last;
        term = runs.term;
        is = runs.is;
        offered = refl;
        past = refl;
      } in
      let same : h.running ≡ old = same_running one before h.running old h.runs runs_old in
      let there : place_of r.interface signal ≡ Some h.can.signal.place =
      subst (λ (s : Running). place_of s.interface signal ≡ Some h.can.signal.place) same h.can.signal.there in
      let pending : r.pending ≡ with_signal old.pending (place_of r.interface signal) =
      runs.offered ∙ ap (mask_of r.interface) (offers_then (Offer signal) h.is) in
      subst (λ (p : ℕ). StandsIn r.interface p name ↔ WasOffered (past ++ m ∷ []) slot name) (sym pending)
      (more_history _ _ _ _ _ _ _ (offered_stands r.interface old.pending signal name h.can.signal.place there)
      (were old runs_old name) (
        λ same_name. accepts (IsOfferOf name) (e ∙ ap (λ n. Move (Offer n)) same_name),
        λ made. let named : Move (Offer signal) ≡ Move (Offer name) = sym e ∙ of_command (IsOfferOf name) made in cc,
      )
      (λ undone. not_emptying (subst EmptiesPending e (of_command EmptiesPending undone))) (pushed name)) where
        not_emptying : EmptiesPending (Move (Offer signal)) → ⊥
        not_emptying (inl load) = let same = load.1 in absurd cc
        not_emptying (inr (inl step)) = absurd cc
        not_emptying (inr (inr discard)) = absurd cc

  by_command : (c : SlotCommand) → command ≡ c → IsMoveOf c (journal_at m.before slot) a.does
      → PendingAsOffered (past ++ m ∷ []) slot (journal_at m.after slot)
  by_command (Move (Load l)) e h =
      emptied (offers_then _ h.is)
      (λ name offer. let same : Move (Load l) ≡ Move (Offer name) = sym e ∙ offer in absurd cc) (inl (l, e))
  by_command (Move (Step i)) e h =
      emptied (offers_then _ h.is)
      (λ name offer. let same : Move (Step i) ≡ Move (Offer name) = sym e ∙ offer in absurd cc) (inr (inl e))
  by_command (Move Discard) e h =
      emptied (offers_then Discard h.is)
      (λ name offer. let same : Move Discard ≡ Move (Offer name) = sym e ∙ offer in absurd cc) (inr (inr e))
  by_command (Move Unload) e h = λ r runs name. let none : None ≡ Some runs.load =
      sym (load_then Unload h.is) ∙ runs.last in absurd cc
  by_command (Move (Offer signal)) e h = offers signal e h
  by_command (Look n) e h = absurd h
  by_command Audit e h = absurd h

  grows : PendingAsOffered (past ++ m ∷ []) slot (journal_at m.after slot)
  grows = by_command command refl a.is

-- before each moment of a run, what is pending is what was offered
pub pending_as_offered : OneModule → (past : List Moment) (m : Moment) → Comes past m → (slot : ℕ)
    → PendingAsOffered past slot (journal_at m.before slot)
pending_as_offered one = slotwise PendingAsOffered idle (grows one)
    (λ slot r runs name. let none = runs.last in absurd cc)
