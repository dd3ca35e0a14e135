-- What the slot step does with the command of an entry.
use Rattle.std.proofs.Common.{◌≡◌, ◌∙◌, ℕ, ◌-◌, List, [], ◌∷◌, ◌++◌, length, refl, sym, ap, subst}
use Rattle.std.proofs.Common.{⊎_elim, arith}
use Rattle.std.specs.Prelude.{Option, Some, None, MatchOption, slice_get}
use Rattle.std.proofs.lemmas.List.{length_push}
use Rattle.rbac_policy.specs.declared.commands.Entry.{Entry}
use Rattle.rbac_policy.proofs.Steps.{get_last}
use Rattle.reactor_core.specs.Meaning.{PastMove}
use Rattle.reactor_core.specs.declared.entry.Move.TheVariants.{Step}
use Rattle.reactor_core.specs.declared.entry.PastInstant.{PastInstant}
use Rattle.reactor_core.specs.declared.entry.SlotEntry.{SlotEntry}
use Rattle.reactor_core.specs.declared.entry.Stamp.{Stamp}
use Rattle.reactor_core.specs.Meaning.{asked, entry, instant_of}
use Rattle.access_core.specs.declared.command.SlotCommand.{SlotCommand}
use Rattle.access_core.specs.declared.command.SlotCommand.TheVariants.{Move}
use Rattle.access_core.specs.declared.refusal.Refusal.{Refusal}
use Rattle.access_core.specs.declared.refusal.Refusal.TheVariants as refusal
use Rattle.access_core.specs.declared.reply.Reply.{Reply}
use Rattle.access_core.specs.declared.reply.Reply.TheVariants.{Refused}
use Rattle.access_core.specs.SlotStep.{SlotStep, stamp_of}
use Rattle.access_core.specs.Journals.{Judges, Adds}
use Rattle.audit_report.specs.Findings.{ReactsOtherwise}
use Rattle.audit_report.specs.Inner.Faults.{instant_in, last_instant, KeepsInstant, entry_fault_of, IsFaultOf}
use Rattle.access_core.proofs.Legality.{ChangesJournal, IsTaken, moves, refused_stays, same_move}
use Rattle.access_core.proofs.Legality.{also_none, steps_where}

-- the instant that the last of the entries keeps
pub last_pushed : (before : List SlotEntry) (e : SlotEntry) → last_instant (before ++ e ∷ []) ≡ instant_of e.done
last_pushed before e =
    let last : length (before ++ e ∷ []) - 1 ≡ length before = omega (arith, length_push before e) in
    ap (λ k. instant_in (slice_get (before ++ e ∷ []) k)) last ∙ ap instant_in (get_last before e)

-- where the last entry keeps the instant, what was added for the command is what was asked for
kept : (wanted done : PastMove) (stamp : Stamp) (before : List SlotEntry) → Move (asked done) ≡ Move (asked wanted)
    → KeepsInstant (before ++ entry stamp done ∷ []) wanted → done ≡ wanted
kept wanted done stamp before command keeps = same_move done wanted command (by_instant (instant_of wanted) refl keeps)
  where
    by_instant : (i : Option PastInstant) → instant_of wanted ≡ i
        → MatchOption i (Unit {0}) (λ i. last_instant (before ++ entry stamp done ∷ []) ≡ Some i)
        → instant_of done ≡ instant_of wanted
    by_instant None none keeps = also_none done wanted command none ∙ sym none
    by_instant (Some i) is keeps = sym (last_pushed before (entry stamp done)) ∙ keeps ∙ sym is

-- where it doesn't, a step was asked for, and another was added
not_kept : (wanted done : PastMove) (stamp : Stamp) (before : List SlotEntry)
    → ¬ (KeepsInstant (before ++ entry stamp done ∷ []) wanted)
    → ((i : PastInstant) × (wanted ≡ Step i)) × ¬ (done ≡ wanted)
not_kept wanted done stamp before not = by_instant (instant_of wanted) refl not where
  by_instant : (i : Option PastInstant) → instant_of wanted ≡ i
      → ¬ (MatchOption i (Unit {0}) (λ i. last_instant (before ++ entry stamp done ∷ []) ≡ Some i))
      → ((i : PastInstant) × (wanted ≡ Step i)) × ¬ (done ≡ wanted)
  by_instant None is not = absurd (not tt)
  by_instant (Some i) is not =
      ((i, steps_where wanted i is), λ e. not (last_pushed before (entry stamp done) ∙ ap instant_of e ∙ is))

-- the fault of a refusal
pub refused_fault : (judged : List Entry) (slot : ℕ) (before : List SlotEntry) (e : SlotEntry) (given : Refusal)
    → Judges judged slot before e (Refused given) before → IsFaultOf judged slot before e (entry_fault_of given)
refused_fault judged slot before e refusal.Memory step = tt
refused_fault judged slot before e given step =
    record { given = given; step = step; ample = λ same. absurd cc; numbered = refl }

module _ (judged : List Entry) (slot : ℕ) (before : List SlotEntry) (e : SlotEntry) (reply : Reply)
    (after : List SlotEntry)
    (version : length judged ≡ e.stamp.version) (step : Judges judged slot before e reply after) where
  -- what the slot step does with the entry's command
  moved : ChangesJournal (stamp_of judged e.stamp.session) (Move (asked e.done)) before reply after
  moved = moves judged slot e.stamp.session before reply after (Move (asked e.done)) step

  -- a refused command leaves the journal
  pub stays_where : (given : Refusal) → reply ≡ Refused given → after ≡ before
  stays_where given is =
      refused_stays (stamp_of judged e.stamp.session) (Move (asked e.done)) before given after
      (subst (λ r. ChangesJournal (stamp_of judged e.stamp.session) (Move (asked e.done)) before r after) is moved)

  abbrev Taken : Type 0
  Taken = IsTaken (stamp_of judged e.stamp.session) (Move (asked e.done)) before reply after

  -- an accepted one adds an entry that it asks for
  taken_of : ((given : Refusal) → reply ≡ Refused given → ⊥) → Taken
  taken_of not =
      ⊎_elim (λ left. absurd (not left.refusal left.is.replied))
      (⊎_elim (λ asks. absurd (asks.adds_none e.done refl)) (λ taken. taken)) moved

  stamped : stamp_of judged e.stamp.session ≡ e.stamp
  stamped = ap (λ v. let s : Stamp = record { version = v; session = e.stamp.session } in s) version

  -- an accepted command adds the entry, where the last one keeps its instant
  pub adds : ((given : Refusal) → reply ≡ Refused given → ⊥) → KeepsInstant after e.done
      → Adds judged slot before e e × (after ≡ before ++ e ∷ [])
  adds not keeps =
      let taken = taken_of not in
      let done : taken.done ≡ e.done =
      kept e.done taken.done (stamp_of judged e.stamp.session) before taken.asked
      (subst (λ j. KeepsInstant j e.done) taken.added keeps) in
      let same : entry (stamp_of judged e.stamp.session) taken.done ≡ e =
      ap (λ s. entry s taken.done) stamped ∙ ap (entry e.stamp) done in
      let whole : after ≡ before ++ e ∷ [] = taken.added ∙ ap (λ x. before ++ x ∷ []) same in (
        record {
          reply = reply;
          accepted = taken.accepted;
          step = subst
              (Judges judged slot before e reply) whole step;
        },
        whole,
      )

  -- where it doesn't, the command is a step that reacts otherwise
  pub otherwise : ((given : Refusal) → reply ≡ Refused given → ⊥) → ¬ (KeepsInstant after e.done)
      → ReactsOtherwise judged slot before e
  otherwise not loses =
      let taken = taken_of not in
      let why = not_kept e.done taken.done (stamp_of judged e.stamp.session) before
      (subst (λ j. KeepsInstant j e.done → ⊥) taken.added loses) in
      record {
        stored = why.0.0;
        steps = why.0.1;
        added = entry (stamp_of judged e.stamp.session) taken.done;
        adds = record {
          reply = reply;
          accepted = taken.accepted;
          step = subst (Judges judged slot before e reply) taken.added step;
        };
        other = λ same. why.1 (ap (λ (x : SlotEntry). x.done) same);
      }

-- the slot step of a command and a session that are the entry's
pub judges : (judged : List Entry) (slot session : ℕ) (command : SlotCommand) (before : List SlotEntry) (e : SlotEntry)
    (reply : Reply) (after : List SlotEntry)
    → session ≡ e.stamp.session → command ≡ Move (asked e.done)
    → SlotStep judged slot session command before reply after
    → Judges judged slot before e reply after
judges judged slot session command before e reply after by is step =
    subst (λ (c : SlotCommand). SlotStep judged slot e.stamp.session c before reply after) is
    (subst (λ (s : ℕ). SlotStep judged slot s command before reply after) by step)

-- a refused command's fault
pub fault_is : (judged : List Entry) (slot : ℕ) (before : List SlotEntry) (e : SlotEntry) (given : Refusal)
    (after : List SlotEntry)
    → length judged ≡ e.stamp.version → Judges judged slot before e (Refused given) after
    → IsFaultOf judged slot before e (entry_fault_of given)
fault_is judged slot before e given after version step =
    refused_fault judged slot before e given
    (subst (Judges judged slot before e (Refused given))
    (stays_where judged slot before e (Refused given) after version step given refl) step)
