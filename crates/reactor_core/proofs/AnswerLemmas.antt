-- The answers to an offer, a load and a commit, rule by rule.
use Rattle.std.proofs.Common.{◌≡◌, ◌∙◌, ℕ, List, [], ◌∷◌, ◌++◌, refl, sym, ap, subst, arith}
use Rattle.std.specs.Prelude.{Result, Ok, Err}
use Rattle.est_kernel.specs.Bits.{bits}
use Rattle.est_kernel.specs.Term.{Term}
use Rattle.est_relations.specs.Keeping.{AreLawful}
use Rattle.est_relations.specs.Offers.{PendingInputs, Adds, IsFirstImplied, offer_rules}
use Rattle.est_relations.specs.declared.refusal.PendingRefusal.{PendingRefusal}
use Rattle.est_relations.proofs.OffersKeep.{no_fault}
use Rattle.refusal_rules.specs.Rules.{Rules, ◌▸▸◌, Answers}
use Rattle.refusal_rules.proofs.RuleLemmas.{refuse, pass, answered}
use Rattle.reactor_core.specs.declared.entry.Stamp.{Stamp}
use Rattle.reactor_core.specs.declared.entry.Move.TheVariants.{Offer}
use Rattle.reactor_core.specs.declared.entry.SlotEntry.{SlotEntry}
use Rattle.reactor_core.specs.declared.kernel_module.Module.{Module}
use Rattle.reactor_core.specs.declared.refusal.ReactorRefusal.{ReactorRefusal}
use Rattle.reactor_core.specs.declared.refusal.ReactorRefusal.TheVariants.{Module as OfModule, JournalFull, Memory}
use Rattle.reactor_core.specs.Answers.{
  HasRoom,
  IsFull,
  RefusesEntry,
  entry_rules,
  reactor_offer_rules,
  load_rules,
  ReactorOfferAnswer,
}
use Rattle.reactor_core.specs.Answers.{LoadAnswer}
use Rattle.reactor_core.specs.Converting.{all_converted}
use Rattle.reactor_core.specs.Faults.{refusal_of_pending}
use Rattle.reactor_core.specs.Instants.{SettledInstant, AddsInstant, CommitAnswer, OpenAnswer}
use Rattle.reactor_core.specs.Meaning.{Running, RunsAfter, pending_of, entry}
use Rattle.reactor_core.specs.Standing.{inputs_of_module, OffersAs, RefusesOffering, RefusesInstant}
use Rattle.reactor_core.proofs.Converting.{convert}
use Rattle.reactor_core.proofs.Joining.{no_ok, same_err}

full_has_no_room : (journal : List SlotEntry) → IsFull journal → HasRoom journal → ⊥
full_has_no_room journal full room = omega arith

-- an entry that isn't added
pub entry_refused : {Refused : ReactorRefusal → Type 0} {Accepted : Type 0} (journal : List SlotEntry)
    (e : ReactorRefusal)
    → RefusesEntry journal e → Refused e → Answers (entry_rules journal) Refused Accepted
entry_refused journal JournalFull full told = refuse JournalFull (refl, full_has_no_room journal full) told
entry_refused journal Memory room told = pass room (refuse Memory refl told)
entry_refused journal (OfModule refusal) h told = absurd h

-- an entry that is added
pub entry_passes : {Refused : ReactorRefusal → Type 0} {Accepted : Type 0} (journal : List SlotEntry) → HasRoom journal
    → Accepted
    → Answers (entry_rules journal) Refused Accepted
entry_passes journal room h = pass room (pass (record {}) h)

module _ (journal : List SlotEntry) (m : Module) (r : Running) (runs : RunsAfter journal r)
    (is : pending_of r ≡ inputs_of_module m r.pending) where
  -- what is answered to an offer, and the journal afterwards
  abbrev Told : Result (Unit {0}) ReactorRefusal → List SlotEntry → ReactorRefusal → Type 0
  Told answer w refusal = (answer ≡ Err refusal) × (w ≡ journal)

  abbrev Done : Stamp → List ℕ → Result (Unit {0}) ReactorRefusal → List SlotEntry → Type 0
  Done stamp name answer w = (answer ≡ Ok (record {})) × (w ≡ journal ++ entry stamp (Offer name) ∷ [])

  -- the same of the pending inputs
  abbrev Refused : Result (Unit {0}) PendingRefusal → PendingInputs → PendingRefusal → Type 0
  Refused answer after refusal = (answer ≡ Err refusal) × (after ≡ inputs_of_module m r.pending)

  abbrev Accepted : List ℕ → Result (Unit {0}) PendingRefusal → PendingInputs → Type 0
  Accepted name answer after = (answer ≡ Ok (record {})) × Adds (inputs_of_module m r.pending) name after

  -- the rules of an offer to them
  same_rules : (name : List ℕ) (Known : Rules PendingRefusal → Type 0)
      → Known (offer_rules (inputs_of_module m r.pending) name) → Known (offer_rules (pending_of r) name)
  same_rules name Known h = subst (λ (p : PendingInputs). Known (offer_rules p name)) (sym is) h

  -- an offer that the pending inputs refuse
  pub offer_refused : (stamp : Stamp) (name : List ℕ) (e : ReactorRefusal) (w : List SlotEntry)
      → RefusesOffering m r.pending name e → w ≡ journal → ReactorOfferAnswer journal stamp name (Err e) w
  offer_refused stamp name e w h same = record {
    running = r;
    runs = runs;
    given = same_rules name
        (λ rules. Answers (all_converted refusal_of_pending rules ▸▸ entry_rules journal) (Told (Err e) w)
        (Done stamp name (Err e) w))
        (convert refusal_of_pending (offer_rules (inputs_of_module m r.pending) name) (entry_rules journal)
        (Refused (Err h.given) (inputs_of_module m r.pending))
        (Accepted name (Err h.given) (inputs_of_module m r.pending))
        (Told (Err e) w) (Done stamp name (Err e) w)
        (λ refusal told. (ap Err (h.told ∙ ap refusal_of_pending (same_err h.given refusal told.0)), same))
        (λ accepted. absurd (no_ok (record {}) h.given accepted.0)) h.answer);
  }

  -- an offer that joins the pending inputs, by what its entry is answered
  pub offer_joins : (stamp : Stamp) (name : List ℕ) (after : ℕ) (answer : Result (Unit {0}) ReactorRefusal)
      (w : List SlotEntry) → OffersAs m r.pending name after
      → Answers (entry_rules journal) (λ refusal. (answer ≡ Err refusal) × (w ≡ journal))
      ((answer ≡ Ok (record {})) × (w ≡ journal ++ entry stamp (Offer name) ∷ []))
      → ReactorOfferAnswer journal stamp name answer w
  offer_joins stamp name after answer w h goes = record {
    running = r;
    runs = runs;
    given = same_rules name
        (λ rules. Answers (all_converted refusal_of_pending rules ▸▸ entry_rules journal) (Told answer w)
        (Done stamp name answer w))
        (convert refusal_of_pending (offer_rules (inputs_of_module m r.pending) name) (entry_rules journal)
        (Refused (Ok (record {})) (inputs_of_module m after))
        (Accepted name (Ok (record {})) (inputs_of_module m after))
        (Told answer w) (Done stamp name answer w)
        (λ refusal told. absurd (no_fault (record {}) refusal told.0))
        (λ accepted. goes) h.answer);
  }

  -- an instant may not take the pending inputs
  pub open_refused : (e : ReactorRefusal) → RefusesInstant m r.pending e → OpenAnswer journal (Err (e, journal))
  open_refused e h =
      refuse e (
        h.number,
        h.missing,
        h.told,
        record {
          running = r;
          runs = runs;
          first = subst (λ (p : PendingInputs). IsFirstImplied p h.number h.missing)
              (sym is) h.first;
        },
      ) refl

  -- an instant may take them
  pub open_passes : AreLawful r.relations (bits r.pending) → OpenAnswer journal (Ok journal)
  open_passes h = pass (record { running = r; runs = runs; lawful = h }) refl

-- a refused offer leaves the journal
pub offer_stays : (before : List SlotEntry) (stamp : Stamp) (name : List ℕ) (e : ReactorRefusal)
    (after : List SlotEntry)
    → ReactorOfferAnswer before stamp name (Err e) after → after ≡ before
offer_stays before stamp name e after h =
    answered (reactor_offer_rules before h.running name) _ _ (after ≡ before) (λ refusal told. told.1)
    (λ added. let no = added.0 in absurd cc) h.given

-- a refused load gives the journal back
pub load_stays : (before : List SlotEntry) (stamp : Stamp) (main text : List ℕ)
    (refused : ReactorRefusal × List SlotEntry)
    → LoadAnswer before stamp main text (Err refused) → refused.1 ≡ before
load_stays before stamp main text refused h =
    answered (load_rules before main text) _ _ (refused.1 ≡ before)
    (λ refusal told. let same : refused ≡ (refusal, before) = cc in ap
    (λ (r : ReactorRefusal × List SlotEntry). r.1) same)
    (λ added. let no = added.1 in absurd cc) h

-- a commit that is accepted adds the instant
pub commit_adds : (settled : SettledInstant) (stamp : Stamp) (after : List SlotEntry)
    → CommitAnswer settled stamp (Ok after) → (next : Term)
    × AddsInstant settled.journal settled.outputs next stamp after
commit_adds settled stamp after h =
    answered (entry_rules settled.journal) _ _
    ((next : Term) × AddsInstant settled.journal settled.outputs next stamp after)
    (λ refusal no. absurd cc)
    (λ added.
    let e = added.1 in
    let same : added.0 ≡ after = cc in (
      added.2.0,
      subst (λ (journal : List SlotEntry). AddsInstant settled.journal settled.outputs added.2.0 stamp journal) same
          added.2.1,
    ))
    h
