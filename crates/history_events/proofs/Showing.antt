-- A look shows the reaction of the step that it asks for.
use Rattle.std.proofs.Common.{◌≡◌, ◌↔◌, ℕ, ◌-◌, ◌≤◌, List, [], ◌∷◌, ◌++◌, length, take, true, refl, sym, ◌∙◌, ap, inl}
use Rattle.std.proofs.Common.{inr, subst, arith}
use Rattle.std.specs.Prelude.{Some, None, slice_get}
use Rattle.std.proofs.lemmas.List.{length-take-le, length_push}
use Rattle.std.proofs.lemmas.Option.{same_Some, slice_get_within}
use Rattle.est_kernel.specs.Term.{Term}
use Rattle.est_kernel.specs.declared.interface.Declaration.{Declaration}
use Rattle.rbac_policy.specs.declared.commands.Entry.{Entry}
use Rattle.rbac_policy.specs.Facts.{IsLive}
use Rattle.rbac_policy.proofs.Steps.{get_push, take_front, take_whole}
use Rattle.reactor_core.specs.Meaning.{PastMove}
use Rattle.reactor_core.specs.declared.entry.Move.TheVariants.{Load, Offer, Discard, Step, Unload}
use Rattle.reactor_core.specs.declared.entry.Load.{Load as LoadEntry}
use Rattle.reactor_core.specs.declared.entry.PastInstant.{PastInstant}
use Rattle.reactor_core.specs.declared.entry.Stamp.{Stamp}
use Rattle.reactor_core.specs.declared.entry.SlotEntry.{SlotEntry}
use Rattle.reactor_core.specs.declared.entry.SlotWord.TheVariants as word
use Rattle.reactor_core.specs.Meaning.{entry, instant, is_loaded, last_load, load_after, instants_of, instants_after}
use Rattle.reactor_core.specs.Meaning.{offers_of, mask_of, ModuleOf, Running, RunsAfter, Leaves, loaded, offered}
use Rattle.reactor_core.specs.Meaning.{discarded, stepped, word_of}
use Rattle.reactor_core.specs.Reacting.{ReactsWith}
use Rattle.reactor_core.proofs.OneMeaning.{OneModule, one_term, same_running}
use Rattle.reactor_core.proofs.Steps.{after_snoc}
use Rattle.access_core.specs.declared.command.SlotCommand.{SlotCommand}
use Rattle.access_core.specs.declared.command.SlotCommand.TheVariants.{Move, Look, Audit}
use Rattle.access_core.specs.declared.reply.Reply.{Reply}
use Rattle.access_core.specs.declared.reply.Reply.TheVariants.{Added, Look as Shown}
use Rattle.access_core.specs.Answering.{IsRefused}
use Rattle.access_core.specs.Desk.{desk_at, InSlot}
use Rattle.access_core.specs.Needs.{IsAccepted}
use Rattle.access_core.specs.Shown.{shown_of}
use Rattle.access_core.specs.SlotStep.{SlotStep, stamp_of, tells_added, Looks}
use Rattle.history_events.specs.declared.event.Event.TheVariants.{OnSlot}
use Rattle.history_events.specs.SlotAdditions.{AddsMove, IsMoveOf}
use Rattle.history_events.specs.Entering.{Accepts, IsOn, IsStep, IsLoad, StandsIn, WasOffered}
use Rattle.history_events.specs.Runs.{Moment, EventStep, Comes, desk_of, version_rules, Judged, journal_in, journal_at}
use Rattle.history_events.specs.Showing.{Reactions, starts, goes_on, WasStep, ShowsReaction}
use Rattle.history_events.specs.Since.{Since}
use Rattle.refusal_rules.specs.Rules.{accept, ◌▸◌}
use Rattle.refusal_rules.proofs.RuleLemmas.{all_passed}
use Rattle.reactor_core.specs.Answers.{IsInstant}
use Rattle.reactor_core.specs.Loading.{GivenModule}
use Rattle.access_core.specs.Desk.{no_slot}
use Rattle.access_core.specs.SlotStep.{no_session, slot_rules}
use Rattle.history_events.proofs.Enterings.{enters, step_of, same_instant}
use Rattle.history_events.proofs.Following.{earlier_comes}
use Rattle.history_events.proofs.Histories.{since_push}
use Rattle.history_events.proofs.Moving.{not_accepted}
use Rattle.history_events.proofs.Pendings.{load_adds, on_more}
use Rattle.history_events.proofs.Slotwise.{Adds, slotwise}

-- one of the reactions
record ReactionAt (interface : List Declaration) (start : Term) (instants : List PastInstant) (at : ℕ)
    (i : PastInstant) : Type 0 where
  term : Term
  earlier : Reactions interface start (take at instants) term
  next : Term
  reacts : ReactsWith interface term i.inputs i.outputs next

reaction_at : (interface : List Declaration) (start : Term) (instants : List PastInstant) (term : Term)
    → Reactions interface start instants term
    → (at : ℕ) (i : PastInstant) → slice_get instants at ≡ Some i → ReactionAt interface start instants at i
reaction_at interface start _ _ starts at i there = absurd (omega (arith, slice_get_within [] at i there))
reaction_at interface start _ _ (goes_on earlier term before inputs outputs next reacts) at i there =
    elim (get_push earlier (instant inputs outputs) i at there) [
      | inl old ↦
          let r = reaction_at interface start earlier term before at i old.1 in
          record {
            term = r.term;
            earlier = subst (λ is. Reactions interface start is r.term)
                (sym (take_front earlier (instant inputs outputs) at (omega (arith, old.0)))) r.earlier;
            next = r.next;
            reacts = r.reacts;
          }
      | inr last ↦
          let whole : take at (earlier ++ instant inputs outputs ∷ []) ≡ earlier =
          ap (λ k. take k (earlier ++ instant inputs outputs ∷ [])) last.0
          ∙ take_whole earlier (instant inputs outputs) in
          record {
            term = term;
            earlier = subst (λ is. Reactions interface start is term) (sym whole) before;
            next = next;
            reacts = subst (λ (j : PastInstant). ReactsWith interface term j.inputs j.outputs next) last.1 reacts;
          }
    ]

-- what is known of the module that runs in a slot, and begins as this term
record Known (past : List Moment) (slot : ℕ) (journal : List SlotEntry) (interface : List Declaration)
    (start : Term) : Type 0 where
  term : Term
  leaves : Leaves journal term
  reactions : Reactions interface start (instants_of journal) term
  stepped : (n : ℕ) (i : PastInstant) → IsInstant journal n i
      → Since (WasStep slot n interface i) (Accepts slot IsLoad) past

abbrev KnownSlot : List Moment → (slot : ℕ) → List SlotEntry → Type 0
KnownSlot past slot journal = (r : Running) (runs : RunsAfter journal r) → Known past slot journal r.interface runs.term

-- a fact of the history stays where nothing undoes it
still_since : {A : Type 0} (M U : A → Type 0) (xs : List A) (x : A) → (U x → ⊥) → Since M U xs
    → Since M U (xs ++ x ∷ [])
still_since M U xs x no_undo h = (since_push M U xs x).1 (inr (h, no_undo))

idle : (past : List Moment) (m : Moment) (slot : ℕ) (journal : List SlotEntry) → (Accepts slot Adds m → ⊥)
    → KnownSlot past slot journal
    → KnownSlot (past ++ m ∷ []) slot journal
idle past m slot journal none known r runs =
    let k = known r runs in
    record {
      term = k.term;
      leaves = k.leaves;
      reactions = k.reactions;
      stepped = λ n i there. still_since (WasStep slot n r.interface i) (Accepts slot IsLoad) past m
          (λ undo. none (on_more slot m load_adds undo)) (k.stepped n i there);
    }

module _ (modules : OneModule) (past : List Moment) (m : Moment) (seat version slot session : ℕ) (command : SlotCommand)
    (is : m.event ≡ OnSlot seat version slot session command)
    (a : AddsMove (take version m.before.entries) session command (journal_at m.before slot) m.reply
    (journal_at m.after slot))
    (known : KnownSlot past slot (journal_at m.before slot)) where
  abbrev before : List SlotEntry
  before = journal_at m.before slot

  abbrev after : List SlotEntry
  after = journal_at m.after slot

  abbrev stamp : Stamp
  stamp = stamp_of (take version m.before.entries) session

  added : (does : PastMove) → a.does ≡ does → after ≡ before ++ entry stamp does ∷ []
  added does same = a.added ∙ ap (λ does. before ++ entry stamp does ∷ []) same

  load_then : (does : PastMove) → a.does ≡ does → last_load after ≡ load_after (last_load before) does
  load_then does same = ap last_load (added does same) ∙ after_snoc load_after None before (entry stamp does)

  instants_then : (does : PastMove) → a.does ≡ does → instants_of after ≡ instants_after (instants_of before) does
  instants_then does same = ap instants_of (added does same) ∙ after_snoc instants_after [] before (entry stamp does)

  -- the reply to a step, with this number of its instant
  abbrev step_told : ℕ → Reply
  step_told n = Added (record {
    word = word.Step;
    place = length after;
    version = length (take version m.before.entries);
    instants = n;
  })

  -- what ran before, where the load is the same
  abbrev ran : Running → Running
  ran r = record {
    interface = r.interface;
    relations = r.relations;
    pending = mask_of r.interface (offers_of before);
    instants = instants_of before;
  }

  abbrev ran_before : (r : Running) (runs : RunsAfter after r) → last_load after ≡ last_load before
      → RunsAfter before (ran r)
  ran_before r runs same = record {
    load = runs.load;
    last = sym same ∙ runs.last;
    term = runs.term;
    is = runs.is;
    offered = refl;
    past = refl;
  }

  not_load : (c : SlotCommand) → command ≡ c → ((l : LoadEntry) → c ≡ Move (Load l) → ⊥) → Accepts slot IsLoad m → ⊥
  not_load c e none loads =
      let load = (subst (IsOn slot IsLoad) is loads.0).1 in
      none load.0 (sym e ∙ load.1)

  loads : (l : LoadEntry) → IsMoveOf (Move (Load l)) before a.does → KnownSlot (past ++ m ∷ []) slot after
  loads l h r runs =
      let given : GivenModule = record { interface = r.interface; relations = r.relations; term = runs.term } in
      let same : l ≡ runs.load = same_Some l runs.load (sym (load_then (Load l) h.is) ∙ runs.last) in
      let begins : ModuleOf l given = subst (λ (l : LoadEntry). ModuleOf l given) (sym same) runs.is in
      let none : instants_of after ≡ [] = instants_then (Load l) h.is in
      record {
        term = runs.term;
        leaves = subst (λ j. Leaves j runs.term) (sym (added (Load l) h.is))
            (loaded before stamp l given begins);
        reactions = subst (λ is. Reactions r.interface runs.term is runs.term) (sym none) starts;
        stepped =
            λ n i there. absurd
            (omega (
              arith,
              slice_get_within [] (n - 1) i (subst (λ is. slice_get is (n - 1) ≡ Some i) none there.there),
            ));
      }

  -- where neither term nor instants change
  stays : (c : SlotCommand) → command ≡ c → ((l : LoadEntry) → c ≡ Move (Load l) → ⊥) → (does : PastMove)
      → a.does ≡ does
      → load_after (last_load before) does ≡ last_load before
      → instants_after (instants_of before) does ≡ instants_of before
      → ((term : Term) → Leaves before term → Leaves (before ++ entry stamp does ∷ []) term)
      → KnownSlot (past ++ m ∷ []) slot after
  stays c e no_load does is_does loads instants leaves r runs =
      let k = known (ran r) (ran_before r runs (load_then does is_does ∙ loads)) in
      let same : instants_of after ≡ instants_of before = instants_then does is_does ∙ instants in
      record {
        term = k.term;
        leaves = subst (λ j. Leaves j k.term) (sym (added does is_does)) (leaves k.term k.leaves);
        reactions = subst (λ is. Reactions r.interface runs.term is k.term) (sym same) k.reactions;
        stepped = λ n i there. still_since (WasStep slot n r.interface i) (Accepts slot IsLoad) past m
            (not_load c e no_load)
            (k.stepped n i
            (record {
              counted = there.counted;
              there = subst
                  (λ is. slice_get is (n - 1) ≡ Some i) same there.there;
            }));
      }

  steps : command ≡ Move (Step (record {})) → (h : IsMoveOf (Move (Step (record {}))) before a.does)
      → m.reply ≡ tells_added (word_of a.does) (length (take version m.before.entries)) after
      → KnownSlot (past ++ m ∷ []) slot after
  steps e h told r runs =
      let o = h.outcome in
      let now : PastInstant = instant o.running.pending h.outputs in
      let runs_old : RunsAfter before (ran r) = ran_before r runs (load_then (Step now) h.is) in
      let k = known (ran r) runs_old in
      let same_run : o.running ≡ ran r = same_running modules before o.running (ran r) o.runs runs_old in
      let declares : o.running.interface ≡ r.interface = ap (λ (s : Running). s.interface) same_run in
      let same_term : o.term ≡ k.term = one_term modules before o.term k.term o.leaves k.leaves in
      let reacts : ReactsWith o.running.interface k.term o.running.pending h.outputs h.next =
      subst (λ t. ReactsWith o.running.interface t o.running.pending h.outputs h.next) same_term o.reacts in
      let more : instants_of after ≡ instants_of before ++ now ∷ [] = instants_then (Step now) h.is in
      record {
        term = h.next;
        leaves = subst (λ j. Leaves j h.next) (sym (added (Step now) h.is))
            (stepped before k.term k.leaves o.running o.runs h.outputs h.next reacts stamp);
        reactions = subst (λ is. Reactions r.interface runs.term is h.next) (sym more)
            (goes_on (instants_of before) k.term k.reactions o.running.pending h.outputs h.next
            (subst (λ ds. ReactsWith ds k.term o.running.pending h.outputs h.next) declares reacts));
        stepped = λ n i there.
            let at : slice_get (instants_of before ++ now ∷ []) (n - 1) ≡ Some i =
            subst (λ is. slice_get is (n - 1) ≡ Some i) more there.there in
            elim (get_push (instants_of before) now i (n - 1) at) [
              | inl old ↦ still_since (WasStep slot n r.interface i) (Accepts slot IsLoad) past m
                  (not_load (Move (Step (record {}))) e (λ l no. cc))
                  (k.stepped n i (record { counted = there.counted; there = old.1 }))
              | inr last ↦
                  let number : length (instants_of after) ≡ n =
                  ap length more ∙ omega (arith, last.0, there.counted, length_push (instants_of before) now) in
                  (since_push (WasStep slot n r.interface i) (Accepts slot IsLoad) past m).1 (inl (record {
                    accepted = (subst (IsOn slot IsStep) (sym is) (refl, e), a.accepted);
                    place = _;
                    version = _;
                    numbered = told
                        ∙ ap (λ d. tells_added (word_of d) (length (take version m.before.entries)) after) h.is
                        ∙ ap step_told number;
                    running = o.running;
                    declares = declares;
                    adds = record {
                      stamp = stamp;
                      runs = o.runs;
                      added = added (Step now) h.is ∙ ap (λ i. before ++ entry stamp (Step i) ∷ [])
                          last.1;
                    };
                  }))
            ];
      }

  by_command : (c : SlotCommand) → command ≡ c → IsMoveOf c before a.does
      → m.reply ≡ tells_added (word_of a.does) (length (take version m.before.entries)) after
      → KnownSlot (past ++ m ∷ []) slot after
  by_command (Move (Load l)) e h told = loads l h
  by_command (Move (Offer signal)) e h told =
      stays (Move (Offer signal)) e (λ l no. cc) (Offer signal) h.is refl refl
      (λ term leaves. offered before term leaves stamp signal)
  by_command (Move Discard) e h told =
      stays (Move Discard) e (λ l no. cc) Discard h.is refl refl
      (λ term leaves. discarded before term leaves stamp)
  by_command (Move Unload) e h told = λ r runs. let none : None ≡ Some runs.load =
      sym (load_then Unload h.is) ∙ runs.last in absurd cc
  by_command (Move (Step i)) e h told = steps e h told
  by_command (Look n) e h told = absurd h
  by_command Audit e h told = absurd h

  grows : KnownSlot (past ++ m ∷ []) slot after
  grows = by_command command refl a.is a.told

known_slots : OneModule → (past : List Moment) (m : Moment) → Comes past m → (slot : ℕ)
    → KnownSlot past slot (journal_at m.before slot)
known_slots modules = slotwise KnownSlot idle (grows modules) (λ slot r runs. let none = runs.last in absurd cc)

-- the instant that an accepted look shows, by the slot step
pub record Looked (m : Moment) (version slot session n : ℕ) : Type 0 where
  pub known : version ≤ length m.before.entries
  pub lives : IsLive (take version m.before.entries) session
  pub holds : is_loaded (journal_at m.before slot) ≡ true
  pub journal : List SlotEntry
  pub looks : Looks (take version m.before.entries) slot session n (journal_at m.before slot) m.reply journal

pub looked : (m : Moment) (seat version slot session n : ℕ) → IsAccepted m.reply
    → EventStep (OnSlot seat version slot session (Look n)) m.before m.reply m.after → Looked m version slot session n
looked m seat version slot session n accepted step =
    let entries : List Entry = take version m.before.entries in
    let judged = all_passed (version_rules m.before seat version slot)
    (λ refusal. IsRefused refusal m.before m.reply m.after)
    (Judged seat version slot session (Look n) m.before m.reply m.after)
    (λ refusal h. not_accepted m.reply refusal h.replied accepted) step in
    let inside = all_passed (no_session entries session ▸ no_slot slot ▸ accept)
    (λ refusal. IsRefused refusal (desk_at version (desk_of m.before)) m.reply (desk_at version (desk_of m.after)))
    (InSlot slot session (Look n) (desk_at version (desk_of m.before)) m.reply (desk_at version (desk_of m.after)))
    (λ refusal h. not_accepted m.reply refusal h.replied accepted) judged.1.step in
    let s = inside.1 in
    let slot_step : SlotStep entries slot session (Look n) (journal_at m.before slot) m.reply s.journal =
    subst (λ j. SlotStep entries slot session (Look n) j m.reply s.journal) (sym (ap journal_in s.there)) s.step in
    let answered = all_passed (slot_rules entries slot session (Look n) (journal_at m.before slot))
    (λ refusal. IsRefused refusal (journal_at m.before slot) m.reply s.journal)
    (Looks entries slot session n (journal_at m.before slot) m.reply s.journal)
    (λ refusal h. not_accepted m.reply refusal h.replied accepted) slot_step in
    record { known = judged.0.1.0; lives = inside.0.0; holds = answered.0.1.0; journal = s.journal; looks = answered.1 }

-- the inputs of a step are what was offered before it
step_inputs : OneModule → (past : List Moment) (m : Moment) (slot n : ℕ) (interface : List Declaration)
    (i : PastInstant) → Comes past m → WasStep slot n interface i m
    → (name : List ℕ) → StandsIn interface i.inputs name ↔ WasOffered past slot name
step_inputs modules past m slot n interface i comes w name =
    let entered = enters modules past m slot name comes w.accepted in (
      λ stands. entered.0 (record {
        running = w.running;
        instant = i;
        adds = w.adds;
        stands = subst (λ ds. StandsIn ds i.inputs name) (sym w.declares) stands;
      }),
      λ offered.
          let h = entered.1 offered in
          let same = same_instant modules m slot h.running w.running h.instant i h.adds w.adds in
          subst (λ ds. StandsIn ds i.inputs name) w.declares
          (subst (λ (r : Running). StandsIn r.interface i.inputs name) same.0
          (subst (λ (j : PastInstant). StandsIn h.running.interface j.inputs name) same.1 h.stands)),
    )

pub display_law : OneModule → (past : List Moment) (m : Moment) (seat version slot session n : ℕ) → Comes past m
    → m.event ≡ OnSlot seat version slot session (Look n)
    → IsAccepted m.reply → ShowsReaction past m version slot session n
display_law modules past m seat version slot session n comes is accepted =
    let s = looked m seat version slot session n accepted
    (subst (λ e. EventStep e m.before m.reply m.after) is (step_of past m comes)) in
    let h = s.looks in
    let k = known_slots modules past m comes slot h.running h.runs in
    let stepped = k.stepped n h.instant h.there in
    let came = earlier_comes past m comes stepped.at stepped.maker stepped.there in
    let r = reaction_at h.running.interface h.runs.term (instants_of (journal_at m.before slot)) k.term k.reactions
    (n - 1) h.instant h.there.there in
    record {
      running = h.running;
      runs = h.runs;
      instant = h.instant;
      stepped = stepped;
      inputs = step_inputs modules (take stepped.at past) stepped.maker slot n h.running.interface h.instant came
          stepped.made;
      term = r.term;
      reactions = subst (λ is. Reactions h.running.interface h.runs.term (take (n - 1) is) r.term)
          (sym h.runs.past) r.earlier;
      next = r.next;
      reacts = r.reacts;
      sees = h.sees;
      observes = h.observes;
      shows = h.replied ∙ ap (λ v. Shown n (shown_of h.running.interface h.sees h.instant) v)
          (length-take-le version m.before.entries s.known);
    }
