-- A slot's journal goes on being legal.
use Rattle.std.proofs.Common.{◌≡◌, ◌⊎◌, ◌∙◌, ℕ, zero, suc, ◌+◌, ◌<◌, ◌≤◌, List, [], ◌∷◌, ◌++◌, length, take, get_or}
use Rattle.std.proofs.Common.{refl, sym, ap, subst, inl, inr, arith, le_trans, le_refl, below_more, Bool, true, false}
use Rattle.std.specs.Prelude.{Option, Some, None, Result, Ok, Err, MatchResult, slice_get, fold, is_some}
use Rattle.std.proofs.lemmas.Bool.{cases_eq}
use Rattle.std.proofs.lemmas.List.{take_more, take-append-le, length-append}
use Rattle.std.proofs.lemmas.List.Sums.{fold_push}
use Rattle.std.proofs.lemmas.Option.{same_Some, get_or_from_slice_get, slice_get-get_or, slice_get_within}
use Rattle.refusal_rules.proofs.RuleLemmas.{all_passed, answered}
use Rattle.rbac_policy.specs.declared.commands.Entry.{Entry}
use Rattle.rbac_policy.proofs.Steps.{get_push, take_front, take_whole}
use Rattle.rbac_admin.specs.PolicyLists.{Begins}
use Rattle.reactor_core.specs.declared.entry.Stamp.{Stamp}
use Rattle.reactor_core.specs.declared.entry.Move.TheVariants.{Load, Offer, Discard, Step, Unload}
use Rattle.reactor_core.specs.declared.entry.PastInstant.{PastInstant}
use Rattle.reactor_core.specs.declared.entry.SlotEntry.{SlotEntry}
use Rattle.reactor_core.specs.declared.entry.SlotWord.TheVariants as word
use Rattle.reactor_core.specs.declared.refusal.ReactorRefusal.{ReactorRefusal}
use Rattle.reactor_core.specs.Meaning.{PastMove, AskedMove, asked, entry, word_of, instant_of}
use Rattle.reactor_core.specs.Answers.{
  LoadAnswer,
  ReactorOfferAnswer,
  AddsLoad,
  load_of,
  load_rules,
  reactor_offer_rules,
}
use Rattle.access_core.specs.declared.command.SlotCommand.{SlotCommand}
use Rattle.access_core.specs.declared.command.SlotCommand.TheVariants.{Move, Look, Audit}
use Rattle.access_core.specs.declared.refusal.Refusal.{Refusal}
use Rattle.access_core.specs.declared.reply.Reply.{Reply}
use Rattle.access_core.specs.declared.reply.Reply.TheVariants.{Refused}
use Rattle.access_core.specs.Answering.{IsRefused}
use Rattle.access_core.specs.Refusals.{of_reactor}
use Rattle.access_core.specs.Needs.{Needs, IsAccepted}
use Rattle.access_core.specs.Journals.{last_version, Judges, Adds, IsLegalEntry, AreLegal, IsLegal}
use Rattle.access_core.specs.SlotStep.{SlotStep, slot_rules, Does, stamp_of, tells_added}
use Rattle.access_core.proofs.Deciding.{accepted_access, has_needed}

-- ---- entries and their commands

-- the move of what was asked for, and of a step its instant; or else another one
abbrev move_from : AskedMove → Option PastInstant → PastMove → PastMove
move_from (Load l) i other = Load l
move_from (Offer signal) i other = Offer signal
move_from Discard i other = Discard
move_from (Step u) (Some i) other = Step i
move_from (Step u) None other = other
move_from Unload i other = Unload

move_again : (a other : PastMove) → move_from (asked a) (instant_of a) other ≡ a
move_again (Load l) other = refl
move_again (Offer signal) other = refl
move_again Discard other = refl
move_again (Step i) other = refl
move_again Unload other = refl

-- commands of moves tell their moves
same_asked : (a b : AskedMove) → Move a ≡ Move b → a ≡ b
same_asked a b e = cc

-- a move is told by its command, and of a step by its instant
pub same_move : (a b : PastMove) → Move (asked a) ≡ Move (asked b) → instant_of a ≡ instant_of b → a ≡ b
same_move a b command instant =
    sym (move_again a a) ∙ ap (λ c. move_from c (instant_of a) a) (same_asked (asked a) (asked b) command)
    ∙ ap (λ i. move_from (asked b) i a) instant ∙ move_again b a

abbrev is_step : SlotCommand → Bool
is_step (Move (Step u)) = true
is_step _ = false

has_instant : (a : PastMove) → is_some (instant_of a) ≡ is_step (Move (asked a))
has_instant (Load l) = refl
has_instant (Offer signal) = refl
has_instant Discard = refl
has_instant (Step i) = refl
has_instant Unload = refl

none_there : {A : Type 0} (o : Option A) → is_some o ≡ false → o ≡ None
none_there None none = refl
none_there (Some x) none = absurd cc

-- where the command is one that has no instant, no move of it has one
pub also_none : (a b : PastMove) → Move (asked a) ≡ Move (asked b) → instant_of b ≡ None → instant_of a ≡ None
also_none a b command none =
    none_there (instant_of a)
    (has_instant a ∙ ap is_step command ∙ sym (has_instant b) ∙ ap (λ (i : Option PastInstant). is_some i) none)

-- what has an instant is a step
pub steps_where : (a : PastMove) (i : PastInstant) → instant_of a ≡ Some i → a ≡ Step i
steps_where (Load l) i e = absurd cc
steps_where (Offer signal) i e = absurd cc
steps_where Discard i e = absurd cc
steps_where (Step j) i e = ap Step (same_Some j i e)
steps_where Unload i e = absurd cc

-- ---- what a slot step adds

-- the command is accepted, and an entry that it asks for is added, which bears this stamp; the reply tells so
pub record IsTaken (stamp : Stamp) (command : SlotCommand) (before : List SlotEntry) (reply : Reply)
    (after : List SlotEntry) : Type 0 where
  pub accepted : IsAccepted reply
  pub done : PastMove
  pub asked : Move (asked done) ≡ command
  pub added : after ≡ before ++ entry stamp done ∷ []
  pub told : reply ≡ tells_added (word_of done) stamp.version after

-- the journal stays, or the command is taken
abbrev pub AddsOne : Stamp → SlotCommand → (before : List SlotEntry) → Reply → (after : List SlotEntry) → Type 0
AddsOne stamp command before reply after = (after ≡ before) ⊎ IsTaken stamp command before reply after

-- the command is refused, and the journal stays
pub record IsLeft (before : List SlotEntry) (reply : Reply) (after : List SlotEntry) : Type 0 where
  pub refusal : Refusal
  pub is : IsRefused refusal before reply after

-- the command only asks, and the journal stays
pub record OnlyAsks (command : SlotCommand) (before after : List SlotEntry) : Type 0 where
  pub adds_none : (a : PastMove) → ¬ (Move (asked a) ≡ command)
  pub stays : after ≡ before

-- the command is refused, or it only asks, or it is taken
abbrev pub ChangesJournal : Stamp → SlotCommand → (before : List SlotEntry) → Reply → (after : List SlotEntry) → Type 0
ChangesJournal stamp command before reply after =
    IsLeft before reply after ⊎ OnlyAsks command before after ⊎ IsTaken stamp command before reply after

module _ (stamp : Stamp) (before : List SlotEntry) (reply : Reply) (after : List SlotEntry) where
  left : (command : SlotCommand) (refusal : Refusal) → IsRefused refusal before reply after
      → ChangesJournal stamp command before reply after
  left command refusal h = inl (record { refusal = refusal; is = h })

  loaded : (main text : List ℕ) (answer : Result (List SlotEntry) (ReactorRefusal × List SlotEntry))
      → LoadAnswer before stamp main text answer
      → MatchResult answer
      (λ journal. (after ≡ journal) × (reply ≡ tells_added word.Load stamp.version after))
      (λ refused. IsRefused (of_reactor refused.0) before reply after)
      → ChangesJournal stamp (Move (Load (load_of main text))) before reply after
  loaded main text (Ok journal) given replied =
      let passed = all_passed (load_rules before main text) (λ refusal. Ok journal ≡ Err (refusal, before))
      ((longer : List SlotEntry) × (Ok journal ≡ Ok longer) × AddsLoad before stamp main text longer)
      (λ refusal e. cc) given in
      let e = passed.1.1 in
      let same : journal ≡ passed.1.0 = cc in
      inr (inr (record {
        accepted = subst IsAccepted (sym replied.1) tt;
        done = Load (load_of main text);
        asked = refl;
        added = replied.0 ∙ same ∙ passed.1.2.added;
        told = replied.1;
      }))
  loaded main text (Err refusal) given replied = left (Move (Load (load_of main text))) _ replied

  offered : (signal : List ℕ) (answer : Result (Unit {0}) ReactorRefusal)
      → ReactorOfferAnswer before stamp signal answer after
      → MatchResult answer
      (λ _. reply ≡ tells_added word.Offer stamp.version after)
      (λ refusal. IsRefused (of_reactor refusal) before reply after)
      → ChangesJournal stamp (Move (Offer signal)) before reply after
  offered signal (Ok done) given replied =
      let passed = all_passed (reactor_offer_rules before given.running signal) _ _
      (λ refusal e. let no = e.0 in cc) given.given in
      inr (inr (record {
        accepted = subst IsAccepted (sym replied) tt;
        done = Offer signal;
        asked = refl;
        added = passed.1.1;
        told = replied;
      }))
  offered signal (Err refusal) given replied = left (Move (Offer signal)) _ replied

module _ (entries : List Entry) (slot session : ℕ) (before : List SlotEntry) (reply : Reply)
    (after : List SlotEntry) where
  does : (command : SlotCommand) → Does entries slot session command before reply after
      → ChangesJournal (stamp_of entries session) command before reply after
  does (Move (Load l)) h = loaded (stamp_of entries session) before reply after l.main l.text h.answer h.given h.replied
  does (Move (Offer signal)) h = offered (stamp_of entries session) before reply after signal h.answer h.given h.replied
  does (Move Discard) h =
      inr (inr (record {
        accepted = subst IsAccepted (sym h.replied) tt;
        done = Discard;
        asked = refl;
        added = h.added;
        told = h.replied;
      }))
  does (Move (Step u)) h =
      inr (inr (record {
        accepted = subst IsAccepted (sym h.replied) tt;
        done = Step _;
        asked = refl;
        added = h.adds.appended;
        told = h.replied;
      }))
  does (Move Unload) h =
      inr (inr (record {
        accepted = subst IsAccepted (sym h.replied) tt;
        done = Unload;
        asked = refl;
        added = h.added;
        told = h.replied;
      }))
  does (Look n) h = inr (inl (record { adds_none = λ a e. cc; stays = h.stays }))
  does Audit h = inr (inl (record { adds_none = λ a e. cc; stays = h.stays }))

  -- a slot step refuses its command, answers what it asks, or adds one entry that it asks for
  pub moves : (command : SlotCommand) → SlotStep entries slot session command before reply after
      → ChangesJournal (stamp_of entries session) command before reply after
  moves command h =
      answered (slot_rules entries slot session command before) (λ refusal. IsRefused refusal before reply after)
      (Does entries slot session command before reply after)
      (ChangesJournal (stamp_of entries session) command before reply after)
      (left (stamp_of entries session) before reply after command) (does command) h

  stays_or_adds : (command : SlotCommand) → ChangesJournal (stamp_of entries session) command before reply after
      → AddsOne (stamp_of entries session) command before reply after
  stays_or_adds command (inl left) = inl left.is.stays
  stays_or_adds command (inr (inl asks)) = inl asks.stays
  stays_or_adds command (inr (inr taken)) = inr taken

  -- a slot step leaves the journal, or adds one entry that its command asks for
  pub adds_one : (command : SlotCommand) → SlotStep entries slot session command before reply after
      → AddsOne (stamp_of entries session) command before reply after
  adds_one command h = stays_or_adds command (moves command h)

-- a refused command leaves the journal
pub refused_stays : (stamp : Stamp) (command : SlotCommand) (before : List SlotEntry) (refusal : Refusal)
    (after : List SlotEntry)
    → ChangesJournal stamp command before (Refused refusal) after → after ≡ before
refused_stays stamp command before refusal after (inl left) = left.is.stays
refused_stays stamp command before refusal after (inr (inl asks)) = asks.stays
refused_stays stamp command before refusal after (inr (inr taken)) = absurd taken.accepted

-- ---- versions

-- the front with the next entry
pub take_next : (journal : List SlotEntry) (at : ℕ) (e : SlotEntry) → slice_get journal at ≡ Some e
    → take (at + 1) journal ≡ take at journal ++ e ∷ []
take_next journal at e there =
    take_more journal at e (slice_get_within journal at e there)
    ∙ ap (λ x. take at journal ++ x ∷ []) (get_or_from_slice_get journal at e e there)

-- the version of the front with the next entry
pub next_version : (journal : List SlotEntry) (at : ℕ) (e : SlotEntry) → slice_get journal at ≡ Some e
    → last_version (take (at + 1) journal) ≡ e.stamp.version
next_version journal at e there =
    ap last_version (take_next journal at e there) ∙ fold_push (λ (version : ℕ) (x : SlotEntry). x.stamp.version) 0
    (take at journal) e

-- the last version is within what all of them are within
last_within : (most start : ℕ) (journal : List SlotEntry) → start ≤ most
    → ((at : ℕ) (e : SlotEntry) → slice_get journal at ≡ Some e → e.stamp.version ≤ most)
    → fold (λ (version : ℕ) (e : SlotEntry). e.stamp.version) start journal ≤ most
last_within most start [] low all = low
last_within most start (x ∷ later) low all =
    last_within most x.stamp.version later (all 0 x refl) (λ at e there. all (suc at) e there)

-- ---- legal journals

-- with one more entry it is legal
pub legal_more : (list : List Entry) (slot : ℕ) (journal : List SlotEntry) (at : ℕ) (e : SlotEntry)
    → AreLegal list slot journal at
    → slice_get journal at ≡ Some e → IsLegalEntry list slot (take at journal) e → AreLegal list slot journal (at + 1)
legal_more list slot journal at e legal there here = λ k x low is.
    below_more (λ k. (x : SlotEntry) → slice_get journal k ≡ Some x → IsLegalEntry list slot (take k journal) x) at
    (λ k below x is. legal k x below is)
    (λ x is. subst (IsLegalEntry list slot (take at journal)) (same_Some e x (sym there ∙ is)) here)
    k low x is

-- the first n entries of a list are those of a longer list that begins with it
take_begins : (n : ℕ) (list longer : List Entry) → Begins list longer → n ≤ length list → take n list ≡ take n longer
take_begins n list longer b within = sym (take-append-le n list b.rest within) ∙ ap (take n) b.is

-- a beginning is no longer than the whole
begins_within : (list longer : List Entry) → Begins list longer → length list ≤ length longer
begins_within list longer b = let n = ap length b.is in omega (arith, n, length-append list b.rest)

-- a legal journal is legal over a longer list
pub still_legal : (list longer : List Entry) (slot : ℕ) (journal : List SlotEntry) → Begins list longer
    → IsLegal list slot journal
    → IsLegal longer slot journal
still_legal list longer slot journal b legal = λ at e low there.
    let old = legal at e low there in
    record {
      version = record { rises = old.version.rises; known = le_trans old.version.known (begins_within list longer b) };
      added = subst (λ (first : List Entry). Adds first slot (take at journal) e e)
          (take_begins e.stamp.version list longer b old.version.known) old.added;
    }

-- all of a list
take_all : (list : List Entry) → take (length list) list ≡ list
take_all [] = refl
take_all (x ∷ list) = ap (λ m. x ∷ m) (take_all list)

module _ (list : List Entry) (slot : ℕ) (journal : List SlotEntry) (legal : IsLegal list slot journal) where
  -- with one more entry, legal after the others, it is legal
  push_legal : (e : SlotEntry) → IsLegalEntry list slot journal e → IsLegal list slot (journal ++ e ∷ [])
  push_legal e one = λ at x low there. elim (get_push journal e x at there) [
    | inl old ↦
        subst (λ (before : List SlotEntry). IsLegalEntry list slot before x)
        (sym (take_front journal e at (omega (arith, old.0))))
        (legal at x old.0 old.1)
    | inr new ↦
        let before : take at (journal ++ e ∷ []) ≡ journal =
        ap (λ k. take k (journal ++ e ∷ [])) new.0 ∙ take_whole journal e in
        subst (λ (xs : List SlotEntry). IsLegalEntry list slot xs x) (sym before)
        (subst (IsLegalEntry list slot journal) new.1 one)
  ]

  -- what the slot step on the list adds is legal
  taken_legal : (session : ℕ) (command : SlotCommand) (reply : Reply) (after : List SlotEntry)
      → SlotStep list slot session command journal reply after
      → IsTaken (stamp_of list session) command journal reply after
      → IsLegal list slot after
  taken_legal session command reply after step taken =
      let e : SlotEntry = entry (stamp_of list session) taken.done in
      let own : Judges list slot journal e reply (journal ++ e ∷ []) =
      subst (λ (c : SlotCommand). SlotStep list slot session c journal reply (journal ++ e ∷ [])) (sym taken.asked)
      (subst (λ (j : List SlotEntry). SlotStep list slot session command journal reply j) taken.added step) in
      let whole : Adds list slot journal e e = record { reply = reply; accepted = taken.accepted; step = own } in
      let low : last_version journal ≤ length list =
      last_within (length list) 0 journal (omega arith)
      (λ at x there. (legal at x (slice_get_within journal at x there) there).version.known) in
      subst (IsLegal list slot) (sym taken.added)
      (push_legal e (record {
        version = record { rises = low; known = le_refl (length list) };
        added = subst (λ (judged : List Entry). Adds judged slot journal e e) (sym (take_all list)) whole;
      }))

  -- what the slot step on the list leaves is legal
  pub step_legal : (session : ℕ) (command : SlotCommand) (reply : Reply) (after : List SlotEntry)
      → SlotStep list slot session command journal reply after → IsLegal list slot after
  step_legal session command reply after step = elim (adds_one list slot session journal reply after command step) [
    | inl stays ↦ subst (IsLegal list slot) (sym stays) legal
    | inr taken ↦ taken_legal session command reply after step taken
  ]

  -- the versions of the first `n` entries are no higher than that of the last of them
  within_last : (n : ℕ) → n ≤ length journal → (at : ℕ) (x : SlotEntry) → at < n → slice_get journal at ≡ Some x
      → x.stamp.version ≤ last_version (take n journal)
  within_last zero low at x below there = absurd (omega (arith, below))
  within_last (suc n) low at x below there =
      let y : SlotEntry = get_or journal n x in
      let here : slice_get journal n ≡ Some y = slice_get-get_or journal n x (omega (arith, low)) in
      let more : suc n ≡ n + 1 = omega arith in
      let last : last_version (take (suc n) journal) ≡ y.stamp.version =
      ap (λ k. last_version (take k journal)) more ∙ next_version journal n y here in
      let own = (legal n y (omega (arith, low)) here).version.rises in
      elim (cases_eq at n) [
        | inl same ↦
            let is : x ≡ y = same_Some x y (sym there ∙ ap (slice_get journal) same ∙ here) in
            let versions = ap (λ (e : SlotEntry). e.stamp.version) is in
            omega (arith, last, versions)
        | inr apart ↦
            let before = within_last n (omega (arith, low)) at x (omega (arith, below, apart)) there in
            omega (arith, last, own, before)
      ]

  -- along the places of a legal journal versions never fall
  pub versions_rise : (early late : ℕ) (x y : SlotEntry) → early ≤ late → slice_get journal early ≡ Some x
      → slice_get journal late ≡ Some y
      → x.stamp.version ≤ y.stamp.version
  versions_rise early late x y before first second =
      let within : late < length journal = slice_get_within journal late y second in
      let own = (legal late y within second).version.rises in
      elim (cases_eq early late) [
        | inl same ↦
            let is : x ≡ y = same_Some x y (sym first ∙ ap (slice_get journal) same ∙ second) in
            let versions = ap (λ (e : SlotEntry). e.stamp.version) is in
            omega (arith, versions)
        | inr apart ↦
            let low = within_last late (omega (arith, within)) early x (omega (arith, before, apart)) first in
            omega (arith, low, own)
      ]

  -- the session of an entry had what its command needs, at the entry's version
  pub entry_allowed : (at : ℕ) (x : SlotEntry) → slice_get journal at ≡ Some x
      → Needs (take x.stamp.version list) slot x.stamp.session (Move (asked x.done))
  entry_allowed at x there =
      let added = (legal at x (slice_get_within journal at x there) there).added in
      has_needed (take x.stamp.version list) slot x.stamp.session (Move (asked x.done))
      (accepted_access (take x.stamp.version list) slot x.stamp.session (Move (asked x.done))
      (take at journal) added.reply
      (take at journal ++ x ∷ []) added.accepted added.step)
