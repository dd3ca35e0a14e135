-- The calls of one list of events, made in turn, leave the policy list and the journals that are its parts.
use Rattle.std.proofs.Common.{◌≡◌, ◌≢◌, ◌∙◌, ℕ, ◌+◌, ◌<◌, ◌≤◌, Bool, true, false, List, [], ◌∷◌, ◌++◌, length, map}
use Rattle.std.proofs.Common.{take, drop, refl, sym, ap, subst, arith, Option, Some, None, eq-eqb, ne_eqb, append-nil}
use Rattle.std.proofs.Common.{append_assoc}
use Rattle.std.specs.Prelude.{◌==◌, if◌then◌else◌, max, slice_get, slice_index_or}
use Rattle.std.specs.List.{AllZip, range_with_len}
use Rattle.std.proofs.Math.ListN.{length-set}
use Rattle.std.proofs.lemmas.Bool.{false≢true}
use Rattle.std.proofs.lemmas.List.{take_at, length-append}
use Rattle.std.proofs.lemmas.Option.{slice_get_within}
use native.Mathlib.Decide.{ℕ_discrete, dec_le}
use Rattle.rbac_policy.specs.declared.commands.Entry.{Entry}
use Rattle.rbac_policy.specs.declared.objects.TheConstants.{SLOTS}
use Rattle.rbac_policy.specs.Opening.{opening_entries}
use Rattle.rbac_policy.proofs.OfSlots.Slots.{get_set_other}
use Rattle.rbac_admin.specs.PolicyLists.{IsPolicyList, IsAccepted as MayFollow}
use Rattle.reactor_core.specs.declared.entry.SlotEntry.{SlotEntry}
use Rattle.access_core.specs.Journals.{IsLegal, IsLegalEntry}
use Rattle.access_core.specs.SlotState.{SlotState}
use Rattle.history_events.specs.declared.event.TheConstants.{SEATS}
use Rattle.history_events.specs.Runs.{WorldState, opening_world, Moment, Follow, world_after, journal_in, journal_at}
use Rattle.history_events.proofs.Placing.{opening_journal}
use Rattle.history_receipts.specs.declared.receipt.SlotReceipt.{SlotReceipt}
use Rattle.history_receipts.specs.declared.receipt.Kept.{Kept}
use Rattle.rbac_policy.specs.declared.sizes.TheConstants.{OPENING_ENTRIES}
use Rattle.history_merge.specs.declared.order.Rank.{Rank}
use Rattle.history_merge.specs.declared.order.Rank.TheVariants as rank
use Rattle.history_merge.specs.ToldCalls.{ToldCall, Publishes, Commands, of_policy, of_seat, of_slot}
use Rattle.history_merge.specs.OneList.{Tell, Tells, HasParts, AreOfOneList}
use Rattle.history_merge.specs.Order.{part_at, version_at, InOrder}
use Rattle.history_merge.proofs.Going.{at_past}
use Rattle.history_laws.specs.CallsInTurn.{IsCallOf, AreOfOneRun}
use Rattle.history_laws.proofs.Accepted.{IsNext, policy_moment, policy_step, policy_call, slot_moment, slot_step}
use Rattle.history_laws.proofs.Accepted.{slot_call, slot_after}
use Rattle.history_laws.proofs.Parts.{StandsAt, stands_at, behind, same_journals, set_within, all_zero}

-- where nothing is kept, the first is not, and neither are the others
none_kept : {A : Type 0} (b : Bool) (x : A) (xs : List A) → (if b then x ∷ xs else xs) ≡ [] → (b ≡ false) × (xs ≡ [])
none_kept true x xs none = absurd cc
none_kept false x xs none = (refl, none)

-- so a seat that keeps the first is one that may
seat_within : {A : Type 0} (seat : ℕ) (x : A) (xs : List A)
    → (SEATS ≤ seat → (if seat == seat then x ∷ xs else xs) ≡ [])
    → Dec (SEATS ≤ seat) → seat < SEATS
seat_within seat x xs none (yes high) =
    absurd (false≢true (sym (none_kept (seat == seat) x xs (none high)).0 ∙ eq-eqb seat seat refl))
seat_within seat x xs none (no low) = omega arith

no_rest : (place : ℕ) (number : Option ℕ) (rest : List SlotEntry) → Tell place number [] rest → rest ≡ []
no_rest place number [] told = refl
no_rest place number (e ∷ rest) told = absurd told

module _ (policy : List Entry) (journals : List (List SlotEntry)) (lawful : IsPolicyList policy)
    (legal : (slot : ℕ) → slot < SLOTS → IsLegal policy slot (part_at journals slot))
    (sixteen : length journals ≡ SLOTS) where
  -- what is left of the slot's journal is told by what is left of the events
  record Left (world : WorldState) (events : List ToldCall) (slot : ℕ) : Type 0 where
    pub rest : List SlotEntry
    pub number : Option ℕ
    pub told : Tell (length (journal_at world slot)) number (of_slot slot events) rest
    pub whole : journal_at world slot ++ rest ≡ part_at journals slot

  -- the world stands where these events are left, the last one before them here
  record Stands (world : WorldState) (last : Rank) (events : List ToldCall) : Type 0 where
    pub whole : world.entries ++ of_policy events ≡ policy
    pub opened : length opening_entries ≤ length world.entries
    pub left : (slot : ℕ) → Left world events slot
    pub seen : (seat : ℕ) → slice_index_or world.seen seat 0 ≤ length world.entries
    pub slots : length world.slots ≡ SLOTS
    pub seated : (seat : ℕ) → SEATS ≤ seat → of_seat seat events ≡ []
    pub version : version_at last ≡ length world.entries
    pub order : InOrder last events

  -- the moments that follow are the calls of these events, and leave the policy list and the journals
  record Goes (world : WorldState) (events : List ToldCall) : Type 0 where
    pub moments : List Moment
    pub follow : Follow world moments
    pub calls : AllZip IsCallOf events moments
    pub entries : (world_after world moments).entries ≡ policy
    pub slots : map (λ (slot : SlotState). slot.journal) (world_after world moments).slots ≡ journals

  -- the policy list begins with the world's
  begun : (world : WorldState) (later : List Entry) → world.entries ++ later ≡ policy
      → take (length world.entries) policy ≡ world.entries
  begun world later whole =
      ap (λ list. take (length world.entries) list) (sym whole)
      ∙ take_at world.entries later (length world.entries) refl

  -- ---- a policy command comes next
  module _ (world : WorldState) (last : Rank) (seat version : ℕ) (entry : Entry) (events : List ToldCall)
      (st : Stands world last (Publishes seat version entry ∷ events)) where
    may_follow : MayFollow world.entries entry
    may_follow =
        let there : slice_get policy (length world.entries) ≡ Some entry =
        subst (λ list. slice_get list (length world.entries) ≡ Some entry) st.whole
        (behind world.entries entry (of_policy events)) in
        subst (λ list. MayFollow list entry) (begun world _ st.whole)
        (lawful.accepted (length world.entries) entry st.opened there)

    policy_seated : seat < SEATS
    policy_seated = seat_within seat _ (of_seat seat events) (st.seated seat) (dec_le SEATS seat)

    policy_next : version ≡ length world.entries + 1
    policy_next = st.order.0 ∙ ap (λ n. n + 1) st.version

    abbrev After : WorldState
    After = (policy_moment seat entry world).after

    policy_stands : Stands After (rank.Entry version) events
    policy_stands =
        let long : length (world.entries ++ entry ∷ []) ≡ length world.entries + 1 =
        length-append world.entries (entry ∷ []) in
        let opened = st.opened in
        record {
          whole = append_assoc world.entries (entry ∷ []) (of_policy events) ∙ st.whole;
          opened = omega arith;
          left = λ slot. let l = st.left slot in
              record { rest = l.rest; number = l.number; told = l.told; whole = l.whole };
          seen = set_within world.seen seat
              (max (slice_index_or world.seen seat 0) (length (world.entries ++ entry ∷ [])))
              (length (world.entries ++ entry ∷ []))
              (λ at. let low = st.seen at in omega arith) (let low = st.seen seat in omega arith);
          slots = st.slots;
          seated = λ s high. (none_kept (seat == s) _ (of_seat s events) (st.seated s high)).1;
          version = policy_next ∙ sym long;
          order = st.order.2;
        }

  -- ---- a command on a slot comes next

  -- the first entry that is left of its slot, which the receipt tells
  record First (world : WorldState) (r : SlotReceipt) (events : List ToldCall) : Type 0 where
    pub entry : SlotEntry
    pub later : List SlotEntry
    pub place : r.place ≡ length (journal_at world r.slot) + 1
    pub tells : Tells r entry
    pub told : Tell (length (journal_at world r.slot) + 1) (Some r.number) (of_slot r.slot events) later
    pub whole : journal_at world r.slot ++ entry ∷ later ≡ part_at journals r.slot

  first_of : (world : WorldState) (r : SlotReceipt) (events : List ToldCall) (number : Option ℕ) (rest : List SlotEntry)
      → Tell (length (journal_at world r.slot)) number (r ∷ of_slot r.slot events) rest
      → journal_at world r.slot ++ rest ≡ part_at journals r.slot
      → First world r events
  first_of world r events number [] told whole = absurd told
  first_of world r events number (e ∷ later) told whole =
      record { entry = e; later = later; place = told.0; tells = told.1; told = told.3; whole = whole }

  slot_within : (world : WorldState) (r : SlotReceipt) (events : List ToldCall) → First world r events
      → Dec (length journals ≤ r.slot) → r.slot < SLOTS
  slot_within world r events f (yes past) =
      let none : length (journal_at world r.slot ++ f.entry ∷ f.later) ≡ 0 =
      ap length (f.whole ∙ at_past journals r.slot past) in
      let long = length-append (journal_at world r.slot) (f.entry ∷ f.later) in
      absurd (omega arith)
  slot_within world r events f (no inside) = omega arith

  module _ (world : WorldState) (last : Rank) (seat : ℕ) (r : SlotReceipt) (events : List ToldCall)
      (st : Stands world last (Commands seat r ∷ events)) where
    first : First world r events
    first =
        let l = st.left r.slot in
        first_of world r events l.number l.rest (rw (eq-eqb r.slot r.slot refl) at l.told) l.whole

    within : r.slot < SLOTS
    within = slot_within world r events first (dec_le (length journals) r.slot)

    found : StandsAt world.slots r.slot
    found = stands_at world.slots r.slot (let six = st.slots in let low = within in omega arith)

    was : journal_at world r.slot ≡ found.item.journal
    was = ap journal_in found.there

    slot_legal : IsLegalEntry policy r.slot found.item.journal first.entry
    slot_legal =
        let journal : List SlotEntry = found.item.journal in
        let whole : journal ++ first.entry ∷ first.later ≡ part_at journals r.slot =
        ap (λ j. j ++ first.entry ∷ first.later) (sym was) ∙ first.whole in
        let there : slice_get (part_at journals r.slot) (length journal) ≡ Some first.entry =
        subst (λ list. slice_get list (length journal) ≡ Some first.entry) whole
        (behind journal first.entry first.later) in
        let front : take (length journal) (part_at journals r.slot) ≡ journal =
        ap (λ list. take (length journal) list) (sym whole)
        ∙ take_at journal (first.entry ∷ first.later) (length journal) refl in
        subst (λ before. IsLegalEntry policy r.slot before first.entry) front
        (legal r.slot within (length journal) first.entry
        (slice_get_within (part_at journals r.slot) (length journal) first.entry there) there)

    next : IsNext policy seat r first.entry found.item world
    next = record {
      there = found.there;
      inside = within;
      now = st.order.0 ∙ st.version;
      begun = begun world _ st.whole;
      tells = first.tells;
      place = first.place ∙ ap (λ j. length j + 1) was;
      legal = slot_legal;
      seen = st.seen seat;
    }

    slot_seated : seat < SEATS
    slot_seated = seat_within seat _ (of_seat seat events) (st.seated seat) (dec_le SEATS seat)

    abbrev Then : WorldState
    Then = (slot_moment seat r first.entry found.item world next.legal.added.reply).after

    longer : journal_at Then r.slot ≡ journal_at world r.slot ++ first.entry ∷ []
    longer = slot_after policy seat r first.entry found.item world next ∙ ap (λ j. j ++ first.entry ∷ []) (sym was)

    left_here : Left Then events r.slot
    left_here =
        let long : length (journal_at world r.slot) + 1 ≡ length (journal_at Then r.slot) =
        sym (ap length longer ∙ length-append (journal_at world r.slot) (first.entry ∷ [])) in
        record {
          rest = first.later;
          number = Some r.number;
          told = subst (λ n. Tell n (Some r.number) (of_slot r.slot events) first.later) long first.told;
          whole = ap (λ j. j ++ first.later) longer ∙ append_assoc (journal_at world r.slot)
              (first.entry ∷ []) first.later
              ∙ first.whole;
        }

    left_there : (slot : ℕ) → r.slot ≢ slot → Left world (Commands seat r ∷ events) slot → Left Then events slot
    left_there slot apart l =
        let same : journal_at world slot ≡ journal_at Then slot =
        sym (ap journal_in (get_set_other world.slots r.slot slot _ (λ e. apart (sym e)))) in
        record {
          rest = l.rest;
          number = l.number;
          told = subst (λ j. Tell (length j) l.number (of_slot slot events) l.rest) same
              (rw (ne_eqb r.slot slot apart) at l.told);
          whole = ap (λ j. j ++ l.rest) (sym same) ∙ l.whole;
        }

    left_each : (slot : ℕ) → Dec (r.slot ≡ slot) → Left Then events slot
    left_each slot (yes same) = subst (Left Then events) same left_here
    left_each slot (no apart) = left_there slot apart (st.left slot)

    slot_stands : Stands Then (rank.Command r.version r.number r.slot) events
    slot_stands =
        let now = next.now in
        record {
          whole = st.whole;
          opened = st.opened;
          left = λ slot. left_each slot (ℕ_discrete r.slot slot);
          seen = set_within world.seen seat (max (slice_index_or world.seen seat 0) r.version)
              (length world.entries) st.seen
              (let low = st.seen seat in omega arith);
          slots = length-set world.slots r.slot _ ∙ st.slots;
          seated = λ s high. (none_kept (seat == s) _ (of_seat s events) (st.seated s high)).1;
          version = now;
          order = st.order.2;
        }

  -- ---- all of them

  none_left : (world : WorldState) (slot : ℕ) → Left world [] slot → journal_at world slot ≡ part_at journals slot
  none_left world slot l =
      let none : l.rest ≡ [] = no_rest (length (journal_at world slot)) l.number l.rest l.told in
      sym (append-nil (journal_at world slot)) ∙ ap (λ rest. journal_at world slot ++ rest) (sym none) ∙ l.whole

  goes : (events : List ToldCall) (world : WorldState) (last : Rank) → Stands world last events → Goes world events
  goes [] world last st = record {
    moments = [];
    follow = tt;
    calls = tt;
    entries = sym (append-nil world.entries) ∙ st.whole;
    slots = same_journals world.slots journals (st.slots ∙ sym sixteen) (λ slot. none_left world slot (st.left slot));
  }
  goes (Publishes seat version entry ∷ events) world last st =
      let m : Moment = policy_moment seat entry world in
      let seated = policy_seated world last seat version entry events st in
      let next = policy_next world last seat version entry events st in
      let g = goes events m.after (rank.Entry version) (policy_stands world last seat version entry events st) in
      record {
        moments = m ∷ g.moments;
        follow = (refl, policy_step seat entry world (may_follow world last seat version entry events st), g.follow);
        calls = (policy_call seat entry world version seated next, g.calls);
        entries = g.entries;
        slots = g.slots;
      }
  goes (Commands seat r ∷ events) world last st =
      let f = first world last seat r events st in
      let slot = found world last seat r events st in
      let n = next world last seat r events st in
      let m : Moment = slot_moment seat r f.entry slot.item world n.legal.added.reply in
      let g = goes events m.after (rank.Command r.version r.number r.slot) (slot_stands world last seat r events st) in
      record {
        moments = m ∷ g.moments;
        follow = (refl, slot_step policy seat r f.entry slot.item world n, g.follow);
        calls = (slot_call policy seat r f.entry slot.item world n (slot_seated world last seat r events st), g.calls);
        entries = g.entries;
        slots = g.slots;
      }

  -- ---- from the opening on

  opening_left : (events : List ToldCall) → ((slot : ℕ) → Tell 0 None (of_slot slot events) (part_at journals slot))
      → (slot : ℕ)
      → Left opening_world events slot
  opening_left events told slot = record {
    rest = part_at journals slot;
    number = None;
    told = subst (λ (j : List SlotEntry). Tell (length j) None (of_slot slot events) (part_at journals slot))
        (sym (opening_journal slot)) (told slot);
    whole = ap (λ j. j ++ part_at journals slot) (opening_journal slot);
  }

  opening_stands : (seats : List (List Kept)) (events : List ToldCall) → length seats ≤ SEATS
      → HasParts policy journals seats events
      → Stands opening_world (rank.Entry OPENING_ENTRIES) events
  opening_stands seats events few parts =
      let rest : drop OPENING_ENTRIES policy ≡ lawful.opens.rest =
      ap (λ list. drop OPENING_ENTRIES list) (sym lawful.opens.is) in
      record {
        whole = ap (λ later. opening_entries ++ later) (parts.published ∙ rest) ∙ lawful.opens.is;
        opened = omega arith;
        left = opening_left events parts.told;
        seen = λ seat. let none = all_zero (range_with_len 0 SEATS) seat in omega arith;
        slots = refl;
        seated = λ seat high. parts.kept seat ∙ at_past seats seat (omega arith);
        version = refl;
        order = parts.order;
      }

-- so journals and receipts that are the parts of one list are those of one run
pub one_run : (policy : List Entry) (journals : List (List SlotEntry)) (seats : List (List Kept))
    → length journals ≡ SLOTS
    → length seats ≤ SEATS → IsPolicyList policy
    → ((slot : ℕ) → slot < SLOTS → IsLegal policy slot (part_at journals slot))
    → AreOfOneList policy journals seats → AreOfOneRun policy journals seats
one_run policy journals seats sixteen few lawful legal one =
    let events = one.0 in
    let parts = one.1 in
    let g = goes policy journals lawful legal sixteen events opening_world (rank.Entry OPENING_ENTRIES)
    (opening_stands policy journals lawful legal sixteen seats events few parts) in
    record {
      events = events;
      parts = parts;
      run = g.moments;
      ran = record { is = g.follow; calls = g.calls; leaves = record { entries = g.entries; slots = g.slots } };
    }
