-- A list of events has one run, want of memory aside.
use Rattle.std.proofs.Common.{◌≡◌, ◌⊎◌, ◌∙◌, ℕ, Bool, true, false, IsTrue, List, [], ◌∷◌, ◌++◌, length, inl, inr, refl}
use Rattle.std.proofs.Common.{sym, ap, subst, ⊎_elim}
use Rattle.std.specs.Prelude.{Option, Some, Result, Ok, Err, MatchResult, map, slice_get, slice_set}
use Rattle.std.proofs.lemmas.Option.{same_Some}
use Rattle.refusal_rules.specs.Rules.{Rules, accept, ◌▸◌}
use Rattle.rbac_policy.specs.declared.commands.AdminCommand.{AdminCommand}
use Rattle.rbac_policy.specs.declared.commands.Entry.{Entry}
use Rattle.rbac_admin.specs.declared.refusal.PolicyRefusal.{PolicyRefusal}
use Rattle.rbac_admin.proofs.OneAnswer.{one_answer}
use Rattle.reactor_core.specs.declared.entry.SlotEntry.{SlotEntry}
use Rattle.reactor_core.proofs.OneMeaning.{OneModule}
use Rattle.access_core.specs.declared.command.SlotCommand.{SlotCommand}
use Rattle.access_core.specs.declared.refusal.Refusal.{Refusal}
use Rattle.access_core.specs.declared.refusal.Refusal.TheVariants.{Policy, Memory}
use Rattle.access_core.specs.declared.reply.Reply.{Reply}
use Rattle.access_core.specs.declared.reply.Reply.TheVariants.{Refused}
use Rattle.access_core.specs.Answering.{IsRefused, ByRules, no_memory}
use Rattle.access_core.specs.Desk.{DeskState, desk_at, AdminStep, DeskStep, InSlot, Appends, list_full, no_slot}
use Rattle.access_core.specs.SlotState.{SlotState}
use Rattle.access_core.specs.SlotStep.{SlotStep, no_session}
use Rattle.history_events.specs.declared.event.Event.{Event}
use Rattle.history_events.specs.declared.event.Event.TheVariants.{Admin, OnSlot}
use Rattle.history_events.specs.OneRun.{events_of, PartForMemory}
use Rattle.history_events.specs.Runs.{WorldState, opening_world, Moment, EventStep, Follow, IsRun, Comes, world_after}
use Rattle.history_events.specs.Runs.{wants_memory, has_seen, desk_of, version_rules, Administered, Judged, EndsIn}
use Rattle.history_events.proofs.Enterings.{step_of}
use Rattle.access_core.proofs.OneSlotStep.{OneLoad, IsWant, Same, one_slot_step}
use Rattle.access_core.proofs.Settling.{AllDefiniteApart, settled_unless, settled_apart, both_answers}

-- desks, and worlds, of the same parts
same_desk : (a b : DeskState) → a.entries ≡ b.entries → a.slots ≡ b.slots → a ≡ b
same_desk a b entries slots =
    ap (λ (es : List Entry). let x : DeskState = record { entries = es; slots = a.slots } in x) entries
    ∙ ap (λ (ss : List SlotState). let x : DeskState = record { entries = b.entries; slots = ss } in x) slots

same_world : (a b : WorldState) → a.entries ≡ b.entries → a.slots ≡ b.slots → a.seen ≡ b.seen → a ≡ b
same_world a b entries slots seen =
    ap (λ (es : List Entry). let x : WorldState = record { entries = es; slots = a.slots; seen = a.seen } in x) entries
    ∙ ap (λ (ss : List SlotState). let x : WorldState = record { entries = b.entries; slots = ss; seen = a.seen } in x)
    slots
    ∙ ap (λ (vs : List ℕ). let x : WorldState = record { entries = b.entries; slots = b.slots; seen = vs } in x) seen

same_moment : (m n : Moment) → m.before ≡ n.before → m.event ≡ n.event → m.reply ≡ n.reply → m.after ≡ n.after → m ≡ n
same_moment m n before event reply after =
    ap (λ (w : WorldState). let x : Moment = record { before = w; event = m.event; reply = m.reply; after = m.after } in
    x) before
    ∙ ap (λ (e : Event). let x : Moment = record { before = n.before; event = e; reply = m.reply; after = m.after } in
    x) event
    ∙ ap (λ (r : Reply). let x : Moment = record { before = n.before; event = n.event; reply = r; after = m.after } in
    x) reply
    ∙ ap (λ (w : WorldState). let x : Moment = record {
      before = n.before;
      event = n.event;
      reply = n.reply;
      after = w;
    } in x) after

module _ (modules : OneModule) (one_load : OneLoad) (r s : Reply) (ample : r ≡ Refused Memory → ⊥)
    (ample_too : s ≡ Refused Memory → ⊥) where
  -- what is answered by settled rules is one, where what follows them is
  by_rules : {S : Type 0} (rules : Rules Refusal) → AllDefiniteApart IsWant rules
      → (Next : S → Reply → S → Type 0) (before a b : S)
      → (Next before r a → Next before s b → Same r s a b) → ByRules rules Next before r a
      → ByRules rules Next before s b → Same r s a b
  by_rules rules settled Next before a b next =
      both_answers rules settled (λ refusal. IsRefused refusal before r a) (λ refusal. IsRefused refusal before s b)
      (Next before r a) (Next before s b)
      (λ refusal h want. ample (h.replied ∙ ap Refused want))
      (λ refusal h want. ample_too (h.replied ∙ ap Refused want))
      (λ refusal x y. (x.replied ∙ sym y.replied, x.stays ∙ sym y.stays)) next

  -- a slot's answer
  in_slot : (number session : ℕ) (command : SlotCommand) (before a b : DeskState)
      → InSlot number session command before r a
      → InSlot number session command before s b → Same r s a b
  in_slot number session command before a b x y =
      let slot : x.slot ≡ y.slot = same_Some x.slot y.slot (sym x.there ∙ y.there) in
      let other : SlotStep before.entries number session command x.slot.journal s y.journal =
      subst (λ (v : SlotState). SlotStep before.entries number session command v.journal s y.journal)
      (sym slot) y.step in
      let both = one_slot_step modules one_load before.entries number session x.slot.journal r s ample ample_too
      x.journal y.journal command x.step other in
      let stored : SlotState → List SlotEntry → DeskState =
      λ v journal. record before { slots = slice_set before.slots number (record v { journal = journal }) } in
      (both.0, x.stored ∙ ap (λ v. stored v x.journal) slot ∙ ap (stored y.slot) both.1 ∙ sym y.stored)

  -- a desk's answer to a command on a slot
  desk_step : (number session : ℕ) (command : SlotCommand) (before a b : DeskState)
      → DeskStep number session command before r a
      → DeskStep number session command before s b → Same r s a b
  desk_step number session command before a b =
      by_rules (no_session before.entries session ▸ no_slot number ▸ accept)
      (settled_unless, (settled_unless, record {}))
      (InSlot number session command) before a b (in_slot number session command before a b)

  -- a desk's answer to a policy command
  admin_step : (session : Option ℕ) (command : AdminCommand) (before a b : DeskState)
      → AdminStep session command before r a
      → AdminStep session command before s b → Same r s a b
  admin_step session command before a b x y = by_answer x.answer x.replied other where
    Replied : Reply → DeskState → Result Entry PolicyRefusal → Type 0
    Replied reply after answer =
        MatchResult answer
        (λ entry. ByRules (list_full before.entries entry ▸ no_memory ▸ accept) (Appends entry) before reply after)
        (λ refusal. IsRefused (Policy refusal) before reply after)

    other : Replied s b x.answer
    other = subst (Replied s b) (one_answer before.entries session command y.answer x.answer y.given x.given) y.replied

    by_answer : (answer : Result Entry PolicyRefusal) → Replied r a answer → Replied s b answer → Same r s a b
    by_answer (Ok entry) h k =
        by_rules (list_full before.entries entry ▸ no_memory ▸ accept) (settled_unless, (settled_apart, record {}))
        (Appends entry) before a b
        (λ p q. (p.replied ∙ sym q.replied, p.appended ∙ sym q.appended)) h k
    by_answer (Err refusal) h k = (h.replied ∙ sym k.replied, h.stays ∙ sym k.stays)

  administered : (seat : ℕ) (session : Option ℕ) (command : AdminCommand) (before a b : WorldState)
      → Administered seat session command before r a → Administered seat session command before s b → Same r s a b
  administered seat session command before a b x y =
      let both = admin_step session command (desk_of before) (desk_of a) (desk_of b) x.step y.step in
      let entries : a.entries ≡ b.entries = ap (λ (d : DeskState). d.entries) both.1 in
      let slots : a.slots ≡ b.slots = ap (λ (d : DeskState). d.slots) both.1 in
      let seen : a.seen ≡ b.seen = x.seen ∙ ap (λ (es : List Entry). has_seen seat (length es) before.seen) entries
      ∙ sym y.seen in
      (both.0, same_world a b entries slots seen)

  judged : (seat version slot session : ℕ) (command : SlotCommand) (before a b : WorldState)
      → Judged seat version slot session command before r a → Judged seat version slot session command before s b
      → Same r s a b
  judged seat version slot session command before a b x y =
      let both = desk_step slot session command (desk_at version (desk_of before)) (desk_at version (desk_of a))
      (desk_at version (desk_of b)) x.step y.step in
      let slots : a.slots ≡ b.slots = ap (λ (d : DeskState). d.slots) both.1 in
      (both.0, same_world a b (x.entries ∙ sym y.entries) slots (x.seen ∙ sym y.seen))

  -- an event has one reply, and leaves one world
  one_step : (event : Event) (before a b : WorldState) → EventStep event before r a → EventStep event before s b
      → Same r s a b
  one_step (Admin seat session command) before a b = administered seat session command before a b
  one_step (OnSlot seat version slot session command) before a b =
      by_rules (version_rules before seat version slot) (settled_unless, (settled_unless, record {}))
      (Judged seat version slot session command) before a b (judged seat version slot session command before a b)

-- a moment stands in the world that the moments before it leave
comes_after : (world : WorldState) (past later : List Moment) (m : Moment) → Follow world (past ++ m ∷ later)
    → m.before ≡ world_after world past
comes_after world [] later m h = h.0
comes_after world (x ∷ past) later m h = comes_after x.after past later m h.2

module _ (modules : OneModule) (one_load : OneLoad) where
  -- the same event, in the same world
  same_next : (m n : Moment) → m.before ≡ n.before → m.event ≡ n.event
      → EventStep m.event m.before m.reply m.after → EventStep n.event n.before n.reply n.after
      → (m.reply ≡ Refused Memory → ⊥) → (n.reply ≡ Refused Memory → ⊥) → m ≡ n
  same_next m n before event x y ample ample_too =
      let other : EventStep m.event m.before n.reply n.after =
      subst (λ e. EventStep e m.before n.reply n.after) (sym event)
      (subst (λ w. EventStep n.event w n.reply n.after) (sym before) y) in
      let both = one_step modules one_load m.reply n.reply ample ample_too m.event m.before m.after n.after x other in
      same_moment m n before event both.0 both.1

  pub one_moment : (past : List Moment) (m n : Moment) → Comes past m → Comes past n → m.event ≡ n.event
      → (m.reply ≡ Refused Memory → ⊥) → (n.reply ≡ Refused Memory → ⊥) → m ≡ n
  one_moment past m n x y event =
      same_next m n
      (comes_after opening_world past x.later m x.run ∙ sym (comes_after opening_world past y.later n y.run))
      event (step_of past m x) (step_of past n y)

  -- a reply that wants no memory is no refusal of it
  not_wanting : (reply : Reply) → wants_memory reply ≡ false → reply ≡ Refused Memory → ⊥
  not_wanting reply ample is = let no : true ≡ false = sym (ap wants_memory is) ∙ ample in absurd cc

  follow_alike : (world : WorldState) (run other : List Moment) → Follow world run → Follow world other
      → events_of run ≡ events_of other
      → (run ≡ other) ⊎ PartForMemory run other
  follow_alike world [] [] x y e = inl refl
  follow_alike world [] (n ∷ rest) x y e = absurd cc
  follow_alike world (m ∷ later) [] x y e = absurd cc
  follow_alike world (m ∷ later) (n ∷ rest) x y e =
      by_memory (follow_alike m.after later rest x.2) (wants_memory m.reply) (wants_memory n.reply) refl refl where
        event : m.event ≡ n.event
        event = cc

        tails : events_of later ≡ events_of rest
        tails = cc

        parts : IsTrue (wants_memory m.reply) ⊎ IsTrue (wants_memory n.reply) → PartForMemory (m ∷ later) (n ∷ rest)
        parts refused =
            record { past = []; m = m; n = n; later = later; rest = rest; one = refl; two = refl; refused = refused }

        more : m ≡ n → (later ≡ rest) ⊎ PartForMemory later rest
            → ((m ∷ later) ≡ (n ∷ rest)) ⊎ PartForMemory (m ∷ later) (n ∷ rest)
        more same (inl tail) = inl (ap (λ (x : Moment). x ∷ later) same ∙ ap (λ (xs : List Moment). n ∷ xs) tail)
        more same (inr p) = inr (record {
          past = m ∷ p.past;
          m = p.m;
          n = p.n;
          later = p.later;
          rest = p.rest;
          one = ap (λ (xs : List Moment). m ∷ xs) p.one;
          two = ap (λ (xs : List Moment). n ∷ xs) p.two ∙ ap (λ (x : Moment). x ∷ p.past ++ p.n ∷ p.rest) (sym same);
          refused = p.refused;
        })

        by_memory : (Follow m.after rest → events_of later ≡ events_of rest → (later ≡ rest) ⊎ PartForMemory later rest)
            → (a b : Bool) → wants_memory m.reply ≡ a → wants_memory n.reply ≡ b
            → ((m ∷ later) ≡ (n ∷ rest)) ⊎ PartForMemory (m ∷ later) (n ∷ rest)
        by_memory alike true b here there = inr (parts (inl here))
        by_memory alike false true here there = inr (parts (inr there))
        by_memory alike false false here there =
            let same : m ≡ n = same_next m n (x.0 ∙ sym y.0) event x.1 y.1 (not_wanting m.reply here)
            (not_wanting n.reply there) in
            let follows : Follow m.after rest = subst (λ (w : Moment). Follow w.after rest) (sym same) y.2 in
            more same (alike follows tails)

  pub one_run : (run other : List Moment) → IsRun run → IsRun other → events_of run ≡ events_of other
      → (run ≡ other) ⊎ PartForMemory run other
  one_run = follow_alike opening_world

  -- memory is refused at no moment whose replies are these
  reply_there : (past later : List Moment) (m : Moment) → slice_get (map (λ (x : Moment). x.reply) (past ++ m ∷ later))
      (length past) ≡ Some m.reply
  reply_there [] later m = refl
  reply_there (x ∷ past) later m = reply_there past later m

  no_want : (events : List Event) (replies : List Reply) (world : WorldState) (h : EndsIn events replies world)
      (past later : List Moment) (m : Moment)
      → h.moments ≡ past ++ m ∷ later → IsTrue (wants_memory m.reply) → ⊥
  no_want events replies world h past later m is wants =
      let there : slice_get replies (length past) ≡ Some m.reply =
      ap (λ (rs : List Reply). slice_get rs (length past)) (sym h.answered)
      ∙ ap (λ (ms : List Moment). slice_get (map (λ (x : Moment). x.reply) ms) (length past)) is
      ∙ reply_there past later m in
      let none : wants_memory m.reply ≡ false = h.ample (length past) m.reply there in
      absurd cc

  pub one_end : (events : List Event) (replies others : List Reply) (world last : WorldState)
      → EndsIn events replies world → EndsIn events others last
      → (replies ≡ others) × (world ≡ last)
  one_end events replies others world last x y = by_run (one_run x.moments y.moments x.run y.run (x.are ∙ sym y.are))
    where
      by_run : (x.moments ≡ y.moments) ⊎ PartForMemory x.moments y.moments → (replies ≡ others) × (world ≡ last)
      by_run (inl same) = (
        sym x.answered ∙ ap (map (λ (m : Moment). m.reply)) same ∙ y.answered,
        sym x.ends ∙ ap (world_after opening_world) same ∙ y.ends,
      )
      by_run (inr p) =
          absurd (⊎_elim (no_want events replies world x p.past p.later p.m p.one)
          (no_want events others last y p.past p.rest p.n p.two) p.refused)
