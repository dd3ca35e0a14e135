-- The sixteen slots of a desk.
use Rattle.std.proofs.Common.{◌≡◌, ◌∙◌, ℕ, ◌<◌, List, length, map, get_or, set, refl, sym, ap, subst, arith, ⊎_elim}
use Rattle.std.proofs.Common.{get_or-set_same, get_or-set_other}
use Rattle.std.specs.List.{range_with_len}
use Rattle.std.proofs.Math.ListN.{length-set}
use Rattle.std.proofs.lemmas.Bool.{cases_eq}
use Rattle.std.proofs.lemmas.List.FromFn.{get_or-map-range_with_len}
use Rattle.std.proofs.lemmas.Option.{get_or_from_slice_get, slice_get_within, slice_get-get_or}
use Rattle.refusal_rules.proofs.RuleLemmas.{pass}
use Rattle.rbac_policy.specs.declared.commands.Entry.{Entry}
use Rattle.rbac_policy.specs.Facts.{IsLive}
use Rattle.access_core.specs.declared.command.SlotCommand.{SlotCommand}
use Rattle.access_core.specs.declared.reply.Reply.{Reply}
use Rattle.access_core.specs.SlotState.{SlotState}
use Rattle.access_core.specs.SlotStep.{SlotStep}
use Rattle.access_core.specs.Desk.{DeskState, AreSlots, empty_slot, opening_desk, DeskStep}

-- the empty slots stand at their numbers
pub opening_slots : AreSlots opening_desk.slots
opening_slots = record {
  sixteen = refl;
  numbered = λ number slot there.
      let within : number < 16 = slice_get_within (map empty_slot (range_with_len 0 16)) number slot there in
      let same : slot ≡ empty_slot number =
      sym (get_or_from_slice_get (map empty_slot (range_with_len 0 16)) number slot slot there)
      ∙ get_or-map-range_with_len empty_slot 0 16 number number slot within (omega arith) in
      ap (λ (s : SlotState). s.number) same;
}

-- the slot that is read at a number has this number
pub number_at : (slots : List SlotState) (number : ℕ) (d : SlotState) → AreSlots slots → number < 16
    → (get_or slots number d).number ≡ number
number_at slots number d are below =
    let sixteen : length slots ≡ 16 = are.sixteen in
    are.numbered number (get_or slots number d) (slice_get-get_or slots number d (omega arith))

-- another slot of this number in its place
pub slots_with : (slots : List SlotState) (number : ℕ) (new : SlotState) → AreSlots slots → number < 16
    → new.number ≡ number
    → AreSlots (set slots number new)
slots_with slots number new are below same = record {
  sixteen = length-set slots number new ∙ are.sixteen;
  numbered = λ place slot there.
      let sixteen : length slots ≡ 16 = are.sixteen in
      let long : length (set slots number new) ≡ 16 = length-set slots number new ∙ sixteen in
      let within : place < length (set slots number new) = slice_get_within (set slots number new) place slot there in
      let read : get_or (set slots number new) place slot ≡ slot =
      get_or_from_slice_get (set slots number new) place slot slot there in
      ⊎_elim
      (λ (e : place ≡ number).
      let at : get_or (set slots number new) number slot ≡ new = get_or-set_same slots number new slot (omega arith) in
      let is : slot ≡ new = sym read ∙ (ap (λ p. get_or (set slots number new) p slot) e ∙ at) in
      ap (λ (s : SlotState). s.number) is ∙ (same ∙ sym e))
      (λ (apart : place ≡ number → ⊥).
      let other : get_or (set slots number new) place slot ≡ get_or slots place slot =
      get_or-set_other slots number place new slot apart in
      ap (λ (s : SlotState). s.number) (sym read ∙ other) ∙ number_at slots place slot are (omega arith))
      (cases_eq place number);
}

-- the step of a desk whose slot of this number answers
pub desk_step : (entries : List Entry) (slots : List SlotState) (number session : ℕ) (command : SlotCommand)
    (d new : SlotState) (reply : Reply)
    → AreSlots slots → number < 16 → IsLive entries session → new.number ≡ (get_or slots number d).number
    → SlotStep entries (get_or slots number d).number session command (get_or slots number d).journal reply new.journal
    → let before : DeskState = record { entries = entries; slots = slots } in
    let after : DeskState = record { entries = entries; slots = set slots number new } in
    DeskStep number session command before reply after
desk_step entries slots number session command d new reply are below live same step =
    let sixteen : length slots ≡ 16 = are.sixteen in
    let here : (get_or slots number d).number ≡ number = number_at slots number d are below in
    let journal_step : SlotStep entries number session command (get_or slots number d).journal reply new.journal =
    subst (λ n. SlotStep entries n session command (get_or slots number d).journal reply new.journal) here step in
    let whole : new ≡ record (get_or slots number d) { journal = new.journal } =
    ap (λ n. let s : SlotState = record { number = n; journal = new.journal } in s) same in
    pass live (pass below (record {
      slot = get_or slots number d;
      there = slice_get-get_or slots number d (omega arith);
      journal = new.journal;
      step = journal_step;
      stored = ap (λ s. let desk : DeskState = record { entries = entries; slots = set slots number s } in desk) whole;
    }))
