use Rattle.std.proofs.Common.{rules, ◌≡◌, ◌∙◌, sym, map, ◌<◌, length, [], slice_index_or}
use Rattle.std.proofs.lemmas.List.{ext_get_or, get_or-map, length-map}
use Rattle.rbac_policy.specs.declared.objects.TheConstants.{SLOTS}
use Rattle.access_core.specs.SlotState.{SlotState}
use Rattle.access_core.specs.Desk.{empty_slot}
use Rattle.access_core.proofs.single.Single.into_journals.Goals as goal

pub returns-clause-slots : goal.returns-clause-slots
returns-clause-slots c =
    let sixteen : length c.args.self.slots ≡ SLOTS = search rules in
    ext_get_or [] c.map.result (map (λ (s : SlotState). s.journal) c.args.self.slots)
    (c.map.ensures.items.long ∙ sym (length-map c.args.self.slots (λ (s : SlotState). s.journal) ∙ sixteen))
    (λ i below.
    let under : i < SLOTS = rw (← c.map.ensures.items.long) below in
    let told : slice_index_or c.map.result i [] ≡ (slice_index_or c.args.self.slots i (empty_slot 0)).journal
    = search (rules, c.map.ensures.items.at i (empty_slot 0) [] under) in
    told ∙ sym (get_or-map (λ (s : SlotState). s.journal) c.args.self.slots i (empty_slot 0) [] (rw sixteen under)))
