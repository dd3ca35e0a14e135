use Rattle.std.proofs.Common.{inl, inr, refl, rules}
use Rattle.slot_table.proofs.table.refuse_number.Goals as goal

pub returns-in-Ok-false : goal.returns-in-Ok-false
returns-in-Ok-false g c =
    let asked = c.in-Ok-false.ensures in
    inl (record {
      none = c.requires;
      list = asked.list;
      read = asked.read;
      answered =
          inr (refl, λ lives. let yes = asked.answered.1 lives in search (rules, yes, c.in-Ok-false.field-0-test));
    })
