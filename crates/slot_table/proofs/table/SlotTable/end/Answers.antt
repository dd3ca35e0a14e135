use Rattle.slot_table.specs.Inner.Ending.{all_ended}
use Rattle.slot_table.proofs.Ending.{◌▹◌}
use Rattle.slot_table.proofs.table.SlotTable.end.Goals as goal

pub returns : goal.returns
returns g c =
    c.end.ensures ▹ c.end-2.ensures ▹ c.end-3.ensures ▹ c.end-4.ensures ▹ c.end-5.ensures ▹ c.end-6.ensures
    ▹ c.end-7.ensures ▹ c.end-8.ensures ▹ c.end-9.ensures ▹ c.end-10.ensures ▹ c.end-11.ensures
    ▹ c.end-12.ensures ▹ c.end-13.ensures ▹ c.end-14.ensures ▹ c.end-15.ensures ▹ c.end-16.ensures ▹ all_ended
