use Rattle.std.proofs.Common.{◌∙◌, sym}
use Rattle.lab_instant.proofs.Steps.{none_found}
use Rattle.lab_instant.proofs.reading.all_seen.Goals as goal

pub add_all-requires-clause-before : goal.add_all-requires-clause-before
add_all-requires-clause-before c =
    record {
      began = c.in_ok-began.ensures.items ∙ sym (none_found _);
      went_on = c.in_ok-went_on.ensures.items ∙ sym (none_found _);
    }
