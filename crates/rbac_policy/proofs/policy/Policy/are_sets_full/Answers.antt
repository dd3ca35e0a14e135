use Rattle.std.proofs.Common.{◌∙◌, ap, sym}
use Rattle.std.specs.Prelude.{is_some}
use Rattle.rbac_policy.specs.declared.rows.DsdSet.{DsdSet}
use Rattle.rbac_policy.specs.declared.sizes.TheConstants.{SETS}
use Rattle.rbac_policy.specs.Facts.{IsSetName}
use Rattle.rbac_policy.proofs.OfSlots.Room.{keeps_sets}
use Rattle.rbac_policy.proofs.OfReaders.Reading.{full_test}
use Rattle.rbac_policy.proofs.policy.Policy.are_sets_full.Goals as goal

pub returns : goal.returns
returns c = λ L st.
    let p = c.args.self.now in
    full_test (λ (x : DsdSet). x.name) p.sets (IsSetName L) SETS c.is_none.result
    (keeps_sets p.roles p.sets L st.sets) st.sets.places (sym (ap is_some c.free.ensures) ∙ c.is_none.ensures)
