use Rattle.std.proofs.Common.{◌∙◌, ap, sym}
use Rattle.std.specs.Prelude.{is_some}
use Rattle.rbac_policy.specs.declared.sizes.TheConstants.{GRANTS}
use Rattle.rbac_policy.specs.Facts.{IsPairGranted}
use Rattle.rbac_policy.proofs.OfSlots.Room.{keeps_grants, pair_of}
use Rattle.rbac_policy.proofs.OfReaders.Reading.{full_test}
use Rattle.rbac_policy.proofs.policy.Policy.are_permissions_full.Goals as goal

pub returns : goal.returns
returns c = λ L st.
    let p = c.args.self.now in
    full_test pair_of p.grants (λ pair. IsPairGranted L pair.0 pair.1) GRANTS c.is_none.result
    (keeps_grants p.roles p.grants L st.grants) st.grants.places (sym (ap is_some c.free.ensures) ∙ c.is_none.ensures)
