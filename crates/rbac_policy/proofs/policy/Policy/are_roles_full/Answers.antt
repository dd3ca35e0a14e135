use Rattle.std.proofs.Common.{◌∙◌, ap, sym}
use Rattle.std.specs.Prelude.{is_some}
use Rattle.rbac_policy.specs.Names.{NameText}
use Rattle.rbac_policy.specs.declared.sizes.TheConstants.{ROLES}
use Rattle.rbac_policy.specs.Facts.{IsRole}
use Rattle.rbac_policy.proofs.OfSlots.Room.{keeps_roles}
use Rattle.rbac_policy.proofs.OfReaders.Reading.{full_test}
use Rattle.rbac_policy.proofs.policy.Policy.are_roles_full.Goals as goal

pub returns : goal.returns
returns c = λ L st.
    let p = c.args.self.now in
    full_test (λ (x : NameText). x) p.roles (IsRole L) ROLES c.is_none.result
    (keeps_roles p.roles p.juniors L st.roles) st.roles.places (sym (ap is_some c.free.ensures) ∙ c.is_none.ensures)
