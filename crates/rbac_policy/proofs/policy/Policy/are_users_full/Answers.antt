use Rattle.std.proofs.Common.{◌∙◌, ap, sym}
use Rattle.std.specs.Prelude.{is_some}
use Rattle.rbac_policy.specs.declared.rows.User.{User}
use Rattle.rbac_policy.specs.declared.sizes.TheConstants.{USERS}
use Rattle.rbac_policy.specs.Facts.{IsUser}
use Rattle.rbac_policy.proofs.OfSlots.Room.{keeps_users}
use Rattle.rbac_policy.proofs.OfReaders.Reading.{full_test}
use Rattle.rbac_policy.proofs.policy.Policy.are_users_full.Goals as goal

pub returns : goal.returns
returns c = λ L st.
    let p = c.args.self.now in
    full_test (λ (x : User). x.name) p.users (IsUser L) USERS c.is_none.result
    (keeps_users p.roles p.users L st.users) st.users.places (sym (ap is_some c.free.ensures) ∙ c.is_none.ensures)
