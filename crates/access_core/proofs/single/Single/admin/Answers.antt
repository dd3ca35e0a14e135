use Rattle.rbac_admin.proofs.Accepted.{accepted_again}
use Rattle.access_core.proofs.single.Single.admin.Goals as goal

pub append-requires : goal.append-requires
append-requires c =
    rw (← c.self.view_is) (accepted_again c.self.inside.entries c.args.session c.args.command c.in-Ok.entry
    (c.in-Ok.ensures c.self.inside.entries c.self.invariant.0))
