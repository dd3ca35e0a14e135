use Rattle.rbac_admin.proofs.rules.check_roles_exist.Goals as goal

pub returns-in-None : goal.returns-in-None
returns-in-None c = c.in-None.ensures
