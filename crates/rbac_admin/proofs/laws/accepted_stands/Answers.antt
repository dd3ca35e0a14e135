use Rattle.rbac_admin.proofs.Fitting.{accepted_stands}
use Rattle.rbac_admin.proofs.laws.accepted_stands.Goals as goal

pub returns : goal.returns
returns c = λ p L session command e st few h. accepted_stands p L st session command e few h
