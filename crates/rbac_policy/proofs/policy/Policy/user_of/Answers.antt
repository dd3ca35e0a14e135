use Rattle.std.proofs.Common.{sym, ◌∙◌}
use Rattle.rbac_policy.proofs.OfReaders.ReadingRoles.{live_user, no_live}
use Rattle.rbac_policy.proofs.policy.Policy.user_of.Goals as goal

pub returns-in-Some : goal.returns-in-Some
returns-in-Some c = λ L st. live_user c.args.self.now L st c.args.session c.in-Some.found
    (sym c.session_of.ensures ∙ c.in-Some.is)

pub returns-in-None : goal.returns-in-None
returns-in-None c = λ L st. no_live c.args.self.now L st c.args.session (sym c.session_of.ensures ∙ c.in-None.is)
