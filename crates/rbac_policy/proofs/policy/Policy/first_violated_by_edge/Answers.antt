use Rattle.std.proofs.Common.{◌∙◌, sym}
use Rattle.rbac_policy.proofs.Asking.{no_role}
use Rattle.rbac_policy.proofs.OfSeparation.Prospects.{after_edge}
use Rattle.rbac_policy.proofs.policy.Policy.first_violated_by_edge.Goals as goal

pub returns-in-Some-place_of : goal.returns-in-Some-place_of
returns-in-Some-place_of c = λ L by st is_senior is_junior.
    after_edge c.args.self.now L st by c.args.senior.now c.args.junior.now c.in-Some.above c.in-Some-place_of.place
    (sym c.place_of.ensures.place ∙ c.in-Some.is) (sym c.place_of-in-Some.ensures.place ∙ c.in-Some-place_of.is)
    c.with_edge-juniors.result c.with_edge-juniors.ensures c.first_violation.result c.first_violation.ensures

pub returns-in-None-place_of : goal.returns-in-None-place_of
returns-in-None-place_of c = λ L by st is_senior is_junior.
    absurd (no_role c.args.self.now L st c.args.junior.now
    (sym c.place_of-in-Some.ensures.place ∙ c.in-None-place_of.is) is_junior)

pub returns-in-None : goal.returns-in-None
returns-in-None c = λ L by st is_senior is_junior.
    absurd (no_role c.args.self.now L st c.args.senior.now (sym c.place_of.ensures.place ∙ c.in-None.is) is_senior)
