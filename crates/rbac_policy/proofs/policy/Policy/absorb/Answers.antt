use Rattle.std.proofs.Common.{◌++◌, ◌∷◌, [], sym, subst}
use Rattle.rbac_policy.specs.declared.policy.Policy.{Policy}
use Rattle.rbac_policy.specs.StandsFor.{StandsFor}
use Rattle.rbac_policy.proofs.Absorbing.{stands_after}
use Rattle.rbac_policy.proofs.policy.Policy.absorb.Goals as goal

pub returns-clause-stands : goal.returns-clause-stands
returns-clause-stands c = λ L st fits.
    subst (λ (p : Policy). StandsFor p (L ++ c.args.entry.now ∷ [])) (sym c.absorb_into_tables.ensures)
    (stands_after c.args.self.now L c.args.entry.now st fits)
