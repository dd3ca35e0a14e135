use Rattle.std.proofs.Common.{sym, ◌∙◌}
use Rattle.rbac_policy.proofs.OfReaders.ReadingSets.{first_row, no_row, no_row_of}
use Rattle.rbac_policy.proofs.policy.Policy.first_set_of.Goals as goal

pub returns-in-Some-first_set_with : goal.returns-in-Some-first_set_with
returns-in-Some-first_set_with c = λ L st.
    first_row c.args.self.now L st c.args.role.now c.in-Some.place
    (sym c.place_of.ensures.place ∙ c.in-Some.is) c.in-Some-first_set_with.row
    (sym c.first_set_with.ensures ∙ c.in-Some-first_set_with.is)

pub returns-in-None-first_set_with : goal.returns-in-None-first_set_with
returns-in-None-first_set_with c = λ L st.
    no_row c.args.self.now L st c.args.role.now c.in-Some.place (sym c.place_of.ensures.place ∙ c.in-Some.is)
    (sym c.first_set_with.ensures ∙ c.in-None-first_set_with.is)

pub returns-in-None : goal.returns-in-None
returns-in-None c = λ L st. no_row_of c.args.self.now L st c.args.role.now (sym c.place_of.ensures.place ∙ c.in-None.is)
