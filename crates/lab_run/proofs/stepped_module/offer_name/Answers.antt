use Rattle.std.proofs.Common.{◌∙◌, List, ℕ, inl, subst, sym}
use Rattle.est_relations.specs.Offers.{OfferAnswer}
use Rattle.lab_run.proofs.Walks.{given_name}
use Rattle.lab_run.proofs.stepped_module.offer_name.Goals as goal

pub returns-in-Some : goal.returns-in-Some
returns-in-Some c =
    let same = given_name _ c.args.name.now c.in-Some.name (sym c.from_text.ensures ∙ c.in-Some.is) in
    inl (subst (λ (z : List ℕ). OfferAnswer c.args.pending.now z c.offer.result c.offer.new.self) (sym same)
    c.offer.ensures)
