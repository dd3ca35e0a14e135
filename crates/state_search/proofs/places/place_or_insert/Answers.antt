use Rattle.std.proofs.Common.{◌≡◌, ◌∙◌, nat_eq, rules}
use Rattle.std.specs.HashMap.{get}
use Rattle.state_search.proofs.PlaceLemmas.{one_more_place}
use Rattle.state_search.proofs.places.place_or_insert.Goals as goal

pub returns-clause-places : goal.returns-clause-places
returns-clause-places g c =
    let had : c.copied-last.result ≡ get nat_eq c.args.places.now.last c.number_of-number.result = search rules in
    rw c.in_ok-push-2.ensures.items (one_more_place _ _ _ _ c.args.node _ _ _
    (c.len-place.ensures ∙ c.args.nodes.now.ok.0) c.number_of-number.ensures had c.in_ok-insert.ensures.updates.0
    c.in_ok-push.ensures.items c.requires)
