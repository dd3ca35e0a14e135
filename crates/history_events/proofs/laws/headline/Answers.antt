use Rattle.std.proofs.Common.{take}
use Rattle.history_events.proofs.laws.headline.Goals as goal

pub returns-clause-entry : goal.returns-clause-entry
returns-clause-entry c = λ events run is same n m there.
    let comes = c.moments_come_in_order.ensures run is n m there in
    record {
      enters = c.signals_enter_where_offered.ensures (take n run) m comes;
      offers = c.offers_are_accepted_where_allowed.ensures (take n run) m comes;
      steps = c.steps_are_accepted_where_allowed.ensures (take n run) m comes;
    }

pub returns-clause-display : goal.returns-clause-display
returns-clause-display c = λ events run is same n m there.
    let comes = c.moments_come_in_order.ensures run is n m there in
    record {
      there = c.looks_show_the_reaction.ensures.there (take n run) m comes;
      shows = c.looks_show_the_reaction.ensures.shown (take n run) m comes;
    }

pub returns-clause-change : goal.returns-clause-change
returns-clause-change c = λ events run is same n m there.
    c.changes_only_what_is_allowed.ensures (take n run) m (c.moments_come_in_order.ensures run is n m there)

pub returns-clause-denial : goal.returns-clause-denial
returns-clause-denial c = λ events run is same n m there.
    c.denials_name_the_first_reason.ensures (take n run) m (c.moments_come_in_order.ensures run is n m there)
