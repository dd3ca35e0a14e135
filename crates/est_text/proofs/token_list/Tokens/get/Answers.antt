use Rattle.std.proofs.Common.{◌∙◌, List, ap}
use Rattle.std.specs.Prelude.{slice_get}
use Rattle.est_text.specs.declared.token.Located.{Located}
use Rattle.est_text.proofs.Spans.{token_if_there}
use Rattle.est_text.proofs.token_list.Tokens.get.Goals as goal

pub returns-clause-stands : goal.returns-clause-stands
returns-clause-stands c =
    let same = c.at.ensures ∙ ap (λ (ts : List Located). slice_get ts c.args.index) c.as_slice.ensures.value in
    token_if_there c.args.self.now.source c.args.self.now.located c.args.index c.at.result
    (rw (← c.self.view_is) c.self.invariant.cut) (rw (← c.self.view_is) same)
