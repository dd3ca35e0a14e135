use Rattle.std.proofs.Common.{ap, refl}
use Rattle.est_meaning.specs.MustCan.{Acts}
use Rattle.est_meaning.specs.States.{state_term}
use Rattle.est_meaning.specs.Views.{env_of}
use Rattle.est_rounds.proofs.Known.{next_known_is}
use Rattle.est_rounds.proofs.rounds.next_known.Goals as goal

pub returns : goal.returns
returns c =
    next_known_is c.args.judged (state_term c.args.kernel.now.root c.args.state.now) (env_of c.args.env.now)
    c.judge-acts.result.must.signals c.judge-acts.result.can.signals c.args.env.now.present c.args.env.now.possible _ _
    refl (ap (λ (a : Acts). a.signals) c.judge-acts.ensures.must)
    (ap (λ (a : Acts). a.signals) c.judge-acts.ensures.can)
    c.judged_again.ensures c.judged_again-2.ensures
