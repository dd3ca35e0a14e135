use Rattle.std.proofs.Common.{rules}
use Rattle.est_explore.specs.declared.claim.Claim.TheVariants.{Always}
use Rattle.lab_lines.proofs.ToldLemmas.{told_next}
use Rattle.lab_lines.proofs.exploring.verdicts_on.Goals as goal

pub loop-test-preserved : goal.loop-test-preserved
loop-test-preserved g c = told_next _ _ _ c.args.tests.now c.loop-test.test-index c.test-item.result
    c.loop-test.verdicts.items _ c.in_ok-told.told c.loop-test-test.true c.test-item.is c.in_ok-push.ensures.items
    c.loop-test.invariant
    (record {
      claim = Always c.test.result;
      always = c.test.ensures;
      told = record {
        verdict = c.in_ok-given.given;
        right = c.in_ok-given.ensures _ _ c.requires.ended;
        said = search rules;
      };
    })
