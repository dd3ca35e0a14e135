use Rattle.std.proofs.Common.{◌≡◌, [], length, arith}
use Rattle.lab_claims.proofs.ClaimLemmas.{claims_next, first_bad, one_longer}
use Rattle.lab_claims.proofs.claims.read_claims.Goals as goal

pub returns-in-Err-clause-fault : goal.returns-in-Err-clause-fault
returns-in-Err-clause-fault c =
    let count : c.len-number.result ≡ length c.loop-claim.tests.items =
    let e = c.len-number.ensures in let o = c.loop-claim.tests.ok.0 in omega arith in
    first_bad c.args.interface.now c.args.claims.now c.loop-claim.claim-index (record { ref_ptr = (0, 0); now = [] })
    c.loop-claim.tests.items _ c.loop-claim-test.true c.loop-claim.invariant.count c.loop-claim.invariant.read
    (omega arith) c.in-Err.ensures.fault

pub loop-claim-preserved : goal.loop-claim-preserved
loop-claim-preserved c = record {
  read = claims_next c.args.interface.now c.args.claims.now c.loop-claim.claim-index
      (record { ref_ptr = (0, 0); now = [] }) c.loop-claim.tests.items _ c.in-Ok.test c.loop-claim-test.true
      c.in_ok-push-in-Ok.ensures.items c.loop-claim.invariant.read c.in-Ok.ensures.read;
  count = one_longer c.loop-claim.tests.items _ c.in-Ok.test c.loop-claim.claim-index
      c.in_ok-push-in-Ok.ensures.items c.loop-claim.invariant.count;
}
