use Rattle.std.proofs.Common.{◌≡◌, take, map, length}
use Rattle.lab_lines.specs.Tests.{test_of}
use Rattle.lab_claims.specs.Claims.{AreClaimTexts}
use Rattle.lab_claims.proofs.claims.read_claims.Given as goal

abbrev pub invariant-loop-claim : goal.invariant-loop-claim
invariant-loop-claim l = record {
  read : AreClaimTexts l.interface (map (λ t. t.now) (take l.claim-index l.claims)) (map test_of l.tests.items);
  count : length l.tests.items ≡ l.claim-index;
}
